-- Sheets and their packets, in ASCII codes: the line that document 02 and source document 001 print, and the edges of the form.
use Rattle.std.specs.Prelude.{ℕ, List, [], ◌∷◌, ◌++◌}
use Rattle.wire.specs.declared.refusal.Refusal.{Refusal}
use Rattle.wire.specs.declared.refusal.Refusal.TheVariants as refusal
use Rattle.text.specs.Lines.{newline}
use Rattle.sheet.specs.Line.{hex_word}
use Rattle.sheet.specs.Sheet.{Made, made, fault}

-- a sheet, and what importing it comes to
pub record Sheet : Type 0 where
  pub text : List ℕ
  pub comes : Made ℕ

abbrev pub imports : List Sheet
imports =
    -- HEX 01 13 04
    record { text = hex_word ++ 48 ∷ 49 ∷ 32 ∷ 49 ∷ 51 ∷ 32 ∷ 48 ∷ 52 ∷ newline ∷ []; comes = made (0xAA ∷ 0x01 ∷ 0x13 ∷ 0x04 ∷ 0x18 ∷ []) } ∷
    -- HEX 1 e: one digit, a small letter, and no newline
    record { text = hex_word ++ 49 ∷ 32 ∷ 101 ∷ []; comes = made (0xAA ∷ 0x01 ∷ 0x0E ∷ 0x0F ∷ []) } ∷
    -- HEX 1 E, HEX 80 5: packets back to back
    record { text = hex_word ++ 49 ∷ 32 ∷ 69 ∷ newline ∷ hex_word ++ 56 ∷ 48 ∷ 32 ∷ 53 ∷ newline ∷ []; comes = made (0xAA ∷ 0x01 ∷ 0x0E ∷ 0x0F ∷ 0xAA ∷ 0x80 ∷ 0x05 ∷ 0x85 ∷ []) } ∷
    -- HEX fF 24 aa 0: a group, data like a header
    record { text = hex_word ++ 102 ∷ 70 ∷ 32 ∷ 50 ∷ 52 ∷ 32 ∷ 97 ∷ 97 ∷ 32 ∷ 48 ∷ newline ∷ []; comes = made (0xAA ∷ 0xFF ∷ 0x24 ∷ 0xAA ∷ 0x00 ∷ 0xCD ∷ []) } ∷
    -- HEX 00 F0 and fifteen data bytes
    record { text = hex_word ++ 48 ∷ 32 ∷ 70 ∷ 48 ∷ 32 ∷ 48 ∷ 32 ∷ 48 ∷ 32 ∷ 48 ∷ 32 ∷ 48 ∷ 32 ∷ 48 ∷ 32 ∷ 48 ∷ 32 ∷ 48 ∷ 32 ∷ 48 ∷ 32 ∷ 48 ∷ 32 ∷ 48 ∷ 32 ∷ 48 ∷ 32 ∷ 48 ∷ 32 ∷ 48 ∷ 32 ∷ 48 ∷ 32 ∷ 48 ∷ newline ∷ []; comes = made (0xAA ∷ 0x00 ∷ 0xF0 ∷ 0x00 ∷ 0x00 ∷ 0x00 ∷ 0x00 ∷ 0x00 ∷ 0x00 ∷ 0x00 ∷ 0x00 ∷ 0x00 ∷ 0x00 ∷ 0x00 ∷ 0x00 ∷ 0x00 ∷ 0x00 ∷ 0x00 ∷ 0xF0 ∷ []) } ∷
    -- an empty sheet
    record { text = []; comes = made [] } ∷
    -- a blank line
    record { text = newline ∷ []; comes = fault 1 } ∷
    -- the second of two lines: HEX 1 13 lacks its data byte
    record { text = hex_word ++ 49 ∷ 32 ∷ 69 ∷ newline ∷ hex_word ++ 49 ∷ 32 ∷ 49 ∷ 51 ∷ newline ∷ []; comes = fault 2 } ∷
    -- HEX 1 E 0 has one too many
    record { text = hex_word ++ 49 ∷ 32 ∷ 69 ∷ 32 ∷ 48 ∷ newline ∷ []; comes = fault 1 } ∷
    -- a small word, none, a space before it
    record { text = 104 ∷ 101 ∷ 120 ∷ 32 ∷ 49 ∷ 32 ∷ 69 ∷ []; comes = fault 1 } ∷
    record { text = 49 ∷ 32 ∷ 69 ∷ []; comes = fault 1 } ∷
    record { text = 32 ∷ 72 ∷ 69 ∷ 88 ∷ 32 ∷ 49 ∷ 32 ∷ 69 ∷ []; comes = fault 1 } ∷
    -- three digits, a letter past F
    record { text = hex_word ++ 48 ∷ 48 ∷ 49 ∷ 32 ∷ 69 ∷ []; comes = fault 1 } ∷
    record { text = hex_word ++ 49 ∷ 32 ∷ 71 ∷ []; comes = fault 1 } ∷
    -- two spaces, a tab
    record { text = hex_word ++ 49 ∷ 32 ∷ 32 ∷ 69 ∷ []; comes = fault 1 } ∷
    record { text = hex_word ++ 49 ∷ 9 ∷ 69 ∷ []; comes = fault 1 } ∷
    -- a space, a carriage return behind the line
    record { text = hex_word ++ 49 ∷ 32 ∷ 69 ∷ 32 ∷ []; comes = fault 1 } ∷
    record { text = hex_word ++ 49 ∷ 32 ∷ 69 ∷ 13 ∷ newline ∷ []; comes = fault 1 } ∷
    -- an address alone
    record { text = hex_word ++ 49 ∷ []; comes = fault 1 } ∷
    []

-- a list of packets, and what exporting it comes to
pub record Listing : Type 0 where
  pub packets : List ℕ
  pub comes : Made Refusal

abbrev pub exports : List Listing
exports =
    -- AA 01 13 04 18
    record { packets = 0xAA ∷ 0x01 ∷ 0x13 ∷ 0x04 ∷ 0x18 ∷ []; comes = made (hex_word ++ 48 ∷ 49 ∷ 32 ∷ 49 ∷ 51 ∷ 32 ∷ 48 ∷ 52 ∷ newline ∷ []) } ∷
    -- two packets
    record { packets = 0xAA ∷ 0x01 ∷ 0x0E ∷ 0x0F ∷ 0xAA ∷ 0x80 ∷ 0x05 ∷ 0x85 ∷ []; comes = made (hex_word ++ 48 ∷ 49 ∷ 32 ∷ 48 ∷ 69 ∷ newline ∷ hex_word ++ 56 ∷ 48 ∷ 32 ∷ 48 ∷ 53 ∷ newline ∷ []) } ∷
    -- no packets
    record { packets = []; comes = made [] } ∷
    -- the second is cut short; so is AA alone
    record { packets = 0xAA ∷ 0x01 ∷ 0x0E ∷ 0x0F ∷ 0xAA ∷ 0x01 ∷ 0x13 ∷ 0x04 ∷ []; comes = fault refusal.Short } ∷
    record { packets = 0xAA ∷ []; comes = fault refusal.Short } ∷
    -- a byte behind a packet is the next one, without a header
    record { packets = 0xAA ∷ 0x01 ∷ 0x0E ∷ 0x0F ∷ 0x00 ∷ []; comes = fault refusal.Header } ∷
    -- a wrong sum, before a packet without a header
    record { packets = 0xAA ∷ 0x01 ∷ 0x0E ∷ 0x10 ∷ 0x00 ∷ []; comes = fault refusal.Sum } ∷
    []
