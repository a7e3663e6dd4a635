-- Each sheet and each list of the tables comes to what the table says.
use mathlib.Core.List.{map}
use mathlib.Core.Path.{◌≡◌, refl}
use Rattle.buffer.specs.Sum.{total, ends_in_sum}
use Rattle.packet.specs.Packet.{frame_of, is_intact, read_of}
use Rattle.text.specs.Lines.{lines_of}
use Rattle.hexadecimal.specs.Digits.{digit_of, character_of}
use Rattle.hexadecimal.specs.Hex.{hex_rest}
use Rattle.sheet.specs.Line.{starts_hex, either_digit, line_in}
use Rattle.sheet.specs.Sheet.{packets_in}
use Rattle.sheet.specs.Packets.{packets_of, sheet_of}
use Rattle.sheet.specs.Example.{Sheet, imports, Listing, exports}

pub imported : map (λ (e : Sheet). packets_in (lines_of e.text)) imports ≡ map (λ (e : Sheet). e.comes) imports
unfolding total digit_of starts_hex either_digit line_in packets_in
imported = refl

pub exported : map (λ (e : Listing). sheet_of (packets_of e.packets)) exports ≡ map (λ (e : Listing). e.comes) exports
unfolding total ends_in_sum frame_of is_intact read_of character_of hex_rest packets_of sheet_of
exported = refl
