-- What a line of the program `trials` makes, by its first byte; and the session after all lines of an input.
use Rattle.std.specs.Prelude.{ℕ, ◌/◌, cond, List, [], ◌∷◌, ltb, eqb, length, take, drop, replicate}
use Rattle.text.specs.Lines.{lines_of}
use Rattle.hexadecimal.specs.Hex.{Content, bytes, malformed, bytes_in}
use Rattle.fields.specs.declared.answer.Answer.{Answer}
use Rattle.fields.specs.Field.{fields_byte}
use Rattle.fields.specs.Answer.{malformed_of}
use Rattle.session.specs.declared.Session.{Session}
use Rattle.start.specs.Start.{fresh_of}
use Rattle.trypacket.specs.Trial.{trypacket_build, trypacket_read, read_status}
use Rattle.trychain.specs.Delivering.{trychain_deliver}
use Rattle.trysheet.specs.Trying.{trysheet_import, trysheet_export, import_copied, export_copied}
use Rattle.tryhost.specs.declared.Tried.{Tried}
use Rattle.tryhost.specs.Trying.{with_session, attempt_of}

-- "up to 64 KiB", and a byte more
abbrev pub most_input : ℕ
most_input = 65536

unfoldable pub input_room : List ℕ
input_room = replicate 65537 0

-- 10 to 12 packets, 20 the chain, 40 to 43 movement sheets; "an unknown first byte answers `FF`"
unfoldable pub trylines_answer : ℕ → List ℕ → Answer
trylines_answer kind args =
    cond (eqb kind 0x10) (trypacket_build args)
    (cond (eqb kind 0x11) (trypacket_read args)
    (cond (eqb kind 0x12) (read_status args)
    (cond (eqb kind 0x20) (trychain_deliver args)
    (cond (eqb kind 0x40) (trysheet_import args)
    (cond (eqb kind 0x41) (trysheet_export args)
    (cond (eqb kind 0x42) (import_copied args)
    (cond (eqb kind 0x43) (export_copied args)
    malformed_of)))))))

-- what a line makes: the host's lines, 30 to 39, on the session; the others leave it as it is
unfoldable pub trylines_attempt : Session → ℕ → List ℕ → Tried
trylines_attempt s kind args = cond (eqb (kind / 16) 3) (attempt_of s kind args) (with_session (trylines_answer kind args) s)

-- the session after a line: "The session of `30` to `39` isn't touched" by 50
unfoldable pub try_bytes : Session → ℕ → List ℕ → Session
try_bytes s kind args = cond (eqb kind 0x50) s (trylines_attempt s kind args).session

-- the bytes of a line; one that is not of its form is answered as an empty one is
abbrev pub said_bytes : Content → List ℕ
said_bytes (bytes d) = d
said_bytes malformed = []

abbrev pub trylines_read_line : List ℕ → List ℕ
trylines_read_line line = said_bytes (bytes_in line)

-- as many as a line of 64 KiB can say
abbrev pub kept_bytes : List ℕ → List ℕ
kept_bytes line = take 21846 (trylines_read_line line)

-- "The first byte says what is tried"
unfoldable pub try_line : Session → List ℕ → Session
try_line s line = try_bytes s (fields_byte (kept_bytes line) 0) (drop 1 (kept_bytes line))

-- "one session, kept from line to line"
unfoldable pub try_lines : Session → List (List ℕ) → Session
try_lines s [] = s
try_lines s (l ∷ ls) = try_lines (try_line s l) ls

-- "fresh at the start"; "a longer one answers the single line `FF`"
unfoldable pub try_all : List ℕ → Session
try_all input = cond (ltb most_input (length input)) fresh_of (try_lines fresh_of (lines_of input))
