-- Document 02, 3: "Each step hands back that packet's own bytes, from whichever capture starts earlier; at equal times the command comes first".
use Rattle.std.specs.Prelude.{ℕ, ◌+◌, ◌-◌, cond, List, [], ◌∷◌, ◌++◌, length, get_or, drop, leb, Option, Some, None}
use Rattle.capture.specs.Packets.{Packet, packets, packet_end, cut_of}
use Rattle.capture.specs.declared.Line.{Line}
use Rattle.capture.specs.declared.Line.TheVariants.{Command, Reply}
use Rattle.capture.specs.declared.Cursor.{Cursor}
use Rattle.capture.specs.declared.Stepped.{Stepped}

-- a packet that is handed back: the line that it was on, and the packet
pub data Recorded : Type 0 where
  sent : Packet → Recorded
  got : Packet → Recorded

-- those of the reply line alone
abbrev pub replies : List Packet → List Recorded
replies [] = []
replies (q ∷ qs) = got q ∷ replies qs

-- the packets of both captures in the order in which they start, at equal times the command first
abbrev pub merge : List Packet → List Packet → List Recorded
merge [] qs = replies qs
merge (p ∷ ps) [] = sent p ∷ merge ps []
merge (p ∷ ps) (q ∷ qs) = cond (leb p.start q.start) (sent p ∷ merge ps (q ∷ qs)) (got q ∷ merge (p ∷ ps) qs)

-- before the first byte of either capture
abbrev pub outset : Cursor
outset = record { command = 0; reply = 0 }

-- what is left to hand back at a cursor
unfoldable pub left_at : List ℕ → List ℕ → List ℕ → List ℕ → Cursor → List Recorded
left_at cs cts rs rts at = merge (packets (drop at.command cts) (drop at.command cs)) (packets (drop at.reply rts) (drop at.reply rs))

-- which of two captures has the next packet, by the times that are left of each
abbrev pub earlier : List ℕ → List ℕ → Option Line
earlier [] [] = None
earlier [] (u ∷ us) = Some Reply
earlier (t ∷ ts) [] = Some Command
earlier (t ∷ ts) (u ∷ us) = cond (leb t u) (Some Command) (Some Reply)

-- what is taken of the two lines, by the line that is due
abbrev pub by_line : {A : Type 0} → Option Line → A → A → A → A
by_line (Some Command) c r n = c
by_line (Some Reply) c r n = r
by_line None c r n = n

-- the line that is due at a cursor
unfoldable pub due_of : List ℕ → List ℕ → Cursor → Option Line
due_of cts rts at = earlier (drop at.command cts) (drop at.reply rts)

-- the step at a cursor: the line whose packet is next, and the cursor behind that packet
unfoldable pub capture_step : List ℕ → List ℕ → Cursor → Option Stepped
capture_step cts rts at =
    by_line (due_of cts rts at)
    (Some (record { line = Command; behind = record { command = packet_end cts at.command; reply = at.reply } }))
    (Some (record { line = Reply; behind = record { command = at.command; reply = packet_end rts at.reply } }))
    None

-- the capture whose packet a step of the line l hands back, and from which of its bytes on; with no line due, no bytes of the command capture
abbrev pub capture_by : {A : Type 0} → Option Line → A → A → A
capture_by l c r = by_line l c r c

abbrev pub start_by : Option Line → Cursor → ℕ
start_by l at = by_line l at.command at.reply at.command

-- "that packet's own bytes": of that line's capture those from the cursor to the packet's end
abbrev pub bytes_by : List ℕ → List ℕ → List ℕ → List ℕ → Cursor → Option Line → List ℕ
bytes_by cs cts rs rts at l =
    by_line l (cut_of cs at.command (packet_end cts at.command)) (cut_of rs at.reply (packet_end rts at.reply)) (cut_of cs at.command at.command)

abbrev pub packet_at : List ℕ → List ℕ → List ℕ → List ℕ → Cursor → List ℕ
packet_at cs cts rs rts at = bytes_by cs cts rs rts at (due_of cts rts at)

-- the packet from a byte on
abbrev pub packet_from : List ℕ → List ℕ → ℕ → Packet
packet_from bs ts at = record { start = get_or ts at 0; bytes = cut_of bs at (packet_end ts at) }

-- what a step hands back
abbrev pub recorded_on : List ℕ → List ℕ → List ℕ → List ℕ → Cursor → Line → Recorded
recorded_on cs cts rs rts at Command = sent (packet_from cs cts at.command)
recorded_on cs cts rs rts at Reply = got (packet_from rs rts at.reply)

-- that, then what is left behind it
abbrev pub recorded_by : List ℕ → List ℕ → List ℕ → List ℕ → Cursor → Option Stepped → List Recorded
recorded_by cs cts rs rts at (Some s) = recorded_on cs cts rs rts at s.line ∷ left_at cs cts rs rts s.behind
recorded_by cs cts rs rts at None = []

-- the bytes of one line among what is handed back
abbrev pub sent_bytes : List Recorded → List ℕ
sent_bytes [] = []
sent_bytes (sent p ∷ ps) = p.bytes ++ sent_bytes ps
sent_bytes (got p ∷ ps) = sent_bytes ps

abbrev pub got_bytes : List Recorded → List ℕ
got_bytes [] = []
got_bytes (sent p ∷ ps) = got_bytes ps
got_bytes (got p ∷ ps) = p.bytes ++ got_bytes ps

-- how many bytes are left at a cursor: what a walk goes down by
abbrev pub bytes_left : List ℕ → List ℕ → Cursor → ℕ
bytes_left cts rts at = (length cts - at.command) + (length rts - at.reply)
