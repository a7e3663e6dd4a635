-- Document 02, 3: packets of a recording without their times: the line that each was on, and its bytes.
use Rattle.std.specs.Prelude.{ℕ, List, [], ◌∷◌}
use Rattle.capture.specs.Steps.{Recorded, sent, got}

-- on the command line, on the reply line
pub data Traced : Type 0 where
  commanded : List ℕ → Traced
  replied : List ℕ → Traced

-- the packets of a recording, each without its time
abbrev pub traced_of : List Recorded → List Traced
traced_of [] = []
traced_of (sent p ∷ ps) = commanded p.bytes ∷ traced_of ps
traced_of (got p ∷ ps) = replied p.bytes ∷ traced_of ps
