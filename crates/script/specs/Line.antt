-- Serves private contracts. What a function that writes a line of the output answers and leaves.
use Rattle.std.specs.Prelude.{ℕ, ◌≤◌, List, length, ◌≡◌}
use Rattle.buffer.specs.Wrote.{Wrote}
use Rattle.script.specs.declared.rehearsal.Step.{Step}
use Rattle.script.specs.Bench.{Stepped}

-- no line starts farther than this: 64 bytes for each of at most 65537 lines
abbrev pub far : ℕ
far = 4194368

-- a line has at most 64 bytes
pub record WroteLine (d : List ℕ) (at : ℕ) (out : List ℕ) (r : ℕ) (left : List ℕ) : Type 0 where
  pub wrote : Wrote d at out r left
  pub near : length d ≤ 64

-- what playing a line answers and leaves
pub record Played (s : Stepped) (at : ℕ) (out : List ℕ) (r : Step) (left : List ℕ) : Type 0 where
  pub table : r.table ≡ s.table
  pub line : WroteLine s.line at out r.at left
