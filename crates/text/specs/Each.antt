-- Serves the contracts of the lines that come one by one.
use Rattle.std.specs.Prelude.{ℕ, List}
use Rattle.text.specs.Lines.{lines_of}
use Rattle.text.specs.declared.each.Lines.{Lines}

-- the lines that are still to come
abbrev pub lines_left : Lines → List (List ℕ)
lines_left it = lines_of it.text.now
