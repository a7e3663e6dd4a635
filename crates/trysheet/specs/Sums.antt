-- "SUMS, 4 bytes, stand for the whole lent buffer": `a(2) b(2)`.
use Rattle.std.specs.Prelude.{ℕ, ◌+◌, ◌%◌, List, [], ◌∷◌}
use Rattle.trysheet.specs.declared.sums.Sums.{Sums}

-- "for each byte a = (a + byte) mod 65536, then b = (b + a) mod 65536"
abbrev pub sums_with : Sums → ℕ → Sums
sums_with s x = record { a = (s.a + x) % 65536; b = (s.b + (s.a + x) % 65536) % 65536 }

-- byte by byte
unfoldable pub sums_from : Sums → List ℕ → Sums
sums_from s [] = s
sums_from s (x ∷ l) = sums_from (sums_with s x) l

-- "both start at 0"
abbrev pub sums_of : List ℕ → Sums
sums_of l = sums_from (record { a = 0; b = 0 }) l
