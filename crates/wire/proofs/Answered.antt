-- Two answers that are one were found to be one.
use Rattle.std.proofs.Common.{◌≡◌, Result, Ok, Some}
use Rattle.wire.specs.declared.refusal.Refusal.{Refusal}

pub ok_is : {A : Type 0} {x y : A} → ◌≡◌ {A = Result A Refusal} (Ok x) (Ok y) → x ≡ y
ok_is e = cc

pub some_is : {A : Type 0} {x y : A} → Some x ≡ Some y → x ≡ y
some_is e = cc
