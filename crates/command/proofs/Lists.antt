-- The manuals' lists of divisors.
use Prim.Native.Nat.{ℕ}
use mathlib.Core.Bool.{true, false}
use mathlib.Core.Path.{◌≡◌, refl}
use lib.Dec.{eqb}
use Rattle.wire.specs.declared.kind.Kind.{Kind}
use Rattle.wire.specs.declared.kind.Kind.TheVariants.{Gate, Drive}
use Rattle.wire.proofs.Choice.{neither}
use Rattle.command.specs.Divisors.{is_listed}

-- what the LS-773's doesn't list no manual does
pub gate_lists : (k : Kind) (d : ℕ) → is_listed Gate d ≡ false → is_listed k d ≡ false
unfolding is_listed
gate_lists Gate d h = h
gate_lists Drive d h =
    let a = neither (eqb d 0x81) _ h in
    let b = neither (eqb d 0x3F) _ a.1 in
    let c = neither (eqb d 0x14) _ b.1 in
    let e = neither (eqb d 0x0A) _ c.1 in
    rw (a.0, b.0, c.0, e.0)

-- power-up's is listed in each
pub up_listed : (k : Kind) → is_listed k 0x3F ≡ true
unfolding is_listed
up_listed Gate = refl
up_listed Drive = refl
