-- Where 17 refuses neither of two commands, of which an LS-773 lacks the one and an LS-173AP the other, no node may be reached.
use Prim.Native.Nat.{ℕ, zero, suc}
use mathlib.Core.Bool.{Bool, true, false, not, ◌&&◌, true≢false}
use mathlib.Core.List.{List, [], ◌∷◌}
use mathlib.Core.Path.{◌≡◌, refl}
use Rattle.wire.proofs.Choice.{neither}
use Rattle.wire.specs.declared.address.Address.{Address}
use Rattle.wire.specs.declared.kind.Kind.{Kind}
use Rattle.wire.specs.declared.kind.Kind.TheVariants.{Gate, Drive}
use Rattle.command.specs.declared.Command.{Command}
use Rattle.command.specs.Owner.{has}
use Rattle.entry.specs.declared.Entry.{Entry}
use Rattle.ledger.specs.Ledger.{ledger_least, any_from, does_lack, is_lacked}
use Rattle.session.specs.declared.Session.{Session}
use Rattle.calls.specs.Alike.{does_reach, is_reaching}

module _ (to : Address) (c d : Command) (p : has Gate c ≡ false) (q : has Drive d ≡ false) where
  -- a node of either kind that may be reached would lack one of them
  by_kind : (x : Kind) (r : Bool) → r && not (has x c) ≡ false → r && not (has x d) ≡ false → r ≡ false
  by_kind x false h k = refl
  by_kind Gate true h k = absurd (true≢false (rw p at h))
  by_kind Drive true h k = absurd (true≢false (rw q at k))

  nobody_from : (j n : ℕ) (es : List Entry) → any_from (does_lack to c) j n es ≡ false → any_from (does_lack to d) j n es ≡ false → any_from (does_reach to) j n es ≡ false
  unfolding any_from
  nobody_from j zero es h k = refl
  nobody_from j (suc n) [] h k = refl
  nobody_from j (suc n) (e ∷ es) h k =
      let a = neither (does_lack to c j e) (any_from (does_lack to c) (suc j) n es) h in
      let b = neither (does_lack to d j e) (any_from (does_lack to d) (suc j) n es) k in
      rw (by_kind e.kind (does_reach to j e) a.0 b.0) (nobody_from (suc j) n es a.1 b.1)

  pub nobody : (s : Session) → is_lacked to c s.n s.entries ≡ false → is_lacked to d s.n s.entries ≡ false → is_reaching s to ≡ false
  unfolding is_lacked
  nobody s = nobody_from 1 (ledger_least s.n) s.entries
