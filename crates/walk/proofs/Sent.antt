-- What the walk sends: where the check is passed, its packet stands at the start of the buffer, or 5 leaves all as it stood.
use Prim.Native.Nat.{ℕ, ◌+◌}
use Rattle.std.specs.Prelude.{Ok}
use mathlib.Core.List.{List}
use mathlib.Core.Path.{◌≡◌, refl}
use native.Mathlib.Omega.{arith}
use Rattle.wire.specs.Numbers.{done}
use Rattle.command.specs.declared.Command.TheVariants.{SetAddress, Nop}
use Rattle.node.specs.Effect.{address_up}
use Rattle.session.specs.declared.Session.{Session}
use Rattle.session.specs.Session.{node_at, step_number, given_place}
use Rattle.walk.specs.Walk.{next_check, ask_check, next_of, ask_of}
use Rattle.sending.proofs.Sent.{Sends, transmitted_sends, by_passed, node_fits, Went, went}
use Rattle.walk.proofs.Passing.{next_says, ask_says}

pub next_sent : (s : Session) (at : ℕ) (out : List ℕ) → next_check s at ≡ Ok tt
    → Sends s at (node_at address_up) (node_at (s.walk + 1)) (SetAddress (given_place (s.walk + 1))) out (next_of s at out)
unfolding next_of
next_sent s at out h =
    let t = next_says s at h in
    let w = t.walking in
    let f = t.session.valid.few in
    by_passed (next_check s at) s at _ _ _ out _ h (transmitted_sends s at _ _ _ out refl (rw (node_fits s.n (s.walk + 1) f (omega arith))))

pub ask_sent : (s : Session) (at : ℕ) (out : List ℕ) → ask_check s at ≡ Ok tt → Sends s at (node_at (s.walk + 1)) (node_at (s.walk + 1)) Nop out (ask_of s at out)
unfolding ask_of
ask_sent s at out h =
    let t = ask_says s at h in
    let w = t.walking in
    let f = t.session.valid.few in
    by_passed (ask_check s at) s at _ _ _ out _ h (transmitted_sends s at _ _ _ out (node_fits s.n (s.walk + 1) f (omega arith)) refl)

module _ (s : Session) (at : ℕ) (out : List ℕ) where
  pub next_went : step_number (next_of s at out).answer ≡ done
      → Went (next_check s at) s at (node_at address_up) (node_at (s.walk + 1)) (SetAddress (given_place (s.walk + 1))) out (next_of s at out)
  unfolding next_of
  next_went d = went (next_check s at) s at _ _ _ out _ (next_sent s at out) d

  pub ask_went : step_number (ask_of s at out).answer ≡ done → Went (ask_check s at) s at (node_at (s.walk + 1)) (node_at (s.walk + 1)) Nop out (ask_of s at out)
  unfolding ask_of
  ask_went d = went (ask_check s at) s at _ _ _ out _ (ask_sent s at out) d
