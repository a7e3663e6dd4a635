-- The walk keeps a valid session valid.
use Prim.Native.Nat.{ℕ, ◌+◌, ◌<◌}
use mathlib.Core.Bool.{false}
use mathlib.Core.List.{List}
use mathlib.Core.Path.{◌≡◌}
use native.Mathlib.Omega.{arith}
use borrow.Author.Tests.{le-ltb}
use Rattle.session.specs.declared.Session.{Session}
use Rattle.session.specs.Session.{Valid, off_chain, node_at}
use Rattle.walk.specs.Walk.{next_check, ask_check, next_of, ask_of}
use Rattle.sending.proofs.Validity.{transmitted_valid, check_valid}
use Rattle.walk.proofs.Passing.{next_says, ask_says}

-- the walk's next node is one of 1 to n
next_node : (s : Session) → s.walk < s.n → off_chain s.n (node_at (s.walk + 1)) ≡ false
next_node s p = rw (le-ltb (s.walk + 1) 1 (omega arith), le-ltb s.n (s.walk + 1) (omega arith))

module _ (s : Session) (at : ℕ) (out : List ℕ) (h : Valid s) where
  pub next_valid : Valid (next_of s at out).answer.session
  unfolding next_of
  next_valid = check_valid (next_check s at) s out _ h (λ k. transmitted_valid s at _ _ _ out h (next_node s (next_says s at k).walking))

  pub ask_valid : Valid (ask_of s at out).answer.session
  unfolding ask_of
  ask_valid = check_valid (ask_check s at) s out _ h (λ k. transmitted_valid s at _ _ _ out h (next_node s (ask_says s at k).walking))
