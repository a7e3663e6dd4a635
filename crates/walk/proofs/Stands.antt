-- Any number but 0 leaves session and buffer as they stood.
use Prim.Native.Nat.{ℕ}
use mathlib.Core.List.{List}
use Rattle.session.specs.declared.Session.{Session}
use Rattle.walk.specs.Walk.{next_check, ask_check, next_of, ask_of}
use Rattle.sending.proofs.Stands.{Stands, transmitted_stands, check_stands}

module _ (s : Session) (at : ℕ) (out : List ℕ) where
  pub next_stands : Stands s out (next_of s at out)
  unfolding next_of
  next_stands = check_stands (next_check s at) s out _ (transmitted_stands s at _ _ _ out)

  pub ask_stands : Stands s out (ask_of s at out)
  unfolding ask_of
  ask_stands = check_stands (ask_check s at) s out _ (transmitted_stands s at _ _ _ out)
