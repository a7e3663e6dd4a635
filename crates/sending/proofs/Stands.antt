-- Any number but 0 leaves session and buffer as they stood.
use Prim.Native.Nat.{ℕ}
use Rattle.wire.specs.declared.refusal.Refusal.{Refusal}
use Rattle.std.specs.Prelude.{Result, Ok, Err, ℕ, ⊤}
use mathlib.Core.List.{List}
use mathlib.Core.Path.{◌≡◌, refl}
use Rattle.wire.specs.Promise.{Outcome}
use Rattle.wire.specs.declared.address.Address.{Address}
use Rattle.wire.specs.Numbers.{done}
use Rattle.buffer.proofs.Refusals.{Spares}
use Rattle.command.specs.declared.Command.{Command}
use Rattle.codec.specs.Build.{codec_build}
use Rattle.codec.proofs.Commands.{command_spares}
use Rattle.session.specs.declared.Session.{Session}
use Rattle.session.specs.declared.Step.{Step}
use Rattle.session.specs.Session.{step_number}
use Rattle.sending.specs.Sending.{open_exchange, step_by, transmit_of, by_check}

-- refused with any number: session and buffer are as they were handed in
abbrev pub Stands : Session → List ℕ → Outcome Step (List ℕ) → Type 0
Stands s out o = (step_number o.answer ≡ done → ⊥) → (o.answer.session ≡ s) × (o.left ≡ out)

by_built : (s t : Session) (out left : List ℕ) (b : Result ℕ Refusal) → Spares out (record { answer = b; left = left }) → Stands s out (record { answer = step_by s t b; left = left })
by_built s t out left (Ok n) h z = absurd (z refl)
by_built s t out left (Err why) h z = (refl, h z)

pub transmitted_stands : (s : Session) (at : ℕ) (called to : Address) (c : Command) (out : List ℕ) → Stands s out (transmit_of s at called to c out)
unfolding transmit_of
transmitted_stands s at called to c out =
    by_built s (open_exchange s at to c) out (codec_build called c out).left (codec_build called c out).answer (command_spares called c out)

-- by the check before it
pub check_stands : (k : Result ⊤ Refusal) (s : Session) (out : List ℕ) (o : Outcome Step (List ℕ)) → Stands s out o → Stands s out (by_check k s out o)
check_stands (Ok tt) s out o h z = h z
check_stands (Err why) s out o h z = (refl, refl)
