-- A valid session stays valid when a command is sent.
use Prim.Native.Nat.{ℕ}
use Rattle.wire.specs.declared.refusal.Refusal.{Refusal}
use Rattle.std.specs.Prelude.{Result, Ok, Err, ℕ, ⊤}
use mathlib.Core.Bool.{Bool, true, false, cond}
use mathlib.Core.List.{List}
use mathlib.Core.Path.{◌≡◌, refl, ◌∙◌}
use Rattle.wire.specs.Promise.{Outcome}
use Rattle.wire.specs.declared.address.Address.{Address}
use Rattle.command.specs.declared.Command.{Command}
use Rattle.command.specs.Role.{role_of, is_reset}
use Rattle.codec.specs.Build.{codec_build}
use Rattle.ledger.specs.Ledger.{forget_of}
use Rattle.ledger.proofs.Ledgers.{length_forgotten}
use Rattle.session.specs.declared.Exchange.TheVariants.{Idle, Waiting}
use Rattle.session.specs.declared.Session.{Session}
use Rattle.session.specs.declared.Step.{Step}
use Rattle.session.specs.Session.{Valid, off_chain}
use Rattle.session.proofs.Sessions.{valid_says, valid_from}
use Rattle.sending.specs.Sending.{open_exchange, step_by, transmit_of, by_check}

-- an exchange is opened with a node 1 to n, or with a group
opened_by : (b : Bool) (s : Session) (at : ℕ) (to : Address) (c : Command) → Valid s → off_chain s.n to ≡ false
    → Valid (cond b (record { started = false; n = s.n; walk = s.walk; exchange = Idle; entries = forget_of s.entries })
    (record { started = s.started; n = s.n; walk = s.walk; exchange = Waiting at to c; entries = s.entries }))
opened_by true s at to c h p =
    let v = valid_says s h.valid in
    record { valid = valid_from _ v.few v.walked refl; whole = length_forgotten s.entries ∙ h.whole }
opened_by false s at to c h p =
    let v = valid_says s h.valid in
    record { valid = valid_from _ v.few v.walked p; whole = h.whole }

pub opened_valid : (s : Session) (at : ℕ) (to : Address) (c : Command) → Valid s → off_chain s.n to ≡ false → Valid (open_exchange s at to c)
unfolding open_exchange
opened_valid s at to c = opened_by (is_reset (role_of c)) s at to c

by_built : (s t : Session) (b : Result ℕ Refusal) → Valid s → Valid t → Valid (step_by s t b).session
by_built s t (Ok n) h k = k
by_built s t (Err why) h k = h

pub transmitted_valid : (s : Session) (at : ℕ) (called to : Address) (c : Command) (out : List ℕ) → Valid s → off_chain s.n to ≡ false
    → Valid (transmit_of s at called to c out).answer.session
unfolding transmit_of
transmitted_valid s at called to c out h p = by_built s (open_exchange s at to c) (codec_build called c out).answer h (opened_valid s at to c h p)

-- by the check before it
pub check_valid : (k : Result ⊤ Refusal) (s : Session) (out : List ℕ) (o : Outcome Step (List ℕ)) → Valid s → (k ≡ Ok tt → Valid o.answer.session)
    → Valid (by_check k s out o).answer.session
check_valid (Ok tt) s out o h p = p refl
check_valid (Err why) s out o h p = h
