-- A packet that changes no node: nobody need be gone through.
use Rattle.std.proofs.Common.{◌≡◌, ℕ, ◌/◌, ◌%◌, Bool, true, false, cond, eqb, List, [], ◌∷◌, sym, refl, ◌∙◌}
use mathlib.Core.Bool.{false≢true}
use borrow.Author.Tests.{not-false}
use Rattle.wire.specs.declared.kind.Kind.{Kind}
use Rattle.wire.specs.declared.kind.Kind.TheVariants as kind
use Rattle.wire.proofs.Choice.{same}
use Rattle.command.specs.declared.Command.{Command}
use Rattle.command.specs.declared.Command.TheVariants.{SetAddress, DefineStatus, ReadStatus, SetPwm, SynchOutput, SetOutputs, SetSynchOutput, SetTimerMode, SetBaudRate, SynchInput, Nop, HardReset, ResetPosition, LoadTrajectory, StartMotion, SetGain, StopMotor}
use Rattle.command.specs.Role.{role_of}
use Rattle.message.specs.declared.Message.{Message}
use Rattle.message.specs.declared.Message.TheVariants.{Intact, Other, Spoilt}
use Rattle.message.specs.declared.Messages.{Messages}
use Rattle.message.specs.Message.{message_to}
use Rattle.node.specs.declared.state.Node.{Node}
use Rattle.node.specs.Node.{take_as}
use Rattle.survey.specs.Decision.{is_idle, does_touch, touched_of, act_all}
use Rattle.survey.proofs.Visiting.{visit_none}

nop_keeps : (k : Kind) (n : Node) → take_as k (Intact Nop) n ≡ n
nop_keeps kind.Gate n = refl
nop_keeps kind.Drive n = refl

idle_keeps : (c : Command) → is_idle (role_of c) ≡ true → (k : Kind) (n : Node) → take_as k (Intact c) n ≡ n
idle_keeps (SetAddress p) e k n = absurd (false≢true e)
idle_keeps (DefineStatus m) e k n = absurd (false≢true e)
idle_keeps (ReadStatus m) e k n = nop_keeps k n
idle_keeps (SetPwm w) e k n = absurd (false≢true e)
idle_keeps SynchOutput e k n = absurd (false≢true e)
idle_keeps (SetOutputs w) e k n = absurd (false≢true e)
idle_keeps (SetSynchOutput h) e k n = absurd (false≢true e)
idle_keeps (SetTimerMode m) e k n = absurd (false≢true e)
idle_keeps (SetBaudRate d) e k n = absurd (false≢true e)
idle_keeps SynchInput e k n = absurd (false≢true e)
idle_keeps Nop e k n = nop_keeps k n
idle_keeps HardReset e k n = absurd (false≢true e)
idle_keeps ResetPosition e k n = absurd (false≢true e)
idle_keeps (LoadTrajectory m) e k n = absurd (false≢true e)
idle_keeps StartMotion e k n = absurd (false≢true e)
idle_keeps (SetGain g) e k n = absurd (false≢true e)
idle_keeps (StopMotor s) e k n = absurd (false≢true e)

untouched : (h : Message) → does_touch h ≡ false → (k : Kind) (n : Node) → take_as k h n ≡ n
untouched (Intact c) e k n = idle_keeps c (not-false (is_idle (role_of c)) e) k n
untouched Other e k n = refl
untouched Spoilt e k n = refl

module _ (h : Messages) (gate : does_touch h.gate ≡ false) (drive : does_touch h.drive ≡ false) where
  kept : (k : Kind) (n : Node) → take_as k (message_to k h) n ≡ n
  kept kind.Gate n = untouched h.gate gate kind.Gate n
  kept kind.Drive n = untouched h.drive drive kind.Drive n

  all_kept : (s : ℕ) (ns : List Node) → act_all h s ns ≡ ns
  all_kept s [] = refl
  all_kept s (n ∷ ns) = rw (kept n.kind n, same (eqb (s % 2) 1) n, all_kept (s / 2) ns)

-- those that are gone through are all that the packet changes
pub touched_all : (h : Messages) (s : ℕ) (ns : List Node) → act_all h (touched_of h s) ns ≡ act_all h s ns
unfolding touched_of
touched_all h s ns = go (does_touch h.gate) (does_touch h.drive) refl refl
  where
    go : (g d : Bool) → does_touch h.gate ≡ g → does_touch h.drive ≡ d → act_all h (cond g s (cond d s 0)) ns ≡ act_all h s ns
    go true d e f = refl
    go false true e f = refl
    go false false e f = visit_none h ns ∙ sym (all_kept h e f s ns)
