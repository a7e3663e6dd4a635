-- In each arm the refusal is known, and the table's row for it is what is returned.
use Prim.Native.Nat.{ℕ}
use mathlib.Core.Path.{◌≡◌, sym, ap, ◌∙◌}
use Rattle.wire.specs.Numbers.{number_of}
use Rattle.wire.specs.declared.refusal.Refusal.{Refusal}
use Rattle.wire.proofs.refusal.Refusal.number.Goals as goal

told : (a b : Refusal) (n : ℕ) → a ≡ b → n ≡ number_of b → n ≡ number_of a
told a b n e h = h ∙ sym (ap (λ (r : Refusal). number_of r) e)

pub returns-in-Short : goal.returns-in-Short
returns-in-Short c = search told

pub returns-in-Header : goal.returns-in-Header
returns-in-Header c = search told

pub returns-in-Long : goal.returns-in-Long
returns-in-Long c = search told

pub returns-in-Sum : goal.returns-in-Sum
returns-in-Sum c = search told

pub returns-in-Room : goal.returns-in-Room
returns-in-Room c = search told

pub returns-in-Range : goal.returns-in-Range
returns-in-Range c = search told

pub returns-in-Busy : goal.returns-in-Busy
returns-in-Busy c = search told

pub returns-in-Idle : goal.returns-in-Idle
returns-in-Idle c = search told

pub returns-in-NotDue : goal.returns-in-NotDue
returns-in-NotDue c = search told

pub returns-in-NoNode : goal.returns-in-NoNode
returns-in-NoNode c = search told

pub returns-in-Led : goal.returns-in-Led
returns-in-Led c = search told

pub returns-in-Closed : goal.returns-in-Closed
returns-in-Closed c = search told

pub returns-in-Line : goal.returns-in-Line
returns-in-Line c = search told

pub returns-in-Uneven : goal.returns-in-Uneven
returns-in-Uneven c = search told

pub returns-in-Backward : goal.returns-in-Backward
returns-in-Backward c = search told

pub returns-in-Lacked : goal.returns-in-Lacked
returns-in-Lacked c = search told

pub returns-in-Divisor : goal.returns-in-Divisor
returns-in-Divisor c = search told

pub returns-in-Answerable : goal.returns-in-Answerable
returns-in-Answerable c = search told
