-- The first test of the sequence that holds refuses; what is left of it decides.
use Rattle.std.proofs.Common.{◌≡◌, ℕ, ◌+◌, ◌<◌, ◌≤◌, Bool, true, false, List, [], ◌∷◌, length, get_or, drop, sym, ap, ◌∙◌, add-one, arith, drop-cons, drop_of_length-le, Result, Ok, Err}
use Rattle.std.specs.Prelude.{⊤}
use Rattle.wire.specs.Promise.{promised}
use Rattle.wire.specs.declared.refusal.Refusal.{Refusal}
use Rattle.wire.specs.declared.refusal.Refusal.TheVariants.{Short, Range, Busy, NotDue, NoNode, Led, Closed, Lacked, Divisor, Answerable}
use Rattle.sending.specs.declared.Tests.{Tests}
use Rattle.sending.specs.Sending.{refuse_if, refusing, test_of}
use Rattle.sending.proofs.Refusing.{stays_refused}
use Rattle.sending.proofs.test.Goals as goal

-- the sequence, as the code lays it out
abbrev laid_out : Bool → Bool → Tests → List (Bool × Refusal)
laid_out closed waiting t =
    (closed, Closed) ∷ (waiting, Busy) ∷ (t.unranged, Range) ∷ (t.unlisted, Divisor) ∷ (t.stray, NoNode) ∷ (t.lacked, Lacked) ∷ (t.undue, NotDue) ∷ (t.led, Led) ∷ (t.answerable, Answerable) ∷ []

module _ (l : List (Bool × Refusal)) (i : ℕ) (d : Bool × Refusal) (r : Result ⊤ Refusal) (h : refusing (Ok tt) (drop i l) ≡ r) (within : i < length l) where
  next : refusing (refuse_if (Ok tt) (get_or l i d).0 (get_or l i d).1) (drop (i + 1) l) ≡ r
  next = rw add-one (sym (ap (refusing (Ok tt)) (drop-cons l i d within)) ∙ h)

  refuses : (get_or l i d).0 ≡ true → Err (get_or l i d).1 ≡ r
  refuses t = sym (stays_refused (drop (i + 1) l) (get_or l i d).1) ∙ rw t at next

  passes : (get_or l i d).0 ≡ false → refusing (Ok tt) (drop (i + 1) l) ≡ r
  passes t = rw t at next

passed : (l : List (Bool × Refusal)) (i : ℕ) (r : Result ⊤ Refusal) → refusing (Ok tt) (drop i l) ≡ r → length l ≤ i → Ok tt ≡ r
passed l i r h k = rw (drop_of_length-le l {i = i} k) at h

pub loop-fails-init : goal.loop-fails-init
unfolding test_of
loop-fails-init c = rw (c.is_closed.ensures, c.is_waiting.ensures)

pub returns-then-fails : goal.returns-then-fails
returns-then-fails c = promised (refuses (laid_out c.is_closed.result c.is_waiting.result c.args.t) c.loop-fails.fails-index (false, Short) _ c.loop-fails.invariant (omega arith) c.if-fails.true)

pub loop-fails-preserved : goal.loop-fails-preserved
loop-fails-preserved c = passes (laid_out c.is_closed.result c.is_waiting.result c.args.t) c.loop-fails.fails-index (false, Short) _ c.loop-fails.invariant (omega arith) c.if-fails.false

pub returns : goal.returns
returns c = promised (passed (laid_out c.is_closed.result c.is_waiting.result c.args.t) _ _ c.loop-fails.invariant (omega arith))
