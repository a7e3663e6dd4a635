-- A step shows the head of what is left and leaves the tail; it always moves on; each line's bytes come in full and in order.
use Prim.Native.Nat.{ℕ, suc, ◌+◌, ◌-◌, ◌≤◌, ◌<◌}
use native.Mathlib.Omega.{arith}
use native.Mathlib.Nat.{add-sub_cancel_left}
use mathlib.Core.Path.{◌≡◌, refl, sym, ap, ◌∙◌}
use mathlib.Core.Bool.{Bool, true, false, cond}
use mathlib.Core.List.{List, [], ◌∷◌, ◌++◌}
use lib.ListN.{length, get_or, take, drop, length-drop}
use lib.Seq.{drop-cons, drop-drop, get_or-drop, length-take-le}
use lib.Dec.{leb}
use Rattle.capture.specs.Packets.{is_gap, Packet, packets, run_on, first_count, packet_end, cut_of, joined}
use Rattle.capture.specs.Steps.{earlier, by_line, due_of, capture_step, Recorded, sent, got, replies, merge, left_at, packet_from, recorded_by, sent_bytes, got_bytes}
use Rattle.capture.specs.declared.Cursor.{Cursor}
use Rattle.capture.specs.declared.Line.{Line}
use Rattle.capture.specs.declared.Line.TheVariants.{Command, Reply}
use Rattle.capture.specs.declared.Stepped.{Stepped}
use Rattle.std.specs.Prelude.{Option, Some, None}
use Rattle.capture.proofs.Listing.{first_packet, joined_packets}

-- the first packet of lists, and the packets of the rest
abbrev front : List ℕ → List ℕ → Packet
front ts bs = record { start = get_or ts 0 0; bytes = take (first_count ts) bs }

abbrev rest : List ℕ → List ℕ → List Packet
rest ts bs = packets (drop (first_count ts) ts) (drop (first_count ts) bs)

by_test : {A : Type 0} (g : Bool) (a b n : A) → cond g a b ≡ by_line (cond g (Some Command) (Some Reply)) a b n
by_test true a b n = refl
by_test false a b n = refl

merge_both : (X Y ps qs : List Packet) (p q : Packet) → X ≡ p ∷ ps → Y ≡ q ∷ qs
    → merge X Y ≡ cond (leb p.start q.start) (sent p ∷ merge ps Y) (got q ∷ merge X qs)
merge_both X Y ps qs p q e f = rw (e, f)

merge_head : (ts bs us ds : List ℕ) → length ts ≡ length bs → length us ≡ length ds
    → merge (packets ts bs) (packets us ds)
    ≡ by_line (earlier ts us) (sent (front ts bs) ∷ merge (rest ts bs) (packets us ds)) (got (front us ds) ∷ merge (packets ts bs) (rest us ds)) []
merge_head [] bs [] ds h k = refl
merge_head [] bs (u ∷ us) [] h k = absurd (omega arith)
merge_head [] bs (u ∷ us) (d ∷ ds) h k = ap replies (first_packet u d us ds (omega arith))
merge_head (t ∷ ts) [] us ds h k = absurd (omega arith)
merge_head (t ∷ ts) (b ∷ bs) [] ds h k = ap (λ (ps : List Packet). merge ps []) (first_packet t b ts bs (omega arith))
merge_head (t ∷ ts) (b ∷ bs) (u ∷ us) [] h k = absurd (omega arith)
merge_head (t ∷ ts) (b ∷ bs) (u ∷ us) (d ∷ ds) h k =
    merge_both (packets (t ∷ ts) (b ∷ bs)) (packets (u ∷ us) (d ∷ ds)) (rest (t ∷ ts) (b ∷ bs)) (rest (u ∷ us) (d ∷ ds)) (front (t ∷ ts) (b ∷ bs)) (front (u ∷ us) (d ∷ ds))
    (first_packet t b ts bs (omega arith)) (first_packet u d us ds (omega arith))
    ∙ by_test (leb t u) _ _ []

same_drop : (i : ℕ) (ts bs : List ℕ) → length ts ≡ length bs → length (drop i ts) ≡ length (drop i bs)
same_drop i ts bs h = length-drop i ts ∙ ap (λ (n : ℕ). n - i) h ∙ sym (length-drop i bs)

front_at : (i : ℕ) (ts bs : List ℕ) → front (drop i ts) (drop i bs) ≡ packet_from bs ts i
unfolding cut_of packet_end
front_at i ts bs =
    let e : i + 0 ≡ i = omega arith in
    rw (get_or-drop, add-sub_cancel_left, e)

rest_at : (i : ℕ) (ts bs : List ℕ) → rest (drop i ts) (drop i bs) ≡ packets (drop (packet_end ts i) ts) (drop (packet_end ts i) bs)
unfolding packet_end
rest_at i ts bs = rw (drop-drop _ _ ts, drop-drop _ _ bs)

by_step : {A : Type 0} (f : Option Stepped → A) (l : Option Line) (x y z : Option Stepped) → by_line l (f x) (f y) (f z) ≡ f (by_line l x y z)
by_step f (Some Command) x y z = refl
by_step f (Some Reply) x y z = refl
by_step f None x y z = refl

-- what is left is what the step shows, then what is left behind it
pub step_shows : (cs cts rs rts : List ℕ) (at : Cursor) → length cts ≡ length cs → length rts ≡ length rs
    → left_at cs cts rs rts at ≡ recorded_by cs cts rs rts at (capture_step cts rts at)
unfolding left_at due_of capture_step
step_shows cs cts rs rts at h k =
    merge_head (drop at.command cts) (drop at.command cs) (drop at.reply rts) (drop at.reply rs) (same_drop at.command cts cs h) (same_drop at.reply rts rs k)
    ∙ (rw (front_at at.command cts cs, front_at at.reply rts rs, rest_at at.command cts cs, rest_at at.reply rts rs))
    ∙ by_step (recorded_by cs cts rs rts at) (due_of cts rts at) (Some (record { line = Command; behind = record { command = packet_end cts at.command; reply = at.reply } })) (Some (record { line = Reply; behind = record { command = at.command; reply = packet_end rts at.reply } })) None

-- ---- each line's bytes come in full and in order, whatever the times
sent_none : (qs : List Packet) → sent_bytes (replies qs) ≡ []
sent_none [] = refl
sent_none (q ∷ qs) = sent_none qs

got_all : (qs : List Packet) → got_bytes (replies qs) ≡ joined qs
got_all [] = refl
got_all (q ∷ qs) = ap (λ (l : List ℕ). q.bytes ++ l) (got_all qs)

sent_test : (g : Bool) (p q : Packet) (x y : List Recorded) (l : List ℕ) → sent_bytes x ≡ l → sent_bytes y ≡ p.bytes ++ l
    → sent_bytes (cond g (sent p ∷ x) (got q ∷ y)) ≡ p.bytes ++ l
sent_test true p q x y l e f = ap (λ (m : List ℕ). p.bytes ++ m) e
sent_test false p q x y l e f = f

got_test : (g : Bool) (p q : Packet) (x y : List Recorded) (l : List ℕ) → got_bytes x ≡ q.bytes ++ l → got_bytes y ≡ l
    → got_bytes (cond g (sent p ∷ x) (got q ∷ y)) ≡ q.bytes ++ l
got_test true p q x y l e f = e
got_test false p q x y l e f = ap (λ (m : List ℕ). q.bytes ++ m) f

pub sent_merge : (ps qs : List Packet) → sent_bytes (merge ps qs) ≡ joined ps
sent_merge [] qs = sent_none qs
sent_merge (p ∷ ps) [] = ap (λ (l : List ℕ). p.bytes ++ l) (sent_merge ps [])
sent_merge (p ∷ ps) (q ∷ qs) =
    sent_test (leb p.start q.start) p q (merge ps (q ∷ qs)) (merge (p ∷ ps) qs) (joined ps) (sent_merge ps (q ∷ qs)) (sent_merge (p ∷ ps) qs)

pub got_merge : (ps qs : List Packet) → got_bytes (merge ps qs) ≡ joined qs
got_merge [] qs = got_all qs
got_merge (p ∷ ps) [] = got_merge ps []
got_merge (p ∷ ps) (q ∷ qs) =
    got_test (leb p.start q.start) p q (merge ps (q ∷ qs)) (merge (p ∷ ps) qs) (joined qs) (got_merge ps (q ∷ qs)) (got_merge (p ∷ ps) qs)

-- at any cursor the packets that are still to be shown, put together, are what is left of each capture
pub record Whole (cs cts rs rts : List ℕ) (at : Cursor) : Type 0 where
  pub command : sent_bytes (left_at cs cts rs rts at) ≡ drop at.command cs
  pub reply : got_bytes (left_at cs cts rs rts at) ≡ drop at.reply rs

pub whole_left : (cs cts rs rts : List ℕ) (at : Cursor) → length cts ≡ length cs → length rts ≡ length rs → Whole cs cts rs rts at
unfolding left_at
whole_left cs cts rs rts at h k =
    record {
      command = sent_merge (packets (drop at.command cts) (drop at.command cs)) (packets (drop at.reply rts) (drop at.reply rs)) ∙ joined_packets (drop at.command cts) (drop at.command cs) (same_drop at.command cts cs h);
      reply = got_merge (packets (drop at.command cts) (drop at.command cs)) (packets (drop at.reply rts) (drop at.reply rs)) ∙ joined_packets (drop at.reply rts) (drop at.reply rs) (same_drop at.reply rts rs k);
    }

-- ---- a step moves on, in its own capture and within it
run_test : (g : Bool) (n m : ℕ) → n ≤ m → cond g 0 (suc n) ≤ suc m
run_test true n m h = omega arith
run_test false n m h = omega arith

run_fits : (t : ℕ) (ts : List ℕ) → run_on t ts ≤ length ts
run_fits t [] = omega arith
run_fits t (u ∷ ts) = run_test (is_gap t u) (run_on u ts) (length ts) (run_fits u ts)

pub record Moved (ts : List ℕ) (i : ℕ) : Type 0 where
  pub on : i < packet_end ts i
  pub inside : packet_end ts i ≤ length ts

pub end_moves : (ts : List ℕ) (i : ℕ) → i < length ts → Moved ts i
unfolding packet_end
end_moves ts i h =
    let e : first_count (drop i ts) ≡ suc (run_on (get_or ts i 0) (drop (suc i) ts)) = rw (drop-cons ts i 0 h) in
    record {
      on = omega arith;
      inside = omega (arith, run_fits (get_or ts i 0) (drop (suc i) ts), length-drop (suc i) ts);
    }

-- the line that is due has a byte left
abbrev Has : List ℕ → List ℕ → Option Line → Type 0
Has ts us (Some Command) = 0 < length ts
Has ts us (Some Reply) = 0 < length us
Has ts us None = (length ts ≡ 0) × (length us ≡ 0)

has_test : (g : Bool) (ts us : List ℕ) → 0 < length ts → 0 < length us → Has ts us (cond g (Some Command) (Some Reply))
has_test true ts us h k = h
has_test false ts us h k = k

has_next : (ts us : List ℕ) → Has ts us (earlier ts us)
has_next [] [] = (refl, refl)
has_next [] (u ∷ us) = omega arith
has_next (t ∷ ts) [] = omega arith
has_next (t ∷ ts) (u ∷ us) = has_test (leb t u) (t ∷ ts) (u ∷ us) (omega arith) (omega arith)

-- a step passes at least one byte of its line, no more than there are, and none of the other; with no step both captures are shown in full
abbrev MovesOn : List ℕ → List ℕ → Cursor → Line → Cursor → Type 0
MovesOn cts rts at Command next = (at.command < next.command) × (next.command ≤ length cts) × (next.reply ≡ at.reply)
MovesOn cts rts at Reply next = (at.reply < next.reply) × (next.reply ≤ length rts) × (next.command ≡ at.command)

abbrev pub Progress : List ℕ → List ℕ → Cursor → Option Stepped → Type 0
Progress cts rts at (Some s) = MovesOn cts rts at s.line s.behind
Progress cts rts at None = (length cts ≤ at.command) × (length rts ≤ at.reply)

module _ (cts rts : List ℕ) (at : Cursor) where
  abbrev step_by : Option Line → Option Stepped
  step_by l =
      by_line l
      (Some (record { line = Command; behind = record { command = packet_end cts at.command; reply = at.reply } }))
      (Some (record { line = Reply; behind = record { command = at.command; reply = packet_end rts at.reply } }))
      None

  by_line_lem : (l : Option Line) → Has (drop at.command cts) (drop at.reply rts) l → Progress cts rts at (step_by l)
  by_line_lem (Some Command) h =
      let i : at.command < length cts = omega (arith, length-drop at.command cts) in
      ((end_moves cts at.command i).on, (end_moves cts at.command i).inside, refl)
  by_line_lem (Some Reply) h =
      let j : at.reply < length rts = omega (arith, length-drop at.reply rts) in
      ((end_moves rts at.reply j).on, (end_moves rts at.reply j).inside, refl)
  by_line_lem None h = (omega (arith, length-drop at.command cts), omega (arith, length-drop at.reply rts))

  pub step_moves : Progress cts rts at (capture_step cts rts at)
  unfolding capture_step due_of
  step_moves = by_line_lem (due_of cts rts at) (has_next (drop at.command cts) (drop at.reply rts))

-- where a step comes to: behind the bytes that it hands back
abbrev IsBehind : List ℕ → List ℕ → Cursor → Line → Cursor → Type 0
IsBehind cts rts at Command next = next ≡ record { command = packet_end cts at.command; reply = at.reply }
IsBehind cts rts at Reply next = next ≡ record { command = at.command; reply = packet_end rts at.reply }

abbrev pub Behind : List ℕ → List ℕ → Cursor → Option Stepped → Type 0
Behind cts rts at (Some s) = IsBehind cts rts at s.line s.behind
Behind cts rts at None = Unit {0}

behind_line : (cts rts : List ℕ) (at : Cursor) (l : Option Line) → Behind cts rts at (step_by cts rts at l)
behind_line cts rts at (Some Command) = refl
behind_line cts rts at (Some Reply) = refl
behind_line cts rts at None = tt

pub step_behind : (cts rts : List ℕ) (at : Cursor) → Behind cts rts at (capture_step cts rts at)
unfolding capture_step
step_behind cts rts at = behind_line cts rts at (due_of cts rts at)

-- a packet has as many bytes as there are from its start to its end
pub packet_length : (bs ts : List ℕ) (i : ℕ) → length ts ≡ length bs → i < length ts → packet_end ts i ≡ i + length (packet_from bs ts i).bytes
unfolding cut_of
packet_length bs ts i h k =
    let m = end_moves ts i k in
    let a = m.on in
    let b = m.inside in
    let e = length-take-le (packet_end ts i - i) (drop i bs) (omega (arith, length-drop i bs)) in
    omega arith
