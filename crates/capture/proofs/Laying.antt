-- A recording with gaps as they are asked for isn't refused, and is cut into the packets that it was made of, in their order; and any packets can be so recorded.
use Prim.Native.Nat.{ℕ, ◌+◌, ◌≤◌, ◌<◌}
use native.Mathlib.Omega.{arith}
use mathlib.Core.Bool.{Bool, true, false, cond}
use mathlib.Core.List.{List, [], ◌∷◌, ◌++◌}
use mathlib.Core.Path.{◌≡◌, refl, ap}
use lib.ListN.{length, length-append}
use borrow.Author.Tests.{le-leb, lt-leb, le-ltb, eq-eqb}
use Rattle.capture.specs.Packets.{is_gap, Packet, onto, packets}
use Rattle.capture.specs.Checks.{rises_from, is_rising, check_of}
use Rattle.capture.specs.Steps.{sent, got, merge, outset, left_at}
use Rattle.capture.specs.Traces.{Traced, commanded, replied, traced_of}
use Rattle.capture.specs.Laying.{OnFirst, Close, Laid, nothing, command, reply, Laying, NoneEmpty}
use Rattle.std.specs.Prelude.{Ok}

-- ---- the packets

pub laid_packet : (t b : ℕ) (ts bs cts cs : List ℕ) → length ts ≡ length bs → Close t ts cts
    → packets (t ∷ (ts ++ cts)) (b ∷ (bs ++ cs)) ≡ record { start = t; bytes = b ∷ bs } ∷ packets cts cs
laid_packet t b [] [] [] cs e h = refl
laid_packet t b [] [] (u ∷ cts) cs e h = rw (le-leb (t + 2) u h)
laid_packet t b [] (c ∷ bs) cts cs e h = absurd (omega arith)
laid_packet t b (u ∷ ts) [] cts cs e h = absurd (omega arith)
laid_packet t b (u ∷ ts) (c ∷ bs) cts cs e h = rw (lt-leb (t + 2) u h.1, laid_packet u c ts bs cts cs (omega arith) h.2)

-- the first packet of a capture starts with its first byte
abbrev StartsSo : (ℕ → Type 0) → List Packet → Type 0
StartsSo holds [] = Unit {0}
StartsSo holds (p ∷ ps) = holds p.start

onto_starts : (holds : ℕ → Type 0) (t b : ℕ) (ps : List Packet) → holds t → StartsSo holds (onto t b ps)
onto_starts holds t b [] h = h
onto_starts holds t b (p ∷ ps) h = h

gap_starts : (g : Bool) (holds : ℕ → Type 0) (t b : ℕ) (ps : List Packet) → holds t → StartsSo holds (cond g (record { start = t; bytes = b ∷ [] } ∷ ps) (onto t b ps))
gap_starts true holds t b ps h = h
gap_starts false holds t b ps h = onto_starts holds t b ps h

starts_so_lem : (holds : ℕ → Type 0) (ts bs : List ℕ) → OnFirst holds ts → StartsSo holds (packets ts bs)
starts_so_lem holds [] bs h = tt
starts_so_lem holds (t ∷ ts) [] h = tt
starts_so_lem holds (t ∷ []) (b ∷ bs) h = h
starts_so_lem holds (t ∷ u ∷ ts) (b ∷ bs) h = gap_starts (is_gap t u) holds t b (packets (u ∷ ts) bs) h

-- which of two is handed back first
command_first : (p : Packet) (ps qs : List Packet) → StartsSo (λ u. p.start ≤ u) qs → merge (p ∷ ps) qs ≡ sent p ∷ merge ps qs
command_first p ps [] h = refl
command_first p ps (q ∷ qs) h = rw (le-leb p.start q.start h)

reply_first : (q : Packet) (ps qs : List Packet) → StartsSo (λ u. q.start < u) ps → merge ps (q ∷ qs) ≡ got q ∷ merge ps qs
reply_first q [] qs h = refl
reply_first q (p ∷ ps) qs h = rw (lt-leb p.start q.start h)

laid_merges : {xs : List Traced} {cs cts rs rts : List ℕ} → Laid xs cs cts rs rts → traced_of (merge (packets cts cs) (packets rts rs)) ≡ xs
laid_merges nothing = refl
laid_merges (command {cs = cs} {cts = cts} {rs = rs} {rts = rts} t b ts bs e h f l) =
    rw (laid_packet t b ts bs cts cs e h, command_first (record { start = t; bytes = b ∷ bs }) (packets cts cs) (packets rts rs) (starts_so_lem (λ u. t ≤ u) rts rs f))
    (ap (λ (xs : List Traced). commanded (b ∷ bs) ∷ xs) (laid_merges l))
laid_merges (reply {cs = cs} {cts = cts} {rs = rs} {rts = rts} t b ts bs e h f l) =
    rw (laid_packet t b ts bs rts rs e h, reply_first (record { start = t; bytes = b ∷ bs }) (packets cts cs) (packets rts rs) (starts_so_lem (λ u. t < u) cts cs f))
    (ap (λ (xs : List Traced). replied (b ∷ bs) ∷ xs) (laid_merges l))

pub laid_packets : {xs : List Traced} {cs cts rs rts : List ℕ} → Laid xs cs cts rs rts → traced_of (left_at cs cts rs rts outset) ≡ xs
unfolding left_at
laid_packets l = laid_merges l

-- ---- the checks

-- what follows of the next time on a line
on_first_lem : (P Q : ℕ → Type 0) → ((t : ℕ) → P t → Q t) → (ts : List ℕ) → OnFirst P ts → OnFirst Q ts
on_first_lem P Q f [] h = tt
on_first_lem P Q f (t ∷ ts) h = f t h

later : (t : ℕ) (ts : List ℕ) → OnFirst (λ u. t + 2 ≤ u) ts → OnFirst (λ u. t ≤ u) ts
later t = on_first_lem (λ u. t + 2 ≤ u) (λ u. t ≤ u) (λ u h. omega arith)

record Sound (bs ts : List ℕ) : Type 0 where
  even : length bs ≡ length ts
  rises : (t : ℕ) → OnFirst (λ u. t ≤ u) ts → rises_from t ts ≡ true

close_rises : (t : ℕ) (ts next : List ℕ) → Close t ts next → ((u : ℕ) → OnFirst (λ v. u ≤ v) next → rises_from u next ≡ true) → rises_from t (ts ++ next) ≡ true
close_rises t [] next h f = f t (later t next h)
close_rises t (u ∷ ts) next h f = rw (le-ltb u t h.0) (close_rises u ts next h.2 f)

sound_packet : (t b : ℕ) (ts bs cts cs : List ℕ) → length ts ≡ length bs → Close t ts cts → Sound cs cts → Sound (b ∷ (bs ++ cs)) (t ∷ (ts ++ cts))
sound_packet t b ts bs cts cs e h s = record {
  even = omega (arith, s.even, length-append bs cs, length-append ts cts);
  rises = λ u l. rw (le-ltb t u l) (close_rises t ts cts h s.rises);
}

record BothSound (cs cts rs rts : List ℕ) : Type 0 where
  commands : Sound cs cts
  replies : Sound rs rts

laid_sound : {xs : List Traced} {cs cts rs rts : List ℕ} → Laid xs cs cts rs rts → BothSound cs cts rs rts
laid_sound nothing = let s : Sound [] [] = record { even = refl; rises = λ t h. refl } in record { commands = s; replies = s }
laid_sound (command {cs = cs} {cts = cts} t b ts bs e h f l) =
    let s = laid_sound l in
    record { commands = sound_packet t b ts bs cts cs e h s.commands; replies = s.replies }
laid_sound (reply {rs = rs} {rts = rts} t b ts bs e h f l) =
    let s = laid_sound l in
    record { commands = s.commands; replies = sound_packet t b ts bs rts rs e h s.replies }

any_first : (ts : List ℕ) → OnFirst (λ u. 0 ≤ u) ts
any_first [] = tt
any_first (t ∷ ts) = omega arith

pub laid_good : {xs : List Traced} {cs cts rs rts : List ℕ} → Laid xs cs cts rs rts → check_of cs cts rs rts ≡ Ok tt
unfolding check_of is_rising
laid_good {cs = cs} {cts = cts} {rs = rs} {rts = rts} l =
    let s = laid_sound l in
    rw (eq-eqb _ _ s.commands.even, eq-eqb _ _ s.replies.even, s.commands.rises 0 (any_first cts), s.replies.rises 0 (any_first rts))

-- ---- there are such recordings

-- all bytes of a packet at one time
at_once : ℕ → List ℕ → List ℕ
at_once t [] = []
at_once t (b ∷ bs) = t ∷ at_once t bs

once_length : (t : ℕ) (bs : List ℕ) → length (at_once t bs) ≡ length bs
unfolding at_once
once_length t [] = refl
once_length t (b ∷ bs) = omega (arith, once_length t bs)

once_close : (t : ℕ) (bs next : List ℕ) → OnFirst (λ u. t + 2 ≤ u) next → Close t (at_once t bs) next
unfolding at_once
once_close t [] next h = h
once_close t (b ∷ bs) next h = (omega arith, omega arith, once_close t bs next h)

-- from a time on
record LaidFrom (t : ℕ) (xs : List Traced) : Type 0 where
  laying : Laying xs
  commands : OnFirst (λ u. t ≤ u) laying.cts
  replies : OnFirst (λ u. t ≤ u) laying.rts

lay : (xs : List Traced) → NoneEmpty xs → (t : ℕ) → LaidFrom t xs
lay [] h t = record { laying = record { cs = []; cts = []; rs = []; rts = []; laid = nothing }; commands = tt; replies = tt }
lay (commanded [] ∷ xs) h t = absurd (let z = h.0 in omega arith)
lay (commanded (b ∷ bs) ∷ xs) h t =
    let f = lay xs h.1 (t + 2) in
    let l = f.laying in
    let r = later t l.rts f.replies in
    record {
      laying = record {
        cs = b ∷ (bs ++ l.cs);
        cts = t ∷ (at_once t bs ++ l.cts);
        rs = l.rs;
        rts = l.rts;
        laid = command t b (at_once t bs) bs (once_length t bs) (once_close t bs l.cts f.commands) r l.laid;
      };
      commands = omega arith;
      replies = r;
    }
lay (replied [] ∷ xs) h t = absurd (let z = h.0 in omega arith)
lay (replied (b ∷ bs) ∷ xs) h t =
    let f = lay xs h.1 (t + 2) in
    let l = f.laying in
    record {
      laying = record {
        cs = l.cs;
        cts = l.cts;
        rs = b ∷ (bs ++ l.rs);
        rts = t ∷ (at_once t bs ++ l.rts);
        laid =
            reply t b (at_once t bs) bs (once_length t bs) (once_close t bs l.rts f.replies)
            (on_first_lem (λ u. t + 2 ≤ u) (λ u. t < u) (λ u h. omega arith) l.cts f.commands) l.laid;
      };
      commands = later t l.cts f.commands;
      replies = omega arith;
    }

pub can_be_laid : (xs : List Traced) → NoneEmpty xs → Laying xs
can_be_laid xs h = (lay xs h 0).laying
