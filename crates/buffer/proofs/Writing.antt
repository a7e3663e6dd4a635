-- A packet laid out by stores, and what writing it leaves in the buffer: `packet::build`, `reply::reply`.
use Rattle.std.proofs.Common.{append_assoc, ◌≡◌, ℕ, suc, ◌+◌, ◌-◌, ◌<◌, ◌≤◌, Bool, true, false, cond, ltb, List, [], ◌∷◌, ◌++◌, length, take, drop, set, sym, refl, ap, ◌∙◌, le_of_suc-le-suc, not-suc-le-zero, add-zero, add-suc, suc-add, zero-add, arith, length-append, length-drop, drop-drop, take_at, ltb-false, le-ltb, lt-ltb, Result, Ok, Err}
use borrow.Rule.Slice.PartMut.{put_mid}
use Rattle.wire.specs.Numbers.{number_by}
use lib.Seq.{paste, sets, sets-eq, length-sets, length-paste, take-length}
use Rattle.wire.specs.Promise.{Outcome, Lending, lent}
use Rattle.buffer.specs.Buffer.{put_of, at_start, refused, written}
use Rattle.wire.specs.declared.refusal.Refusal.{Refusal}
use Rattle.wire.specs.declared.refusal.Refusal.TheVariants.{Room}
use Rattle.wire.proofs.Choice.{chose_second}
use Rattle.wire.proofs.Impossible.{impossible}

laid_tail : (d r : List ℕ) (m : ℕ) → length d < length r
    → set (take (length d) d ++ drop (length d) r) (length d) m ≡ (d ++ (m ∷ [])) ++ drop (suc (length d)) r
laid_tail [] [] m h = absurd (not-suc-le-zero h)
laid_tail [] (x ∷ r) m h = refl
laid_tail (y ∷ d) [] m h = absurd (not-suc-le-zero h)
laid_tail (y ∷ d) (x ∷ r) m h = ap (λ (l : List ℕ). y ∷ l) (laid_tail d r m (le_of_suc-le-suc h))

laid_behind : (p d r : List ℕ) (m : ℕ) → length d < length r
    → set (paste (p ++ r) (length p) d (length d)) (length p + length d) m ≡ (p ++ (d ++ (m ∷ []))) ++ drop (suc (length d)) r
laid_behind [] d r m h = rw zero-add (laid_tail d r m h)
laid_behind (x ∷ p) d r m h = rw suc-add (ap (λ (l : List ℕ). x ∷ l) (laid_behind p d r m h))

-- d has room, from `at` on
pub put_fits : (out : List ℕ) (at : ℕ) (d : List ℕ) → at + length d ≤ length out → put_of out at d ≡ paste out at d (length d)
unfolding put_of
put_fits out at d h = rw (le-ltb (length out) (at + length d) h, take-length)

-- m, which is d, written in the place of as many bytes
pub put_copied : (out : List ℕ) (at : ℕ) (d m : List ℕ) → m ≡ d → at + length d ≤ length out → put_mid at (at + length d - at) out m ≡ put_of out at d
unfolding put_of
put_copied out at d m e h =
    let n : at + length d - at ≡ length d = omega arith in
    rw (n, e, le-ltb (length out) (at + length d) h, drop-drop, append_assoc)

-- it has none
pub put_not : (out : List ℕ) (at : ℕ) (d : List ℕ) → length out < at + length d → out ≡ put_of out at d
unfolding put_of
put_not out at d h = rw (lt-ltb (length out) (at + length d) h)

pub length_put : (out : List ℕ) (at : ℕ) (d : List ℕ) → at + length d ≤ length out → length (put_of out at d) ≡ length out
length_put out at d h = ap length (put_fits out at d h) ∙ length-paste out at d (length d) h (omega arith)

-- d stored from the start on
pub sets_start : (out d : List ℕ) → length d ≤ length out → sets out 0 d ≡ d ++ drop (length d) out
sets_start out d h = rw zero-add at (sets-eq d out 0 (rw zero-add h))

-- p by single stores, d put behind it, and m behind that
pub laid : (p d out o : List ℕ) (m e : ℕ) → o ≡ put_of (sets out 0 p) (length p) d → e ≡ suc (length p + length d) → e ≤ length out
    → set o (length p + length d) m ≡ (p ++ (d ++ (m ∷ []))) ++ drop e out
laid p d out o m e f g k =
    let w : length p + suc (length d) ≡ e = omega arith in
    let r : put_of (sets out 0 p) (length p) d ≡ paste (sets out 0 p) (length p) d (length d) =
    put_fits (sets out 0 p) (length p) d (omega (arith, length-sets out 0 p)) in
    ap (λ (l : List ℕ). set l (length p + length d) m) (f ∙ r ∙ ap (λ (l : List ℕ). paste l (length p) d (length d)) (sets_start out p (omega arith)))
    ∙ laid_behind p d (drop (length p) out) m (rw length-drop (omega arith))
    ∙ ap (λ (l : List ℕ). (p ++ (d ++ (m ∷ []))) ++ l) (drop-drop (suc (length d)) (length p) out ∙ ap (λ (n : ℕ). drop n out) w)

-- a packet p that is longer than the buffer
pub no_room : (p out : List ℕ) → length out < length p → Lending number_by (Err Room) out (written p out)
unfolding written
no_room p out h = lent (rw (lt-ltb (length out) (length p) h))

-- a packet p of n bytes that fits, and stands at the start of what is left
pub has_room_lem : (p out : List ℕ) (n : ℕ) (o : List ℕ) → length p ≡ n → n ≤ length out → o ≡ p ++ drop n out → Lending number_by (Ok n) o (written p out)
unfolding written
has_room_lem p out n o e h f = lent (rw (le-ltb (length out) (length p) (omega arith), e, f))

-- a packet that has room is written
pub written_fits : (p out : List ℕ) → length p ≤ length out → written p out ≡ at_start p out
unfolding written
written_fits p out h = rw (le-ltb (length out) (length p) h)

-- a builder answered n bytes, number 0, and left this
abbrev pub wrote : ℕ → List ℕ → Outcome (Result ℕ Refusal) (List ℕ)
wrote n left = record { answer = Ok n; left = left }

pub wrote_not : (why : Refusal) (out left : List ℕ) (n : ℕ) → refused why out ≡ wrote n left → ⊥
wrote_not why out left n e =
    let f : Err why ≡ Ok n = ap (λ (o : Outcome (Result ℕ Refusal) (List ℕ)). o.answer) e in
    impossible cc

-- then the packet has n bytes
pub written_count : (p out left : List ℕ) (n : ℕ) → written p out ≡ wrote n left → length p ≡ n
unfolding written
written_count p out left n e =
    let w = (chose_second (ltb (length out) (length p)) e (wrote_not Room out left n)).1 in
    let b : Ok (length p) ≡ Ok n = ap (λ (o : Outcome (Result ℕ Refusal) (List ℕ)). o.answer) w in
    cc

-- which are the first of what is left
pub written_wrote : (p out left : List ℕ) (n : ℕ) → written p out ≡ wrote n left → take n left ≡ p
unfolding written
written_wrote p out left n e =
    let w = (chose_second (ltb (length out) (length p)) e (wrote_not Room out left n)).1 in
    rw (← (ap (λ (o : Outcome (Result ℕ Refusal) (List ℕ)). o.left) w)) (take_at p (drop (length p) out) n (written_count p out left n e))

at_start_long : (t : Bool) (p out : List ℕ) → ltb (length out) (length p) ≡ t → length (cond t (refused Room out) (at_start p out)).left ≡ length out
at_start_long true p out e = refl
at_start_long false p out e =
    let h : length p ≤ length out = ltb-false (length out) (length p) e in
    omega (arith, length-append p (drop (length p) out), length-drop (length p) out)

-- a buffer to which something was written, or refused, keeps its length
pub written_long : (p out : List ℕ) → length (written p out).left ≡ length out
unfolding written
written_long p out = at_start_long (ltb (length out) (length p)) p out refl

-- d is stored, and e behind it
pub sets_append : (l : List ℕ) (i : ℕ) (d e : List ℕ) → sets (sets l i d) (i + length d) e ≡ sets l i (d ++ e)
sets_append l i [] e = ap (λ (k : ℕ). sets l k e) (add-zero i)
sets_append l i (x ∷ d) e = ap (λ (k : ℕ). sets (sets l i (x ∷ d)) k e) (add-suc i (length d) ∙ sym (suc-add i (length d))) ∙ sets_append _ (suc i) d e
