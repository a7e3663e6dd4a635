-- What the functions of copies need, in the form in which the code gives it.
use Rattle.std.proofs.Common.{◌≡◌, ℕ, zero, suc, ◌+◌, ◌-◌, ◌*◌, ◌<◌, ◌≤◌, Bool, true, false, not, ◌&&◌, leb, List, ◌++◌, length, take, drop, sym, refl, ap, ◌∙◌, mul-le-mul_right, suc-mul, mul-le-mul, le_antisymm, zero-add, zero-mul, add-one, arith, length-append, length-drop, length-take-le, take_at, le-leb, leb-false, leb-true}
use borrow.Author.Tests.{not-true, not-false, lt-leb}
use Rattle.wire.proofs.Choice.{both}
use Rattle.buffer.specs.Wrote.{Wrote}
use Rattle.buffer.proofs.Writing.{sets_start}
use Rattle.buffer.proofs.Appends.{wrote_then}
use Rattle.fields.specs.Lending.{most_triple_room, is_lending}
use Rattle.trysheet.specs.Copies.{times_of, unit_length, unit_of, tail_of, copies_of, copied_of, is_copied}

-- ---- how long they are

copies_long : (n : ℕ) (u : List ℕ) → length (copies_of n u) ≡ n * length u
unfolding copies_of
copies_long zero u = sym (zero-mul (length u))
copies_long (suc n) u = length-append (copies_of n u) u ∙ ap (λ (k : ℕ). k + length u) (copies_long n u) ∙ sym (suc-mul n (length u))

copied_long : (s : List ℕ) → length (copied_of s) ≡ times_of s * length (unit_of s) + length (tail_of s)
unfolding copied_of
copied_long s = length-append (copies_of (times_of s) (unit_of s)) (tail_of s) ∙ ap (λ (k : ℕ). k + length (tail_of s)) (copies_long (times_of s) (unit_of s))

-- where the line has as many bytes as len says
copied_within : (s : List ℕ) → unit_length s ≤ length (drop 6 s) → length (copied_of s) ≡ times_of s * unit_length s + (length (drop 6 s) - unit_length s)
copied_within s h =
    copied_long s
    ∙ ap (λ (k : ℕ). times_of s * k + length (tail_of s)) (length-take-le (unit_length s) (drop 6 s) h)
    ∙ ap (λ (k : ℕ). times_of s * unit_length s + k) (length-drop (unit_length s) (drop 6 s))

-- ---- whether they fit

-- two bytes times one
pub product_below : (t l : ℕ) → t < 65536 → l < 256 → t * l < 16777216
product_below t l h k =
    let p : t * l ≤ 65535 * 255 = mul-le-mul {n₁ = t} {m₁ = l} {n₂ = 65535} {m₂ = 255} (omega arith) (omega arith) in
    omega arith

-- ---- whether a line is of the form

pub not_lending : (s : List ℕ) (most : ℕ) (t : Bool) → t ≡ is_lending s 6 most_triple_room → not t ≡ true → false ≡ is_copied s most
unfolding is_copied
not_lending s most t e h = rw (← e, not-true t h)

module _ (s said : List ℕ) (most len : ℕ) (t : Bool) (p : t ≡ is_lending s 6 most_triple_room) (h : not t ≡ false) (e : said ≡ drop 6 s) (f : len ≡ unit_length s) where
  pub len_past : length said < len → false ≡ is_copied s most
  unfolding is_copied
  len_past k = rw (← p, not-false t h, ← e, ← f, lt-leb len (length said) k)

  pub copied_fits : (w : ℕ) (r : Bool) → len ≤ length said → w ≡ times_of s → r ≡ leb (w * len + (length said - len)) most → r ≡ is_copied s most
  unfolding is_copied
  copied_fits w r k g q =
      let b : unit_length s ≤ length (drop 6 s) = rw (← e, ← f) k in
      rw (← p, not-false t h, le-leb (unit_length s) (length (drop 6 s)) b, copied_within s b, ← e, ← f, ← g) q

-- a line of the form says no more than the most
pub copied_most : (s : List ℕ) (most : ℕ) (t : Bool) → t ≡ is_copied s most → t ≡ true → length (copied_of s) ≤ most
unfolding is_copied
copied_most s most t e h =
    let fit : Bool = leb (length (copied_of s)) most in
    let there : Bool = leb (unit_length s) (length (drop 6 s)) in
    leb-true (length (copied_of s)) most (both there fit (both (is_lending s 6 most_triple_room) (there && fit) (sym e ∙ h)).1).1

-- ---- one copy behind the other

pub copies_none : (u out : List ℕ) → Wrote (copies_of 0 u) 0 out 0 out
unfolding copies_of
copies_none u out = record { behind = refl; bytes = λ h. refl; long = refl }

module _ (u out now : List ℕ) (i at : ℕ) (w : Wrote (copies_of i u) 0 out at now) where
  -- the next one has room
  pub copy_fits : (n : ℕ) → n * length u ≤ length out → i < n → at + length u ≤ length now
  copy_fits n h k =
      let m : suc i * length u ≤ n * length u = mul-le-mul_right (length u) k in
      omega (arith, suc-mul i (length u), copies_long i u, w.behind, w.long)

  pub copies_more : (r : ℕ) (left : List ℕ) → Wrote u at now r left → Wrote (copies_of (i + 1) u) 0 out r left
  unfolding copies_of
  copies_more r left e = rw add-one (wrote_then w e)

  pub copies_all : (n : ℕ) → i ≤ n → n ≤ i → Wrote (copies_of n u) 0 out at now
  copies_all n h k = rw (← (le_antisymm h k)) w

-- ---- and the tail behind them

module _ (s said unit out : List ℕ) (len w : ℕ) (e : said ≡ drop 6 s) (f : len ≡ unit_length s) (g : unit ≡ take len said) (h : w ≡ times_of s)
    (room : length (copied_of s) ≤ length out) where
  -- all copies have room
  pub copies_fit : w * length unit ≤ length out
  copies_fit = rw (h, g, f, e) (omega (arith, copied_long s))

  module _ (now tail : List ℕ) (at : ℕ) (p : Wrote (copies_of w unit) 0 out at now) (q : tail ≡ drop len said) where
    said_all : copies_of w unit ++ tail ≡ copied_of s
    unfolding copied_of
    said_all = rw (h, q, g, f, e)

    -- so has the tail
    pub tail_fits : at + length tail ≤ length now
    tail_fits = omega (arith, p.behind, p.long, ap length said_all, length-append (copies_of w unit) tail)

    -- what is laid is what the line says
    pub copied_laid : (r : ℕ) (left : List ℕ) → Wrote tail at now r left → take r left ≡ copied_of s
    copied_laid r left d =
        let all : Wrote (copied_of s) 0 out r left = rw (← said_all) (wrote_then p d) in
        rw (all.bytes (rw zero-add room), sets_start out (copied_of s) room)
        (take_at (copied_of s) (drop (length (copied_of s)) out) r (sym (all.behind ∙ zero-add (length (copied_of s)))))
