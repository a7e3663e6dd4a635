-- What the exits of the functions on answers need, in the form in which the code gives it.
use Rattle.std.proofs.Common.{◌≡◌, ℕ, ◌+◌, ◌/◌, ◌%◌, ◌<◌, ◌≤◌, List, [], ◌∷◌, length, get_or, take, drop, refl, arith, add-one, drop-cons, drop_of_length-le}
use Rattle.std.specs.Int.{w16, w32, w64, to_le_bytes}
use Rattle.std.specs.List.{fold}
use Rattle.fields.specs.declared.answer.Answer.{Answer}
use Rattle.fields.specs.Answer.{answer_put, answer_put_word, answer_put_triple, answer_put_long, answer_put_all}

-- bytes are put one after the other
pub folded : (a : Answer) (s : List ℕ) → fold answer_put a s ≡ answer_put_all a s
unfolding answer_put_all
folded a [] = refl
folded a (b ∷ s) = folded (answer_put a b) s

-- one byte of them more
pub all_more : (a a₀ m : Answer) (s : List ℕ) (i : ℕ) → answer_put_all a (drop i s) ≡ answer_put_all a₀ s → m ≡ answer_put a (get_or s i 0) → i < length s
    → answer_put_all m (drop (i + 1) s) ≡ answer_put_all a₀ s
unfolding answer_put_all
all_more a a₀ m s i e p h = rw (p, add-one, ← e, drop-cons s i 0 h)

-- all of them are put
pub all_put : (a a₀ : Answer) (s : List ℕ) (i : ℕ) → answer_put_all a (drop i s) ≡ answer_put_all a₀ s → length s ≤ i → a ≡ answer_put_all a₀ s
unfolding answer_put_all
all_put a a₀ s i e h = rw (← e, drop_of_length-le s h)

-- the bytes of a number, the least significant first
module _ (a r : Answer) (s : List ℕ) (n : ℕ) where
  pub word_put : n < 65536 → s ≡ to_le_bytes w16 n → r ≡ answer_put_all a s → r ≡ answer_put_word a n
  unfolding answer_put_all
  word_put h f e = let k : n / 256 % 256 ≡ n / 256 = omega arith in rw (e, f, k)

  pub triple_put : s ≡ to_le_bytes w64 n → r ≡ answer_put_all a (take 3 s) → r ≡ answer_put_triple a n
  unfolding answer_put_all
  triple_put f e =
      let k₁ : n % 65536 % 256 ≡ n % 256 = omega arith in
      let k₂ : n % 65536 / 256 ≡ n / 256 % 256 = omega arith in
      rw (e, f, k₁, k₂)

  pub long_put : n < 4294967296 → s ≡ to_le_bytes w32 n → r ≡ answer_put_all a s → r ≡ answer_put_long a n
  unfolding answer_put_all
  long_put h f e =
      let k₁ : n % 65536 % 256 ≡ n % 256 = omega arith in
      let k₂ : n % 65536 / 256 ≡ n / 256 % 256 = omega arith in
      let k₃ : n / 65536 / 256 ≡ n / 16777216 % 256 = omega arith in
      rw (e, f, k₁, k₂, k₃)
