-- What a call promises: the answer that the rules give, the paper's number of it, and what it leaves in what was lent.
use Rattle.std.specs.Prelude.{ℕ, ◌≡◌}
use Rattle.std.proofs.Common.{ap}

-- r is the answer that the rules give, and has its number
pub record Promise {A : Type 0} (number : A → ℕ) (r given : A) : Type 0 where
  pub answer : r ≡ given
  pub numbered : number r ≡ number given

-- an answer, and what the lent buffer or table then holds
pub record Outcome (A B : Type 0) : Type 0 where
  pub answer : A
  pub left : B

-- r is the answer that the rules give, has its number, and what was lent holds what they give
pub record Lending {A B : Type 0} (number : A → ℕ) (r : A) (left : B) (given : Outcome A B) : Type 0 where
  pub answer : r ≡ given.answer
  pub numbered : number r ≡ number given.answer
  pub leaves : left ≡ given.left

-- one equation is enough for each of them
pub promised : {A : Type 0} {number : A → ℕ} {r given : A} → r ≡ given → Promise number r given
promised {A} {number} e = record { answer = e; numbered = ap number e }

pub lent : {A B : Type 0} {number : A → ℕ} {r : A} {left : B} {given : Outcome A B}
    → record { answer = r; left = left } ≡ given → Lending number r left given
lent {A} {B} {number} e =
    record { answer = ap (λ (o : Outcome A B). o.answer) e; numbered = ap (λ (o : Outcome A B). number o.answer) e; leaves = ap (λ (o : Outcome A B). o.left) e }
