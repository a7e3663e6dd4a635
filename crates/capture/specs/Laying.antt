-- Document 02, 3: a recording with gaps as they are asked for: "a packet begins with a capture's first byte or after a gap of 2 ms or more".
use Rattle.std.specs.Prelude.{ℕ, ◌+◌, ◌≤◌, ◌<◌, List, [], ◌∷◌, ◌++◌, ◌≡◌, length}
use Rattle.capture.specs.Traces.{Traced, commanded, replied}

-- what holds of the next time on a line, if there is one
abbrev pub OnFirst : (ℕ → Type 0) → List ℕ → Type 0
OnFirst holds [] = Unit {0}
OnFirst holds (t ∷ ts) = holds t

-- the times of a packet behind its byte of time t, each less than 2 ms after the one before; the next packet on its line starts 2 ms or more after the last
abbrev pub Close : ℕ → List ℕ → List ℕ → Type 0
Close t [] next = OnFirst (λ u. t + 2 ≤ u) next
Close t (u ∷ ts) next = (t ≤ u) × (u < t + 2) × Close u ts next

-- packets recorded as bytes and times of both lines, each with a byte at least: "at equal times the command comes first", so a command starts no later than
-- the next reply, and a reply earlier than the next command
pub data Laid : List Traced → List ℕ → List ℕ → List ℕ → List ℕ → Type 0 where
  nothing : Laid [] [] [] [] []
  command : {xs : List Traced} {cs cts rs rts : List ℕ} (t b : ℕ) (ts bs : List ℕ) → length ts ≡ length bs → Close t ts cts → OnFirst (λ u. t ≤ u) rts
      → Laid xs cs cts rs rts → Laid (commanded (b ∷ bs) ∷ xs) (b ∷ (bs ++ cs)) (t ∷ (ts ++ cts)) rs rts
  reply : {xs : List Traced} {cs cts rs rts : List ℕ} (t b : ℕ) (ts bs : List ℕ) → length ts ≡ length bs → Close t ts rts → OnFirst (λ u. t < u) cts
      → Laid xs cs cts rs rts → Laid (replied (b ∷ bs) ∷ xs) cs cts (b ∷ (bs ++ rs)) (t ∷ (ts ++ rts))

-- such a recording of some packets
pub record Laying (xs : List Traced) : Type 0 where
  pub cs : List ℕ
  pub cts : List ℕ
  pub rs : List ℕ
  pub rts : List ℕ
  pub laid : Laid xs cs cts rs rts

-- each has a byte at least
abbrev pub HasByte : Traced → Type 0
HasByte (commanded p) = 1 ≤ length p
HasByte (replied p) = 1 ≤ length p

-- and so all of them
abbrev pub NoneEmpty : List Traced → Type 0
NoneEmpty [] = Unit {0}
NoneEmpty (x ∷ xs) = HasByte x × NoneEmpty xs
