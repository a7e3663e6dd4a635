-- The bytes of an item, least significant first: how many they are, and the value that they give.
use Rattle.std.proofs.Common.{◌≡◌, ℕ, zero, suc, ◌+◌, ◌*◌, ◌/◌, ◌^◌, ◌<◌, List, [], ◌∷◌, length, refl, ap, div-lt_iff_lt-mul, pow-suc, arith}
use Rattle.reply.specs.Items.{bytes_of}

pub bytes_length : (n w : ℕ) → length (bytes_of n w) ≡ n
bytes_length zero w = refl
bytes_length (suc n) w = ap suc (bytes_length n (w / 256))

-- the value that bytes give, least significant first
abbrev pub wide_of : List ℕ → ℕ
wide_of [] = 0
wide_of (x ∷ l) = x + wide_of l * 256

-- a value that has room in its bytes comes back from them
pub bytes_back : (n w : ℕ) → w < 256 ^ n → wide_of (bytes_of n w) ≡ w
bytes_back zero w h = omega arith
bytes_back (suc n) w h =
    let k : w / 256 < 256 ^ n = (div-lt_iff_lt-mul {k = 256} {x = w} {y = 256 ^ n} (omega arith)).1 (rw pow-suc at h) in
    omega (arith, bytes_back n (w / 256) k)
