-- Words as signed integers, sign_extend of document 004, and unsigned sums that wrap at 2^32 (document 01, Machine).
use Rattle.std.specs.Prelude.{ℕ, suc, ◌+◌, ◌-◌, ◌%◌, ◌^◌, Bool, cond, ◌&&◌, ℤ, pos, negsuc, neg_ℤ, int_le, int_lt, nat_lt}
use Rattle.std.proofs.Math.IntN.{sub_ℕ}

-- the signed integer that k bits stand for: x, or x - 2^k where the top bit is set
unfoldable pub signed_of : ℕ → ℕ → ℤ
signed_of k x = cond (nat_lt x (2 ^ (k - 1))) (pos x) (sub_ℕ x (2 ^ k))

-- z is the signed integer of some k bits: -2^(k-1) ≤ z < 2^(k-1)
abbrev pub fits_of : ℕ → ℤ → Bool
fits_of k z = int_le (neg_ℤ (pos (2 ^ (k - 1)))) z && int_lt z (pos (2 ^ (k - 1)))

-- the number of k bits that differs from z by a multiple of 2^k
abbrev pub wrap_of : ℕ → ℤ → ℕ
wrap_of k (pos n) = n % 2 ^ k
wrap_of k (negsuc n) = 2 ^ k - suc (n % 2 ^ k)

-- sign_extend of the low k bits: the word that stands for the same signed integer
unfoldable pub extend_of : ℕ → ℕ → ℕ
extend_of k x = wrap_of 32 (signed_of k (x % 2 ^ k))

abbrev pub sum_of : ℕ → ℕ → ℕ
sum_of a b = (a + b) % 2 ^ 32

abbrev pub difference_of : ℕ → ℕ → ℕ
difference_of a b = (a + 2 ^ 32 - b) % 2 ^ 32
