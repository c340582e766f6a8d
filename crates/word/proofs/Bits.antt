-- Laws of masks and of numbers joined by `or`, over the width.
use Rattle.std.proofs.Common.{◌≡◌, ℕ, ◌+◌, ◌-◌, ◌*◌, ◌/◌, ◌%◌, ◌^◌, ◌<◌, ◌≤◌, ap, ◌∙◌, arith, shl_exact}
use lib.Bits.{bit_and, bit_or, and_mod, and_zero_r, or_shifted}
use lib.Pow.{split}
use Rattle.std.proofs.lemmas.Nat.{shl_below}

-- a masked number is a multiple of each power of two that divides the mask
pub mask_multiple : (k v m : ℕ) → m % 2 ^ k ≡ 0 → bit_and v m % 2 ^ k ≡ 0
mask_multiple k v m h = and_mod v m k ∙ ap (bit_and (v % 2 ^ k)) h ∙ and_zero_r (v % 2 ^ k)

-- or of a multiple of 2^k and a number below 2^k is their sum
pub or_sum : (k a b : ℕ) → a % 2 ^ k ≡ 0 → b < 2 ^ k → bit_or a b ≡ a + b
or_sum k a b ha hb = rw (← whole) (or_shifted (a / 2 ^ k) k b hb)
  where
    whole : a / 2 ^ k * 2 ^ k ≡ a
    whole = let e : a / 2 ^ k * 2 ^ k + a % 2 ^ k ≡ a = split a k in omega arith

-- `x | b`, where x, which is s, has no ones among the k bits that b has
pub below : (k : ℕ) {x s b : ℕ} → x ≡ s → s % 2 ^ k ≡ 0 → b < 2 ^ k → bit_or x b ≡ s + b
below k {x} {s} {b} e h l = rw e (or_sum k s b h l)

-- `x | (a << k)` at 32 bits, where a has j bits
pub shifted_below : (j k : ℕ) {a x s : ℕ} → x ≡ s → s % 2 ^ (j + k) ≡ 0 → a < 2 ^ j → j + k ≤ 32 → bit_or x (a * 2 ^ k % 2 ^ 32) ≡ s + a * 2 ^ k
shifted_below j k {a} e h l w = rw (shl_exact {a = a} j k 32 l w) (below (j + k) e h (shl_below a j k l))

-- `(v << k) | x` at 32 bits, where v and x fit their places
pub append : (k v x : ℕ) → k < 32 → v < 2 ^ (32 - k) → x < 2 ^ k → bit_or (v * 2 ^ k % 2 ^ 32) x ≡ v * 2 ^ k + x
append k v x h hv hx = rw (shl_exact {a = v} (32 - k) k 32 hv (omega arith)) (or_shifted v k x hx)
