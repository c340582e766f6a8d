-- A signed sum or difference, wrapped, is the unsigned one, wrapped.
use Rattle.std.proofs.Common.{◌≡◌, ℕ, zero, suc, ◌+◌, ◌-◌, ◌*◌, ◌/◌, ◌%◌, ◌^◌, ◌<◌, ◌≤◌, ℤ, pos, negsuc, ◌+ℤ◌, ◌-ℤ◌, neg_ℤ, ap, ◌∙◌, ⊎_elim, arith, le-ltb, lt-ltb}
use lib.IntN.{sub_ℕ}
use Rattle.std.proofs.lemmas.Bool.{cases_lt}
use Rattle.word.specs.Number.{signed_of, wrap_of, sum_of, difference_of}
use Rattle.word.proofs.Numbers.{signed_low, signed_high}

-- z is x - y
abbrev pub Diff : ℤ → ℕ → ℕ → Type 0
Diff (pos n) x y = x ≡ y + n
Diff (negsuc n) x y = y ≡ x + suc n

diff_sub : (m n x y : ℕ) → x + n ≡ y + m → Diff (sub_ℕ m n) x y
diff_sub m n x y e =
    ⊎_elim
    (λ l. rw (lt-ltb m n l) (omega arith))
    (λ l. rw (le-ltb m n l) (omega arith))
    (cases_lt m n)

diff_neg : (z : ℤ) (x y : ℕ) → Diff z x y → Diff (neg_ℤ z) y x
diff_neg (pos zero) x y h = omega arith
diff_neg (pos (suc n)) x y h = h
diff_neg (negsuc n) x y h = h

module _ (x y u v : ℕ) where
  pub diff_sum : (z w : ℤ) → Diff z x y → Diff w u v → Diff (z +ℤ w) (x + u) (y + v)
  diff_sum (pos m) (pos n) h k = omega arith
  diff_sum (pos m) (negsuc n) h k = diff_sub m (suc n) (x + u) (y + v) (omega arith)
  diff_sum (negsuc m) (pos n) h k = diff_sub n (suc m) (x + u) (y + v) (omega arith)
  diff_sum (negsuc m) (negsuc n) h k = omega arith

pub diff_difference : (x y u v : ℕ) (z w : ℤ) → Diff z x y → Diff w u v → Diff (z -ℤ w) (x + v) (y + u)
diff_difference x y u v z w h k = diff_sum x y v u z (neg_ℤ w) h (diff_neg w u v k)

-- multiples of 2^32 are lost where z wraps
pub diff_wrap : (x y p q : ℕ) (z : ℤ) → y ≤ 2 ^ 32 → Diff z (x + p * 2 ^ 32) (q * 2 ^ 32 + y) → wrap_of 32 z ≡ (x + 2 ^ 32 - y) % 2 ^ 32
diff_wrap x y p q (pos n) k h = omega arith
diff_wrap x y p q (negsuc n) k h = omega arith

high : (x : ℕ) → x < 2 ^ 32 → 2 ^ 31 ≤ x → signed_of 32 x ≡ negsuc (0xFFFFFFFF - x)
high x h l = let e : 2 ^ 32 - suc x ≡ 0xFFFFFFFF - x = omega arith in signed_high 32 x l h ∙ ap negsuc e

-- the word less 2^32 where its top bit is set
top_diff : (x : ℕ) → x < 2 ^ 32 → Diff (signed_of 32 x) x (x / 2 ^ 31 * 2 ^ 32)
top_diff x h =
    ⊎_elim
    (λ l. rw (signed_low 32 x l) (omega arith))
    (λ l. rw (high x h l) (omega arith))
    (cases_lt x (2 ^ 31))

module _ (a b : ℕ) (ha : a < 2 ^ 32) (hb : b < 2 ^ 32) where
  pub sum_word : wrap_of 32 (signed_of 32 a +ℤ signed_of 32 b) ≡ sum_of a b
  sum_word =
      let qa : ℕ = a / 2 ^ 31 in
      let qb : ℕ = b / 2 ^ 31 in
      let d : Diff (signed_of 32 a +ℤ signed_of 32 b) (a + b) (qa * 2 ^ 32 + qb * 2 ^ 32) =
      diff_sum a (qa * 2 ^ 32) b (qb * 2 ^ 32) (signed_of 32 a) (signed_of 32 b) (top_diff a ha) (top_diff b hb) in
      let e : a + b ≡ a + b + 0 * 2 ^ 32 = omega arith in
      let f : qa * 2 ^ 32 + qb * 2 ^ 32 ≡ (qa + qb) * 2 ^ 32 + 0 = omega arith in
      diff_wrap (a + b) 0 0 (qa + qb) (signed_of 32 a +ℤ signed_of 32 b) (omega arith) (rw (← e, ← f) d) ∙ omega arith

  pub difference_word : wrap_of 32 (signed_of 32 a -ℤ signed_of 32 b) ≡ difference_of a b
  difference_word =
      diff_wrap a b (b / 2 ^ 31) (a / 2 ^ 31) (signed_of 32 a -ℤ signed_of 32 b) (omega arith)
      (diff_difference a (a / 2 ^ 31 * 2 ^ 32) b (b / 2 ^ 31 * 2 ^ 32) (signed_of 32 a) (signed_of 32 b) (top_diff a ha) (top_diff b hb))
