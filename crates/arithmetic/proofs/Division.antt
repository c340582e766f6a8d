-- The theorems about a division (document 02, Ticket 4): what a zero divisor leaves, what every other leaves, and that LO and HI, beside the dividend,
-- tell the two apart.
use Rattle.std.proofs.Common.{◌≡◌, ℕ, zero, suc, ◌-◌, ◌/◌, ◌%◌, ◌^◌, ◌<◌, ◌≤◌, ℤ, pos, negsuc, neg_ℤ, nat_abs, int_div, int_rem, refl, sym, subst, ◌∙◌, inl, inr, ⊎_elim, mod-lt, arith, ne_eqb, eq-zero-or-pos, ne_of_gt, eqb}
use native.Mathlib.Nat.{mod-le, div-eq_of_lt}
use Rattle.std.proofs.lemmas.Bool.{cases_lt}
use Rattle.word.proofs.Choice.{by_test}
use Rattle.isa.specs.declared.kind.Multiply.{Multiply}
use Rattle.isa.specs.declared.kind.Multiply.TheVariants.{Div, Divu}
use Rattle.effect.specs.declared.effect.Effect.{Effect}
use Rattle.effect.specs.declared.effect.Effect.TheVariants.{Pair}
use Rattle.effect.specs.Sound.{Word}
use Rattle.word.specs.Number.{signed_of, wrap_of}
use Rattle.word.proofs.Numbers.{signed_low, signed_high}
use Rattle.arithmetic.specs.Arithmetic.{divided, multiply_of, Divides}

-- a zero divisor shows, for DIV and DIVU alike
pub by_zero : (k : Multiply) → Divides k → (rd a hi lo : ℕ) → multiply_of k rd a 0 hi lo ≡ Pair a 0xFFFFFFFF
unfolding divided
by_zero k (inl e) rd a hi lo = rw e
by_zero k (inr e) rd a hi lo = rw e

-- and every other division is as document 01 has it
module _ (rd a b hi lo : ℕ) (some : b ≡ 0 → ⊥) where
  pub div_by_some : multiply_of Div rd a b hi lo ≡ Pair (wrap_of 32 (int_rem (signed_of 32 a) (signed_of 32 b))) (wrap_of 32 (int_div (signed_of 32 a) (signed_of 32 b)))
  unfolding divided
  div_by_some = rw (ne_eqb b 0 some)

  pub divu_by_some : multiply_of Divu rd a b hi lo ≡ Pair (a % b) (a / b)
  unfolding divided
  divu_by_some = rw (ne_eqb b 0 some)

-- ---- a remainder that is the dividend stands beside the quotient 0

natural_kept : (n d : ℕ) → n ≤ 2 ^ 31 → n % d % 2 ^ 32 ≡ n % 2 ^ 32 → n % d ≡ n
natural_kept n d h e = omega (arith, e, mod-le n d)

wrap_opposite : (r : ℕ) → r ≤ 2 ^ 31 → wrap_of 32 (neg_ℤ (pos r)) ≡ (2 ^ 32 - r) % 2 ^ 32
wrap_opposite zero h = refl
wrap_opposite (suc r) h = omega arith

negative_kept : (n d : ℕ) → suc n ≤ 2 ^ 31 → wrap_of 32 (neg_ℤ (pos (suc n % d))) ≡ wrap_of 32 (negsuc n) → suc n % d ≡ suc n
negative_kept n d h e =
    let l : suc n % d ≤ suc n = mod-le (suc n) d in
    let q : (2 ^ 32 - suc n % d) % 2 ^ 32 ≡ 2 ^ 32 - suc (n % 2 ^ 32) = sym (wrap_opposite (suc n % d) (omega arith)) ∙ e in
    omega arith

magnitude_kept : (x y : ℤ) → nat_abs x ≤ 2 ^ 31 → wrap_of 32 (int_rem x y) ≡ wrap_of 32 x → nat_abs x % nat_abs y ≡ nat_abs x
magnitude_kept (pos n) y h e = natural_kept n (nat_abs y) h e
magnitude_kept (negsuc n) y h e = negative_kept n (nat_abs y) h e

small_quotient : (n d : ℕ) → 0 < d → n % d ≡ n → n / d ≡ 0
small_quotient n d p e = div-eq_of_lt (let l : n % d < d = mod-lt n p in omega arith)

quotient_word : (x y : ℤ) → nat_abs x / nat_abs y ≡ 0 → wrap_of 32 (int_div x y) ≡ 0
quotient_word (pos n) (pos d) e = rw e
quotient_word (pos n) (negsuc d) e = rw e
quotient_word (negsuc n) (pos d) e = rw e
quotient_word (negsuc n) (negsuc d) e = rw e

-- the signed integer of a word, by its top bit
by_top : (P : ℤ → Type 0) (a : ℕ) → Word a → (a < 2 ^ 31 → P (pos a)) → (2 ^ 31 ≤ a → P (negsuc (2 ^ 32 - suc a))) → P (signed_of 32 a)
by_top P a h p q =
    ⊎_elim (λ l. subst P (sym (signed_low 32 a l)) (p l)) (λ l. subst P (sym (signed_high 32 a l h)) (q l)) (cases_lt a (2 ^ 31))

signed_magnitude : (a : ℕ) → Word a → nat_abs (signed_of 32 a) ≤ 2 ^ 31
signed_magnitude a h = by_top (λ z. nat_abs z ≤ 2 ^ 31) a h (λ l. omega arith) (λ l. omega arith)

signed_some : (b : ℕ) → Word b → 0 < b → 0 < nat_abs (signed_of 32 b)
signed_some b h p = by_top (λ z. 0 < nat_abs z) b h (λ l. p) (λ l. omega arith)

signed_again : (a : ℕ) → Word a → wrap_of 32 (signed_of 32 a) ≡ a
signed_again a h = by_top (λ z. wrap_of 32 z ≡ a) a h (λ l. omega arith) (λ l. omega arith)

-- ---- and so LO and HI, beside the dividend, tell whether the divisor was 0

signed_kept_nothing : (a b : ℕ) → Word a → Word b → 0 < b → wrap_of 32 (int_rem (signed_of 32 a) (signed_of 32 b)) ≡ a → wrap_of 32 (int_div (signed_of 32 a) (signed_of 32 b)) ≡ 0
signed_kept_nothing a b ha hb p e =
    quotient_word (signed_of 32 a) (signed_of 32 b)
    (small_quotient _ _ (signed_some b hb p)
    (magnitude_kept (signed_of 32 a) (signed_of 32 b) (signed_magnitude a ha) (e ∙ sym (signed_again a ha))))

parted : {h l x y : ℕ} → Pair h l ≡ Pair x y → (h ≡ x) × (l ≡ y)
parted {h} {l} {x} {y} e = let p : h ≡ x = cc in let q : l ≡ y = cc in (p, q)

module _ (rd a b hi lo : ℕ) (ha : Word a) (hb : Word b) where
  told_signed : 0 < b → multiply_of Div rd a b hi lo ≡ Pair a 0xFFFFFFFF → ⊥
  told_signed p e =
      let (r, q) = parted (sym (div_by_some rd a b hi lo (ne_of_gt p)) ∙ e) in
      omega (arith, q, signed_kept_nothing a b ha hb p r)

  told_unsigned : 0 < b → multiply_of Divu rd a b hi lo ≡ Pair a 0xFFFFFFFF → ⊥
  told_unsigned p e =
      let (r, q) = parted (sym (divu_by_some rd a b hi lo (ne_of_gt p)) ∙ e) in
      omega (arith, q, small_quotient a b p r)

  pub told : (k : Multiply) → Divides k → multiply_of k rd a b hi lo ≡ Pair a 0xFFFFFFFF → b ≡ 0
  told k d e = ⊎_elim (λ z. z) (λ p. absurd (untold p d)) (eq-zero-or-pos b)
    where
      untold : 0 < b → Divides k → ⊥
      untold p (inl q) = told_signed p (rw q at e)
      untold p (inr q) = told_unsigned p (rw q at e)

-- an effect that sets HI and LO, as each division's does
pub record Halves (e : Effect) : Type 0 where
  pub hi : ℕ
  pub lo : ℕ
  pub is : e ≡ Pair hi lo

divided_halves : (a b q r : ℕ) → Halves (divided a b q r)
unfolding divided
divided_halves a b q r = by_test Halves (eqb b 0) (λ _. record { hi = a; lo = 0xFFFFFFFF; is = refl }) (λ _. record { hi = r; lo = q; is = refl })

pub divides_halves : (k : Multiply) → Divides k → (rd a b hi lo : ℕ) → Halves (multiply_of k rd a b hi lo)
divides_halves k (inl e) rd a b hi lo = rw e (divided_halves a b _ _)
divides_halves k (inr e) rd a b hi lo = rw e (divided_halves a b _ _)
