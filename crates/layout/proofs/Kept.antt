-- The numbers by which a layout is refused, and what one that is not refused keeps to.
use Prim.Native.Nat.{ℕ, suc, ◌+◌, ◌%◌, ◌≤◌}
use mathlib.Core.Path.{◌≡◌, refl, sym, subst}
use mathlib.Core.Bool.{Bool, true, false, cond}
use native.Mathlib.Omega.{arith}
use native.Mathlib.Nat.{mod_self}
use lib.Dec.{eqb, leb}
use lib.Pow.{pow_mono}
use borrow.Author.Tests.{eqb-true, leb-true, ltb-false, not-false}
use Rattle.word.specs.Bytes.{longest}
use Rattle.word.proofs.Choice.{by_test, both}
use Rattle.layout.specs.declared.Layout.{Layout}
use Rattle.layout.specs.Layout.{is_code_size, is_placed, broken1, broken2, broken3, broken4, broken5, broken6, layout_refusal}
use Rattle.layout.proofs.Sizes.{exponent_of, divides}

pub refusal_most : (l : Layout) (len : ℕ) → layout_refusal l len ≤ 6
unfolding layout_refusal
refusal_most l len =
    by_test (λ k. k ≤ 6) (broken1 len) (λ _. omega arith) (λ _.
    by_test (λ k. k ≤ 6) (broken2 l) (λ _. omega arith) (λ _.
    by_test (λ k. k ≤ 6) (broken3 l) (λ _. omega arith) (λ _.
    by_test (λ k. k ≤ 6) (broken4 l len) (λ _. omega arith) (λ _.
    by_test (λ k. k ≤ 6) (broken5 l len) (λ _. omega arith) (λ _.
    by_test (λ k. k ≤ 6) (broken6 l) (λ _. omega arith) (λ _. omega arith))))))

-- of the memory and the code area
pub record Kept (l : Layout) (len : ℕ) : Type 0 where
  pub within : len ≤ longest
  pub least : 16 ≤ l.code_size
  pub size : l.code_size % 16 ≡ 0
  pub base : l.code_base % 16 ≡ 0
  pub inside : l.code_base + l.code_size ≤ len

-- a ladder that gives 0 has its first test false
clear : (b : Bool) (n : ℕ) {k : ℕ} → cond b (suc n) k ≡ 0 → (b ≡ false) × (k ≡ 0)
clear true n e = absurd (omega (arith, e))
clear false n e = (refl, e)

module _ (l : Layout) (len : ℕ) (e : layout_refusal l len ≡ 0) where
  pub kept : Kept l len
  unfolding layout_refusal is_code_size is_placed
  kept =
      let r1 = clear (broken1 len) 0 e in
      let r2 = clear (broken2 l) 1 r1.1 in
      let r3 = clear (broken3 l) 2 r2.1 in
      let r4 = clear (broken4 l len) 3 r3.1 in
      let p = exponent_of 4 13 l.code_size (not-false _ r2.0) in
      let q = both (eqb (l.code_base % l.code_size) 0) (leb (l.code_base + l.code_size) len) (not-false _ r4.0) in
      let h : 16 ≤ l.code_size = subst (λ (k : ℕ). 16 ≤ k) (sym p.power) (pow_mono p.least) in
      record {
        within = ltb-false longest len r1.0;
        least = h;
        size = divides 4 l.code_size l.code_size (p.exponent, p.power) h (mod_self l.code_size);
        base = divides 4 l.code_size l.code_base (p.exponent, p.power) h (eqb-true _ _ q.0);
        inside = leb-true _ _ q.1;
      }
