-- Choices by a test: what holds of each branch, where its test says so, holds of what is chosen.
use Rattle.std.proofs.Common.{◌≡◌, ℕ, Bool, true, false, cond, eqb, eqb-true}
use Rattle.std.proofs.lemmas.Bool.{cond_both, eqb-false}
pub use Rattle.std.proofs.lemmas.Bool.{and_parts as both}

module _ {A : Type 0} (P : A → Type 0) {x y : A} where
  pub by_test : (t : Bool) → (t ≡ true → P x) → (t ≡ false → P y) → P (cond t x y)
  by_test t p q = cond_both t x y P p q

  -- by whether a number is 0
  pub by_zero : (k : ℕ) → (k ≡ 0 → P x) → ((k ≡ 0 → ⊥) → P y) → P (cond (eqb k 0) x y)
  by_zero k p q = by_test (eqb k 0) (λ e. p (eqb-true k 0 e)) (λ e. q (eqb-false k 0 e))
