-- A table of 64 places looked up in its halves.
use Prim.Native.Nat.{ℕ, zero, suc, ◌-◌, ◌<◌, ◌≤◌}
use mathlib.Core.Path.{◌≡◌, refl, ap, sym, ◌∙◌}
use mathlib.Core.List.{List, [], ◌∷◌, ◌++◌}
use native.Mathlib.Omega.{arith}
use native.Mathlib.Nat.{le_of_suc-le-suc, not-suc-le-zero}
use native.Mathlib.Decide.{dec_lt}
use lib.ListN.{length, get_or, get_or-eq_default}
use Rattle.std.proofs.lemmas.List.{get_or_append_left, get_or-append_right}

module _ {A : Type 0} where
  -- inside the list the default does not matter
  inside : (l : List A) (k : ℕ) (a b : A) → k < length l → get_or l k a ≡ get_or l k b
  inside [] k a b h = absurd (not-suc-le-zero h)
  inside (x ∷ l) zero a b h = refl
  inside (x ∷ l) (suc k) a b h = inside l k a b (le_of_suc-le-suc h)

  -- a table of 64 places, looked up in its halves: n is place k of the high one, if there
  pub halves : (low high : List A) (n k : ℕ) (d : A) {e r : A} → length low ≡ 32 → (32 ≤ n → k ≡ n - 32) → e ≡ get_or high k d
      → r ≡ get_or low n e → r ≡ get_or (low ++ high) n d
  halves low high n k d {e} {r} s h q u =
      elim (dec_lt n 32) [
        | yes i ↦ u ∙ inside low n e d (omega arith) ∙ sym (get_or_append_left low high d n (omega arith))
        | no i ↦ u ∙ get_or-eq_default low e (omega arith) ∙ q ∙ ap (λ (x : ℕ). get_or high x d) (h (omega arith)) ∙ sym (get_or-append_right low high 32 n d s (omega arith))
      ]
