-- Eight bytes that are all 0: what is known of a record past them.
use Prim.Native.Nat.{ℕ, ◌+◌, ◌-◌, ◌*◌, ◌/◌, ◌<◌}
use mathlib.Core.Path.{◌≡◌, subst}
use mathlib.Core.List.{List}
use native.Mathlib.Omega.{arith}
use native.Mathlib.Decide.{dec_lt}
use Rattle.std.specs.Prelude.{slice_index}
use Rattle.allocator.specs.declared.pass.Pass.{Pass}
use Rattle.allocator.specs.Pass.{Seen}
use Rattle.allocator.proofs.Seen.{skipped}

module _ (r : List ℕ) (n : ℕ) where
  -- no area begins there
  pub seen_clear : (k : ℕ) (p : Pass) → ((i : ℕ) → i < 8 → slice_index r (n + i) ≡ 0) → Seen r k (16 * n) p → Seen r k (16 * (n + 8)) p
  seen_clear k p z s =
      skipped r k (16 * n) (16 * (n + 8)) p (omega arith)
      (λ a b. elim (dec_lt a.base (16 * n)) [
        | yes g ↦ g
        | no g ↦ (let i = a.base / 16 in
            let f : n + (i - n) ≡ i = omega (arith, g) in
            let e : slice_index r i ≡ 0 = subst (λ (j : ℕ). slice_index r j ≡ 0) f (z (i - n) (omega (arith, g, b.1))) in absurd (omega (arith, e, b.0.1.1.0, b.0.1.1.1)))
      ])
      s
