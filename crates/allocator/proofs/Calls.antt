-- What the parts of the two calls say, put together.
use Prim.Native.Nat.{ℕ, ◌+◌, ◌/◌, ◌%◌, ◌≤◌, ◌<◌}
use mathlib.Core.Path.{◌≡◌, sym, subst}
use mathlib.Core.List.{List}
use native.Mathlib.Omega.{arith}
use Rattle.std.specs.Prelude.{Some, None, slice_index, slice_set}
use Rattle.refusal.specs.declared.Refusal.{Refusal}
use Rattle.refusal.specs.Refusal.{number_of}
use Rattle.allocator.specs.declared.pass.Pass.{Pass}
use Rattle.allocator.specs.Record.{IsSize, Size, memory_size}
use Rattle.allocator.specs.Pass.{Passed}
use Rattle.allocator.specs.Calls as S
use Rattle.allocator.specs.Calls.{no_base, Allocates, Releases}

module _ (r : List ℕ) (n : ℕ) where
  pub refuse_size : (e : Refusal) → (number_of e ≡ 2) × ¬ (Size n) → Allocates r n (number_of e) no_base r
  refuse_size e h = subst (λ (m : ℕ). Allocates r n m no_base r) (sym h.0) (S.no_size h.1)

  module _ (k : ℕ) (s : IsSize k n) where
    pub refuse_unsound : Passed r k None → Allocates r n 24 no_base r
    refuse_unsound h = S.unsound (k, s) h

    pub refuse_space : (p : Pass) → Passed r k (Some p) → memory_size < p.base + n → Allocates r n 23 no_base r
    refuse_space p h l = S.no_space k s h.0 (h.1.1 (omega (arith, l, s.1)))

    pub give : (p : Pass) → Passed r k (Some p) → p.base + n ≤ memory_size → Allocates r n 0 p.base (slice_set r (p.base / 16) k)
    give p h l = S.given k p.base s h.0 (h.1.0 (omega (arith, l, s.1)))

module _ (r : List ℕ) (b n : ℕ) where
  pub keep_size : (e : Refusal) → (number_of e ≡ 2) × ¬ (Size n) → Releases r b n (number_of e) r
  keep_size e h = subst (λ (m : ℕ). Releases r b n m r) (sym h.0) (S.no_size h.1)

  module _ (k : ℕ) (s : IsSize k n) where
    pub keep_unsound : Passed r k None → Releases r b n 24 r
    keep_unsound h = S.unsound (k, s) h

    module _ (p : Pass) (h : Passed r k (Some p)) where
      pub keep_odd : ¬ (b % 16 ≡ 0) → Releases r b n 24 r
      keep_odd q = S.not_out k s h.0 (λ o. q o.0)

      pub keep_past : memory_size ≤ b → Releases r b n 24 r
      keep_past q = S.not_out k s h.0 (λ o. omega (arith, q, o.1.0, h.0.length_is))

      pub keep_other : ¬ (slice_index r (b / 16) ≡ k) → Releases r b n 24 r
      keep_other q = S.not_out k s h.0 (λ o. q o.1.1.0)

      pub take_back : b % 16 ≡ 0 → b < memory_size → slice_index r (b / 16) ≡ k → Releases r b n 0 (slice_set r (b / 16) 0)
      take_back q l e = S.released k s h.0 (q, (omega (arith, l, h.0.length_is), (e, omega (arith, s.0.0))))
