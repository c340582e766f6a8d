-- Parts of a memory: what is loaded from one, and when two are the same.
use Prim.Native.Nat.{ℕ, zero, suc, ◌+◌, ◌≤◌, ◌<◌}
use mathlib.Core.Path.{◌≡◌, refl, sym, ap, ◌∙◌}
use mathlib.Core.List.{List}
use native.Mathlib.Omega.{arith}
use lib.ListN.{length, get_or, take, drop, length-take, length-drop}
use lib.Seq.{get_or-take, get_or-drop, ext_get_or}
use Rattle.word.specs.Bytes.{load_of}

module _ (m : List ℕ) (base size : ℕ) where
  pub part_at : (a : ℕ) → a < size → get_or (take size (drop base m)) a 0 ≡ get_or m (base + a) 0
  part_at a h = get_or-take size (drop base m) a 0 h ∙ get_or-drop base m a 0

  pub load_part : (n a : ℕ) → a + n ≤ size → load_of n (take size (drop base m)) a ≡ load_of n m (base + a)
  load_part zero a h = refl
  load_part (suc n) a h =
      let e : base + a + 1 ≡ base + (a + 1) = omega arith in
      rw (part_at a (omega arith), e, load_part n (a + 1) (omega arith))

pub part_same : (m n : List ℕ) (base size : ℕ) → length m ≡ length n → ((a : ℕ) → a < size → get_or m (base + a) 0 ≡ get_or n (base + a) 0) → take size (drop base m) ≡ take size (drop base n)
part_same m n base size l f =
    ext_get_or 0 (take size (drop base m)) (take size (drop base n))
    (omega (arith, l, length-take size (drop base m), length-take size (drop base n), length-drop base m, length-drop base n))
    (λ i h. (let s : i < size = omega (arith, length-take size (drop base m)) in part_at m base size i s ∙ f i s ∙ sym (part_at n base size i s)))

-- and the other way round
pub part_bytes : (m n : List ℕ) (base size : ℕ) → take size (drop base m) ≡ take size (drop base n) → (a : ℕ) → a < size → get_or m (base + a) 0 ≡ get_or n (base + a) 0
part_bytes m n base size e a h =
    sym (part_at m base size a h) ∙ ap (λ (x : List ℕ). get_or x a 0) e ∙ part_at n base size a h
