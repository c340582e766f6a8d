-- A word stored in the bytes of words is a word set.
use Prim.Native.Nat.{ℕ, zero, suc, ◌+◌, ◌*◌, ◌/◌, ◌%◌}
use mathlib.Core.Path.{◌≡◌, refl, ap, ◌∙◌}
use mathlib.Core.List.{List, [], ◌∷◌, ◌++◌}
use native.Mathlib.Nat.{zero-add, suc-add}
use native.Mathlib.Omega.{arith}
use lib.ListN.{length, set}
use Rattle.word.specs.Bytes.{store_of}
use Rattle.codec.specs.Bytes.{little_of, flat_of}

-- past the first of two lists
pub set_append : (p q : List ℕ) (i v : ℕ) → set (p ++ q) (length p + i) v ≡ p ++ set q i v
set_append [] q i v = rw zero-add
set_append (x ∷ p) q i v = rw suc-add (ap (λ (r : List ℕ). x ∷ r) (set_append p q i v))

store_append : (n : ℕ) (p q : List ℕ) (a v : ℕ) → store_of n (p ++ q) (length p + a) v ≡ p ++ store_of n q a v
store_append zero p q a v = refl
store_append (suc n) p q a v =
    let e : length p + a + 1 ≡ length p + (a + 1) = omega arith in
    rw (set_append p q a (v % 256), e) (store_append n p (set q a (v % 256)) (a + 1) (v / 256))

-- at its place; past the end neither changes anything
pub store_flat : (ws : List ℕ) (k v : ℕ) → store_of 4 (flat_of ws) (4 * k) v ≡ flat_of (set ws k v)
unfolding flat_of little_of
store_flat [] k v = refl
store_flat (w ∷ ws) zero v = refl
store_flat (w ∷ ws) (suc k) v =
    let e : 4 * suc k ≡ 4 + 4 * k = omega arith in
    rw e (store_append 4 (little_of 4 w) (flat_of ws) (4 * k) v ∙ ap (λ r. little_of 4 w ++ r) (store_flat ws k v))
