-- Laws of words one after another.
use Prim.Native.Nat.{ℕ, zero, suc, ◌+◌, ◌*◌}
use mathlib.Core.Path.{◌≡◌, refl, ap, subst}
use mathlib.Core.List.{List, ◌++◌}
use native.Mathlib.Numerals.{add-one}
use native.Mathlib.Omega.{arith}
use lib.ListN.{length, drop, drop_of_length-le}
use lib.Seq.{drop-cons}
use denote.Param.Members.{Mut, Called}
use Rattle.std.specs.Array.{IsFromFnResult, IsFromFnResultFrom}
use Rattle.word.specs.Bytes.{load_of, words_at}

pub words_length : (n : ℕ) (b : List ℕ) (a : ℕ) → length (words_at n b a) ≡ n
unfolding words_at
words_length zero b a = refl
words_length (suc n) b a = ap suc (words_length n b (a + 4))

pub words_append : (n k : ℕ) (b : List ℕ) (a : ℕ) → words_at (n + k) b a ≡ words_at n b a ++ words_at k b (a + 4 * n)
unfolding words_at
words_append zero k b a =
    let z : 0 + k ≡ k = omega arith in
    let y : a + 4 * 0 ≡ a = omega arith in
    rw (z, y)
words_append (suc n) k b a =
    let z : suc n + k ≡ suc (n + k) = omega arith in
    let y : a + 4 * suc n ≡ a + 4 + 4 * n = omega arith in
    rw (z, y, words_append n k b (a + 4))

-- an array whose each place is made by a call, in turn, that reads the word there
module _ {F : Type 0} (g : Mut F (ℕ × Unit {0}) ℕ) (f : F) (b : List ℕ) (a : ℕ) (h : (i y : ℕ) (q : F) → Called g f (i, tt) y q → (q ≡ f) × (y ≡ load_of 4 b (a + 4 * i))) where
  words_from : (ys : List ℕ) (i n : ℕ) (p : F) → p ≡ f → length ys ≡ i + n → IsFromFnResultFrom g p ys i n → drop i ys ≡ words_at n b (a + 4 * i)
  unfolding words_at
  words_from ys i zero p e l t = drop_of_length-le ys (omega arith)
  words_from ys i (suc n) p e l t =
      let one = h i t.1 t.0 (subst (λ (q : F). Called g q (i, tt) t.1 t.0) e t.3) in
      let s : a + 4 * i + 4 ≡ a + 4 * (i + 1) = omega arith in
      rw (drop-cons ys i 0 (omega arith), ← add-one i, words_from ys (i + 1) n t.0 one.0 (omega arith) t.4, t.2.1 0, one.1, s)

  pub words_made : (ys : List ℕ) (n : ℕ) → IsFromFnResult g f ys n → ys ≡ words_at n b a
  words_made ys n r =
      let z : a + 4 * 0 ≡ a = omega arith in
      rw z at (words_from ys 0 n f refl (omega (arith, r.long)) r.each)
