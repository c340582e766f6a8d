-- A sound record stays sound.
use Prim.Native.Nat.{ℕ, ◌/◌, ◌%◌, ◌^◌, ◌<◌}
use mathlib.Core.Path.{◌≡◌, refl, sym, subst, ap, ap₂, ◌∙◌}
use mathlib.Core.Logic.{◌⊎◌, inl, inr, ⊎_elim}
use mathlib.Core.Bool.{Bool, true, false}
use mathlib.Core.List.{List}
use native.Mathlib.Omega.{arith}
use lib.Dec.{eqb}
use lib.Pow.{pow_mono}
use borrow.Author.Tests.{eqb-true, eqb-false}
use lib.ListN.{length}
use Rattle.std.proofs.lemmas.List.{get_or-set_same, get_or-set_other, length-set}
use Rattle.std.specs.Prelude.{slice_index, slice_set}
use Rattle.allocator.proofs.Areas.{swapped}
use Rattle.layout.proofs.Sizes.{divides}
use Rattle.allocator.specs.Record.{Area, area, IsExponent, Out, Sound, Free}
use Rattle.allocator.specs.Calls as S
use Rattle.allocator.specs.Calls.{Allocates, Releases}

pub either : (m n : ℕ) → (m ≡ n) ⊎ ¬ (m ≡ n)
either m n = go (eqb m n) refl
  where
    go : (b : Bool) → eqb m n ≡ b → (m ≡ n) ⊎ ¬ (m ≡ n)
    go true e = inl (eqb-true m n e)
    go false e = inr (eqb-false m n e)

-- ---- one byte changed: the first of the area at base b

module _ (r : List ℕ) (b v : ℕ) (u : b % 16 ≡ 0) (l : b / 16 < length r) where
  abbrev after : List ℕ
  after = slice_set r (b / 16) v

  there : slice_index after (b / 16) ≡ v
  there = get_or-set_same r (b / 16) v 0 l

  elsewhere : (j : ℕ) → ¬ (j ≡ b / 16) → slice_index after j ≡ slice_index r j
  elsewhere j n = get_or-set_other r (b / 16) j v 0 n

  -- an area out then is this one, or was out before
  pub out_before : (a : Area) → Out after a → ((a.base ≡ b) × ((a.k ≡ v) × (0 < v))) ⊎ (Out r a × ¬ (a.base ≡ b))
  out_before a o =
      let m : a.base / 16 < length r = subst (λ (n : ℕ). a.base / 16 < n) (length-set r (b / 16) v) o.1.0 in
      ⊎_elim
      (λ e. let k : a.k ≡ v = sym o.1.1.0 ∙ ap (λ (x : ℕ). slice_index after (x / 16)) e ∙ there in inl (e, (k, omega (arith, k, o.1.1.1))))
      (λ n. inr ((o.0, (m, (sym (elsewhere (a.base / 16) (λ e. n (omega (arith, e, u, o.0)))) ∙ o.1.1.0, o.1.1.1))), n))
      (either a.base b)

  -- and what was out, but for that one, is
  pub out_after : (a : Area) → Out r a → ¬ (a.base ≡ b) → Out after a
  out_after a o n =
      let m : a.base / 16 < length after = subst (λ (x : ℕ). a.base / 16 < x) (sym (length-set r (b / 16) v)) o.1.0 in
      (o.0, (m, (elsewhere (a.base / 16) (λ e. n (omega (arith, e, u, o.0))) ∙ o.1.1.0, o.1.1.1)))

-- ---- an area given

module _ (r : List ℕ) (k b : ℕ) (w : IsExponent k) (z : Sound r) (f : Free r (area b k)) where
  -- it begins at one of the record's bytes
  pub sixteens : b % 16 ≡ 0
  sixteens = divides 4 (2 ^ k) b (k, refl) (pow_mono w.0) f.multiple

  pub within : b / 16 < length r
  within = omega (arith, f.inside, z.length_is)

  pub given_sound : Sound (slice_set r (b / 16) k)
  given_sound =
      record {
        length_is = length-set r (b / 16) k ∙ z.length_is;
        sizes = λ a o. ⊎_elim (λ e. rw e.1.0 w) (λ c. z.sizes a c.0) (split a o);
        bases = λ a o. ⊎_elim (λ e. rw (e.0, e.1.0) f.multiple) (λ c. z.bases a c.0) (split a o);
        inside = λ a o. ⊎_elim (λ e. rw (e.0, e.1.0) f.inside) (λ c. z.inside a c.0) (split a o);
        apart = λ x y o q h. ⊎_elim
            (λ e. ⊎_elim (λ d. absurd (h (ap₂ area (e.0 ∙ sym d.0) (e.1.0 ∙ sym d.1.0)))) (λ d. rw (e.0, e.1.0) (f.apart y d.0)) (split y q))
            (λ c. ⊎_elim (λ d. rw (d.0, d.1.0) (swapped (area b k) x (f.apart x c.0))) (λ d. z.apart x y c.0 d.0 h) (split y q))
            (split x o);
      }
    where
      split : (a : Area) → Out (slice_set r (b / 16) k) a → ((a.base ≡ b) × ((a.k ≡ k) × (0 < k))) ⊎ (Out r a × ¬ (a.base ≡ b))
      split = out_before r b k sixteens within

-- ---- an area taken back

module _ (r : List ℕ) (b k : ℕ) (z : Sound r) (o : Out r (area b k)) where
  split_back : (a : Area) → Out (slice_set r (b / 16) 0) a → Out r a
  split_back a p = ⊎_elim (λ e. absurd (omega (arith, e.1.1))) (λ c. c.0) (out_before r b 0 o.0 o.1.0 a p)

  pub back_sound : Sound (slice_set r (b / 16) 0)
  back_sound =
      record {
        length_is = length-set r (b / 16) 0 ∙ z.length_is;
        sizes = λ a p. z.sizes a (split_back a p);
        bases = λ a p. z.bases a (split_back a p);
        inside = λ a p. z.inside a (split_back a p);
        apart = λ x y p q h. z.apart x y (split_back x p) (split_back y q) h;
      }

-- ---- the calls

pub allocates_sound : {r : List ℕ} {n m b : ℕ} {s : List ℕ} → Allocates r n m b s → Sound r → Sound s
allocates_sound (S.no_size x) z = z
allocates_sound (S.unsound x y) z = z
allocates_sound (S.no_space k w x y) z = z
allocates_sound {r} (S.given k b w x y) z = given_sound r k b w.0 x y.0

pub releases_sound : {r : List ℕ} {b n m : ℕ} {s : List ℕ} → Releases r b n m s → Sound r → Sound s
releases_sound (S.no_size x) z = z
releases_sound (S.unsound x y) z = z
releases_sound (S.not_out k w x y) z = z
releases_sound {r} {b} (S.released k w x y) z = back_sound r b k x y
