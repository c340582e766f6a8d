-- What is taken back is free again, and what is given and taken back at once leaves no trace.
use Prim.Native.Nat.{ℕ, ◌+◌, ◌/◌, ◌%◌, ◌^◌, ◌≤◌, ◌<◌}
use mathlib.Core.Path.{◌≡◌, refl, sym, subst, ap, ◌∙◌}
use mathlib.Core.Logic.{inl, inr, ⊎_elim}
use mathlib.Core.List.{List}
use native.Mathlib.Omega.{arith}
use native.Mathlib.Decide.{dec_lt}
use lib.ListN.{length}
use Rattle.std.proofs.lemmas.List.{get_or-set_same, get_or-set_other, length-set, ext_get_or}
use Rattle.std.specs.Prelude.{slice_index, slice_set}
use Rattle.allocator.specs.Record.{Area, area, size_of, end_of, IsExponent, IsSize, Sound, Free, Out}
use Rattle.allocator.specs.Calls as S
use Rattle.allocator.specs.Calls.{Allocates, Releases}
use Rattle.allocator.proofs.Multiples.{power_some}
use Rattle.allocator.proofs.Soundness.{either, sixteens, within, out_before, given_sound, back_sound}
use Rattle.allocator.proofs.Sizes.{one_exponent}

-- ---- given, then handed back

module _ (r : List ℕ) (k b : ℕ) (w : IsExponent k) (z : Sound r) (f : Free r (area b k)) where
  -- the byte was 0: an area out there would begin where a free one does
  pub was_zero : slice_index r (b / 16) ≡ 0
  was_zero =
      elim (dec_lt 0 (slice_index r (b / 16))) [
        | yes g ↦ absurd (⊎_elim (λ h. omega (arith, h, power_some k)) (λ h. omega (arith, h, power_some (slice_index r (b / 16))))
            (f.apart (area b (slice_index r (b / 16))) (sixteens r k b w z f, (within r k b w z f, (refl, g)))))
        | no g ↦ omega (arith, g)
      ]

  pub restored : slice_set (slice_set r (b / 16) k) (b / 16) 0 ≡ r
  restored = ext_get_or 0 _ r (length-set given (b / 16) 0 ∙ length-set r (b / 16) k) (λ i l. same i)
    where
      given : List ℕ
      given = slice_set r (b / 16) k

      inside : b / 16 < length given
      inside = subst (λ (n : ℕ). b / 16 < n) (sym (length-set r (b / 16) k)) (within r k b w z f)

      same : (i : ℕ) → slice_index (slice_set given (b / 16) 0) i ≡ slice_index r i
      same i =
          ⊎_elim (λ e. rw e (get_or-set_same given (b / 16) 0 0 inside ∙ sym was_zero))
          (λ n. get_or-set_other given (b / 16) i 0 0 n ∙ get_or-set_other r (b / 16) i k 0 n) (either i (b / 16))

  pub given_out : Out (slice_set r (b / 16) k) (area b k)
  given_out =
      let l = within r k b w z f in
      (sixteens r k b w z f, (subst (λ (n : ℕ). b / 16 < n) (sym (length-set r (b / 16) k)) l, (get_or-set_same r (b / 16) k 0 l, omega (arith, w))))

-- an allocation and its release: done, and the record is byte for byte as it was
pub given_back : {n m b q : ℕ} {r s t : List ℕ} → Allocates r n m b s → m ≡ 0 → Releases s b n q t → (q ≡ 0) × (t ≡ r)
given_back (S.no_size u) e y = absurd (omega (arith, e))
given_back (S.unsound u v) e y = absurd (omega (arith, e))
given_back (S.no_space k w u v) e y = absurd (omega (arith, e))
given_back (S.given k b w z f) e (S.no_size u) = absurd (u (k, w))
given_back {r = r} (S.given k b w z f) e (S.unsound u v) = absurd (v (given_sound r k b w.0 z f.0))
given_back {n} {r = r} (S.given k b w z f) e (S.not_out j v u o) = absurd (o (rw (one_exponent n j k v w) (given_out r k b w.0 z f.0)))
given_back {r = r} (S.given k b w z f) e (S.released j v u o) = (refl, restored r k b w.0 z f.0)

-- ---- handed back, then asked for

module _ (r : List ℕ) (b k : ℕ) (z : Sound r) (o : Out r (area b k)) where
  -- all that was in it is free
  pub free_inside : (c : Area) → c.base % size_of c ≡ 0 → b ≤ c.base → end_of c ≤ b + 2 ^ k → Free (slice_set r (b / 16) 0) c
  free_inside c m l h =
      record {
        multiple = m;
        inside = omega (arith, h, z.inside (area b k) o);
        apart = λ a p. ⊎_elim (λ e. absurd (omega (arith, e.1.1)))
            (λ q. ⊎_elim (λ g. inl (omega (arith, g, h))) (λ g. inr (omega (arith, g, l)))
            (z.apart (area b k) a o q.0 (λ e. q.1 (sym (ap (λ (d : Area). d.base) e)))))
            (out_before r b 0 o.0 o.1.0 a p);
      }

  pub free_again : Free (slice_set r (b / 16) 0) (area b k)
  free_again = free_inside (area b k) (z.bases (area b k) o) (omega arith) (omega arith)

-- what is taken back is free, and so is every area inside it
pub back_free : {b n m : ℕ} {r s : List ℕ} → (k : ℕ) → IsSize k n → Releases r b n m s → m ≡ 0
    → Free s (area b k) × ((c : Area) → c.base % size_of c ≡ 0 → b ≤ c.base → end_of c ≤ b + n → Free s c)
back_free k w (S.no_size u) e = absurd (omega (arith, e))
back_free k w (S.unsound u v) e = absurd (omega (arith, e))
back_free k w (S.not_out j v u o) e = absurd (omega (arith, e))
back_free {b} {n} {r = r} k w (S.released j v z o) e =
    rw (one_exponent n k j w v) (free_again r b j z o, λ c m l h. free_inside r b j z o c m l (omega (arith, h, v.1)))

-- a release, and then an area of that size asked for: given, at that base or a lower one
pub back_given : {n m b q c : ℕ} {r s t : List ℕ} → Releases r b n m s → m ≡ 0 → Allocates s n q c t → (q ≡ 0) × (c ≤ b)
back_given (S.no_size u) e y = absurd (omega (arith, e))
back_given (S.unsound u v) e y = absurd (omega (arith, e))
back_given (S.not_out k w u v) e y = absurd (omega (arith, e))
back_given (S.released k w z o) e (S.no_size u) = absurd (u (k, w))
back_given {b = b} {r = r} (S.released k w z o) e (S.unsound u v) = absurd (v (back_sound r b k z o))
back_given {n} {b = b} {r = r} (S.released k w z o) e (S.no_space j v u f) = absurd (f b (rw (one_exponent n j k v w) (free_again r b k z o)))
back_given {n} {b = b} {r = r} (S.released k w z o) e (S.given j c v u f) = (refl, f.1 b (rw (one_exponent n j k v w) (free_again r b k z o)))
