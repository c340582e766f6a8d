-- Areas, and those that a record shows out.
use Prim.Native.Nat.{ℕ, ◌*◌, ◌/◌, ◌<◌}
use mathlib.Core.Path.{◌≡◌, refl, sym, subst, ap, ap₂, ◌∙◌}
use mathlib.Core.Logic.{inl, inr, ⊎_elim, ◌↔◌}
use mathlib.Core.List.{List}
use native.Mathlib.Omega.{arith}
use native.Mathlib.Decide.{dec_lt}
use lib.ListN.{length}
use Rattle.std.proofs.lemmas.List.{ext_get_or}
use Rattle.std.specs.Prelude.{slice_index}
use Rattle.allocator.specs.Record.{Area, area, end_of, Apart, Out, Sound}

pub swapped : (a b : Area) → Apart a b → Apart b a
swapped a b p = ⊎_elim (λ h. inr h) (λ h. inl h) p

pub others : (a b : Area) → a.base < b.base → ¬ (a ≡ b)
others a b h e = omega (arith, h, ap (λ (c : Area). c.base) e)

module _ (r : List ℕ) where
  -- two areas out with one base are the same
  pub one_at : (a b : Area) → Out r a → Out r b → a.base ≡ b.base → a ≡ b
  one_at a b o p e = ap₂ area e (sym o.1.1.0 ∙ ap (λ (x : ℕ). slice_index r (x / 16)) e ∙ p.1.1.0)

  -- it is enough to look at them from the lower one
  pub in_order : ((a b : Area) → Out r a → Out r b → a.base < b.base → Apart a b) → (a b : Area) → Out r a → Out r b → ¬ (a ≡ b) → Apart a b
  in_order f a b o p n =
      elim (dec_lt a.base b.base) [
        | yes h ↦ f a b o p h
        | no h ↦ elim (dec_lt b.base a.base) [
          | yes g ↦ swapped b a (f b a p o g)
          | no g ↦ absurd (n (one_at a b o p (omega (arith, h, g))))
        ]
      ]

-- a record shows nothing but its areas: with the same areas out it is the same record
pub one_record : (r s : List ℕ) → length r ≡ length s → ((a : Area) → (Out r a ↔ Out s a)) → r ≡ s
one_record r s l f = ext_get_or 0 r s l (λ i h. same i h)
  where
    shown : (q : List ℕ) (i : ℕ) → i < length q → 0 < slice_index q i → Out q (area (16 * i) (slice_index q i))
    shown q i h z =
        let e : 16 * i / 16 ≡ i = omega arith in
        (omega arith, (rw e h, (rw e refl, z)))

    byte : (q : List ℕ) (i v : ℕ) → Out q (area (16 * i) v) → slice_index q i ≡ v
    byte q i v o =
        let e : 16 * i / 16 ≡ i = omega arith in
        subst (λ (j : ℕ). slice_index q j ≡ v) e o.1.1.0

    same : (i : ℕ) → i < length r → slice_index r i ≡ slice_index s i
    same i h =
        elim (dec_lt 0 (slice_index r i)) [
          | yes g ↦ sym (byte s i (slice_index r i) ((f (area (16 * i) (slice_index r i))).0 (shown r i h g)))
          | no g ↦ elim (dec_lt 0 (slice_index s i)) [
            | yes k ↦ byte r i (slice_index s i) ((f (area (16 * i) (slice_index s i))).1 (shown s i (omega (arith, h, l)) k))
            | no k ↦ omega (arith, g, k)
          ]
        ]

-- of the bytes for an area out, all but the first are 0
pub inner_zero : (r : List ℕ) → Sound r → (a : Area) → Out r a → (i : ℕ) → a.base < 16 * i → 16 * i < end_of a → slice_index r i ≡ 0
inner_zero r z a o i g h =
    elim (dec_lt 0 (slice_index r i)) [
      | yes s ↦
          (let e : 16 * i / 16 ≡ i = omega arith in
          let c = area (16 * i) (slice_index r i) in
          let l : i < length r = omega (arith, h, z.inside a o, z.length_is) in
          let p : Out r c = (omega arith, (rw e l, (rw e refl, s))) in
          absurd (⊎_elim (λ q. omega (arith, q, h)) (λ q. omega (arith, q, g)) (z.apart a c o p (λ q. omega (arith, g, ap (λ (d : Area). d.base) q)))))
      | no s ↦ omega (arith, s)
    ]
