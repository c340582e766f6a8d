-- Lists of calls: the areas out are those that calls gave and none took back, and no two of them overlap.
use Prim.Native.Nat.{ℕ, ◌/◌, ◌^◌, ◌<◌}
use mathlib.Core.Path.{◌≡◌, refl, sym, subst, ap, ap₂, ◌∙◌}
use mathlib.Core.Logic.{◌⊎◌, inl, inr, ⊎_elim, ◌↔◌}
use mathlib.Core.List.{List}
use native.Mathlib.Omega.{arith}
use lib.ListN.{get_or-replicate, length-replicate}
use Rattle.layout.proofs.Sizes.{at_least}
use Rattle.allocator.specs.Record.{Area, area, size_of, Apart, IsSize, Out, Sound, Free}
use Rattle.allocator.specs.Calls as S
use Rattle.allocator.specs.Calls.{Allocates, Releases}
use Rattle.allocator.specs.Lists as L
use Rattle.allocator.specs.Lists.{Call, Leads, IsOf, Stays, Held, empty}
use Rattle.allocator.proofs.Areas.{one_at, one_record}
use Rattle.allocator.proofs.Multiples.{power_some}
use Rattle.allocator.proofs.Soundness.{sixteens, within, out_before, out_after, allocates_sound, releases_sound}
use Rattle.allocator.proofs.Back.{given_out}

-- ---- one call: the areas out that it leaves

one_power : (j k : ℕ) → 2 ^ j ≡ 2 ^ k → j ≡ k
one_power j k e = omega (arith, at_least j k (omega (arith, e)), at_least k j (omega (arith, e)))

module _ {k n : ℕ} (w : IsSize k n) (b : ℕ) (a : Area) where
  is_of : a ≡ area b k → (b ≡ a.base) × (n ≡ size_of a)
  is_of e = (sym (ap (λ (c : Area). c.base) e), w.1 ∙ sym (ap (λ (c : Area). 2 ^ c.k) e))

  of_is : (b ≡ a.base) × (n ≡ size_of a) → a ≡ area b k
  of_is e = ap₂ area (sym e.0) (one_power a.k k (sym e.1 ∙ w.1))

-- where there is room for an area, none begins
begins_elsewhere : {r : List ℕ} {b k : ℕ} → Free r (area b k) → (a : Area) → Out r a → ¬ (a.base ≡ b)
begins_elsewhere {r} {b} {k} f a o e =
    ⊎_elim (λ h. omega (arith, h, e, power_some k)) (λ h. omega (arith, h, e, power_some a.k)) (f.apart a o)

-- asked for: those of before, and what is given
pub allocates_out : {n m b : ℕ} {r s : List ℕ} → Allocates r n m b s → (a : Area) → (Out s a ↔ (IsOf a b n m ⊎ Out r a))
allocates_out (S.no_size x) a = (λ o. inr o, λ c. ⊎_elim (λ e. absurd (omega (arith, e.0))) (λ o. o) c)
allocates_out (S.unsound x y) a = (λ o. inr o, λ c. ⊎_elim (λ e. absurd (omega (arith, e.0))) (λ o. o) c)
allocates_out (S.no_space k w x y) a = (λ o. inr o, λ c. ⊎_elim (λ e. absurd (omega (arith, e.0))) (λ o. o) c)
allocates_out {r = r} (S.given k b w z f) a =
    let u = sixteens r k b w.0 z f.0 in
    let v = within r k b w.0 z f.0 in (
      λ o. ⊎_elim (λ p. inl (refl, is_of w b a (ap₂ area p.0 p.1.0))) (λ p. inr p.0) (out_before r b k u v a o),
      λ c. ⊎_elim (λ p. rw (of_is w b a p.1) (given_out r k b w.0 z f.0)) (λ o. out_after r b k u v a o (begins_elsewhere f.0 a o)) c,
    )

-- handed back: those of before, but what is taken back
pub releases_out : {b n m : ℕ} {r s : List ℕ} → Releases r b n m s → (a : Area) → (Out s a ↔ (Out r a × ¬ (IsOf a b n m)))
releases_out (S.no_size x) a = (λ o. (o, λ e. omega (arith, e.0)), λ p. p.0)
releases_out (S.unsound x y) a = (λ o. (o, λ e. omega (arith, e.0)), λ p. p.0)
releases_out (S.not_out k w x y) a = (λ o. (o, λ e. omega (arith, e.0)), λ p. p.0)
releases_out {b} {r = r} (S.released k w z o) a = (
  λ p. ⊎_elim (λ q. absurd (omega (arith, q.1.1))) (λ q. (q.0, λ e. q.1 (sym e.1.0))) (out_before r b 0 o.0 o.1.0 a p),
  λ p. out_after r b 0 o.0 o.1.0 a p.0 (λ e. p.1 (refl, is_of w b a (one_at r a (area b k) p.0 o e))),
)

-- what has been taken back is not out, so that it is not taken back again
pub not_twice : {b n m q : ℕ} {r s t : List ℕ} → Releases r b n m s → m ≡ 0 → Releases s b n q t → q ≡ 24
not_twice (S.no_size u) e y = absurd (omega (arith, e))
not_twice (S.unsound u v) e y = absurd (omega (arith, e))
not_twice (S.not_out k w u v) e y = absurd (omega (arith, e))
not_twice (S.released k w z o) e (S.no_size u) = absurd (u (k, w))
not_twice (S.released k w z o) e (S.unsound u v) = refl
not_twice (S.released k w z o) e (S.not_out j v u p) = refl
not_twice {b} {n} {r = r} (S.released k w z o) e (S.released j v u p) =
    absurd (((releases_out {b = b} {n = n} {r = r} (S.released k w z o) (area b j)).0 p).1 (refl, (refl, v.1)))

-- ---- lists of calls

none_out : (a : Area) → ¬ (Out empty a)
none_out a o =
    let l : a.base / 16 < 65536 = subst (λ (n : ℕ). a.base / 16 < n) (length-replicate {A = ℕ} 65536 0) o.1.0 in
    let e : a.k ≡ 0 = sym o.1.1.0 ∙ get_or-replicate 65536 (a.base / 16) 0 0 l in
    omega (arith, e, o.1.1.1)

pub empty_sound : Sound empty
empty_sound =
    record {
      length_is = length-replicate {A = ℕ} 65536 0;
      sizes = λ a o. absurd (none_out a o);
      bases = λ a o. absurd (none_out a o);
      inside = λ a o. absurd (none_out a o);
      apart = λ a b o p h. absurd (none_out a o);
    }

pub leads_sound : {cs : List Call} {r s : List ℕ} → Leads cs r s → Sound r → Sound s
leads_sound (L.done r) z = z
leads_sound (L.allocate n m b cs r s t x l) z = leads_sound l (allocates_sound x z)
leads_sound (L.release b n m cs r s t x l) z = leads_sound l (releases_sound x z)

-- an area is out then where a call gave it and none after it took it back, or it was out before and no call took it back
pub leads_out : {cs : List Call} {r s : List ℕ} → Leads cs r s → (a : Area) → (Out s a ↔ (Held a cs ⊎ (Out r a × Stays a cs)))
leads_out (L.done r) a = (λ o. inr (o, tt), λ c. ⊎_elim (λ h. absurd h) (λ p. p.0) c)
leads_out (L.allocate n m b cs r s t x l) a =
    let i = leads_out l a in
    let j = allocates_out x a in (
      λ o. ⊎_elim (λ h. inl (inr h)) (λ p. ⊎_elim (λ e. inl (inl (e, p.1))) (λ q. inr (q, p.1)) (j.0 p.0)) (i.0 o),
      λ c. ⊎_elim (λ h. ⊎_elim (λ e. i.1 (inr (j.1 (inl e.0), e.1))) (λ g. i.1 (inl g)) h) (λ p. i.1 (inr (j.1 (inr p.0), p.1))) c,
    )
leads_out (L.release b n m cs r s t x l) a =
    let i = leads_out l a in
    let j = releases_out x a in (
      λ o. ⊎_elim (λ h. inl h) (λ p. (let q = j.0 p.0 in inr (q.0, (q.1, p.1)))) (i.0 o),
      λ c. ⊎_elim (λ h. i.1 (inl h)) (λ p. i.1 (inr (j.1 (p.0, p.1.0), p.1.1))) c,
    )

-- an area out stays out until it is taken back, by its base and its size, whatever else is asked for, handed back or refused
pub stays_out : {cs : List Call} {r s : List ℕ} → Leads cs r s → (a : Area) → Out r a → Stays a cs → Out s a
stays_out l a o h = (leads_out l a).1 (inr (o, h))

-- ---- from the empty record

-- the areas out are those that calls gave and none took back
pub out_held : {cs : List Call} {s : List ℕ} → Leads cs empty s → (a : Area) → (Out s a ↔ Held a cs)
out_held l a =
    let i = leads_out l a in
    (λ o. ⊎_elim (λ h. h) (λ p. absurd (none_out a p.0)) (i.0 o), λ h. i.1 (inl h))

-- after every list of calls, any two areas out are apart
pub never_overlap : {cs : List Call} {s : List ℕ} → Leads cs empty s → (a c : Area) → Out s a → Out s c → ¬ (a ≡ c) → Apart a c
never_overlap l = (leads_sound l empty_sound).apart

-- and so are any two that calls gave and none took back
pub held_apart : {cs : List Call} {s : List ℕ} → Leads cs empty s → (a c : Area) → Held a cs → Held c cs → ¬ (a ≡ c) → Apart a c
held_apart l a c h g n = never_overlap l a c ((out_held l a).1 h) ((out_held l c).1 g) n

-- where all is taken back, in whatever order, the record is the empty one
pub all_back : {cs : List Call} {s : List ℕ} → Leads cs empty s → ((a : Area) → ¬ (Held a cs)) → s ≡ empty
all_back {s = s} l h =
    one_record s empty ((leads_sound l empty_sound).length_is ∙ sym empty_sound.length_is)
    (λ a. (λ o. absurd (h a ((out_held l a).0 o)), λ o. absurd (none_out a o)))
