-- A pass over a record: what is known of the areas seen so far stays true with the next one, and at the end decides soundness and the lowest base.
use Prim.Native.Nat.{ℕ, ◌+◌, ◌*◌, ◌/◌, ◌%◌, ◌^◌, ◌≤◌, ◌<◌}
use mathlib.Core.Path.{◌≡◌, refl, sym, ap, ◌∙◌}
use mathlib.Core.Bool.{Bool, true, false, not, cond, ◌||◌}
use mathlib.Core.Logic.{◌⊎◌, inl, inr, ⊎_elim}
use mathlib.Core.List.{List}
use native.Mathlib.Omega.{arith}
use native.Mathlib.Decide.{dec_lt}
use lib.Dec.{eqb, ltb}
use lib.ListN.{length}
use borrow.Author.Tests.{ltb-true, ltb-false, eqb-true, eqb-false}
use Rattle.std.specs.Prelude.{Some, None, slice_index}
use Rattle.allocator.specs.declared.pass.Pass.{Pass}
use Rattle.allocator.specs.Record.{Area, area, size_of, end_of, Apart, IsExponent, IsSize, Out, Sound, Free, memory_size}
use Rattle.allocator.specs.Pass.{rounded, taken, Before, Seen, Known, Passed}
use Rattle.allocator.proofs.Areas.{others, in_order}
use Rattle.allocator.proofs.Multiples.{further, rounded_multiple, rounded_least, rounded_most, kept_multiple, power_some}

-- ---- nothing begins between two addresses

module _ (r : List ℕ) (k x y : ℕ) (p : Pass) (h : x ≤ y) (none : (a : Area) → Before r y a → a.base < x) where
  pub skipped : Seen r k x p → Seen r k y p
  skipped s =
      record {
        sizes = λ a b. s.sizes a (b.0, none a b);
        bases = λ a b. s.bases a (b.0, none a b);
        apart = λ a b m n. s.apart a b (m.0, none a m) (n.0, none b n);
        ends = λ a b. s.ends a (b.0, none a b);
        attained = ⊎_elim (λ e. inl e) (λ t. inr (t.0, ((t.1.0.0, omega (arith, t.1.0.1, h)), t.1.1))) s.attained;
        multiple = s.multiple;
        free = λ a b. s.free a (b.0, none a b);
        lower = λ b m l. let t = s.lower b m l in (t.0, ((t.1.0.0, omega (arith, t.1.0.1, h)), t.1.1));
        end_most = s.end_most;
        base_most = s.base_most;
      }

-- ---- an area begins at address x

module _ (r : List ℕ) (k x j : ℕ) (p : Pass) (u : x % 16 ≡ 0) (l : x / 16 < length r) (byte : slice_index r (x / 16) ≡ j) (some : 0 < j) where
  abbrev This : Area
  This = area x j

  out : Out r This
  out = (u, (l, (byte, some)))

  -- an area out that begins before the next 16 bytes begins before this one, or is this one
  split : (a : Area) → Before r (x + 16) a → Before r x a ⊎ ((a.base ≡ x) × (a.k ≡ j))
  split a b =
      elim (dec_lt a.base x) [
        | yes g ↦ inl (b.0, g)
        | no g ↦ (let e : a.base ≡ x = omega (arith, g, b.0.0, b.1, u) in
            inr (e, sym b.0.1.1.0 ∙ ap (λ (i : ℕ). slice_index r (i / 16)) e ∙ byte))
      ]

  -- what it takes for it to be taken
  pub record Taken (q : Pass) : Type 0 where
    pub least : 4 ≤ j
    pub most : j ≤ 16
    pub aligned : x % 2 ^ j ≡ 0
    pub after : p.end ≤ x
    pub end_is : q.end ≡ x + 2 ^ j
    pub base_is : q.base ≡ cond (ltb x (p.base + 2 ^ k)) (rounded (2 ^ k) (x + 2 ^ j)) p.base

  module _ (s : Seen r k x p) (v : x < memory_size) (w : IsExponent k) {q : Pass} (t : Taken q) where
    both : (P : Area → Type 0) → ((a : Area) → Before r x a → P a) → ((a : Area) → a.base ≡ x → a.k ≡ j → P a) → (a : Area) → Before r (x + 16) a → P a
    both P f g a b = ⊎_elim (λ c. f a c) (λ e. g a e.0 e.1) (split a b)

    weak : {a : Area} → Before r x a → Before r (x + 16) a
    weak b = (b.0, omega (arith, b.1))

    ends : (a : Area) → Before r (x + 16) a → end_of a ≤ q.end
    ends =
        both (λ a. end_of a ≤ q.end) (λ a b. omega (arith, s.ends a b, t.after, t.end_is))
        (λ a e f. rw (e, f) (omega (arith, t.end_is)))

    aparts : (a b : Area) → Before r (x + 16) a → Before r (x + 16) b → a.base < b.base → Apart a b
    aparts a b m n h =
        ⊎_elim
        (λ c. ⊎_elim (λ d. s.apart a b c d h) (λ e. inl (omega (arith, s.ends a c, t.after, e.0))) (split b n))
        (λ e. ⊎_elim (λ d. absurd (omega (arith, d.1, e.0, h))) (λ d. absurd (omega (arith, e.0, d.0, h))) (split a m))
        (split a m)

    inside : x + 2 ^ j ≤ memory_size
    inside = further (2 ^ j) x memory_size t.aligned (kept_multiple j t.most) v

    -- the lowest base, where this one leaves it and where it doesn't
    module _ (h : p.base + 2 ^ k ≤ x) (e : q.base ≡ p.base) where
      kept_free : (a : Area) → Before r (x + 16) a → Apart (area q.base k) a
      kept_free = both (λ a. Apart (area q.base k) a) (λ a b. rw e (s.free a b)) (λ a f g. inl (rw (e, f) h))

      kept_lower : (b : ℕ) → b % 2 ^ k ≡ 0 → b < q.base → (a : Area) × (Before r (x + 16) a × ¬ (Apart (area b k) a))
      kept_lower b m l = let t = s.lower b m (omega (arith, l, e)) in (t.0, (weak t.1.0, t.1.1))

    module _ (h : x < p.base + 2 ^ k) (e : q.base ≡ rounded (2 ^ k) (x + 2 ^ j)) where
      moved_free : (a : Area) → Before r (x + 16) a → Apart (area q.base k) a
      moved_free a b = inr (omega (arith, ends a b, t.end_is, e, rounded_least (2 ^ k) (x + 2 ^ j) (power_some k)))

      moved_lower : (b : ℕ) → b % 2 ^ k ≡ 0 → b < q.base → (a : Area) × (Before r (x + 16) a × ¬ (Apart (area b k) a))
      moved_lower b m l =
          elim (dec_lt b p.base) [
            | yes g ↦ (let t = s.lower b m g in (t.0, (weak t.1.0, t.1.1)))
            | no g ↦ (This, ((out, omega arith), λ a. ⊎_elim (λ c. omega (arith, c, g, h)) (λ c. omega (arith, c, next)) a))
          ]
        where
          next : b < x + 2 ^ j
          next =
              let f = further (2 ^ k) b q.base m (rw e (rounded_multiple (2 ^ k) (x + 2 ^ j) (power_some k))) l in
              omega (arith, f, e, rounded_most (2 ^ k) (x + 2 ^ j) (power_some k))

      moved_most : q.base ≤ memory_size
      moved_most =
          elim (dec_lt memory_size q.base) [
            | yes g ↦ (let f = further (2 ^ k) memory_size q.base (kept_multiple k w.1) (rw e (rounded_multiple (2 ^ k) (x + 2 ^ j) (power_some k))) g in
                absurd (omega (arith, f, e, rounded_most (2 ^ k) (x + 2 ^ j) (power_some k), inside)))
            | no g ↦ omega (arith, g)
          ]

    pub seen_next : Seen r k (x + 16) q
    seen_next = go (ltb x (p.base + 2 ^ k)) refl
      where
        with_base : q.base % 2 ^ k ≡ 0 → ((a : Area) → Before r (x + 16) a → Apart (area q.base k) a)
            → ((b : ℕ) → b % 2 ^ k ≡ 0 → b < q.base → (a : Area) × (Before r (x + 16) a × ¬ (Apart (area b k) a)))
            → q.base ≤ memory_size → Seen r k (x + 16) q
        with_base m f l n =
            record {
              sizes = both (λ a. IsExponent a.k) s.sizes (λ a e f. rw f (t.least, t.most));
              bases = both (λ a. a.base % size_of a ≡ 0) s.bases (λ a e f. rw (e, f) t.aligned);
              apart = aparts;
              ends = ends;
              attained = inr (This, ((out, omega arith), sym t.end_is));
              multiple = m;
              free = f;
              lower = l;
              end_most = omega (arith, inside, t.end_is);
              base_most = n;
            }

        go : (c : Bool) → ltb x (p.base + 2 ^ k) ≡ c → Seen r k (x + 16) q
        go true c =
            let h = ltb-true x (p.base + 2 ^ k) c in
            let e : q.base ≡ rounded (2 ^ k) (x + 2 ^ j) = t.base_is ∙ (rw c) in
            with_base (rw e (rounded_multiple (2 ^ k) (x + 2 ^ j) (power_some k))) (moved_free h e) (moved_lower h e) (moved_most h e)
        go false c =
            let h : p.base + 2 ^ k ≤ x = omega (arith, ltb-false x (p.base + 2 ^ k) c) in
            let e : q.base ≡ p.base = t.base_is ∙ (rw c) in
            with_base (rw e s.multiple) (kept_free h e) (kept_lower h e) (omega (arith, e, s.base_most))

  -- it is not, where no sound record has it there
  module _ (s : Seen r k x p) where
    pub unsound_next : (j < 4) ⊎ ((16 < j) ⊎ (¬ (x % 2 ^ j ≡ 0) ⊎ (x < p.end))) → ¬ (Sound r)
    unsound_next c z =
        ⊎_elim (λ h. omega (arith, h, (z.sizes This out).0))
        (⊎_elim (λ h. omega (arith, h, (z.sizes This out).1))
        (⊎_elim (λ h. h (z.bases This out)) overlapped)) c
      where
        overlapped : x < p.end → ⊥
        overlapped h =
            ⊎_elim (λ e. omega (arith, e, h))
            (λ t. ⊎_elim (λ f. omega (arith, f, t.1.1, h)) (λ f. omega (arith, f, t.1.0.1)) (z.apart t.0 This t.1.0.0 out (others t.0 This t.1.0.1))) s.attained

-- ---- the code's step is this one

module _ (p : Pass) (x j : ℕ) where
  abbrev pub Fault : Type 0
  Fault = (j < 4) ⊎ ((16 < j) ⊎ (¬ (x % 2 ^ j ≡ 0) ⊎ (x < p.end)))

  -- the four tests, and what they say
  pub by_tests : {A : Type 0} (bad good : A) (P : A → Type 0)
      → (Fault → P bad)
      → (4 ≤ j → j ≤ 16 → x % 2 ^ j ≡ 0 → p.end ≤ x → P good)
      → P (cond (ltb j 4 || ltb 16 j || not (eqb (x % 2 ^ j) 0) || ltb x p.end) bad good)
  by_tests bad good P f g = go _ _ _ _ refl refl refl refl
    where
      go : (a b c d : Bool) → ltb j 4 ≡ a → ltb 16 j ≡ b → eqb (x % 2 ^ j) 0 ≡ c → ltb x p.end ≡ d → P (cond (a || b || not c || d) bad good)
      go true b c d u v w z = f (inl (ltb-true j 4 u))
      go false true c d u v w z = f (inr (inl (ltb-true 16 j v)))
      go false false false d u v w z = f (inr (inr (inl (eqb-false (x % 2 ^ j) 0 w))))
      go false false true true u v w z = f (inr (inr (inr (ltb-true x p.end z))))
      go false false true false u v w z =
          g (omega (arith, ltb-false j 4 u)) (omega (arith, ltb-false 16 j v)) (eqb-true (x % 2 ^ j) 0 w) (omega (arith, ltb-false x p.end z))

module _ (r : List ℕ) (k n i j : ℕ) (p : Pass) (w : IsSize k n) (l : length r ≡ 65536) (h : i < 65536) where
  -- with the area that begins at the next byte, and where none does
  pub known_area : Seen r k (16 * i) p → slice_index r i ≡ j → ¬ (j ≡ 0) → Known r k (16 * (i + 1)) (taken n p (16 * i) j)
  unfolding taken
  known_area s b z =
      let x = 16 * i in
      let e : x / 16 ≡ i = omega arith in
      let u : x % 16 ≡ 0 = omega arith in
      let v : x + 16 ≡ 16 * (i + 1) = omega arith in
      let m : x / 16 < length r = omega (arith, e, h, l) in
      let c : slice_index r (x / 16) ≡ j = rw e b in
      let o : 0 < j = omega (arith, z) in
      rw (w.1)
      (by_tests p x j None _ (Known r k (16 * (i + 1)))
      (unsound_next r k x j p u m c o s)
      (λ f g a t. rw (sym v) (seen_next r k x j p u m c o s (omega (arith, h)) w.0 (record { least = f; most = g; aligned = a; after = t; end_is = refl; base_is = refl }))))

  pub known_none : Seen r k (16 * i) p → slice_index r i ≡ 0 → Seen r k (16 * (i + 1)) p
  known_none s b =
      skipped r k (16 * i) (16 * (i + 1)) p (omega arith)
      (λ a f. elim (dec_lt a.base (16 * i)) [
        | yes g ↦ g
        | no g ↦ (let e : a.base / 16 ≡ i = omega (arith, g, f.1) in
            let z : slice_index r (a.base / 16) ≡ 0 = rw e b in
            absurd (omega (arith, z, f.0.1.1.0, f.0.1.1.1)))
      ])
      s

-- ---- at the end

module _ (r : List ℕ) (k : ℕ) (p : Pass) (l : length r ≡ 65536) where
  all : (a : Area) → Out r a → Before r memory_size a
  all a o = (o, omega (arith, o.0, o.1.0, l))

  pub seen_all : Seen r k memory_size p → Passed r k (Some p)
  seen_all s = (
    record {
      length_is = l;
      sizes = λ a o. s.sizes a (all a o);
      bases = λ a o. s.bases a (all a o);
      inside = λ a o. omega (arith, s.ends a (all a o), s.end_most);
      apart = in_order r (λ a b o q. s.apart a b (all a o) (all b q));
    },
    (
      λ h. (record { multiple = s.multiple; inside = h; apart = λ b o. s.free b (all b o) }, λ b f. lowest b f),
      λ h b f. absurd (omega (arith, h, lowest b f, f.inside)),
    ),
  )
    where
      lowest : (b : ℕ) → Free r (area b k) → p.base ≤ b
      lowest b f =
          elim (dec_lt b p.base) [
            | yes g ↦ (let t = s.lower b f.multiple g in absurd (t.1.1 (f.apart t.0 t.1.0.0)))
            | no g ↦ omega (arith, g)
          ]
