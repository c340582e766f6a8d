-- What a call's number tells, and that no call has a choice of what it answers and leaves.
use Prim.Native.Nat.{ℕ, ◌/◌}
use mathlib.Core.Path.{◌≡◌, refl, sym}
use mathlib.Core.Logic.{◌⊎◌, inl, inr, ◌↔◌}
use mathlib.Core.List.{List}
use native.Mathlib.Omega.{arith}
use Rattle.std.specs.Prelude.{slice_set}
use Rattle.allocator.specs.Record.{area, IsSize, Size, Out, Sound, Free, Lowest}
use Rattle.allocator.specs.Calls as S
use Rattle.allocator.specs.Calls.{Allocates, Releases, no_base}
use Rattle.allocator.proofs.Sizes.{one_exponent}

-- ---- an area asked for

module _ {r : List ℕ} {n : ℕ} where
  -- the numbers that there are
  pub numbers_told : {m b : ℕ} {s : List ℕ} → Allocates r n m b s → (m ≡ 0) ⊎ ((m ≡ 2) ⊎ ((m ≡ 23) ⊎ (m ≡ 24)))
  numbers_told (S.no_size x) = inr (inl refl)
  numbers_told (S.unsound x y) = inr (inr (inr refl))
  numbers_told (S.no_space k w x y) = inr (inr (inl refl))
  numbers_told (S.given k b w x y) = inl refl

  -- 2: not a size
  pub size_told : {m b : ℕ} {s : List ℕ} → Allocates r n m b s → ((m ≡ 2) ↔ (¬ (Size n)))
  size_told (S.no_size x) = (λ _. x, λ _. refl)
  size_told (S.unsound x y) = (λ e. absurd (omega (arith, e)), λ h. absurd (h x))
  size_told (S.no_space k w x y) = (λ e. absurd (omega (arith, e)), λ h. absurd (h (k, w)))
  size_told (S.given k b w x y) = (λ e. absurd (omega (arith, e)), λ h. absurd (h (k, w)))

  module _ (k : ℕ) (w : IsSize k n) where
    -- 24: of a size, the record is not sound
    pub unsound_told : {m b : ℕ} {s : List ℕ} → Allocates r n m b s → ((m ≡ 24) ↔ (¬ (Sound r)))
    unsound_told (S.no_size x) = absurd (x (k, w))
    unsound_told (S.unsound x y) = (λ _. y, λ _. refl)
    unsound_told (S.no_space j v x y) = (λ e. absurd (omega (arith, e)), λ h. absurd (h x))
    unsound_told (S.given j b v x y) = (λ e. absurd (omega (arith, e)), λ h. absurd (h x))

    -- 23: of a size, the record is sound, and there is no room for an area of that size
    pub space_told : {m b : ℕ} {s : List ℕ} → Allocates r n m b s → ((m ≡ 23) ↔ (Sound r × ((c : ℕ) → ¬ (Free r (area c k)))))
    space_told (S.no_size x) = absurd (x (k, w))
    space_told (S.unsound x y) = (λ e. absurd (omega (arith, e)), λ h. absurd (y h.0))
    space_told (S.no_space j v x y) = rw (one_exponent n k j w v) ((λ _. (x, y)), (λ _. refl))
    space_told (S.given j b v x y) = (λ e. absurd (omega (arith, e)), λ h. absurd (h.1 b (rw (one_exponent n k j w v) y.0)))

    -- 0: the record is sound, and there is room at the base and at no lower one; the byte for it is the k, and every other is as it was
    pub given_told : {m b : ℕ} {s : List ℕ} → Allocates r n m b s → m ≡ 0 → Sound r × (Lowest r (area b k) × (s ≡ slice_set r (b / 16) k))
    given_told (S.no_size x) e = absurd (omega (arith, e))
    given_told (S.unsound x y) e = absurd (omega (arith, e))
    given_told (S.no_space j v x y) e = absurd (omega (arith, e))
    given_told (S.given j b v x y) e = rw (one_exponent n k j w v) (x, (y, refl))

  -- all else leaves the record as it was
  pub refused_unchanged : {m b : ℕ} {s : List ℕ} → Allocates r n m b s → ¬ (m ≡ 0) → (s ≡ r) × (b ≡ no_base)
  refused_unchanged (S.no_size x) e = (refl, refl)
  refused_unchanged (S.unsound x y) e = (refl, refl)
  refused_unchanged (S.no_space k w x y) e = (refl, refl)
  refused_unchanged (S.given k b w x y) e = absurd (e refl)

  -- and only then is there no base
  pub no_base_told : {m b : ℕ} {s : List ℕ} → Allocates r n m b s → ((b ≡ no_base) ↔ (¬ (m ≡ 0)))
  no_base_told (S.no_size x) = ((λ e h. omega (arith, h)), (λ h. refl))
  no_base_told (S.unsound x y) = ((λ e h. omega (arith, h)), (λ h. refl))
  no_base_told (S.no_space k w x y) = ((λ e h. omega (arith, h)), (λ h. refl))
  no_base_told (S.given k b w x y) = ((λ e. absurd (omega (arith, e, y.0.inside))), (λ h. absurd (h refl)))

-- there is one lowest base
lowest_one : {r : List ℕ} {k b c : ℕ} → Lowest r (area b k) → Lowest r (area c k) → b ≡ c
lowest_one x y = omega (arith, x.1 _ y.0, y.1 _ x.0)

module _ {r : List ℕ} {n : ℕ} where
  -- no choice
  pub allocates_one : {m b m' b' : ℕ} {s s' : List ℕ} → Allocates r n m b s → Allocates r n m' b' s' → (m ≡ m') × ((b ≡ b') × (s ≡ s'))
  allocates_one (S.no_size x) (S.no_size x') = (refl, (refl, refl))
  allocates_one (S.no_size x) (S.unsound x' y') = absurd (x x')
  allocates_one (S.no_size x) (S.no_space k' w' x' y') = absurd (x (k', w'))
  allocates_one (S.no_size x) (S.given k' b' w' x' y') = absurd (x (k', w'))
  allocates_one (S.unsound x y) (S.no_size x') = absurd (x' x)
  allocates_one (S.unsound x y) (S.unsound x' y') = (refl, (refl, refl))
  allocates_one (S.unsound x y) (S.no_space k' w' x' y') = absurd (y x')
  allocates_one (S.unsound x y) (S.given k' b' w' x' y') = absurd (y x')
  allocates_one (S.no_space k w x y) (S.no_size x') = absurd (x' (k, w))
  allocates_one (S.no_space k w x y) (S.unsound x' y') = absurd (y' x)
  allocates_one (S.no_space k w x y) (S.no_space k' w' x' y') = (refl, (refl, refl))
  allocates_one (S.no_space k w x y) (S.given k' b' w' x' y') = absurd (y b' (rw (one_exponent n k k' w w') y'.0))
  allocates_one (S.given k b w x y) (S.no_size x') = absurd (x' (k, w))
  allocates_one (S.given k b w x y) (S.unsound x' y') = absurd (y' x)
  allocates_one (S.given k b w x y) (S.no_space k' w' x' y') = absurd (y' b (rw (one_exponent n k' k w' w) y.0))
  allocates_one (S.given k b w x y) (S.given k' b' w' x' y') =
      let e = one_exponent n k' k w' w in
      let f : b ≡ b' = lowest_one y (rw (sym e) y') in
      (refl, (f, rw (e, f) refl))

-- ---- an area handed back

module _ {r : List ℕ} {b n : ℕ} where
  pub back_numbers_told : {m : ℕ} {s : List ℕ} → Releases r b n m s → (m ≡ 0) ⊎ ((m ≡ 2) ⊎ (m ≡ 24))
  back_numbers_told (S.no_size x) = inr (inl refl)
  back_numbers_told (S.unsound x y) = inr (inr refl)
  back_numbers_told (S.not_out k w x y) = inr (inr refl)
  back_numbers_told (S.released k w x y) = inl refl

  pub back_size_told : {m : ℕ} {s : List ℕ} → Releases r b n m s → ((m ≡ 2) ↔ (¬ (Size n)))
  back_size_told (S.no_size x) = (λ _. x, λ _. refl)
  back_size_told (S.unsound x y) = (λ e. absurd (omega (arith, e)), λ h. absurd (h x))
  back_size_told (S.not_out k w x y) = (λ e. absurd (omega (arith, e)), λ h. absurd (h (k, w)))
  back_size_told (S.released k w x y) = (λ e. absurd (omega (arith, e)), λ h. absurd (h (k, w)))

  module _ (k : ℕ) (w : IsSize k n) where
    -- 24: of a size, the record is not sound, or the area is not out in it
    pub not_out_told : {m : ℕ} {s : List ℕ} → Releases r b n m s → ((m ≡ 24) ↔ (¬ (Sound r × Out r (area b k))))
    not_out_told (S.no_size x) = absurd (x (k, w))
    not_out_told (S.unsound x y) = (λ _ z. y z.0, λ _. refl)
    not_out_told (S.not_out j v x y) = rw (one_exponent n k j w v) ((λ _ z. y z.1), (λ _. refl))
    not_out_told (S.released j v x y) = (λ e. absurd (omega (arith, e)), λ h. absurd (h (x, rw (one_exponent n k j w v) y)))

    -- 0: it is out, and its byte is 0 now
    pub back_told : {m : ℕ} {s : List ℕ} → Releases r b n m s → m ≡ 0 → Sound r × (Out r (area b k) × (s ≡ slice_set r (b / 16) 0))
    back_told (S.no_size x) e = absurd (omega (arith, e))
    back_told (S.unsound x y) e = absurd (omega (arith, e))
    back_told (S.not_out j v x y) e = absurd (omega (arith, e))
    back_told (S.released j v x y) e = rw (one_exponent n k j w v) (x, (y, refl))

  pub refused_back_unchanged : {m : ℕ} {s : List ℕ} → Releases r b n m s → ¬ (m ≡ 0) → s ≡ r
  refused_back_unchanged (S.no_size x) e = refl
  refused_back_unchanged (S.unsound x y) e = refl
  refused_back_unchanged (S.not_out k w x y) e = refl
  refused_back_unchanged (S.released k w x y) e = absurd (e refl)

  pub releases_one : {m m' : ℕ} {s s' : List ℕ} → Releases r b n m s → Releases r b n m' s' → (m ≡ m') × (s ≡ s')
  releases_one (S.no_size x) (S.no_size x') = (refl, refl)
  releases_one (S.no_size x) (S.unsound x' y') = absurd (x x')
  releases_one (S.no_size x) (S.not_out k' w' x' y') = absurd (x (k', w'))
  releases_one (S.no_size x) (S.released k' w' x' y') = absurd (x (k', w'))
  releases_one (S.unsound x y) (S.no_size x') = absurd (x' x)
  releases_one (S.unsound x y) (S.unsound x' y') = (refl, refl)
  releases_one (S.unsound x y) (S.not_out k' w' x' y') = (refl, refl)
  releases_one (S.unsound x y) (S.released k' w' x' y') = absurd (y x')
  releases_one (S.not_out k w x y) (S.no_size x') = absurd (x' (k, w))
  releases_one (S.not_out k w x y) (S.unsound x' y') = (refl, refl)
  releases_one (S.not_out k w x y) (S.not_out k' w' x' y') = (refl, refl)
  releases_one (S.not_out k w x y) (S.released k' w' x' y') = absurd (y (rw (one_exponent n k k' w w') y'))
  releases_one (S.released k w x y) (S.no_size x') = absurd (x' (k, w))
  releases_one (S.released k w x y) (S.unsound x' y') = absurd (y' x)
  releases_one (S.released k w x y) (S.not_out k' w' x' y') = absurd (y' (rw (one_exponent n k' k w' w) y))
  releases_one (S.released k w x y) (S.released k' w' x' y') = (refl, refl)
