-- What the answers of a start say: when it is done, what is asked then, and what the state that is handed back keeps.
use Prim.Native.Nat.{ℕ, ◌+◌, ◌/◌, ◌%◌, ◌^◌, ◌<◌}
use mathlib.Core.Path.{◌≡◌, refl}
use mathlib.Core.Bool.{Bool, true, false, cond, not}
use mathlib.Core.List.{List}
use native.Mathlib.Omega.{arith}
use lib.Dec.{eqb}
use lib.ListN.{length}
use borrow.Author.Tests.{eqb-true, eqb-false, eq-eqb}
use Rattle.std.specs.Str.{bytes_eq}
use Rattle.std.proofs.lemmas.Slice.Eq.{bytes_eq-Decides}
use Rattle.word.proofs.Choice.{both}
use Rattle.layout.specs.declared.Layout.{Layout}
use Rattle.system.specs.System.{is_user}
use Rattle.machine.specs.declared.state.State.{State}
use Rattle.machine.specs.State.{register_of}
use Rattle.rules.specs.Not.{Not}
use Rattle.checker.specs.Check.{verdict, no_place, accepted, check_of, code_of}
use Rattle.checker.proofs.Whole.{number_accepted}
use Rattle.start.specs.Told.{Based}
use Rattle.start.specs.Start.{is_based, user_of, placing_refusal, later_refusal, after_check}

-- ---- the status

module _ (n : ℕ) where
  by_mode : (P : ℕ → Type 0) → (n / 2 ^ 3 % 2 ≡ 1 → P n) → (Not (n / 2 ^ 3 % 2 ≡ 1) → P (n + 2 ^ 3)) → P (user_of n)
  unfolding user_of is_user
  by_mode P f g = go (eqb (n / 2 ^ 3 % 2) 1) refl
    where
      go : (t : Bool) → eqb (n / 2 ^ 3 % 2) 1 ≡ t → P (cond t n (n + 2 ^ 3))
      go true e = f (eqb-true _ 1 e)
      go false e = g (eqb-false _ 1 e)

  user_bit : user_of n / 2 ^ 3 % 2 ≡ 1
  user_bit = by_mode (λ k. k / 2 ^ 3 % 2 ≡ 1) (λ e. e) (λ e. omega (arith, e))

  pub user_is : is_user (user_of n) ≡ true
  unfolding is_user
  user_is = let e = user_bit in rw e refl

  -- a state's status has 13 bits, and so has the one that is handed back
  pub user_below : n < 2 ^ 13 → user_of n < 2 ^ 13
  user_below h = by_mode (λ k. k < 2 ^ 13) (λ _. h) (λ e. omega (arith, h, e))

  -- no other bit changes: those below bit 3, and those above
  pub user_others : (user_of n % 2 ^ 3 ≡ n % 2 ^ 3) × (user_of n / 2 ^ 4 ≡ n / 2 ^ 4)
  user_others = by_mode (λ k. (k % 2 ^ 3 ≡ n % 2 ^ 3) × (k / 2 ^ 4 ≡ n / 2 ^ 4)) (λ _. (refl, refl)) (λ e. (omega arith, omega (arith, e)))

  -- and none at all where the mode is user
  pub user_same : is_user n ≡ true → user_of n ≡ n
  unfolding is_user
  user_same h = by_mode (λ k. k ≡ n) (λ _. refl) (λ e. absurd (e (eqb-true _ 1 h)))

-- ---- when it is done

module _ (l : Layout) (s : State) where
  pub based_is : Based l s → is_based l s ≡ true
  unfolding is_based
  based_is b = rw (eq-eqb _ _ b.0, eq-eqb _ _ b.1) refl

  pub is_then_based : is_based l s ≡ true → Based l s
  unfolding is_based
  is_then_based e =
      let b = both (eqb (register_of s.registers 26) l.data_base) _ e in
      (eqb-true _ _ b.0, eqb-true _ _ b.1)

module _ (l : Layout) (img : List ℕ) (s : State) (m : List ℕ) where
  -- 0 after the state
  pub state_zero : (own : ℕ) → later_refusal own l img s m ≡ 0 → (own ≡ 0) × (placing_refusal l img s m ≡ 0)
  unfolding later_refusal
  state_zero own e = go (eqb own 0) refl e
    where
      go : (t : Bool) → eqb own 0 ≡ t → cond t (placing_refusal l img s m) own ≡ 0 → (own ≡ 0) × (placing_refusal l img s m ≡ 0)
      go true q h = (eqb-true own 0 q, h)
      go false q h = absurd (eqb-false own 0 q h)

module _ (l : Layout) (img m : List ℕ) where
  -- 0 after the checker
  pub after_zero : (k : ℕ) → (after_check l img m k).number ≡ 0 → (check_of l (length m) img ≡ accepted) × (k ≡ 0)
  after_zero k e = go (eqb (check_of l (length m) img).number 0) refl e
    where
      go : (t : Bool) → eqb (check_of l (length m) img).number 0 ≡ t → (cond t (verdict k no_place) (check_of l (length m) img)).number ≡ 0
          → (check_of l (length m) img ≡ accepted) × (k ≡ 0)
      go true q e = (number_accepted l (length m) img (eqb-true _ 0 q), e)
      go false q e = absurd (eqb-false _ 0 q e)

  pub after_accepted : (k : ℕ) → check_of l (length m) img ≡ accepted → after_check l img m k ≡ verdict k no_place
  after_accepted k a = rw a refl

  -- image and registers are as a start needs them
  pub record Placing (s : State) : Type 0 where
    pub code : code_of l m ≡ img
    pub based : Based l s

  pub placing_zero : (s : State) → placing_refusal l img s m ≡ 0 → Placing s
  unfolding placing_refusal
  placing_zero s e = go (bytes_eq (code_of l m) img) refl (is_based l s) refl e
    where
      go : (t : Bool) → bytes_eq (code_of l m) img ≡ t → (u : Bool) → is_based l s ≡ u → cond {A = ℕ} (not t) 26 (cond (not u) 27 0) ≡ 0 → Placing s
      go true p true q e =
          record { code = (bytes_eq-Decides (code_of l m) img).0 p; based = is_then_based l s q }
      go true p false q e = absurd (omega (arith, e))
      go false p u q e = absurd (omega (arith, e))

  pub placing_ready : (s : State) → Placing s → placing_refusal l img s m ≡ 0
  unfolding placing_refusal
  placing_ready s p =
      let a : bytes_eq (code_of l m) img ≡ true = (bytes_eq-Decides (code_of l m) img).1 p.code in
      rw (a, based_is l s p.based) refl
