-- The theorems about a run: what its budget, its exit and its total mean, and what it keeps.
use Prim.Native.Nat.{ℕ, zero, suc, ◌+◌, ◌-◌, ◌≤◌, ◌<◌}
use mathlib.Core.Path.{◌≡◌, refl, sym, ap, ◌∙◌}
use mathlib.Core.Bool.{Bool, true, false, cond}
use mathlib.Core.List.{List}
use mathlib.Core.Logic.{◌⊎◌, inl, inr}
use native.Mathlib.Omega.{arith}
use lib.Dec.{eqb}
use lib.ListN.{length}
use borrow.Author.Tests.{eqb-true, eqb-false, ne_eqb}
use Rattle.std.specs.Prelude.{Option, None, Ok, Err}
use Rattle.word.proofs.Choice.{by_zero}
use Rattle.effect.specs.declared.effect.Special.{Special}
use Rattle.effect.specs.declared.effect.Effect.{Effect}
use Rattle.effect.specs.declared.effect.Touched.{Touched}
use Rattle.effect.specs.Touched.{touched_of, last_of}
use Rattle.effect.proofs.Touched.{last_first, last_joined, last_some, last_none, Wide, wide}
use Rattle.effect.specs.declared.exit.Exit.{Exit}
use Rattle.effect.specs.Exit as X
use Rattle.effect.proofs.Exits.{number_range}
use Rattle.refusal.specs.declared.Refusal.{Refusal}
use Rattle.refusal.specs.Refusal as R
use Rattle.refusal.proofs.Numbers.{number_some}
use Rattle.machine.specs.declared.state.State.{State}
use Rattle.machine.specs.State.{register_of, special_of, join_of, is_lawful, refusal_of, Typed, Bytes}
use Rattle.parts.specs.Parts.{parts}
use Rattle.apply.specs.Apply.{applied_of}
use Rattle.machine.specs.Apply.{joined, apply_of}
use Rattle.machine.specs.Step.{effect_at, Outcome, outcome, step_of}
use Rattle.machine.specs.Run.{Course, course, halted, later, repeat_of, run_of, then_of, after_of}
use Rattle.machine.proofs.Steps.{step_refused, step_exits, step_completes, step_number, step_valid, step_lawful, step_typed, step_bytes, step_length, step_zero, exit_leaves, not_refused, refused_alike}
use Rattle.machine.proofs.Valid.{Valid, valid, valid_lawful}

-- no step more
halted_later : (done : ℕ) (t : Option Touched) (o : Outcome) → record { number = o.number; steps = done; touched = t; machine = o.machine } ≡ later done t (halted o)
halted_later done t o = let z : done + 0 ≡ done = omega arith in rw z

-- no step before
later_zero : (r : Course) → later 0 None r ≡ r
later_zero r = let z : 0 + r.steps ≡ r.steps = omega arith in rw (z, last_first r.touched)

-- ---- a turn of the loop, by what the code finds

module _ (s : State) (m : List ℕ) (z : refusal_of s (length m) ≡ 0) where
  -- the next turn is not refused either
  pub turn_lawful : (e : Effect) (n : ℕ) (l : List ℕ) (d : Special) (x : List ℕ) → parts l d x ≡ applied_of e s.registers (special_of s) m → refusal_of s n ≡ 0 → is_lawful (apply_of e s m).state ≡ true → refusal_of (join_of l d) n ≡ 0
  turn_lawful e n l d x a y h = refused_alike s (join_of l d) n y (ap (λ o. is_lawful (joined o).state) a ∙ h)

  module _ (done b : ℕ) (h : done < b) (t : Option Touched) where
    left : b - done ≡ suc (b - (done + 1))
    left = omega arith

    pub turn_exits : (x : Exit) → Err x ≡ effect_at s m → course (X.number_of x) done t s m ≡ later done t (repeat_of (b - done) s m)
    unfolding repeat_of
    turn_exits x q =
        let n : X.number_of x ≡ 0 → ⊥ = λ y. omega (arith, y, (number_range x).0) in
        rw (left, ← step_exits s m z x q, ne_eqb _ _ n) (halted_later done t (outcome (X.number_of x) s m))

    pub turn_completes : (e : Effect) → Ok e ≡ effect_at s m → (l : List ℕ) (d : Special) (x : List ℕ) → parts l d x ≡ applied_of e s.registers (special_of s) m → later (done + 1) (last_of t (touched_of e)) (repeat_of (b - (done + 1)) (join_of l d) x) ≡ later done t (repeat_of (b - done) s m)
    unfolding repeat_of
    turn_completes e q l d x a =
        let r = repeat_of (b - (done + 1)) (join_of l d) x in
        let p : done + 1 + r.steps ≡ done + (1 + r.steps) = omega arith in
        rw (left, ← step_completes s m z e q l d x a, p, last_joined t (touched_of e) r.touched)

pub turns_done : (s : State) (m : List ℕ) (done b : ℕ) (t : Option Touched) → b ≤ done → course 0 done t s m ≡ later done t (repeat_of (b - done) s m)
unfolding repeat_of
turns_done s m done b t h = let z : b - done ≡ 0 = omega arith in rw z (halted_later done t (outcome 0 s m))

pub run_wide : (n : ℕ) (s : State) (m : List ℕ) → Wide (run_of s m n).touched
run_wide n s m = wide (run_of s m n).touched

-- the run, by what the code finds
module _ (s : State) (m : List ℕ) (b : ℕ) where
  pub run_refused : (k : ℕ) → k ≡ refusal_of s (length m) → (k ≡ 0 → ⊥) → course k 0 None s m ≡ run_of s m b
  unfolding run_of
  run_refused k e n = rw (← e, ne_eqb k 0 n)

  pub refused_as : (e : Refusal) → R.number_of e ≡ refusal_of s (length m) → course (R.number_of e) 0 None s m ≡ run_of s m b
  refused_as e h = run_refused (R.number_of e) h (number_some e)

  pub run_repeats : refusal_of s (length m) ≡ 0 → repeat_of b s m ≡ run_of s m b
  unfolding run_of
  run_repeats z = rw z

  pub turns_begin : refusal_of s (length m) ≡ 0 → later 0 None (repeat_of (b - 0) s m) ≡ run_of s m b
  turns_begin h = let z : b - 0 ≡ b = omega arith in rw z (later_zero (repeat_of b s m) ∙ run_repeats h)

-- ---- the repetition

-- what every step keeps, a run keeps
module _ (P : State → List ℕ → Type 0) (keep : (s : State) (m : List ℕ) → P s m → P (step_of s m).machine.state (step_of s m).machine.memory) where
  repeat_keeps : (n : ℕ) (s : State) (m : List ℕ) → P s m → P (repeat_of n s m).machine.state (repeat_of n s m).machine.memory
  unfolding repeat_of
  repeat_keeps zero s m p = p
  repeat_keeps (suc n) s m p =
      by_zero (λ (r : Course). P r.machine.state r.machine.memory) (step_of s m).number
      (λ _. repeat_keeps n (step_of s m).machine.state (step_of s m).machine.memory (keep s m p))
      (λ _. keep s m p)

  pub run_keeps : (n : ℕ) (s : State) (m : List ℕ) → P s m → P (run_of s m n).machine.state (run_of s m n).machine.memory
  unfolding run_of
  run_keeps n s m p =
      by_zero (λ (r : Course). P r.machine.state r.machine.memory) (refusal_of s (length m)) (λ _. repeat_keeps n s m p) (λ _. p)

-- the total: the whole budget where the run is still running, and less than it where a step exited
abbrev Total : ℕ → Course → Type 0
Total n r = ((r.number ≡ 0) × (r.steps ≡ n)) ⊎ ((r.number ≡ 0 → ⊥) × (r.steps < n))

running : (n : ℕ) (r : Course) → Total n r → r.number ≡ 0 → r.steps ≡ n
running n r (inl (e, h)) z = h
running n r (inr (e, h)) z = absurd (e z)

exited : (n : ℕ) (r : Course) → Total n r → (r.number ≡ 0 → ⊥) → r.steps < n
exited n r (inl (e, h)) z = absurd (z e)
exited n r (inr (e, h)) z = h

within : (n : ℕ) (r : Course) → Total n r → r.steps ≤ n
within n r (inl (e, h)) = omega (arith, h)
within n r (inr (e, h)) = omega (arith, h)

counted : (n : ℕ) (t : Option Touched) (r : Course) → Total n r → Total (suc n) (later 1 t r)
counted n t r (inl (e, h)) = inl (e, omega arith)
counted n t r (inr (e, h)) = inr (e, omega arith)

repeat_total : (n : ℕ) (s : State) (m : List ℕ) → Total n (repeat_of n s m)
unfolding repeat_of
repeat_total zero s m = inl (refl, refl)
repeat_total (suc n) s m =
    by_zero (Total (suc n)) (step_of s m).number
    (λ _. counted n (step_of s m).touched (repeat_of n (step_of s m).machine.state (step_of s m).machine.memory) (repeat_total n (step_of s m).machine.state (step_of s m).machine.memory))
    (λ e. inr (e, omega arith))

-- where a run exits, the step of the state reached exits so
abbrev Ends : Course → Type 0
Ends r = (r.number ≡ 0 → ⊥) → (step_of r.machine.state r.machine.memory).number ≡ r.number

repeat_ends : (n : ℕ) (s : State) (m : List ℕ) → Ends (repeat_of n s m)
unfolding repeat_of
repeat_ends zero s m = λ e. absurd (e refl)
repeat_ends (suc n) s m =
    by_zero Ends (step_of s m).number
    (λ _. repeat_ends n (step_of s m).machine.state (step_of s m).machine.memory)
    (λ e _. rw (exit_leaves s m e))

-- a repetition of a + b is one of a, then one of b
abbrev onward : Course → ℕ → Course
onward r b = cond (eqb r.number 0) (later r.steps r.touched (repeat_of b r.machine.state r.machine.memory)) r

later_onward : (y : Option Touched) (r : Course) (b : ℕ) → later 1 y (onward r b) ≡ onward (later 1 y r) b
later_onward y r b = split (eqb r.number 0) (repeat_of b r.machine.state r.machine.memory)
  where
    split : (t : Bool) (x : Course) → later 1 y (cond t (later r.steps r.touched x) r) ≡ cond t (later (1 + r.steps) (last_of y r.touched) x) (later 1 y r)
    split true x = let p : 1 + (r.steps + x.steps) ≡ 1 + r.steps + x.steps = omega arith in rw (p, last_joined y r.touched x.touched)
    split false x = refl

sum_step : (t : Bool) (o : Outcome) → eqb o.number 0 ≡ t → (x r : Course) (b : ℕ) → x ≡ onward r b → cond t (later 1 o.touched x) (halted o) ≡ onward (cond t (later 1 o.touched r) (halted o)) b
sum_step true o e x r b h = rw h (later_onward o.touched r b)
sum_step false o e x r b h = rw e

repeat_sum : (a b : ℕ) (s : State) (m : List ℕ) → repeat_of (a + b) s m ≡ onward (repeat_of a s m) b
unfolding repeat_of
repeat_sum zero b s m = let z : 0 + b ≡ b = omega arith in rw z (sym (later_zero (repeat_of b s m)))
repeat_sum (suc a) b s m =
    let z : suc a + b ≡ suc (a + b) = omega arith in
    let t = (step_of s m).machine in
    rw z (sum_step _ (step_of s m) refl _ (repeat_of a t.state t.memory) b (repeat_sum a b t.state t.memory))

repeat_larger : (a b : ℕ) (s : State) (m : List ℕ) → ((repeat_of a s m).number ≡ 0 → ⊥) → a ≤ b → repeat_of b s m ≡ repeat_of a s m
repeat_larger a b s m e h =
    let z : b ≡ a + (b - a) = omega arith in
    ap (λ n. repeat_of n s m) z ∙ repeat_sum a (b - a) s m ∙ rw (ne_eqb _ _ e)

-- ---- the run

module _ (s : State) (m : List ℕ) where
  -- by whether it is refused
  by_refusal : (P : Course → Type 0) (n : ℕ) → (refusal_of s (length m) ≡ 0 → P (repeat_of n s m)) → ((k : ℕ) → k ≡ refusal_of s (length m) → (k ≡ 0 → ⊥) → P (course k 0 None s m)) → P (run_of s m n)
  unfolding run_of
  by_refusal P n p q = by_zero P (refusal_of s (length m)) p (q (refusal_of s (length m)) refl)

  -- budget 0 completes none and says still running
  pub run_zero : refusal_of s (length m) ≡ 0 → run_of s m 0 ≡ course 0 0 None s m
  unfolding repeat_of
  run_zero z = sym (run_repeats s m 0 z)

  -- still running: the budget is spent
  pub run_running : (n : ℕ) → (run_of s m n).number ≡ 0 → (run_of s m n).steps ≡ n
  run_running n =
      by_refusal (λ r. r.number ≡ 0 → r.steps ≡ n) n
      (λ _. running n (repeat_of n s m) (repeat_total n s m))
      (λ k q e z. absurd (e z))

  -- the exiting step isn't counted
  pub run_exits : (n : ℕ) → refusal_of s (length m) ≡ 0 → ((run_of s m n).number ≡ 0 → ⊥) → (run_of s m n).steps < n
  run_exits n z =
      by_refusal (λ r. (r.number ≡ 0 → ⊥) → r.steps < n) n
      (λ _. exited n (repeat_of n s m) (repeat_total n s m))
      (λ k q e _. absurd (e (q ∙ z)))

  -- never more than the budget
  pub run_within : (n : ℕ) → (run_of s m n).steps ≤ n
  run_within n =
      by_refusal (λ r. r.steps ≤ n) n (λ _. within n (repeat_of n s m) (repeat_total n s m)) (λ k q e. omega arith)

  -- an exit's or a refusal's number is that of the step of the state reached
  pub run_number : (n : ℕ) → ((run_of s m n).number ≡ 0 → ⊥) → (step_of (run_of s m n).machine.state (run_of s m n).machine.memory).number ≡ (run_of s m n).number
  run_number n =
      by_refusal Ends n (λ _. repeat_ends n s m) (λ k q e _. rw (← step_refused s m k q e))

  -- a run that exits is the same under every larger budget
  pub run_larger : (a b : ℕ) → ((run_of s m a).number ≡ 0 → ⊥) → a ≤ b → run_of s m b ≡ run_of s m a
  run_larger a b e h =
      by_refusal (λ r. (r.number ≡ 0 → ⊥) → run_of s m b ≡ r) a
      (λ z n. sym (run_repeats s m b z) ∙ repeat_larger a b s m n h)
      (λ k q n _. sym (run_refused s m b k q n))
      e

-- ---- what a run keeps

pub run_length : (n : ℕ) (s : State) (m : List ℕ) → length (run_of s m n).machine.memory ≡ length m
run_length n s m = run_keeps (λ _ x. length x ≡ length m) (λ t x e. step_length t x ∙ e) n s m refl

-- register 0 stays zero
pub run_register : (n : ℕ) (s : State) (m : List ℕ) → register_of (run_of s m n).machine.state.registers 0 ≡ register_of s.registers 0
run_register n s m =
    run_keeps (λ t _. register_of t.registers 0 ≡ register_of s.registers 0) (λ t x e. step_zero t x ∙ e) n s m refl

pub run_bytes : (n : ℕ) (s : State) (m : List ℕ) → Bytes m → Bytes (run_of s m n).machine.memory
run_bytes n s m b = run_keeps (λ _ x. Bytes x) (λ t x. step_bytes t x) n s m b

module _ (n : ℕ) (s : State) (m : List ℕ) (b : Bytes m) where
  pub run_typed : Typed s → Typed (run_of s m n).machine.state
  run_typed t =
      (run_keeps (λ x y. Typed x × Bytes y) (λ x y p. (step_typed x y p.0 p.1, step_bytes x y p.1)) n s m (t, b)).0

  pub run_valid : Valid s → Valid (run_of s m n).machine.state
  run_valid v =
      (run_keeps (λ x y. Valid x × Bytes y) (λ x y p. (step_valid x y p.0 p.1, step_bytes x y p.1)) n s m (v, b)).0

  -- a state that 17 does not refuse leads to one that it does not refuse
  pub run_lawful : Typed s → is_lawful s ≡ true → is_lawful (run_of s m n).machine.state ≡ true
  run_lawful t e = valid_lawful (run_of s m n).machine.state (run_valid (valid s t e))

-- ---- one run after another, and a run after a step

module _ (s : State) (m : List ℕ) (t : Typed s) (b : Bytes m) where
  unrefused : (n : ℕ) → refusal_of s (length m) ≡ 0 → refusal_of (run_of s m n).machine.state (length (run_of s m n).machine.memory) ≡ 0
  unrefused n z =
      rw (run_length n s m) (refused_alike s (run_of s m n).machine.state (length m) z (run_lawful n s m b t (not_refused s (length m) z)))

  onward_then : (r : Course) (n : ℕ) → refusal_of r.machine.state (length r.machine.memory) ≡ 0 → onward r n ≡ then_of r n
  unfolding then_of
  onward_then r n z = rw (run_repeats r.machine.state r.machine.memory n z)

  then_refused : (k n : ℕ) → (k ≡ 0 → ⊥) → course k 0 None s m ≡ then_of (course k 0 None s m) n
  unfolding then_of
  then_refused k n e = rw (ne_eqb k 0 e)

  -- a run of a + n is a run of a, then one of n
  pub run_sum : (a n : ℕ) → run_of s m (a + n) ≡ then_of (run_of s m a) n
  run_sum a n =
      by_refusal s m (λ r. run_of s m (a + n) ≡ then_of r n) a
      (λ z. sym (run_repeats s m (a + n) z) ∙ repeat_sum a n s m ∙ onward_then (repeat_of a s m) n (rw (run_repeats s m a z) (unrefused a z)))
      (λ k q e. sym (run_refused s m (a + n) k q e) ∙ then_refused k n e)

  step_unrefused : refusal_of s (length m) ≡ 0 → refusal_of (step_of s m).machine.state (length (step_of s m).machine.memory) ≡ 0
  step_unrefused z =
      rw (step_length s m) (refused_alike s (step_of s m).machine.state (length m) z (step_lawful s m t b (not_refused s (length m) z)))

  repeat_more : (n : ℕ) → refusal_of s (length m) ≡ 0 → repeat_of (suc n) s m ≡ after_of (step_of s m) n
  unfolding repeat_of after_of
  repeat_more n z = rw (run_repeats (step_of s m).machine.state (step_of s m).machine.memory n (step_unrefused z))

  after_refused : (k n : ℕ) → k ≡ refusal_of s (length m) → (k ≡ 0 → ⊥) → course k 0 None s m ≡ after_of (step_of s m) n
  unfolding after_of
  after_refused k n q e = rw (← step_refused s m k q e, ne_eqb k 0 e)

  -- one more step: a run of n + 1 is a step, then a run of n
  pub run_more : (n : ℕ) → run_of s m (suc n) ≡ after_of (step_of s m) n
  run_more n =
      by_refusal s m (λ r. r ≡ after_of (step_of s m) n) (suc n) (repeat_more n) (λ k q e. after_refused k n q e)

  -- a run that is not refused answers 0 or an exit
  numbered : (n : ℕ) → refusal_of s (length m) ≡ 0 → (t : Bool) → eqb (run_of s m n).number 0 ≡ t → ((run_of s m n).number ≡ 0) ⊎ ((40 ≤ (run_of s m n).number) × ((run_of s m n).number ≤ 52))
  numbered n z true e = inl (eqb-true _ _ e)
  numbered n z false e =
      let r = (run_of s m n).machine in
      rw (← run_number s m n (eqb-false _ _ e)) (step_number r.state r.memory (run_typed n s m b t) (run_bytes n s m b) (unrefused n z))

  pub run_numbers : (n : ℕ) → refusal_of s (length m) ≡ 0 → ((run_of s m n).number ≡ 0) ⊎ ((40 ≤ (run_of s m n).number) × ((run_of s m n).number ≤ 52))
  run_numbers n z = numbered n z (eqb (run_of s m n).number 0) refl

-- ---- the last access of a run

none_at_zero : (s : State) (m : List ℕ) → (run_of s m 0).touched ≡ None
unfolding run_of repeat_of
none_at_zero s m = by_zero (λ (r : Course). r.touched ≡ None) (refusal_of s (length m)) (λ _. refl) (λ _. refl)

then_touched : (r : Course) (n : ℕ) → r.number ≡ 0 → (then_of r n).touched ≡ last_of r.touched (run_of r.machine.state r.machine.memory n).touched
unfolding then_of
then_touched r n e = rw e

after_touched : (o : Outcome) → o.number ≡ 0 → (after_of o 0).touched ≡ o.touched
unfolding after_of
after_touched o e = rw (e, none_at_zero o.machine.state o.machine.memory)

-- one step more at the end of a run
module _ (s : State) (m : List ℕ) (t : Typed s) (b : Bytes m) (n : ℕ) (running : (run_of s m n).number ≡ 0) where
  abbrev next : Outcome
  next = step_of (run_of s m n).machine.state (run_of s m n).machine.memory

  touched_next : next.number ≡ 0 → (run_of s m (n + 1)).touched ≡ last_of (run_of s m n).touched next.touched
  touched_next e =
      let more = run_more (run_of s m n).machine.state (run_of s m n).machine.memory (run_typed n s m b t) (run_bytes n s m b) 0 in
      ap (λ r. r.touched) (run_sum s m t b n 1) ∙ (then_touched (run_of s m n) 1 running ∙ ap (last_of (run_of s m n).touched) (ap (λ r. r.touched) more ∙ after_touched next e))

  -- with an access, which is then the last
  pub run_touches : next.number ≡ 0 → (next.touched ≡ None → ⊥) → (run_of s m (n + 1)).touched ≡ next.touched
  run_touches e h = touched_next e ∙ last_some (run_of s m n).touched next.touched h

  -- without one, and the last stays
  pub run_touches_none : next.number ≡ 0 → next.touched ≡ None → (run_of s m (n + 1)).touched ≡ (run_of s m n).touched
  run_touches_none e h = touched_next e ∙ last_none (run_of s m n).touched next.touched h
