-- The theorems about a resume: what it answers, and what it leaves and keeps.
use Prim.Native.Nat.{ℕ, ◌^◌, ◌<◌}
use mathlib.Core.Path.{◌≡◌, refl, ap}
use mathlib.Core.Bool.{true, false}
use mathlib.Core.List.{List}
use lib.ListN.{length}
use native.Mathlib.Omega.{arith}
use borrow.Author.Tests.{ne_eqb}
use Rattle.std.specs.Prelude.{Ok, Err}
use Rattle.word.proofs.Choice.{by_test, by_zero}
use Rattle.effect.specs.declared.effect.Effect.{Effect}
use Rattle.effect.specs.declared.exit.Exit.{Exit}
use Rattle.effect.specs.Exit as X
use Rattle.branch.specs.Branch.{slot_of}
use Rattle.refusal.specs.declared.Refusal.{Refusal}
use Rattle.refusal.specs.Refusal.{number_of}
use Rattle.refusal.proofs.Numbers.{number_some}
use Rattle.machine.specs.declared.state.State.{State}
use Rattle.machine.specs.State.{is_lawful, refusal_of, Typed}
use Rattle.machine.specs.Step.{effect_at, Outcome, outcome, step_of}
use Rattle.machine.specs.Resume.{is_served, resumed_of, resume_of}
use Rattle.machine.proofs.Steps.{step_exits, step_completes}
use Rattle.machine.proofs.Valid.{Valid, valid, valid_lawful, advance_regular, linked_regular}

-- ---- the answer, by what the code finds

module _ (s : State) (m : List ℕ) where
  pub resume_refused : (k : ℕ) → k ≡ refusal_of s (length m) → (k ≡ 0 → ⊥) → outcome k s m ≡ resume_of s m
  unfolding resume_of
  resume_refused k e n = rw (← e, ne_eqb k 0 n)

  pub refused_as : (e : Refusal) → number_of e ≡ refusal_of s (length m) → outcome (number_of e) s m ≡ resume_of s m
  refused_as e h = resume_refused (number_of e) h (number_some e)

  module _ (z : refusal_of s (length m) ≡ 0) where
    -- the step ends in an exit
    module _ (x : Exit) (given : Err x ≡ effect_at s m) where
      pub resume_served : (t : State) → t ≡ resumed_of s → is_served (X.number_of x) ≡ true → outcome 0 t m ≡ resume_of s m
      unfolding resume_of
      resume_served t j h = rw (z, ← step_exits s m z x given, h, j)

      pub resume_not_served : is_served (X.number_of x) ≡ false → outcome 19 s m ≡ resume_of s m
      unfolding resume_of
      resume_not_served h = rw (z, ← step_exits s m z x given, h)

    -- or completes
    pub resume_completed : (e : Effect) → Ok e ≡ effect_at s m → outcome 19 s m ≡ resume_of s m
    unfolding resume_of is_served
    resume_completed e q =
        let n : 0 ≡ (step_of s m).number = ap (λ o. o.number) (step_completes s m z e q _ _ _ refl) in
        rw (z, ← n)

-- ---- what it leaves and keeps

-- what holds of the resumed state, and of the answer unchanged, holds of the resume
module _ (P : Outcome → Type 0) (s : State) (m : List ℕ) where
  pub by_resume : (is_served (step_of s m).number ≡ true → P (outcome 0 (resumed_of s) m)) → ((k : ℕ) → (k ≡ 0 → ⊥) → P (outcome k s m)) → P (resume_of s m)
  unfolding resume_of
  by_resume p q =
      by_zero P (refusal_of s (length m))
      (λ _. by_test P (is_served (step_of s m).number) p (λ _. q 19 (λ e. omega (arith, e))))
      (q (refusal_of s (length m)))

slot_word : (a : ℕ) → slot_of a < 2 ^ 32
unfolding slot_of
slot_word a = omega arith

resumed_typed : (s : State) → Typed s → Typed (resumed_of s)
resumed_typed s t =
    let w = t.special in
    record {
      count = t.count;
      registers = t.registers;
      special = record {
        hi = w.hi;
        lo = w.lo;
        pc = w.next_pc;
        next_pc = slot_word s.special.next_pc;
        bad = w.bad;
        status = w.status;
        cause = w.cause;
        epc = w.epc;
      };
    }

module _ (s : State) (m : List ℕ) where
  -- memory is only read
  pub resume_memory : (resume_of s m).machine.memory ≡ m
  resume_memory = by_resume (λ o. o.machine.memory ≡ m) s m (λ _. refl) (λ k n. refl)

  -- a refused resume leaves the state
  pub resume_leaves : ((resume_of s m).number ≡ 0 → ⊥) → (resume_of s m).machine ≡ record { state = s; memory = m }
  resume_leaves =
      by_resume (λ o. (o.number ≡ 0 → ⊥) → o.machine ≡ record { state = s; memory = m }) s m
      (λ _ e. absurd (e refl))
      (λ k n _. refl)

  -- one that is given serves one of the four exits
  pub resume_given : (resume_of s m).number ≡ 0 → (is_served (step_of s m).number ≡ true) × ((resume_of s m).machine.state ≡ resumed_of s)
  resume_given =
      by_resume (λ o. o.number ≡ 0 → (is_served (step_of s m).number ≡ true) × (o.machine.state ≡ resumed_of s)) s m
      (λ h _. (h, refl))
      (λ k n e. absurd (n e))

  pub resume_valid : Valid s → Valid (resume_of s m).machine.state
  resume_valid v =
      by_resume (λ o. Valid o.machine.state) s m
      (λ _. record { registers = v.registers; special = linked_regular (advance_regular v.special) })
      (λ k n. v)

  -- a state that 17 does not refuse leads to one that it does not refuse
  pub resume_lawful : Typed s → is_lawful s ≡ true → is_lawful (resume_of s m).machine.state ≡ true
  resume_lawful t e = valid_lawful (resume_of s m).machine.state (resume_valid (valid s t e))

  pub resume_typed : Typed s → Typed (resume_of s m).machine.state
  resume_typed t =
      by_resume (λ o. Typed o.machine.state) s m
      (λ _. resumed_typed s t)
      (λ k n. t)
