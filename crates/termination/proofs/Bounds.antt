-- From the invariant: what each event does to a module that was not resumed in its last bundle, and how many steps runs and lists complete, for
-- the methods of State.
use Prim.Native.Nat.{ℕ, zero, suc, ◌+◌, ◌%◌, ◌≤◌, ◌<◌}
use mathlib.Core.Path.{◌≡◌, refl, sym, ap, subst, ◌∙◌}
use mathlib.Core.Bool.{Bool, true, false, cond, false≢true}
use mathlib.Core.Logic.{inl, inr, ⊎_elim}
use mathlib.Core.List.{List, [], ◌∷◌}
use native.Mathlib.Omega.{arith}
use native.Mathlib.Decide.{dec_lt}
use lib.Dec.{eqb}
use borrow.Author.Tests.{eqb-true, eqb-false, lt-ltb, le-ltb}
use Rattle.word.proofs.Choice.{by_test, by_zero}
use Rattle.layout.specs.declared.Layout.{Layout}
use Rattle.machine.specs.declared.state.State.{State}
use Rattle.machine.specs.Apply.{Machine}
use Rattle.machine.specs.Step.{step_of}
use Rattle.machine.specs.Run.{Course, repeat_of, run_of}
use Rattle.machine.specs.Resume.{is_served, resumed_of, resume_of}
use Rattle.machine.proofs.Steps.{exit_leaves}
use Rattle.machine.proofs.Runs.{run_repeats, run_running}
use Rattle.machine.proofs.Resumes.{by_resume}
use Rattle.checker.specs.Lawful.{Lawful}
use Rattle.straight.specs.Straight.{Straight}
use Rattle.confinement.specs.Events.{Write, Event, Step, Run, Resume, Change}
use Rattle.confinement.specs.Calls.{Lent, lent, Reply, put_state, methods}
use Rattle.confinement.specs.Lists.{put_byte, put_all, stands, change_of, list_of}
use Rattle.confinement.proofs.Areas.{code_bundles}
use Rattle.confinement.proofs.ByKind.{Idle}
use Rattle.confinement.proofs.Invariant.{Inside}
use Rattle.confinement.proofs.Hosts.{put_counters}
use Rattle.confinement.proofs.Steps.{here, unrefused, exit_is}
use Rattle.confinement.proofs.Keeps.{resumed_inside}
use Rattle.confinement.proofs.Lists.{run_inside, event_left}
use Rattle.termination.specs.Ends.{answers_of, Some, Exits, steps_of, is_past, steps_until, asked}
use Rattle.termination.proofs.Forward.{end, Going, step_going, resumed_word, resumed_forward}

-- ---- a change by the host leaves the program counters

abbrev pub SameCounters : State → State → Type 0
SameCounters s t = (s.special.pc ≡ t.special.pc) × (s.special.next_pc ≡ t.special.next_pc)

put_same : (l : Layout) (xs : List Write) (w : Lent State) → SameCounters (put_all methods l xs w).state w.state
put_same l [] w = (refl, refl)
put_same l (x ∷ xs) w =
    let c = put_counters x w.state in
    let r = put_same l xs (lent (put_state x w.state) (put_byte x w.memory)) in
    (r.0 ∙ c.0, r.1 ∙ c.1.0)

pub change_same : (l : Layout) (xs : List Write) (w : Lent State) → SameCounters (change_of methods l xs w).left.state w.state
change_same l xs w =
    by_test (λ (r : Reply State). SameCounters r.left.state w.state) (stands methods l xs w) (λ _. put_same l xs w) (λ _. (refl, refl))

change_none : (l : Layout) (xs : List Write) (w : Lent State) → steps_of (change_of methods l xs w).answer ≡ 0
change_none l xs w = by_test (λ (r : Reply State). steps_of r.answer ≡ 0) (stands methods l xs w) (λ _. refl) (λ _. refl)

module _ (l : Layout) (len : ℕ) (img : List ℕ) (ok : Lawful l len img) where
  -- a resume is given where the word at PC is no branch
  pub served_idle : (s : State) (m : List ℕ) (v : Inside l len img s m) → is_served (step_of s m).number ≡ true → Idle (here l len img ok s m v).kind
  unfolding is_served
  served_idle s m v e =
      ⊎_elim (λ z. absurd (false≢true (ap is_served (sym z) ∙ e))) (λ p. p.1) (exit_is l len img ok s m v)

module _ (l : Layout) (len : ℕ) (img : List ℕ) (ok : Lawful l len img) (straight : Straight l img) where
  abbrev last : ℕ
  last = end l len img ok straight

  abbrev Goes : State → List ℕ → Type 0
  Goes s m = Going l len img ok straight s m

  abbrev word_of : {s : State} {m : List ℕ} → Goes s m → ℕ
  word_of g = g.inside.position.word

  -- the state reached with n steps completed: n words on, or more
  record On {s : State} {m : List ℕ} (g : Goes s m) (n : ℕ) (t : State) (x : List ℕ) : Type 0 where
    going : Goes t x
    far : word_of g + n ≤ word_of going

  same_on : (s : State) (m : List ℕ) (g : Goes s m) → On g 0 s m
  same_on s m g = record { going = g; far = omega arith }

  -- ---- steps and runs

  step_on : (s : State) (m : List ℕ) (g : Goes s m) → On g (cond (eqb (step_of s m).number 0) 1 0) (step_of s m).machine.state (step_of s m).machine.memory
  step_on s m g = by (eqb (step_of s m).number 0) refl
    where
      by : (b : Bool) → eqb (step_of s m).number 0 ≡ b → On g (cond b 1 0) (step_of s m).machine.state (step_of s m).machine.memory
      by true e =
          let a = step_going l len img ok straight s m g (eqb-true _ 0 e) in record { going = a.going; far = omega (arith, a.later) }
      by false e = subst (λ (o : Machine). On g 0 o.state o.memory) (sym (exit_leaves s m (eqb-false _ 0 e))) (same_on s m g)

  abbrev RanOn : {s : State} {m : List ℕ} → Goes s m → Course → Type 0
  RanOn g r = On g r.steps r.machine.state r.machine.memory

  repeat_on : (n : ℕ) (s : State) (m : List ℕ) (g : Goes s m) → RanOn g (repeat_of n s m)
  unfolding repeat_of
  repeat_on zero s m g = same_on s m g
  repeat_on (suc n) s m g =
      by_zero (RanOn g) (step_of s m).number
      (λ z. let a = step_going l len img ok straight s m g z in
      let r = repeat_on n (step_of s m).machine.state (step_of s m).machine.memory a.going in
      record { going = r.going; far = omega (arith, a.later, r.far) })
      (λ e. subst (λ (o : Machine). On g 0 o.state o.memory) (sym (exit_leaves s m e)) (same_on s m g))

  run_on : (n : ℕ) (s : State) (m : List ℕ) (g : Goes s m) → RanOn g (run_of s m n)
  run_on n s m g = subst (RanOn g) (run_repeats s m n (unrefused l len img ok s m g.inside)) (repeat_on n s m g)

  pub run_bounded : (n : ℕ) (s : State) (m : List ℕ) (g : Goes s m) → word_of g + (run_of s m n).steps ≤ last
  run_bounded n s m g = let r = run_on n s m g in omega (arith, r.far, r.going.forward.early)

  -- ---- a change by the host

  change_on : (xs : List Write) (w : Lent State) (g : Goes w.state w.memory)
      → On g 0 (change_of methods l xs w).left.state (change_of methods l xs w).left.memory
  change_on xs w g =
      let v = g.inside in
      let n = (event_left l len img ok w v (Change xs)).inside in
      let c = change_same l xs w in
      let a : n.position.word ≡ v.position.word = omega (arith, n.position.counter, v.position.counter, c.0) in
      let b : n.position.following ≡ v.position.following = omega (arith, n.position.next_counter, v.position.next_counter, c.1) in
      record { going = record { inside = n; forward = rw (a, b) g.forward }; far = omega (arith, a) }

  -- ---- a list whose calls ask for more steps than are left has an exit

  pub asked_exits : (es : List Event) (w : Lent State) (g : Goes w.state w.memory) → last < word_of g + asked es
      → Some Exits (answers_of methods l es w)
  asked_exits [] w g h = absurd (omega (arith, h, g.forward.early))
  asked_exits (Step ∷ es) w g h =
      ⊎_elim
      (λ z. let a = step_going l len img ok straight w.state w.memory g z in
      inr (asked_exits es (lent (step_of w.state w.memory).machine.state (step_of w.state w.memory).machine.memory) a.going (omega (arith, h, a.later))))
      (λ p. inl p.0)
      (exit_is l len img ok w.state w.memory g.inside)
  asked_exits (Run n ∷ es) w g h =
      let r = run_on n w.state w.memory g in
      ⊎_elim
      (λ z. inr (asked_exits es (lent (run_of w.state w.memory n).machine.state (run_of w.state w.memory n).machine.memory) r.going
      (omega (arith, h, r.far, run_running w.state w.memory n z))))
      inl
      (run_inside l len img ok n w.state w.memory g.inside).answered.0
  asked_exits (Resume ∷ es) w g h = absurd (omega (arith, h, g.forward.early))
  asked_exits (Change xs ∷ es) w g h =
      let c = change_on xs w g in inr (asked_exits es (change_of methods l xs w).left c.going (omega (arith, h, c.far)))

  -- ---- the steps of a list, until the module is resumed in its last bundle

  not_past : (s : State) (m : List ℕ) (g : Goes s m) → is_past l s.special.pc ≡ false
  not_past s m g =
      let z : l.code_size % 16 ≡ 0 = code_bundles l len img ok in
      le-ltb (l.code_base + l.code_size) (s.special.pc + 16) (omega (arith, g.inside.position.counter, g.forward.early, ok.r2.1.0, z))

  past : (s : State) (m : List ℕ) (v : Inside l len img s m) → last < v.position.word → is_past l s.special.pc ≡ true
  past s m v h =
      let z : l.code_size % 16 ≡ 0 = code_bundles l len img ok in lt-ltb (l.code_base + l.code_size) (s.special.pc + 16) (omega (arith, v.position.counter, h, z))

  abbrev Bounded : {s : State} {m : List ℕ} → Goes s m → List Event → ℕ → State → List ℕ → Type 0
  Bounded g es n t x = word_of g + (n + cond (is_past l t.special.pc) 0 (steps_until methods l (list_of methods l es (lent t x)))) ≤ last

  abbrev Lists : List Event → Type 0
  Lists es = (w : Lent State) (g : Goes w.state w.memory) → word_of g + steps_until methods l (list_of methods l es w) ≤ last

  then_bounded : (es : List Event) → Lists es → {s : State} {m : List ℕ} (g : Goes s m) (n : ℕ) (t : State) (x : List ℕ) → On g n t x → Bounded g es n t x
  then_bounded es more g n t x o = rw (not_past t x o.going) (omega (arith, o.far, more (lent t x) o.going))

  resume_bounded : (es : List Event) → Lists es → (s : State) (m : List ℕ) (g : Goes s m)
      → Bounded g es 0 (resume_of s m).machine.state (resume_of s m).machine.memory
  resume_bounded es more s m g =
      by_resume (λ o. Bounded g es 0 o.machine.state o.machine.memory) s m
      (λ e. let v = g.inside in
      let h = served_idle l len img ok s m v e in
      let t = resumed_inside l len img ok s m v h in
      let at : t.position.word ≡ v.position.following = resumed_word l len img ok straight s m v h in
      elim (dec_lt v.position.word last) [
        | yes k ↦ then_bounded es more g 0 (resumed_of s) m
            (record { going = record { inside = t; forward = resumed_forward l len img ok straight s m v h g.forward k }; far = omega (arith, at, (g.forward.rising k).0) })
        | no k ↦ rw (past (resumed_of s) m t (omega (arith, at, k, g.forward.early, g.forward.entered (omega (arith, k, g.forward.early))))) (omega (arith, g.forward.early))
      ])
      (λ _ _. then_bounded es more g 0 s m (same_on s m g))

  pub list_bounded : (es : List Event) → Lists es
  list_bounded [] w g = omega (arith, g.forward.early)
  list_bounded (Step ∷ es) w g = then_bounded es (list_bounded es) g _ _ _ (step_on w.state w.memory g)
  list_bounded (Run n ∷ es) w g = then_bounded es (list_bounded es) g _ _ _ (run_on n w.state w.memory g)
  list_bounded (Resume ∷ es) w g = resume_bounded es (list_bounded es) w.state w.memory g
  list_bounded (Change xs ∷ es) w g =
      rw (change_none l xs w) (then_bounded es (list_bounded es) g 0 (change_of methods l xs w).left.state (change_of methods l xs w).left.memory (change_on xs w g))
