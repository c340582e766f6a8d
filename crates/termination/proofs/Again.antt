-- After every list of events: how many steps are left until an exit. A module that is resumed in its last bundle goes round it, to the same exit.
use Prim.Native.Nat.{ℕ, zero, suc, ◌+◌, ◌-◌, ◌*◌, ◌%◌, ◌≤◌, ◌<◌}
use mathlib.Core.Path.{◌≡◌, refl, sym, ap, subst, ◌∙◌}
use mathlib.Core.Bool.{Bool, true, false, false≢true}
use mathlib.Core.Logic.{⊎_elim}
use mathlib.Core.List.{List, [], ◌∷◌, ◌++◌}
use native.Mathlib.Omega.{arith}
use native.Mathlib.Decide.{dec_lt}
use lib.Dec.{eqb}
use borrow.Author.Tests.{eqb-true, eqb-false}
use Rattle.std.specs.Prelude.{Option, Some, None}
use Rattle.word.proofs.Choice.{by_zero}
use Rattle.isa.specs.declared.kind.Kind.{Kind}
use Rattle.isa.specs.declared.kind.Instruction.{Instruction}
use Rattle.isa.specs.Reading.{fits, decode_of, read_fields, read_of}
use Rattle.class.specs.declared.Flow.{Flow}
use Rattle.class.specs.declared.Flow.TheVariants.{Onward, Region}
use Rattle.class.specs.Class.{class_of}
use Rattle.branch.specs.Branch.{region_of}
use Rattle.layout.specs.declared.Layout.{Layout}
use Rattle.view.specs.View.{is_region}
use Rattle.machine.specs.declared.state.State.{State}
use Rattle.machine.specs.State.{register_of, special_of}
use Rattle.machine.specs.Apply.{Machine}
use Rattle.machine.specs.Step.{step_of}
use Rattle.machine.specs.Run.{Course, repeat_of, run_of}
use Rattle.machine.specs.Resume.{resume_of}
use Rattle.machine.proofs.Steps.{exit_leaves}
use Rattle.machine.proofs.Runs.{run_keeps, run_repeats, run_running}
use Rattle.machine.proofs.Resumes.{by_resume}
use Rattle.checker.specs.Lawful.{Stands, flow_of, words_in, Lawful}
use Rattle.straight.specs.Straight.{Zero, Straight}
use Rattle.confinement.proofs.ByKind.{Leads, Idle}
use Rattle.confinement.proofs.Areas.{code_bundles}
use Rattle.confinement.proofs.Invariant.{Inside, stands_once}
use Rattle.confinement.proofs.Steps.{here, stands_here, unrefused}
use Rattle.confinement.specs.Events.{Write, Event, Step, Run, Resume, Change}
use Rattle.confinement.specs.Calls.{Lent, Answer, methods}
use Rattle.confinement.specs.Lists.{change_of, event_of}
use Rattle.confinement.specs.Demand.{Allowed}
use Rattle.confinement.proofs.Lists.{run_inside, event_left}
use Rattle.confinement.proofs.Keeps.{step_inside, resumed_inside}
use Rattle.termination.specs.Ends.{answers_of, Last, Exits}
use Rattle.termination.proofs.Forward.{end, Forward, in_order, Going, then, next_word, goes, to_word, to_slot, within, step_forward, resumed, resumed_word, resumed_next, resumed_forward}
use Rattle.termination.proofs.Bounds.{change_same, served_idle}

-- a zero word is no branch
zero_onward : (img : List ℕ) (i : ℕ) (x : Instruction) → Zero img i → Stands img i x → flow_of x ≡ Onward
unfolding read_of read_fields fits decode_of
zero_onward img i x z s = ap flow_in (sym s ∙ ap read_of z)
  where
    flow_in : Option Instruction → Flow
    flow_in (Some y) = flow_of y
    flow_in None = Onward

last_more : (a : Answer) (rest : List Answer) → Last Exits rest → Last Exits (a ∷ rest)
last_more a [] h = absurd h
last_more a (b ∷ rest) h = h

module _ (l : Layout) (len : ℕ) (img : List ℕ) (ok : Lawful l len img) (straight : Straight l img) where
  abbrev last : ℕ
  last = end l len img ok straight

  abbrev Early : ℕ → ℕ → Type 0
  Early p q = Forward l len img ok straight p q

  four : 4 ≤ words_in l
  four = omega (arith, ok.r2.1.0)

  -- word p is executed next, then word q, with k steps left at most: before the last bundle's exit, or in its other three words after it
  pub data Place : ℕ → ℕ → ℕ → Type 0 where
    early : (k p q : ℕ) → Early p q → p + k ≡ last → Place k p q
    second : (p q : ℕ) → p ≡ last + 1 → q ≡ last + 2 → Place 3 p q
    jump : (p q : ℕ) → p ≡ last + 2 → q ≡ last + 3 → Place 2 p q
    slot : (p q : ℕ) → p ≡ last + 3 → q ≡ last → Place 1 p q

  abbrev pub Somewhere : ℕ → ℕ → Type 0
  Somewhere p q = (k : ℕ) × Place k p q

  few : {k p q : ℕ} → Place k p q → k ≤ last + 3
  few (early k _ _ f e) = omega (arith, e)
  few (second _ _ _ _) = omega arith
  few (jump _ _ _ _) = omega arith
  few (slot _ _ _ _) = omega arith

  at_last : (p q : ℕ) → p ≡ last → q ≡ last + 1 → Place 0 p q
  at_last p q e f = early 0 p q (in_order l len img ok straight p q (omega (arith, e)) (omega (arith, e, f))) (omega (arith, e))

  module _ (s : State) (m : List ℕ) (v : Inside l len img s m) where
    abbrev i : ℕ
    i = v.position.word

    abbrev j : ℕ
    j = v.position.following

    abbrev x : Instruction
    x = here l len img ok s m v

    stands_at : (n : ℕ) → i ≡ n → Stands img n x
    stands_at n e = subst (λ (k : ℕ). Stands img k x) e (stands_here l len img ok s m v)

    -- the last word but one is the J of the last bundle
    jump_flow : i ≡ words_in l - 2 → flow_of x ≡ Region
    jump_flow e =
        let (y, (t, (k, _))) = straight.r21.1.1.0 in
        ap flow_of (sym (stands_once img (words_in l - 2) y x t (stands_at (words_in l - 2) e))) ∙ ap (λ (c : Kind). (class_of c).flow) k

    -- ---- a completed step

    module _ (z : (step_of s m).number ≡ 0) where
      abbrev p : ℕ
      p = (then l len img ok straight s m v z).position.word

      abbrev q : ℕ
      q = (then l len img ok straight s m v z).position.following

      p_is : p ≡ j
      p_is = next_word l len img ok straight s m v z

      abbrev next : ℕ
      next = (step_of s m).machine.state.special.next_pc

      led : (f : Flow) → flow_of x ≡ f → Leads f x (register_of s.registers x.rs) (special_of s) next
      led f e = subst (λ (g : Flow). Leads g x (register_of s.registers x.rs) (special_of s) next) e (goes l len img ok straight s m v z)

      zero_next : (n : ℕ) → i ≡ n → Zero img n → j + 1 < words_in l → q ≡ j + 1
      zero_next n e w h =
          to_slot l len img ok straight s m v z h (led Onward (zero_onward img n x w (stands_at n e)))

      jump_next : i ≡ words_in l - 2 → q ≡ last
      jump_next e =
          let (y, (t, (_, b))) = straight.r21.1.1.0 in
          let same : y ≡ x = stands_once img (words_in l - 2) y x t (stands_at (words_in l - 2) e) in
          let to : region_of s.special.pc x.value ≡ region_of (l.code_base + 4 * (words_in l - 2)) y.value =
          ap (λ (c : ℕ). region_of c x.value) (v.position.counter ∙ ap (λ (n : ℕ). l.code_base + 4 * n) e)
          ∙ ap (λ (u : Instruction). region_of (l.code_base + 4 * (words_in l - 2)) u.value) (sym same) in
          let size : l.code_size % 16 ≡ 0 = code_bundles l len img ok in
          to_word l len img ok straight s m v z last (omega (arith, led Region (jump_flow e), to, b, size, four))

      step_place : {k : ℕ} → Place k i j → (n : ℕ) × ((n < k) × Place n p q)
      step_place (early k _ _ f e) =
          let g = step_forward l len img ok straight s m v f z in
          let w = within l len img ok straight s m v f z in
          (last - p, (omega (arith, w.0, p_is, e, g.early), early (last - p) p q g (omega (arith, g.early))))
      step_place (second _ _ e f) =
          let n = zero_next (words_in l - 3) (omega (arith, e, four)) straight.r21.1.0 (omega (arith, f, four)) in
          (2, (omega arith, jump p q (omega (arith, p_is, f)) (omega (arith, n, f))))
      step_place (jump _ _ e f) = (1, (omega arith, slot p q (omega (arith, p_is, f)) (jump_next (omega (arith, e, four)))))
      step_place (slot _ _ e f) =
          let n = zero_next (words_in l - 1) (omega (arith, e, four)) straight.r21.1.1.1 (omega (arith, f, four)) in
          (0, (omega arith, at_last p q (omega (arith, p_is, f)) (omega (arith, n, f))))

    -- ---- a resume, at a word that is no branch

    module _ (h : Idle x.kind) where
      abbrev u : ℕ
      u = (resumed l len img ok straight s m v h).position.word

      abbrev w : ℕ
      w = (resumed l len img ok straight s m v h).position.following

      u_is : u ≡ j
      u_is = resumed_word l len img ok straight s m v h

      w_is : j + 1 < words_in l → w ≡ j + 1
      w_is = resumed_next l len img ok straight s m v h

      resumed_place : {k : ℕ} → Place k i j → Somewhere u w
      resumed_place (early k _ _ f e) = elim (dec_lt i last) [
        | yes g ↦ (
          last - j,
          early (last - j) u w (resumed_forward l len img ok straight s m v h f g) (omega (arith, u_is, (f.rising g).1)),
        )
        | no g ↦ (
            let d = f.entered (omega (arith, f.early, g)) in
            let n = w_is (omega (arith, d, f.early, four)) in
            (3, second u w (omega (arith, u_is, d, f.early, g)) (omega (arith, n, d, f.early, g)))
            )
      ]
      resumed_place (second _ _ e f) =
          let n = w_is (omega (arith, f, four)) in (2, jump u w (omega (arith, u_is, f)) (omega (arith, n, f)))
      resumed_place (jump _ _ e f) =
          absurd (false≢true (sym (ap is_region h.onward) ∙ ap is_region (jump_flow (omega (arith, e, four)))))
      resumed_place (slot _ _ e f) =
          let n = w_is (omega (arith, f, four)) in (0, at_last u w (omega (arith, u_is, f)) (omega (arith, n, f)))

  -- ---- where the module stands between two events

  pub record Left (s : State) (m : List ℕ) : Type 0 where
    pub inside : Inside l len img s m
    pub place : Somewhere inside.position.word inside.position.following

  step_some : (s : State) (m : List ℕ) → Left s m → Left (step_of s m).machine.state (step_of s m).machine.memory
  step_some s m w = by (eqb (step_of s m).number 0) refl
    where
      by : (b : Bool) → eqb (step_of s m).number 0 ≡ b → Left (step_of s m).machine.state (step_of s m).machine.memory
      by true e =
          let (k, (_, p)) = step_place s m w.inside (eqb-true _ 0 e) w.place.1 in
          record { inside = step_inside l len img ok s m w.inside; place = (k, p) }
      by false e = subst (λ (o : Machine). Left o.state o.memory) (sym (exit_leaves s m (eqb-false _ 0 e))) w

  run_some : (n : ℕ) (s : State) (m : List ℕ) → Left s m → Left (run_of s m n).machine.state (run_of s m n).machine.memory
  run_some = run_keeps Left step_some

  -- no more steps than are left
  repeat_few : (n k : ℕ) (s : State) (m : List ℕ) (v : Inside l len img s m) → Place k v.position.word v.position.following
      → (repeat_of n s m).steps ≤ k
  unfolding repeat_of
  repeat_few zero k s m v at = omega arith
  repeat_few (suc n) k s m v at =
      by_zero (λ (r : Course). r.steps ≤ k) (step_of s m).number
      (λ z. let a = step_place s m v z at in
      omega (arith, a.1.0, repeat_few n a.0 (step_of s m).machine.state (step_of s m).machine.memory (step_inside l len img ok s m v) a.1.1))
      (λ _. omega arith)

  pub run_again : (n : ℕ) (s : State) (m : List ℕ) → Left s m → words_in l ≤ n → Allowed (run_of s m n).number
  run_again n s m w h =
      let total : (run_of s m n).steps ≤ last + 3 =
      subst (λ (r : Course). r.steps ≤ last + 3) (run_repeats s m n (unrefused l len img ok s m w.inside))
      (omega (arith, repeat_few n w.place.0 s m w.inside w.place.1, few w.place.1)) in
      ⊎_elim (λ z. absurd (omega (arith, h, total, run_running s m n z, four))) (λ a. a) (run_inside l len img ok n s m w.inside).answered.0

  -- ---- every event

  resume_some : (s : State) (m : List ℕ) → Left s m → Left (resume_of s m).machine.state (resume_of s m).machine.memory
  resume_some s m w =
      by_resume (λ o. Left o.machine.state o.machine.memory) s m
      (λ e. let h = served_idle l len img ok s m w.inside e in
      record { inside = resumed_inside l len img ok s m w.inside h; place = resumed_place s m w.inside h w.place.1 })
      (λ _ _. w)

  change_some : (xs : List Write) (w : Lent State) → Left w.state w.memory
      → Left (change_of methods l xs w).left.state (change_of methods l xs w).left.memory
  change_some xs w g =
      let v = g.inside in
      let n = (event_left l len img ok w v (Change xs)).inside in
      let c = change_same l xs w in
      let a : n.position.word ≡ v.position.word = omega (arith, n.position.counter, v.position.counter, c.0) in
      let b : n.position.following ≡ v.position.following = omega (arith, n.position.next_counter, v.position.next_counter, c.1) in
      record { inside = n; place = rw (a, b) g.place }

  event_some : (e : Event) (w : Lent State) → Left w.state w.memory → Left (event_of methods l e w).left.state (event_of methods l e w).left.memory
  event_some Step w g = step_some w.state w.memory g
  event_some (Run n) w g = run_some n w.state w.memory g
  event_some Resume w g = resume_some w.state w.memory g
  event_some (Change xs) w g = change_some xs w g

  -- ---- a run at the end of a list

  pub list_again : (es : List Event) (n : ℕ) (w : Lent State) → Left w.state w.memory → words_in l ≤ n
      → Last Exits (answers_of methods l (es ++ (Run n ∷ [])) w)
  list_again [] n w g h = run_again n w.state w.memory g h
  list_again (e ∷ es) n w g h =
      let r = event_of methods l e w in
      last_more r.answer (answers_of methods l (es ++ (Run n ∷ [])) r.left) (list_again es n r.left (event_some e w g) h)

  pub going_left : (s : State) (m : List ℕ) → Going l len img ok straight s m → Left s m
  going_left s m g =
      let p = g.inside.position.word in
      record { inside = g.inside; place = (last - p, early (last - p) p g.inside.position.following g.forward (omega (arith, g.forward.early))) }
