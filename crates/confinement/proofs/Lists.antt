-- Confinement along a whole list: every event keeps the invariant, and so does every list.
use Prim.Native.Nat.{ℕ, zero, suc}
use mathlib.Core.Path.{◌≡◌, refl, sym, ap, ◌∙◌, subst}
use mathlib.Core.Bool.{Bool, true, false, false≢true}
use mathlib.Core.Logic.{◌⊎◌, inl, inr, ⊎_elim}
use mathlib.Core.List.{List, [], ◌∷◌}
use lib.ListN.{length}
use Rattle.word.proofs.Choice.{by_test, by_zero, both}
use Rattle.isa.specs.declared.kind.Instruction.{Instruction}
use Rattle.layout.specs.declared.Layout.{Layout}
use Rattle.system.specs.System.{is_user}
use Rattle.machine.specs.declared.state.State.{State}
use Rattle.machine.specs.State.{refusal_of}
use Rattle.std.specs.Prelude.{Option, None, Some}
use Rattle.effect.specs.declared.effect.Touched.{Touched}
use Rattle.effect.specs.declared.effect.Touched.TheVariants.{Load, Store}
use Rattle.effect.specs.Touched.{last_of, cell_of}
use Rattle.machine.specs.Apply.{Machine, Span, span_of}
use Rattle.machine.specs.Step.{access_at, Outcome, step_of}
use Rattle.machine.specs.Run.{Course, repeat_of, run_of}
use Rattle.machine.specs.Resume.{is_served, resume_of}
use Rattle.machine.proofs.Steps.{step_touches}
use Rattle.machine.proofs.Runs.{run_repeats}
use Rattle.checker.specs.Lawful.{Stands, Lawful}
use Rattle.checker.specs.Refusal.{All}
use Rattle.checker.proofs.Trials.{join, implied}
use Rattle.confinement.specs.Events.{Write, Event, Step, Run, Resume, Change, is_other, may_write}
use Rattle.confinement.specs.Calls.{Lent, lent, Reply, put_state, methods}
use Rattle.confinement.specs.Lists.{is_exit, may_all, put_byte, put_all, stands, event_of, list_of, run_tries, tries, list_tries}
use Rattle.confinement.specs.Demand.{InData, Allowed, Confined, Untouched, Expected, CellInData, TouchedInData}
use Rattle.confinement.proofs.Definitions.{stands_exit, stands_may}
use Rattle.confinement.proofs.ByKind.{Idle}
use Rattle.confinement.proofs.Invariant.{Inside, idle_ready}
use Rattle.confinement.proofs.Steps.{here, stands_here, unrefused, exit_is, confined, step_untouched}
use Rattle.confinement.proofs.Keeps.{code_kept, step_inside, resumed_inside}
use Rattle.confinement.proofs.Hosts.{put_valid, put_memory, put_spares, put_untouched, put_counters}

pub untouched_same : (l : Layout) (m : List ℕ) → Untouched l m m
untouched_same l m = record { same_length = refl; same_bytes = λ a n. refl }

pub untouched_then : (l : Layout) (m n o : List ℕ) → Untouched l m n → Untouched l n o → Untouched l m o
untouched_then l m n o p q =
    record {
      same_length = q.same_length ∙ p.same_length;
      same_bytes = λ a h. q.same_bytes a h ∙ p.same_bytes a h;
    }

module _ (l : Layout) (len : ℕ) (img : List ℕ) (ok : Lawful l len img) where
  -- what a call leaves, from memory m
  pub record Left (m : List ℕ) (s : State) (n : List ℕ) (P : Type 0) : Type 0 where
    pub inside : Inside l len img s n
    pub untouched : Untouched l m n
    pub answered : P

  -- ---- a run, from any state that the invariant allows

  abbrev Ended : ℕ → Type 0
  Ended k = (k ≡ 0) ⊎ Allowed k

  abbrev Told : ℕ → Option Touched → Type 0
  Told k t = Ended k × CellInData l (cell_of t)

  abbrev Reached : List ℕ → Course → Type 0
  Reached m r = Left m r.machine.state r.machine.memory (Told r.number r.touched)

  -- of accesses inside the data area, the last is inside it
  span_inside : (t : Option Touched) (x : Span) → InData l x → (t ≡ None) ⊎ (span_of t ≡ x) → CellInData l (cell_of t)
  span_inside None x h e = inl refl
  span_inside (Some (Load a w)) x h (inl e) = inl (ap (λ t. (span_of t).width) e)
  span_inside (Some (Load a w)) x h (inr e) = subst (InData l) (sym e) h
  span_inside (Some (Store a w)) x h (inl e) = inl (ap (λ t. (span_of t).width) e)
  span_inside (Some (Store a w)) x h (inr e) = subst (InData l) (sym e) h

  last_inside : (t u : Option Touched) → CellInData l (cell_of t) → CellInData l (cell_of u) → CellInData l (cell_of (last_of t u))
  last_inside t None h k = h
  last_inside t (Some y) h k = k

  step_left : (s : State) (m : List ℕ) → Inside l len img s m → Left m (step_of s m).machine.state (step_of s m).machine.memory (Told (step_of s m).number (step_of s m).touched)
  step_left s m v =
      record {
        inside = step_inside l len img ok s m v;
        untouched = step_untouched l len img ok s m v;
        answered = (
          ⊎_elim inl (λ p. inr p.0) (exit_is l len img ok s m v),
          span_inside (step_of s m).touched (access_at s m) (confined l len img ok s m v).access (step_touches s m v.valid v.bytes),
        );
      }

  repeat_left : (n : ℕ) (s : State) (m : List ℕ) → Inside l len img s m → Reached m (repeat_of n s m)
  unfolding repeat_of
  repeat_left zero s m v = record { inside = v; untouched = untouched_same l m; answered = (inl refl, inl refl) }
  repeat_left (suc n) s m v =
      let t = step_left s m v in
      let u = (step_of s m).machine in
      let r = repeat_left n u.state u.memory t.inside in
      by_zero (Reached m) (step_of s m).number
      (λ _. record { inside = r.inside; untouched = untouched_then l m _ _ t.untouched r.untouched; answered = (r.answered.0, last_inside (step_of s m).touched (repeat_of n u.state u.memory).touched t.answered.1 r.answered.1) })
      (λ _. record { inside = t.inside; untouched = t.untouched; answered = (t.answered.0, inl refl) })

  -- it changes only data, and ends still running or by an allowed exit
  pub run_inside : (n : ℕ) (s : State) (m : List ℕ) → Inside l len img s m → Left m (run_of s m n).machine.state (run_of s m n).machine.memory (Told (run_of s m n).number (run_of s m n).touched)
  run_inside n s m v =
      subst (Reached m) (run_repeats s m n (unrefused l len img ok s m v)) (repeat_left n s m v)

  abbrev Tried : Machine → Type 0
  Tried t = Inside l len img t.state t.memory

  -- each of its steps, the exiting one too, is tried inside
  run_tried : (n : ℕ) (s : State) (m : List ℕ) → Inside l len img s m → All Tried (run_tries n s m)
  run_tried zero s m v = tt
  run_tried (suc n) s m v = (
    v,
    by_zero (All Tried) (step_of s m).number
        (λ _. run_tried n (step_of s m).machine.state (step_of s m).machine.memory (step_inside l len img ok s m v))
        (λ _. tt),
  )

  -- so it fetches from the code and accesses the data alone
  pub run_confined : (n : ℕ) (s : State) (m : List ℕ) → Inside l len img s m → All (Confined l) (run_tries n s m)
  run_confined n s m v = implied Tried (Confined l) (λ t h. confined l len img ok t.state t.memory h) (run_tries n s m) (run_tried n s m v)

  -- ---- a change by the host, where the word at PC is in no guard

  module _ (i : ℕ) (x : Instruction) (st : Stands img i x) (h : Idle x.kind) where
    record Resting (w : Lent State) : Type 0 where
      inside : Inside l len img w.state w.memory
      word_is : inside.position.word ≡ i

    put_resting : (y : Write) (w : Lent State) → may_write l y ≡ true → Resting w → Resting (lent (put_state y w.state) (put_byte y w.memory))
    unfolding is_other
    put_resting y w e r =
        let s = w.state in
        let v = r.inside in
        let (p, (q, t)) = put_counters y s in
        record {
          inside =
              record {
                valid = put_valid l y s e v.valid;
                bytes = put_memory l y w.memory e v.bytes;
                mode = ap is_user t ∙ v.mode;
                data_register = put_spares l y s e 26 refl ∙ v.data_register;
                code_register = put_spares l y s e 27 refl ∙ v.code_register;
                long = (put_untouched l y w.memory e).same_length ∙ v.long;
                placed = code_kept l len img ok (put_untouched l y w.memory e) ∙ v.placed;
                position =
                    record {
                      word = v.position.word;
                      following = v.position.following;
                      counter = p ∙ v.position.counter;
                      next_counter = q ∙ v.position.next_counter;
                      way = v.position.way;
                      ready = idle_ready l len img ok v.position.word x (subst (λ (n : ℕ). Stands img n x) (sym r.word_is) st) h (put_state y s).registers;
                    };
              };
          word_is = r.word_is;
        }

    put_left : (ys : List Write) (w : Lent State) → may_all l ys ≡ true → Resting w → Left w.memory (put_all methods l ys w).state (put_all methods l ys w).memory (Unit {0} × Unit {0})
    put_left [] w e r = record { inside = r.inside; untouched = untouched_same l w.memory; answered = (tt, tt) }
    put_left (y ∷ ys) w e r =
        let (p, q) = both (may_write l y) (may_all l ys) e in
        let z = put_left ys (lent (put_state y w.state) (put_byte y w.memory)) q (put_resting y w p r) in
        record {
          inside = z.inside;
          untouched = untouched_then l w.memory _ _ (put_untouched l y w.memory p) z.untouched;
          answered = (tt, tt);
        }

  -- ---- an event

  abbrev Replied : Lent State → Reply State → Type 0
  Replied w r = Left w.memory r.left.state r.left.memory (Expected r.answer × TouchedInData l r.answer)

  module _ (w : Lent State) (v : Inside l len img w.state w.memory) where
    abbrev s : State
    s = w.state

    abbrev m : List ℕ
    m = w.memory

    -- a state whose step exits
    exiting : (b : ℕ → Bool) → b 0 ≡ false → b (step_of s m).number ≡ true → Idle (here l len img ok s m v).kind
    exiting b n e =
        ⊎_elim (λ z. absurd (false≢true (sym n ∙ ap b (sym z) ∙ e))) (λ p. p.1) (exit_is l len img ok s m v)

    resume_left : Replied w (event_of methods l Resume w)
    unfolding resume_of is_served
    resume_left =
        rw (unrefused l len img ok s m v)
        (by_test (λ (o : Outcome). Left m o.machine.state o.machine.memory (((o.number ≡ 0) ⊎ (o.number ≡ 19)) × Unit {0})) (is_served (step_of s m).number)
        (λ e. record { inside = resumed_inside l len img ok s m v (exiting is_served refl e); untouched = untouched_same l m; answered = (inl refl, tt) })
        (λ _. record { inside = v; untouched = untouched_same l m; answered = (inr refl, tt) }))

    kept_standing : (xs : List Write) → stands methods l xs w ≡ true → Left m (put_all methods l xs w).state (put_all methods l xs w).memory (Unit {0} × Unit {0})
    unfolding is_exit
    kept_standing xs e =
        let idle = exiting is_exit refl (stands_exit methods l xs w e) in
        put_left v.position.word (here l len img ok s m v) (stands_here l len img ok s m v) idle xs w (stands_may methods l xs w e)
        (record { inside = v; word_is = refl })

    change_left : (xs : List Write) → Replied w (event_of methods l (Change xs) w)
    change_left xs =
        by_test (Replied w) (stands methods l xs w) (kept_standing xs)
        (λ _. record { inside = v; untouched = untouched_same l m; answered = (tt, tt) })

    pub event_left : (e : Event) → Replied w (event_of methods l e w)
    event_left Step = step_left s m v
    event_left (Run n) = run_inside n s m v
    event_left Resume = resume_left
    event_left (Change xs) = change_left xs

    -- the steps that it tries
    event_tried : (e : Event) → All Tried (tries methods l e w)
    event_tried Step = by_zero (All Tried) (refusal_of s (length m)) (λ _. (v, tt)) (λ _. tt)
    event_tried (Run n) = by_zero (All Tried) (refusal_of s (length m)) (λ _. run_tried n s m v) (λ _. tt)
    event_tried Resume = by_zero (All Tried) (refusal_of s (length m)) (λ _. (v, tt)) (λ _. tt)
    event_tried (Change xs) = tt

  -- ---- a list

  pub list_untouched : (m₀ : List ℕ) (es : List Event) (w : Lent State) → Inside l len img w.state w.memory → Untouched l m₀ w.memory → All (λ r. Untouched l m₀ r.left.memory) (list_of methods l es w)
  list_untouched m₀ [] w v u = tt
  list_untouched m₀ (e ∷ es) w v u =
      let r = event_left w v e in
      let t = untouched_then l m₀ _ _ u r.untouched in
      (t, list_untouched m₀ es (event_of methods l e w).left r.inside t)

  pub list_expected : (es : List Event) (w : Lent State) → Inside l len img w.state w.memory → All (λ r. Expected r.answer) (list_of methods l es w)
  list_expected [] w v = tt
  list_expected (e ∷ es) w v =
      let r = event_left w v e in (r.answered.0, list_expected es (event_of methods l e w).left r.inside)

  pub list_touched : (es : List Event) (w : Lent State) → Inside l len img w.state w.memory → All (λ r. TouchedInData l r.answer) (list_of methods l es w)
  list_touched [] w v = tt
  list_touched (e ∷ es) w v =
      let r = event_left w v e in (r.answered.1, list_touched es (event_of methods l e w).left r.inside)

  pub list_tried : (es : List Event) (w : Lent State) → Inside l len img w.state w.memory → All Tried (list_tries methods l es w)
  list_tried [] w v = tt
  list_tried (e ∷ es) w v =
      join Tried (tries methods l e w) (list_tries methods l es (event_of methods l e w).left)
      (event_tried w v e)
      (list_tried es (event_of methods l e w).left (event_left w v e).inside)

  -- every step tried, by whatever call, fetches from the code and accesses the data alone
  pub list_confined : (es : List Event) (w : Lent State) → Inside l len img w.state w.memory → All (Confined l) (list_tries methods l es w)
  list_confined es w v =
      implied Tried (Confined l) (λ t h. confined l len img ok t.state t.memory h) (list_tries methods l es w) (list_tried es w v)
