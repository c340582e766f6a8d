-- A straight-through module is known to finish, proved: for the methods of State, and for the calls exported to C; and demand 3 holds of it.
use Prim.Native.Nat.{ℕ, zero, suc, ◌+◌, ◌-◌, ◌≤◌, ◌<◌}
use mathlib.Core.Path.{◌≡◌, refl, sym, ap, ap₂, subst, ◌∙◌}
use mathlib.Core.Bool.{false, cond}
use mathlib.Core.Logic.{inl, ⊎_elim}
use mathlib.Core.List.{List, [], ◌∷◌, ◌++◌}
use native.Mathlib.Omega.{arith}
use lib.ListN.{get_or, replicate}
use Rattle.word.specs.Bytes.{longest}
use Rattle.layout.specs.declared.Layout.{Layout}
use Rattle.machine.specs.declared.state.State.{State}
use Rattle.checker.specs.Lawful.{words_in, Lawful}
use Rattle.straight.specs.Straight.{Straight}
use Rattle.straight.proofs.Whole.{straight_lawful, straight_straight, straight_accepted}
use Rattle.confinement.specs.Events.{Event, Step, Run}
use Rattle.confinement.specs.Calls.{Lent, Answer, Changed, methods, exported}
use Rattle.confinement.specs.Lists.{event_of, list_of}
use Rattle.confinement.specs.Demand.{Start}
use Rattle.confinement.proofs.Exported.{in_bytes, Ranged, same, event_bytes, event_ranged, viewed, start_ranged, start_viewed, start_bytes, start_answers}
use Rattle.confinement.proofs.Whole.{start_inside, demand_3_methods, demand_3_exported}
use Rattle.termination.specs.Ends.{answers_of, Some, Last, Exits, AtMost, steps_of, is_past, steps_until, asked, bound, Ends, StraightEnds, StraightDemand3}
use Rattle.termination.proofs.Forward.{Going}
use Rattle.termination.proofs.Bounds.{run_bounded, asked_exits, list_bounded}
use Rattle.termination.proofs.Again.{going_left, list_again}

asked_steps : (n : ℕ) → asked (replicate n Step) ≡ n
asked_steps zero = refl
asked_steps (suc n) = let e = asked_steps n in omega (arith, e)

module _ (l : Layout) (len : ℕ) (img : List ℕ) (ok : Lawful l len img) (straight : Straight l img) (w : Lent State) (p : Start methods l len img w) where
  -- a start goes on from word 0
  record Begun : Type 0 where
    going : Going l len img ok straight w.state w.memory
    first : going.inside.position.word ≡ 0

  begun : Begun
  begun =
      let v = start_inside l len img ok w p in
      let i : v.position.word ≡ 0 = omega (arith, v.position.counter, p.first_word) in
      let j : v.position.following ≡ 1 = omega (arith, v.position.next_counter, p.then_next) in
      record {
        going =
            record {
              inside = v;
              forward =
                  record {
                    early = omega (arith, i);
                    rising = λ h. (omega (arith, i, j), omega (arith, i, j, h));
                    entered = λ _. omega (arith, i, j);
                    slot = inl (omega (arith, i, j));
                  };
            };
        first = i;
      }

  words : 4 ≤ words_in l
  words = omega (arith, ok.r2.1.0)

  abbrev going : Going l len img ok straight w.state w.memory
  going = begun.going

  -- a list that asks for more than the bound
  exits : (es : List Event) → bound l < asked es → Some Exits (answers_of methods l es w)
  exits es h = asked_exits l len img ok straight es w going (omega (arith, begun.first, h))

  ends : Ends methods l w
  ends =
      let z = begun.first in
      record {
        run_total = λ b. omega (arith, z, run_bounded l len img ok straight b w.state w.memory going);
        run_exits = λ b h. ⊎_elim (λ e. e) absurd (exits (Run b ∷ []) (omega (arith, h)));
        step_exits = exits (replicate (words_in l - 3) Step) (omega (arith, asked_steps (words_in l - 3), words));
        list_exits = exits;
        list_total = λ es. omega (arith, z, list_bounded l len img ok straight es w going);
        later_exits = λ es b h. list_again l len img ok straight es b w (going_left l len img ok straight w.state w.memory going) h;
      }

pub straight_ends_methods : StraightEnds methods
straight_ends_methods l len img e w p = ends l len img (straight_lawful l len img e) (straight_straight l len img e) w p

-- ---- the exported calls

-- the answer of a list of one event
abbrev only : List Answer → Answer
only answers = get_or answers 0 (Changed false)

-- and the steps of a list
steps_bytes : (l : Layout) (es : List Event) (w : Lent State) → Ranged w
    → steps_until exported l (list_of exported l es (in_bytes w)) ≡ steps_until methods l (list_of methods l es w)
steps_bytes l [] w g = refl
steps_bytes l (e ∷ es) w g =
    let r = event_of methods l e w in
    let h = event_ranged l w g e in
    ap (λ x. steps_of x.answer + cond (is_past l (exported.view x.left.state).special.pc) 0 (steps_until exported l (list_of exported l es x.left))) (event_bytes l w g e)
    ∙ ap₂ (λ (s : State) (n : ℕ). steps_of r.answer + cond (is_past l s.special.pc) 0 n) (same l r.left h) (steps_bytes l es r.left h)

pub straight_ends_exported : StraightEnds exported
straight_ends_exported l len img e w p =
    let h : len ≤ longest = (straight_lawful l len img e).r1 in
    let r = straight_ends_methods l len img e (viewed w) (start_viewed l len img h w p) in
    let alike : (es : List Event) → answers_of exported l es w ≡ answers_of methods l es (viewed w) = start_answers l len img h w p in
    let steps : (es : List Event) → steps_until exported l (list_of exported l es w) ≡ steps_until methods l (list_of methods l es (viewed w)) =
    λ es. ap (λ x. steps_until exported l (list_of exported l es x)) (sym (start_bytes l len img h w p)) ∙ steps_bytes l es (viewed w) (start_ranged l len img h w p) in
    record {
      run_total = λ b. subst (AtMost (bound l)) (sym (ap only (alike (Run b ∷ [])))) (r.run_total b);
      run_exits = λ b k. subst Exits (sym (ap only (alike (Run b ∷ [])))) (r.run_exits b k);
      step_exits = subst (Some Exits) (sym (alike (replicate (words_in l - 3) Step))) r.step_exits;
      list_exits = λ es k. subst (Some Exits) (sym (alike es)) (r.list_exits es k);
      list_total = λ es. omega (arith, steps es, r.list_total es);
      later_exits = λ es b k. subst (Last Exits) (sym (alike (es ++ (Run b ∷ [])))) (r.later_exits es b k);
    }

-- ---- demand 3: what the profile accepts, the checker accepts

pub straight_demand_3_methods : StraightDemand3 methods
straight_demand_3_methods l len img e = demand_3_methods l len img (straight_accepted l len img e)

pub straight_demand_3_exported : StraightDemand3 exported
straight_demand_3_exported l len img e = demand_3_exported l len img (straight_accepted l len img e)
