-- Demand 3 of the request, proved: for the methods of State, and for the calls exported to C.
use Prim.Native.Nat.{ℕ, ◌%◌, ◌≤◌}
use mathlib.Core.Path.{◌≡◌, refl, sym, ◌∙◌}
use mathlib.Core.Bool.{Bool, true, false}
use mathlib.Core.List.{List}
use native.Mathlib.Omega.{arith}
use borrow.Author.Tests.{le-ltb}
use Rattle.word.specs.Bytes.{longest}
use Rattle.layout.specs.declared.Layout.{Layout}
use Rattle.machine.specs.declared.state.State.{State}
use Rattle.machine.specs.State.{is_lawful, refusal_of}
use Rattle.machine.proofs.Valid.{valid}
use Rattle.checker.specs.Check.{code_of}
use Rattle.rules.specs.Not.{Not}
use Rattle.checker.specs.Lawful.{Lawful}
use Rattle.checker.proofs.Whole.{accepted_lawful}
use Rattle.confinement.specs.Calls.{Lent, methods, exported}
use Rattle.confinement.specs.Demand.{Start, Alike, Demand3}
use Rattle.confinement.proofs.Parts.{part_bytes}
use Rattle.confinement.proofs.Areas.{code_bundles}
use Rattle.confinement.proofs.Invariant.{onward, Inside, entry_ready, bundle_entry}
use Rattle.confinement.proofs.Lists.{untouched_same, list_untouched, list_expected, list_touched, list_confined}
use Rattle.confinement.proofs.Twins.{Twin, list_agrees}
use Rattle.confinement.proofs.Exported.{exported_from}

-- a state that 17 does not refuse, beside a memory that 1 does not refuse
lawful_state : (s : State) (n : ℕ) → n ≤ longest → Not (refusal_of s n ≡ 17) → is_lawful s ≡ true
unfolding refusal_of
lawful_state s n h r = by (is_lawful s) refl
  where
    by : (t : Bool) → is_lawful s ≡ t → is_lawful s ≡ true
    by true e = e
    by false e = absurd (r (rw (le-ltb longest n h, e)))

module _ (l : Layout) (len : ℕ) (img : List ℕ) (ok : Lawful l len img) where
  -- a start is inside
  pub start_inside : (w : Lent State) → Start methods l len img w → Inside l len img w.state w.memory
  start_inside w s =
      let z : l.code_size % 16 ≡ 0 = code_bundles l len img ok in
      let h : 16 ≤ l.code_size = ok.r2.1.0 in
      record {
        valid = valid w.state s.sized (lawful_state w.state len ok.r1 s.not_17);
        bytes = s.bytes;
        mode = s.user_mode;
        data_register = s.register_26;
        code_register = s.register_27;
        long = s.length_told;
        placed = s.placed;
        position =
            record {
              word = 0;
              following = 1;
              counter = omega (arith, s.first_word);
              next_counter = omega (arith, s.then_next);
              way = onward refl (omega arith);
              ready = entry_ready l img 0 w.state.registers (bundle_entry l len img ok 0 refl (omega arith));
            };
      }

  pub start_twin : (v w : Lent State) → Start methods l len img v → Start methods l len img w → Alike l v w → Twin l v.memory w.memory
  unfolding code_of
  start_twin v w p q a =
      record {
        same_length = p.length_told ∙ sym q.length_told;
        same_code = part_bytes v.memory w.memory l.code_base l.code_size (p.placed ∙ sym q.placed);
        same_data = part_bytes v.memory w.memory l.data_base l.data_size a.same_data;
      }

pub demand_3_methods : Demand3 methods
demand_3_methods l len img e w s es =
    let ok = accepted_lawful l len img e in
    let v = start_inside l len img ok w s in (
      record {
        steps = list_confined l len img ok es w v;
        memories = list_untouched l len img ok w.memory es w v (untouched_same l w.memory);
        answers = list_expected l len img ok es w v;
        touched = list_touched l len img ok es w v;
      },
      λ u p a. list_agrees l len img ok es u.state w.state u.memory w.memory a.same_state v (start_twin l len img ok u w p s a),
    )

pub demand_3_exported : Demand3 exported
demand_3_exported = exported_from demand_3_methods
