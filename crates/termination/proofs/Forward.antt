-- The invariant of a straight-through module until it is resumed in its last bundle: every completed step leads to a later word, and none past
-- that bundle's start.
use Prim.Native.Nat.{ℕ, ◌+◌, ◌-◌, ◌*◌, ◌%◌, ◌≤◌, ◌<◌}
use mathlib.Core.Path.{◌≡◌, refl, sym, ap, subst, ◌∙◌}
use mathlib.Core.Bool.{false≢true}
use mathlib.Core.Logic.{◌⊎◌, inl, inr, ⊎_elim}
use mathlib.Core.List.{List}
use native.Mathlib.Omega.{arith}
use native.Mathlib.Decide.{dec_lt}
use lib.ListN.{length}
use Rattle.std.specs.Prelude.{Result}
use Rattle.isa.specs.declared.kind.System.TheVariants.{Syscall}
use Rattle.isa.specs.declared.kind.Kind.{Kind}
use Rattle.isa.specs.declared.kind.Kind.TheVariants as K
use Rattle.isa.specs.declared.kind.Instruction.{Instruction}
use Rattle.class.specs.declared.Flow.{Flow}
use Rattle.class.specs.declared.Flow.TheVariants.{Onward, Relative, Region, Register}
use Rattle.branch.specs.Branch.{slot_of, relative_of, region_of}
use Rattle.effect.specs.declared.effect.Effect.{Effect}
use Rattle.effect.specs.declared.exit.Exit.{Exit}
use Rattle.effect.specs.Exit.{number_of}
use Rattle.effect.proofs.Exits.{number_range}
use Rattle.system.specs.System.{system_call_of}
use Rattle.decision.specs.Decision.{by_kind, decision_of}
use Rattle.layout.specs.declared.Layout.{Layout}
use Rattle.view.specs.View.{is_relative, is_region}
use Rattle.rules.specs.Not.{Not}
use Rattle.machine.specs.declared.state.State.{State}
use Rattle.machine.specs.State.{register_of, special_of}
use Rattle.machine.specs.Resume.{resumed_of}
use Rattle.machine.specs.Step.{effect_of, Outcome, tried_of, try_of, step_of}
use Rattle.checker.specs.Lawful.{Stands, flow_of, Branches, AtTarget, words_in, Lawful}
use Rattle.straight.specs.Straight.{Ahead, Excused, Straight}
use Rattle.confinement.proofs.ByKind.{Leads, Idle}
use Rattle.confinement.proofs.Areas.{code_bundles}
use Rattle.confinement.proofs.Invariant.{Inside, stands_once}
use Rattle.confinement.proofs.Steps.{in_code, here, stands_here, effect_is, step_is}
use Rattle.confinement.proofs.Keeps.{slot_is, moved, step_inside, resumed_inside}

module _ (l : Layout) (len : ℕ) (img : List ℕ) (ok : Lawful l len img) (straight : Straight l img) where
  -- the last bundle's first word
  abbrev pub end : ℕ
  end = words_in l - 4

  -- word p is executed next, then word q: the one after it, or where the branch in word p - 1 leads
  pub record Forward (p q : ℕ) : Type 0 where
    pub early : p ≤ end
    pub rising : p < end → (p < q) × (q ≤ end)
    pub entered : p ≡ end → q ≡ p + 1
    pub slot : (q ≡ p + 1) ⊎ ((0 < p) × ((y : Instruction) × (Stands img (p - 1) y × Branches y)))

  -- from word p on, in order
  pub in_order : (p q : ℕ) → p ≤ end → q ≡ p + 1 → Forward p q
  in_order p q h e =
      record { early = h; rising = λ g. (omega (arith, e), omega (arith, e, g)); entered = λ _. e; slot = inl e }

  pub record Going (s : State) (m : List ℕ) : Type 0 where
    pub inside : Inside l len img s m
    pub forward : Forward inside.position.word inside.position.following

  module _ (s : State) (m : List ℕ) (v : Inside l len img s m) where
    abbrev i : ℕ
    i = v.position.word

    abbrev j : ℕ
    j = v.position.following

    abbrev x : Instruction
    x = here l len img ok s m v

    abbrev base : ℕ
    base = register_of s.registers x.rs

    stands : Stands img i x
    stands = stands_here l len img ok s m v

    -- ---- the last bundle's first word exits

    by_kind_law : (k : Kind) → x.kind ≡ k → (step_of s m).number ≡ (tried_of (by_kind k x base (register_of s.registers x.rt) (special_of s) (length m)) s m).number
    unfolding try_of effect_of decision_of
    by_kind_law k e =
        ap (λ (o : Outcome). o.number) (step_is l len img ok s m v)
        ∙ ap (λ (d : Result Effect Exit). (tried_of d s m).number) (effect_is l len img ok s m v)
        ∙ ap (λ (y : Kind). (tried_of (by_kind y x base (register_of s.registers x.rt) (special_of s) (length m)) s m).number) e

    pub end_exits : i ≡ end → Not ((step_of s m).number ≡ 0)
    end_exits e z =
        let (y, (p, (k, _))) = straight.r21.0 in
        let same : y ≡ x = stands_once img i y x (subst (λ (n : ℕ). Stands img n y) (sym e) p) stands in
        let q = by_kind_law (K.System Syscall) (ap (λ (w : Instruction). w.kind) (sym same) ∙ k) in
        let n : number_of (system_call_of x.value s.special.status) ≡ 0 = sym q ∙ z in
        omega (arith, n, (number_range (system_call_of x.value s.special.status)).0)

    -- ---- a completed step

    module _ (z : (step_of s m).number ≡ 0) where
      abbrev after : State
      after = (step_of s m).machine.state

      abbrev pub then : Inside l len img after (step_of s m).machine.memory
      then = step_inside l len img ok s m v

      pub next_word : then.position.word ≡ j
      next_word = omega (arith, then.position.counter, (moved l len img ok s m v z).counter, v.position.next_counter)

      abbrev k : ℕ
      k = then.position.following

      -- next PC is where the instruction's flow lets it go
      pub goes : Leads (flow_of x) x base (special_of s) after.special.next_pc
      goes = (moved l len img ok s m v z).goes

      pub to_word : (w : ℕ) → after.special.next_pc ≡ l.code_base + 4 * w → k ≡ w
      to_word w e = omega (arith, then.position.next_counter, e)

      pub to_slot : j + 1 < words_in l → after.special.next_pc ≡ slot_of s.special.next_pc → k ≡ j + 1
      to_slot h e = to_word (j + 1) (e ∙ slot_is l len img ok s m v h)

    module _ (f : Forward i j) (z : (step_of s m).number ≡ 0) where
      before_end : i < end
      before_end = elim (dec_lt i end) [ yes g ↦ g | no g ↦ absurd (end_exits (omega (arith, f.early)) z) ]

      pub within : (i < j) × (j ≤ end)
      within = f.rising before_end

      -- no branch, or one that is not taken
      onward : (after z).special.next_pc ≡ slot_of s.special.next_pc → Forward j (k z)
      onward e = in_order j (k z) within.1 (to_slot z (omega (arith, within.1)) e)

      -- a branch stands in no slot, so that word i + 1 comes next
      beside : Branches x → j ≡ i + 1
      beside b = ⊎_elim (λ e. e) (λ h. absurd (ok.r14 i (in_code l len img ok s m v) x h.1.0 stands b h.0 h.1.1.0 h.1.1.1)) f.slot

      -- a branch that is taken
      branched : Branches x → (t : ℕ) → (after z).special.next_pc ≡ t → Ahead l i t ⊎ Excused l i x t → Forward j (k z)
      branched b t e (inl (p, q)) =
          let n = beside b in
          let c : l.code_size % 16 ≡ 0 = code_bundles l len img ok in
          let least : i + 2 ≤ k z = omega (arith, (then z).position.next_counter, e, p) in
          let most : k z ≤ end = omega (arith, (then z).position.next_counter, e, q, c) in
          let before : j - 1 ≡ i = omega (arith, n) in
          record {
            early = within.1;
            rising = λ _. (omega (arith, n, least), most);
            entered = λ h. absurd (omega (arith, n, least, most, h));
            slot = inr (omega (arith, n), (x, (subst (λ (w : ℕ). Stands img w x) (sym before) stands, b)));
          }
      branched b t e (inr (_, (h, _))) = absurd (let g = before_end in omega (arith, g, h))

      abbrev Forwards : ℕ → Type 0
      Forwards t = Ahead l i t ⊎ Excused l i x t

      targets : AtTarget l i x Forwards
      targets = (straight.r20 i (in_code l len img ok s m v) x stands).1

      leads : (g : Flow) → flow_of x ≡ g → Leads g x base (special_of s) (after z).special.next_pc → Forward j (k z)
      leads Onward e h = onward h
      leads Relative e (inl h) = onward h
      leads Relative e (inr h) = branched (λ o. false≢true (sym (ap is_relative o) ∙ ap is_relative e)) _ h
          (subst (λ (c : ℕ). Forwards (relative_of c x.value)) (sym v.position.counter) (targets.0 e))
      leads Region e h = branched (λ o. false≢true (sym (ap is_region o) ∙ ap is_region e)) _ h
          (subst (λ (c : ℕ). Forwards (region_of c x.value)) (sym v.position.counter) (targets.1 e))
      leads Register e h = absurd ((straight.r20 i (in_code l len img ok s m v) x stands).0 e)

      pub step_forward : Forward (then z).position.word (k z)
      step_forward = rw (next_word z) (leads (flow_of x) refl (goes z))

    -- ---- a resume, at a word that is no branch

    module _ (h : Idle x.kind) where
      abbrev pub resumed : Inside l len img (resumed_of s) m
      resumed = resumed_inside l len img ok s m v h

      pub resumed_word : resumed.position.word ≡ j
      resumed_word = omega (arith, resumed.position.counter, v.position.next_counter)

      pub resumed_next : j + 1 < words_in l → resumed.position.following ≡ j + 1
      resumed_next g = omega (arith, resumed.position.next_counter, slot_is l len img ok s m v g)

      -- before the last bundle
      pub resumed_forward : Forward i j → i < end → Forward resumed.position.word resumed.position.following
      resumed_forward f g =
          let w = f.rising g in
          in_order _ _ (omega (arith, resumed_word, w.1)) (resumed_next (omega (arith, w.1)) ∙ ap (λ (n : ℕ). n + 1) (sym resumed_word))

  -- ---- a completed step goes on, to a later word

  pub record Advance (s t : State) (m n : List ℕ) (g : Going s m) : Type 0 where
    pub going : Going t n
    pub later : g.inside.position.word < going.inside.position.word

  pub step_going : (s : State) (m : List ℕ) (g : Going s m) → (step_of s m).number ≡ 0
      → Advance s (step_of s m).machine.state m (step_of s m).machine.memory g
  step_going s m g z =
      record {
        going = record { inside = step_inside l len img ok s m g.inside; forward = step_forward s m g.inside g.forward z };
        later = omega (arith, (within s m g.inside g.forward z).0, next_word s m g.inside z);
      }
