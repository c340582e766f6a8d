-- A completed step, a resume and a host's change lead from one state of the invariant to another.
use Prim.Native.Nat.{ℕ, ◌+◌, ◌-◌, ◌*◌, ◌/◌, ◌%◌, ◌^◌, ◌<◌}
use mathlib.Core.Path.{◌≡◌, refl, sym, ap, ap₂, ◌∙◌, subst}
use mathlib.Core.Bool.{false, false≢true}
use mathlib.Core.Logic.{inl, inr, ⊎_elim}
use mathlib.Core.List.{List}
use native.Mathlib.Nat.{zero-add}
use native.Mathlib.Omega.{arith}
use native.Mathlib.Decide.{dec_lt}
use lib.Bits.{bit_and, bit_or}
use lib.ListN.{length}
use Rattle.std.specs.Prelude.{Result, Ok}
use Rattle.isa.specs.declared.kind.Alu.TheVariants.{Or}
use Rattle.isa.specs.declared.kind.Immediate.TheVariants.{Andi}
use Rattle.isa.specs.declared.kind.Kind.{Kind}
use Rattle.isa.specs.declared.kind.Kind.TheVariants as K
use Rattle.isa.specs.declared.kind.Instruction.{Instruction}
use Rattle.class.specs.declared.Flow.{Flow}
use Rattle.class.specs.declared.Flow.TheVariants.{Onward, Relative, Region, Register}
use Rattle.class.specs.Class.{register_written}
use Rattle.effect.specs.declared.effect.Effect.{Effect}
use Rattle.effect.specs.declared.effect.Effect.TheVariants.{Write}
use Rattle.effect.specs.declared.exit.Exit.{Exit}
use Rattle.effect.specs.Sound.{Aligned}
use Rattle.branch.specs.Branch.{slot_of, relative_of, region_of}
use Rattle.branch.proofs.Targets.{relative_aligned, region_aligned}
use Rattle.decision.specs.Decision.{by_kind, decision_of}
use Rattle.layout.specs.declared.Layout.{Layout}
use Rattle.view.specs.View.{is_region, is_register}
use Rattle.system.specs.System.{is_user}
use Rattle.machine.specs.declared.state.State.{State}
use Rattle.machine.specs.State.{register_of, special_of}
use Rattle.parts.specs.Parts.{put_of}
use Rattle.machine.specs.Apply.{Machine}
use Rattle.machine.specs.Step.{effect_of, effect_at, Outcome, tried_of, try_of, step_of}
use Rattle.machine.specs.Resume.{is_served, resumed_of}
use Rattle.machine.proofs.Valid.{advance_regular, linked_regular}
use Rattle.machine.proofs.Steps.{exit_leaves, step_valid, step_bytes, step_length}
use Rattle.checker.specs.Check.{code_of}
use Rattle.rules.specs.Not.{Not}
use Rattle.checker.specs.Lawful.{Stands, Guarded, flow_of, Lands, words_in, Lawful}
use Rattle.confinement.specs.Events.{is_data}
use Rattle.confinement.specs.Demand.{Allowed, Untouched}
use Rattle.confinement.proofs.Definitions.{says_true, allowed_says}
use Rattle.confinement.proofs.ByKind.{Leads, Idle}
use Rattle.confinement.proofs.Moves.{put_here, Moved, moves}
use Rattle.confinement.proofs.Parts.{part_same}
use Rattle.confinement.proofs.Areas.{Area, Data, Code, base_register, base_of, Uses, Fits, fits_mask, fits_below, base_aligned, code_bundles, size_most, joins, guard_of}
use Rattle.confinement.proofs.Invariant.{Aims, Ready, Way, onward, branched, Inside, stands_once, entry_ready, idle_next}
use Rattle.confinement.proofs.Steps.{in_code, here, stands_here, operands_here, effect_is, step_is, leave, obeys_here, data_out, exit_is, step_untouched}

module _ (l : Layout) (len : ℕ) (img : List ℕ) (ok : Lawful l len img) where
  -- memory untouched outside the data area keeps the code
  pub code_kept : {m n : List ℕ} → Untouched l m n → code_of l n ≡ code_of l m
  unfolding code_of
  code_kept {m} {n} u =
      part_same n m l.code_base l.code_size u.same_length (λ a h. u.same_bytes (l.code_base + a) (apart a h))
    where
      apart : (a : ℕ) → a < l.code_size → is_data l (l.code_base + a) ≡ false
      apart a h = ⊎_elim (λ g. data_out l _ (inl (omega arith))) (λ g. data_out l _ (inr (omega arith))) ok.r6

  module _ (s : State) (m : List ℕ) (v : Inside l len img s m) where
    abbrev x : Instruction
    x = here l len img ok s m v

    abbrev i : ℕ
    i = v.position.word

    abbrev j : ℕ
    j = v.position.following

    abbrev base : ℕ
    base = register_of s.registers x.rs

    -- ---- where control goes

    j_in : Way l img i j → j < words_in l
    j_in (onward e h) = omega arith
    j_in (branched h e) = omega (arith, e.room)

    -- the word at PC is no jump, so that the last word but one is not it
    pub room : is_region (flow_of x) ≡ false → is_register (flow_of x) ≡ false → j + 1 < words_in l
    room n r = by v.position.way
      where
        jump : i + 2 ≡ words_in l → ⊥
        jump e =
            let (y, (p, q)) = ok.r16 in
            let f : words_in l - 2 ≡ i = omega arith in
            let g : y ≡ x = stands_once img i y x (rw f at p) (stands_here l len img ok s m v) in
            ⊎_elim
            (λ h. false≢true (sym n ∙ ap is_region (ap flow_of (sym g) ∙ h)))
            (λ h. false≢true (sym r ∙ ap is_register (ap flow_of (sym g) ∙ h)))
            q

        by : Way l img i j → j + 1 < words_in l
        by (onward e h) = elim (dec_lt (i + 2) (words_in l)) [ yes g ↦ omega arith | no g ↦ absurd (jump (omega arith)) ]
        by (branched h e) = e.room

    pub slot_is : j + 1 < words_in l → slot_of s.special.next_pc ≡ l.code_base + 4 * (j + 1)
    unfolding slot_of
    slot_is h = omega (arith, v.position.next_counter, ok.r4.1, ok.r1)

    -- next PC after the step, as a word
    record Next (t : ℕ) : Type 0 where
      word : ℕ
      counter : t ≡ l.code_base + 4 * word
      way : Way l img j word

    falls : {t : ℕ} → is_region (flow_of x) ≡ false → is_register (flow_of x) ≡ false → t ≡ slot_of s.special.next_pc → Next t
    falls n r e = let h = room n r in record { word = j + 1; counter = e ∙ slot_is h; way = onward refl h }

    lands : (t : ℕ) → t % 4 ≡ 0 → Lands l img t → Next t
    lands t z (p, (q, (n, (f, g)))) =
        let c = base_aligned l len img ok Code in
        let k : ℕ = (t - l.code_base) / 4 in
        let w : l.code_size % 16 ≡ 0 = code_bundles l len img ok in
        record {
          word = k;
          counter = omega arith;
          way = branched (j_in v.position.way) (record { room = omega arith; here = f; next = g });
        }

    aligned : Aligned s.special.pc
    aligned = v.valid.special.pc

    targets : ((flow_of x ≡ Relative) → Lands l img (relative_of (l.code_base + 4 * i) x.value)) × ((flow_of x ≡ Region) → Lands l img (region_of (l.code_base + 4 * i) x.value))
    targets = ok.r15 i (in_code l len img ok s m v) x (stands_here l len img ok s m v)

    leads : (f : Flow) → flow_of x ≡ f → (t : ℕ) → Leads f x base (special_of s) t → Next t
    leads Onward e t h = falls (ap is_region e) (ap is_register e) h
    leads Relative e t (inl h) = falls (ap is_region e) (ap is_register e) h
    leads Relative e t (inr h) =
        subst Next (sym h)
        (lands (relative_of s.special.pc x.value) (relative_aligned x.value aligned).1
        (subst (λ (c : ℕ). Lands l img (relative_of c x.value)) (sym v.position.counter) (targets.0 e)))
    leads Region e t h =
        subst Next (sym h)
        (lands (region_of s.special.pc x.value) (region_aligned x.value aligned).1
        (subst (λ (c : ℕ). Lands l img (region_of c x.value)) (sym v.position.counter) (targets.1 e)))
    leads Register e t h =
        let g = leave l len img ok s m v e in
        record { word = g.to; counter = h ∙ g.goes; way = branched (j_in v.position.way) g.entry }

    -- ---- what the two words of a guard leave

    abbrev regs : List ℕ
    regs = s.registers

    abbrev after : State
    after = (step_of s m).machine.state

    applied : after ≡ (tried_of (effect_at s m) s m).machine.state
    unfolding try_of
    applied = ap (λ (o : Outcome). o.machine.state) (step_is l len img ok s m v)

    by_kind_law : (k : Kind) → x.kind ≡ k → effect_at s m ≡ by_kind k x base (register_of regs x.rt) (special_of s) (length m)
    unfolding effect_of decision_of
    by_kind_law k e =
        effect_is l len img ok s m v ∙ ap (λ (y : Kind). by_kind y x base (register_of regs x.rt) (special_of s) (length m)) e

    -- register r gets value y, where the effect writes it
    writes : (r y q : ℕ) → effect_at s m ≡ Ok (Write r y) → r < 2 ^ 5 → r ≡ q → Not (q ≡ 0) → register_of after.registers q ≡ y
    writes r y q e h p n =
        ap (λ (t : State). register_of t.registers q) (applied ∙ ap (λ (d : Result Effect Exit). (tried_of d s m).machine.state) e)
        ∙ ap (λ (k : ℕ). register_of (put_of regs k y) q) p
        ∙ put_here regs q y n (omega (arith, h, p, v.valid.registers.count))

    base_held : (a : Area) → register_of regs (base_register a) ≡ base_of l a
    base_held Data = v.data_register
    base_held Code = v.code_register

    same : (k : ℕ) (y : Instruction) → k ≡ i → Stands img k y → y ≡ x
    same k y e p = stands_once img i y x (subst (λ (n : ℕ). Stands img n y) e p) (stands_here l len img ok s m v)

    module _ (a : Area) (y : Instruction) (u : Uses a y) where
      -- the OR adds the area's base to what the ANDI left
      pub merged_to : i + 1 < words_in l → Stands img (i + 1) y → (d : ℕ) → register_of regs y.rs ≡ d → Fits l a y d → register_of after.registers y.rs ≡ base_of l a + d
      merged_to h t d q f =
          let (mask, (g, _)) = guard_of l len img ok a (i + 1) y h t u in
          let (w, (p, (k, (rd, (rs, rt))))) = g.1.0.1 in
          let e : w ≡ x = same (i + 1 - 1) w (omega arith) p in
          let val : bit_or base (register_of regs x.rt) ≡ base_of l a + d =
          ap₂ bit_or
          (ap (register_of regs) (ap (λ (z : Instruction). z.rs) (sym e) ∙ rs) ∙ q)
          (ap (register_of regs) (ap (λ (z : Instruction). z.rt) (sym e) ∙ rt) ∙ base_held a)
          ∙ joins l len img ok a d (fits_below l a y u d f) in
          writes x.rd _ y.rs (by_kind_law (K.Alu Or) (ap (λ (z : Instruction). z.kind) (sym e) ∙ k)) (operands_here l len img ok s m v).rd (ap (λ (z : Instruction). z.rd) (sym e) ∙ rd) g.1.1.0 ∙ val

      merged : i + 1 < words_in l → Stands img (i + 1) y → Aims l a y after.registers (base_of l a)
      merged h t =
          let (d, (q, f)) = v.position.ready.soon a y h t u in (d, (merged_to h t d (q ∙ zero-add d) f, f))

      -- and the ANDI leaves what its mask lets through
      pub masked_to : i + 1 + 1 < words_in l → (mask : ℕ) → Guarded img (i + 1 + 1) y.rs (base_register a) mask → Fits l a y mask → register_of after.registers y.rs ≡ bit_and base mask
      masked_to h mask g f =
          let (w, (p, (k, (rt, vm)))) = g.1.0.0 in
          let e : w ≡ x = same (i + 1 + 1 - 2) w (omega arith) p in
          let low : x.value % 2 ^ 16 ≡ mask =
          ap (λ (n : ℕ). n % 2 ^ 16) (ap (λ (z : Instruction). z.value) (sym e) ∙ vm)
          ∙ (let b = fits_below l a y u mask f in omega (arith, b, size_most l len img ok a)) in
          writes x.rt _ y.rs (by_kind_law (K.Immediate Andi) (ap (λ (z : Instruction). z.kind) (sym e) ∙ k)) (operands_here l len img ok s m v).rt (ap (λ (z : Instruction). z.rt) (sym e) ∙ rt) g.1.1.0 ∙ ap (bit_and base) low

      masked : i + 1 + 1 < words_in l → Stands img (i + 1 + 1) y → Aims l a y after.registers 0
      masked h t =
          let (mask, (g, f)) = guard_of l len img ok a (i + 1 + 1) y h t u in
          (bit_and base mask, (masked_to h mask g f ∙ sym (zero-add (bit_and base mask)), fits_mask l a y u base mask f))

    step_ready : Way l img i j → Ready l img j after.registers
    step_ready (onward e h) =
        subst (λ (n : ℕ). Ready l img n after.registers) (sym e)
        (record { now = λ a y t u. merged a y u h t; soon = λ a y g t u. masked a y u g t })
    step_ready (branched h e) = entry_ready l img j after.registers e

    -- ---- a completed step

    module _ (z : (step_of s m).number ≡ 0) where
      pub moved : Moved x.kind x base s after
      unfolding try_of
      moved =
          subst (λ (t : State). Moved x.kind x base s t) (sym applied)
          (moves x.kind x base s m v.mode (effect_at s m) (obeys_here l len img ok s m v)
          (ap (λ (o : Outcome). o.number) (sym (step_is l len img ok s m v)) ∙ z))

      spares : (r : ℕ) → Not (register_written x ≡ r) → register_of after.registers r ≡ register_of regs r
      unfolding register_written
      spares r n = moved.others r (λ e. n (sym e))

      barred : Not (register_written x ≡ 26) × Not (register_written x ≡ 27)
      barred = ok.r10 i (in_code l len img ok s m v) x (stands_here l len img ok s m v)

      next : Next after.special.next_pc
      next = leads (flow_of x) refl after.special.next_pc moved.goes

      pub completed : Inside l len img after (step_of s m).machine.memory
      completed =
          record {
            valid = step_valid s m v.valid v.bytes;
            bytes = step_bytes s m v.bytes;
            mode = ap is_user moved.mode ∙ v.mode;
            data_register = spares 26 barred.0 ∙ v.data_register;
            code_register = spares 27 barred.1 ∙ v.code_register;
            long = step_length s m ∙ v.long;
            placed = code_kept (step_untouched l len img ok s m v) ∙ v.placed;
            position =
                record {
                  word = j;
                  following = next.word;
                  counter = moved.counter ∙ v.position.next_counter;
                  next_counter = next.counter;
                  way = next.way;
                  ready = step_ready v.position.way;
                };
          }

    -- ---- an exit, and a resume after it

    allowed_exit : (k : ℕ) → Allowed k → Not (k ≡ 0)
    unfolding is_served
    allowed_exit k p z = false≢true (sym (ap is_served z) ∙ says_true (allowed_says k) p)

    -- completed or not, a step stays inside
    pub step_inside : Inside l len img after (step_of s m).machine.memory
    step_inside =
        ⊎_elim completed
        (λ p. subst (λ (o : Machine). Inside l len img o.state o.memory) (sym (exit_leaves s m (allowed_exit _ p.0))) v)
        (exit_is l len img ok s m v)

    -- the word at PC is in no guard, and no branch
    module _ (h : Idle x.kind) where
      idle_room : j + 1 < words_in l
      idle_room = room (ap is_region h.onward) (ap is_register h.onward)

      idle_after : Way l img i j → Ready l img j regs
      idle_after (onward e g) =
          subst (λ (n : ℕ). Ready l img n regs) (sym e)
          (idle_next l len img ok i x (stands_here l len img ok s m v) h regs g)
      idle_after (branched g e) = entry_ready l img j regs e

      pub resumed_inside : Inside l len img (resumed_of s) m
      resumed_inside =
          record {
            valid = record { registers = v.valid.registers; special = linked_regular (advance_regular v.valid.special) };
            bytes = v.bytes;
            mode = v.mode;
            data_register = v.data_register;
            code_register = v.code_register;
            long = v.long;
            placed = v.placed;
            position =
                record {
                  word = j;
                  following = j + 1;
                  counter = v.position.next_counter;
                  next_counter = slot_is idle_room;
                  way = onward refl idle_room;
                  ready = idle_after v.position.way;
                };
          }
