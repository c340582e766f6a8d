-- A guard and its access, from a state of demand 3's invariant: two steps complete, and the access is at the place of the value that was masked.
use Prim.Native.Nat.{ℕ, ◌+◌, ◌-◌, ◌*◌, ◌^◌, ◌<◌}
use mathlib.Core.Path.{◌≡◌, refl, sym, ap, subst, ◌∙◌}
use mathlib.Core.Bool.{true≢false}
use mathlib.Core.Logic.{⊎_elim}
use mathlib.Core.List.{List}
use native.Mathlib.Omega.{arith}
use lib.Bits.{bit_and}
use lib.IntN.{pos}
use Rattle.isa.specs.declared.kind.Alu.TheVariants.{Or}
use Rattle.isa.specs.declared.kind.Immediate.TheVariants.{Andi}
use Rattle.isa.specs.declared.kind.Kind.TheVariants as K
use Rattle.isa.specs.declared.kind.Instruction.{Instruction}
use Rattle.class.specs.Class.{class_of}
use Rattle.class.specs.declared.Flow.TheVariants.{Onward}
use Rattle.branch.specs.Branch.{slot_of}
use Rattle.layout.specs.declared.Layout.{Layout}
use Rattle.view.specs.Guard.{is_mask, is_merge}
use Rattle.rules.specs.Not.{Not}
use Rattle.rules.specs.Offset.{offset_of}
use Rattle.machine.specs.declared.state.State.{State}
use Rattle.machine.specs.State.{register_of, special_of}
use Rattle.machine.specs.Step.{instruction_access, outcome, step_of, access_at}
use Rattle.machine.specs.Run.{halted, later, repeat_of}
use Rattle.checker.specs.Lawful.{Stands, Accesses, Guarded, FitsData, words_in, width_of, flow_of, Lawful}
use Rattle.checker.proofs.Cells.{row_kept}
use Rattle.confinement.proofs.Areas.{Data, fits_mask}
use Rattle.confinement.proofs.ByKind.{Leads, Idle}
use Rattle.confinement.proofs.Invariant.{Inside, stands_once}
use Rattle.confinement.proofs.Steps.{here, stands_here, exit_is, access_is, address_is}
use Rattle.access.specs.Access.{address_of}
use Rattle.machine.specs.Apply.{span}
use Rattle.confinement.proofs.Keeps.{slot_is, masked_to, merged_to, completed, moved}
use Rattle.checker.specs.Cells.{cell}
use Rattle.rows.specs.Rows.{Reaches}

module _ (l : Layout) (len : ℕ) (img : List ℕ) (ok : Lawful l len img) where
  -- the word at PC is word k, and the one at next PC is the next
  pub record Standing (k : ℕ) (s : State) (m : List ℕ) : Type 0 where
    pub inside : Inside l len img s m
    pub word : inside.position.word ≡ k
    pub following : inside.position.following ≡ k + 1

  pub is_word : (s : State) (m : List ℕ) (v : Inside l len img s m) (k : ℕ) → v.position.word ≡ k → (z : Instruction) → Stands img k z
      → here l len img ok s m v ≡ z
  is_word s m v k e z p = stands_once img k (here l len img ok s m v) z (subst (λ (n : ℕ). Stands img n (here l len img ok s m v)) e (stands_here l len img ok s m v)) p

  -- it completes where it may not exit
  completes : (s : State) (m : List ℕ) (v : Inside l len img s m) → Not (Idle (here l len img ok s m v).kind) → (step_of s m).number ≡ 0
  completes s m v n = ⊎_elim (λ z. z) (λ p. absurd (n p.1)) (exit_is l len img ok s m v)

  -- ---- a step of a word that goes on

  module _ (k : ℕ) (h : k + 2 < words_in l) (s : State) (m : List ℕ) (at : Standing k s m) where
    abbrev y : Instruction
    y = here l len img ok s m at.inside

    abbrev after : State
    after = (step_of s m).machine.state

    abbrev memory : List ℕ
    memory = (step_of s m).machine.memory

    goes_on : flow_of y ≡ Onward → (step_of s m).number ≡ 0 → Standing (k + 1) after memory
    goes_on f z =
        let v = completed l len img ok s m at.inside z in
        let c = moved l len img ok s m at.inside z in
        let p = at.inside.position in
        let e : after.special.next_pc ≡ slot_of s.special.next_pc =
        subst (λ w. Leads w y (register_of s.registers y.rs) (special_of s) after.special.next_pc) f c.goes in
        let n : after.special.next_pc ≡ l.code_base + 4 * (k + 1 + 1) =
        e ∙ slot_is l len img ok s m at.inside (omega (arith, h, at.following)) ∙ ap (λ (j : ℕ). l.code_base + 4 * (j + 1)) at.following in
        record {
          inside = v;
          word = omega (arith, v.position.counter, c.counter, p.next_counter, at.following);
          following = omega (arith, v.position.next_counter, n);
        }

  -- ---- the guard of access x

  module _ (x : Instruction) (u : Accesses x) (mask i : ℕ) (h : i + 2 < words_in l) (st : Stands img (i + 2) x) (g : Guarded img (i + 2) x.rs 26 mask) where
    fits : FitsData l.data_size mask (offset_of x.value) (width_of x)
    fits = ok.r22 (i + 2) h x st u mask g

    -- the ANDI
    record Masked (s : State) (m : List ℕ) (v : Inside l len img s m) : Type 0 where
      number : (step_of s m).number ≡ 0
      standing : Standing (i + 1) (step_of s m).machine.state (step_of s m).machine.memory
      register : register_of (step_of s m).machine.state.registers x.rs ≡ bit_and (register_of s.registers (here l len img ok s m v).rs) mask

    masked : (s : State) (m : List ℕ) (at : Standing i s m) → Masked s m at.inside
    masked s m at =
        let v = at.inside in
        let (z, (p, (c, _))) = g.1.0.0 in
        let e : i + 2 - 2 ≡ i = omega arith in
        let k : (here l len img ok s m v).kind ≡ K.Immediate Andi = ap (λ (w : Instruction). w.kind) (is_word s m v i at.word z (rw e at p)) ∙ c in
        let n = completes s m v (λ d. true≢false (sym (ap is_mask k) ∙ d.no_mask)) in
        let f : i + 2 ≡ v.position.word + 1 + 1 = omega (arith, at.word) in
        record {
          number = n;
          standing = goes_on i h s m at (ap (λ w. (class_of w).flow) k) n;
          register = masked_to l len img ok s m v Data x u (omega (arith, h, f)) mask (subst (λ (j : ℕ). Guarded img j x.rs 26 mask) f g) fits;
        }

    -- the OR, with d left by the ANDI
    record Merged (d : ℕ) (s : State) (m : List ℕ) : Type 0 where
      number : (step_of s m).number ≡ 0
      inside : Inside l len img (step_of s m).machine.state (step_of s m).machine.memory
      word : inside.position.word ≡ i + 2
      register : register_of (step_of s m).machine.state.registers x.rs ≡ l.data_base + d

    merged : (d : ℕ) → FitsData l.data_size d (offset_of x.value) (width_of x) → (s : State) (m : List ℕ) → Standing (i + 1) s m → register_of s.registers x.rs ≡ d → Merged d s m
    merged d f s m at q =
        let v = at.inside in
        let (z, (p, (c, _))) = g.1.0.1 in
        let e : i + 2 - 1 ≡ i + 1 = omega arith in
        let k : (here l len img ok s m v).kind ≡ K.Alu Or = ap (λ (w : Instruction). w.kind) (is_word s m v (i + 1) at.word z (rw e at p)) ∙ c in
        let n = completes s m v (λ d. true≢false (sym (ap is_merge k) ∙ d.no_merge)) in
        let w = completed l len img ok s m v n in
        let r : i + 2 ≡ v.position.word + 1 = omega (arith, at.word) in
        record {
          number = n;
          inside = w;
          word = omega (arith, w.position.counter, (moved l len img ok s m v n).counter, v.position.next_counter, at.following);
          register = merged_to l len img ok s m v Data x u (omega (arith, h, r)) (subst (λ (j : ℕ). Stands img j x) r st) d q f;
        }

    -- the access, where its register has the place d in the data
    accessed : (d : ℕ) (s : State) (m : List ℕ) (v : Inside l len img s m) → v.position.word ≡ i + 2 → register_of s.registers x.rs ≡ l.data_base + d
        → (o : ℕ) → offset_of x.value ≡ pos o → l.data_base + d + o < 2 ^ 32 → access_at s m ≡ span (l.data_base + d + o) (width_of x)
    accessed d s m v e q o z b =
        access_is l len img ok s m v
        ∙ ap (λ (y : Instruction). instruction_access y s) (is_word s m v (i + 2) e x st)
        ∙ ap (λ (a : ℕ). span a (width_of x)) (ap (λ (a : ℕ). address_of a x.value) q ∙ address_is (l.data_base + d) o x.value z b)

    -- two steps that complete
    course : (s : State) (m : List ℕ) → (step_of s m).number ≡ 0 → (step_of (step_of s m).machine.state (step_of s m).machine.memory).number ≡ 0
        → repeat_of 2 s m
        ≡ (let t = step_of s m in let r = step_of t.machine.state t.machine.memory in later 1 t.touched (later 1 r.touched (halted (outcome 0 r.machine.state r.machine.memory))))
    unfolding repeat_of
    course s m p q = rw (p, q) refl

    pub guarded : (s : State) (m : List ℕ) (at : Standing i s m) → Reaches l x (cell mask (width_of x) (register_of s.registers (here l len img ok s m at.inside).rs)) (repeat_of 2 s m)
    guarded s m at =
        let a : ℕ = register_of s.registers (here l len img ok s m at.inside).rs in
        let d : ℕ = cell mask (width_of x) a in
        let e : bit_and a mask ≡ d = row_kept l len img ok (i + 2) h x st u mask g a in
        let f : FitsData l.data_size d (offset_of x.value) (width_of x) =
        subst (λ (n : ℕ). FitsData l.data_size n (offset_of x.value) (width_of x)) e (fits_mask l Data x u a mask fits) in
        let p = masked s m at in
        let t = (step_of s m).machine in
        let q = merged d f t.state t.memory p.standing (p.register ∙ e) in
        let r = (step_of t.state t.memory).machine in
        let (o, (z, (_, (_, b)))) = f in
        subst (Reaches l x d) (sym (course s m p.number q.number))
        (record {
          completed = refl;
          offset = o;
          offset_is = z;
          access = accessed d r.state r.memory q.inside q.word q.register o z (omega (arith, b, ok.r5.1, ok.r1));
        })
