-- Inside the invariant every step is confined, and a step, a resume and a host's change keep it.
use Prim.Native.Nat.{ℕ, zero, suc, ◌+◌, ◌*◌, ◌/◌, ◌%◌, ◌^◌, ◌≤◌, ◌<◌}
use mathlib.Core.Path.{◌≡◌, refl, sym, ap, ◌∙◌}
use mathlib.Core.Bool.{true, false, true≢false}
use mathlib.Core.Logic.{◌⊎◌, inl, inr, ⊎_elim}
use mathlib.Core.List.{List}
use native.Mathlib.Omega.{arith}
use native.Mathlib.Decide.{dec_lt}
use lib.Dec.{leb}
use lib.IntN.{pos}
use lib.ListN.{length}
use borrow.Author.Tests.{eqb-false, le-leb, lt-leb, lt-ltb, le-ltb}
use Rattle.std.specs.Prelude.{Some, Result, Ok, Err}
use Rattle.word.specs.Number.{extend_of}
use Rattle.word.specs.Bytes.{load_of}
use Rattle.word.proofs.Memory.{load_lt}
use Rattle.isa.specs.declared.kind.Kind.{Kind}
use Rattle.isa.specs.declared.kind.Instruction.{Instruction}
use Rattle.class.specs.Class.{width_accessed}
use Rattle.isa.specs.Reading.{read_of}
use Rattle.isa.proofs.RoundTrip.{Operands, read_operands}
use Rattle.effect.specs.declared.effect.Special.{Special}
use Rattle.effect.specs.declared.effect.Effect.{Effect}
use Rattle.effect.specs.declared.exit.Exit.{Exit}
use Rattle.access.specs.Access.{address_of, reaches}
use Rattle.layout.specs.declared.Layout.{Layout}
use Rattle.machine.specs.declared.state.State.{State}
use Rattle.machine.specs.State.{register_of, special_of, refusal_of}
use Rattle.machine.specs.Apply.{span, Outside}
use Rattle.machine.specs.Step.{effect_of, effect_at, instruction_access, access_at, Outcome, tried_of, try_of, step_of}
use Rattle.machine.proofs.Valid.{valid_lawful}
use Rattle.machine.proofs.Steps.{no_refusal, step_outside, step_length}
use Rattle.checker.specs.Check.{code_of}
use Rattle.rules.specs.Offset.{offset_of}
use Rattle.checker.specs.Lawful.{Stands, Accesses, ByRegister, width_of, words_in, Lawful}
use Rattle.confinement.specs.Events.{is_data}
use Rattle.confinement.specs.Lists.{at}
use Rattle.confinement.specs.Demand.{Within, Allowed, Confined, Untouched}
use Rattle.confinement.proofs.ByKind.{Obeys, Leaves, allowed, unreached, unaligned, barred, kernel, Idle, obeys}
use Rattle.confinement.proofs.Parts.{load_part}
use Rattle.confinement.proofs.Areas.{Data, Code, sum_width, base_aligned}
use Rattle.confinement.proofs.Invariant.{Entry, Inside, way_in, bundle_entry}

-- an exit has a reason
exit_by : {k : Kind} {i : Instruction} {a n : ℕ} (c : Special) (d : Result Effect Exit) (s : State) (m : List ℕ) → Obeys k i a c n d → ((tried_of d s m).number ≡ 0) ⊎ Leaves k i a c n (tried_of d s m).number
exit_by c (Ok e) s m o = inl refl
exit_by c (Err x) s m o = inr o.follows

pub not_data : (l : Layout) (a : ℕ) → is_data l a ≡ false → (a < l.data_base) ⊎ (l.data_base + l.data_size ≤ a)
unfolding is_data
not_data l a e = elim (dec_lt a l.data_base) [
  | yes g ↦ inl g
  | no g ↦ elim (dec_lt a (l.data_base + l.data_size)) [
    | yes h ↦ absurd (true≢false (sym (rw (le-leb l.data_base a (omega arith), lt-ltb a (l.data_base + l.data_size) h)) ∙ e))
    | no h ↦ inr (omega arith)
  ]
]

pub data_out : (l : Layout) (a : ℕ) → (a < l.data_base) ⊎ (l.data_base + l.data_size ≤ a) → is_data l a ≡ false
unfolding is_data
data_out l a (inl h) = rw (lt-leb l.data_base a h)
data_out l a (inr h) = rw (le-ltb a (l.data_base + l.data_size) h, le-leb l.data_base a (omega arith))

-- an offset that isn't negative is added to the base as it is
pub address_is : (b o v : ℕ) → offset_of v ≡ pos o → b + o < 2 ^ 32 → address_of b v ≡ b + o
unfolding address_of extend_of offset_of
address_is b o v e h = rw e (omega arith)

module _ (l : Layout) (len : ℕ) (img : List ℕ) (ok : Lawful l len img) (s : State) (m : List ℕ) (v : Inside l len img s m) where
  abbrev i : ℕ
  i = v.position.word

  abbrev j : ℕ
  j = v.position.following

  pub in_code : i < words_in l
  in_code = way_in l img i j v.position.way

  -- ---- the instruction at PC is the module's

  unfoldable pub here : Instruction
  here = (ok.r8 i in_code).0

  pub stands_here : Stands img i here
  unfolding here
  stands_here = (ok.r8 i in_code).1

  fetched : load_of 4 m s.special.pc ≡ load_of 4 img (4 * i)
  unfolding code_of
  fetched =
      ap (load_of 4 m) v.position.counter
      ∙ sym (load_part m l.code_base l.code_size 4 (4 * i) (let h = in_code in omega arith))
      ∙ ap (λ (x : List ℕ). load_of 4 x (4 * i)) v.placed

  reads : read_of (load_of 4 m s.special.pc) ≡ Some here
  reads = ap read_of fetched ∙ stands_here

  pub operands_here : Operands here
  operands_here = read_operands (load_of 4 m s.special.pc) (load_lt 4 m s.special.pc v.bytes) here reads

  fetches : leb (s.special.pc + 4) (length m) ≡ true
  fetches =
      le-leb (s.special.pc + 4) (length m) (let h = in_code in omega (arith, v.position.counter, v.long, ok.r4.1))

  pub effect_is : effect_at s m ≡ effect_of here s (length m)
  unfolding effect_at
  effect_is = rw (fetches, reads)

  pub access_is : access_at s m ≡ instruction_access here s
  unfolding access_at
  access_is = rw (fetches, reads)

  -- ---- no call is refused by 1 or 17

  pub unrefused : refusal_of s (length m) ≡ 0
  unrefused = sym (no_refusal s (length m) (omega (arith, v.long, ok.r1)) (valid_lawful s v.valid))

  pub step_is : step_of s m ≡ try_of s m
  unfolding step_of
  step_is = rw unrefused

  -- ---- what it accesses and where it leaves to

  abbrev base : ℕ
  base = register_of s.registers here.rs

  pub record Touch : Type 0 where
    pub within : Within l.data_base l.data_size (span (address_of base here.value) (width_of here))
    pub aligned : address_of base here.value % width_of here ≡ 0

  pub touch : Accesses here → Touch
  touch u =
      let (d, (p, (o, (z, (q, (r, f)))))) = v.position.ready.now Data here stands_here u in
      let e : address_of base here.value ≡ l.data_base + d + o =
      ap (λ (x : ℕ). address_of x here.value) p ∙ address_is (l.data_base + d) o here.value z (omega (arith, f, ok.r5.1, ok.r1)) in
      record {
        within = (omega (arith, e), omega (arith, e, f));
        aligned =
            ap (λ (x : ℕ). x % width_of here) e ∙ sum_width (width_accessed here.kind) u l.data_base d o (base_aligned l len img ok Data) q r;
      }

  -- JR and JALR lead to a bundle
  pub record Leave : Type 0 where
    pub to : ℕ
    pub goes : base ≡ l.code_base + 4 * to
    pub entry : Entry l img to

  pub leave : ByRegister here → Leave
  leave u =
      let (d, (p, (q, r))) = v.position.ready.now Code here stands_here u in
      record { to = d / 4; goes = omega arith; entry = bundle_entry l len img ok (d / 4) (omega arith) (omega arith) }

  -- ---- its exits

  pub obeys_here : Obeys here.kind here base (special_of s) (length m) (effect_at s m)
  unfolding effect_of
  obeys_here = rw effect_is (obeys here base (register_of s.registers here.rt) (special_of s) (length m))

  reached : Accesses here → reaches (width_of here) (address_of base here.value) (length m) ≡ true
  unfolding reaches
  reached u =
      let t = touch u in
      let h : address_of base here.value + width_of here ≤ length m = omega (arith, t.within.1, ok.r5.1, v.long) in
      rw t.aligned (le-leb _ _ h)

  leaves_allowed : {e : ℕ} → Leaves here.kind here base (special_of s) (length m) e → Allowed e × Idle here.kind
  leaves_allowed (allowed p h) = (p, h)
  leaves_allowed (unreached u z) = absurd (true≢false (sym (reached u) ∙ z))
  leaves_allowed (unaligned r z) = absurd (eqb-false (base % 4) 0 z (omega (arith, (leave r).goes, base_aligned l len img ok Code)))
  leaves_allowed (barred u) = absurd (u (ok.r9 i in_code here stands_here))
  leaves_allowed (kernel e) = absurd (true≢false (sym v.mode ∙ e))

  number_is : (step_of s m).number ≡ (tried_of (effect_at s m) s m).number
  unfolding try_of
  number_is = ap (λ (o : Outcome). o.number) step_is

  -- a step completes, or exits as allowed at a word that is in no guard
  pub exit_is : ((step_of s m).number ≡ 0) ⊎ (Allowed (step_of s m).number × Idle here.kind)
  exit_is = rw number_is (⊎_elim inl (λ f. inr (leaves_allowed f)) (exit_by (special_of s) (effect_at s m) s m obeys_here))

  -- ---- confined

  touches : (w : ℕ) → width_of here ≡ w → (w ≡ 0) ⊎ Within l.data_base l.data_size (span (address_of base here.value) w)
  touches zero e = inl refl
  touches (suc w) e = inr (rw (← e) (touch (λ z. omega (arith, e, z))).within)

  pub confined : Confined l (at s m)
  confined =
      record {
        fetch = (let h = in_code in (omega (arith, v.position.counter), omega (arith, v.position.counter)));
        access = rw access_is (touches (width_of here) refl);
        exit = ⊎_elim inl (λ p. inr p.0) exit_is;
      }

  -- ---- memory outside the data area stays

  outside : (a : ℕ) → is_data l a ≡ false → Outside a (access_at s m)
  outside a n =
      ⊎_elim
      (λ z. elim (dec_lt a (access_at s m).at) [ yes g ↦ inl g | no g ↦ inr (omega (arith, g, z)) ])
      (λ p. ⊎_elim (λ g. inl (omega (arith, g, p.0))) (λ g. inr (omega (arith, g, p.1))) (not_data l a n))
      confined.access

  pub step_untouched : Untouched l m (step_of s m).machine.memory
  step_untouched =
      record {
        same_length = step_length s m;
        same_bytes = λ a n. step_outside s m v.valid v.bytes a (outside a n);
      }
