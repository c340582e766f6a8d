-- The theorems about a step that divides (document 02, Ticket 4): what it leaves, by 0 and by any other divisor, and that LO and HI, beside the dividend,
-- tell the two apart.
use Rattle.std.proofs.Common.{◌≡◌, ℕ, ◌/◌, ◌%◌, ◌↔◌, List, Ok, int_div, int_rem, sym, ap, ap₂, ◌∙◌}
use Rattle.word.specs.Number.{signed_of, wrap_of}
use Rattle.isa.specs.declared.kind.Multiply.{Multiply}
use Rattle.isa.specs.declared.kind.Multiply.TheVariants.{Div, Divu}
use Rattle.isa.specs.declared.kind.Instruction.{Instruction}
use Rattle.effect.specs.declared.effect.Effect.{Effect}
use Rattle.effect.specs.declared.effect.Effect.TheVariants.{Pair}
use Rattle.parts.specs.Parts.{advance_of, pair_of}
use Rattle.arithmetic.specs.Arithmetic.{multiply_of}
use Rattle.arithmetic.proofs.Division.{by_zero, div_by_some, divu_by_some, told, Halves, divides_halves}
use Rattle.decision.specs.Decision.{decision_of}
use Rattle.machine.specs.declared.state.State.{State}
use Rattle.machine.specs.State.{register_of, join_of, Typed}
use Rattle.machine.specs.Step.{effect_of, effect_at, tried_of, try_of, step_of}
use Rattle.machine.specs.Division.{Division, sets}
use Rattle.machine.proofs.Touches.{effect_is}

module _ (s : State) (m : List ℕ) (i : Instruction) where
  abbrev pub dividend : ℕ
  dividend = register_of s.registers i.rs

  abbrev pub divisor : ℕ
  divisor = register_of s.registers i.rt

  abbrev effect_by : Multiply → Effect
  effect_by k = multiply_of k i.rd dividend divisor s.special.hi s.special.lo

  module _ (d : Division s m i) where
    decided : effect_at s m ≡ Ok (effect_by d.kind)
    unfolding effect_of decision_of
    decided = rw (effect_is s m i d.fetched d.reads, d.is)

    step_is : step_of s m ≡ tried_of (Ok (effect_by d.kind)) s m
    unfolding step_of try_of
    step_is = rw (d.unrefused, decided)

    step_sets : (h l : ℕ) → effect_by d.kind ≡ Pair h l → step_of s m ≡ sets s m h l
    step_sets h l e = step_is ∙ ap (λ x. tried_of (Ok x) s m) e

    by_nothing : divisor ≡ 0 → effect_by d.kind ≡ Pair dividend 0xFFFFFFFF
    by_nothing z = rw z (by_zero d.kind d.divides i.rd dividend s.special.hi s.special.lo)

    pub zero_divisor : divisor ≡ 0 → step_of s m ≡ sets s m dividend 0xFFFFFFFF
    zero_divisor z = step_sets dividend 0xFFFFFFFF (by_nothing z)

    -- every other division: document 01's quotient and remainder
    module _ (some : divisor ≡ 0 → ⊥) where
      pub some_signed : d.kind ≡ Div → step_of s m ≡ sets s m (wrap_of 32 (int_rem (signed_of 32 dividend) (signed_of 32 divisor))) (wrap_of 32 (int_div (signed_of 32 dividend) (signed_of 32 divisor)))
      some_signed e = step_sets _ _ (ap effect_by e ∙ div_by_some i.rd dividend divisor s.special.hi s.special.lo some)

      pub some_unsigned : d.kind ≡ Divu → step_of s m ≡ sets s m (dividend % divisor) (dividend / divisor)
      some_unsigned e = step_sets _ _ (ap effect_by e ∙ divu_by_some i.rd dividend divisor s.special.hi s.special.lo some)

    -- ---- so LO and HI tell, beside the dividend in its register and with no look at the divisor, whether that was 0

    pair : Halves (effect_by d.kind)
    pair = divides_halves d.kind d.divides i.rd dividend divisor s.special.hi s.special.lo

    -- the state after the step
    abbrev pub after : State
    after = (step_of s m).machine.state

    after_is : after ≡ join_of s.registers (pair_of (advance_of s.special) pair.hi pair.lo)
    after_is = ap (λ o. o.machine.state) (step_sets pair.hi pair.lo pair.is)

    pub zero_told : Typed s → (((after.special.lo ≡ 0xFFFFFFFF) × (after.special.hi ≡ register_of after.registers i.rs)) ↔ (divisor ≡ 0))
    zero_told t = (
      λ (l, h).
          let lo : pair.lo ≡ 0xFFFFFFFF = ap (λ x. x.special.lo) (sym after_is) ∙ l in
          let hi : pair.hi ≡ dividend = ap (λ x. x.special.hi) (sym after_is) ∙ h ∙ ap (λ x. register_of x.registers i.rs) after_is in
          told i.rd dividend divisor s.special.hi s.special.lo (t.registers i.rs) (t.registers i.rt) d.kind d.divides (pair.is ∙ ap₂ Pair hi lo),
      λ z.
          let e : after ≡ (sets s m dividend 0xFFFFFFFF).machine.state = ap (λ o. o.machine.state) (zero_divisor z) in
          (ap (λ x. x.special.lo) e, ap (λ x. x.special.hi) e ∙ sym (ap (λ x. register_of x.registers i.rs) e)),
    )
