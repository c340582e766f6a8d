-- Refusals have numbers from 1 on; what `?` makes of one is the verdict of its number, at no place.
use Prim.Native.Nat.{ℕ}
use mathlib.Core.Path.{◌≡◌, refl, sym, ap}
use mathlib.Core.Bool.{Bool, true, false, false≢true}
use Rattle.refusal.specs.declared.Refusal.{Refusal}
use Rattle.refusal.specs.Refusal.{refused_number, refused_when}
use Rattle.refusal.proofs.Numbers.{number_some}
use Rattle.std.specs.Prelude.{Result, Ok, Err, IsErr}
use Rattle.checker.specs.declared.verdict.Refused.{Refused}
use Rattle.checker.specs.Check.{trial, said}
use Rattle.checker.specs.declared.verdict.Verdict.{Verdict}
use Rattle.checker.specs.Scan.{verdict_at}
use Rattle.checker.specs.Said.{verdict_of}
use Rattle.rules.specs.Not.{Not}
use Rattle.word.proofs.Choice.{by_zero}

-- a rule that refuses nothing is kept
pub unbroken : (r : Refusal) (b : Bool) → Ok tt ≡ refused_when r b → b ≡ false
unbroken r true e = absurd (number_some r (sym (ap (λ (x : Result Unit Refusal). refused_number x) e)))
unbroken r false e = refl

-- a refusal has a number
pub told_at : {A : Type 0} (x : Result A Refused) (k p : ℕ) → IsErr x → verdict_of x ≡ verdict_at k p → (Not (k ≡ 0)) × (verdict_of x ≡ said (trial k p))
told_at (Ok x) k p h e = absurd (false≢true h)
told_at {A} (Err r) k p h e =
    by_zero (λ (v : Verdict). verdict_of {A = A} (Err r) ≡ v → Not (k ≡ 0) × (verdict_of {A = A} (Err r) ≡ said (trial k p))) k
    (λ z q. absurd (number_some r.rule (ap (λ (v : Verdict). v.number) q))) (λ z q. (z, q)) e
