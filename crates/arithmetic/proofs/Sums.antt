-- A checked sum is written, or exits.
use Rattle.std.proofs.Common.{◌≡◌, ℕ, Bool, true, false, cond, ℤ, Some, None, Result, Ok, Err, refl}
use Rattle.std.specs.Option.{ok_or}
use Rattle.word.specs.Number.{fits_of, wrap_of}
use Rattle.signed.specs.Checked.{checked_of}
use Rattle.effect.specs.declared.effect.Effect.{Effect}
use Rattle.effect.specs.declared.effect.Effect.TheVariants.{Write}
use Rattle.effect.specs.declared.exit.Exit.{Exit}
use Rattle.effect.specs.declared.exit.Exit.TheVariants as E
use Rattle.arithmetic.specs.Arithmetic.{checked}

-- register r gets the word, where there is one
abbrev written : ℕ → Result ℕ Exit → Result Effect Exit
written r (Ok w) = Ok (Write r w)
written r (Err e) = Err e

by_fit : (r w : ℕ) (t : Bool) → written r (ok_or (cond t (Some w) None) E.IntegerOverflow) ≡ cond t (Ok (Write r w)) (Err E.IntegerOverflow)
by_fit r w true = refl
by_fit r w false = refl

law : (r : ℕ) (z : ℤ) → written r (ok_or (checked_of z) E.IntegerOverflow) ≡ checked r z
unfolding checked checked_of
law r z = by_fit r (wrap_of 32 z) (fits_of 32 z)

pub sum_written : (r w : ℕ) (z : ℤ) → ok_or (checked_of z) E.IntegerOverflow ≡ Ok w → Ok (Write r w) ≡ checked r z
sum_written r w z h = rw (← law r z, h)

pub sum_exits : (r : ℕ) (z : ℤ) (e : Exit) → ok_or (checked_of z) E.IntegerOverflow ≡ Err e → Err e ≡ checked r z
sum_exits r z e h = rw (← law r z, h)
