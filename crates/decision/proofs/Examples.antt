-- What document 01 says in numbers, computed from the definitions.
use Prim.Native.Nat.{ℕ}
use mathlib.Core.Path.{◌≡◌, refl}
use Rattle.isa.specs.declared.kind.Multiply.TheVariants.{Div}
use Rattle.effect.specs.declared.effect.Effect.TheVariants.{Pair}
use Rattle.arithmetic.specs.Arithmetic.{multiply_of, divided}
use Rattle.word.specs.Number.{signed_of}

-- 0x80000000 by -1
pub minimum_by_minus_one : (rd hi lo : ℕ) → multiply_of Div rd 0x80000000 0xFFFFFFFF hi lo ≡ Pair 0 0x80000000
unfolding divided signed_of
minimum_by_minus_one rd hi lo = refl
