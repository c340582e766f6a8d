-- Document 004, section 1.1.9: traps, each beside its Operation in 1.2. a is GPR[rs], b is GPR[rt]; TLTU and TNE compare rs with rt (document 01, Machine).
use Rattle.std.specs.Prelude.{ℕ, Bool, cond, not, eqb, ltb, leb, Result, Ok, Err}
use Rattle.std.specs.Int.Signed.{lt_z, le_z}
use Rattle.word.specs.Number.{signed_of, extend_of}
use Rattle.isa.specs.declared.kind.Trap.{Trap}
use Rattle.isa.specs.declared.kind.Trap.TheVariants.{Tge, Tgeu, Tlt, Tltu, Teq, Tne, Tgei, Tgeiu, Tlti, Tltiu, Teqi, Tnei}
use Rattle.effect.specs.declared.effect.Effect.{Effect}
use Rattle.effect.specs.declared.effect.Effect.TheVariants.{Advance}
use Rattle.effect.specs.declared.exit.Exit.{Exit}
use Rattle.effect.specs.declared.exit.Exit.TheVariants as E

-- the constants of TGEIU and TLTIU too are sign-extended (document 01, Traps for the builder); TEQ, TNE, TEQI and TNEI compare words, which are equal exactly where their signed integers are
abbrev pub condition : Trap → ℕ → ℕ → ℕ → Bool
condition Tge a b v = le_z (signed_of 32 b) (signed_of 32 a)
condition Tgeu a b v = leb b a
condition Tlt a b v = lt_z (signed_of 32 a) (signed_of 32 b)
condition Tltu a b v = ltb a b
condition Teq a b v = eqb a b
condition Tne a b v = not (eqb a b)
condition Tgei a b v = le_z (signed_of 32 (extend_of 16 v)) (signed_of 32 a)
condition Tgeiu a b v = leb (extend_of 16 v) a
condition Tlti a b v = lt_z (signed_of 32 a) (signed_of 32 (extend_of 16 v))
condition Tltiu a b v = ltb a (extend_of 16 v)
condition Teqi a b v = eqb a (extend_of 16 v)
condition Tnei a b v = not (eqb a (extend_of 16 v))

unfoldable pub trap_if : Bool → Result Effect Exit
trap_if t = cond t (Err E.Trap) (Ok Advance)

abbrev pub trap_of : Trap → ℕ → ℕ → ℕ → Result Effect Exit
trap_of k a b v = trap_if (condition k a b v)
