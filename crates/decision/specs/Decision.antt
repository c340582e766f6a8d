-- What an instruction does, or the exit in which it ends, decided before anything is done: a is GPR[rs], b is GPR[rt], n the memory's length.
use Rattle.std.specs.Prelude.{ℕ, Result, Ok}
use Rattle.isa.specs.declared.kind.Kind.{Kind}
use Rattle.isa.specs.declared.kind.Kind.TheVariants as K
use Rattle.isa.specs.declared.kind.Instruction.{Instruction}
use Rattle.effect.specs.declared.effect.Special.{Special}
use Rattle.effect.specs.declared.effect.Effect.{Effect}
use Rattle.effect.specs.declared.exit.Exit.{Exit}
use Rattle.arithmetic.specs.Arithmetic.{alu_of, immediate_of, shift_of, multiply_of}
use Rattle.access.specs.Access.{access_of}
use Rattle.branch.specs.Branch.{branch_of}
use Rattle.trap.specs.Trap.{trap_of}
use Rattle.system.specs.System.{system_of}

abbrev pub by_kind : Kind → Instruction → ℕ → ℕ → Special → ℕ → Result Effect Exit
by_kind (K.Alu k) i a b s n = alu_of k i.rd a b
by_kind (K.Immediate k) i a b s n = immediate_of k i.rt a i.value
by_kind (K.Shift k) i a b s n = Ok (shift_of k i.rd a b i.shift)
by_kind (K.Multiply k) i a b s n = Ok (multiply_of k i.rd a b s.hi s.lo)
by_kind (K.Access k) i a b s n = access_of k i.rt a b i.value s.ll n
by_kind (K.Branch k) i a b s n = branch_of k i.rd a b i.value s.pc s.next_pc
by_kind (K.Trap k) i a b s n = trap_of k a b i.value
by_kind (K.System k) i a b s n = system_of k i.rt i.rd b i.value s

unfoldable pub decision_of : Instruction → ℕ → ℕ → Special → ℕ → Result Effect Exit
decision_of i a b s n = by_kind i.kind i a b s n
