-- A word's view, from what it reads as.
use mathlib.Core.Path.{◌≡◌}
use Rattle.isa.specs.declared.kind.Instruction.{Instruction}
use Rattle.class.specs.Class.{class_of, named, register_written}

pub written : (i : Instruction) → named (class_of i.kind).destination i ≡ register_written i
unfolding register_written
written i = mathlib.Core.Path.refl
