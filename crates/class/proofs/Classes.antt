-- The register that an instruction writes, from its class.
use mathlib.Core.Path.{◌≡◌, ap}
use Rattle.isa.specs.declared.kind.Instruction.{Instruction}
use Rattle.class.specs.declared.Class.{Class}
use Rattle.class.specs.Class.{class_of, named, register_written}

pub written : (i : Instruction) {c : Class} → c ≡ class_of i.kind → named c.destination i ≡ register_written i
unfolding register_written
written i p = ap (λ (x : Class). named x.destination i) p
