-- The two words of a guard (document 01, Module and its guards): ANDI R,S,m and OR R,R,base.
use Rattle.std.specs.Prelude.{ℕ, Bool, true, false, ◌&&◌, eqb, Option, Some, None}
use Rattle.isa.specs.declared.kind.Instruction.{Instruction}
use Rattle.isa.specs.declared.kind.Alu.{Alu}
use Rattle.isa.specs.declared.kind.Alu.TheVariants.{Add, Addu, Sub, Subu, Slt, Sltu, And, Or, Xor, Nor}
use Rattle.isa.specs.declared.kind.Immediate.{Immediate}
use Rattle.isa.specs.declared.kind.Immediate.TheVariants.{Addi, Addiu, Slti, Sltiu, Andi, Ori, Xori, Lui}
use Rattle.isa.specs.declared.kind.Kind.{Kind}
use Rattle.isa.specs.declared.kind.Kind.TheVariants as K
use Rattle.isa.specs.Reading.{read_of}

abbrev pub is_andi : Immediate → Bool
is_andi Addi = false
is_andi Addiu = false
is_andi Slti = false
is_andi Sltiu = false
is_andi Andi = true
is_andi Ori = false
is_andi Xori = false
is_andi Lui = false

abbrev pub is_mask : Kind → Bool
is_mask (K.Alu k) = false
is_mask (K.Immediate k) = is_andi k
is_mask (K.Shift k) = false
is_mask (K.Multiply k) = false
is_mask (K.Access k) = false
is_mask (K.Branch k) = false
is_mask (K.Trap k) = false
is_mask (K.System k) = false

abbrev pub is_or : Alu → Bool
is_or Add = false
is_or Addu = false
is_or Sub = false
is_or Subu = false
is_or Slt = false
is_or Sltu = false
is_or And = false
is_or Or = true
is_or Xor = false
is_or Nor = false

abbrev pub is_merge : Kind → Bool
is_merge (K.Alu k) = is_or k
is_merge (K.Immediate k) = false
is_merge (K.Shift k) = false
is_merge (K.Multiply k) = false
is_merge (K.Access k) = false
is_merge (K.Branch k) = false
is_merge (K.Trap k) = false
is_merge (K.System k) = false

-- ---- words

abbrev pub masks : ℕ → Option Instruction → Bool
masks r (Some i) = is_mask i.kind && eqb i.rt r
masks r None = false

abbrev pub merges : ℕ → ℕ → Option Instruction → Bool
merges base r (Some i) = is_merge i.kind && (eqb i.rd r && (eqb i.rs r && eqb i.rt base))
merges base r None = false

abbrev pub value_in : Option Instruction → ℕ
value_in (Some i) = i.value
value_in None = 0

-- word w is ANDI R,S,m, for some S and m
unfoldable pub is_mask_of : ℕ → ℕ → Bool
is_mask_of r w = masks r (read_of w)

-- m, where it is one
unfoldable pub mask_in : ℕ → ℕ
mask_in w = value_in (read_of w)

-- word w is OR R,R,base
unfoldable pub is_merge_of : ℕ → ℕ → ℕ → Bool
is_merge_of base r w = merges base r (read_of w)
