-- The instruction set: one line for each of the 72 instructions of document 004, in the groups of its section 1.1.
-- A line gives the instruction's number, which is its place in section 1.2; the format of its word; and its code in that format, in binary as the drawings have it.
-- Where section 1.2 has no drawing, format and code are those of the public MIPS II instruction set.
use Rattle.std.specs.Prelude.{ℕ, List, [], ◌∷◌}
use Rattle.isa.specs.declared.kind.Alu.{Alu}
use Rattle.isa.specs.declared.kind.Alu.TheVariants.{Add, Addu, Sub, Subu, Slt, Sltu, And, Or, Xor, Nor}
use Rattle.isa.specs.declared.kind.Immediate.{Immediate}
use Rattle.isa.specs.declared.kind.Immediate.TheVariants.{Addi, Addiu, Slti, Sltiu, Andi, Ori, Xori, Lui}
use Rattle.isa.specs.declared.kind.Shift.{Shift}
use Rattle.isa.specs.declared.kind.Shift.TheVariants.{Sll, Srl, Sra, Sllv, Srlv, Srav}
use Rattle.isa.specs.declared.kind.Multiply.{Multiply}
use Rattle.isa.specs.declared.kind.Multiply.TheVariants.{Mult, Multu, Div, Divu, Mfhi, Mthi, Mflo, Mtlo}
use Rattle.isa.specs.declared.kind.Access.{Access}
use Rattle.isa.specs.declared.kind.Access.TheVariants.{Lb, Lbu, Sb, Lh, Lhu, Sh, Lw, Sw, Ll, Sc}
use Rattle.isa.specs.declared.kind.Branch.{Branch}
use Rattle.isa.specs.declared.kind.Branch.TheVariants.{J, Jal, Jr, Jalr, Beq, Bne, Blez, Bgtz, Bltz, Bgez, Bltzal, Bgezal}
use Rattle.isa.specs.declared.kind.Trap.{Trap}
use Rattle.isa.specs.declared.kind.Trap.TheVariants.{Tge, Tgeu, Tlt, Tltu, Teq, Tne, Tgei, Tgeiu, Tlti, Tltiu, Teqi, Tnei}
use Rattle.isa.specs.declared.kind.System.{System}
use Rattle.isa.specs.declared.kind.System.TheVariants.{Syscall, Break, Rfe, Mfc0, Mtc0, Sync}
use Rattle.isa.specs.declared.kind.Kind.{Kind}
use Rattle.isa.specs.declared.kind.Kind.TheVariants as K
use Rattle.isa.specs.declared.format.Format.{Format}
use Rattle.isa.specs.declared.format.Format.TheVariants.{ThreeRegisters, ShiftAmount, TwoSources, OneSource, OneTarget, SourceTarget, SystemCode, Barrier, TrapCode, Condition, JumpIndex, Constant, BranchZero, UpperConstant, ControlMove, ExceptionReturn}

pub record Row : Type 0 where
  pub number : ℕ
  pub format : Format
  pub code : ℕ

abbrev pub row : ℕ → Format → ℕ → Row
row n f c = record { number = n; format = f; code = c }

-- 1.1.1 3-Operand ALU Instructions
abbrev pub alu_row : Alu → Row
alu_row Add = row 1 ThreeRegisters 0b100000
alu_row Addu = row 4 ThreeRegisters 0b100001
alu_row Sub = row 54 ThreeRegisters 0b100010
alu_row Subu = row 55 ThreeRegisters 0b100011
alu_row Slt = row 46 ThreeRegisters 0b101010
alu_row Sltu = row 49 ThreeRegisters 0b101011
alu_row And = row 5 ThreeRegisters 0b100100
alu_row Or = row 38 ThreeRegisters 0b100101
alu_row Xor = row 71 ThreeRegisters 0b100110
alu_row Nor = row 37 ThreeRegisters 0b100111

-- 1.1.2 ALU Instructions With an Immediate Operand
abbrev pub immediate_row : Immediate → Row
immediate_row Addi = row 2 Constant 0b001000
immediate_row Addiu = row 3 Constant 0b001001
immediate_row Slti = row 47 Constant 0b001010
immediate_row Sltiu = row 48 Constant 0b001011
immediate_row Andi = row 6 Constant 0b001100
immediate_row Ori = row 39 Constant 0b001101
immediate_row Xori = row 72 Constant 0b001110
immediate_row Lui = row 27 UpperConstant 0b001111

-- 1.1.3 Shift Instructions
abbrev pub shift_row : Shift → Row
shift_row Sll = row 44 ShiftAmount 0b000000
shift_row Srl = row 52 ShiftAmount 0b000010
shift_row Sra = row 50 ShiftAmount 0b000011
shift_row Sllv = row 45 ThreeRegisters 0b000100
shift_row Srlv = row 53 ThreeRegisters 0b000110
shift_row Srav = row 51 ThreeRegisters 0b000111

-- 1.1.4 Multiply and Divide Instructions
abbrev pub multiply_row : Multiply → Row
multiply_row Mult = row 35 TwoSources 0b011000
multiply_row Multu = row 36 TwoSources 0b011001
multiply_row Div = row 16 TwoSources 0b011010
multiply_row Divu = row 17 TwoSources 0b011011
multiply_row Mfhi = row 30 OneTarget 0b010000
multiply_row Mthi = row 33 OneSource 0b010001
multiply_row Mflo = row 31 OneTarget 0b010010
multiply_row Mtlo = row 34 OneSource 0b010011

-- 1.1.5 Aligned CPU Load/Store Instructions, 1.1.7 Atomic Update CPU Load/Store Instructions
abbrev pub access_row : Access → Row
access_row Lb = row 22 Constant 0b100000
access_row Lbu = row 23 Constant 0b100100
access_row Sb = row 41 Constant 0b101000
access_row Lh = row 24 Constant 0b100001
access_row Lhu = row 25 Constant 0b100101
access_row Sh = row 43 Constant 0b101001
access_row Lw = row 28 Constant 0b100011
access_row Sw = row 56 Constant 0b101011
access_row Ll = row 26 Constant 0b110000
access_row Sc = row 42 Constant 0b111000

-- 1.1.6 Jump and Branch Instructions
abbrev pub branch_row : Branch → Row
branch_row J = row 18 JumpIndex 0b000010
branch_row Jal = row 19 JumpIndex 0b000011
branch_row Jr = row 21 OneSource 0b001000
branch_row Jalr = row 20 SourceTarget 0b001001
branch_row Beq = row 7 Constant 0b000100
branch_row Bne = row 14 Constant 0b000101
branch_row Blez = row 11 BranchZero 0b000110
branch_row Bgtz = row 10 BranchZero 0b000111
branch_row Bltz = row 12 Condition 0b00000
branch_row Bgez = row 8 Condition 0b00001
branch_row Bltzal = row 13 Condition 0b10000
branch_row Bgezal = row 9 Condition 0b10001

-- 1.1.9 Trap-on-Condition Instructions
abbrev pub trap_row : Trap → Row
trap_row Tge = row 61 TrapCode 0b110000
trap_row Tgeu = row 64 TrapCode 0b110001
trap_row Tlt = row 65 TrapCode 0b110010
trap_row Tltu = row 68 TrapCode 0b110011
trap_row Teq = row 59 TrapCode 0b110100
trap_row Tne = row 69 TrapCode 0b110110
trap_row Tgei = row 62 Condition 0b01000
trap_row Tgeiu = row 63 Condition 0b01001
trap_row Tlti = row 66 Condition 0b01010
trap_row Tltiu = row 67 Condition 0b01011
trap_row Teqi = row 60 Condition 0b01100
trap_row Tnei = row 70 Condition 0b01110

-- 1.1.8 Exception, 1.1.10 Privileged and 1.1.11 Serialization Instructions
abbrev pub system_row : System → Row
system_row Syscall = row 58 SystemCode 0b001100
system_row Break = row 15 SystemCode 0b001101
system_row Rfe = row 40 ExceptionReturn 0b10000
system_row Mfc0 = row 29 ControlMove 0b00000
system_row Mtc0 = row 32 ControlMove 0b00100
system_row Sync = row 57 Barrier 0b001111

abbrev pub row_of : Kind → Row
row_of (K.Alu k) = alu_row k
row_of (K.Immediate k) = immediate_row k
row_of (K.Shift k) = shift_row k
row_of (K.Multiply k) = multiply_row k
row_of (K.Access k) = access_row k
row_of (K.Branch k) = branch_row k
row_of (K.Trap k) = trap_row k
row_of (K.System k) = system_row k

-- all of them, in the order of section 1.2: the one with number n stands in place n, counted from 1
abbrev pub instructions : List Kind
instructions =
    K.Alu Add ∷ K.Immediate Addi ∷ K.Immediate Addiu ∷ K.Alu Addu ∷ K.Alu And ∷ K.Immediate Andi ∷
    K.Branch Beq ∷ K.Branch Bgez ∷ K.Branch Bgezal ∷ K.Branch Bgtz ∷ K.Branch Blez ∷ K.Branch Bltz ∷
    K.Branch Bltzal ∷ K.Branch Bne ∷ K.System Break ∷ K.Multiply Div ∷ K.Multiply Divu ∷ K.Branch J ∷
    K.Branch Jal ∷ K.Branch Jalr ∷ K.Branch Jr ∷ K.Access Lb ∷ K.Access Lbu ∷ K.Access Lh ∷
    K.Access Lhu ∷ K.Access Ll ∷ K.Immediate Lui ∷ K.Access Lw ∷ K.System Mfc0 ∷ K.Multiply Mfhi ∷
    K.Multiply Mflo ∷ K.System Mtc0 ∷ K.Multiply Mthi ∷ K.Multiply Mtlo ∷ K.Multiply Mult ∷ K.Multiply Multu ∷
    K.Alu Nor ∷ K.Alu Or ∷ K.Immediate Ori ∷ K.System Rfe ∷ K.Access Sb ∷ K.Access Sc ∷
    K.Access Sh ∷ K.Shift Sll ∷ K.Shift Sllv ∷ K.Alu Slt ∷ K.Immediate Slti ∷ K.Immediate Sltiu ∷
    K.Alu Sltu ∷ K.Shift Sra ∷ K.Shift Srav ∷ K.Shift Srl ∷ K.Shift Srlv ∷ K.Alu Sub ∷
    K.Alu Subu ∷ K.Access Sw ∷ K.System Sync ∷ K.System Syscall ∷ K.Trap Teq ∷ K.Trap Teqi ∷
    K.Trap Tge ∷ K.Trap Tgei ∷ K.Trap Tgeiu ∷ K.Trap Tgeu ∷ K.Trap Tlt ∷ K.Trap Tlti ∷
    K.Trap Tltiu ∷ K.Trap Tltu ∷ K.Trap Tne ∷ K.Trap Tnei ∷ K.Alu Xor ∷ K.Immediate Xori ∷ []
