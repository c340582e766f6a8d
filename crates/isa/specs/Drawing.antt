-- The drawings of instruction words (document 004, section 1.2): what each of a word's six fields holds, one line for each format.
use Rattle.isa.specs.declared.format.Format.{Format}
use Rattle.isa.specs.declared.format.Format.TheVariants.{ThreeRegisters, ShiftAmount, TwoSources, OneSource, OneTarget, SourceTarget, SystemCode, Barrier, TrapCode, Condition, JumpIndex, Constant, BranchZero, UpperConstant, ControlMove, ExceptionReturn}
use Rattle.isa.specs.declared.format.Role.{Role}
use Rattle.isa.specs.declared.format.Role.TheVariants.{Operand, Control, Fixed, Code, Part}
use Rattle.word.specs.declared.field.Fields.{Fields}

abbrev pub Drawing : Type 0
Drawing = Fields Role

-- the fields from bit 31 down: opcode, rs, rt, rd, shift amount, function
abbrev pub drawn : Role → Role → Role → Role → Role → Role → Drawing
drawn o s t d h f = record { op = o; rs = s; rt = t; rd = d; shift = h; funct = f }

-- a field drawn as zero
abbrev pub blank : Role
blank = Fixed 0

abbrev pub special : Role
special = Fixed 0b000000

abbrev pub regimm : Role
regimm = Fixed 0b000001

abbrev pub cop0 : Role
cop0 = Fixed 0b010000

abbrev pub drawing_of : Format → Drawing
drawing_of ThreeRegisters = drawn special Operand Operand Operand blank Code
drawing_of ShiftAmount = drawn special blank Operand Operand Operand Code
drawing_of TwoSources = drawn special Operand Operand blank blank Code
drawing_of OneSource = drawn special Operand blank blank blank Code
drawing_of OneTarget = drawn special blank blank Operand blank Code
drawing_of SourceTarget = drawn special Operand blank Operand blank Code
drawing_of SystemCode = drawn special Part Part Part Part Code
drawing_of Barrier = drawn special blank blank blank Part Code
drawing_of TrapCode = drawn special Operand Operand Part Part Code
drawing_of Condition = drawn regimm Operand Code Part Part Part
drawing_of JumpIndex = drawn Code Part Part Part Part Part
drawing_of Constant = drawn Code Operand Operand Part Part Part
drawing_of BranchZero = drawn Code Operand blank Part Part Part
drawing_of UpperConstant = drawn Code blank Operand Part Part Part
drawing_of ControlMove = drawn cop0 Code Operand Control blank blank
drawing_of ExceptionReturn = drawn cop0 Code blank blank blank (Fixed 0b010000)
