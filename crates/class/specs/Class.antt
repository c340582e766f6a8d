-- The one classification of instructions for machine and checker: accesses, flow of control, and the register written.
use Rattle.std.specs.Prelude.{ℕ, Bool, true, false, Option, Some, None}
use Rattle.isa.specs.declared.kind.Multiply.{Multiply}
use Rattle.isa.specs.declared.kind.Multiply.TheVariants.{Mult, Multu, Div, Divu, Mfhi, Mthi, Mflo, Mtlo}
use Rattle.isa.specs.declared.kind.Access.{Access}
use Rattle.isa.specs.declared.kind.Access.TheVariants.{Lb, Lbu, Sb, Lh, Lhu, Sh, Lw, Sw, Ll, Sc}
use Rattle.isa.specs.declared.kind.Branch.{Branch}
use Rattle.isa.specs.declared.kind.Branch.TheVariants.{J, Jal, Jr, Jalr, Beq, Bne, Blez, Bgtz, Bltz, Bgez, Bltzal, Bgezal}
use Rattle.isa.specs.declared.kind.System.{System}
use Rattle.isa.specs.declared.kind.System.TheVariants.{Syscall, Break, Rfe, Mfc0, Mtc0, Sync}
use Rattle.isa.specs.declared.kind.Kind.{Kind}
use Rattle.isa.specs.declared.kind.Kind.TheVariants as K
use Rattle.isa.specs.declared.kind.Instruction.{Instruction}
use Rattle.isa.specs.declared.width.Width.{Width}
use Rattle.isa.specs.declared.width.Width.TheVariants.{Byte, Half, Word}
use Rattle.class.specs.declared.Flow.{Flow}
use Rattle.class.specs.declared.Flow.TheVariants.{Onward, Relative, Region, Register}
use Rattle.class.specs.declared.Destination.{Destination}
use Rattle.class.specs.declared.Destination.TheVariants.{Nowhere, FieldRt, FieldRd, Return}
use Rattle.class.specs.declared.Transfer.{Transfer}
use Rattle.class.specs.declared.Transfer.TheVariants.{Load, Store}
use Rattle.class.specs.declared.Class.{Class}

-- ---- classes

abbrev pub classed : Option Transfer → Flow → Bool → Destination → Class
classed a f l d = record { access = a; flow = f; link = l; destination = d }

-- neither an access nor a branch
abbrev pub plain : Destination → Class
plain d = classed None Onward false d

-- an access
abbrev pub loads : Width → Class
loads w = classed (Some (Load w)) Onward false FieldRt

abbrev pub stores : Width → Destination → Class
stores w d = classed (Some (Store w)) Onward false d

-- a branch or jump, and one that leaves a link
abbrev pub branches : Flow → Class
branches f = classed None f false Nowhere

abbrev pub links : Flow → Destination → Class
links f d = classed None f true d

abbrev pub multiply_class : Multiply → Class
multiply_class Mult = plain Nowhere
multiply_class Multu = plain Nowhere
multiply_class Div = plain Nowhere
multiply_class Divu = plain Nowhere
multiply_class Mfhi = plain FieldRd
multiply_class Mthi = plain Nowhere
multiply_class Mflo = plain FieldRd
multiply_class Mtlo = plain Nowhere

abbrev pub access_class : Access → Class
access_class Lb = loads Byte
access_class Lbu = loads Byte
access_class Sb = stores Byte Nowhere
access_class Lh = loads Half
access_class Lhu = loads Half
access_class Sh = stores Half Nowhere
access_class Lw = loads Word
access_class Sw = stores Word Nowhere
access_class Ll = loads Word
access_class Sc = stores Word FieldRt

abbrev pub branch_class : Branch → Class
branch_class J = branches Region
branch_class Jal = links Region Return
branch_class Jr = branches Register
branch_class Jalr = links Register FieldRd
branch_class Beq = branches Relative
branch_class Bne = branches Relative
branch_class Blez = branches Relative
branch_class Bgtz = branches Relative
branch_class Bltz = branches Relative
branch_class Bgez = branches Relative
branch_class Bltzal = links Relative Return
branch_class Bgezal = links Relative Return

abbrev pub system_class : System → Class
system_class Syscall = plain Nowhere
system_class Break = plain Nowhere
system_class Rfe = plain Nowhere
system_class Mfc0 = plain FieldRt
system_class Mtc0 = plain Nowhere
system_class Sync = plain Nowhere

abbrev pub class_of : Kind → Class
class_of (K.Alu k) = plain FieldRd
class_of (K.Immediate k) = plain FieldRt
class_of (K.Shift k) = plain FieldRd
class_of (K.Multiply k) = multiply_class k
class_of (K.Access k) = access_class k
class_of (K.Branch k) = branch_class k
class_of (K.Trap k) = plain Nowhere
class_of (K.System k) = system_class k

-- how much is accessed, where anything is
abbrev pub width_in : Option Transfer → Option Width
width_in (Some (Load w)) = Some w
width_in (Some (Store w)) = Some w
width_in None = None

abbrev pub width_accessed : Kind → Option Width
width_accessed k = width_in (class_of k).access

-- the register that an instruction names as its destination; 0, which no write changes, where it names none
abbrev pub named : Destination → Instruction → ℕ
named Nowhere i = 0
named FieldRt i = i.rt
named FieldRd i = i.rd
named Return i = 31

unfoldable pub register_written : Instruction → ℕ
register_written i = named (class_of i.kind).destination i
