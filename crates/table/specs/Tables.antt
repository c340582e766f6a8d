-- The kind looked up (document 02, Ticket 3): four tables over the six-bit and five-bit fields, eight places to a row, as the public manuals print
-- them, with the 72 alone entered. RFE, which these print under function 16 of COP0, stands at rs 16: no other word with that rs is an instruction.
use Rattle.std.specs.Prelude.{ℕ, ◌≡◌, List, [], ◌∷◌, get_or, Option, Some, None}
use Rattle.word.specs.declared.field.Fields.{Fields}
use Rattle.isa.specs.declared.kind.Alu.{Alu}
use Rattle.isa.specs.declared.kind.Alu.TheVariants.{Add, Addu, Sub, Subu, Slt, Sltu, And, Or, Xor, Nor}
use Rattle.isa.specs.declared.kind.Immediate.{Immediate}
use Rattle.isa.specs.declared.kind.Immediate.TheVariants.{Addi, Addiu, Slti, Sltiu, Andi, Ori, Xori, Lui}
use Rattle.isa.specs.declared.kind.Shift.{Shift}
use Rattle.isa.specs.declared.kind.Shift.TheVariants.{Sll, Srl, Sra, Sllv, Srlv, Srav}
use Rattle.isa.specs.declared.kind.Multiply.{Multiply}
use Rattle.isa.specs.declared.kind.Multiply.TheVariants.{Mult, Multu, Div, Divu, Mfhi, Mthi, Mflo, Mtlo}
use Rattle.isa.specs.declared.kind.Access.{Access}
use Rattle.isa.specs.declared.kind.Access.TheVariants.{Lb, Lbu, Sb, Lh, Lhu, Sh, Lw, Sw, Ll, Sc}
use Rattle.isa.specs.declared.kind.Branch.{Branch}
use Rattle.isa.specs.declared.kind.Branch.TheVariants.{J, Jal, Jr, Jalr, Beq, Bne, Blez, Bgtz, Bltz, Bgez, Bltzal, Bgezal}
use Rattle.isa.specs.declared.kind.Trap.{Trap}
use Rattle.isa.specs.declared.kind.Trap.TheVariants.{Tge, Tgeu, Tlt, Tltu, Teq, Tne, Tgei, Tgeiu, Tlti, Tltiu, Teqi, Tnei}
use Rattle.isa.specs.declared.kind.System.{System}
use Rattle.isa.specs.declared.kind.System.TheVariants.{Syscall, Break, Rfe, Mfc0, Mtc0, Sync}
use Rattle.isa.specs.declared.kind.Kind.{Kind}
use Rattle.isa.specs.declared.kind.Kind.TheVariants as K
use Rattle.table.specs.declared.tables.Entry.{Entry}
use Rattle.table.specs.declared.tables.Entry.TheVariants.{Empty, Special, Regimm, Cop0, Holds}

-- by the opcode; for opcode SPECIAL by the function, for REGIMM by rt, for COP0 by rs
pub data Table : Type 0 where
  opcode : Table
  function : Table
  condition : Table
  control : Table

abbrev pub alu : Alu → Entry
alu k = Holds (K.Alu k)

abbrev pub immediate : Immediate → Entry
immediate k = Holds (K.Immediate k)

abbrev pub shift : Shift → Entry
shift k = Holds (K.Shift k)

abbrev pub multiply : Multiply → Entry
multiply k = Holds (K.Multiply k)

abbrev pub access : Access → Entry
access k = Holds (K.Access k)

abbrev pub branch : Branch → Entry
branch k = Holds (K.Branch k)

abbrev pub trap : Trap → Entry
trap k = Holds (K.Trap k)

abbrev pub system : System → Entry
system k = Holds (K.System k)

-- bits 31 to 26
unfoldable pub opcodes : List Entry
opcodes =
    Special ∷ Regimm ∷ branch J ∷ branch Jal ∷ branch Beq ∷ branch Bne ∷ branch Blez ∷ branch Bgtz ∷
    immediate Addi ∷ immediate Addiu ∷ immediate Slti ∷ immediate Sltiu ∷ immediate Andi ∷ immediate Ori ∷ immediate Xori ∷ immediate Lui ∷
    Cop0 ∷ Empty ∷ Empty ∷ Empty ∷ Empty ∷ Empty ∷ Empty ∷ Empty ∷
    Empty ∷ Empty ∷ Empty ∷ Empty ∷ Empty ∷ Empty ∷ Empty ∷ Empty ∷
    access Lb ∷ access Lh ∷ Empty ∷ access Lw ∷ access Lbu ∷ access Lhu ∷ Empty ∷ Empty ∷
    access Sb ∷ access Sh ∷ Empty ∷ access Sw ∷ Empty ∷ Empty ∷ Empty ∷ Empty ∷
    access Ll ∷ Empty ∷ Empty ∷ Empty ∷ Empty ∷ Empty ∷ Empty ∷ Empty ∷
    access Sc ∷ Empty ∷ Empty ∷ Empty ∷ Empty ∷ Empty ∷ Empty ∷ Empty ∷ []

-- opcode SPECIAL: bits 5 to 0
unfoldable pub functions : List Entry
functions =
    shift Sll ∷ Empty ∷ shift Srl ∷ shift Sra ∷ shift Sllv ∷ Empty ∷ shift Srlv ∷ shift Srav ∷
    branch Jr ∷ branch Jalr ∷ Empty ∷ Empty ∷ system Syscall ∷ system Break ∷ Empty ∷ system Sync ∷
    multiply Mfhi ∷ multiply Mthi ∷ multiply Mflo ∷ multiply Mtlo ∷ Empty ∷ Empty ∷ Empty ∷ Empty ∷
    multiply Mult ∷ multiply Multu ∷ multiply Div ∷ multiply Divu ∷ Empty ∷ Empty ∷ Empty ∷ Empty ∷
    alu Add ∷ alu Addu ∷ alu Sub ∷ alu Subu ∷ alu And ∷ alu Or ∷ alu Xor ∷ alu Nor ∷
    Empty ∷ Empty ∷ alu Slt ∷ alu Sltu ∷ Empty ∷ Empty ∷ Empty ∷ Empty ∷
    trap Tge ∷ trap Tgeu ∷ trap Tlt ∷ trap Tltu ∷ trap Teq ∷ Empty ∷ trap Tne ∷ Empty ∷
    Empty ∷ Empty ∷ Empty ∷ Empty ∷ Empty ∷ Empty ∷ Empty ∷ Empty ∷ []

-- opcode REGIMM: bits 20 to 16
unfoldable pub conditions : List Entry
conditions =
    branch Bltz ∷ branch Bgez ∷ Empty ∷ Empty ∷ Empty ∷ Empty ∷ Empty ∷ Empty ∷
    trap Tgei ∷ trap Tgeiu ∷ trap Tlti ∷ trap Tltiu ∷ trap Teqi ∷ Empty ∷ trap Tnei ∷ Empty ∷
    branch Bltzal ∷ branch Bgezal ∷ Empty ∷ Empty ∷ Empty ∷ Empty ∷ Empty ∷ Empty ∷
    Empty ∷ Empty ∷ Empty ∷ Empty ∷ Empty ∷ Empty ∷ Empty ∷ Empty ∷ []

-- opcode COP0: bits 25 to 21
unfoldable pub controls : List Entry
controls =
    system Mfc0 ∷ Empty ∷ Empty ∷ Empty ∷ system Mtc0 ∷ Empty ∷ Empty ∷ Empty ∷
    Empty ∷ Empty ∷ Empty ∷ Empty ∷ Empty ∷ Empty ∷ Empty ∷ Empty ∷
    system Rfe ∷ Empty ∷ Empty ∷ Empty ∷ Empty ∷ Empty ∷ Empty ∷ Empty ∷
    Empty ∷ Empty ∷ Empty ∷ Empty ∷ Empty ∷ Empty ∷ Empty ∷ Empty ∷ []

abbrev pub entries : Table → List Entry
entries opcode = opcodes
entries function = functions
entries condition = conditions
entries control = controls

-- ---- where the fields of a word lead

pub record Place : Type 0 where
  pub table : Table
  pub index : ℕ

abbrev pub entry_at : Place → Entry
entry_at p = get_or (entries p.table) p.index Empty

-- the field that is a place in a table, and how many bits it has
abbrev pub field_for : Table → Fields ℕ → ℕ
field_for opcode f = f.op
field_for function f = f.funct
field_for condition f = f.rt
field_for control f = f.rs

abbrev pub bits_of : Table → ℕ
bits_of opcode = 6
bits_of function = 6
bits_of condition = 5
bits_of control = 5

abbrev pub place_in : Table → Fields ℕ → Place
place_in t f = record { table = t; index = field_for t f }

-- from the table by the opcode to the one that its entry names; where it names none, the place stays
abbrev pub followed : Entry → Fields ℕ → Place
followed Empty f = place_in opcode f
followed Special f = place_in function f
followed Regimm f = place_in condition f
followed Cop0 f = place_in control f
followed (Holds k) f = place_in opcode f

unfoldable pub place_of : Fields ℕ → Place
place_of f = followed (entry_at (place_in opcode f)) f

-- ---- the kind that an entry holds

abbrev pub kind_in : Entry → Option Kind
kind_in Empty = None
kind_in Special = None
kind_in Regimm = None
kind_in Cop0 = None
kind_in (Holds k) = Some k

-- the kind that stands where the fields lead: what the word is, if an instruction at all, since the other fields are not looked at
unfoldable pub entry_of : Fields ℕ → Option Kind
entry_of f = kind_in (entry_at (place_of f))

-- ---- "each of the 72 instructions has exactly one entry": there is one, and any two places that hold it, of all four tables, are the same place

pub record OneEntry (k : Kind) : Type 0 where
  pub place : Place
  pub there : entry_at place ≡ Holds k
  pub alone : (p q : Place) → entry_at p ≡ Holds k → entry_at q ≡ Holds k → p ≡ q

-- ---- a marker stands at the opcode that has its name: SPECIAL 000000, REGIMM 000001, COP0 010000

abbrev pub Marks : Entry → ℕ → Type 0
Marks Empty n = Unit
Marks Special n = n ≡ 0b000000
Marks Regimm n = n ≡ 0b000001
Marks Cop0 n = n ≡ 0b010000
Marks (Holds k) n = Unit

-- ---- where a look-up ends stands nothing or an instruction, and no marker

pub data Ends (e : Entry) : Type 0 where
  at_none : e ≡ Empty → Ends e
  at_kind : (k : Kind) → e ≡ Holds k → Ends e
