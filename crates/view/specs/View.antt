-- What the checker's rules look at in a word. The name is ours: document 01 names the instructions one by one.
use Rattle.std.specs.Prelude.{ℕ, Bool, true, false, not, ◌&&◌, ◌||◌, eqb, Option, Some, None, is_some}
use Rattle.isa.specs.declared.kind.System.{System}
use Rattle.isa.specs.declared.kind.System.TheVariants.{Syscall, Break, Rfe, Mfc0, Mtc0, Sync}
use Rattle.isa.specs.declared.kind.Kind.{Kind}
use Rattle.isa.specs.declared.kind.Kind.TheVariants as K
use Rattle.isa.specs.declared.kind.Instruction.{Instruction}
use Rattle.class.specs.declared.Class.{Class}
use Rattle.class.specs.declared.Flow.{Flow}
use Rattle.class.specs.declared.Flow.TheVariants.{Onward, Relative, Region, Register}
use Rattle.class.specs.Class.{class_of, width_in, register_written}
use Rattle.isa.specs.Reading.{read_of}
use Rattle.view.specs.declared.View.{View}

-- ---- MFC0, MTC0, RFE, and BREAK with code 15, all 20 bits of it (Refusal table, 9)

abbrev pub is_barred_system : System → ℕ → Bool
is_barred_system Syscall v = false
is_barred_system Break v = eqb v 15
is_barred_system Rfe v = true
is_barred_system Mfc0 v = true
is_barred_system Mtc0 v = true
is_barred_system Sync v = false

abbrev pub is_barred : Kind → ℕ → Bool
is_barred (K.Alu k) v = false
is_barred (K.Immediate k) v = false
is_barred (K.Shift k) v = false
is_barred (K.Multiply k) v = false
is_barred (K.Access k) v = false
is_barred (K.Branch k) v = false
is_barred (K.Trap k) v = false
is_barred (K.System k) v = is_barred_system k v

-- ---- flow of control

-- a branch, which counts from its slot
abbrev pub is_relative : Flow → Bool
is_relative Onward = false
is_relative Relative = true
is_relative Region = false
is_relative Register = false

-- J, JAL
abbrev pub is_region : Flow → Bool
is_region Onward = false
is_region Relative = false
is_region Region = true
is_region Register = false

-- JR, JALR
abbrev pub is_register : Flow → Bool
is_register Onward = false
is_register Relative = false
is_register Region = false
is_register Register = true

-- ---- the view

abbrev pub classed : Instruction → Class → View
classed i c =
    record {
      barred = is_barred i.kind i.value;
      flow = c.flow;
      link = c.link;
      width = width_in c.access;
      written = register_written i;
      rs = i.rs;
      rd = i.rd;
      value = i.value;
    }

unfoldable pub seen : Instruction → View
seen i = classed i (class_of i.kind)

-- none of what reads as no instruction
abbrev pub view_of : Option Instruction → Option View
view_of (Some i) = Some (seen i)
view_of None = None

unfoldable pub word_view : ℕ → Option View
word_view w = view_of (read_of w)

-- ---- what the rules ask of a view

-- there is a view, and it passes test t
abbrev pub passes : (View → Bool) → Option View → Bool
passes t (Some v) = t v
passes t None = false

-- a branch or jump
abbrev pub is_branch : View → Bool
is_branch v = is_relative v.flow || (is_region v.flow || is_register v.flow)

-- J, JAL, JR, JALR
abbrev pub is_jump : View → Bool
is_jump v = is_region v.flow || is_register v.flow

-- JR, JALR
abbrev pub by_register : View → Bool
by_register v = is_register v.flow

-- an access, JR or JALR
abbrev pub needs_guard : View → Bool
needs_guard v = is_some v.width || is_register v.flow

-- the registers that hold the bases of data and code
abbrev pub is_base : ℕ → Bool
is_base r = eqb r 26 || eqb r 27

-- plain, a name of ours: an instruction that breaks none of 8 to 15 and 22, wherever it stands
abbrev pub is_plain : View → Bool
is_plain v = not v.barred && (not (is_base v.written) && (not v.link && (not (is_some v.width) && not (is_branch v))))
