-- What a word reads as: the instruction whose drawing it fits, or none (document 01, Machine: "A field drawn as zero must be zero").
use Rattle.std.specs.Prelude.{ℕ, ◌+◌, ◌*◌, ◌^◌, Bool, true, cond, ◌&&◌, List, [], ◌∷◌, eqb, Option, Some, None}
use Rattle.std.specs.Bool.{then_some}
use Rattle.word.specs.declared.field.Fields.{Fields}
use Rattle.word.specs.Field.{cut_of}
use Rattle.isa.specs.declared.kind.Kind.{Kind}
use Rattle.isa.specs.declared.kind.Instruction.{Instruction}
use Rattle.isa.specs.declared.format.Role.{Role}
use Rattle.isa.specs.declared.format.Role.TheVariants.{Operand, Control, Fixed, Code, Part}
use Rattle.isa.specs.Table.{row_of, instructions}
use Rattle.isa.specs.Drawing.{Drawing, drawing_of}
use Rattle.isa.specs.Control.{is_control}

-- ---- one field: x is what stands in it

-- n is the instruction's code
abbrev pub accepts : Role → ℕ → ℕ → Bool
accepts Operand n x = true
accepts Control n x = is_control x
accepts (Fixed m) n x = eqb x m
accepts Code n x = eqb x n
accepts Part n x = true

abbrev pub operand : Role → ℕ → ℕ
operand Operand x = x
operand Control x = x
operand (Fixed m) x = 0
operand Code x = 0
operand Part x = 0

-- v is the value so far, to which a field of b bits is appended
abbrev pub append : Role → ℕ → ℕ → ℕ → ℕ
append Operand b v x = v
append Control b v x = v
append (Fixed m) b v x = v
append Code b v x = v
append Part b v x = v * 2 ^ b + x

-- ---- all fields

unfoldable pub fits : Drawing → ℕ → Fields ℕ → Bool
fits d n f =
    accepts d.op n f.op && (accepts d.rs n f.rs && (accepts d.rt n f.rt && (accepts d.rd n f.rd && (accepts d.shift n f.shift && accepts d.funct n f.funct))))

abbrev pub value_of : Drawing → Fields ℕ → ℕ
value_of d f =
    append d.funct 6 (append d.shift 5 (append d.rd 5 (append d.rt 5 (append d.rs 5 0 f.rs) f.rt) f.rd) f.shift) f.funct

abbrev pub made : Kind → ℕ → ℕ → ℕ → ℕ → ℕ → Instruction
made k s t d h v = record { kind = k; rs = s; rt = t; rd = d; shift = h; value = v }

unfoldable pub decode_of : Kind → Drawing → Fields ℕ → Instruction
decode_of k d f =
    made k (operand d.rs f.rs) (operand d.rt f.rt) (operand d.rd f.rd) (operand d.shift f.shift) (value_of d f)

-- ---- the reading

abbrev pub drawing_for : Kind → Drawing
drawing_for k = drawing_of (row_of k).format

abbrev pub fits_kind : Kind → Fields ℕ → Bool
fits_kind k f = fits (drawing_for k) (row_of k).code f

-- a word read as an instruction of one kind
unfoldable pub read_as : Kind → Fields ℕ → Option Instruction
read_as k f = then_some (fits_kind k f) (decode_of k (drawing_for k) f)

-- the first instruction of the list whose drawing the fields fit; no fields fit two of them (`unique` of proofs/RoundTrip)
abbrev pub read_from : List Kind → Fields ℕ → Option Instruction
read_from [] f = None
read_from (k ∷ ks) f = cond (fits_kind k f) (Some (decode_of k (drawing_for k) f)) (read_from ks f)

unfoldable pub read_fields : Fields ℕ → Option Instruction
read_fields f = read_from instructions f

unfoldable pub read_of : ℕ → Option Instruction
read_of w = read_fields (cut_of w)
