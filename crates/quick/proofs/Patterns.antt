-- What is known of a word's fields, and when that settles that they fit a drawing.
use Prim.Native.Nat.{ℕ}
use mathlib.Core.Path.{◌≡◌, sym, subst, ◌∙◌}
use mathlib.Core.Bool.{Bool, true, false, ◌&&◌}
use lib.Dec.{T, eqb, eqb→eq}
use borrow.Author.Tests.{eq-eqb}
use Rattle.word.specs.declared.field.Fields.{Fields}
use Rattle.isa.specs.declared.format.Role.{Role}
use Rattle.isa.specs.declared.format.Role.TheVariants.{Operand, Control, Fixed, Code, Part}
use Rattle.isa.specs.Drawing.{Drawing}
use Rattle.isa.specs.Reading.{accepts, fits}
use Rattle.isa.proofs.Codes.{both}
use Rattle.isa.proofs.Drawings.{Matched, matching}

-- of a field: nothing, that it is zero, or that it is the instruction's code
pub data Known : Type 0 where
  any : Known
  blank : Known
  code : Known

-- n is the code, x what stands in the field
abbrev pub Knows : Known → ℕ → ℕ → Type 0
Knows any n x = Unit {0}
Knows blank n x = x ≡ 0
Knows code n x = x ≡ n

abbrev settles : Known → Role → Bool
settles any Operand = true
settles any Control = false
settles any (Fixed m) = false
settles any Code = false
settles any Part = true
settles blank Operand = true
settles blank Control = false
settles blank (Fixed m) = eqb m 0
settles blank Code = false
settles blank Part = true
settles code Operand = false
settles code Control = false
settles code (Fixed m) = false
settles code Code = true
settles code Part = false

same : {x n : ℕ} → x ≡ n → T (eqb x n)
same {x} {n} e = subst T (sym (eq-eqb x n e)) tt

settled : (κ : Known) (r : Role) (n x : ℕ) → T (settles κ r) → Knows κ n x → T (accepts r n x)
settled any Operand n x t h = tt
settled any Control n x t h = absurd t
settled any (Fixed m) n x t h = absurd t
settled any Code n x t h = absurd t
settled any Part n x t h = tt
settled blank Operand n x t h = tt
settled blank Control n x t h = absurd t
settled blank (Fixed m) n x t h = same (h ∙ sym (eqb→eq m 0 t))
settled blank Code n x t h = absurd t
settled blank Part n x t h = tt
settled code Operand n x t h = absurd t
settled code Control n x t h = absurd t
settled code (Fixed m) n x t h = absurd t
settled code Code n x t h = same h
settled code Part n x t h = absurd t

-- ---- all six fields

pub record Pattern : Type 0 where
  pub op : Known
  pub rs : Known
  pub rt : Known
  pub rd : Known
  pub shift : Known
  pub funct : Known

pub record Holds (p : Pattern) (n : ℕ) (f : Fields ℕ) : Type 0 where
  pub op : Knows p.op n f.op
  pub rs : Knows p.rs n f.rs
  pub rt : Knows p.rt n f.rt
  pub rd : Knows p.rd n f.rd
  pub shift : Knows p.shift n f.shift
  pub funct : Knows p.funct n f.funct

abbrev pub settles_all : Pattern → Drawing → Bool
settles_all p d =
    settles p.op d.op && (settles p.rs d.rs && (settles p.rt d.rt && (settles p.rd d.rd && (settles p.shift d.shift && settles p.funct d.funct))))

pub pattern_fits : (p : Pattern) (d : Drawing) (n : ℕ) (f : Fields ℕ) → T (settles_all p d) → Holds p n f → T (fits d n f)
pattern_fits p d n f t h =
    let a = both (settles p.op d.op) _ t in
    let b = both (settles p.rs d.rs) _ a.1 in
    let c = both (settles p.rt d.rt) _ b.1 in
    let e = both (settles p.rd d.rd) _ c.1 in
    let g = both (settles p.shift d.shift) _ e.1 in
    let m : Matched d n f =
    record {
      op = settled p.op d.op n f.op a.0 h.op;
      rs = settled p.rs d.rs n f.rs b.0 h.rs;
      rt = settled p.rt d.rt n f.rt c.0 h.rt;
      rd = settled p.rd d.rd n f.rd e.0 h.rd;
      shift = settled p.shift d.shift n f.shift g.0 h.shift;
      funct = settled p.funct d.funct n f.funct g.1 h.funct;
    } in
    subst T (sym (matching d n f m)) tt

-- ---- the patterns that the code tells words by

-- opcode SPECIAL and a function; which of the other fields are known to be zero
abbrev pub special : Known → Known → Known → Known → Pattern
special s t d h = record { op = blank; rs = s; rt = t; rd = d; shift = h; funct = code }

-- an opcode, and whether rs is known to be zero
abbrev pub opcode : Known → Pattern
opcode s = record { op = code; rs = s; rt = any; rd = any; shift = any; funct = any }
