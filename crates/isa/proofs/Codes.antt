-- A kind is found by its code: the table that its opcode leads to, and its place there. No two kinds have the same one.
use mathlib.Core.Path.{◌≡◌, refl, subst}
use mathlib.Core.Bool.{Bool, true, false, cond, not, ◌&&◌}
use mathlib.Core.List.{List, [], ◌∷◌, map}
use Prim.Native.Nat.{ℕ, zero, suc, ◌+◌, ◌*◌, ◌<◌}
use native.Mathlib.Omega.{arith}
use lib.Dec.{T, eqb, ltb, ltb→lt}
use borrow.Author.Tests.{eqb-true}
use Rattle.word.specs.declared.field.Fields.{Fields}
use Rattle.isa.specs.declared.kind.Alu.TheVariants.{Add, Addu, Sub, Subu, Slt, Sltu, And, Or, Xor, Nor}
use Rattle.isa.specs.declared.kind.Immediate.TheVariants.{Addi, Addiu, Slti, Sltiu, Andi, Ori, Xori, Lui}
use Rattle.isa.specs.declared.kind.Shift.TheVariants.{Sll, Srl, Sra, Sllv, Srlv, Srav}
use Rattle.isa.specs.declared.kind.Multiply.TheVariants.{Mult, Multu, Div, Divu, Mfhi, Mthi, Mflo, Mtlo}
use Rattle.isa.specs.declared.kind.Access.TheVariants.{Lb, Lbu, Sb, Lh, Lhu, Sh, Lw, Sw, Ll, Sc}
use Rattle.isa.specs.declared.kind.Branch.TheVariants.{J, Jal, Jr, Jalr, Beq, Bne, Blez, Bgtz, Bltz, Bgez, Bltzal, Bgezal}
use Rattle.isa.specs.declared.kind.Trap.TheVariants.{Tge, Tgeu, Tlt, Tltu, Teq, Tne, Tgei, Tgeiu, Tlti, Tltiu, Teqi, Tnei}
use Rattle.isa.specs.declared.kind.System.TheVariants.{Syscall, Break, Rfe, Mfc0, Mtc0, Sync}
use Rattle.isa.specs.declared.kind.Kind.{Kind}
use Rattle.isa.specs.declared.kind.Kind.TheVariants as K
use Rattle.isa.specs.declared.format.Format.{Format}
use Rattle.isa.specs.declared.format.Format.TheVariants.{ThreeRegisters, ShiftAmount, TwoSources, OneSource, OneTarget, SourceTarget, SystemCode, Barrier, TrapCode, Condition, JumpIndex, Constant, BranchZero, UpperConstant, ControlMove, ExceptionReturn}
use Rattle.isa.specs.Table.{row_of, instructions}

-- the tables: 0 by opcode, 1 by function (SPECIAL), 2 by rt (REGIMM), 3 by rs (COP0)
abbrev pub table_of : Format → ℕ
table_of ThreeRegisters = 1
table_of ShiftAmount = 1
table_of TwoSources = 1
table_of OneSource = 1
table_of OneTarget = 1
table_of SourceTarget = 1
table_of SystemCode = 1
table_of Barrier = 1
table_of TrapCode = 1
table_of Condition = 2
table_of JumpIndex = 0
table_of Constant = 0
table_of BranchZero = 0
table_of UpperConstant = 0
table_of ControlMove = 3
table_of ExceptionReturn = 3

-- table and code as one number
abbrev pub key_of : Kind → ℕ
key_of k = table_of (row_of k).format * 64 + (row_of k).code

-- where the fields of a word lead
unfoldable pub key_in : Fields ℕ → ℕ
key_in f = cond (eqb f.op 0) (64 + f.funct) (cond (eqb f.op 1) (128 + f.rt) (cond (eqb f.op 16) (192 + f.rs) f.op))

pub data Found : Type 0 where
  found : Kind → Found
  nothing : Found

abbrev pub lookup : List Kind → ℕ → Found
lookup [] x = nothing
lookup (k ∷ ks) x = cond (eqb (key_of k) x) (found k) (lookup ks x)

-- a kind that is found has the key by which it was looked up
pub lookup_key : (ks : List Kind) (x : ℕ) (k : Kind) → lookup ks x ≡ found k → key_of k ≡ x
lookup_key [] x k e = absurd (let z : ◌≡◌ {A = ℕ} 0 1 = cc in omega arith)
lookup_key (j ∷ ks) x k e = at_head (eqb (key_of j) x) refl e (lookup_key ks x k)
  where
    at_head : (b : Bool) → eqb (key_of j) x ≡ b → cond b (found j) (lookup ks x) ≡ found k → (lookup ks x ≡ found k → key_of k ≡ x) → key_of k ≡ x
    at_head true h p later = let q : j ≡ k = cc in subst (λ (i : Kind). key_of i ≡ x) q (eqb-true (key_of j) x h)
    at_head false h p later = later p

-- each kind is where its key leads: the one enumeration of the 72
pub found_self : (k : Kind) → lookup instructions (key_of k) ≡ found k
found_self (K.Alu Add) = refl
found_self (K.Alu Addu) = refl
found_self (K.Alu Sub) = refl
found_self (K.Alu Subu) = refl
found_self (K.Alu Slt) = refl
found_self (K.Alu Sltu) = refl
found_self (K.Alu And) = refl
found_self (K.Alu Or) = refl
found_self (K.Alu Xor) = refl
found_self (K.Alu Nor) = refl
found_self (K.Immediate Addi) = refl
found_self (K.Immediate Addiu) = refl
found_self (K.Immediate Slti) = refl
found_self (K.Immediate Sltiu) = refl
found_self (K.Immediate Andi) = refl
found_self (K.Immediate Ori) = refl
found_self (K.Immediate Xori) = refl
found_self (K.Immediate Lui) = refl
found_self (K.Shift Sll) = refl
found_self (K.Shift Srl) = refl
found_self (K.Shift Sra) = refl
found_self (K.Shift Sllv) = refl
found_self (K.Shift Srlv) = refl
found_self (K.Shift Srav) = refl
found_self (K.Multiply Mult) = refl
found_self (K.Multiply Multu) = refl
found_self (K.Multiply Div) = refl
found_self (K.Multiply Divu) = refl
found_self (K.Multiply Mfhi) = refl
found_self (K.Multiply Mthi) = refl
found_self (K.Multiply Mflo) = refl
found_self (K.Multiply Mtlo) = refl
found_self (K.Access Lb) = refl
found_self (K.Access Lbu) = refl
found_self (K.Access Sb) = refl
found_self (K.Access Lh) = refl
found_self (K.Access Lhu) = refl
found_self (K.Access Sh) = refl
found_self (K.Access Lw) = refl
found_self (K.Access Sw) = refl
found_self (K.Access Ll) = refl
found_self (K.Access Sc) = refl
found_self (K.Branch J) = refl
found_self (K.Branch Jal) = refl
found_self (K.Branch Jr) = refl
found_self (K.Branch Jalr) = refl
found_self (K.Branch Beq) = refl
found_self (K.Branch Bne) = refl
found_self (K.Branch Blez) = refl
found_self (K.Branch Bgtz) = refl
found_self (K.Branch Bltz) = refl
found_self (K.Branch Bgez) = refl
found_self (K.Branch Bltzal) = refl
found_self (K.Branch Bgezal) = refl
found_self (K.Trap Tge) = refl
found_self (K.Trap Tgeu) = refl
found_self (K.Trap Tlt) = refl
found_self (K.Trap Tltu) = refl
found_self (K.Trap Teq) = refl
found_self (K.Trap Tne) = refl
found_self (K.Trap Tgei) = refl
found_self (K.Trap Tgeiu) = refl
found_self (K.Trap Tlti) = refl
found_self (K.Trap Tltiu) = refl
found_self (K.Trap Teqi) = refl
found_self (K.Trap Tnei) = refl
found_self (K.System Syscall) = refl
found_self (K.System Break) = refl
found_self (K.System Rfe) = refl
found_self (K.System Mfc0) = refl
found_self (K.System Mtc0) = refl
found_self (K.System Sync) = refl

abbrev pub every : (Kind → Bool) → List Kind → Bool
every t [] = true
every t (k ∷ ks) = t k && every t ks

pub both : (a b : Bool) → T (a && b) → T a × T b
both true true t = (tt, tt)
both true false t = absurd t
both false b t = absurd t

from_list : (t : Kind → Bool) (ks : List Kind) → T (every t ks) → (x : ℕ) (k : Kind) → lookup ks x ≡ found k → T (t k)
from_list t [] h x k e = absurd (let z : ◌≡◌ {A = ℕ} 0 1 = cc in omega arith)
from_list t (j ∷ ks) h x k e = at_head (eqb (key_of j) x) e (from_list t ks (both (t j) (every t ks) h).1 x k)
  where
    at_head : (b : Bool) → cond b (found j) (lookup ks x) ≡ found k → (lookup ks x ≡ found k → T (t k)) → T (t k)
    at_head true p later = let q : j ≡ k = cc in subst (λ (n : Kind). T (t n)) q (both (t j) (every t ks) h).0
    at_head false p later = later p

-- a test that holds along the list holds of each kind
pub every_kind : (t : Kind → Bool) → T (every t instructions) → (k : Kind) → T (t k)
every_kind t h k = from_list t instructions h (key_of k) k (found_self k)

-- no kind of the list has key x
abbrev pub fresh : ℕ → List Kind → Bool
fresh x [] = true
fresh x (k ∷ ks) = not (eqb (key_of k) x) && fresh x ks

abbrev pub distinct : List Kind → Bool
distinct [] = true
distinct (k ∷ ks) = fresh (key_of k) ks && distinct ks

pub distinct_keys : T (distinct instructions)
distinct_keys = tt

-- the numbers are the places in the list, from 1 to 72
abbrev counted : ℕ → ℕ → List ℕ
counted zero n = []
counted (suc k) n = n ∷ counted k (suc n)

pub numbers_in_order : map (λ (k : Kind). (row_of k).number) instructions ≡ counted 72 1
numbers_in_order = refl

pub numbers : (k : Kind) → (0 < (row_of k).number) × ((row_of k).number < 73)
numbers k =
    let h = both (ltb 0 (row_of k).number) (ltb (row_of k).number 73) (every_kind (λ j. ltb 0 (row_of j).number && ltb (row_of j).number 73) tt k) in
    (ltb→lt 0 (row_of k).number h.0, ltb→lt (row_of k).number 73 h.1)
