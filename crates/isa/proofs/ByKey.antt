-- Reading goes by the key: the fields lead to at most one kind, and a word reads as that kind or as none.
use mathlib.Core.Path.{◌≡◌, refl, ap, sym, ◌∙◌, subst}
use mathlib.Core.Bool.{Bool, true, false, cond, not, ◌&&◌}
use mathlib.Core.List.{List, [], ◌∷◌}
use Prim.Native.Nat.{ℕ, ◌+◌, ◌*◌}
use native.Mathlib.Omega.{arith}
use lib.Dec.{T, eqb, eqb→eq, T_not}
use borrow.Author.Tests.{eq-eqb, ne_eqb, eqb-true, eqb-false}
use Rattle.std.specs.Prelude.{Option, Some, None}
use Rattle.std.specs.Bool.{then_some}
use Rattle.word.specs.declared.field.Fields.{Fields}
use Rattle.isa.specs.declared.kind.Kind.{Kind}
use Rattle.isa.specs.declared.kind.Instruction.{Instruction}
use Rattle.isa.specs.declared.format.Format.{Format}
use Rattle.isa.specs.declared.format.Format.TheVariants.{ThreeRegisters, ShiftAmount, TwoSources, OneSource, OneTarget, SourceTarget, SystemCode, Barrier, TrapCode, Condition, JumpIndex, Constant, BranchZero, UpperConstant, ControlMove, ExceptionReturn}
use Rattle.isa.specs.Table.{row_of, instructions}
use Rattle.isa.specs.Drawing.{drawing_of}
use Rattle.isa.specs.Reading.{decode_of, drawing_for, fits_kind, read_as, read_from, read_fields}
use Rattle.isa.proofs.Codes.{table_of, key_of, key_in, Found, found, nothing, lookup, found_self, every_kind, both, fresh, distinct, distinct_keys}
use Rattle.isa.proofs.Roles.{is_true}
use Rattle.isa.proofs.Drawings.{Matched, matched}

-- ---- where the fields lead, by the opcode

module _ (f : Fields ℕ) where
  pub in_special : f.op ≡ 0 → key_in f ≡ 64 + f.funct
  unfolding key_in
  in_special e = rw (e)

  pub in_regimm : f.op ≡ 1 → key_in f ≡ 128 + f.rt
  unfolding key_in
  in_regimm e = rw (e)

  pub in_cop0 : f.op ≡ 16 → key_in f ≡ 192 + f.rs
  unfolding key_in
  in_cop0 e = rw (e)

  pub in_opcode : (f.op ≡ 0 → ⊥) → (f.op ≡ 1 → ⊥) → (f.op ≡ 16 → ⊥) → key_in f ≡ f.op
  unfolding key_in
  in_opcode p q r = rw (ne_eqb f.op 0 p, ne_eqb f.op 1 q, ne_eqb f.op 16 r)

-- ---- fields that fit a kind lead to it

-- an opcode that leads to no other table
abbrev direct : ℕ → Bool
direct n = not (eqb n 0) && (not (eqb n 1) && not (eqb n 16))

at_opcode : (f : Fields ℕ) (n : ℕ) → T (direct n) → f.op ≡ n → key_in f ≡ n
at_opcode f n t e = in_opcode f (away 0 a.0) (away 1 b.0) (away 16 b.1) ∙ e
  where
    a : T (not (eqb n 0)) × T (not (eqb n 1) && not (eqb n 16))
    a = both (not (eqb n 0)) _ t

    b : T (not (eqb n 1)) × T (not (eqb n 16))
    b = both (not (eqb n 1)) _ a.1

    away : (m : ℕ) → T (not (eqb n m)) → f.op ≡ m → ⊥
    away m h q = T_not (eqb n m) h (subst T (sym (eq-eqb n m (sym e ∙ q))) tt)

-- a code in the table by opcode is such an opcode
abbrev free : Format → ℕ → Bool
free t n = cond (eqb (table_of t) 0) (direct n) true

module _ (n : ℕ) (f : Fields ℕ) where
  special_key : T (eqb f.op 0) → T (eqb f.funct n) → key_in f ≡ 64 + n
  special_key p q = in_special f (eqb→eq f.op 0 p) ∙ ap (λ (x : ℕ). 64 + x) (eqb→eq f.funct n q)

  opcode_key : T (direct n) → T (eqb f.op n) → key_in f ≡ 0 + n
  opcode_key t p = at_opcode f n t (eqb→eq f.op n p) ∙ omega arith

  cop0_key : T (eqb f.op 16) → T (eqb f.rs n) → key_in f ≡ 192 + n
  cop0_key p q = in_cop0 f (eqb→eq f.op 16 p) ∙ ap (λ (x : ℕ). 192 + x) (eqb→eq f.rs n q)

  format_key : (t : Format) → T (free t n) → Matched (drawing_of t) n f → key_in f ≡ table_of t * 64 + n
  format_key ThreeRegisters h m = special_key m.op m.funct
  format_key ShiftAmount h m = special_key m.op m.funct
  format_key TwoSources h m = special_key m.op m.funct
  format_key OneSource h m = special_key m.op m.funct
  format_key OneTarget h m = special_key m.op m.funct
  format_key SourceTarget h m = special_key m.op m.funct
  format_key SystemCode h m = special_key m.op m.funct
  format_key Barrier h m = special_key m.op m.funct
  format_key TrapCode h m = special_key m.op m.funct
  format_key Condition h m = in_regimm f (eqb→eq f.op 1 m.op) ∙ ap (λ (x : ℕ). 128 + x) (eqb→eq f.rt n m.rt)
  format_key JumpIndex h m = opcode_key h m.op
  format_key Constant h m = opcode_key h m.op
  format_key BranchZero h m = opcode_key h m.op
  format_key UpperConstant h m = opcode_key h m.op
  format_key ControlMove h m = cop0_key m.op m.rs
  format_key ExceptionReturn h m = cop0_key m.op m.rs

pub fits_key : (k : Kind) (f : Fields ℕ) → T (fits_kind k f) → key_in f ≡ key_of k
fits_key k f t =
    format_key (row_of k).code f (row_of k).format (every_kind (λ j. free (row_of j).format (row_of j).code) tt k)
    (matched (drawing_for k) (row_of k).code f t)

-- ---- a reading by the key

pub not_so : (b : Bool) → (T b → ⊥) → b ≡ false
not_so true h = absurd (h tt)
not_so false h = refl

-- no kind of the list fits fields that lead elsewhere
absent : (ks : List Kind) (f : Fields ℕ) → T (fresh (key_in f) ks) → read_from ks f ≡ None
absent [] f t = refl
absent (k ∷ ks) f t =
    let h = both (not (eqb (key_of k) (key_in f))) (fresh (key_in f) ks) t in
    let away : T (fits_kind k f) → ⊥ =
    λ s. T_not (eqb (key_of k) (key_in f)) h.0 (subst T (sym (eq-eqb (key_of k) (key_in f) (sym (fits_key k f s)))) tt) in
    rw (not_so (fits_kind k f) away) (absent ks f h.1)

abbrev read_found : Found → Fields ℕ → Option Instruction
read_found (found k) f = read_as k f
read_found nothing f = None

alone : (b : Bool) (i : Instruction) → cond b (Some i) None ≡ then_some b i
alone true i = refl
alone false i = refl

by_lookup : (ks : List Kind) (f : Fields ℕ) → T (distinct ks) → read_from ks f ≡ read_found (lookup ks (key_in f)) f
unfolding read_as
by_lookup [] f t = refl
by_lookup (k ∷ ks) f t =
    at_head (eqb (key_of k) (key_in f)) refl (by_lookup ks f (both (fresh (key_of k) ks) (distinct ks) t).1)
  where
    at_head : (b : Bool) → eqb (key_of k) (key_in f) ≡ b → read_from ks f ≡ read_found (lookup ks (key_in f)) f
        → read_from (k ∷ ks) f ≡ read_found (cond b (found k) (lookup ks (key_in f))) f
    at_head true e later =
        let lead : key_of k ≡ key_in f = eqb-true (key_of k) (key_in f) e in
        let none : read_from ks f ≡ None =
        absent ks f (subst (λ (x : ℕ). T (fresh x ks)) lead (both (fresh (key_of k) ks) (distinct ks) t).0) in
        rw (none) (alone (fits_kind k f) (decode_of k (drawing_for k) f))
    at_head false e later =
        let away : T (fits_kind k f) → ⊥ = λ s. eqb-false (key_of k) (key_in f) e (sym (fits_key k f s)) in
        rw (not_so (fits_kind k f) away) later

module _ (f : Fields ℕ) where
  -- fields that lead to a kind are read as that kind
  pub read_found_law : (k : Kind) → key_in f ≡ key_of k → read_fields f ≡ read_as k f
  unfolding read_fields
  read_found_law k e = by_lookup instructions f distinct_keys ∙ rw (e, found_self k)

  -- fields that lead to none are no instruction
  pub read_nothing : lookup instructions (key_in f) ≡ nothing → read_fields f ≡ None
  unfolding read_fields
  read_nothing e = by_lookup instructions f distinct_keys ∙ rw (e)

  -- fields that fit a kind are read as that kind
  pub read_fits : (k : Kind) → T (fits_kind k f) → read_fields f ≡ Some (decode_of k (drawing_for k) f)
  unfolding read_as
  read_fits k t = read_found_law k (fits_key k f t) ∙ rw (is_true (fits_kind k f) t)

-- ---- what is read comes from a kind that fits

pub record Came (f : Fields ℕ) (i : Instruction) : Type 0 where
  pub kind : Kind
  pub fit : T (fits_kind kind f)
  pub same : decode_of kind (drawing_for kind) f ≡ i

came_from : (ks : List Kind) (f : Fields ℕ) (i : Instruction) → read_from ks f ≡ Some i → Came f i
came_from [] f i e = absurd (let z : ◌≡◌ {A = ℕ} 0 1 = cc in omega arith)
came_from (k ∷ ks) f i e = at_head (fits_kind k f) refl e (came_from ks f i)
  where
    at_head : (b : Bool) → fits_kind k f ≡ b → cond b (Some (decode_of k (drawing_for k) f)) (read_from ks f) ≡ Some i
        → (read_from ks f ≡ Some i → Came f i) → Came f i
    at_head true h p later = record { kind = k; fit = subst T (sym h) tt; same = cc }
    at_head false h p later = later p

pub came : (f : Fields ℕ) (i : Instruction) → read_fields f ≡ Some i → Came f i
unfolding read_fields
came f i e = came_from instructions f i e
