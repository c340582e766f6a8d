-- Words that the code tells to be plain are plain.
use Prim.Native.Nat.{ℕ, ◌<◌}
use mathlib.Core.Path.{◌≡◌, refl, ap, sym, ◌∙◌}
use mathlib.Core.Bool.{Bool, true, false, not, ◌&&◌, ◌||◌}
use mathlib.Core.Logic.{◌⊎◌, inl, inr, ⊎_elim}
use lib.Dec.{T, eqb}
use borrow.Author.Tests.{eqb-true, not-true}
use Rattle.std.specs.Prelude.{is_some}
use Rattle.word.specs.declared.field.Fields.{Fields}
use Rattle.word.specs.Field.{cut_of, Fit}
use Rattle.word.proofs.Choice as Choice
use Rattle.isa.specs.declared.kind.Immediate.TheVariants.{Lui}
use Rattle.isa.specs.declared.kind.System.TheVariants.{Syscall, Break, Rfe, Mfc0, Mtc0, Sync}
use Rattle.isa.specs.declared.kind.Kind.{Kind}
use Rattle.isa.specs.declared.kind.Kind.TheVariants as K
use Rattle.isa.specs.declared.kind.Instruction.{Instruction}
use Rattle.class.specs.declared.Destination.{Destination}
use Rattle.class.specs.declared.Destination.TheVariants.{Nowhere, FieldRt, FieldRd, Return}
use Rattle.isa.specs.declared.format.Role.{Role}
use Rattle.isa.specs.declared.format.Role.TheVariants.{Operand, Control, Fixed, Code, Part}
use Rattle.isa.specs.Table.{row_of}
use Rattle.class.specs.Class.{class_of, width_accessed, named, register_written}
use Rattle.isa.specs.Reading.{operand, decode_of, drawing_for, read_of}
use Rattle.isa.proofs.Codes.{both}
use Rattle.isa.proofs.Roles.{is_true}
use Rattle.isa.proofs.Drawings.{and_true}
use Rattle.isa.proofs.ByKey.{read_fits}
use Rattle.view.specs.View.{is_barred, is_relative, is_region, is_register, seen, word_view, is_base, is_plain}
use Rattle.table.specs.Tables as Tables
use Rattle.table.specs.Tables.{Table, function}
use Rattle.quick.specs.Set.{is_in}
use Rattle.quick.specs.Plain.{Plain, PlainWord}
use Rattle.quick.proofs.Patterns.{any, blank, Pattern, Holds, settles_all, pattern_fits, special, opcode}
use Rattle.quick.proofs.Sets.{leads, led}

-- ---- what must hold of the kind

-- a kind that is not barred with code 15 is barred with none
barred_never : (k : Kind) (v : ℕ) → is_barred k 15 ≡ false → is_barred k v ≡ false
barred_never (K.Alu k) v e = refl
barred_never (K.Immediate k) v e = refl
barred_never (K.Shift k) v e = refl
barred_never (K.Multiply k) v e = refl
barred_never (K.Access k) v e = refl
barred_never (K.Branch k) v e = refl
barred_never (K.Trap k) v e = refl
barred_never (K.System Syscall) v e = refl
barred_never (K.System Break) v e = cc
barred_never (K.System Rfe) v e = e
barred_never (K.System Mfc0) v e = e
barred_never (K.System Mtc0) v e = e
barred_never (K.System Sync) v e = refl

-- whether the register written is told by the field that the code looks at: rd, or else rt
abbrev told : Bool → Destination → Bool
told b Nowhere = true
told true FieldRt = false
told false FieldRt = true
told true FieldRd = true
told false FieldRd = false
told b Return = true

abbrev register_of : Bool → Instruction → ℕ
register_of true i = i.rd
register_of false i = i.rt

abbrev field_of : Bool → Fields ℕ → ℕ
field_of true f = f.rd
field_of false f = f.rt

written_spared : (b : Bool) (d : Destination) (i : Instruction) → T (told b d) → is_base (register_of b i) ≡ false → is_base (named d i) ≡ false
written_spared b Nowhere i t h = refl
written_spared true FieldRt i t h = absurd t
written_spared false FieldRt i t h = h
written_spared true FieldRd i t h = h
written_spared false FieldRd i t h = absurd t
written_spared b Return i t h = refl

operand_spared : (r : Role) (x : ℕ) → is_base x ≡ false → is_base (operand r x) ≡ false
operand_spared Operand x h = h
operand_spared Control x h = h
operand_spared (Fixed m) x h = refl
operand_spared Code x h = refl
operand_spared Part x h = refl

abbrev plain_kind : Bool → Kind → Bool
plain_kind b k =
    told b (class_of k).destination
    && (not (is_barred k 15)
    && (not (class_of k).link
    && (not (is_some (width_accessed k))
    && not (is_relative (class_of k).flow || (is_region (class_of k).flow || is_register (class_of k).flow)))))

module _ (b : Bool) (k : Kind) (f : Fields ℕ) where
  abbrev decoded : Instruction
  decoded = decode_of k (drawing_for k) f

  decoded_spared : is_base (field_of b f) ≡ false → is_base (register_of b decoded) ≡ false
  unfolding decode_of
  decoded_spared = go b
    where
      go : (b : Bool) → is_base (field_of b f) ≡ false → is_base (register_of b decoded) ≡ false
      go true h = operand_spared (drawing_for k).rd f.rd h
      go false h = operand_spared (drawing_for k).rt f.rt h

  plain_seen : T (plain_kind b k) → is_base (field_of b f) ≡ false → is_plain (seen decoded) ≡ true
  unfolding seen decode_of register_written
  plain_seen t h =
      let c = both (told b (class_of k).destination) _ t in
      let d = both (not (is_barred k 15)) _ c.1 in
      let e = both (not (class_of k).link) _ d.1 in
      let g = both (not (is_some (width_accessed k))) _ e.1 in
      and_true (ap not (barred_never k decoded.value (not-true (is_barred k 15) (is_true (not (is_barred k 15)) d.0))))
      (and_true (ap not (written_spared b (class_of k).destination decoded c.0 (decoded_spared h)))
      (and_true (is_true (not (class_of k).link) e.0)
      (and_true (is_true (not (is_some (width_accessed k))) g.0) (is_true _ g.1))))

  plain_fits : (p : Pattern) → T (plain_kind b k) → T (settles_all p (drawing_for k)) → Holds p (row_of k).code f → is_base (field_of b f) ≡ false → Plain f
  plain_fits p t s h e = rw (read_fits f k (pattern_fits p (drawing_for k) (row_of k).code f s h)) (plain_seen t e)

-- ---- sets of codes

-- a kind that is plain where the fields are as the pattern says
abbrev pub plain_by : Bool → Pattern → Kind → Bool
plain_by b p k = plain_kind b k && settles_all p (drawing_for k)

module _ (b : Bool) (p : Pattern) (m : Table) (set : ℕ) (h : T (leads set m (plain_by b p))) where
  pub plain_in : (f : Fields ℕ) (n : ℕ) → n < 64 → is_in set n ≡ true → Holds p n f → is_base (field_of b f) ≡ false → Plain f
  plain_in f n l e g z =
      let k = led set m (plain_by b p) h n l e in
      let t = both (plain_kind b k.kind) _ k.passed in
      plain_fits b k.kind f p t.0 t.1 (rw k.code g) z

-- ---- the tests of the code

either : (a b : Bool) → a || b ≡ true → (a ≡ true) ⊎ (b ≡ true)
either true b h = inl refl
either false b h = inr h

module _ (f : Fields ℕ) (fit : Fit f) where
  -- a set's codes are tried along the whole set: h
  module _ {a b g : Bool} (z : f.op ≡ 0) (pg : g ≡ is_base f.rd) (sa sb : ℕ) (pa : a ≡ is_in sa f.funct) (pb : b ≡ is_in sb f.funct)
      (ha : T (leads sa function (plain_by true (special any any any blank)))) (hb : T (leads sb function (plain_by true (special blank any any any)))) where
    pub frequent_plain : (a && eqb f.shift 0) || (b && eqb f.rs 0) ≡ true → not g ≡ true → Plain f
    frequent_plain h k = ⊎_elim three shifts (either _ _ h) (sym pg ∙ not-true g k)
      where
        three : a && eqb f.shift 0 ≡ true → is_base f.rd ≡ false → Plain f
        three y s =
            let q = Choice.both a _ y in
            plain_in true (special any any any blank) function sa ha f f.funct fit.funct (sym pa ∙ q.0)
            (record { op = z; rs = tt; rt = tt; rd = tt; shift = eqb-true _ _ q.1; funct = refl }) s

        shifts : b && eqb f.rs 0 ≡ true → is_base f.rd ≡ false → Plain f
        shifts y s =
            let q = Choice.both b _ y in
            plain_in true (special blank any any any) function sb hb f f.funct fit.funct (sym pb ∙ q.0)
            (record { op = z; rs = eqb-true _ _ q.1; rt = tt; rd = tt; shift = tt; funct = refl }) s

  module _ {a b c g : Bool} (z : f.op ≡ 0) (pg : g ≡ is_base f.rd) (sa sb sc : ℕ) (pa : a ≡ is_in sa f.funct) (pb : b ≡ is_in sb f.funct)
      (pc : c ≡ is_in sc f.funct) (ha : T (leads sa function (plain_by true (special blank blank any blank))))
      (hb : T (leads sb function (plain_by true (special any any blank blank)))) (hc : T (leads sc function (plain_by true (special any any any any)))) where
    pub other_plain : ((a && (eqb f.rs 0 && (eqb f.rt 0 && eqb f.shift 0))) || ((b && (eqb f.rd 0 && eqb f.shift 0)) || c)) && not g ≡ true
        → Plain f
    other_plain h =
        let x = Choice.both _ (not g) h in
        ⊎_elim moves (λ y. ⊎_elim multiply full (either _ c y)) (either _ _ x.0) (sym pg ∙ not-true g x.1)
      where
        moves : a && (eqb f.rs 0 && (eqb f.rt 0 && eqb f.shift 0)) ≡ true → is_base f.rd ≡ false → Plain f
        moves y s =
            let q = Choice.both a _ y in
            let r = Choice.both (eqb f.rs 0) _ q.1 in
            let t = Choice.both (eqb f.rt 0) _ r.1 in
            plain_in true (special blank blank any blank) function sa ha f f.funct fit.funct (sym pa ∙ q.0)
            (record { op = z; rs = eqb-true _ _ r.0; rt = eqb-true _ _ t.0; rd = tt; shift = eqb-true _ _ t.1; funct = refl }) s

        multiply : b && (eqb f.rd 0 && eqb f.shift 0) ≡ true → is_base f.rd ≡ false → Plain f
        multiply y s =
            let q = Choice.both b _ y in
            let r = Choice.both (eqb f.rd 0) _ q.1 in
            plain_in true (special any any blank blank) function sb hb f f.funct fit.funct (sym pb ∙ q.0)
            (record { op = z; rs = tt; rt = tt; rd = eqb-true _ _ r.0; shift = eqb-true _ _ r.1; funct = refl }) s

        full : c ≡ true → is_base f.rd ≡ false → Plain f
        full y s =
            plain_in true (special any any any any) function sc hc f f.funct fit.funct (sym pc ∙ y)
            (record { op = z; rs = tt; rt = tt; rd = tt; shift = tt; funct = refl }) s

  module _ {a g : Bool} (pg : g ≡ is_base f.rt) (sa : ℕ) (pa : a ≡ is_in sa f.op) (ha : T (leads sa Tables.opcode (plain_by false (opcode any)))) where
    pub opcode_plain : (a || eqb f.op 15 && eqb f.rs 0) && not g ≡ true → Plain f
    opcode_plain h =
        let x = Choice.both _ (not g) h in
        ⊎_elim constant upper (either a _ x.0) (sym pg ∙ not-true g x.1)
      where
        constant : a ≡ true → is_base f.rt ≡ false → Plain f
        constant y s =
            plain_in false (opcode any) Tables.opcode sa ha f f.op fit.op (sym pa ∙ y)
            (record { op = refl; rs = tt; rt = tt; rd = tt; shift = tt; funct = tt }) s

        upper : eqb f.op 15 && eqb f.rs 0 ≡ true → is_base f.rt ≡ false → Plain f
        upper y s =
            let q = Choice.both (eqb f.op 15) _ y in
            plain_fits false (K.Immediate Lui) f (opcode blank) tt tt
            (record { op = eqb-true _ _ q.0; rs = eqb-true _ _ q.1; rt = tt; rd = tt; shift = tt; funct = tt }) s

pub word_plain : (w : ℕ) {f : Fields ℕ} → f ≡ cut_of w → Plain f → PlainWord w
unfolding word_view read_of
word_plain w e h = rw e at h
