-- Reading and writing undo each other: for every word below 2^32 and every instruction.
use mathlib.Core.Path.{◌≡◌, refl, ap, sym, ◌∙◌, subst}
use mathlib.Core.Bool.{Bool, true, false}
use Prim.Native.Nat.{ℕ, ◌^◌, ◌<◌}
use native.Mathlib.Omega.{arith}
use lib.Dec.{T}
use Rattle.std.specs.Prelude.{Some}
use Rattle.std.specs.Bool.{then_some}
use Rattle.word.specs.declared.field.Fields.{Fields}
use Rattle.word.specs.Field.{cut_of, join_of, Fit}
use Rattle.word.proofs.Fields.{join_cut, cut_join, cut_fit}
use Rattle.isa.specs.declared.kind.Kind.{Kind}
use Rattle.isa.specs.declared.kind.Instruction.{Instruction}
use Rattle.isa.specs.declared.format.Role.{Role}
use Rattle.isa.specs.Drawing.{Drawing}
use Rattle.isa.specs.Table.{row_of}
use Rattle.isa.specs.Reading.{operand, append, value_of, decode_of, drawing_for, fits_kind, read_fields, read_of}
use Rattle.isa.specs.Writing.{field_of, rest, rest_funct, rest_shift, rest_rd, rest_rt, rest_rs, encode_of, legal, write_of}
use Rattle.isa.proofs.Roles.{field_back, rest_back, value_back, operand_back, accepted, field_lt, fits_back, no_operand_law, nothing_fits, fixed_fits, fixed_back, operand_lt}
use Rattle.isa.proofs.Drawings.{Sound, drawing_sound, Matched, matched, matching, Legals, legals, legality}
use Rattle.isa.proofs.ByKey.{Came, came, read_fits}

-- ---- one drawing: fields read, then written

module _ (k : Kind) (d : Drawing) (n : ℕ) (f : Fields ℕ) (h : Fit f) (m : Matched d n f) (z : Sound d n) where
  back_funct : rest_funct d (value_of d f) ≡ append d.shift 5 (append d.rd 5 (append d.rt 5 (append d.rs 5 0 f.rs) f.rt) f.rd) f.shift
  back_funct = rest_back n 6 d.funct _ f.funct h.funct

  back_shift : rest_shift d (value_of d f) ≡ append d.rd 5 (append d.rt 5 (append d.rs 5 0 f.rs) f.rt) f.rd
  back_shift = ap (rest d.shift 5) back_funct ∙ rest_back n 5 d.shift _ f.shift h.shift

  back_rd : rest_rd d (value_of d f) ≡ append d.rt 5 (append d.rs 5 0 f.rs) f.rt
  back_rd = ap (rest d.rd 5) back_shift ∙ rest_back n 5 d.rd _ f.rd h.rd

  back_rt : rest_rt d (value_of d f) ≡ append d.rs 5 0 f.rs
  back_rt = ap (rest d.rt 5) back_rd ∙ rest_back n 5 d.rt _ f.rt h.rt

  back_rs : rest_rs d (value_of d f) ≡ 0
  back_rs = ap (rest d.rs 5) back_rt ∙ rest_back n 5 d.rs _ f.rs h.rs

  field : (b : ℕ) (r : Role) {v u x : ℕ} → v ≡ u → field_of r n b u (operand r x) ≡ x → field_of r n b v (operand r x) ≡ x
  field b r {x = x} e q = ap (λ (y : ℕ). field_of r n b y (operand r x)) e ∙ q

  encode_decode : encode_of d n (decode_of k d f) ≡ f
  unfolding encode_of decode_of
  encode_decode = λ i. record {
    op = fixed_back n 6 d.op 0 f.op 0 z.opcode m.op i;
    rs = field 5 d.rs back_rt (field_back n 5 d.rs _ f.rs h.rs m.rs) i;
    rt = field 5 d.rt back_rd (field_back n 5 d.rt _ f.rt h.rt m.rt) i;
    rd = field 5 d.rd back_shift (field_back n 5 d.rd _ f.rd h.rd m.rd) i;
    shift = field 5 d.shift back_funct (field_back n 5 d.shift _ f.shift h.shift m.shift) i;
    funct = (ap (field_of d.funct n 6 (value_of d f)) (sym (no_operand_law d.funct f.funct z.function)) ∙ field_back n 6 d.funct _ f.funct h.funct m.funct) i;
  }

  decode_legal : legal d (decode_of k d f) ≡ true
  unfolding decode_of
  decode_legal =
      legality d (decode_of k d f)
      (record {
        rs = fits_back n d.rs f.rs h.rs m.rs;
        rt = fits_back n d.rt f.rt h.rt m.rt;
        rd = fits_back n d.rd f.rd h.rd m.rd;
        shift = fits_back n d.shift f.shift h.shift m.shift;
        value = back_rs;
      })

-- ---- one drawing: an instruction written, then read

module _ (d : Drawing) (n : ℕ) (i : Instruction) (z : Sound d n) (g : Legals d i) where
  pub encode_fit : Fit (encode_of d n i)
  unfolding encode_of
  encode_fit = record {
    op = field_lt n 6 (omega arith) d.op 0 0 z.op (fixed_fits d.op z.opcode);
    rs = field_lt n 5 (omega arith) d.rs _ i.rs z.rs g.rs;
    rt = field_lt n 5 (omega arith) d.rt _ i.rt z.rt g.rt;
    rd = field_lt n 5 (omega arith) d.rd _ i.rd z.rd g.rd;
    shift = field_lt n 5 (omega arith) d.shift _ i.shift z.shift g.shift;
    funct = field_lt n 6 (omega arith) d.funct _ 0 z.funct (nothing_fits d.funct z.function);
  }

  encode_matches : Matched d n (encode_of d n i)
  unfolding encode_of
  encode_matches = record {
    op = accepted n 6 d.op 0 0 (fixed_fits d.op z.opcode);
    rs = accepted n 5 d.rs _ i.rs g.rs;
    rt = accepted n 5 d.rt _ i.rt g.rt;
    rd = accepted n 5 d.rd _ i.rd g.rd;
    shift = accepted n 5 d.shift _ i.shift g.shift;
    funct = accepted n 6 d.funct _ 0 (nothing_fits d.funct z.function);
  }

  up : (b : ℕ) (r : Role) (v x : ℕ) {u : ℕ} → u ≡ rest r b v → append r b u (field_of r n b v x) ≡ v
  up b r v x e = ap (λ (y : ℕ). append r b y (field_of r n b v x)) e ∙ value_back n b r v x

  decode_encode : decode_of i.kind d (encode_of d n i) ≡ i
  unfolding encode_of decode_of
  decode_encode = λ j. record {
    kind = i.kind;
    rs = operand_back n 5 d.rs (rest_rt d i.value) i.rs g.rs j;
    rt = operand_back n 5 d.rt (rest_rd d i.value) i.rt g.rt j;
    rd = operand_back n 5 d.rd (rest_shift d i.value) i.rd g.rd j;
    shift = operand_back n 5 d.shift (rest_funct d i.value) i.shift g.shift j;
    value = up 6 d.funct i.value 0
        (up 5 d.shift (rest_funct d i.value) i.shift
        (up 5 d.rd (rest_shift d i.value) i.rd
        (up 5 d.rt (rest_rd d i.value) i.rt
        (up 5 d.rs (rest_rt d i.value) i.rs (sym g.value))))) j;
  }

-- ---- the theorems

written_back : (k : Kind) (f : Fields ℕ) → Fit f → T (fits_kind k f) → write_of (decode_of k (drawing_for k) f) ≡ Some (join_of f)
unfolding write_of decode_of
written_back k f h t =
    let d : Drawing = drawing_for k in
    let m : Matched d (row_of k).code f = matched d (row_of k).code f t in
    let z : Sound d (row_of k).code = drawing_sound k in
    ap (λ (b : Bool). then_some b (join_of (encode_of d (row_of k).code (decode_of k d f)))) (decode_legal k d (row_of k).code f h m z)
    ∙ ap (λ (x : Fields ℕ). Some (join_of x)) (encode_decode k d (row_of k).code f h m z)

-- what is read, written again, is the same word
pub write_read : (w : ℕ) → w < 2 ^ 32 → (i : Instruction) → read_of w ≡ Some i → write_of i ≡ Some w
unfolding read_of
write_read w h i e =
    let c : Came (cut_of w) i = came (cut_of w) i e in
    rw (← c.same) (written_back c.kind (cut_of w) (cut_fit w h) c.fit ∙ ap Some (join_cut w))

read_back : (i : Instruction) → Legals (drawing_for i.kind) i → (w : ℕ) → join_of (encode_of (drawing_for i.kind) (row_of i.kind).code i) ≡ w → read_of w ≡ Some i
unfolding read_of
read_back i g w e =
    let d : Drawing = drawing_for i.kind in
    let n : ℕ = (row_of i.kind).code in
    let z : Sound d n = drawing_sound i.kind in
    let f : Fields ℕ = encode_of d n i in
    let cuts : cut_of w ≡ f = ap cut_of (sym e) ∙ cut_join f (encode_fit d n i z g) in
    ap read_fields cuts
    ∙ read_fits f i.kind (subst T (sym (matching d n f (encode_matches d n i z g))) tt)
    ∙ ap Some (decode_encode d n i z g)

-- what is written, read again, is the same instruction
pub read_write : (i : Instruction) (w : ℕ) → write_of i ≡ Some w → read_of w ≡ Some i
unfolding write_of
read_write i w e = by_legal (legal (drawing_for i.kind) i) refl e
  where
    by_legal : (b : Bool) → legal (drawing_for i.kind) i ≡ b
        → then_some b (join_of (encode_of (drawing_for i.kind) (row_of i.kind).code i)) ≡ Some w → read_of w ≡ Some i
    by_legal true l p = read_back i (legals (drawing_for i.kind) i (subst T (sym l) tt)) w (cc)
    by_legal false l p = cc

same_reading : (f : Fields ℕ) (j k : Kind) → T (fits_kind j f) → T (fits_kind k f) → decode_of j (drawing_for j) f ≡ decode_of k (drawing_for k) f
same_reading f j k s t = let e = read_fits f j s in let g = read_fits f k t in cc

-- no word fits the drawings of two kinds
pub unique : (f : Fields ℕ) (j k : Kind) → T (fits_kind j f) → T (fits_kind k f) → j ≡ k
unfolding decode_of
unique f j k s t = ap (λ (i : Instruction). i.kind) (same_reading f j k s t)

-- two words that read as the same instruction are the same word
pub read_injective : (v w : ℕ) → v < 2 ^ 32 → w < 2 ^ 32 → (i : Instruction) → read_of v ≡ Some i → read_of w ≡ Some i → v ≡ w
read_injective v w hv hw i p q = let a = write_read v hv i p in let b = write_read w hw i q in cc

-- ---- the operands of an instruction that was read name registers

pub record Operands (i : Instruction) : Type 0 where
  pub rs : i.rs < 2 ^ 5
  pub rt : i.rt < 2 ^ 5
  pub rd : i.rd < 2 ^ 5
  pub shift : i.shift < 2 ^ 5

operands : (k : Kind) (d : Drawing) (f : Fields ℕ) → Fit f → Operands (decode_of k d f)
unfolding decode_of
operands k d f h = record {
  rs = operand_lt d.rs f.rs h.rs;
  rt = operand_lt d.rt f.rt h.rt;
  rd = operand_lt d.rd f.rd h.rd;
  shift = operand_lt d.shift f.shift h.shift;
}

pub read_operands : (w : ℕ) → w < 2 ^ 32 → (i : Instruction) → read_of w ≡ Some i → Operands i
unfolding read_of
read_operands w h i e =
    let c : Came (cut_of w) i = came (cut_of w) i e in
    rw (← c.same) (operands c.kind (drawing_for c.kind) (cut_of w) (cut_fit w h))
