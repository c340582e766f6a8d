-- What the parts of a writing say, put together.
use mathlib.Core.Path.{◌≡◌, refl, ap, sym, ◌∙◌, subst}
use mathlib.Core.Bool.{Bool, true, false, ◌&&◌}
use Prim.Native.Nat.{ℕ}
use lib.Dec.{T, eqb}
use Rattle.std.specs.Prelude.{Some, None}
use Rattle.word.specs.declared.field.Fields.{Fields}
use Rattle.word.specs.Field.{join_of, Fit}
use Rattle.isa.specs.declared.kind.Instruction.{Instruction}
use Rattle.isa.specs.declared.format.Format.{Format}
use Rattle.isa.specs.Table.{row_of}
use Rattle.isa.specs.Drawing.{Drawing, drawing_of}
use Rattle.isa.specs.Reading.{drawing_for}
use Rattle.isa.specs.Writing.{operand_fits, field_of, rest, rest_rs, encode_of, legal, write_of}
use Rattle.isa.proofs.Drawings.{drawing_sound, legals}
use Rattle.isa.proofs.RoundTrip.{encode_fit}

pub encoding : (d : Drawing) (n : ℕ) (i : Instruction) {a b c e o s t r h f v : ℕ}
    → a ≡ rest d.funct 6 i.value → b ≡ rest d.shift 5 a → c ≡ rest d.rd 5 b → e ≡ rest d.rt 5 c
    → o ≡ field_of d.op n 6 0 0 → s ≡ field_of d.rs n 5 e i.rs → t ≡ field_of d.rt n 5 c i.rt
    → r ≡ field_of d.rd n 5 b i.rd → h ≡ field_of d.shift n 5 a i.shift → f ≡ field_of d.funct n 6 i.value 0
    → v ≡ rest d.rs 5 e
    → (◌≡◌ {A = Fields ℕ} (record { op = o; rs = s; rt = t; rd = r; shift = h; funct = f }) (encode_of d n i)) × (v ≡ rest_rs d i.value)
unfolding encode_of
encoding d n i pa pb pc pe po ps pt pr ph pf pv = rw (po, ps, pt, pr, ph, pf, pv, pe, pc, pb, pa) (refl, refl)

pub fitting : (d : Drawing) (i : Instruction) {a b c e : Bool} {v : ℕ} → a ≡ operand_fits d.rs i.rs → b ≡ operand_fits d.rt i.rt
    → c ≡ operand_fits d.rd i.rd → e ≡ operand_fits d.shift i.shift → v ≡ rest_rs d i.value
    → (a && (b && (c && (e && eqb v 0)))) ≡ legal d i
unfolding legal
fitting d i p q r s t = rw (p, q, r, s, t)

-- the drawing found for a kind's format
pub drawing_found : (i : Instruction) {t : Format} {d : Drawing} → t ≡ (row_of i.kind).format → d ≡ drawing_of t → d ≡ drawing_for i.kind
drawing_found i p q = q ∙ ap drawing_of p

module _ (i : Instruction) {d : Drawing} {n : ℕ} {f : Fields ℕ} {b : Bool}
    (pd : d ≡ drawing_for i.kind) (pn : n ≡ (row_of i.kind).code) (pf : f ≡ encode_of d n i) (pb : b ≡ legal d i) where
  found_fields : f ≡ encode_of (drawing_for i.kind) (row_of i.kind).code i
  found_fields = pf ∙ rw (pd, pn)

  found_legal : b ≡ legal (drawing_for i.kind) i
  found_legal = pb ∙ rw (pd)

  pub written_fit : b ≡ true → Fit f
  written_fit t =
      rw (found_fields)
      (encode_fit (drawing_for i.kind) (row_of i.kind).code i (drawing_sound i.kind) (legals (drawing_for i.kind) i (subst T (sym t ∙ found_legal) tt)))

  pub written : {w : ℕ} → b ≡ true → w ≡ join_of f → Some w ≡ write_of i
  unfolding write_of
  written t e = rw (e, found_fields, ← found_legal, t)

  pub refused : b ≡ false → None ≡ write_of i
  unfolding write_of
  refused t = rw (← found_legal, t)
