-- A drawing's tests taken apart: what is computed for all kinds at once, what a word that fits says, and what a legal instruction says.
use mathlib.Core.Path.{◌≡◌}
use mathlib.Core.Bool.{Bool, true, ◌&&◌}
use Prim.Native.Nat.{ℕ}
use lib.Dec.{T, eqb→eq}
use borrow.Author.Tests.{eq-eqb}
use Rattle.word.specs.declared.field.Fields.{Fields}
use Rattle.isa.specs.declared.kind.Kind.{Kind}
use Rattle.isa.specs.declared.kind.Instruction.{Instruction}
use Rattle.isa.specs.Drawing.{Drawing}
use Rattle.isa.specs.Table.{row_of}
use Rattle.isa.specs.Reading.{accepts, fits, drawing_for}
use Rattle.isa.specs.Writing.{operand_fits, rest_rs, legal}
use Rattle.isa.proofs.Codes.{both, every_kind}
use Rattle.isa.proofs.Roles.{no_operand, is_fixed, has_room, is_true}

pub and_true : {a b : Bool} → a ≡ true → b ≡ true → (a && b) ≡ true
and_true p q = rw (p, q)

-- ---- every kind's drawing has room for what it fixes, its opcode is fixed, and its function field holds no operand

abbrev sound : Drawing → ℕ → Bool
sound d n =
    has_room d.op n 6 && (is_fixed d.op && (has_room d.rs n 5 && (has_room d.rt n 5 && (has_room d.rd n 5 && (has_room d.shift n 5 && (has_room d.funct n 6 && no_operand d.funct))))))

pub record Sound (d : Drawing) (n : ℕ) : Type 0 where
  pub op : T (has_room d.op n 6)
  pub opcode : T (is_fixed d.op)
  pub rs : T (has_room d.rs n 5)
  pub rt : T (has_room d.rt n 5)
  pub rd : T (has_room d.rd n 5)
  pub shift : T (has_room d.shift n 5)
  pub funct : T (has_room d.funct n 6)
  pub function : T (no_operand d.funct)

sounds : (d : Drawing) (n : ℕ) → T (sound d n) → Sound d n
sounds d n t =
    let a = both (has_room d.op n 6) _ t in
    let b = both (is_fixed d.op) _ a.1 in
    let c = both (has_room d.rs n 5) _ b.1 in
    let e = both (has_room d.rt n 5) _ c.1 in
    let g = both (has_room d.rd n 5) _ e.1 in
    let h = both (has_room d.shift n 5) _ g.1 in
    let i = both (has_room d.funct n 6) _ h.1 in
    record { op = a.0; opcode = b.0; rs = c.0; rt = e.0; rd = g.0; shift = h.0; funct = i.0; function = i.1 }

pub drawing_sound : (k : Kind) → Sound (drawing_for k) (row_of k).code
drawing_sound k = sounds (drawing_for k) (row_of k).code (every_kind (λ k. sound (drawing_for k) (row_of k).code) tt k)

-- ---- fields that fit a drawing

pub record Matched (d : Drawing) (n : ℕ) (f : Fields ℕ) : Type 0 where
  pub op : T (accepts d.op n f.op)
  pub rs : T (accepts d.rs n f.rs)
  pub rt : T (accepts d.rt n f.rt)
  pub rd : T (accepts d.rd n f.rd)
  pub shift : T (accepts d.shift n f.shift)
  pub funct : T (accepts d.funct n f.funct)

pub matched : (d : Drawing) (n : ℕ) (f : Fields ℕ) → T (fits d n f) → Matched d n f
unfolding fits
matched d n f t =
    let a = both (accepts d.op n f.op) _ t in
    let b = both (accepts d.rs n f.rs) _ a.1 in
    let c = both (accepts d.rt n f.rt) _ b.1 in
    let e = both (accepts d.rd n f.rd) _ c.1 in
    let g = both (accepts d.shift n f.shift) _ e.1 in
    record { op = a.0; rs = b.0; rt = c.0; rd = e.0; shift = g.0; funct = g.1 }

pub matching : (d : Drawing) (n : ℕ) (f : Fields ℕ) → Matched d n f → fits d n f ≡ true
unfolding fits
matching d n f m =
    and_true (is_true (accepts d.op n f.op) m.op)
    (and_true (is_true (accepts d.rs n f.rs) m.rs)
    (and_true (is_true (accepts d.rt n f.rt) m.rt)
    (and_true (is_true (accepts d.rd n f.rd) m.rd)
    (and_true (is_true (accepts d.shift n f.shift) m.shift) (is_true (accepts d.funct n f.funct) m.funct)))))

-- ---- an instruction that is legal in a drawing

pub record Legals (d : Drawing) (i : Instruction) : Type 0 where
  pub rs : T (operand_fits d.rs i.rs)
  pub rt : T (operand_fits d.rt i.rt)
  pub rd : T (operand_fits d.rd i.rd)
  pub shift : T (operand_fits d.shift i.shift)
  pub value : rest_rs d i.value ≡ 0

pub legals : (d : Drawing) (i : Instruction) → T (legal d i) → Legals d i
unfolding legal
legals d i t =
    let a = both (operand_fits d.rs i.rs) _ t in
    let b = both (operand_fits d.rt i.rt) _ a.1 in
    let c = both (operand_fits d.rd i.rd) _ b.1 in
    let e = both (operand_fits d.shift i.shift) _ c.1 in
    record { rs = a.0; rt = b.0; rd = c.0; shift = e.0; value = eqb→eq (rest_rs d i.value) 0 e.1 }

pub legality : (d : Drawing) (i : Instruction) → Legals d i → legal d i ≡ true
unfolding legal
legality d i g =
    and_true (is_true (operand_fits d.rs i.rs) g.rs)
    (and_true (is_true (operand_fits d.rt i.rt) g.rt)
    (and_true (is_true (operand_fits d.rd i.rd) g.rd)
    (and_true (is_true (operand_fits d.shift i.shift) g.shift) (eq-eqb (rest_rs d i.value) 0 g.value))))
