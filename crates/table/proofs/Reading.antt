-- A word is read by the entry that it leads to.
use Prim.Native.Nat.{ℕ, zero, suc, ◌+◌, ◌^◌, ◌<◌}
use mathlib.Core.Path.{◌≡◌, refl, ap, sym, subst, ◌∙◌}
use mathlib.Core.Bool.{Bool, true, false, ◌&&◌}
use mathlib.Core.List.{List, [], ◌∷◌}
use native.Mathlib.Omega.{arith}
use lib.Dec.{T, eqb, ltb, eqb→eq, ltb→lt}
use borrow.Author.Tests.{eqb-true, eqb-false}
use lib.ListN.{get_or}
use Rattle.std.specs.Prelude.{Option, Some, None, is_some}
use Rattle.word.specs.declared.field.Fields.{Fields}
use Rattle.word.specs.Field.{cut_of, Fit}
use Rattle.word.proofs.Fields.{cut_fit}
use Rattle.isa.specs.declared.kind.Kind.{Kind}
use Rattle.isa.specs.declared.kind.Instruction.{Instruction}
use Rattle.isa.specs.Table.{row_of, instructions}
use Rattle.isa.specs.Reading.{decode_of, read_as, read_of}
use Rattle.isa.proofs.Codes.{table_of, key_of, key_in, Found, found, nothing, lookup, found_self, every_kind, both}
use Rattle.isa.proofs.ByKey.{in_special, in_regimm, in_cop0, in_opcode, fits_key, read_found_law, read_nothing, came}
use Rattle.isa.proofs.Members.{below}
use Rattle.table.specs.declared.tables.Entry.{Entry}
use Rattle.table.specs.declared.tables.Entry.TheVariants.{Empty, Special, Regimm, Cop0, Holds}
use Rattle.table.specs.Tables.{Table, opcode, function, condition, control, opcodes, functions, conditions, controls, entry_at, place_in, followed, place_of, kind_in, entry_of, Marks, Ends, at_none, at_kind}
use Rattle.table.proofs.Places.{key_at, Inside, stands, key_at_law}

-- ---- an entry in which a kind is found is that of the kind

pub entry_kind : (e : Entry) (k : Kind) → kind_in e ≡ Some k → e ≡ Holds k
entry_kind Empty k q = cc
entry_kind Special k q = cc
entry_kind Regimm k q = cc
entry_kind Cop0 k q = cc
entry_kind (Holds j) k q = cc

-- an entry that is not empty and no marker holds a kind
pub entry_holds : (e : Entry) → is_some (kind_in e) ≡ true → (k : Kind) × (e ≡ Holds k)
entry_holds Empty q = cc
entry_holds Special q = cc
entry_holds Regimm q = cc
entry_holds Cop0 q = cc
entry_holds (Holds k) q = (k, refl)

-- ---- the place that fields lead to has their key

-- no marker
abbrev plain : Entry → Bool
plain Empty = true
plain Special = false
plain Regimm = false
plain Cop0 = false
plain (Holds k) = true

followed_plain : (e : Entry) (f : Fields ℕ) → T (plain e) → followed e f ≡ place_in opcode f
followed_plain Empty f t = refl
followed_plain Special f t = absurd t
followed_plain Regimm f t = absurd t
followed_plain Cop0 f t = absurd t
followed_plain (Holds k) f t = refl

abbrev marked : Entry → ℕ → Bool
marked Empty n = true
marked Special n = eqb n 0
marked Regimm n = eqb n 1
marked Cop0 n = eqb n 16
marked (Holds k) n = true

-- each marker stands at its opcode alone
pub marks : (f : Fields ℕ) → Fit f → Marks (entry_at (place_in opcode f)) f.op
unfolding opcodes
marks f h = says (get_or opcodes f.op Empty) (below 64 (λ i. marked (get_or opcodes i Empty) i) tt f.op h.op)
  where
    says : (o : Entry) → T (marked o f.op) → Marks o f.op
    says Empty t = tt
    says Special t = eqb→eq f.op 0 t
    says Regimm t = eqb→eq f.op 1 t
    says Cop0 t = eqb→eq f.op 16 t
    says (Holds k) t = tt

-- which table the opcode leads to
data Origin (f : Fields ℕ) : Type 0 where
  of_special : f.op ≡ 0 → key_in f ≡ 64 + f.funct → Origin f
  of_regimm : f.op ≡ 1 → key_in f ≡ 128 + f.rt → Origin f
  of_cop0 : f.op ≡ 16 → key_in f ≡ 192 + f.rs → Origin f
  of_opcode : (f.op ≡ 0 → ⊥) → (f.op ≡ 1 → ⊥) → (f.op ≡ 16 → ⊥) → key_in f ≡ f.op → Origin f

origin : (f : Fields ℕ) → Origin f
origin f = by_zero (eqb f.op 0) refl
  where
    by_sixteen : (b : Bool) → eqb f.op 16 ≡ b → (f.op ≡ 0 → ⊥) → (f.op ≡ 1 → ⊥) → Origin f
    by_sixteen true e p q = let h = eqb-true f.op 16 e in of_cop0 h (in_cop0 f h)
    by_sixteen false e p q = let r = eqb-false f.op 16 e in of_opcode p q r (in_opcode f p q r)

    by_one : (b : Bool) → eqb f.op 1 ≡ b → (f.op ≡ 0 → ⊥) → Origin f
    by_one true e p = let h = eqb-true f.op 1 e in of_regimm h (in_regimm f h)
    by_one false e p = by_sixteen (eqb f.op 16) refl p (eqb-false f.op 1 e)

    by_zero : (b : Bool) → eqb f.op 0 ≡ b → Origin f
    by_zero true e = let h = eqb-true f.op 0 e in of_special h (in_special f h)
    by_zero false e = by_one (eqb f.op 1) refl (eqb-false f.op 0 e)

-- the fields lead to a place of the tables, which has their key
record Leads (f : Fields ℕ) : Type 0 where
  key : key_at (place_of f) ≡ key_in f
  inside : Inside (place_of f)

module _ (f : Fields ℕ) (h : Fit f) where
  lead : (t : Table) → place_of f ≡ place_in t f → key_in f ≡ key_at (place_in t f) → Inside (place_in t f) → Leads f
  lead t e k i = record { key = ap key_at e ∙ sym k; inside = subst Inside (sym e) i }

  -- what stands at an opcode
  at_code : (n : ℕ) {e : Entry} → f.op ≡ n → get_or opcodes n Empty ≡ e → place_of f ≡ followed e f
  unfolding place_of
  at_code n p q = ap (λ (x : Entry). followed x f) (ap (λ (i : ℕ). get_or opcodes i Empty) p ∙ q)

  unmarked : (f.op ≡ 0 → ⊥) → (f.op ≡ 1 → ⊥) → (f.op ≡ 16 → ⊥) → T (plain (get_or opcodes f.op Empty))
  unmarked p q r = go (get_or opcodes f.op Empty) (marks f h)
    where
      go : (o : Entry) → Marks o f.op → T (plain o)
      go Empty m = tt
      go Special m = absurd (p m)
      go Regimm m = absurd (q m)
      go Cop0 m = absurd (r m)
      go (Holds k) m = tt

  leads : Leads f
  unfolding opcodes functions conditions controls
  leads = go (origin f)
    where
      go : Origin f → Leads f
      go (of_special e k) = lead function (at_code 0 e refl) k h.funct
      go (of_regimm e k) = lead condition (at_code 1 e refl) k h.rt
      go (of_cop0 e k) = lead control (at_code 16 e refl) k h.rs
      go (of_opcode p q r k) =
          lead opcode (at_code f.op refl refl ∙ followed_plain (get_or opcodes f.op Empty) f (unmarked p q r)) (k ∙ omega arith) h.op

  -- a kind that is looked up has the key of the fields
  entry_key : (k : Kind) → entry_of f ≡ Some k → key_in f ≡ key_of k
  unfolding entry_of
  entry_key k e = sym leads.key ∙ sym (key_at_law (place_of f) k (entry_kind (entry_at (place_of f)) k e))

  -- a kind that the fields' key finds is the one looked up
  key_entry : (k : Kind) → lookup instructions (key_in f) ≡ found k → entry_of f ≡ Some k
  unfolding entry_of
  key_entry k e = ap kind_in (stands (place_of f) k leads.inside (ap (lookup instructions) leads.key ∙ e))

-- ---- the look-up, table by table

module _ (f : Fields ℕ) where
  abbrev first : Entry
  first = get_or opcodes f.op Empty

  module _ {e : Entry} (p : e ≡ first) where
    at_marker : {m : Entry} → e ≡ m → followed first f ≡ followed m f
    at_marker x = ap (λ (o : Entry). followed o f) (sym p ∙ x)

    module _ (last : Entry) {r : Option Kind} (q : r ≡ kind_in last) where
      looked_up : (t : Table) → followed first f ≡ place_in t f → last ≡ entry_at (place_in t f) → r ≡ entry_of f
      unfolding entry_of place_of
      looked_up t x y = q ∙ ap kind_in (y ∙ sym (ap entry_at x))

      pub to_function : e ≡ Special → last ≡ get_or functions f.funct Empty → r ≡ entry_of f
      to_function m y = looked_up function (at_marker m) y

      pub to_condition : e ≡ Regimm → last ≡ get_or conditions f.rt Empty → r ≡ entry_of f
      to_condition m y = looked_up condition (at_marker m) y

      pub to_control : e ≡ Cop0 → last ≡ get_or controls f.rs Empty → r ≡ entry_of f
      to_control m y = looked_up control (at_marker m) y

      pub to_none : (e ≡ Special → ⊥) → (e ≡ Regimm → ⊥) → (e ≡ Cop0 → ⊥) → last ≡ e → r ≡ entry_of f
      to_none x y z s = looked_up opcode (followed_plain first f (go first (sym p))) (s ∙ p)
        where
          go : (o : Entry) → o ≡ e → T (plain o)
          go Empty h = tt
          go Special h = absurd (x (sym h))
          go Regimm h = absurd (y (sym h))
          go Cop0 h = absurd (z (sym h))
          go (Holds k) h = tt

-- ---- what a look-up ends at

abbrev every_plain : List Entry → Bool
every_plain [] = true
every_plain (e ∷ es) = plain e && every_plain es

all_plain : (es : List Entry) → T (every_plain es) → (i : ℕ) → T (plain (get_or es i Empty))
all_plain [] t i = tt
all_plain (e ∷ es) t zero = (both (plain e) (every_plain es) t).0
all_plain (e ∷ es) t (suc i) = all_plain es (both (plain e) (every_plain es) t).1 i

-- no table but that by the opcode names another
followed_ends : (o : Entry) (f : Fields ℕ) → entry_at (place_in opcode f) ≡ o → T (plain (entry_at (followed o f)))
unfolding functions conditions controls
followed_ends Empty f e = subst (λ (x : Entry). T (plain x)) (sym e) tt
followed_ends Special f e = all_plain functions tt f.funct
followed_ends Regimm f e = all_plain conditions tt f.rt
followed_ends Cop0 f e = all_plain controls tt f.rs
followed_ends (Holds k) f e = subst (λ (x : Entry). T (plain x)) (sym e) tt

pub entry_ends : (f : Fields ℕ) → Ends (entry_at (place_of f))
unfolding place_of
entry_ends f = go (entry_at (place_of f)) (followed_ends (entry_at (place_in opcode f)) f refl)
  where
    go : (o : Entry) → T (plain o) → Ends o
    go Empty t = at_none refl
    go Special t = absurd t
    go Regimm t = absurd t
    go Cop0 t = absurd t
    go (Holds k) t = at_kind k refl

-- ---- what a reader of words needs

module _ (w : ℕ) (small : w < 2 ^ 32) where
  abbrev fields : Fields ℕ
  fields = cut_of w

  fit : Fit fields
  fit = cut_fit w small

  pub read_entry : (k : Kind) → entry_of fields ≡ Some k → read_as k fields ≡ read_of w
  unfolding read_of
  read_entry k e = sym (read_found_law fields k (entry_key fields fit k e))

  -- the kind of an instruction that is read is the one looked up
  pub kind_looked_up : (i : Instruction) → read_of w ≡ Some i → entry_of fields ≡ Some i.kind
  unfolding read_of decode_of
  kind_looked_up i e =
      let c = came fields i e in
      let k : c.kind ≡ i.kind = ap (λ (j : Instruction). j.kind) c.same in
      rw (← k) (key_entry fields fit c.kind (ap (lookup instructions) (fits_key c.kind fields c.fit) ∙ found_self c.kind))

  -- a word that leads to no instruction
  pub read_none : entry_of fields ≡ None → None ≡ read_of w
  unfolding read_of
  read_none away = sym (read_nothing fields (none_found (lookup instructions (key_in fields)) refl))
    where
      none_found : (x : Found) → lookup instructions (key_in fields) ≡ x → lookup instructions (key_in fields) ≡ nothing
      none_found (found k) e = absurd (let q : Some k ≡ None = sym (key_entry fields fit k e) ∙ away in let z : ◌≡◌ {A = ℕ} 0 1 = cc in omega arith)
      none_found nothing e = e
