-- The tables beside the instruction set: one computed test of all places, and what it says at each.
use Prim.Native.Nat.{ℕ, zero, suc, ◌+◌, ◌*◌, ◌^◌, ◌<◌}
use mathlib.Core.Path.{◌≡◌, refl, ap, sym, subst, ◌∙◌}
use mathlib.Core.Bool.{Bool, true, false, cond, ◌&&◌}
use mathlib.Core.List.{List, [], ◌∷◌}
use native.Mathlib.Omega.{arith}
use native.Mathlib.Nat.{add-zero, add-suc, suc-add, le_of_suc-le-suc, not-suc-le-zero}
use native.Mathlib.Decide.{dec_lt}
use lib.Dec.{T, eqb, ltb, eqb→eq, ltb→lt}
use lib.ListN.{length, get_or, get_or-eq_default}
use Rattle.isa.specs.declared.kind.Kind.{Kind}
use Rattle.isa.specs.Table.{row_of, instructions}
use Rattle.isa.proofs.Codes.{table_of, key_of, Found, found, nothing, lookup, lookup_key, found_self, every_kind, both}
use Rattle.isa.proofs.Same.{same_kind}
use Rattle.table.specs.declared.tables.Entry.{Entry}
use Rattle.table.specs.declared.tables.Entry.TheVariants.{Empty, Special, Regimm, Cop0, Holds}
use Rattle.table.specs.Tables.{Table, opcode, function, condition, control, opcodes, functions, conditions, controls, entries, Place, entry_at, bits_of, OneEntry}

-- the tables by number, as in a kind's key
abbrev pub number_of : Table → ℕ
number_of opcode = 0
number_of function = 1
number_of condition = 2
number_of control = 3

abbrev pub key_at : Place → ℕ
key_at p = number_of p.table * 64 + p.index

-- ---- the test

abbrev agrees : Found → Entry → Bool
agrees (found k) Empty = false
agrees (found k) Special = false
agrees (found k) Regimm = false
agrees (found k) Cop0 = false
agrees (found k) (Holds j) = eqb (key_of k) (key_of j)
agrees nothing Empty = true
agrees nothing Special = true
agrees nothing Regimm = true
agrees nothing Cop0 = true
agrees nothing (Holds j) = false

-- each entry is the kind that has the place's key, from key x on
abbrev agreed : ℕ → List Entry → Bool
agreed x [] = true
agreed x (e ∷ es) = agrees (lookup instructions x) e && agreed (suc x) es

tested : (t : Table) → T (agreed (number_of t * 64) (entries t))
unfolding opcodes functions conditions controls
tested opcode = tt
tested function = tt
tested condition = tt
tested control = tt

agreed_at : (es : List Entry) (x i : ℕ) → T (agreed x es) → i < length es → T (agrees (lookup instructions (x + i)) (get_or es i Empty))
agreed_at [] x i t h = absurd (not-suc-le-zero h)
agreed_at (e ∷ es) x zero t h = subst (λ (y : ℕ). T (agrees (lookup instructions y) e)) (sym (add-zero x)) (both (agrees (lookup instructions x) e) (agreed (suc x) es) t).0
agreed_at (e ∷ es) x (suc i) t h =
    subst (λ (y : ℕ). T (agrees (lookup instructions y) (get_or es i Empty))) (suc-add x i ∙ sym (add-suc x i))
    (agreed_at es (suc x) i (both (agrees (lookup instructions x) e) (agreed (suc x) es) t).1 (le_of_suc-le-suc h))

-- a place of the tables
abbrev pub Inside : Place → Type 0
Inside p = p.index < length (entries p.table)

at_place : (p : Place) → Inside p → T (agrees (lookup instructions (key_at p)) (entry_at p))
at_place p h = agreed_at (entries p.table) (number_of p.table * 64) p.index (tested p.table) h

-- a place for each number of the field
pub table_size : (t : Table) → length (entries t) ≡ 2 ^ bits_of t
unfolding opcodes functions conditions controls
table_size opcode = refl
table_size function = refl
table_size condition = refl
table_size control = refl

short : (p : Place) → Inside p → p.index < 64
unfolding opcodes functions conditions controls
short p h = go p.table h
  where
    go : (t : Table) → p.index < length (entries t) → p.index < 64
    go opcode h = h
    go function h = h
    go condition h = omega arith
    go control h = omega arith

-- ---- what it says

found_agrees : (x : Found) (e : Entry) (k : Kind) → T (agrees x e) → x ≡ found k → e ≡ Holds k
found_agrees (found j) Empty k t q = absurd t
found_agrees (found j) Special k t q = absurd t
found_agrees (found j) Regimm k t q = absurd t
found_agrees (found j) Cop0 k t q = absurd t
found_agrees (found j) (Holds i) k t q = let r : j ≡ i = same_kind j i (eqb→eq (key_of j) (key_of i) t) in cc
found_agrees nothing e k t q = absurd (let z : ◌≡◌ {A = ℕ} 0 1 = cc in omega arith)

kind_agrees : (x : Found) (e : Entry) (k : Kind) → T (agrees x e) → e ≡ Holds k → x ≡ found k
kind_agrees (found j) Empty k t q = absurd t
kind_agrees (found j) Special k t q = absurd t
kind_agrees (found j) Regimm k t q = absurd t
kind_agrees (found j) Cop0 k t q = absurd t
kind_agrees (found j) (Holds i) k t q = let r : j ≡ i = same_kind j i (eqb→eq (key_of j) (key_of i) t) in cc
kind_agrees nothing Empty k t q = absurd (let z : ◌≡◌ {A = ℕ} 0 1 = cc in omega arith)
kind_agrees nothing Special k t q = absurd (let z : ◌≡◌ {A = ℕ} 0 1 = cc in omega arith)
kind_agrees nothing Regimm k t q = absurd (let z : ◌≡◌ {A = ℕ} 0 1 = cc in omega arith)
kind_agrees nothing Cop0 k t q = absurd (let z : ◌≡◌ {A = ℕ} 0 1 = cc in omega arith)
kind_agrees nothing (Holds i) k t q = absurd t

-- the kind that has a place's key stands there
pub stands : (p : Place) (k : Kind) → Inside p → lookup instructions (key_at p) ≡ found k → entry_at p ≡ Holds k
stands p k h e = found_agrees (lookup instructions (key_at p)) (entry_at p) k (at_place p h) e

-- past the table stands nothing
held : (p : Place) (k : Kind) → entry_at p ≡ Holds k → Inside p
held p k e =
    elim (dec_lt p.index (length (entries p.table))) [
      | yes h ↦ h
      | no h ↦ absurd (let q : entry_at p ≡ Empty = get_or-eq_default (entries p.table) Empty (omega arith) in let z : ◌≡◌ {A = ℕ} 0 1 = cc in omega arith)
    ]

-- a kind that stands at a place has its key
pub key_at_law : (p : Place) (k : Kind) → entry_at p ≡ Holds k → key_of k ≡ key_at p
key_at_law p k e =
    lookup_key instructions (key_at p) k (kind_agrees (lookup instructions (key_at p)) (entry_at p) k (at_place p (held p k e)) e)

-- ---- each kind has exactly one entry

abbrev by_number : ℕ → Table
by_number m = cond (eqb m 0) opcode (cond (eqb m 1) function (cond (eqb m 2) condition control))

abbrev at : Table → ℕ → Place
at t i = record { table = t; index = i }

-- where a kind's key leads
abbrev home : Kind → Place
home k = at (by_number (table_of (row_of k).format)) (row_of k).code

abbrev housed : Kind → Bool
housed k = eqb (key_at (home k)) (key_of k) && ltb (row_of k).code (length (entries (by_number (table_of (row_of k).format))))

house : (k : Kind) → T (housed k)
unfolding opcodes functions conditions controls
house k = every_kind housed tt k

table_number : (t : Table) → by_number (number_of t) ≡ t
table_number opcode = refl
table_number function = refl
table_number condition = refl
table_number control = refl

same_place : (p q : Place) → Inside p → Inside q → key_at p ≡ key_at q → p ≡ q
same_place p q hp hq e =
    let sp : p.index < 64 = short p hp in
    let sq : q.index < 64 = short q hq in
    let i : p.index ≡ q.index = omega arith in
    let n : number_of p.table ≡ number_of q.table = omega arith in
    let t : p.table ≡ q.table = sym (table_number p.table) ∙ ap by_number n ∙ table_number q.table in
    ap (λ (x : Table). at x p.index) t ∙ ap (at q.table) i

pub one_entry : (k : Kind) → OneEntry k
one_entry k =
    let h = both (eqb (key_at (home k)) (key_of k)) _ (house k) in
    record {
      place = home k;
      there = stands (home k) k (ltb→lt (row_of k).code _ h.1) (ap (lookup instructions) (eqb→eq (key_at (home k)) (key_of k) h.0) ∙ found_self k);
      alone = λ p q ep eq. same_place p q (held p k ep) (held q k eq) (sym (key_at_law p k ep) ∙ key_at_law q k eq);
    }
