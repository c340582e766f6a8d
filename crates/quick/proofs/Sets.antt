-- Sets of codes: one computed test over all numbers below 64 says which entries of a table a set's codes lead to.
use Prim.Native.Nat.{ℕ, ◌+◌, ◌*◌, ◌<◌}
use mathlib.Core.Path.{◌≡◌, refl, sym, subst}
use mathlib.Core.Bool.{Bool, true, false, not, ◌&&◌, ◌||◌}
use native.Mathlib.Omega.{arith}
use lib.Dec.{T, ltb, ltb→lt}
use Rattle.isa.specs.declared.kind.Kind.{Kind}
use Rattle.isa.specs.Table.{row_of}
use Rattle.isa.proofs.Codes.{key_of, both}
use Rattle.isa.proofs.Members.{split_or, up_to, below}
use Rattle.table.specs.declared.tables.Entry.{Entry}
use Rattle.table.specs.declared.tables.Entry.TheVariants.{Empty, Special, Regimm, Cop0, Holds}
use Rattle.table.specs.Tables.{Table, Place, entry_at}
use Rattle.table.proofs.Places.{number_of, key_at_law}
use Rattle.quick.specs.Set.{is_in}

-- an instruction with a code of six bits that passes the test
abbrev passes : (Kind → Bool) → Entry → Bool
passes t Empty = false
passes t Special = false
passes t Regimm = false
passes t Cop0 = false
passes t (Holds k) = ltb (row_of k).code 64 && t k

abbrev at : Table → ℕ → Place
at m n = record { table = m; index = n }

-- each code of the set is the place, in table m, of an instruction that passes
abbrev pub leads : ℕ → Table → (Kind → Bool) → Bool
leads set m t = up_to 64 (λ n. not (is_in set n) || passes t (entry_at (at m n)))

pub record Led (m : Table) (n : ℕ) (t : Kind → Bool) : Type 0 where
  pub kind : Kind
  pub code : (row_of kind).code ≡ n
  pub key : key_of kind ≡ number_of m * 64 + n
  pub passed : T (t kind)

module _ (set : ℕ) (m : Table) (t : Kind → Bool) (h : T (leads set m t)) where
  pub led : (n : ℕ) → n < 64 → is_in set n ≡ true → Led m n t
  led n p e =
      go (entry_at (at m n)) refl
      (split_or (is_in set n) _ (below 64 (λ i. not (is_in set i) || passes t (entry_at (at m i))) h n p) (subst T (sym e) tt))
    where
      go : (x : Entry) → entry_at (at m n) ≡ x → T (passes t x) → Led m n t
      go Empty q s = absurd s
      go Special q s = absurd s
      go Regimm q s = absurd s
      go Cop0 q s = absurd s
      go (Holds k) q s =
          let b = both (ltb (row_of k).code 64) (t k) s in
          let c : (row_of k).code < 64 = ltb→lt (row_of k).code 64 b.0 in
          let key : key_of k ≡ number_of m * 64 + n = key_at_law (at m n) k q in
          record { kind = k; code = omega (arith, key); key = key; passed = b.1 }
