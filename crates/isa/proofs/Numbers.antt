-- Instructions by number: the row of a number, and a number that no instruction has.
use mathlib.Core.Path.{◌≡◌, refl, ap, sym, ◌∙◌}
use mathlib.Core.Bool.{Bool, false}
use mathlib.Core.List.{List, [], ◌∷◌, map}
use Prim.Native.Nat.{ℕ, suc, ◌-◌, ◌<◌}
use native.Mathlib.Omega.{arith}
use lib.Dec.{T, eqb→eq}
use lib.ListN.{get_or, length}
use Rattle.std.proofs.lemmas.List.{get_or-map, length-map}
use borrow.Author.Tests.{ne_eqb}
use Rattle.std.specs.Prelude.{Option, Some, None, Ok, Err}
use Rattle.refusal.specs.declared.Refusal.TheVariants.{IllegalField}
use Rattle.isa.specs.declared.kind.Alu.TheVariants.{Add}
use Rattle.isa.specs.declared.kind.Kind.{Kind}
use Rattle.isa.specs.declared.kind.Kind.TheVariants as K
use Rattle.isa.specs.declared.row.Row.{Row}
use Rattle.isa.specs.Table.{row_of, instructions}
use Rattle.isa.specs.Number.{number_of, numbered, kind_of, IsKindOf}
use Rattle.isa.proofs.Codes.{key_of, every_kind, numbers}
use Rattle.isa.proofs.Members.{below}
use Rattle.isa.proofs.Same.{is, same_kind}

-- the kind at place i of a list, where it has one
abbrev kind_at : List Kind → ℕ → Kind
kind_at l i = get_or l i (K.Alu Add)

-- each kind stands at its number, counted from 1
placed : (k : Kind) → kind_at instructions (number_of k - 1) ≡ k
placed k = same_kind _ k (eqb→eq _ (key_of k) (every_kind (λ j. is j (kind_at instructions (number_of j - 1))) tt k))

-- a row found, from what is known of all rows; d stands where there is none
module _ (rows : List Row) (d : Row) (kinds : map (λ (r : Row). r.kind) rows ≡ instructions) where
  inside : (n : ℕ) → n < 72 → n < length rows
  inside n h = let e : length rows ≡ 72 = sym (length-map rows (λ (r : Row). r.kind)) ∙ ap length kinds in omega arith

  row_kind : (n : ℕ) → n < 72 → (get_or rows n d).kind ≡ kind_at instructions n
  row_kind n h = sym (get_or-map (λ (r : Row). r.kind) rows n d (K.Alu Add) (inside n h)) ∙ rw (kinds)

  place_lt : (k : Kind) → number_of k - 1 < 72
  place_lt k = let b = numbers k in omega arith

  pub own_row : (k : Kind) → (get_or rows (number_of k - 1) d).kind ≡ k
  own_row k = row_kind (number_of k - 1) (place_lt k) ∙ placed k

  -- what a row holds of its kind
  pub own : {A : Type 0} (g : Row → A) (h : Kind → A) → map g rows ≡ map h instructions → (k : Kind) → g (get_or rows (number_of k - 1) d) ≡ h k
  own g h e k =
      sym (get_or-map g rows (number_of k - 1) d (h (K.Alu Add)) (inside (number_of k - 1) (place_lt k)))
      ∙ rw (e) (get_or-map h instructions (number_of k - 1) (K.Alu Add) (h (K.Alu Add)) (place_lt k))
      ∙ ap h (placed k)

  abbrev same : Option Kind → Kind → Bool
  same None k = false
  same (Some j) k = is j k

  same_law : (x : Option Kind) (k : Kind) → T (same x k) → x ≡ Some k
  same_law None k t = absurd t
  same_law (Some j) k t = ap Some (sym (same_kind k j (eqb→eq (key_of k) (key_of j) t)))

  -- a number from 1 to 72
  pub known : (n : ℕ) → 0 < n → n < 73 → IsKindOf n (Ok (get_or rows (n - 1) d).kind)
  unfolding kind_of
  known n p q =
      let h : T (same (kind_of (suc (n - 1))) (kind_at instructions (n - 1))) = below 72 (λ i. same (kind_of (suc i)) (kind_at instructions i)) tt (n - 1) (omega arith) in
      let s : suc (n - 1) ≡ n = omega arith in
      let g : kind_of n ≡ Some (kind_at instructions (n - 1)) = ap kind_of (sym s) ∙ same_law _ _ h in
      rw (g) (ap Ok (row_kind (n - 1) (omega arith)))

-- a number that no instruction has
none_of : (n : ℕ) → ((k : Kind) → number_of k ≡ n → ⊥) → (ks : List Kind) → numbered ks n ≡ None
none_of n away [] = refl
none_of n away (k ∷ ks) = rw (ne_eqb (number_of k) n (away k)) (none_of n away ks)

pub no_kind : (n : ℕ) → ((k : Kind) → number_of k ≡ n → ⊥) → None ≡ kind_of n
unfolding kind_of
no_kind n away = sym (none_of n away instructions)

pub unknown : (n : ℕ) → ((0 < n) × (n < 73) → ⊥) → IsKindOf n (Err IllegalField)
unfolding kind_of
unknown n away = rw (none_of n (λ k e. away (let b = numbers k in (omega arith, omega arith))) instructions)
