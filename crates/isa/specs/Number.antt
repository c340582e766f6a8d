-- Instructions by number: an instruction's number is its place in document 004, section 1.2.
use Rattle.std.specs.Prelude.{ℕ, ◌≡◌, cond, List, [], ◌∷◌, eqb, Option, Some, None, Result, ok_or}
use Rattle.refusal.specs.declared.Refusal.{Refusal}
use Rattle.refusal.specs.declared.Refusal.TheVariants.{IllegalField}
use Rattle.isa.specs.declared.kind.Kind.{Kind}
use Rattle.isa.specs.Table.{row_of, instructions}

abbrev pub number_of : Kind → ℕ
number_of k = (row_of k).number

abbrev pub numbered : List Kind → ℕ → Option Kind
numbered [] n = None
numbered (k ∷ ks) n = cond (eqb (number_of k) n) (Some k) (numbered ks n)

unfoldable pub kind_of : ℕ → Option Kind
kind_of n = numbered instructions n

abbrev pub IsNumberOf : Kind → ℕ → Type 0
IsNumberOf k n = n ≡ number_of k

-- a number that no instruction has is refused as a field that is not legal
abbrev pub IsKindOf : ℕ → Result Kind Refusal → Type 0
IsKindOf n r = r ≡ ok_or (kind_of n) IllegalField
