-- Kinds compared by their keys, and tests of kinds compared along the list.
use mathlib.Core.Path.{◌≡◌, refl, ap, sym, ◌∙◌}
use mathlib.Core.Bool.{Bool, true, false, cond, not}
use lib.Dec.{T, eqb}
use Rattle.isa.specs.declared.kind.Kind.{Kind}
use Rattle.isa.specs.Table.{instructions}
use Rattle.isa.proofs.Codes.{key_of, found, lookup, found_self, every, every_kind}

-- k is j
abbrev pub is : Kind → Kind → Bool
is j k = eqb (key_of k) (key_of j)

-- no two kinds have the same key
pub same_kind : (k j : Kind) → key_of k ≡ key_of j → k ≡ j
same_kind k j e = let z : found k ≡ found j = sym (found_self k) ∙ ap (lookup instructions) e ∙ found_self j in cc

-- two tests that agree along the list are the same
pub same_test : (t u : Kind → Bool) → T (every (λ k. cond (t k) (u k) (not (u k))) instructions) → (k : Kind) → u k ≡ t k
same_test t u h k = agreed (t k) (u k) (every_kind (λ j. cond (t j) (u j) (not (u j))) h k)
  where
    agreed : (a b : Bool) → T (cond a b (not b)) → b ≡ a
    agreed true true h = refl
    agreed true false h = absurd h
    agreed false true h = absurd h
    agreed false false h = refl
