-- The profile's two rules as the checker's loop asks them: the number of a branch or jump, and that of the whole, 0 where the rule is kept.
-- The verdict (`straight_of`) does not rest on this; `straight_words` of proofs/Scan ties the two together.
use Rattle.std.specs.Prelude.{ℕ, cond, List}
use Rattle.layout.specs.declared.Layout.{Layout}
use Rattle.view.specs.declared.View.{View}
use Rattle.profile.specs.Rules.{broken20, broken21}

abbrev pub of_branch : Layout → ℕ → View → ℕ
of_branch l i v = cond (broken20 l i v) 20 0

abbrev pub of_whole : Layout → List ℕ → ℕ
of_whole l img = cond (broken21 l img) 21 0
