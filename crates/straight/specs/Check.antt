-- The profile's verdict: the checker's rules in their order, 20 after 15 at each word, and 21 after 16 (document 02, Ticket 2).
use Rattle.std.specs.Prelude.{ℕ, Bool, cond, List, [], ◌∷◌, ◌++◌, eqb}
use Rattle.layout.specs.declared.Layout.{Layout}
use Rattle.checker.specs.declared.verdict.Verdict.{Verdict}
use Rattle.view.specs.View.{passes}
use Rattle.rules.specs.Rules.{view_at}
use Rattle.checker.specs.Check.{Trial, trial, no_place, trials_at, trials_after, trials_by, is_word_broken, broken_by, first_of}
use Rattle.profile.specs.Rules.{broken20, broken21}

-- ---- the order

-- word i, the checker's by their order, then 20
abbrev pub straight_at : ℕ → List Trial
straight_at i = trials_at i ++ (trial 20 i ∷ [])

-- after n words: 16, then 21, which names no word
abbrev pub straight_after : ℕ → List Trial
straight_after n = trials_after n ++ (trial 21 no_place ∷ [])

abbrev pub straight_trials : Layout → List Trial
straight_trials l = trials_by straight_at straight_after l

-- ---- the verdict

-- 8 to 16, 20, 22 and 25, at word i, and 21, which hangs on no word
unfoldable pub is_straight_broken : Layout → List ℕ → ℕ → ℕ → Bool
is_straight_broken l img n i =
    cond (eqb n 20) (passes (broken20 l i) (view_at img i)) (cond (eqb n 21) (broken21 l img) (is_word_broken l img n i))

unfoldable pub straight_of : Layout → ℕ → List ℕ → Verdict
straight_of l len img = first_of (broken_by (is_straight_broken l img) l len img) (straight_trials l)
