-- What a refusal by the profile says: a rule that is broken where it is tried, and none before it in the profile's order.
use Rattle.std.specs.Prelude.{ℕ, ◌+◌, ◌≤◌, ◌<◌, ◌≡◌, ◌⊎◌, true, List, eqb}
use Rattle.layout.specs.declared.Layout.{Layout}
use Rattle.checker.specs.declared.verdict.Verdict.{Verdict}
use Rattle.checker.specs.Check.{Trial, no_place, of_mask}
use Rattle.checker.specs.Lawful.{words_in}
use Rattle.checker.specs.Refusal.{pick, WordRule, KeepsBy, FirstBroken}
use Rattle.rules.specs.Not.{Not}
use Rattle.straight.specs.Check.{straight_trials}
use Rattle.straight.specs.Straight.{Rule20, Rule21}

-- rule n of 8 to 16, 20, 22 and 25, at word i, and 21, which hangs on no word
abbrev pub StraightRule : Layout → List ℕ → ℕ → ℕ → Type 0
StraightRule l img n i = pick (eqb n 20) (Rule20 l img i) (pick (eqb n 21) (Rule21 l img) (WordRule l img n i))

-- the rule of a trial is kept where it is tried
abbrev pub StraightKeeps : Layout → ℕ → List ℕ → Trial → Type 0
StraightKeeps l len img t = KeepsBy (StraightRule l img) l len img t

-- trial t refuses the module
abbrev pub StraightRefusal : Layout → ℕ → List ℕ → Trial → Type 0
StraightRefusal l len img t = FirstBroken (StraightKeeps l len img) (straight_trials l) t

-- the number and place of a verdict: 8 to 16, 20, 22 and 25 name a word of the module, all others no word
pub record StraightTold (l : Layout) (v : Verdict) : Type 0 where
  pub number_is : (v.number ≤ 16) ⊎ ((v.number ≡ 20) ⊎ ((v.number ≡ 21) ⊎ ((v.number ≡ 22) ⊎ (v.number ≡ 25))))
  pub no_word : (v.number < 8) ⊎ (v.number ≡ 21) → v.place ≡ no_place
  pub a_word : 8 ≤ v.number → Not (v.number ≡ 21) → v.place < words_in l
  -- 22 and 25 name a word that two more follow, since an OR and an access stand there (`straight_mask_told`, `straight_hole_told`)
  pub a_mask : of_mask v.number ≡ true → v.place + 2 < words_in l
