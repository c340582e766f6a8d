-- The checker: rules tried in document 01's order, 22 and 25 of document 02 among them, until one is broken.
use Rattle.std.specs.Prelude.{ℕ, zero, suc, ◌-◌, ◌/◌, Bool, true, false, cond, not, ◌||◌, List, [], ◌∷◌, ◌++◌, eqb, leb, length, take, drop}
use Rattle.view.specs.View.{passes, is_branch, is_jump}
use Rattle.layout.specs.declared.Layout.{Layout}
use Rattle.layout.specs.Layout.{broken1, broken2, broken3, broken4, broken5, broken6}
use Rattle.checker.specs.declared.verdict.Verdict.{Verdict}
use Rattle.rules.specs.Rules.{view_at, view_before, broken10, broken11, broken12, broken22, broken25, broken13, broken14, broken15}

-- ---- trials

-- a rule, and the word at which it is tried: no_place for those of layout and image
pub record Trial : Type 0 where
  pub number : ℕ
  pub word : ℕ

abbrev pub trial : ℕ → ℕ → Trial
trial n i = record { number = n; word = i }

-- what is handed back: the rule that is broken, 0 where none is, and its place
abbrev pub verdict : ℕ → ℕ → Verdict
verdict n p = record { number = n; place = p }

-- the word of what is tried at none, and its place: 0xFFFFFFFF
abbrev pub no_place : ℕ
no_place = 4294967295

abbrev pub accepted : Verdict
accepted = verdict 0 no_place

-- rule n is of a data guard's numbers, and names its ANDI (document 02, Tickets 5 and 7)
abbrev pub of_mask : ℕ → Bool
of_mask n = eqb n 22 || eqb n 25

-- the word that rule n names where it is broken at word i: the word itself, but for a rule of the mask the ANDI of its guard, two words before
abbrev pub named : ℕ → ℕ → ℕ
named n i = cond (of_mask n) (i - 2) i

-- what is said where trial t is the first that is broken
abbrev pub said : Trial → Verdict
said t = verdict t.number (named t.number t.word)

-- ---- the order (document 01, under the Refusal table)

-- layout and image, 1 to 7 by number
abbrev pub file_trials : List Trial
file_trials =
    trial 1 no_place ∷ trial 2 no_place ∷ trial 3 no_place ∷ trial 4 no_place ∷ trial 5 no_place ∷ trial 6 no_place ∷ trial 7 no_place ∷ []

-- word i, 8 to 15 by number, and directly after 12 first 22 and then 25 (document 02, Tickets 5 and 7)
abbrev pub trials_at : ℕ → List Trial
trials_at i =
    trial 8 i ∷ trial 9 i ∷ trial 10 i ∷ trial 11 i ∷ trial 12 i ∷ trial 22 i ∷ trial 25 i ∷ trial 13 i ∷ trial 14 i ∷ trial 15 i ∷ []

-- after n words: 16, at the last word but one
abbrev pub trials_after : ℕ → List Trial
trials_after n = trial 16 (n - 2) ∷ []

-- n words from word i on, each tried with its `at`; then `after`, of the index past them
abbrev pub in_turn : (ℕ → List Trial) → (ℕ → List Trial) → ℕ → ℕ → List Trial
in_turn at after zero i = after i
in_turn at after (suc n) i = at i ++ in_turn at after n (suc i)

-- layout and image; then the words from index 0
abbrev pub trials_by : (ℕ → List Trial) → (ℕ → List Trial) → Layout → List Trial
trials_by at after l = file_trials ++ in_turn at after (l.code_size / 4) 0

abbrev pub trials_of : Layout → List Trial
trials_of l = trials_by trials_at trials_after l

-- ---- the rules by number

-- 8 to 16, 22 and 25, at word i
unfoldable pub is_word_broken : Layout → List ℕ → ℕ → ℕ → Bool
is_word_broken l img n i =
    cond (eqb n 8) (not (passes (λ v. true) (view_at img i)))
    (cond (eqb n 9) (passes (λ v. v.barred) (view_at img i))
    (cond (eqb n 10) (passes broken10 (view_at img i))
    (cond (eqb n 11) (passes broken11 (view_at img i))
    (cond (eqb n 12) (passes (broken12 img i) (view_at img i))
    (cond (eqb n 22) (passes (broken22 l.data_size img i) (view_at img i))
    (cond (eqb n 25) (passes (broken25 img i) (view_at img i))
    (cond (eqb n 13) (passes (broken13 l.code_size img i) (view_at img i))
    (cond (eqb n 14) (passes (broken14 (passes is_branch (view_before img i))) (view_at img i))
    (cond (eqb n 15) (passes (broken15 l img i) (view_at img i))
    (cond (eqb n 16) (not (passes is_jump (view_at img i))) false))))))))))

-- 1 to 7; len is the memory's length
unfoldable pub is_file_broken : Layout → ℕ → List ℕ → ℕ → Bool
is_file_broken l len img n =
    cond (eqb n 1) (broken1 len)
    (cond (eqb n 2) (broken2 l)
    (cond (eqb n 3) (broken3 l)
    (cond (eqb n 4) (broken4 l len)
    (cond (eqb n 5) (broken5 l len)
    (cond (eqb n 6) (broken6 l)
    (cond (eqb n 7) (not (eqb (length img) l.code_size)) false))))))

-- any other number by `word`, which is told the word too
abbrev pub broken_by : (ℕ → ℕ → Bool) → Layout → ℕ → List ℕ → Trial → Bool
broken_by word l len img t = cond (leb t.number 7) (is_file_broken l len img t.number) (word t.number t.word)

abbrev pub is_broken : Layout → ℕ → List ℕ → Trial → Bool
is_broken l len img t = broken_by (is_word_broken l img) l len img t

-- ---- the verdict

-- of the first trial at which a rule is broken, or accepted
abbrev pub first_of : (Trial → Bool) → List Trial → Verdict
first_of broken [] = accepted
first_of broken (t ∷ ts) = cond (broken t) (said t) (first_of broken ts)

unfoldable pub check_of : Layout → ℕ → List ℕ → Verdict
check_of l len img = first_of (is_broken l len img) (trials_of l)

-- the part of memory that is the code area
unfoldable pub code_of : Layout → List ℕ → List ℕ
code_of l mem = take l.code_size (drop l.code_base mem)

abbrev pub placed_of : Layout → List ℕ → Verdict
placed_of l mem = check_of l (length mem) (code_of l mem)
