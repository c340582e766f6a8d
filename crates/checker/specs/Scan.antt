-- What the code asks of layout and image, and of one word: the first of 1 to 7, or of 8 to 15, 22 and 25, that is broken, 0 where none is; and whether a
-- word is a branch or jump. The verdict (`check_of`) does not rest on this; `file_first` and `word_first` of proofs/Scan tie the two together.
use Rattle.std.specs.Prelude.{ℕ, zero, suc, ◌≡◌, ◌-◌, ◌/◌, Bool, cond, not, List, IfOk, Option, Some, None, Result, eqb, length}
use Rattle.refusal.specs.declared.Refusal.{Refusal}
use Rattle.layout.specs.declared.Layout.{Layout}
use Rattle.layout.specs.Layout.{layout_refusal}
use Rattle.view.specs.declared.View.{View}
use Rattle.view.specs.View.{passes, is_branch, is_jump}
use Rattle.rules.specs.Rules.{view_at, view_before, broken10, broken11, data_refusal, broken13, broken14, broken15}
use Rattle.checker.specs.declared.verdict.Verdict.{Verdict}
use Rattle.checker.specs.Check.{Trial, trial, verdict, said, no_place, accepted, in_turn, first_of}

-- number k, or x where it is 0
abbrev pub or_number : ℕ → ℕ → ℕ
or_number k x = cond (eqb k 0) x k

unfoldable pub file_refusal : Layout → ℕ → List ℕ → ℕ
file_refusal l len img = or_number (layout_refusal l len) (cond (eqb (length img) l.code_size) 0 7)

-- of what word i is seen as
unfoldable pub word_refusal : Layout → List ℕ → ℕ → Bool → Option View → ℕ
word_refusal l img i after None = 8
word_refusal l img i after (Some v) =
    cond v.barred 9
    (cond (broken10 v) 10
    (cond (broken11 v) 11
    (or_number (data_refusal l.data_size img i v)
    (cond (broken13 l.code_size img i v) 13
    (cond (broken14 after v) 14
    (cond (broken15 l img i v) 15 0))))))

-- ---- the same with the rules of a profile: of_branch is asked of branches and jumps after 15, of_whole after 16

abbrev pub number_of_branch : (Layout → ℕ → View → ℕ) → Layout → ℕ → Option View → ℕ
number_of_branch of_branch l i None = 0
number_of_branch of_branch l i (Some v) = cond (is_branch v) (of_branch l i v) 0

unfoldable pub number_of_word : (Layout → ℕ → View → ℕ) → Layout → List ℕ → ℕ → Bool → Option View → ℕ
number_of_word of_branch l img i after v = or_number (word_refusal l img i after v) (number_of_branch of_branch l i v)

-- what is handed on of a word that breaks nothing
abbrev pub SaysBranch : Result Bool Refusal → Option View → Type 0
SaysBranch r v = IfOk r (λ b. b ≡ passes is_branch v)

abbrev pub number_at : (Layout → ℕ → View → ℕ) → Layout → List ℕ → ℕ → ℕ
number_at of_branch l img i = number_of_word of_branch l img i (passes is_branch (view_before img i)) (view_at img i)

-- of n words from word i on, each of which has a number, what is said of the first that is not 0; `end` where all are
abbrev pub first_word : (ℕ → ℕ) → Verdict → ℕ → ℕ → Verdict
first_word number end zero i = end
first_word number end (suc n) i = cond (eqb (number i) 0) (first_word number end n (suc i)) (said (trial (number i) i))

-- of rule k at word i; 0 says nothing
abbrev pub verdict_at : ℕ → ℕ → Verdict
verdict_at k i = cond (eqb k 0) accepted (said (trial k i))

-- of rule k of the whole, which no word is named by
abbrev pub verdict_of_whole : ℕ → Verdict
verdict_of_whole k = cond (eqb k 0) accepted (verdict k no_place)

-- after n words
abbrev pub end_verdict : (Layout → List ℕ → ℕ) → Layout → List ℕ → ℕ → Verdict
end_verdict of_whole l img n = cond (not (passes is_jump (view_at img (n - 2)))) (said (trial 16 (n - 2))) (verdict_of_whole (of_whole l img))

-- by the loop, for any profile; `basic_words` and `straight_words` of the two proofs/Scan tie it to the trials of the two that there are
unfoldable pub words_verdict : (Layout → ℕ → View → ℕ) → (Layout → List ℕ → ℕ) → Layout → List ℕ → Verdict
words_verdict of_branch of_whole l img =
    first_word (number_at of_branch l img) (end_verdict of_whole l img (l.code_size / 4)) (l.code_size / 4) 0

-- layout and image, then the words
unfoldable pub image_verdict : (Layout → ℕ → View → ℕ) → (Layout → List ℕ → ℕ) → Layout → ℕ → List ℕ → Verdict
image_verdict of_branch of_whole l len img =
    cond (eqb (file_refusal l len img) 0) (words_verdict of_branch of_whole l img) (verdict (file_refusal l len img) no_place)

-- the verdict on n words from word i on, by trials
abbrev pub words_by : (ℕ → ℕ → Bool) → (ℕ → List Trial) → (ℕ → List Trial) → ℕ → ℕ → Verdict
words_by word at after n i = first_of (λ (t : Trial). word t.number t.word) (in_turn at after n i)
