-- The words of an image in their order: what the parts of the code say, put together.
use Prim.Native.Nat.{ℕ, zero, suc, ◌+◌, ◌-◌, ◌/◌, ◌≤◌, ◌<◌}
use mathlib.Core.Path.{◌≡◌, refl, sym, subst, ap, ◌∙◌}
use mathlib.Core.Bool.{Bool, true, false, not, cond, ◌||◌, false≢true}
use mathlib.Core.List.{List, [], ◌∷◌, ◌++◌}
use native.Mathlib.Nat.{zero-add, sub-zero}
use native.Mathlib.Omega.{arith}
use native.Mathlib.Numerals.{add-one}
use lib.Dec.{eqb}
use lib.ListN.{length, take, drop}
use borrow.Author.Tests.{le-leb, lt-leb, ne_eqb, eqb-true, eqb-false, not-true, not-false}
use Rattle.layout.specs.declared.Layout.{Layout}
use Rattle.layout.specs.Layout.{layout_refusal, broken1, broken2, broken3, broken4, broken5, broken6}
use Rattle.layout.proofs.Kept.{refusal_most, kept}
use Rattle.view.specs.declared.View.{View}
use Rattle.std.specs.Prelude.{Option, Some, None, Result, Ok, is_some}
use Rattle.view.specs.View.{word_view, passes, is_relative, is_region, is_branch, is_jump, is_base, is_plain}
use Rattle.quick.specs.Plain.{PlainWord}
use Rattle.refusal.specs.declared.Refusal.{Refusal}
use Rattle.refusal.specs.Refusal.{number_of, refused_number, refused_when}
use Rattle.refusal.proofs.Numbers.{number_some}
use Rattle.word.proofs.Choice.{both, by_test, by_zero}
use Rattle.checker.specs.declared.verdict.Verdict.{Verdict}
use Rattle.rules.specs.Rules.{Sized, word_at, view_at, view_before, broken10, broken11, broken12, broken22, broken25, data_refusal, broken13, broken14, broken15}
use Rattle.checker.specs.Scan.{or_number, file_refusal, word_refusal, number_of_branch, number_of_word, SaysBranch, number_at, first_word, end_verdict, words_verdict, image_verdict, words_by}
use Rattle.checker.specs.Check.{Trial, trial, verdict, said, no_place, trials_at, trials_after, in_turn, trials_by, is_word_broken, is_file_broken, broken_by, first_of, check_of, code_of, placed_of}
use Rattle.checker.specs.Refusal.{All}
use Rattle.rules.specs.Not.{Not}
use Rattle.checker.proofs.Numbers.{unbroken}
use Rattle.checker.proofs.Trials.{implied, of_words}

-- ---- the word before

module _ (img : List ℕ) where
  pub none_before : None ≡ view_before img 0
  unfolding view_before
  none_before = refl

  one_before : (i : ℕ) → view_at img i ≡ view_before img (i + 1)
  unfolding view_before
  one_before i = let z : i + 1 - 1 ≡ i = omega arith in rw (le-leb 1 (i + 1) (omega arith), z)

  pub handed_on : (i : ℕ) {r : Result Bool Refusal} {b : Bool} → r ≡ Ok b → SaysBranch r (view_at img i) → b ≡ passes is_branch (view_before img (i + 1))
  handed_on i e h = subst (λ (x : Result Bool Refusal). SaysBranch x (view_at img i)) e h ∙ ap (passes is_branch) (one_before i)

-- ---- a ladder of trials, and the first number that it gives

-- the trial of number k, or what comes after the ladder where k is 0
abbrev pub given : (ℕ → Verdict) → Verdict → ℕ → Verdict
given t x k = cond (eqb k 0) x (t k)

pub ladder : (t : ℕ → Verdict) (x : Verdict) (a b c d e f g h i j : Bool)
    → cond a (t 8) (cond b (t 9) (cond c (t 10) (cond d (t 11) (cond e (t 12) (cond f (t 22) (cond g (t 25) (cond h (t 13) (cond i (t 14) (cond j (t 15) x)))))))))
    ≡ given t x (cond a 8 (cond b 9 (cond c 10 (cond d 11 (or_number (cond e 12 (cond f 22 (cond g 25 0))) (cond h 13 (cond i 14 (cond j 15 0))))))))
ladder t x true b c d e f g h i j = refl
ladder t x false true c d e f g h i j = refl
ladder t x false false true d e f g h i j = refl
ladder t x false false false true e f g h i j = refl
ladder t x false false false false true f g h i j = refl
ladder t x false false false false false true g h i j = refl
ladder t x false false false false false false true h i j = refl
ladder t x false false false false false false false true i j = refl
ladder t x false false false false false false false false true j = refl
ladder t x false false false false false false false false false true = refl
ladder t x false false false false false false false false false false = refl

-- ---- the loop of the code, whatever number a word has: i of n words are done

module _ (number : ℕ → ℕ) (end : Verdict) (i n : ℕ) where
  module _ (h : i < n) where
    more : first_word number end (n - i) i ≡ cond (eqb (number i) 0) (first_word number end (n - (i + 1)) (i + 1)) (said (trial (number i) i))
    more = let z : n - i ≡ suc (n - (i + 1)) = omega arith in rw (z, add-one i)

    pub turn_stop : {k : ℕ} → Not (k ≡ 0) → k ≡ number i → said (trial k i) ≡ first_word number end (n - i) i
    turn_stop {k} z e = sym (more ∙ (rw (← e, ne_eqb k 0 z)))

    pub turn_go : 0 ≡ number i → first_word number end (n - (i + 1)) (i + 1) ≡ first_word number end (n - i) i
    turn_go e = sym (more ∙ (rw (← e)))

  pub turn_end : n ≤ i → end ≡ first_word number end (n - i) i
  turn_end h = let z : n - i ≡ 0 = omega arith in rw z

-- what is left of the words' verdict from word i on
module _ (b : Layout → ℕ → View → ℕ) (w : Layout → List ℕ → ℕ) (l : Layout) (img : List ℕ) where
  abbrev pub rest : ℕ → Verdict
  rest i = first_word (number_at b l img) (end_verdict w l img (l.code_size / 4)) (l.code_size / 4 - i) i

  pub begun : rest 0 ≡ words_verdict b w l img
  unfolding words_verdict
  begun = rw sub-zero

  module _ (i : ℕ) (e : length img ≡ l.code_size) where
    module _ (h : i < length img / 4) {after : Bool} (q : after ≡ passes is_branch (view_before img i)) where
      pub stopped : {k : ℕ} → Not (k ≡ 0) → k ≡ number_of_word b l img i after (view_at img i) → said (trial k i) ≡ rest i
      stopped z f = turn_stop (number_at b l img) _ i (l.code_size / 4) (omega (arith, h, e)) z (f ∙ ap (λ (a : Bool). number_of_word b l img i a (view_at img i)) q)

      pub gone : {r : Result Bool Refusal} {x : Bool} → r ≡ Ok x → refused_number r ≡ number_of_word b l img i after (view_at img i) → rest (i + 1) ≡ rest i
      gone p f =
          let z = ap (λ (r : Result Bool Refusal). refused_number r) (sym p) ∙ f in
          turn_go (number_at b l img) _ i (l.code_size / 4) (omega (arith, h, e)) (z ∙ ap (λ (a : Bool). number_of_word b l img i a (view_at img i)) q)

    pub ended : length img / 4 ≤ i → end_verdict w l img (length img / 4) ≡ rest i
    ended h =
        let n : length img / 4 ≡ l.code_size / 4 = ap (λ (k : ℕ). k / 4) e in
        rw n (turn_end (number_at b l img) _ i (l.code_size / 4) (omega (arith, h, n)))

pub is_last_jump : (img : List ℕ) (i : ℕ) {x : ℕ} {j : Bool} → x ≡ word_at img i → j ≡ passes is_jump (word_view x) → j ≡ passes is_jump (view_at img i)
unfolding view_at
is_last_jump img i p q = q ∙ ap (λ (k : ℕ). passes is_jump (word_view k)) p

-- ---- the numbers of words are those of their trials

module _ (word : ℕ → ℕ → Bool) (at after : ℕ → List Trial) where
  abbrev first : List Trial → Verdict
  first ts = first_of (λ (t : Trial). word t.number t.word) ts

  -- word i gives number k, 0 where it breaks nothing
  abbrev pub Gives : ℕ → ℕ → Type 0
  Gives i k = (ts : List Trial) → first (at i ++ ts) ≡ given (λ (j : ℕ). said (trial j i)) (first ts) k

  module _ (i n k : ℕ) (g : Gives i k) (h : i < n) where
    tried : words_by word at after (n - i) i ≡ given (λ (j : ℕ). said (trial j i)) (words_by word at after (n - (i + 1)) (i + 1)) k
    tried =
        let z : n - i ≡ suc (n - (i + 1)) = omega arith in
        rw (z, add-one i) (g (in_turn at after (n - suc i) (suc i)))

    pub scan_stop : Not (k ≡ 0) → said (trial k i) ≡ words_by word at after (n - i) i
    scan_stop z = sym (tried ∙ (rw (ne_eqb k 0 z)))

    pub scan_go : k ≡ 0 → words_by word at after (n - (i + 1)) (i + 1) ≡ words_by word at after (n - i) i
    scan_go z = sym (tried ∙ (rw z))

  pub scan_end : (i n : ℕ) → i ≤ n → n ≤ i → first (after n) ≡ words_by word at after (n - i) i
  scan_end i n h k =
      let z : n - i ≡ 0 = omega arith in
      let d : i ≡ n = omega arith in
      rw (z, d)

  -- so what the code's loop says of the k words that are left of n is what their trials say
  module _ (number : ℕ → ℕ) (end : Verdict) (g : (i : ℕ) → Gives i (number i)) (n : ℕ) (e : first (after n) ≡ end) where
    left_of : (k i : ℕ) → i + k ≡ n → first_word number end k i ≡ words_by word at after k i
    left_of zero i p =
        let z : n - i ≡ 0 = omega (arith, p) in
        sym e ∙ (rw z at (scan_end i n (omega (arith, p)) (omega (arith, p))))
    left_of (suc k) i p =
        let z : n - i ≡ suc k = omega (arith, p) in
        let y : n - (i + 1) ≡ k = omega (arith, p) in
        let h : i < n = omega (arith, p) in
        by_zero (λ (x : Verdict). x ≡ words_by word at after (suc k) i) (number i)
        (λ b. left_of k (suc i) (omega (arith, p)) ∙ (rw (z, y, add-one i) at (scan_go i n (number i) (g i) h b)))
        (λ b. rw z at (scan_stop i n (number i) (g i) h b))

  pub turned : (number : ℕ → ℕ) (end : Verdict) → ((i : ℕ) → Gives i (number i)) → (n i : ℕ) → first (after (i + n)) ≡ end
      → first_word number end n i ≡ words_by word at after n i
  turned number end g n i e = left_of number end g (i + n) e n i refl

-- ---- the words of the checker

-- the trials 8 to 15, 22 and 25 of what a word is seen as, and the number that they give
pub seen_ladder : (t : ℕ → Verdict) (x : Verdict) (l : Layout) (img : List ℕ) (i : ℕ) (after : Bool) (o : Option View)
    → cond (not (passes (λ v. true) o)) (t 8)
    (cond (passes (λ v. v.barred) o) (t 9)
    (cond (passes broken10 o) (t 10)
    (cond (passes broken11 o) (t 11)
    (cond (passes (broken12 img i) o) (t 12)
    (cond (passes (broken22 l.data_size img i) o) (t 22)
    (cond (passes (broken25 img i) o) (t 25)
    (cond (passes (broken13 l.code_size img i) o) (t 13)
    (cond (passes (broken14 after) o) (t 14)
    (cond (passes (broken15 l img i) o) (t 15) x)))))))))
    ≡ given t x (word_refusal l img i after o)
unfolding data_refusal word_refusal
seen_ladder t x l img i after None = refl
seen_ladder t x l img i after (Some v) =
    ladder t x false v.barred (broken10 v) (broken11 v) (broken12 img i v) (broken22 l.data_size img i v) (broken25 img i v) (broken13 l.code_size img i v)
    (broken14 after v) (broken15 l img i v)

module _ (l : Layout) (img : List ℕ) where
  word_first : (i : ℕ) → Gives (is_word_broken l img) trials_at trials_after i (word_refusal l img i (passes is_branch (view_before img i)) (view_at img i))
  unfolding is_word_broken
  word_first i ts =
      seen_ladder (λ (k : ℕ). said (trial k i)) (first_of (λ (t : Trial). is_word_broken l img t.number t.word) ts) l img i
      (passes is_branch (view_before img i)) (view_at img i)

  -- with no rule of branches beside them
  none_more : (k i : ℕ) (o : Option View) → k ≡ cond (eqb k 0) (number_of_branch (λ _ _ _. 0) l i o) k
  none_more k i o = by_zero (λ (x : ℕ). k ≡ x) k (λ z. z ∙ sym (none o)) (λ _. refl)
    where
      none : (o : Option View) → number_of_branch (λ _ _ _. 0) l i o ≡ 0
      none None = refl
      none (Some v) = by_test (λ (x : ℕ). x ≡ 0) (is_branch v) (λ _. refl) (λ _. refl)

  basic_gives : (i : ℕ) → Gives (is_word_broken l img) trials_at trials_after i (number_at (λ _ _ _. 0) l img i)
  unfolding number_of_word
  basic_gives i = subst (Gives (is_word_broken l img) trials_at trials_after i) (none_more (word_refusal l img i (passes is_branch (view_before img i)) (view_at img i)) i (view_at img i)) (word_first i)

  basic_ended : (n : ℕ) → first_of (λ (t : Trial). is_word_broken l img t.number t.word) (trials_after n) ≡ end_verdict (λ _ _. 0) l img n
  unfolding is_word_broken
  basic_ended n = refl

  pub basic_words : words_verdict (λ _ _ _. 0) (λ _ _. 0) l img ≡ words_by (is_word_broken l img) trials_at trials_after (l.code_size / 4) 0
  unfolding words_verdict
  basic_words =
      turned (is_word_broken l img) trials_at trials_after (number_at (λ _ _ _. 0) l img) _ basic_gives (l.code_size / 4) 0
      (rw zero-add (basic_ended (l.code_size / 4)))

-- ---- a word that is plain need not be read

pub neither : (a b : Bool) → a || b ≡ false → (a ≡ false) × (b ≡ false)
neither true b h = absurd (false≢true (sym h))
neither false b h = (refl, h)

plain_none : (o : Option View) → passes is_plain o ≡ true → false ≡ passes is_branch o
plain_none None h = refl
plain_none (Some v) h =
    let b = both (not v.barred) _ h in
    let c = both (not (is_base v.written)) _ b.1 in
    let d = both (not v.link) _ c.1 in
    let f = both (not (is_some v.width)) _ d.1 in
    sym (not-true (is_branch v) f.1)

module _ (of_branch : Layout → ℕ → View → ℕ) (l : Layout) (img : List ℕ) (i : ℕ) (after : Bool) where
  plain_zero : (o : Option View) → passes is_plain o ≡ true → 0 ≡ number_of_word of_branch l img i after o
  unfolding number_of_word word_refusal broken10 broken11 broken12 broken22 broken25 data_refusal broken13 broken14 broken15
  plain_zero None h = absurd (false≢true h)
  plain_zero (Some v) h =
      let b = both (not v.barred) _ h in
      let c = both (not (is_base v.written)) _ b.1 in
      let d = both (not v.link) _ c.1 in
      let f = both (not (is_some v.width)) _ d.1 in
      let g = neither (is_relative v.flow) _ (not-true (is_branch v) f.1) in
      let j = neither (is_region v.flow) _ g.1 in
      rw (not-true v.barred b.0, not-true (is_base v.written) c.0, not-true v.link d.0, not-true (is_some v.width) f.0, g.0, j.0, j.1)

module _ (l : Layout) (img : List ℕ) (i : ℕ) {w : ℕ} (e : w ≡ word_at img i) where
  pub view_is : {v : Option View} → v ≡ word_view w → v ≡ view_at img i
  unfolding view_at
  view_is q = q ∙ ap word_view e

  module _ (h : PlainWord w) where
    pub plain_branch : false ≡ passes is_branch (view_at img i)
    plain_branch = plain_none (view_at img i) (ap (passes is_plain) (sym (view_is refl)) ∙ h)

    pub plain_number : (of_branch : Layout → ℕ → View → ℕ) (after : Bool) → 0 ≡ number_of_word of_branch l img i after (view_at img i)
    plain_number of_branch after = plain_zero of_branch l img i after (view_at img i) (ap (passes is_plain) (sym (view_is refl)) ∙ h)

-- ---- the whole

layout_ladder : (t : ℕ → Verdict) (x : Verdict) (a b c d e f : Bool)
    → cond a (t 1) (cond b (t 2) (cond c (t 3) (cond d (t 4) (cond e (t 5) (cond f (t 6) x)))))
    ≡ given t x (cond a 1 (cond b 2 (cond c 3 (cond d 4 (cond e 5 (cond f 6 0))))))
layout_ladder t x true b c d e f = refl
layout_ladder t x false true c d e f = refl
layout_ladder t x false false true d e f = refl
layout_ladder t x false false false true e f = refl
layout_ladder t x false false false false true f = refl
layout_ladder t x false false false false false true = refl
layout_ladder t x false false false false false false = refl

-- and one more, 7
image_ladder : (t : ℕ → Verdict) (x : Verdict) (k : ℕ) (z e : Bool) → eqb k 0 ≡ z
    → cond z (cond (not e) (t 7) x) (t k) ≡ given t x (cond z (cond e 0 7) k)
image_ladder t x k true true h = refl
image_ladder t x k true false h = refl
image_ladder t x k false e h = rw h

-- tests that agree on all trials find the same
first_same : (b c : Trial → Bool) (ts : List Trial) → All (λ t. b t ≡ c t) ts → first_of b ts ≡ first_of c ts
first_same b c [] h = refl
first_same b c (t ∷ ts) h = rw h.0 (ap (λ (v : Verdict). cond (c t) (said t) v) (first_same b c ts h.1))

-- a trial of the words, and not of layout and image
abbrev pub OfWords : Trial → Type 0
OfWords t = 7 < t.number

module _ (word : ℕ → ℕ → Bool) (at after : ℕ → List Trial) (l : Layout) (len : ℕ) (img : List ℕ) where
  file_first : first_of (broken_by word l len img) (trials_by at after l)
      ≡ given (λ (k : ℕ). verdict k no_place) (first_of (broken_by word l len img) (in_turn at after (l.code_size / 4) 0)) (file_refusal l len img)
  unfolding is_file_broken layout_refusal file_refusal
  file_first =
      let t : ℕ → Verdict = λ k. verdict k no_place in
      let x = first_of (broken_by word l len img) (in_turn at after (l.code_size / 4) 0) in
      let e = eqb (length img) l.code_size in
      layout_ladder t (cond (not e) (t 7) x) (broken1 len) (broken2 l) (broken3 l) (broken4 l len) (broken5 l len) (broken6 l)
      ∙ image_ladder t x (layout_refusal l len) _ e refl

  -- the rules of words do not hang on the memory's length
  words_same : (ts : List Trial) → All OfWords ts → first_of (broken_by word l len img) ts ≡ first_of (λ (t : Trial). word t.number t.word) ts
  words_same ts h =
      first_same _ _ ts
      (implied OfWords (λ t. broken_by word l len img t ≡ word t.number t.word) (λ t p. rw (lt-leb t.number 7 p)) ts h)

  module _ {r : ℕ} (e : r ≡ file_refusal l len img) where
    pub file_refused : Not (r ≡ 0) → verdict r no_place ≡ first_of (broken_by word l len img) (trials_by at after l)
    file_refused h = sym (file_first ∙ (rw (← e, ne_eqb r 0 h)))

    pub words_tried : r ≡ 0 → All OfWords (in_turn at after (l.code_size / 4) 0) → {v : Verdict} → v ≡ words_by word at after (l.code_size / 4) 0
        → v ≡ first_of (broken_by word l len img) (trials_by at after l)
    words_tried z h q = q ∙ sym (file_first ∙ (rw (← e, z) (words_same (in_turn at after (l.code_size / 4) 0) h)))

  -- so the code's verdict on layout, image and words is that of the trials, where that on the words is
  pub image_tried : All OfWords (in_turn at after (l.code_size / 4) 0) → (b : Layout → ℕ → View → ℕ) (w : Layout → List ℕ → ℕ)
      → words_verdict b w l img ≡ words_by word at after (l.code_size / 4) 0
      → image_verdict b w l len img ≡ first_of (broken_by word l len img) (trials_by at after l)
  unfolding image_verdict
  image_tried h b w q =
      ap (λ (v : Verdict). given (λ (k : ℕ). verdict k no_place) v (file_refusal l len img))
      (q ∙ sym (words_same (in_turn at after (l.code_size / 4) 0) h))
      ∙ sym file_first

-- what 1 to 7 leave to the words
cleared : (k : ℕ) (z e : Bool) → eqb k 0 ≡ z → cond z (cond e 0 7) k ≡ 0 → (k ≡ 0) × (e ≡ true)
cleared k true true h q = (eqb-true k 0 h, refl)
cleared k true false h q = absurd (omega (arith, q))
cleared k false e h q = absurd (eqb-false k 0 h q)

module _ (l : Layout) (len : ℕ) (img : List ℕ) (z : 0 ≡ layout_refusal l len) where
  sized_by : length img ≡ l.code_size → Sized l img
  sized_by e =
      let k = kept l len (sym z) in
      record { length_is = e; least = k.least; words = omega (arith, k.size); aligned = omega (arith, k.base); inside = omega (arith, k.inside, k.within) }

  pub sized_when : (r : Refusal) (k : ℕ) → k ≡ l.code_size → Ok tt ≡ refused_when r (not (eqb (length img) k)) → Sized l img
  sized_when r k q e = sized_by (eqb-true (length img) k (not-false _ (unbroken r _ e)) ∙ q)

module _ (l : Layout) (len : ℕ) (img : List ℕ) (e : 0 ≡ file_refusal l len img) where
  left : (layout_refusal l len ≡ 0) × (eqb (length img) l.code_size ≡ true)
  unfolding file_refusal
  left = cleared (layout_refusal l len) _ _ refl (sym e)

  pub sized : Sized l img
  sized = sized_by l len img (sym left.0) (eqb-true (length img) l.code_size left.1)

-- what holds of the numbers that the file can be refused by holds of the one that it is
module _ (P : ℕ → Type 0) (l : Layout) (len : ℕ) (img : List ℕ) where
  pub by_file : ((k : ℕ) → k ≤ 6 → P k) → (layout_refusal l len ≡ 0 → Not (length img ≡ l.code_size) → P 7) → P (file_refusal l len img)
  unfolding file_refusal
  by_file file image =
      by_zero P (layout_refusal l len)
      (λ z. by_test P (eqb (length img) l.code_size) (λ _. file 0 (omega arith)) (λ n. image z (eqb-false (length img) l.code_size n)))
      (λ _. file (layout_refusal l len) (refusal_most l len))

-- ---- the checker's verdict

pub all_of_words : (n i : ℕ) → All OfWords (in_turn trials_at trials_after n i)
all_of_words n i = of_words OfWords trials_at trials_after n i (λ j _ _. omega arith, omega arith)

module _ (l : Layout) (len : ℕ) (img : List ℕ) where
  pub basic_image : image_verdict (λ _ _ _. 0) (λ _ _. 0) l len img ≡ check_of l len img
  unfolding check_of
  basic_image = image_tried (is_word_broken l img) trials_at trials_after l len img (all_of_words (l.code_size / 4) 0) _ _ (basic_words l img)

  pub layout_refused : (r : Refusal) → number_of r ≡ layout_refusal l len → verdict (number_of r) no_place ≡ check_of l len img
  unfolding file_refusal check_of
  layout_refused r e =
      file_refused (is_word_broken l img) trials_at trials_after l len img (rw (← e, ne_eqb (number_of r) 0 (number_some r))) (number_some r)

-- ---- the code area of a memory

pub part_inside : (l : Layout) (len : ℕ) → 0 ≡ layout_refusal l len → l.code_base + l.code_size ≤ len
part_inside l len e = (kept l len (sym e)).inside

pub part_is : (l : Layout) (mem : List ℕ)
    → check_of l (length mem) (take (l.code_base + l.code_size - l.code_base) (drop l.code_base mem)) ≡ placed_of l mem
unfolding code_of
part_is l mem =
    let z : l.code_base + l.code_size - l.code_base ≡ l.code_size = omega arith in
    ap (λ (k : ℕ). check_of l (length mem) (take k (drop l.code_base mem))) z
