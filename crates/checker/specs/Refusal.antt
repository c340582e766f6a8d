-- What a refusal says: a rule that is broken where it is tried, and none before it in the order of `trials_of`.
use Rattle.std.specs.Prelude.{ℕ, ◌+◌, ◌^◌, ◌≤◌, ◌<◌, ◌≡◌, ◌⊎◌, Bool, true, false, List, [], ◌∷◌, ◌++◌, eqb, leb, length}
use Rattle.word.specs.Bytes.{longest}
use Rattle.layout.specs.declared.Layout.{Layout}
use Rattle.checker.specs.declared.verdict.Verdict.{Verdict}
use Rattle.checker.specs.Check.{Trial, no_place, of_mask, trials_of}
use Rattle.rules.specs.Not.{Not}
use Rattle.rules.specs.Offset.{offset_of}
use Rattle.isa.specs.declared.kind.Instruction.{Instruction}
use Rattle.checker.specs.Lawful.{words_in, Power, Placed, Apart, Stands, Accesses, Guarded, FitsData, width_of, Rule8, Rule9, Rule10, Rule11, Rule12, Rule22, Rule25, Rule13, Rule14, Rule15, Rule16}

abbrev pub pick : Bool → Type 0 → Type 0 → Type 0
pick true P Q = P
pick false P Q = Q

-- rule n of 1 to 7
abbrev pub FileRule : Layout → ℕ → List ℕ → ℕ → Type 0
FileRule l len img n =
    pick (eqb n 1) (len ≤ longest)
    (pick (eqb n 2) (Power 16 65536 l.code_size)
    (pick (eqb n 3) (Power 4 65536 l.data_size)
    (pick (eqb n 4) (Placed l.code_base l.code_size len)
    (pick (eqb n 5) (Placed l.data_base l.data_size len)
    (pick (eqb n 6) (Apart l)
    (pick (eqb n 7) (length img ≡ l.code_size) (Unit {0})))))))

-- rule n of 8 to 16, 22 and 25, at word i
abbrev pub WordRule : Layout → List ℕ → ℕ → ℕ → Type 0
WordRule l img n i =
    pick (eqb n 8) (Rule8 img i)
    (pick (eqb n 9) (Rule9 img i)
    (pick (eqb n 10) (Rule10 img i)
    (pick (eqb n 11) (Rule11 img i)
    (pick (eqb n 12) (Rule12 img i)
    (pick (eqb n 22) (Rule22 l img i)
    (pick (eqb n 25) (Rule25 img i)
    (pick (eqb n 13) (Rule13 l img i)
    (pick (eqb n 14) (Rule14 img i)
    (pick (eqb n 15) (Rule15 l img i)
    (pick (eqb n 16) (Rule16 img i) (Unit {0})))))))))))

-- the rule of a trial is kept where it is tried: 1 to 7, and any other as Word has it
abbrev pub KeepsBy : (ℕ → ℕ → Type 0) → Layout → ℕ → List ℕ → Trial → Type 0
KeepsBy Word l len img t = pick (leb t.number 7) (FileRule l len img t.number) (Word t.number t.word)

abbrev pub Keeps : Layout → ℕ → List ℕ → Trial → Type 0
Keeps l len img t = KeepsBy (WordRule l img) l len img t

-- P holds of every element
abbrev pub All : {A : Type 0} → (A → Type 0) → List A → Type 0
All P [] = Unit {0}
All P (x ∷ xs) = P x × All P xs

-- of the trials ts, t is broken and all before it are kept
pub record FirstBroken (P : Trial → Type 0) (ts : List Trial) (t : Trial) : Type 0 where
  pub before : List Trial
  pub after : List Trial
  pub order : ts ≡ before ++ (t ∷ after)
  pub kept : All P before
  pub broken : Not (P t)

-- trial t refuses the module
abbrev pub Refusal : Layout → ℕ → List ℕ → Trial → Type 0
Refusal l len img t = FirstBroken (Keeps l len img) (trials_of l) t

-- what a refusal by 12 tells of word i: an access whose guard words are missing or different
abbrev pub Unguarded : List ℕ → ℕ → Type 0
Unguarded img i = (x : Instruction) × (Stands img i x × (Accesses x × Not ((m : ℕ) × Guarded img i x.rs 26 m)))

-- and one by 22: an access whose guard words are right, but their mask and its offset don't fit
abbrev pub Misfit : Layout → List ℕ → ℕ → Type 0
Misfit l img i =
    (x : Instruction)
    × (Stands img i x
    × (Accesses x × ((m : ℕ) × (Guarded img i x.rs 26 m × Not (FitsData l.data_size m (offset_of x.value) (width_of x))))))

-- and one by 25: an access whose guard words are right, with a mask and an offset that fit, but the mask has holes
abbrev pub Holed : Layout → List ℕ → ℕ → Type 0
Holed l img i =
    (x : Instruction)
    × (Stands img i x
    × (Accesses x
    × ((m : ℕ)
    × (Guarded img i x.rs 26 m
    × (FitsData l.data_size m (offset_of x.value) (width_of x) × Not ((e : ℕ) × (m + width_of x ≡ 2 ^ e)))))))

-- the number and place of a verdict (document 01, under the Refusal table; document 02, Tickets 5 and 7): 8 to 16, 22 and 25 name a word of the module, all others no word
pub record Told (l : Layout) (v : Verdict) : Type 0 where
  pub number_is : (v.number ≤ 16) ⊎ ((v.number ≡ 22) ⊎ (v.number ≡ 25))
  pub no_word : v.number < 8 → v.place ≡ no_place
  pub a_word : 8 ≤ v.number → v.place < words_in l
  -- 22 and 25 name a word that two more follow, since an OR and an access stand there (`mask_told`, `hole_told`)
  pub a_mask : of_mask v.number ≡ true → v.place + 2 < words_in l
