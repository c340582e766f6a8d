-- What an answer of the start call tells its caller (document 02, Ticket 8).
use Rattle.std.specs.Prelude.{ℕ, ◌+◌, ◌<◌, ◌≡◌, ◌⊎◌, List, length}
use Rattle.layout.specs.declared.Layout.{Layout}
use Rattle.machine.specs.declared.state.State.{State}
use Rattle.machine.specs.State.{register_of}
use Rattle.codec.specs.Bytes.{word_at}
use Rattle.rules.specs.Not.{Not}
use Rattle.checker.specs.declared.verdict.Verdict.{Verdict}
use Rattle.checker.specs.Check.{no_place, accepted, check_of, code_of}
use Rattle.start.specs.Start.{user_of}

-- register 26 holds the data base and 27 the code base
abbrev pub Based : Layout → State → Type 0
Based l s = (register_of s.registers 26 ≡ l.data_base) × (register_of s.registers 27 ≡ l.code_base)

-- of verdict v, where `own` is the state's own refusal
pub record Told (own : ℕ) (l : Layout) (img : List ℕ) (s : State) (m : List ℕ) (v : Verdict) : Type 0 where
  -- what the checker refuses is the answer, with its place, whatever the state is
  pub on_refusal : Not (check_of l (length m) img ≡ accepted) → v ≡ check_of l (length m) img
  -- after it there are three refusals, and none names a place
  pub number_is : check_of l (length m) img ≡ accepted → (v.number ≡ 0) ⊎ ((v.number ≡ 17) ⊎ ((v.number ≡ 26) ⊎ (v.number ≡ 27)))
  pub no_word : check_of l (length m) img ≡ accepted → v.place ≡ no_place
  -- each tells that all tried before it was in order, so that together they tell when each comes
  pub on_17 : v.number ≡ 17 → (check_of l (length m) img ≡ accepted) × (own ≡ 17)
  pub on_26 : v.number ≡ 26 → (check_of l (length m) img ≡ accepted) × ((own ≡ 0) × Not (code_of l m ≡ img))
  pub on_27 : v.number ≡ 27 → (check_of l (length m) img ≡ accepted) × ((own ≡ 0) × ((code_of l m ≡ img) × Not (Based l s)))
  pub on_0 : v.number ≡ 0 → (check_of l (length m) img ≡ accepted) × ((own ≡ 0) × ((code_of l m ≡ img) × Based l s))

-- ---- the 41 words of a state that is started

-- PC, next PC and the status are set, and every other word is as it was
pub record Kept (l : Layout) (old new : List ℕ) : Type 0 where
  pub long : length new ≡ 164
  pub pc : word_at new 34 ≡ l.code_base
  pub next_pc : word_at new 35 ≡ l.code_base + 4
  pub status : word_at new 38 ≡ user_of (word_at old 38)
  pub others : (k : ℕ) → k < 41 → Not (k ≡ 34) → Not (k ≡ 35) → Not (k ≡ 38) → word_at new k ≡ word_at old k
