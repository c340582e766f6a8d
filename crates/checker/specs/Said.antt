-- What the code hands back of a module, and its verdict.
use Rattle.std.specs.Prelude.{ℕ, ◌≡◌, Option, Some, None, Result, Ok, Err}
use Rattle.refusal.specs.declared.Refusal.{Refusal}
use Rattle.refusal.specs.Refusal.{number_of}
use Rattle.checker.specs.declared.verdict.Refused.{Refused}
use Rattle.checker.specs.declared.verdict.Verdict.{Verdict}
use Rattle.checker.specs.Check.{verdict, no_place, accepted}

-- a rule of layout and image, which is broken at no word
abbrev pub IsPlaceless : Refusal → Refused → Type 0
IsPlaceless r x = (x.rule ≡ r) × (x.place ≡ None)

abbrev pub place_of : Option ℕ → ℕ
place_of (Some i) = i
place_of None = no_place

abbrev pub verdict_of : {A : Type 0} → Result A Refused → Verdict
verdict_of (Ok x) = accepted
verdict_of (Err r) = verdict (number_of r.rule) (place_of r.place)

abbrev pub IsVerdictOf : {A : Type 0} → Result A Refused → Verdict → Type 0
IsVerdictOf r v = v ≡ verdict_of r
