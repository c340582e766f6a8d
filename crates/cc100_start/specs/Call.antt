-- What cc100_start answers and leaves, of a layout given as four numbers. It only reads image and memory.
use Rattle.std.specs.Prelude.{ℕ, List, Result}
use Rattle.layout.specs.Layout.{layout_of}
use Rattle.checker.specs.declared.verdict.Refused.{Refused}
use Rattle.checker.specs.declared.verdict.Verdict.{Verdict}
use Rattle.checker.specs.Said.{verdict_of}
use Rattle.start.specs.Start.{StartAnswer, start_call}

-- a verdict, and the state's bytes that are left
abbrev pub answer_of : Verdict → List ℕ → StartAnswer (List ℕ)
answer_of v b = record { verdict = v; state = b }

abbrev pub says : Result (Unit {0}) Refused → List ℕ → StartAnswer (List ℕ)
says r b = answer_of (verdict_of r) b

abbrev pub start_numbers : ℕ → ℕ → ℕ → ℕ → List ℕ → List ℕ → List ℕ → StartAnswer (List ℕ)
start_numbers cb cs db ds img b m = start_call (layout_of cb cs db ds) img b m
