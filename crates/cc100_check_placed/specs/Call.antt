-- What cc100_check_placed answers: the checker's verdict on the part of memory that is the code area. It writes nothing.
use Rattle.std.specs.Prelude.{ℕ, List}
use Rattle.layout.specs.Layout.{layout_of}
use Rattle.checker.specs.declared.verdict.Verdict.{Verdict}
use Rattle.checker.specs.Check.{placed_of}

abbrev pub placed_call : ℕ → ℕ → ℕ → ℕ → List ℕ → Verdict
placed_call cb cs db ds mem = placed_of (layout_of cb cs db ds) mem
