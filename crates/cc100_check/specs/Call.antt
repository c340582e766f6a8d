-- What cc100_check answers: the checker's verdict on a layout given as four numbers. It writes nothing.
use Rattle.std.specs.Prelude.{ℕ, List}
use Rattle.layout.specs.Layout.{layout_of}
use Rattle.checker.specs.declared.verdict.Verdict.{Verdict}
use Rattle.checker.specs.Check.{check_of}

abbrev pub check_call : ℕ → ℕ → ℕ → ℕ → ℕ → List ℕ → Verdict
check_call len cb cs db ds img = check_of (layout_of cb cs db ds) len img
