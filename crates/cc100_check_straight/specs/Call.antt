-- What cc100_check_straight answers: the profile's verdict on a layout given as four numbers (document 02, Ticket 2). It writes nothing.
use Rattle.std.specs.Prelude.{ℕ, List}
use Rattle.layout.specs.Layout.{layout_of}
use Rattle.checker.specs.declared.verdict.Verdict.{Verdict}
use Rattle.straight.specs.Check.{straight_of}

abbrev pub straight_call : ℕ → ℕ → ℕ → ℕ → ℕ → List ℕ → Verdict
straight_call len cb cs db ds img = straight_of (layout_of cb cs db ds) len img
