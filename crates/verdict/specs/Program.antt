-- What the verdict program says (document 01, Marked cases): the module's length is its code size, the other numbers are those of the
-- refusal table's examples, and more bytes than the longest module has are refusal 2.
use Rattle.std.specs.Prelude.{ℕ, cond, List, leb, length}
use Rattle.layout.specs.declared.Layout.{Layout}
use Rattle.layout.specs.Layout.{layout_of}
use Rattle.checker.specs.declared.verdict.Verdict.{Verdict}
use Rattle.checker.specs.Check.{verdict, no_place, check_of}

abbrev pub layout_for : ℕ → Layout
layout_for size = layout_of 0x10000 size 0x20000 64

-- img is the input as far as one byte more than the longest module has
unfoldable pub verdict_of : List ℕ → Verdict
verdict_of img = cond (leb (length img) 65536) (check_of (layout_for (length img)) 196608 img) (verdict 2 no_place)
