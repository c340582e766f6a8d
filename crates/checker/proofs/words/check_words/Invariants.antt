use Rattle.std.proofs.Common.{◌≡◌}
use Rattle.rules.specs.Rules.{view_before}
use Rattle.view.specs.View.{passes, is_branch}
use Rattle.checker.specs.Scan.{words_verdict}
use Rattle.checker.proofs.Scan.{rest}
use Rattle.checker.proofs.words.check_words.Given as goal

abbrev pub invariant-loop-i : goal.invariant-loop-i
invariant-loop-i g l =
    (l.after ≡ passes is_branch (view_before l.fn.whole.image.now l.i))
    × (rest g.P.Profile.of_branch g.P.Profile.of_whole l.fn.whole.layout l.fn.whole.image.now l.i ≡ words_verdict g.P.Profile.of_branch g.P.Profile.of_whole l.fn.whole.layout l.fn.whole.image.now)
