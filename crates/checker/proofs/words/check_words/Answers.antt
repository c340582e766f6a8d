use Rattle.view.specs.View.{passes, is_branch}
use Rattle.checker.proofs.Scan.{none_before, begun, handed_on, gone}
use mathlib.Core.Path.{ap, sym, ◌∙◌}
use Rattle.checker.proofs.words.check_words.Goals as goal

pub loop-i-init : goal.loop-i-init
loop-i-init g c = (ap (passes is_branch) (none_before _), begun _ _ _ _)

pub loop-i-preserved : goal.loop-i-preserved
loop-i-preserved g c =
    let v = c.loop-i.invariant in
    let e = c.in_ok-after.ensures.passed in (
      handed_on _ _ e c.try_word.ensures.branch,
      gone _ g.P.Profile.of_whole _ _ _ c.args.whole.sized.length_is (rw (sym c.words-i-end.ensures) c.loop-i-test.true) v.0 e c.try_word.ensures.number ∙ v.1,
    )
