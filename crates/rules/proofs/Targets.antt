-- Where branches lead: targets and program counters are aligned.
use Prim.Native.Nat.{ℕ, ◌+◌, ◌*◌, ◌%◌, ◌≤◌}
use mathlib.Core.Path.{◌≡◌}
use mathlib.Core.Bool.{Bool, true, false, cond}
use mathlib.Core.List.{List}
use native.Mathlib.Omega.{arith}
use lib.ListN.{length}
use Rattle.effect.specs.Sound.{Aligned}
use Rattle.branch.specs.Branch.{relative_of, region_of}
use Rattle.branch.proofs.Targets.{relative_aligned, region_aligned}
use Rattle.layout.specs.declared.Layout.{Layout}
use Rattle.view.specs.declared.View.{View}
use Rattle.view.specs.View.{is_relative}
use Rattle.rules.specs.Rules.{Sized, target_of}

pub target_aligned : (v : View) (pc : ℕ) → Aligned pc → target_of v pc % 4 ≡ 0
unfolding target_of
target_aligned v pc h = go (is_relative v.flow)
  where
    go : (b : Bool) → cond b (relative_of pc v.value) (region_of pc v.value) % 4 ≡ 0
    go true = (relative_aligned v.value h).1
    go false = (region_aligned v.value h).1

-- the program counter of word i
pub pc_aligned : (l : Layout) (img : List ℕ) (i : ℕ) → Sized l img → 4 * i + 4 ≤ length img → Aligned (l.code_base + 4 * i)
pc_aligned l img i s h = (omega (arith, s.length_is, s.inside), omega (arith, s.aligned))
