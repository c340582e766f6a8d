-- No refusal has the number 0.
use mathlib.Core.Path.{◌≡◌}
use native.Mathlib.Omega.{arith}
use Rattle.refusal.specs.declared.Refusal.{Refusal}
use Rattle.refusal.specs.declared.Refusal.TheVariants as R
use Rattle.refusal.specs.Refusal.{number_of}

pub number_some : (r : Refusal) → number_of r ≡ 0 → ⊥
number_some R.MemoryTooLong z = omega (arith, z)
number_some R.CodeSize z = omega (arith, z)
number_some R.DataSize z = omega (arith, z)
number_some R.CodePlace z = omega (arith, z)
number_some R.DataPlace z = omega (arith, z)
number_some R.Overlap z = omega (arith, z)
number_some R.ImageLength z = omega (arith, z)
number_some R.NoInstruction z = omega (arith, z)
number_some R.Barred z = omega (arith, z)
number_some R.WritesBase z = omega (arith, z)
number_some R.LinkOverBase z = omega (arith, z)
number_some R.DataGuard z = omega (arith, z)
number_some R.CodeGuard z = omega (arith, z)
number_some R.BranchAfterBranch z = omega (arith, z)
number_some R.Target z = omega (arith, z)
number_some R.NoLastJump z = omega (arith, z)
number_some R.State z = omega (arith, z)
number_some R.IllegalField z = omega (arith, z)
number_some R.NotServed z = omega (arith, z)
number_some R.NotForward z = omega (arith, z)
number_some R.LastBundle z = omega (arith, z)
number_some R.DataMask z = omega (arith, z)
number_some R.NoSpace z = omega (arith, z)
number_some R.Record z = omega (arith, z)
number_some R.MaskHole z = omega (arith, z)
number_some R.CodeBytes z = omega (arith, z)
number_some R.Bases z = omega (arith, z)
