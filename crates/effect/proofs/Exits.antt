-- The numbers of the exits are 40 to 52, so that 0 says that there is none.
use Prim.Native.Nat.{◌≤◌}
use native.Mathlib.Omega.{arith}
use Rattle.effect.specs.declared.exit.Exit as X
use Rattle.effect.specs.declared.exit.Exit.TheVariants as E
use Rattle.effect.specs.Exit.{number_of}

pub number_range : (e : X.Exit) → (40 ≤ number_of e) × (number_of e ≤ 52)
number_range E.IntegerOverflow = (omega arith, omega arith)
number_range E.Address = (omega arith, omega arith)
number_range E.Load = (omega arith, omega arith)
number_range E.Store = (omega arith, omega arith)
number_range E.PrivilegedData = (omega arith, omega arith)
number_range E.PrivilegedInstruction = (omega arith, omega arith)
number_range E.SystemCall = (omega arith, omega arith)
number_range E.Breakpoint = (omega arith, omega arith)
number_range E.Trap = (omega arith, omega arith)
number_range E.NoInstruction = (omega arith, omega arith)
number_range E.Fetch = (omega arith, omega arith)
number_range E.DebugBreak = (omega arith, omega arith)
number_range E.StopCores = (omega arith, omega arith)
