-- The numbers of the exits (document 01, Machine).
use Rattle.std.specs.Prelude.{ℕ, ◌≡◌, Option, None, Some}
use Rattle.effect.specs.declared.exit.Exit as X
use Rattle.effect.specs.declared.exit.Exit.TheVariants as E

-- 41: a jump to an address that is no multiple of four; 51: BREAK with code 15; 52: SYSCALL with code 15 in kernel mode
abbrev pub number_of : X.Exit → ℕ
number_of E.IntegerOverflow = 40
number_of E.Address = 41
number_of E.Load = 42
number_of E.Store = 43
number_of E.PrivilegedData = 44
number_of E.PrivilegedInstruction = 45
number_of E.SystemCall = 46
number_of E.Breakpoint = 47
number_of E.Trap = 48
number_of E.NoInstruction = 49
number_of E.Fetch = 50
number_of E.DebugBreak = 51
number_of E.StopCores = 52

abbrev pub IsNumberOf : X.Exit → ℕ → Type 0
IsNumberOf e n = n ≡ number_of e

-- 0 where there is no exit
abbrev pub exit_number : Option X.Exit → ℕ
exit_number None = 0
exit_number (Some e) = number_of e
