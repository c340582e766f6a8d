-- Document 004, sections 1.1.8, 1.1.10 and 1.1.11: exceptions, privileged instructions, SYNC, each beside its Operation in 1.2. b is GPR[rt].
use Rattle.std.specs.Prelude.{ℕ, ◌+◌, ◌*◌, ◌%◌, ◌/◌, ◌^◌, Bool, cond, not, ◌&&◌, eqb, Result, Ok, Err}
use Rattle.std.specs.Option.{unwrap_or}
use Rattle.isa.specs.declared.control.Control as C
use Rattle.isa.specs.declared.control.Control.TheVariants.{BadAddress, Status, Cause, ReturnAddress}
use Rattle.isa.specs.Control.{control_at}
use Rattle.isa.specs.declared.kind.System.{System}
use Rattle.isa.specs.declared.kind.System.TheVariants.{Syscall, Break, Rfe, Mfc0, Mtc0, Sync}
use Rattle.effect.specs.declared.effect.Special.{Special}
use Rattle.effect.specs.declared.effect.Effect.{Effect}
use Rattle.effect.specs.declared.effect.Effect.TheVariants.{Advance, Write, Control, Return}
use Rattle.effect.specs.declared.exit.Exit.{Exit}
use Rattle.effect.specs.declared.exit.Exit.TheVariants as E

-- the status register's current mode, bit 3: user, not kernel (document 01, Machine)
unfoldable pub is_user : ℕ → Bool
is_user status = eqb (status / 2 ^ 3 % 2) 1

-- w bits of the status from bit k up move down by one: (old, previous, current) ← (0, old, previous)
abbrev pub moved : ℕ → ℕ → ℕ → ℕ
moved k w status = status / 2 ^ k % 2 ^ w / 2 * 2 ^ k

-- interrupt enables, modes, interrupt history
unfoldable pub restored : ℕ → ℕ
restored status = moved 0 3 status + (moved 3 3 status + moved 6 7 status)

-- an instruction names 8, 12, 13 or 14 (document 01, Machine); any other number is taken for 14
unfoldable pub control_named : ℕ → C.Control
control_named d = unwrap_or (control_at d) ReturnAddress

-- ICR of each
abbrev pub control_of : Special → C.Control → ℕ
control_of s BadAddress = s.bad
control_of s Status = s.status
control_of s Cause = s.cause
control_of s ReturnAddress = s.epc

-- code 15 does not raise the exception in kernel mode (1.2.58)
unfoldable pub system_call_of : ℕ → ℕ → Exit
system_call_of code status = cond (eqb code 15 && not (is_user status)) E.StopCores E.SystemCall

-- code 15 enters debug mode and raises no exception (1.2.15)
unfoldable pub breakpoint_of : ℕ → Exit
breakpoint_of code = cond (eqb code 15) E.DebugBreak E.Breakpoint

unfoldable pub privileged : ℕ → Exit → Effect → Result Effect Exit
privileged status exit e = cond (is_user status) (Err exit) (Ok e)

-- RFE clears the LL bit where its effect is carried out; SYSCALL exits as System Call (document 01, Machine)
abbrev pub system_of : System → ℕ → ℕ → ℕ → ℕ → Special → Result Effect Exit
system_of Syscall rt rd b v s = Err (system_call_of v s.status)
system_of Break rt rd b v s = Err (breakpoint_of v)
system_of Rfe rt rd b v s = privileged s.status E.PrivilegedInstruction (Return (restored s.status))
system_of Mfc0 rt rd b v s = privileged s.status E.PrivilegedData (Write rt (control_of s (control_named rd)))
system_of Mtc0 rt rd b v s = privileged s.status E.PrivilegedData (Control (control_named rd) b)
system_of Sync rt rd b v s = Ok Advance
