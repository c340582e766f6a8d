-- The control registers by number (document 01, Machine): 8, 12, 13 and 14.
use Rattle.std.specs.Prelude.{ℕ, ◌≡◌, Bool, cond, eqb, Option, Some, None, is_some, Result, ok_or}
use Rattle.refusal.specs.declared.Refusal.{Refusal}
use Rattle.refusal.specs.declared.Refusal.TheVariants.{IllegalField}
use Rattle.isa.specs.declared.control.Control.{Control}
use Rattle.isa.specs.declared.control.Control.TheVariants.{BadAddress, Status, Cause, ReturnAddress}

abbrev pub control_at : ℕ → Option Control
control_at x =
    cond (eqb x 8) (Some BadAddress) (cond (eqb x 12) (Some Status) (cond (eqb x 13) (Some Cause) (cond (eqb x 14) (Some ReturnAddress) None)))

abbrev pub is_control : ℕ → Bool
is_control x = is_some (control_at x)

-- another number is refused as a field that is not legal
abbrev pub IsControlAt : ℕ → Result Control Refusal → Type 0
IsControlAt x r = r ≡ ok_or (control_at x) IllegalField
