-- The width of an access, in bytes (document 01, Module and its guards).
use Rattle.std.specs.Prelude.{ℕ, ◌≡◌, Option, Some, None}
use Rattle.isa.specs.declared.width.Width.{Width}
use Rattle.isa.specs.declared.width.Width.TheVariants.{Byte, Half, Word}

abbrev pub bytes_in : Width → ℕ
bytes_in Byte = 1
bytes_in Half = 2
bytes_in Word = 4

abbrev pub IsBytesOf : Width → ℕ → Type 0
IsBytesOf w n = n ≡ bytes_in w

-- 0 of what is no access
abbrev pub bytes_of : Option Width → ℕ
bytes_of (Some w) = bytes_in w
bytes_of None = 0
