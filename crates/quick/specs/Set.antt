-- A set of numbers below 64 as a word of 64 bits: n is in it where bit n is 1.
use Rattle.std.specs.Prelude.{ℕ, ◌/◌, ◌%◌, ◌^◌, Bool, eqb}

unfoldable pub is_in : ℕ → ℕ → Bool
is_in set n = eqb (set / 2 ^ n % 2) 1
