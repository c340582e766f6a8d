-- A word for a signed integer, where one stands for it.
use Rattle.std.specs.Prelude.{ℕ, cond, ℤ, Option, Some, None}
use Rattle.word.specs.Number.{fits_of, wrap_of}

unfoldable pub checked_of : ℤ → Option ℕ
checked_of z = cond (fits_of 32 z) (Some (wrap_of 32 z)) None
