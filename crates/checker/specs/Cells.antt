-- The cells of a table, by which document 02's Ticket 7 is told.
use Rattle.std.specs.Prelude.{ℕ, ◌+◌, ◌-◌, ◌%◌}

-- the place of value a in a table of m + w bytes, of cells of w bytes: a itself, where that is the place of a cell
abbrev pub cell : ℕ → ℕ → ℕ → ℕ
cell m w a = a % (m + w) - a % w
