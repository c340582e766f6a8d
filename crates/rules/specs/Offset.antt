-- The offset of an access (document 01, Module and its guards: "the signed offset").
use Rattle.std.specs.Prelude.{ℕ, ◌%◌, ◌^◌, ℤ}
use Rattle.word.specs.Number.{signed_of}

unfoldable pub offset_of : ℕ → ℤ
offset_of v = signed_of 16 (v % 2 ^ 16)
