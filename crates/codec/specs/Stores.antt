-- Words stored one after another, which is how encode's parts work.
use Rattle.std.specs.Prelude.{ℕ, ◌+◌, List, [], ◌∷◌}
use Rattle.word.specs.Bytes.{store_of}

-- the bytes with words from a on
unfoldable pub stores_of : List ℕ → ℕ → List ℕ → List ℕ
stores_of b a [] = b
stores_of b a (w ∷ ws) = stores_of (store_of 4 b a w) (a + 4) ws
