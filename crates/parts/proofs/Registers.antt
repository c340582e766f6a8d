-- A register written, by what the code finds.
use Prim.Native.Nat.{ℕ}
use mathlib.Core.Path.{◌≡◌}
use mathlib.Core.List.{List}
use lib.ListN.{set}
use borrow.Author.Tests.{ne_eqb}
use Rattle.parts.specs.Parts.{put_of}

module _ (l : List ℕ) (r v : ℕ) where
  pub put_other : (r ≡ 0 → ⊥) → set l r v ≡ put_of l r v
  unfolding put_of
  put_other n = rw (ne_eqb r 0 n)

  pub put_none : r ≡ 0 → l ≡ put_of l r v
  unfolding put_of
  put_none e = rw e
