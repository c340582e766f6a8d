-- Rule 20 of what is no branch or jump.
use Prim.Native.Nat.{ℕ, ◌+◌, ◌*◌}
use mathlib.Core.Path.{◌≡◌}
use mathlib.Core.Bool.{Bool, false, not, ◌&&◌, ◌||◌}
use Rattle.layout.specs.declared.Layout.{Layout}
use Rattle.view.specs.declared.View.{View}
use Rattle.view.specs.View.{is_relative, is_region, is_register}
use Rattle.rules.specs.Rules.{target_of}
use Rattle.profile.specs.Rules.{is_forward, broken20}

-- neither JR nor JALR, without a direct target
aimless : (r d x : Bool) → r ≡ false → d ≡ false → false ≡ (r || d && not x)
aimless r d x p q = rw (p, q)

module _ (l : Layout) (i : ℕ) (v : View) where
  abbrev to : ℕ
  to = target_of v (l.code_base + 4 * i)

  pub undirected : is_register v.flow ≡ false → is_relative v.flow || is_region v.flow ≡ false → false ≡ broken20 l i v
  unfolding broken20
  undirected r h = aimless (is_register v.flow) (is_relative v.flow || is_region v.flow) (is_forward l i v to) r h
