-- The last of accesses in turn, and their widths.
use Prim.Native.Nat.{ℕ}
use mathlib.Core.Path.{◌≡◌, refl}
use mathlib.Core.Logic.{◌⊎◌, inl, inr}
use native.Mathlib.Omega.{arith}
use Rattle.std.specs.Prelude.{Option, None, Some}
use Rattle.isa.specs.declared.width.Width as W
use Rattle.isa.specs.declared.width.Width.TheVariants.{Byte, Half, Word}
use Rattle.isa.specs.Width.{bytes_in}
use Rattle.effect.specs.declared.effect.Touched.{Touched}
use Rattle.effect.specs.declared.effect.Touched.TheVariants.{Load, Store}
use Rattle.effect.specs.Touched.{last_of}

-- none before
pub last_first : (t : Option Touched) → last_of None t ≡ t
last_first None = refl
last_first (Some t) = refl

pub last_joined : (x y z : Option Touched) → last_of x (last_of y z) ≡ last_of (last_of x y) z
last_joined x y None = refl
last_joined x y (Some t) = refl

-- an access after it, and none
pub last_some : (x y : Option Touched) → (y ≡ None → ⊥) → last_of x y ≡ y
last_some x None n = absurd (n refl)
last_some x (Some t) n = refl

pub last_none : (x y : Option Touched) → y ≡ None → last_of x y ≡ x
last_none x y e = rw e

-- the widths of accesses
abbrev pub Width : ℕ → Type 0
Width w = (w ≡ 1) ⊎ ((w ≡ 2) ⊎ (w ≡ 4))

bytes_width : (w : W.Width) → Width (bytes_in w)
bytes_width Byte = inl refl
bytes_width Half = inr (inl refl)
bytes_width Word = inr (inr refl)

pub width_some : (w : W.Width) → bytes_in w ≡ 0 → ⊥
width_some Byte z = omega (arith, z)
width_some Half z = omega (arith, z)
width_some Word z = omega (arith, z)

abbrev pub Wide : Option Touched → Type 0
Wide None = Unit {0}
Wide (Some (Load a w)) = Width (bytes_in w)
Wide (Some (Store a w)) = Width (bytes_in w)

pub wide : (t : Option Touched) → Wide t
wide None = tt
wide (Some (Load a w)) = bytes_width w
wide (Some (Store a w)) = bytes_width w
