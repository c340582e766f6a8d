-- One field, whatever its role: reading then writing gives the field back, and writing then reading the operand and the value.
use mathlib.Core.Path.{◌≡◌, refl, sym}
use mathlib.Core.Bool.{Bool, true, false, cond}
use Prim.Native.Nat.{ℕ, ◌^◌, ◌<◌, ◌≤◌}
use native.Mathlib.Nat.{mod-lt, div-add-mod'}
use native.Mathlib.Omega.{arith}
use lib.Dec.{T, eqb, ltb, eqb→eq, eqb_refl, lt→ltb, ltb→lt}
use lib.Arith.{digits_div, digits_mod}
use lib.Pow.{pow_pos, pow_mono}
use Rattle.std.specs.Prelude.{Some, None, is_some}
use Rattle.isa.specs.declared.format.Role.{Role}
use Rattle.isa.specs.declared.format.Role.TheVariants.{Operand, Control, Fixed, Code, Part}
use Rattle.isa.specs.declared.control.Control.TheVariants.{BadAddress, Status, Cause, ReturnAddress}
use Rattle.isa.specs.Control.{is_control}
use Rattle.isa.specs.Reading.{accepts, operand, append}
use Rattle.isa.specs.Writing.{operand_fits, field_of, rest}

-- no operand stands in the field
abbrev pub no_operand : Role → Bool
no_operand Operand = false
no_operand Control = false
no_operand (Fixed m) = true
no_operand Code = true
no_operand Part = true

-- what the format fixes has room in a field of b bits: n is the instruction's code
abbrev pub has_room : Role → ℕ → ℕ → Bool
has_room Operand n b = true
has_room Control n b = true
has_room (Fixed m) n b = ltb m (2 ^ b)
has_room Code n b = ltb n (2 ^ b)
has_room Part n b = true

pub is_true : (b : Bool) → T b → b ≡ true
is_true true t = refl
is_true false t = absurd t

control_lt : (x : ℕ) → T (is_control x) → x < 32
control_lt x t = go (eqb x 8) (eqb x 12) (eqb x 13) (eqb x 14) (eqb→eq x 8) (eqb→eq x 12) (eqb→eq x 13) (eqb→eq x 14) t
  where
    go : (a b c d : Bool) → (T a → x ≡ 8) → (T b → x ≡ 12) → (T c → x ≡ 13) → (T d → x ≡ 14)
        → T (is_some (cond a (Some BadAddress) (cond b (Some Status) (cond c (Some Cause) (cond d (Some ReturnAddress) None))))) → x < 32
    go true b c d p q r s t = omega (arith, p tt)
    go false true c d p q r s t = omega (arith, q tt)
    go false false true d p q r s t = omega (arith, r tt)
    go false false false true p q r s t = omega (arith, s tt)
    go false false false false p q r s t = absurd t

module _ (n b : ℕ) where
  -- reading, then writing
  pub field_back : (r : Role) (v x : ℕ) → x < 2 ^ b → T (accepts r n x) → field_of r n b (append r b v x) (operand r x) ≡ x
  field_back Operand v x h t = refl
  field_back Control v x h t = refl
  field_back (Fixed m) v x h t = rw (eqb→eq x m t)
  field_back Code v x h t = rw (eqb→eq x n t)
  field_back Part v x h t = digits_mod v h

  pub rest_back : (r : Role) (v x : ℕ) → x < 2 ^ b → rest r b (append r b v x) ≡ v
  rest_back Operand v x h = refl
  rest_back Control v x h = refl
  rest_back (Fixed m) v x h = refl
  rest_back Code v x h = refl
  rest_back Part v x h = digits_div v h

  -- writing, then reading
  pub value_back : (r : Role) (v x : ℕ) → append r b (rest r b v) (field_of r n b v x) ≡ v
  value_back Operand v x = refl
  value_back Control v x = refl
  value_back (Fixed m) v x = refl
  value_back Code v x = refl
  value_back Part v x = div-add-mod' v (2 ^ b)

  pub operand_back : (r : Role) (v x : ℕ) → T (operand_fits r x) → operand r (field_of r n b v x) ≡ x
  operand_back Operand v x t = refl
  operand_back Control v x t = refl
  operand_back (Fixed m) v x t = rw (eqb→eq x 0 t)
  operand_back Code v x t = rw (eqb→eq x 0 t)
  operand_back Part v x t = rw (eqb→eq x 0 t)

  pub accepted : (r : Role) (v x : ℕ) → T (operand_fits r x) → T (accepts r n (field_of r n b v x))
  accepted Operand v x t = tt
  accepted Control v x t = t
  accepted (Fixed m) v x t = eqb_refl m
  accepted Code v x t = eqb_refl n
  accepted Part v x t = tt

  pub field_lt : 5 ≤ b → (r : Role) (v x : ℕ) → T (has_room r n b) → T (operand_fits r x) → field_of r n b v x < 2 ^ b
  field_lt w Operand v x s t = let p : 2 ^ 5 ≤ 2 ^ b = pow_mono w in omega (arith, ltb→lt x 32 t)
  field_lt w Control v x s t = let p : 2 ^ 5 ≤ 2 ^ b = pow_mono w in omega (arith, control_lt x t)
  field_lt w (Fixed m) v x s t = ltb→lt m (2 ^ b) s
  field_lt w Code v x s t = ltb→lt n (2 ^ b) s
  field_lt w Part v x s t = mod-lt v (pow_pos b)

pub fits_back : (n : ℕ) (r : Role) (x : ℕ) → x < 2 ^ 5 → T (accepts r n x) → T (operand_fits r (operand r x))
fits_back n Operand x h t = lt→ltb x 32 h
fits_back n Control x h t = t
fits_back n (Fixed m) x h t = tt
fits_back n Code x h t = tt
fits_back n Part x h t = tt

pub no_operand_law : (r : Role) (x : ℕ) → T (no_operand r) → operand r x ≡ 0
no_operand_law Operand x t = absurd t
no_operand_law Control x t = absurd t
no_operand_law (Fixed m) x t = refl
no_operand_law Code x t = refl
no_operand_law Part x t = refl

pub nothing_fits : (r : Role) → T (no_operand r) → T (operand_fits r 0)
nothing_fits Operand t = tt
nothing_fits Control t = absurd t
nothing_fits (Fixed m) t = tt
nothing_fits Code t = tt
nothing_fits Part t = tt

-- the field holds a fixed number or the code
abbrev pub is_fixed : Role → Bool
is_fixed Operand = false
is_fixed Control = false
is_fixed (Fixed m) = true
is_fixed Code = true
is_fixed Part = false

pub fixed_fits : (r : Role) → T (is_fixed r) → T (operand_fits r 0)
fixed_fits Operand t = absurd t
fixed_fits Control t = absurd t
fixed_fits (Fixed m) t = tt
fixed_fits Code t = tt
fixed_fits Part t = absurd t

pub fixed_back : (n b : ℕ) (r : Role) (v x y : ℕ) → T (is_fixed r) → T (accepts r n x) → field_of r n b v y ≡ x
fixed_back n b Operand v x y t s = absurd t
fixed_back n b Control v x y t s = absurd t
fixed_back n b (Fixed m) v x y t s = sym (eqb→eq x m s)
fixed_back n b Code v x y t s = sym (eqb→eq x n s)
fixed_back n b Part v x y t s = absurd t

pub operand_lt : (r : Role) (x : ℕ) → x < 2 ^ 5 → operand r x < 2 ^ 5
operand_lt Operand x h = h
operand_lt Control x h = h
operand_lt (Fixed m) x h = omega arith
operand_lt Code x h = omega arith
operand_lt Part x h = omega arith
