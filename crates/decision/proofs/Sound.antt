-- Every effect of an instruction with operands in range is sound: one clause for each instruction.
use Prim.Native.Nat.{ℕ, ◌+◌, ◌%◌, ◌^◌, ◌<◌}
use mathlib.Core.Path.{◌≡◌, refl}
use mathlib.Core.Bool.{Bool, true, false, cond}
use lib.IntN.{ℤ, ◌*ℤ◌}
use lib.Signed.{quot_z, rem_z, shr_z}
use native.Mathlib.Omega.{arith}
use native.Mathlib.Nat.{div-le_self, mod-le}
use lib.Dec.{leb, eqb}
use lib.Bits.{and_lt, or_lt, xor_lt}
use borrow.Author.Tests.{leb-true, eqb-true}
use Rattle.std.specs.Prelude.{Result, Ok, Err}
use Rattle.word.specs.Number.{signed_of, fits_of}
use Rattle.std.proofs.lemmas.Nat.{mul-lt}
use Rattle.word.proofs.Numbers.{wrap_below}
use Rattle.isa.specs.Width.{bytes_of}
use Rattle.class.specs.Class.{width_accessed}
use Rattle.isa.proofs.RoundTrip.{Operands}
use Rattle.isa.specs.declared.kind.Instruction.{Instruction}
use Rattle.isa.specs.declared.kind.Alu.{Alu}
use Rattle.isa.specs.declared.kind.Alu.TheVariants.{Add, Addu, Sub, Subu, Slt, Sltu, And, Or, Xor, Nor}
use Rattle.isa.specs.declared.kind.Immediate.{Immediate}
use Rattle.isa.specs.declared.kind.Immediate.TheVariants.{Addi, Addiu, Slti, Sltiu, Andi, Ori, Xori, Lui}
use Rattle.isa.specs.declared.kind.Shift.{Shift}
use Rattle.isa.specs.declared.kind.Shift.TheVariants.{Sll, Srl, Sra, Sllv, Srlv, Srav}
use Rattle.isa.specs.declared.kind.Multiply.{Multiply}
use Rattle.isa.specs.declared.kind.Multiply.TheVariants.{Mult, Multu, Div, Divu, Mfhi, Mthi, Mflo, Mtlo}
use Rattle.isa.specs.declared.kind.Access.{Access}
use Rattle.isa.specs.declared.kind.Access.TheVariants.{Lb, Lbu, Sb, Lh, Lhu, Sh, Lw, Sw, Ll, Sc}
use Rattle.isa.specs.declared.kind.Branch.{Branch}
use Rattle.isa.specs.declared.kind.Branch.TheVariants.{J, Jal, Jr, Jalr, Beq, Bne, Blez, Bgtz, Bltz, Bgez, Bltzal, Bgezal}
use Rattle.isa.specs.declared.kind.Trap.{Trap}
use Rattle.isa.specs.declared.control.Control as C
use Rattle.isa.specs.declared.control.Control.TheVariants.{BadAddress, Status, Cause, ReturnAddress}
use Rattle.isa.specs.declared.kind.System.{System}
use Rattle.isa.specs.declared.kind.System.TheVariants.{Syscall, Break, Rfe, Mfc0, Mtc0, Sync}
use Rattle.isa.specs.declared.kind.Kind.{Kind}
use Rattle.isa.specs.declared.kind.Kind.TheVariants as K
use Rattle.effect.specs.declared.effect.Special.{Special}
use Rattle.word.proofs.Choice.{by_test, both}
use Rattle.effect.specs.declared.exit.Exit.{Exit}
use Rattle.effect.specs.declared.effect.Effect.{Effect}
use Rattle.effect.specs.declared.effect.Effect.TheVariants.{Advance, Write, Pair, Jump, Link}
use Rattle.arithmetic.specs.Arithmetic.{alu_of, immediate_of, shift_of, multiply_of, bit, checked, product, divided, shifted_left, shifted_right, shifted_signed}
use Rattle.access.specs.Access.{access_of, address_of, reaches, load_if, store_if, conditional}
use Rattle.branch.specs.Branch.{branch_of, branch_if, link_if, jump_if, link_of}
use Rattle.trap.specs.Trap.{condition, trap_if, trap_of}
use Rattle.system.specs.System.{system_of, control_named, control_of, restored, privileged, is_user}
use Rattle.branch.proofs.Targets.{slot_aligned, relative_aligned, region_aligned}
use Rattle.decision.specs.Decision.{by_kind, decision_of}
use Rattle.effect.specs.Sound.{Sound, Reach, Register, Word, Aligned, Regular}

-- ---- sound effects of each form

module _ {n at w : ℕ} where
  pub exits : (x : Exit) → Sound (Err x) n at w
  exits x = record { keeps = tt }

  either : (t : Bool) {x y : Result Effect Exit} → (t ≡ true → Sound x n at w) → Sound y n at w → Sound (cond t x y) n at w
  either t p q = by_test (λ d. Sound d n at w) t p (λ _. q)

  -- one of two effects
  one_of : (t : Bool) {x y : Effect} → Sound (Ok x) n at w → Sound (Ok y) n at w → Sound (Ok (cond t x y)) n at w
  one_of t p q = by_test (λ e. Sound (Ok e) n at w) t (λ _. p) (λ _. q)

  advances : Sound (Ok Advance) n at w
  advances = record { keeps = tt }

  writes : {r v : ℕ} → Register r → Word v → Sound (Ok (Write r v)) n at w
  writes h k = record { keeps = (h, k) }

  pairs : {h l : ℕ} → Word h → Word l → Sound (Ok (Pair h l)) n at w
  pairs h k = record { keeps = (h, k) }

  jumps : {t : ℕ} → Aligned t → Sound (Ok (Jump t)) n at w
  jumps h = record { keeps = h }

  links : {r v t : ℕ} → Register r → Word v → Aligned t → Sound (Ok (Link r v t)) n at w
  links h k l = record { keeps = (h, (k, l)) }

-- ---- arithmetic

bit_below : (t : Bool) → Word (bit t)
unfolding bit
bit_below true = omega arith
bit_below false = omega arith

module _ {n at w r : ℕ} (h : Register r) where
  sets : (t : Bool) → Sound (Ok (Write r (bit t))) n at w
  sets t = writes h (bit_below t)

  checks : (z : ℤ) → Sound (checked r z) n at w
  unfolding checked
  checks z = either (fits_of 32 z) (λ _. writes h (wrap_below 32 z)) (exits _)

multiplies : {n at w : ℕ} (p : ℕ) → p < 2 ^ 64 → Sound (Ok (product p)) n at w
unfolding product
multiplies p h = pairs (omega arith) (omega arith)

divides : {n at w a q r : ℕ} (d : ℕ) → Word a → Word q → Word r → Sound (Ok (divided a d q r)) n at w
unfolding divided
divides d ha h k = one_of (eqb d 0) (pairs ha (omega arith)) (pairs k h)

half_below : (v : ℕ) → v % 2 ^ 16 < 2 ^ 32
half_below v = omega arith

left_below : (b k : ℕ) → Word (shifted_left b k)
unfolding shifted_left
left_below b k = omega arith

signed_below : (b k : ℕ) → Word (shifted_signed b k)
unfolding shifted_signed
signed_below b k = wrap_below 32 (shr_z (signed_of 32 b) (2 ^ k))

right_below : {b : ℕ} (k : ℕ) → Word b → Word (shifted_right b k)
unfolding shifted_right
right_below {b} k h = omega (arith, div-le_self b (2 ^ k))

module _ {n at w rd a b : ℕ} (h : Register rd) (ha : Word a) (hb : Word b) where
  alu_sound : (k : Alu) → Sound (alu_of k rd a b) n at w
  alu_sound Add = checks h _
  alu_sound Addu = writes h (omega arith)
  alu_sound Sub = checks h _
  alu_sound Subu = writes h (omega arith)
  alu_sound Slt = sets h _
  alu_sound Sltu = sets h _
  alu_sound And = writes h (and_lt 32 a b ha hb)
  alu_sound Or = writes h (or_lt 32 a b ha hb)
  alu_sound Xor = writes h (xor_lt 32 a b ha hb)
  alu_sound Nor = writes h (omega arith)

  immediate_sound : (k : Immediate) (v : ℕ) → Sound (immediate_of k rd a v) n at w
  immediate_sound Addi v = checks h _
  immediate_sound Addiu v = writes h (omega arith)
  immediate_sound Slti v = sets h _
  immediate_sound Sltiu v = sets h _
  immediate_sound Andi v = writes h (and_lt 32 a (v % 2 ^ 16) ha (half_below v))
  immediate_sound Ori v = writes h (or_lt 32 a (v % 2 ^ 16) ha (half_below v))
  immediate_sound Xori v = writes h (xor_lt 32 a (v % 2 ^ 16) ha (half_below v))
  immediate_sound Lui v = writes h (omega arith)

  shift_sound : (k : Shift) (sa : ℕ) → Sound (Ok (shift_of k rd a b sa)) n at w
  shift_sound Sll sa = writes h (left_below b (sa % 2 ^ 5))
  shift_sound Srl sa = writes h (right_below (sa % 2 ^ 5) hb)
  shift_sound Sra sa = writes h (signed_below b (sa % 2 ^ 5))
  shift_sound Sllv sa = writes h (left_below b (a % 2 ^ 5))
  shift_sound Srlv sa = writes h (right_below (a % 2 ^ 5) hb)
  shift_sound Srav sa = writes h (signed_below b (a % 2 ^ 5))

  module _ {hi lo : ℕ} (hh : Word hi) (hl : Word lo) where
    multiply_sound : (k : Multiply) → Sound (Ok (multiply_of k rd a b hi lo)) n at w
    multiply_sound Mult = multiplies _ (wrap_below 64 (signed_of 32 a *ℤ signed_of 32 b))
    multiply_sound Multu = multiplies _ (mul-lt a b (2 ^ 32) (2 ^ 32) ha hb)
    multiply_sound Div =
        divides b ha (wrap_below 32 (quot_z (signed_of 32 a) (signed_of 32 b))) (wrap_below 32 (rem_z (signed_of 32 a) (signed_of 32 b)))
    multiply_sound Divu = divides b ha (omega (arith, div-le_self a b)) (omega (arith, mod-le a b))
    multiply_sound Mfhi = writes h hh
    multiply_sound Mthi = pairs ha hl
    multiply_sound Mflo = writes h hl
    multiply_sound Mtlo = pairs hh ha

-- ---- accesses

module _ {n : ℕ} where
  reach : (w a : ℕ) → reaches w a n ≡ true → Reach a w n a w
  unfolding reaches
  reach w a e =
      record { inside = leb-true (a + w) n (both (eqb (a % w) 0) (leb (a + w) n) e).1; same_address = refl; same_width = refl }

  module _ {at w : ℕ} where
    loads : (t : Bool) (e : Effect) → (t ≡ true → Sound (Ok e) n at w) → Sound (load_if t e) n at w
    unfolding load_if
    loads t e p = either t p (exits _)

    stores : (t : Bool) (e : Effect) → (t ≡ true → Sound (Ok e) n at w) → Sound (store_if t e) n at w
    unfolding store_if
    stores t e p = either t p (exits _)

    conditional_sound : {rt : ℕ} → Register rt → (ll : Bool) (a b : ℕ) → Reach a 4 n at w → Sound (Ok (conditional ll rt a b)) n at w
    unfolding conditional
    conditional_sound h ll a b l = one_of ll (record { keeps = (h, l) }) (writes h (omega arith))

  access_sound : {rt : ℕ} → Register rt → (k : Access) (a b v : ℕ) (ll : Bool) → Sound (access_of k rt a b v ll n) n (address_of a v) (bytes_of (width_accessed (K.Access k)))
  access_sound h Lb a b v ll = loads _ _ (λ e. record { keeps = (h, reach _ _ e) })
  access_sound h Lbu a b v ll = loads _ _ (λ e. record { keeps = (h, reach _ _ e) })
  access_sound h Sb a b v ll = stores _ _ (λ e. record { keeps = reach _ _ e })
  access_sound h Lh a b v ll = loads _ _ (λ e. record { keeps = (h, reach _ _ e) })
  access_sound h Lhu a b v ll = loads _ _ (λ e. record { keeps = (h, reach _ _ e) })
  access_sound h Sh a b v ll = stores _ _ (λ e. record { keeps = reach _ _ e })
  access_sound h Lw a b v ll = loads _ _ (λ e. record { keeps = (h, reach _ _ e) })
  access_sound h Sw a b v ll = stores _ _ (λ e. record { keeps = reach _ _ e })
  access_sound h Ll a b v ll = loads _ _ (λ e. record { keeps = (h, reach _ _ e) })
  access_sound h Sc a b v ll = stores _ _ (λ e. conditional_sound h _ _ _ (reach _ _ e))

-- ---- branches

link_below : (pc : ℕ) → Word (link_of pc)
unfolding link_of
link_below pc = omega arith

module _ {n at w pc : ℕ} (hp : Aligned pc) where
  branches : (t : Bool) (v : ℕ) → Sound (Ok (branch_if t pc v)) n at w
  unfolding branch_if
  branches t v = one_of t (jumps (relative_aligned v hp)) advances

  linking : (t : Bool) (next v : ℕ) → Aligned next → Sound (Ok (link_if t pc next v)) n at w
  unfolding link_if
  linking true next v h = links (omega arith) (link_below pc) (relative_aligned v hp)
  linking false next v h = links (omega arith) (link_below pc) (slot_aligned h)

  jumping : (t : ℕ) (e : Effect) → (t % 4 ≡ 0 → Sound (Ok e) n at w) → Sound (jump_if t e) n at w
  unfolding jump_if
  jumping t e p = either (eqb (t % 4) 0) (λ q. p (eqb-true (t % 4) 0 q)) (exits _)

  module _ {rd a next : ℕ} (h : Register rd) (ha : Word a) (hn : Aligned next) where
    branch_sound : (k : Branch) (b v : ℕ) → Sound (branch_of k rd a b v pc next) n at w
    branch_sound J b v = jumps (region_aligned v hp)
    branch_sound Jal b v = links (omega arith) (link_below pc) (region_aligned v hp)
    branch_sound Jr b v = jumping _ _ (λ e. jumps (ha, e))
    branch_sound Jalr b v = jumping _ _ (λ e. links h (link_below pc) (ha, e))
    branch_sound Beq b v = branches _ v
    branch_sound Bne b v = branches _ v
    branch_sound Blez b v = branches _ v
    branch_sound Bgtz b v = branches _ v
    branch_sound Bltz b v = branches _ v
    branch_sound Bgez b v = branches _ v
    branch_sound Bltzal b v = linking _ next v hn
    branch_sound Bgezal b v = linking _ next v hn

-- ---- traps, exceptions and privileged instructions

traps : {n at w : ℕ} (t : Bool) → Sound (trap_if t) n at w
unfolding trap_if
traps t = either t (λ _. exits _) advances

trap_sound : {n at w : ℕ} (k : Trap) (a b v : ℕ) → Sound (trap_of k a b v) n at w
trap_sound k a b v = traps (condition k a b v)

control_below : {s : Special} → Regular s → (c : C.Control) → Word (control_of s c)
control_below r BadAddress = r.bad
control_below r Status = omega (arith, r.status)
control_below r Cause = r.cause
control_below r ReturnAddress = r.epc

restored_below : (status : ℕ) → restored status < 2 ^ 13
unfolding restored
restored_below status = omega arith

module _ {n at w rt b : ℕ} {s : Special} (h : Register rt) (hb : Word b) (r : Regular s) where
  guarded : (e : Exit) (x : Effect) → Sound (Ok x) n at w → Sound (privileged s.status e x) n at w
  unfolding privileged
  guarded e x p = either (is_user s.status) (λ _. exits e) p

  system_sound : (k : System) (rd v : ℕ) → Sound (system_of k rt rd b v s) n at w
  system_sound Syscall rd v = exits _
  system_sound Break rd v = exits _
  system_sound Rfe rd v = guarded _ _ (record { keeps = restored_below s.status })
  system_sound Mfc0 rd v = guarded _ _ (writes h (control_below r (control_named rd)))
  system_sound Mtc0 rd v = guarded _ _ (record { keeps = hb })
  system_sound Sync rd v = advances

-- ---- every instruction

module _ (i : Instruction) (o : Operands i) {a b : ℕ} (ha : Word a) (hb : Word b) {s : Special} (r : Regular s) (n : ℕ) where
  by_kind_law : (k : Kind) → Sound (by_kind k i a b s n) n (address_of a i.value) (bytes_of (width_accessed k))
  by_kind_law (K.Alu k) = alu_sound o.rd ha hb k
  by_kind_law (K.Immediate k) = immediate_sound o.rt ha hb k i.value
  by_kind_law (K.Shift k) = shift_sound o.rd ha hb k i.shift
  by_kind_law (K.Multiply k) = multiply_sound o.rd ha hb r.hi r.lo k
  by_kind_law (K.Access k) = access_sound o.rt k a b i.value s.ll
  by_kind_law (K.Branch k) = branch_sound r.pc o.rd ha r.next_pc k b i.value
  by_kind_law (K.Trap k) = trap_sound k a b i.value
  by_kind_law (K.System k) = system_sound o.rt hb r k i.rd i.value

  pub decision_sound : Sound (decision_of i a b s n) n (address_of a i.value) (bytes_of (width_accessed i.kind))
  unfolding decision_of
  decision_sound = by_kind_law i.kind
