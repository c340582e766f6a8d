-- What each instruction does, in the few ways that matter to confinement: one clause for each; after this nothing goes by kinds.
use Prim.Native.Nat.{ℕ, ◌%◌}
use mathlib.Core.Path.{◌≡◌, refl}
use mathlib.Core.Bool.{Bool, true, false, not, cond, ◌&&◌}
use mathlib.Core.Logic.{◌⊎◌, inl, inr}
use lib.IntN.{ℤ}
use native.Mathlib.Omega.{arith}
use lib.Dec.{T, eqb, ltb, ltb→lt}
use borrow.Author.Tests.{eqb-true, not-true}
use Rattle.std.specs.Prelude.{Result, Ok, Err}
use Rattle.std.specs.Result.{MatchResult}
use Rattle.word.specs.Number.{fits_of}
use Rattle.word.proofs.Choice.{by_test, both}
use Rattle.isa.specs.declared.kind.Alu.{Alu}
use Rattle.isa.specs.declared.kind.Alu.TheVariants.{Add, Addu, Sub, Subu, Slt, Sltu, And, Or, Xor, Nor}
use Rattle.isa.specs.declared.kind.Immediate.{Immediate}
use Rattle.isa.specs.declared.kind.Immediate.TheVariants.{Addi, Addiu, Slti, Sltiu, Andi, Ori, Xori, Lui}
use Rattle.isa.specs.declared.kind.Shift.{Shift}
use Rattle.isa.specs.declared.kind.Shift.TheVariants.{Sll, Srl, Sra, Sllv, Srlv, Srav}
use Rattle.isa.specs.declared.kind.Multiply.{Multiply}
use Rattle.isa.specs.declared.kind.Multiply.TheVariants.{Mult, Multu, Div, Divu, Mfhi, Mthi, Mflo, Mtlo}
use Rattle.isa.specs.declared.kind.Access.{Access}
use Rattle.isa.specs.declared.kind.Access.TheVariants.{Lb, Lbu, Sb, Lh, Lhu, Sh, Lw, Sw, Ll, Sc}
use Rattle.isa.specs.declared.kind.Branch.{Branch}
use Rattle.isa.specs.declared.kind.Branch.TheVariants.{J, Jal, Jr, Jalr, Beq, Bne, Blez, Bgtz, Bltz, Bgez, Bltzal, Bgezal}
use Rattle.isa.specs.declared.kind.Trap.{Trap}
use Rattle.isa.specs.declared.kind.System.{System}
use Rattle.isa.specs.declared.kind.System.TheVariants.{Syscall, Break, Rfe, Mfc0, Mtc0, Sync}
use Rattle.isa.specs.declared.kind.Kind.{Kind}
use Rattle.isa.specs.declared.kind.Kind.TheVariants as K
use Rattle.isa.specs.declared.kind.Instruction.{Instruction}
use Rattle.class.specs.declared.Flow.{Flow}
use Rattle.class.specs.declared.Flow.TheVariants.{Onward, Relative, Region, Register}
use Rattle.isa.specs.Width.{bytes_of}
use Rattle.class.specs.Class.{class_of, width_accessed, named}
use Rattle.effect.specs.declared.effect.Special.{Special}
use Rattle.effect.specs.declared.effect.Effect.{Effect}
use Rattle.effect.specs.declared.effect.Effect.TheVariants.{Advance, Write, Pair, Jump, Link, LoadByte, LoadHalf, LoadWord, LoadLinked, StoreByte, StoreHalf, StoreWord, StoreLinked, Control, Return}
use Rattle.effect.specs.declared.exit.Exit.{Exit}
use Rattle.effect.specs.declared.exit.Exit.TheVariants as E
use Rattle.effect.specs.Exit.{number_of}
use Rattle.arithmetic.specs.Arithmetic.{alu_of, immediate_of, shift_of, multiply_of, checked, product, divided}
use Rattle.access.specs.Access.{access_of, address_of, reaches, load_if, store_if, conditional}
use Rattle.branch.specs.Branch.{slot_of, relative_of, region_of, branch_of, branch_if, link_if, jump_if}
use Rattle.trap.specs.Trap.{condition, trap_if, trap_of}
use Rattle.system.specs.System.{is_user, system_of, system_call_of, breakpoint_of, privileged}
use Rattle.decision.specs.Decision.{by_kind, decision_of}
use Rattle.view.specs.Guard.{is_mask, is_merge}
use Rattle.rules.specs.Not.{Not}
use Rattle.confinement.specs.Demand.{Allowed}

-- ---- what matters of an effect

-- where the instruction's flow lets next PC become t; a is GPR[rs]
abbrev pub Leads : Flow → Instruction → ℕ → Special → ℕ → Type 0
Leads Onward i a c t = t ≡ slot_of c.next_pc
Leads Relative i a c t = (t ≡ slot_of c.next_pc) ⊎ (t ≡ relative_of c.pc i.value)
Leads Region i a c t = t ≡ region_of c.pc i.value
Leads Register i a c t = t ≡ a

-- neither an access nor a branch, nor a word of a guard
pub record Idle (k : Kind) : Type 0 where
  pub onward : (class_of k).flow ≡ Onward
  pub no_access : bytes_of (width_accessed k) ≡ 0
  pub no_mask : is_mask k ≡ false
  pub no_merge : is_merge k ≡ false

-- rule 9 of one instruction
abbrev pub Unbarred : Kind → ℕ → Type 0
Unbarred k v =
    Not (k ≡ K.System Mfc0)
    × (Not (k ≡ K.System Mtc0) × (Not (k ≡ K.System Rfe) × ((k ≡ K.System Break) → Not (v ≡ 15))))

-- why it exits by number e
pub data Leaves (k : Kind) (i : Instruction) (a : ℕ) (c : Special) (n e : ℕ) : Type 0 where
  allowed : Allowed e → Idle k → Leaves k i a c n e
  unreached : Not (bytes_of (width_accessed k) ≡ 0) → reaches (bytes_of (width_accessed k)) (address_of a i.value) n ≡ false → Leaves k i a c n e
  unaligned : (class_of k).flow ≡ Register → eqb (a % 4) 0 ≡ false → Leaves k i a c n e
  barred : Not (Unbarred k i.value) → Leaves k i a c n e
  kernel : is_user c.status ≡ false → Leaves k i a c n e

module _ (k : Kind) (i : Instruction) (a : ℕ) (c : Special) (n : ℕ) where
  abbrev pub Goes : ℕ → Type 0
  Goes t = Leads (class_of k).flow i a c t

  -- it goes on to the next word but one
  abbrev pub On : Type 0
  On = Goes (slot_of c.next_pc)

  -- it writes the register that its class names, and no other
  abbrev pub Puts : ℕ → Type 0
  Puts r = r ≡ named (class_of k).destination i

  abbrev pub Follows : Effect → Type 0
  Follows Advance = On
  Follows (Write r v) = Puts r × On
  Follows (Pair h l) = On
  Follows (Jump t) = Goes t
  Follows (Link r v t) = Puts r × Goes t
  Follows (LoadByte r x s) = Puts r × On
  Follows (LoadHalf r x s) = Puts r × On
  Follows (LoadWord r x) = Puts r × On
  Follows (LoadLinked r x) = Puts r × On
  Follows (StoreByte x v) = On
  Follows (StoreHalf x v) = On
  Follows (StoreWord x v) = On
  Follows (StoreLinked r x v) = Puts r × On
  Follows (Control r v) = is_user c.status ≡ false
  Follows (Return s) = is_user c.status ≡ false

  pub record Obeys (d : Result Effect Exit) : Type 0 where
    pub follows : MatchResult d Follows (λ x. Leaves k i a c n (number_of x))

-- ---- effects of each form

-- an access is of one byte at least
wide : (n w : ℕ) → n ≡ w → T (ltb 0 w) → Not (n ≡ 0)
wide n w q t e = omega (arith, e, q, ltb→lt 0 w t)

module _ {k : Kind} {i : Instruction} {a : ℕ} {c : Special} {n : ℕ} where
  does : {e : Effect} → Follows k i a c n e → Obeys k i a c n (Ok e)
  does f = record { follows = f }

  exits : {x : Exit} → Leaves k i a c n (number_of x) → Obeys k i a c n (Err x)
  exits f = record { follows = f }

  either : (t : Bool) {x y : Result Effect Exit} → (t ≡ true → Obeys k i a c n x) → (t ≡ false → Obeys k i a c n y) → Obeys k i a c n (cond t x y)
  either t p q = by_test (Obeys k i a c n) t p q

  -- one of two effects, of two exits
  one_of : (t : Bool) {x y : Effect} → Obeys k i a c n (Ok x) → Obeys k i a c n (Ok y) → Obeys k i a c n (Ok (cond t x y))
  one_of t p q = by_test (λ e. Obeys k i a c n (Ok e)) t (λ _. p) (λ _. q)

  exits_by : (t : Bool) {x y : Exit} → (t ≡ true → Obeys k i a c n (Err x)) → (t ≡ false → Obeys k i a c n (Err y)) → Obeys k i a c n (Err (cond t x y))
  exits_by t p q = by_test (λ x. Obeys k i a c n (Err x)) t p q

  checks : (r : ℕ) (z : ℤ) → Puts k i a c n r → On k i a c n → Idle k → Obeys k i a c n (checked r z)
  unfolding checked
  checks r z p o h = either (fits_of 32 z) (λ _. does (p, o)) (λ _. exits (allowed (inl refl) h))

  multiplies : (p : ℕ) → On k i a c n → Obeys k i a c n (Ok (product p))
  unfolding product
  multiplies p o = does o

  divides : (x d q r : ℕ) → On k i a c n → Obeys k i a c n (Ok (divided x d q r))
  unfolding divided
  divides x d q r o = one_of (eqb d 0) (does o) (does o)

  traps : (t : Bool) → On k i a c n → Idle k → Obeys k i a c n (trap_if t)
  unfolding trap_if
  traps t o h = either t (λ _. exits (allowed (inr (inr (inr refl))) h)) (λ _. does o)

  jumps : {e : Effect} → (class_of k).flow ≡ Register → Obeys k i a c n (Ok e) → Obeys k i a c n (jump_if a e)
  unfolding jump_if
  jumps r f = either (eqb (a % 4) 0) (λ _. f) (λ q. exits (unaligned r q))

  privileges : (x : Exit) {e : Effect} → Not (Unbarred k i.value) → (is_user c.status ≡ false → Obeys k i a c n (Ok e)) → Obeys k i a c n (privileged c.status x e)
  unfolding privileged
  privileges x u f = either (is_user c.status) (λ _. exits (barred u)) f

  misses : (w : ℕ) (x : Exit) → bytes_of (width_accessed k) ≡ w → T (ltb 0 w) → reaches w (address_of a i.value) n ≡ false → Obeys k i a c n (Err x)
  misses w x q t z =
      let u : reaches (bytes_of (width_accessed k)) (address_of a i.value) n ≡ false = rw q z in
      exits (unreached (wide _ w q t) u)

  loads : (w : ℕ) {e : Effect} → bytes_of (width_accessed k) ≡ w → T (ltb 0 w) → Obeys k i a c n (Ok e) → Obeys k i a c n (load_if (reaches w (address_of a i.value) n) e)
  unfolding load_if
  loads w q t f = either _ (λ _. f) (misses w E.Load q t)

  stores : (w : ℕ) {e : Effect} → bytes_of (width_accessed k) ≡ w → T (ltb 0 w) → Obeys k i a c n (Ok e) → Obeys k i a c n (store_if (reaches w (address_of a i.value) n) e)
  unfolding store_if
  stores w q t f = either _ (λ _. f) (misses w E.Store q t)

-- ---- the instructions

idle : {k : Kind} → (class_of k).flow ≡ Onward → bytes_of (width_accessed k) ≡ 0 → is_mask k ≡ false → is_merge k ≡ false → Idle k
idle f w a o = record { onward = f; no_access = w; no_mask = a; no_merge = o }

module _ (i : Instruction) (a b : ℕ) (c : Special) (n : ℕ) where
  alu_obeys : (k : Alu) → Obeys (K.Alu k) i a c n (alu_of k i.rd a b)
  alu_obeys Add = checks i.rd _ refl refl (idle refl refl refl refl)
  alu_obeys Addu = does (refl, refl)
  alu_obeys Sub = checks i.rd _ refl refl (idle refl refl refl refl)
  alu_obeys Subu = does (refl, refl)
  alu_obeys Slt = does (refl, refl)
  alu_obeys Sltu = does (refl, refl)
  alu_obeys And = does (refl, refl)
  alu_obeys Or = does (refl, refl)
  alu_obeys Xor = does (refl, refl)
  alu_obeys Nor = does (refl, refl)

  immediate_obeys : (k : Immediate) → Obeys (K.Immediate k) i a c n (immediate_of k i.rt a i.value)
  immediate_obeys Addi = checks i.rt _ refl refl (idle refl refl refl refl)
  immediate_obeys Addiu = does (refl, refl)
  immediate_obeys Slti = does (refl, refl)
  immediate_obeys Sltiu = does (refl, refl)
  immediate_obeys Andi = does (refl, refl)
  immediate_obeys Ori = does (refl, refl)
  immediate_obeys Xori = does (refl, refl)
  immediate_obeys Lui = does (refl, refl)

  shift_obeys : (k : Shift) → Obeys (K.Shift k) i a c n (Ok (shift_of k i.rd a b i.shift))
  shift_obeys Sll = does (refl, refl)
  shift_obeys Srl = does (refl, refl)
  shift_obeys Sra = does (refl, refl)
  shift_obeys Sllv = does (refl, refl)
  shift_obeys Srlv = does (refl, refl)
  shift_obeys Srav = does (refl, refl)

  multiply_obeys : (k : Multiply) → Obeys (K.Multiply k) i a c n (Ok (multiply_of k i.rd a b c.hi c.lo))
  multiply_obeys Mult = multiplies _ refl
  multiply_obeys Multu = multiplies _ refl
  multiply_obeys Div = divides a b _ _ refl
  multiply_obeys Divu = divides a b _ _ refl
  multiply_obeys Mfhi = does (refl, refl)
  multiply_obeys Mthi = does refl
  multiply_obeys Mflo = does (refl, refl)
  multiply_obeys Mtlo = does refl

  conditional_obeys : (ll : Bool) (x : ℕ) → Obeys (K.Access Sc) i a c n (Ok (conditional ll i.rt x b))
  unfolding conditional
  conditional_obeys true x = does (refl, refl)
  conditional_obeys false x = does (refl, refl)

  access_obeys : (k : Access) → Obeys (K.Access k) i a c n (access_of k i.rt a b i.value c.ll n)
  access_obeys Lb = loads 1 refl tt (does (refl, refl))
  access_obeys Lbu = loads 1 refl tt (does (refl, refl))
  access_obeys Sb = stores 1 refl tt (does refl)
  access_obeys Lh = loads 2 refl tt (does (refl, refl))
  access_obeys Lhu = loads 2 refl tt (does (refl, refl))
  access_obeys Sh = stores 2 refl tt (does refl)
  access_obeys Lw = loads 4 refl tt (does (refl, refl))
  access_obeys Sw = stores 4 refl tt (does refl)
  access_obeys Ll = loads 4 refl tt (does (refl, refl))
  access_obeys Sc = stores 4 refl tt (conditional_obeys c.ll (address_of a i.value))

  module _ (k : Branch) (f : (class_of (K.Branch k)).flow ≡ Relative) where
    leads : (t : ℕ) → (t ≡ slot_of c.next_pc) ⊎ (t ≡ relative_of c.pc i.value) → Goes (K.Branch k) i a c n t
    leads t h = rw f h

    branches : (t : Bool) → Obeys (K.Branch k) i a c n (Ok (branch_if t c.pc i.value))
    unfolding branch_if
    branches t = one_of t (does (leads _ (inr refl))) (does (leads _ (inl refl)))

    links : (t : Bool) → Puts (K.Branch k) i a c n 31 → Obeys (K.Branch k) i a c n (Ok (link_if t c.pc c.next_pc i.value))
    unfolding link_if
    links true p = does (p, leads _ (inr refl))
    links false p = does (p, leads _ (inl refl))

  branch_obeys : (k : Branch) → Obeys (K.Branch k) i a c n (branch_of k i.rd a b i.value c.pc c.next_pc)
  branch_obeys J = does refl
  branch_obeys Jal = does (refl, refl)
  branch_obeys Jr = jumps refl (does refl)
  branch_obeys Jalr = jumps refl (does (refl, refl))
  branch_obeys Beq = branches Beq refl _
  branch_obeys Bne = branches Bne refl _
  branch_obeys Blez = branches Blez refl _
  branch_obeys Bgtz = branches Bgtz refl _
  branch_obeys Bltz = branches Bltz refl _
  branch_obeys Bgez = branches Bgez refl _
  branch_obeys Bltzal = links Bltzal refl _ refl
  branch_obeys Bgezal = links Bgezal refl _ refl

  trap_obeys : (k : Trap) → Obeys (K.Trap k) i a c n (trap_of k a b i.value)
  trap_obeys k = traps (condition k a b i.value) refl (idle refl refl refl refl)

  calls : Obeys (K.System Syscall) i a c n (Err (system_call_of i.value c.status))
  unfolding system_call_of
  calls =
      exits_by (eqb i.value 15 && not (is_user c.status))
      (λ e. exits (kernel (not-true _ (both (eqb i.value 15) _ e).1)))
      (λ _. exits (allowed (inr (inl refl)) (idle refl refl refl refl)))

  breaks : Obeys (K.System Break) i a c n (Err (breakpoint_of i.value))
  unfolding breakpoint_of
  breaks =
      exits_by (eqb i.value 15)
      (λ e. exits (barred (λ u. u.1.1.1 refl (eqb-true _ _ e))))
      (λ _. exits (allowed (inr (inr (inl refl))) (idle refl refl refl refl)))

  system_obeys : (k : System) → Obeys (K.System k) i a c n (system_of k i.rt i.rd b i.value c)
  system_obeys Syscall = calls
  system_obeys Break = breaks
  system_obeys Rfe = privileges _ (λ u. u.1.1.0 refl) (λ e. does e)
  system_obeys Mfc0 = privileges _ (λ u. u.0 refl) (λ _. does (refl, refl))
  system_obeys Mtc0 = privileges _ (λ u. u.1.0 refl) (λ e. does e)
  system_obeys Sync = does refl

  kind_obeys : (k : Kind) → Obeys k i a c n (by_kind k i a b c n)
  kind_obeys (K.Alu k) = alu_obeys k
  kind_obeys (K.Immediate k) = immediate_obeys k
  kind_obeys (K.Shift k) = shift_obeys k
  kind_obeys (K.Multiply k) = multiply_obeys k
  kind_obeys (K.Access k) = access_obeys k
  kind_obeys (K.Branch k) = branch_obeys k
  kind_obeys (K.Trap k) = trap_obeys k
  kind_obeys (K.System k) = system_obeys k

  pub obeys : Obeys i.kind i a c n (decision_of i a b c n)
  unfolding decision_of
  obeys = kind_obeys i.kind
