-- The two rules of the straight-through profile as tests, 20 and 21 (document 02, Ticket 2). Straight-through is document 02's word: control flow
-- goes forward only, but for the jump of the last bundle, whose first word exits. img is the image, i a word's index.
use Rattle.std.specs.Prelude.{ℕ, ◌+◌, ◌-◌, ◌*◌, ◌/◌, Bool, true, false, not, ◌&&◌, ◌||◌, List, eqb, leb, Option, Some, None}
use Rattle.isa.specs.declared.kind.Instruction.{Instruction}
use Rattle.isa.specs.declared.kind.System.{System}
use Rattle.isa.specs.declared.kind.System.TheVariants.{Syscall, Break, Rfe, Mfc0, Mtc0, Sync}
use Rattle.isa.specs.declared.kind.Kind.{Kind}
use Rattle.isa.specs.declared.kind.Kind.TheVariants as K
use Rattle.isa.specs.Reading.{read_of}
use Rattle.branch.specs.Branch.{region_of}
use Rattle.layout.specs.declared.Layout.{Layout}
use Rattle.view.specs.declared.View.{View}
use Rattle.view.specs.View.{passes, is_relative, is_region, is_register}
use Rattle.rules.specs.Rules.{word_at, view_at, target_of}

-- ---- targets

-- target t is at least two words after word i, and not past the last bundle's start
unfoldable pub is_ahead : Layout → ℕ → ℕ → Bool
is_ahead l i t = leb (l.code_base + 4 * (i + 2)) t && leb (t + 16) (l.code_base + l.code_size)

-- address t is the last bundle's start
abbrev pub is_last_bundle : Layout → ℕ → Bool
is_last_bundle l t = eqb (t + 16) (l.code_base + l.code_size)

abbrev pub is_j : View → Bool
is_j v = is_region v.flow && not v.link

-- a J to the last bundle's start in the last word but one, whatever the rest of the bundle holds
unfoldable pub is_excused : Layout → ℕ → View → ℕ → Bool
is_excused l i v t = is_j v && (eqb (i + 2) (l.code_size / 4) && is_last_bundle l t)

abbrev pub is_forward : Layout → ℕ → View → ℕ → Bool
is_forward l i v t = is_ahead l i t || is_excused l i v t

-- JR or JALR, or a target that isn't at least two words after it or is past the last bundle's start, and isn't excused
unfoldable pub broken20 : Layout → ℕ → View → Bool
broken20 l i v = is_register v.flow || (is_relative v.flow || is_region v.flow) && not (is_forward l i v (target_of v (l.code_base + 4 * i)))

-- ---- the last bundle

abbrev pub is_syscall : System → Bool
is_syscall Syscall = true
is_syscall Break = false
is_syscall Rfe = false
is_syscall Mfc0 = false
is_syscall Mtc0 = false
is_syscall Sync = false

abbrev pub is_syscall_kind : Kind → Bool
is_syscall_kind (K.Alu k) = false
is_syscall_kind (K.Immediate k) = false
is_syscall_kind (K.Shift k) = false
is_syscall_kind (K.Multiply k) = false
is_syscall_kind (K.Access k) = false
is_syscall_kind (K.Branch k) = false
is_syscall_kind (K.Trap k) = false
is_syscall_kind (K.System k) = is_syscall k

abbrev pub syscalls0 : Option Instruction → Bool
syscalls0 (Some x) = is_syscall_kind x.kind && eqb x.value 0
syscalls0 None = false

-- word w is SYSCALL with code 0
unfoldable pub is_syscall0 : ℕ → Bool
is_syscall0 w = syscalls0 (read_of w)

-- at word i, v is J to the last bundle's start
unfoldable pub is_back : Layout → ℕ → View → Bool
is_back l i v = is_j v && is_last_bundle l (region_of (l.code_base + 4 * i) v.value)

-- the last four of n words are not SYSCALL with code 0, a zero word, J to the last bundle's start, a zero word
unfoldable pub differs : Layout → List ℕ → ℕ → Bool
differs l img n =
    not
    (is_syscall0 (word_at img (n - 4))
    && (eqb (word_at img (n - 3)) 0 && (passes (is_back l (n - 2)) (view_at img (n - 2)) && eqb (word_at img (n - 1)) 0)))

abbrev pub broken21 : Layout → List ℕ → Bool
broken21 l img = differs l img (l.code_size / 4)
