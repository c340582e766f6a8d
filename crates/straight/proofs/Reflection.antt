-- Each test of the profile is the test of its rule.
use Prim.Native.Nat.{ℕ, ◌-◌}
use mathlib.Core.Path.{◌≡◌, refl}
use mathlib.Core.Bool.{not, ◌&&◌}
use mathlib.Core.List.{List}
use lib.Dec.{eqb, leb}
use Rattle.isa.specs.declared.kind.Branch.TheVariants.{J}
use Rattle.isa.specs.declared.kind.System.TheVariants.{Syscall}
use Rattle.isa.specs.declared.kind.Kind.{Kind}
use Rattle.isa.specs.declared.kind.Kind.TheVariants as K
use Rattle.isa.specs.declared.kind.Instruction.{Instruction}
use Rattle.class.specs.Class.{class_of}
use Rattle.layout.specs.declared.Layout.{Layout}
use Rattle.view.specs.View.{passes, is_region, seen}
use Rattle.rules.specs.Rules.{word_at, view_at}
use Rattle.checker.specs.Check.{Trial, broken_by}
use Rattle.checker.specs.Lawful.{flow_of}
use Rattle.checker.proofs.Says.{Says, Denies, eqs, les, ands, ors, both, lacks, bars, picks, some_reading}
use Rattle.checker.proofs.Reflection.{sole, registers, reading_at, every_word, some_word, targets, file_rules, word_rules}
use Rattle.profile.specs.Rules as C
use Rattle.straight.specs.Straight as S
use Rattle.straight.specs.Check.{is_straight_broken}
use Rattle.straight.specs.Refusal.{StraightRule, StraightKeeps}

-- J is the one jump to an index that leaves no link
js : (k : Kind) → Says (k ≡ K.Branch J) (is_region (class_of k).flow && not (class_of k).link)
js = sole (λ k. is_region (class_of k).flow && not (class_of k).link) (K.Branch J) tt

syscalls : (k : Kind) → Says (k ≡ K.System Syscall) (C.is_syscall_kind k)
syscalls = sole C.is_syscall_kind (K.System Syscall) tt

module _ (l : Layout) (img : List ℕ) (i : ℕ) where
  aheads : (t : ℕ) → Says (S.Ahead l i t) (C.is_ahead l i t)
  unfolding C.is_ahead
  aheads t = ands (les _ _) (les _ _)

  excuses : (x : Instruction) (t : ℕ) → Says (S.Excused l i x t) (C.is_excused l i (seen x) t)
  unfolding seen C.is_excused
  excuses x t = ands (js x.kind) (ands (eqs _ _) (eqs _ _))

  rule20 : Denies (S.Rule20 l img i) (passes (C.broken20 l i) (view_at img i))
  unfolding seen C.broken20
  rule20 =
      every_word img i _ (C.broken20 l i)
      (λ x. both (bars (registers (flow_of x))) (targets l img i x _ (λ t. not (C.is_forward l i (seen x) t)) (λ t. lacks (ors (aheads t) (excuses x t)))))

  calls : Says (S.Syscall0 img i) (C.is_syscall0 (word_at img i))
  unfolding C.is_syscall0
  calls = some_reading _ C.syscalls0 refl (reading_at img i) (λ x e. ands (syscalls x.kind) (eqs x.value 0))

  backs : Says (S.Back l img i) (passes (C.is_back l i) (view_at img i))
  unfolding seen C.is_back
  backs = some_word img i _ (C.is_back l i) (λ x. ands (js x.kind) (eqs _ _))

module _ (l : Layout) (img : List ℕ) where
  endings : (n : ℕ) → Denies (S.Ending l img n) (C.differs l img n)
  unfolding C.differs
  endings n = lacks (ands (calls l img (n - 4)) (ands (eqs _ _) (ands (backs l img (n - 2)) (eqs _ _))))

  straight_rules : (n i : ℕ) → Denies (StraightRule l img n i) (is_straight_broken l img n i)
  unfolding is_straight_broken
  straight_rules n i = picks (eqb n 20) (rule20 l img i) (picks (eqb n 21) (endings _) (word_rules l img i n))

pub straight_tests : (l : Layout) (len : ℕ) (img : List ℕ) (t : Trial)
    → Denies (StraightKeeps l len img t) (broken_by (is_straight_broken l img) l len img t)
straight_tests l len img t =
    picks (leb t.number 7) (file_rules l len img t.number) (straight_rules l img t.number t.word)
