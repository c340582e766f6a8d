-- Worked cases of the profile: modules in document 01's layout, or with half its code, each beside what the profile and what the checker
-- without it says.
use Rattle.std.specs.Prelude.{ℕ, ◌+◌, List, [], ◌∷◌}
use Rattle.layout.specs.declared.Layout.{Layout}
use Rattle.layout.specs.Layout.{layout_of}
use Rattle.checker.specs.declared.verdict.Verdict.{Verdict}
use Rattle.checker.specs.Check.{verdict, no_place, accepted, check_of}
use Rattle.checker.specs.Examples.{bytes_of, length_m, layout_m, words_m}
use Rattle.straight.specs.Check.{straight_of}

-- a module, and the two verdicts on it
pub record Case : Type 0 where
  pub layout : Layout
  pub words : List ℕ
  pub profile : Verdict
  pub checker : Verdict

pub record Said : Type 0 where
  pub by_profile : Verdict
  pub by_checker : Verdict

abbrev pub said_of : Case → Said
said_of c =
    record {
      by_profile = straight_of c.layout length_m (bytes_of c.words);
      by_checker = check_of c.layout length_m (bytes_of c.words);
    }

abbrev pub wanted : Case → Said
wanted c = record { by_profile = c.profile; by_checker = c.checker }

-- ---- words; the code base is 0x10000

abbrev pub syscall : ℕ
syscall = 0x0000000C

-- J to word k; JAL to it
abbrev pub j : ℕ → ℕ
j k = 0x08004000 + k

abbrev pub jal : ℕ → ℕ
jal k = 0x0C004000 + k

-- BEQ 0,0 to the word d words after its slot
abbrev pub beq : ℕ → ℕ
beq d = 0x10000000 + d

-- ANDI 8,8,16 and OR 8,8,27 and JR 8
abbrev pub mask : ℕ
mask = 0x31080010

abbrev pub merge : ℕ
merge = 0x011B4025

abbrev pub jr : ℕ
jr = 0x01000008

-- JALR 31,8
abbrev pub jalr : ℕ
jalr = 0x0100F809

-- ADDIU 8,0,1
abbrev pub one : ℕ
one = 0x24080001

-- ---- rows

-- a module of four words
abbrev pub short : List ℕ → Verdict → Case
short ws v = record { layout = layout_of 0x10000 16 0x20000 64; words = ws; profile = v; checker = accepted }

abbrev pub both : List ℕ → Verdict → Verdict → Case
both ws p c = record { layout = layout_m; words = ws; profile = p; checker = c }

-- four words before the profile's last bundle; the checker without the profile accepts
abbrev pub first : ℕ → ℕ → ℕ → ℕ → Verdict → Case
first a b c d v = both (a ∷ b ∷ c ∷ d ∷ syscall ∷ 0 ∷ j 4 ∷ 0 ∷ []) v accepted

-- four words as the last bundle; the checker without the profile accepts
abbrev pub last : ℕ → ℕ → ℕ → ℕ → Verdict → Case
last a b c d v = both (0 ∷ 0 ∷ 0 ∷ 0 ∷ a ∷ b ∷ c ∷ d ∷ []) v accepted

abbrev pub cases : List Case
cases =
    -- M's guarded store; and the last bundle alone
    first 0x3108003C 0x011A4025 0xAD090000 0 accepted
    ∷ short (syscall ∷ 0 ∷ j 0 ∷ 0 ∷ []) accepted
    ∷ short (syscall ∷ 0 ∷ j 1 ∷ 0 ∷ []) (verdict 20 2)
    ∷ short (0 ∷ 0 ∷ j 0 ∷ 0 ∷ []) (verdict 21 no_place)
    -- a target two words after its branch, one after it, and the branch itself
    ∷ first (beq 1) 0 0 0 accepted
    ∷ first (beq 0) 0 0 0 (verdict 20 0)
    ∷ first (beq 0xFFFF) 0 0 0 (verdict 20 0)
    -- into the last bundle: at its start, by BEQ, J, JAL and BGEZAL, and past it
    ∷ first 0 0 (beq 1) 0 accepted
    ∷ first (j 4) 0 (jal 4) 0 accepted
    ∷ first 0 0x04110002 0 0 accepted
    ∷ first 0 0 (beq 2) 0 (verdict 20 2)
    ∷ first 0 0 (j 6) 0 (verdict 20 2)
    -- J to the last bundle's start, one word before it
    ∷ first 0 0 0 (j 4) (verdict 20 3)
    -- JR and JALR with a fitting guard, and JR without one
    ∷ first mask merge jr 0 (verdict 20 2)
    ∷ first mask merge jalr 0 (verdict 20 2)
    ∷ both (0 ∷ 0 ∷ jr ∷ 0 ∷ syscall ∷ 0 ∷ j 4 ∷ 0 ∷ []) (verdict 13 2) (verdict 13 2)
    -- M; J, JAL, guarded JR and BEQ in the last word but one; branches in the other words of the last bundle
    ∷ both words_m (verdict 20 6) accepted
    ∷ last syscall 0 (j 5) 0 (verdict 20 6)
    ∷ last syscall 0 (jal 4) 0 (verdict 20 6)
    ∷ last mask merge jr 0 (verdict 20 6)
    ∷ both (0 ∷ 0 ∷ 0 ∷ 0 ∷ syscall ∷ 0 ∷ beq 0xFFFD ∷ 0 ∷ []) (verdict 20 6) (verdict 16 6)
    ∷ last (beq 1) 0 (j 4) 0 (verdict 20 4)
    ∷ both (0 ∷ 0 ∷ 0 ∷ 0 ∷ syscall ∷ j 4 ∷ 0 ∷ 0 ∷ []) (verdict 20 5) (verdict 16 6)
    ∷ both (0 ∷ 0 ∷ 0 ∷ 0 ∷ syscall ∷ 0 ∷ 0 ∷ j 4 ∷ []) (verdict 20 7) (verdict 16 6)
    -- a last bundle that differs: its first word zero, SYSCALL 1, SYSCALL 0x80000 and BREAK, the second word, the slot; SLL 0,0,1 is no zero word
    ∷ last 0 0 (j 4) 0 (verdict 21 no_place)
    ∷ last 0x0000004C 0 (j 4) 0 (verdict 21 no_place)
    ∷ last 0x0200000C 0 (j 4) 0 (verdict 21 no_place)
    ∷ last 0x0000000D 0 (j 4) 0 (verdict 21 no_place)
    ∷ last syscall one (j 4) 0 (verdict 21 no_place)
    ∷ last syscall 0 (j 4) one (verdict 21 no_place)
    ∷ last syscall 0x00000040 (j 4) 0 (verdict 21 no_place)
    ∷ last syscall 0 (j 4) 0x00000040 (verdict 21 no_place)
    -- an access there, which 12 refuses before the J is tried; 22, 14 and 15 before 20, 20 before 8 of a later word, 16 before 21
    ∷ both (0 ∷ 0 ∷ 0 ∷ 0 ∷ 0xAD090000 ∷ 0 ∷ j 4 ∷ 0 ∷ []) (verdict 12 4) (verdict 12 4)
    ∷ both (0x31080040 ∷ 0x011A4025 ∷ 0xAD090000 ∷ beq 0 ∷ syscall ∷ 0 ∷ j 4 ∷ 0 ∷ []) (verdict 22 0) (verdict 22 0)
    ∷ both (beq 1 ∷ j 0 ∷ 0 ∷ 0 ∷ syscall ∷ 0 ∷ j 4 ∷ 0 ∷ []) (verdict 14 1) (verdict 14 1)
    ∷ both (j 8 ∷ 0 ∷ 0 ∷ 0 ∷ syscall ∷ 0 ∷ j 4 ∷ 0 ∷ []) (verdict 15 0) (verdict 15 0)
    ∷ both (beq 0 ∷ 0xFFFFFFFF ∷ 0 ∷ 0 ∷ syscall ∷ 0 ∷ j 4 ∷ 0 ∷ []) (verdict 20 0) (verdict 8 1)
    ∷ both (0 ∷ 0 ∷ 0 ∷ 0 ∷ 0 ∷ 0 ∷ 0 ∷ 0 ∷ []) (verdict 16 6) (verdict 16 6)
    ∷ []
