-- Document 01's worked cases of the checker, the examples of the Refusal table, 1 to 16, and C9 to C12; and cases of 12, 22 and 25.
use Rattle.std.specs.Prelude.{ℕ, ◌/◌, ◌%◌, List, [], ◌∷◌, ◌++◌}
use Rattle.layout.specs.declared.Layout.{Layout}
use Rattle.layout.specs.Layout.{layout_of}
use Rattle.checker.specs.declared.verdict.Verdict.{Verdict}
use Rattle.checker.specs.Check.{verdict, no_place, accepted, check_of}

-- an image, from its words
abbrev pub bytes_of : List ℕ → List ℕ
bytes_of [] = []
bytes_of (w ∷ ws) = w % 256 ∷ w / 256 % 256 ∷ w / 65536 % 256 ∷ w / 16777216 ∷ bytes_of ws

-- ---- what the examples use

abbrev pub length_m : ℕ
length_m = 196608

abbrev pub layout_m : Layout
layout_m = layout_of 0x10000 32 0x20000 64

abbrev pub words_m : List ℕ
words_m = 0x3108003C ∷ 0x011A4025 ∷ 0xAD090000 ∷ 0x0000000C ∷ 0 ∷ 0 ∷ 0x08004000 ∷ 0 ∷ []

abbrev pub module_m : List ℕ
module_m = bytes_of words_m

-- ---- the table

pub record Example : Type 0 where
  pub memory : ℕ
  pub layout : Layout
  pub words : List ℕ
  pub says : Verdict

-- M in another memory or layout
abbrev pub placed : ℕ → Layout → ℕ → Example
placed n l k = record { memory = n; layout = l; words = words_m; says = verdict k no_place }

abbrev pub holding : List ℕ → Verdict → Example
holding ws v = record { memory = length_m; layout = layout_m; words = ws; says = v }

-- words a and b, and zeros but for a jump to the first word
abbrev pub starting : ℕ → ℕ → Verdict → Example
starting a b v = holding (a ∷ b ∷ 0 ∷ 0 ∷ 0 ∷ 0 ∷ 0x08004000 ∷ 0 ∷ []) v

abbrev pub refusals : List Example
refusals =
    placed 16777217 layout_m 1
    ∷ placed length_m (layout_of 0x10000 24 0x20000 64) 2
    ∷ placed length_m (layout_of 0x10000 32 0x20000 2) 3
    ∷ placed length_m (layout_of 0x10010 32 0x20000 64) 4
    ∷ placed length_m (layout_of 0x10000 32 0x30000 64) 5
    ∷ placed length_m (layout_of 0x10000 32 0x10000 64) 6
    ∷ holding (0 ∷ 0 ∷ 0 ∷ 0 ∷ 0 ∷ 0x08004000 ∷ 0 ∷ []) (verdict 7 no_place)
    ∷ starting 0xFFFFFFFF 0 (verdict 8 0)
    ∷ starting 0x42000010 0 (verdict 9 0)
    ∷ starting 0x3C1A0000 0 (verdict 10 0)
    ∷ starting 0x07F10000 0 (verdict 11 0)
    ∷ starting 0xAD090000 0 (verdict 12 0)
    ∷ starting 0x03E00008 0 (verdict 13 0)
    ∷ starting 0x08004000 0x08004000 (verdict 14 1)
    ∷ starting 0x08004007 0 (verdict 15 0)
    ∷ holding (0 ∷ 0 ∷ 0 ∷ 0 ∷ 0 ∷ 0 ∷ 0 ∷ 0 ∷ []) (verdict 16 6)
    ∷ []

-- C9 to C12; C10 and C11 as document 02, Ticket 5, has them
abbrev pub cases : List Example
cases =
    holding words_m accepted
    ∷ holding (0x3108003F ∷ 0x011A4025 ∷ 0xAD090000 ∷ 0x0000000C ∷ 0 ∷ 0 ∷ 0x08004000 ∷ 0 ∷ []) (verdict 22 0)
    ∷ holding (0x31080040 ∷ 0x011A4025 ∷ 0xAD090000 ∷ 0x0000000C ∷ 0 ∷ 0 ∷ 0x08004000 ∷ 0 ∷ []) (verdict 22 0)
    ∷ holding (0x3108003C ∷ 0x011A4025 ∷ 0xAD090000 ∷ 0x0000000C ∷ 0 ∷ 0 ∷ 0x08004001 ∷ 0 ∷ []) (verdict 15 6)
    ∷ []

abbrev pub examples : List Example
examples = refusals ++ cases

-- words a, b and c, and zeros but for a jump to the first word
abbrev pub three : ℕ → ℕ → ℕ → Verdict → Example
three a b c v = holding (a ∷ b ∷ c ∷ 0 ∷ 0 ∷ 0 ∷ 0x08004000 ∷ 0 ∷ []) v

-- M's OR 8,8,26 and its SW 9,0(8), after another ANDI; the ANDI 8,8,28 and the OR, before another access
abbrev pub mask : ℕ → Verdict → Example
mask a v = three a 0x011A4025 0xAD090000 v

abbrev pub access : ℕ → Verdict → Example
access c v = three 0x3108001C 0x011A4025 c v

-- the same with another ANDI too
abbrev pub guarding : ℕ → ℕ → Verdict → Example
guarding a c v = three a 0x011A4025 c v

-- the same with 65,536 bytes of data, and any ANDI and access
abbrev pub widest : ℕ → ℕ → Verdict → Example
widest a c v =
    record {
      memory = length_m;
      layout = layout_of 0x10000 32 0x20000 65536;
      words = a ∷ 0x011A4025 ∷ c ∷ 0 ∷ 0 ∷ 0 ∷ 0x08004000 ∷ 0 ∷ [];
      says = v;
    }

-- 12, and what is beside it (document 02, Ticket 5)
abbrev pub unguarded : List Example
unguarded =
    -- no ANDI; no OR; ORI 8,8,60; XOR 8,8,26; OR 8,8,27; OR 8,26,8
    mask 0 (verdict 12 2)
    ∷ three 0x3108003C 0 0xAD090000 (verdict 12 2)
    ∷ mask 0x3508003C (verdict 12 2)
    ∷ three 0x3108003C 0x011A4026 0xAD090000 (verdict 12 2)
    ∷ three 0x3108003C 0x011B4025 0xAD090000 (verdict 12 2)
    ∷ three 0x3108003C 0x03484025 0xAD090000 (verdict 12 2)
    -- another R: ANDI 9,8,60; OR 9,8,26; OR 8,9,26; SW 9,0(9); and R is 0 in all three: ANDI 0,8,60, OR 0,0,26, SW 9,0(0)
    ∷ mask 0x3109003C (verdict 12 2)
    ∷ three 0x3108003C 0x011A4825 0xAD090000 (verdict 12 2)
    ∷ three 0x3108003C 0x013A4025 0xAD090000 (verdict 12 2)
    ∷ access 0xAD290000 (verdict 12 2)
    ∷ three 0x3100003C 0x001A0025 0xAC090000 (verdict 12 2)
    -- R is 26 in all three, ANDI 26,8,60, OR 26,26,26, SW 9,0(26): 10 refuses the ANDI before
    ∷ three 0x311A003C 0x035AD025 0xAF490000 (verdict 10 0)
    -- S is another register: ANDI 8,9,60
    ∷ mask 0x3128003C accepted
    -- a wrong R counts before a mask too large, ANDI 9,8,64, and before a negative offset, SW 9,-4(9)
    ∷ mask 0x31090040 (verdict 12 2)
    ∷ access 0xAD29FFFC (verdict 12 2)
    -- the guard in the bundle before, with a mask too large, ANDI 8,8,64
    ∷ holding (0 ∷ 0 ∷ 0x31080040 ∷ 0x011A4025 ∷ 0xAD090000 ∷ 0 ∷ 0x08004000 ∷ 0 ∷ []) (verdict 12 4)
    -- LB 9,0(8), LHU 9,0(8), LL 9,0(8) and SC 9,0(8) with no guard
    ∷ three 0 0 0x81090000 (verdict 12 2)
    ∷ three 0 0 0x95090000 (verdict 12 2)
    ∷ three 0 0 0xC1090000 (verdict 12 2)
    ∷ three 0 0 0xE1090000 (verdict 12 2)
    -- 13 is that of JR 8 and JALR 31,8, whatever is wrong: ANDI 8,8,8, no multiple of 16; ANDI 8,8,32, too large
    ∷ three 0x31080008 0x011B4025 0x01000008 (verdict 13 2)
    ∷ three 0x31080020 0x011B4025 0x01000008 (verdict 13 2)
    ∷ three 0x31080008 0x011B4025 0x0100F809 (verdict 13 2)
    ∷ []

-- 22, and what is beside it
abbrev pub misfits : List Example
misfits =
    -- the mask is no multiple of 4: ANDI 8,8,58; with SB 9,0(8) the mask 63 fits
    mask 0x3108003A (verdict 22 0)
    ∷ three 0x3108003F 0x011A4025 0xA1090000 accepted
    -- the offset is no multiple: SW 9,2(8), and SH in its place with ANDI 8,8,30; SH 9,1(8), and SB in its place with ANDI 8,8,31
    ∷ access 0xAD090002 (verdict 22 0)
    ∷ guarding 0x3108001E 0xA5090002 accepted
    ∷ guarding 0x3108001E 0xA5090001 (verdict 22 0)
    ∷ guarding 0x3108001F 0xA1090001 accepted
    -- the offset is negative: SW 9,-4(8), with 64 bytes of data, and with 65,536 and ANDI 8,8,0, where 65,532 would fit
    ∷ access 0xAD09FFFC (verdict 22 0)
    ∷ widest 0x31080000 0xAD09FFFC (verdict 22 0)
    -- the sum is one access too large: SW 9,4(8) with ANDI 8,8,60, and with 28; and past 16 bits, with ANDI 8,8,65532
    ∷ three 0x3108003C 0x011A4025 0xAD090004 (verdict 22 0)
    ∷ access 0xAD090004 accepted
    ∷ widest 0x3108FFFC 0xAD090004 (verdict 22 0)
    ∷ widest 0x3108FFFC 0xAD090000 accepted
    -- ANDI 8,8,64 with LL 9,0(8), and with LW 26,0(8), which breaks 10 too
    ∷ three 0x31080040 0x011A4025 0xC1090000 (verdict 22 0)
    ∷ three 0x31080040 0x011A4025 0x8D1A0000 (verdict 10 2)
    -- the access in the bundle's last word, and the guard in the second bundle
    ∷ holding (0 ∷ 0x31080040 ∷ 0x011A4025 ∷ 0xAD090000 ∷ 0 ∷ 0 ∷ 0x08004000 ∷ 0 ∷ []) (verdict 22 1)
    ∷ holding (0 ∷ 0 ∷ 0 ∷ 0 ∷ 0x31080040 ∷ 0x011A4025 ∷ 0xAD090000 ∷ 0 ∷ []) (verdict 22 4)
    -- words are tried in their order: 22 of word 2 before 12 of word 3, and 12 of word 3 before 22 of word 6
    ∷ holding (0x31080040 ∷ 0x011A4025 ∷ 0xAD090000 ∷ 0xAD090000 ∷ 0 ∷ 0 ∷ 0x08004000 ∷ 0 ∷ []) (verdict 22 0)
    ∷ holding (0 ∷ 0 ∷ 0 ∷ 0xAD090000 ∷ 0x31080040 ∷ 0x011A4025 ∷ 0xAD090000 ∷ 0 ∷ []) (verdict 12 3)
    ∷ []

-- 25, and what is beside it (document 02, Ticket 7)
abbrev pub holes : List Example
holes =
    -- the author's mask: ANDI 8,8,0x34 with SW; and 0x3C
    mask 0x31080034 (verdict 25 0)
    ∷ mask 0x3108003C accepted
    -- one row alone, ANDI 8,8,0; 4, which makes 8; 8, which makes 12; 12, which makes 16
    ∷ mask 0x31080000 accepted
    ∷ mask 0x31080004 accepted
    ∷ mask 0x31080008 (verdict 25 0)
    ∷ mask 0x3108000C accepted
    -- a mask that goes with one width and not with another: 28 with SW, SH and SB; 30 with SH and SB; 31 with SB
    ∷ access 0xAD090000 accepted
    ∷ access 0xA5090000 (verdict 25 0)
    ∷ access 0xA1090000 (verdict 25 0)
    ∷ guarding 0x3108001E 0xA5090000 accepted
    ∷ guarding 0x3108001E 0xA1090000 (verdict 25 0)
    ∷ guarding 0x3108001F 0xA1090000 accepted
    -- LL and SC, LB, LBU, LH, LHU and LW
    ∷ guarding 0x31080034 0xC1090000 (verdict 25 0)
    ∷ guarding 0x31080034 0xE1090000 (verdict 25 0)
    ∷ guarding 0x31080034 0x81090000 (verdict 25 0)
    ∷ guarding 0x31080034 0x91090000 (verdict 25 0)
    ∷ guarding 0x31080034 0x85090000 (verdict 25 0)
    ∷ guarding 0x31080034 0x95090000 (verdict 25 0)
    ∷ guarding 0x31080034 0x8D090000 (verdict 25 0)
    -- the sum past 16 bits: 0xFFFF + 1, 0xFFFE + 2 and 0xFFFC + 4; and just below, 0xFFFE + 1 and 0xFFFA + 2
    ∷ widest 0x3108FFFF 0xA1090000 accepted
    ∷ widest 0x3108FFFE 0xA5090000 accepted
    ∷ widest 0x3108FFFC 0xAD090000 accepted
    ∷ widest 0x3108FFFE 0xA1090000 (verdict 25 0)
    ∷ widest 0x3108FFFA 0xA5090000 (verdict 25 0)
    -- the smallest sum: ANDI 8,8,0 with SB
    ∷ guarding 0x31080000 0xA1090000 accepted
    -- 22 before 25: 0x34 with the offset 12, one access too large, and with -4; and 12 before both, with another R and a mask that is no multiple
    ∷ guarding 0x31080034 0xAD09000C (verdict 22 0)
    ∷ guarding 0x31080034 0xAD09FFFC (verdict 22 0)
    ∷ mask 0x3109003A (verdict 12 2)
    -- the access in the bundle's last word, and the guard in the second bundle
    ∷ holding (0 ∷ 0x31080034 ∷ 0x011A4025 ∷ 0xAD090000 ∷ 0 ∷ 0 ∷ 0x08004000 ∷ 0 ∷ []) (verdict 25 1)
    ∷ holding (0 ∷ 0 ∷ 0 ∷ 0 ∷ 0x31080034 ∷ 0x011A4025 ∷ 0xAD090000 ∷ 0 ∷ []) (verdict 25 4)
    -- words are tried in their order, 25 of word 2 before 12 of word 3; and 10 of word 2 before 25
    ∷ holding (0x31080034 ∷ 0x011A4025 ∷ 0xAD090000 ∷ 0xAD090000 ∷ 0 ∷ 0 ∷ 0x08004000 ∷ 0 ∷ []) (verdict 25 0)
    ∷ guarding 0x31080034 0x8D1A0000 (verdict 10 2)
    -- an ANDI that guards nothing may have any mask; and before JR 8 and JALR 31,8 it may be 16, which goes with no access
    ∷ three 0x31080034 0 0 accepted
    ∷ three 0x31080010 0x011B4025 0x01000008 accepted
    ∷ three 0x31080010 0x011B4025 0x0100F809 accepted
    ∷ []

abbrev pub guards : List Example
guards = unguarded ++ misfits ++ holes

-- what the checker says of an example
abbrev pub said_of : Example → Verdict
said_of e = check_of e.layout e.memory (bytes_of e.words)
