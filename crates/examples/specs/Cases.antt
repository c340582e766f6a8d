-- Document 01's marked cases, C1 to C12, as rows of one table: a question put to the definitions, and the finding wanted. Divisions beside them.
use Rattle.std.specs.Prelude.{ℕ, ◌+◌, false, cond, List, [], ◌∷◌, ◌++◌, map, eqb, replicate}
use Rattle.checker.specs.declared.verdict.Verdict.{Verdict}
use Rattle.checker.specs.Examples as E
use Rattle.machine.specs.declared.state.State.{State}
use Rattle.machine.specs.State.{join_of, register_of}
use Rattle.parts.specs.Parts.{special}
use Rattle.machine.specs.Step.{Outcome, step_of}

-- Result, Pair and Target ask for one step of a word that stands alone in memory, with a in register 1 and b in register 2
pub data Question : Type 0 where
  -- word, a, b: what is in register 3 after the step?
  Result : ℕ → ℕ → ℕ → Question
  -- word, a, b: what is in HI and LO?
  Pair : ℕ → ℕ → ℕ → Question
  -- word and its address: where does the branch lead?
  Target : ℕ → ℕ → Question
  -- what does the checker say?
  Check : E.Example → Question

-- an exit's number, or what was asked for
pub data Finding : Type 0 where
  Ends : ℕ → Finding
  Gives : ℕ → Finding
  HiLo : ℕ → ℕ → Finding
  Leads : ℕ → Finding
  Says : Verdict → Finding

-- ---- what is found

abbrev pub state_at : ℕ → ℕ → ℕ → State
state_at pc a b = join_of (0 ∷ a ∷ b ∷ replicate 29 0) (special 0 0 pc (pc + 4) false 0 0 0 0)

-- the step of word w at address pc, with zeros before it
abbrev pub step_at : ℕ → ℕ → ℕ → ℕ → Outcome
step_at pc w a b = step_of (state_at pc a b) (replicate pc 0 ++ E.bytes_of (w ∷ []))

-- what is looked for in the state, where the step completes
abbrev pub completed : Outcome → (State → Finding) → Finding
completed o f = cond (eqb o.number 0) (f o.machine.state) (Ends o.number)

abbrev pub found : Question → Finding
found (Result w a b) = completed (step_at 0 w a b) (λ s. Gives (register_of s.registers 3))
found (Pair w a b) = completed (step_at 0 w a b) (λ s. HiLo s.special.hi s.special.lo)
found (Target w pc) = completed (step_at pc w 0 0) (λ s. Leads s.special.next_pc)
found (Check e) = Says (E.said_of e)

-- ---- the table

pub record Case : Type 0 where
  pub question : Question
  pub wanted : Finding

abbrev pub row : Question → Finding → Case
row q f = record { question = q; wanted = f }

-- C1 to C8
abbrev pub steps : List Case
steps =
    -- C1: ADD 3,1,2
    row (Result 0x00221820 0x7FFFFFFF 1) (Ends 40)
    -- C2: ADDU 3,1,2
    ∷ row (Result 0x00221821 0xFFFFFFFF 1) (Gives 0)
    -- C3: SLTIU 3,1,0xFFFF
    ∷ row (Result 0x2C23FFFF 5 0) (Gives 1)
    -- C4: SRA 3,2,4
    ∷ row (Result 0x00021903 0 0x80000000) (Gives 0xF8000000)
    -- C5: MULT 1,2
    ∷ row (Pair 0x00220018 0xFFFFFFFF 2) (HiLo 0xFFFFFFFF 0xFFFFFFFE)
    -- C6: MULTU 1,2
    ∷ row (Pair 0x00220019 0xFFFFFFFF 2) (HiLo 1 0xFFFFFFFE)
    -- C7: DIV 1,2 of -7 by 2: HI -1, LO -3
    ∷ row (Pair 0x0022001A 0xFFFFFFF9 2) (HiLo 0xFFFFFFFF 0xFFFFFFFD)
    -- C8: BEQ 0,0,-1
    ∷ row (Target 0x1000FFFF 0x100) (Leads 0x100)
    ∷ []

-- divisions by 0, and those that leave what one of them might (document 02, Ticket 4)
abbrev pub divisions : List Case
divisions =
    -- DIV 1,2 and DIVU 1,2
    row (Pair 0x0022001A 5 0) (HiLo 5 0xFFFFFFFF)
    ∷ row (Pair 0x0022001B 5 0) (HiLo 5 0xFFFFFFFF)
    ∷ row (Pair 0x0022001A 0x80000000 0) (HiLo 0x80000000 0xFFFFFFFF)
    ∷ row (Pair 0x0022001B 0xFFFFFFFF 0) (HiLo 0xFFFFFFFF 0xFFFFFFFF)
    ∷ row (Pair 0x0022001A 0 0) (HiLo 0 0xFFFFFFFF)
    -- 1 by -1, and 0xFFFFFFFF by 1: the quotient is 0xFFFFFFFF
    ∷ row (Pair 0x0022001A 1 0xFFFFFFFF) (HiLo 0 0xFFFFFFFF)
    ∷ row (Pair 0x0022001B 0xFFFFFFFF 1) (HiLo 0 0xFFFFFFFF)
    -- 5 by 7: the remainder is the dividend
    ∷ row (Pair 0x0022001A 5 7) (HiLo 5 0)
    ∷ row (Pair 0x0022001B 5 7) (HiLo 5 0)
    ∷ []

-- C9 to C12 stand in the checker's table
abbrev pub verdicts : List Case
verdicts = map (λ (e : E.Example). row (Check e) (Says e.says)) E.cases

-- C1 to C12
abbrev pub cases : List Case
cases = steps ++ verdicts
