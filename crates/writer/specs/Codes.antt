-- How an operand goes into a code, and what becomes of a code that one set alone has.
-- Which code is whose stands in isa's sheet and nowhere else in the definitions.
-- Assumes nothing.
use Rattle.std.specs.Prelude.{ℕ, ◌+◌, ◌*◌, Result, Ok, Err}
use Rattle.isa.specs.Choice.{pick, within}
use Rattle.isa.specs.declared.Flag.{Flag}
use Rattle.isa.specs.declared.Flag.TheVariants.{FlagC, FlagF0, FlagF1}
use Rattle.isa.specs.declared.Refusal.{Refusal}
use Rattle.isa.specs.declared.Refusal.TheVariants.{UndefinedCode, OperandTooLarge}
use Rattle.isa.specs.declared.Cell.{Cell}
use Rattle.isa.specs.declared.Cell.TheVariants.{Register, Indirect}
use Rattle.isa.specs.declared.Source.{Source}
use Rattle.isa.specs.declared.Source.TheVariants.{FromCell, Immediate}
use Rattle.isa.specs.declared.Latch.{Latch}
use Rattle.isa.specs.declared.Latch.TheVariants.{Bus, Port}
use Rattle.isa.specs.declared.Set.{Set}
use Rattle.isa.specs.declared.Set.TheVariants.{Intel, Nec}
use Rattle.writer.specs.declared.Encoded.{Encoded}
use Rattle.writer.specs.declared.Encoded.TheVariants.{One, Two}

-- A number from low to high; there is no code for another.
abbrev pub held : ℕ → ℕ → ℕ → Result ℕ Refusal
held low high k = pick (within low high k) (Ok k) (Err OperandTooLarge)

-- On top of a base, times its weight: 1 for bits 0-2, 32 for bits 5-7.
abbrev pub coded : ℕ → ℕ → ℕ → ℕ → ℕ → Result ℕ Refusal
coded base weight low high k = pick (within low high k) (Ok (base + weight * k)) (Err OperandTooLarge)

-- In bits 0-2, a number from low to high.
abbrev pub coded_low : ℕ → ℕ → ℕ → ℕ → Result ℕ Refusal
coded_low base low high k = coded base 1 low high k

-- In bits 5-7.
abbrev pub coded_high : ℕ → ℕ → Result ℕ Refusal
coded_high base k = coded base 32 0 7 k

-- A code by itself.
abbrev pub alone : Result ℕ Refusal → Result Encoded Refusal
alone (Ok b) = Ok (One b)
alone (Err r) = Err r

-- In a second byte.
abbrev pub with_second : Result ℕ Refusal → ℕ → Result Encoded Refusal
with_second (Ok b) d = Ok (Two b d)
with_second (Err r) d = Err r

abbrev pub cell_code : ℕ → Cell → Result ℕ Refusal
cell_code base (Register r) = coded_low (base + 8) 0 7 r
cell_code base (Indirect r) = coded_low base 0 1 r

abbrev pub source_code : ℕ → ℕ → Source → Result Encoded Refusal
source_code base immediate (FromCell c) = alone (cell_code base c)
source_code base immediate (Immediate d) = Ok (Two immediate d)

abbrev pub latch_code : ℕ → ℕ → Latch → Result ℕ Refusal
latch_code bus base Bus = Ok bus
latch_code bus base (Port p) = coded_low base 1 2 p

abbrev pub flag_code : ℕ → ℕ → ℕ → Flag → ℕ
flag_code c f0 f1 FlagC = c
flag_code c f0 f1 FlagF0 = f0
flag_code c f0 f1 FlagF1 = f1

-- A code that NEC's set alone has; under Intel the writer gives 4 (document 02, item 2).
abbrev pub nec_code : Set → ℕ → Result ℕ Refusal
nec_code Intel code = Err UndefinedCode
nec_code Nec code = Ok code
