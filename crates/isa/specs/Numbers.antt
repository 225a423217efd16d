-- Document 01, "Numbers that a caller gets back"; and 25, a number of our own, for a set that a caller in C names and there isn't.
-- Assumes nothing.
use Rattle.std.specs.Prelude.{ℕ, List, ◌++◌, Result, Ok, Err, codes, decimal}
use Rattle.isa.specs.declared.Refusal.{Refusal}
use Rattle.isa.specs.declared.Refusal.TheVariants.{ProgramLength, RamLength, StateOutside, UndefinedCode, PastEnd, SampleBits, LineTooShort, OperandTooLarge, SetUnknown}

-- The number of a refusal.
abbrev pub number_of : Refusal → ℕ
number_of ProgramLength = 1
number_of RamLength = 2
number_of StateOutside = 3
number_of UndefinedCode = 4
number_of PastEnd = 5
number_of SampleBits = 6
number_of LineTooShort = 7
number_of OperandTooLarge = 23
number_of SetUnknown = 25

-- What a refusal prints: `refused` and its number.
abbrev pub refusal_text : Refusal → List ℕ
refusal_text r = codes "refused " ++ decimal (number_of r)

-- An answer: what was asked for, or the number of a refusal.
pub data Answer (A : Type 0) : Type 0 where
  given : A → Answer A
  refused : ℕ → Answer A

-- The number that a caller gets back from an answer: 0, or that of the refusal.
abbrev pub number_given : {A : Type 0} → Result A Refusal → ℕ
number_given (Ok a) = 0
number_given (Err r) = number_of r
