-- What is known where an instruction is read, and where reading is refused.
-- Assumes nothing.
use mathlib.Core.Path.{◌≡◌, refl, subst}
use mathlib.Core.Bool.{Bool, true, false}
use Prim.Native.Nat.{ℕ}
use native.Mathlib.Omega.{arith}
use lib.Dec.{eqb, ltb}
use lib.ListN.{length}
use Rattle.isa.specs.Choice.{pick}
use Rattle.isa.specs.Numbers.{given, refused}
use Rattle.isa.specs.Sheet.{instruction_of}
use Rattle.isa.specs.Reading.{Program, entry_at, sized, read_of, instruction_at, decoded_at, next_pc, lacks, byte_at}
use Rattle.isa.specs.declared.Instruction.{Instruction}

-- An instruction of n bytes is read: it is the one that the sheet has for the byte there, alone or with the next.
pub data Found (program : Program) (a : ℕ) (i : Instruction) : ℕ → Type 0 where
  alone :
      lacks program.bytes a ≡ false → eqb (entry_at program a).bytes 0 ≡ false → eqb (entry_at program a).bytes 1 ≡ true
      → instruction_of program.set (byte_at program.bytes a) 0 ≡ i → Found program a i 1
  paired :
      lacks program.bytes a ≡ false → eqb (entry_at program a).bytes 0 ≡ false → eqb (entry_at program a).bytes 1 ≡ false
      → lacks program.bytes (next_pc a) ≡ false → instruction_of program.set (byte_at program.bytes a) (byte_at program.bytes (next_pc a)) ≡ i → Found program a i 2

module _ (program : Program) (a : ℕ) where
  size : ℕ
  size = (entry_at program a).bytes

  short : Instruction
  short = instruction_of program.set (byte_at program.bytes a) 0

  long : Instruction
  long = instruction_of program.set (byte_at program.bytes a) (byte_at program.bytes (next_pc a))

  pub found : (i : Instruction) (n : ℕ) → instruction_at program a ≡ given (sized i n) → Found program a i n
  unfolding instruction_at decoded_at pick size short long
  found i n r = go (lacks program.bytes a) (eqb size 0) (eqb size 1) (lacks program.bytes (next_pc a)) refl refl refl refl r
    where
      go :
          (q s t u : Bool) → lacks program.bytes a ≡ q → eqb size 0 ≡ s → eqb size 1 ≡ t → lacks program.bytes (next_pc a) ≡ u
          → pick q (refused 5) (pick s (refused 4) (pick t (given (sized short 1)) (pick u (refused 5) (given (sized long 2))))) ≡ given (sized i n)
          → Found program a i n
      go true s t u hq hs ht hu e = cc
      go false true t u hq hs ht hu e = cc
      go false false true u hq hs ht hu e =
          let one : 1 ≡ n = cc in
          subst (λ (k : ℕ). Found program a i k) one (alone hq hs ht (cc))
      go false false false true hq hs ht hu e = cc
      go false false false false hq hs ht hu e =
          let two : 2 ≡ n = cc in
          subst (λ (k : ℕ). Found program a i k) two (paired hq hs ht hu (cc))

  -- A refusal has a number.
  pub refused-some : (n : ℕ) → instruction_at program a ≡ refused n → n ≡ 0 → ⊥
  unfolding instruction_at decoded_at pick size short long
  refused-some n r z = go (lacks program.bytes a) (eqb size 0) (eqb size 1) (lacks program.bytes (next_pc a)) r
    where
      go :
          (q s t u : Bool)
          → pick q (refused 5) (pick s (refused 4) (pick t (given (sized short 1)) (pick u (refused 5) (given (sized long 2))))) ≡ refused n → ⊥
      go true s t u e = let f : 5 ≡ n = cc in omega arith
      go false true t u e = let f : 4 ≡ n = cc in omega arith
      go false false true u e = cc
      go false false false true e = let f : 5 ≡ n = cc in omega arith
      go false false false false e = cc

  -- The reader reads no more than the instruction at the address.
  pub read-there : (i : Instruction) (n : ℕ) → read_of program a ≡ given (sized i n) → instruction_at program a ≡ given (sized i n)
  unfolding read_of pick
  read-there i n r = go (ltb 4096 (length program.bytes)) r
    where
      go : (p : Bool) → pick p (refused 1) (instruction_at program a) ≡ given (sized i n) → instruction_at program a ≡ given (sized i n)
      go true e = cc
      go false e = e
