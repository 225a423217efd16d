-- Where an instruction is read, its bytes are in the program, and the program is not too long.
-- Assumes nothing.
use mathlib.Core.Path.{◌≡◌, refl}
use mathlib.Core.Bool.{Bool, true, false}
use Prim.Native.Nat.{ℕ, ◌≤◌, ◌<◌}
use native.Mathlib.Omega.{arith}
use lib.Dec.{eqb, ltb}
use lib.ListN.{length}
use borrow.Author.Tests.{ltb-false, leb-false}
use Rattle.isa.specs.Choice.{pick}
use Rattle.isa.specs.Numbers.{given}
use Rattle.isa.specs.Reading.{Program, sized, entry_at, lacks, next_pc, read_of, instruction_at, decoded_at}
use Rattle.isa.specs.declared.Instruction.{Instruction}

module _ (program : Program) (a : ℕ) (i : Instruction) (n : ℕ) where
  pub record Inside : Type 0 where
    pub short : length program.bytes ≤ 4096
    pub first : a < length program.bytes
    pub second : n ≡ 2 → next_pc a < length program.bytes

  pub inside : given (sized i n) ≡ read_of program a → Inside
  unfolding read_of instruction_at decoded_at pick
  inside e = go (ltb 4096 (length program.bytes)) (lacks program.bytes a) (eqb (entry_at program a).bytes 0) (eqb (entry_at program a).bytes 1) (lacks program.bytes (next_pc a)) refl refl refl refl refl
    where
      go :
          (p q r s t : Bool) → ltb 4096 (length program.bytes) ≡ p → lacks program.bytes a ≡ q → eqb (entry_at program a).bytes 0 ≡ r
          → eqb (entry_at program a).bytes 1 ≡ s → lacks program.bytes (next_pc a) ≡ t → Inside
      go true q r s t f g h j k = let z : ◌≡◌ {A = ℕ} 0 1 = cc (rw f at e) in absurd (omega (arith, z))
      go false true r s t f g h j k = let z : ◌≡◌ {A = ℕ} 0 1 = cc (rw (f, g) at e) in absurd (omega (arith, z))
      go false false true s t f g h j k = let z : ◌≡◌ {A = ℕ} 0 1 = cc (rw (f, g, h) at e) in absurd (omega (arith, z))
      go false false false true t f g h j k =
          let one : n ≡ 1 = cc (rw (f, g, h, j) at e) in
          record { short = ltb-false _ _ f; first = leb-false _ _ g; second = λ two. absurd (omega (arith, one, two)) }
      go false false false false true f g h j k = let z : ◌≡◌ {A = ℕ} 0 1 = cc (rw (f, g, h, j, k) at e) in absurd (omega (arith, z))
      go false false false false false f g h j k = record { short = ltb-false _ _ f; first = leb-false _ _ g; second = λ two. leb-false _ _ k }
