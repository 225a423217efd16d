-- What is fetched is what is read: a law for each way that the fetch may end.
-- Assumes nothing.
use Prim.Native.Nat.{ℕ, ◌<◌}
use mathlib.Core.Bool.{false}
use mathlib.Core.Path.{◌≡◌, refl, ◌∙◌}
use native.Mathlib.Omega.{arith}
use borrow.Author.Tests.{eq-eqb, ne_eqb}
use Rattle.isa.specs.Choice.{pick}
use Rattle.isa.specs.Numbers.{given, refused}
use Rattle.isa.specs.Reading.{Program, entry_at, next_pc, byte_at, instruction_at, decoded_at, sized, lacks}
use Rattle.isa.specs.Sheet.{make_of, entry_of, instruction_of}
use Rattle.isa.specs.declared.Instruction.{Instruction}
use Rattle.isa.specs.declared.Set.{Set}
use Rattle.isa.specs.declared.table.Entry.{Entry}
use Rattle.chip.specs.Step.{AsRead}
use Rattle.chip.specs.declared.Fetch.{Fetch}
use Rattle.machine.proofs.Seeing.{found_seen}
use lib.Dec.{eqb}

-- A code of one byte is read as the set's instruction of that code.
pub reads-one :
    (program : Program) (a b : ℕ) (i : Instruction) → lacks program.bytes a ≡ false → byte_at program.bytes a ≡ b
    → ((set : Set) → ((entry_of set b).bytes ≡ 1) × (instruction_of set b 0 ≡ i)) → instruction_at program a ≡ given (sized i 1)
unfolding instruction_at decoded_at pick
reads-one program a b i l e f = rw (l, e, (f program.set).0, (f program.set).1)

module _ (program : Program) (pc : ℕ) where
  -- Below, e is the entry of the byte at pc.
  module _ (e : Entry) (is : e ≡ entry_at program pc) (there : lacks program.bytes pc ≡ false) where
    module _ (some : 0 < e.bytes) where
      some-byte : e.bytes ≡ 0 → ⊥
      some-byte z = omega (arith, some, z)

      pub one_byte :
          {f : Fetch} {b : ℕ} → b ≡ byte_at program.bytes pc → e.bytes ≡ 1 → f.instruction ≡ make_of e.kind b 0 → f.next ≡ next_pc pc
          → f.cycles ≡ e.cycles → AsRead program pc f
      unfolding instruction_at decoded_at pick
      one_byte w h i q t =
          record {
            bytes = 1;
            instruction = rw (there, ← is, ne_eqb _ _ some-byte, eq-eqb _ _ h, ← w, i);
            next = q;
            cycles = t ∙ rw is;
          }

      pub two_bytes :
          {f : Fetch} {b k d : ℕ} → b ≡ byte_at program.bytes pc → (e.bytes ≡ 1 → ⊥) → k ≡ next_pc pc → lacks program.bytes k ≡ false
          → d ≡ byte_at program.bytes k → f.instruction ≡ make_of e.kind b d → f.next ≡ next_pc k → f.cycles ≡ e.cycles → AsRead program pc f
      unfolding instruction_at decoded_at pick
      two_bytes w h q l v i r t =
          record {
            bytes = 2;
            instruction = rw (there, ← is, ne_eqb _ _ some-byte, ne_eqb _ _ h, ← q, l, ← w, ← v, i);
            next = rw (r, q);
            cycles = t ∙ rw is;
          }

-- All that is read at an address, in one step.
pub read-as :
    (program : Program) (a : ℕ)
    → instruction_at program a
    ≡ pick (lacks program.bytes a) (refused 5)
    (pick (eqb (entry_at program a).bytes 0) (refused 4)
    (pick (eqb (entry_at program a).bytes 1) (given (sized (instruction_of program.set (byte_at program.bytes a) 0) 1))
    (pick (lacks program.bytes (next_pc a)) (refused 5)
    (given (sized (instruction_of program.set (byte_at program.bytes a) (byte_at program.bytes (next_pc a))) 2)))))
unfolding instruction_at decoded_at
read-as program a = refl

pub ruleset fetches = (found_seen, read-as)
