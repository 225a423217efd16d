-- The two round trips (demand 2): "Each instruction read from bytes and written again gives the same bytes, and the reverse."
-- The writer's set is the program's. Bytes that read as an instruction by themselves read so wherever they stand; and an instruction gives
-- its bytes back.
-- Assumes nothing.
use mathlib.Core.Path.{◌≡◌, refl, ◌∙◌}
use mathlib.Core.Bool.{true, false}
use mathlib.Core.List.{List, [], ◌∷◌}
use Prim.Native.Nat.{ℕ, ◌≤◌}
use native.Mathlib.Omega.{arith}
use lib.Dec.{eqb}
use lib.ListN.{length}
use borrow.Author.Tests.{le-ltb}
use Rattle.isa.specs.Choice.{pick}
use Rattle.isa.specs.Numbers.{Answer, given, refused}
use Rattle.isa.specs.Sheet.{entry_of, instruction_of}
use Rattle.isa.specs.Reading.{Program, under, sized, read_of, instruction_at, decoded_at, next_pc, byte_at, Bytes}
use Rattle.isa.specs.declared.Instruction.{Instruction}
use Rattle.isa.specs.declared.Set.{Set}
use Rattle.isa.proofs.Finding.{Found, alone, paired, found, read-there}
use Rattle.writer.specs.Standing.{BytesIn, StandsAt, Stands}
use Rattle.writer.specs.Writing.{Refuses, Writes}
use Rattle.writer.proofs.Back.{bytes_back, bytes-back, unrefused}

-- What `found` says, of bytes that the writer gives: they are one or two.
data Whole (set : Set) (i : Instruction) : List ℕ → Type 0 where
  one :
      (b : ℕ) → eqb (entry_of set b).bytes 0 ≡ false → eqb (entry_of set b).bytes 1 ≡ true → instruction_of set b 0 ≡ i
      → Whole set i (b ∷ [])
  two :
      (b d : ℕ) → eqb (entry_of set b).bytes 0 ≡ false → eqb (entry_of set b).bytes 1 ≡ false → instruction_of set b d ≡ i
      → Whole set i (b ∷ d ∷ [])

whole : (set : Set) (i : Instruction) (bytes : List ℕ) → Writes set i (given bytes) → Whole set i bytes
whole set i bytes w =
    go bytes (length bytes) refl (found (under set bytes) 0 i (length bytes) (read-there (under set bytes) 0 i (length bytes) w))
  where
    go : (v : List ℕ) (n : ℕ) → n ≡ length v → Found (under set v) 0 i n → Whole set i v
    go [] n e (alone h p q j) = absurd (omega arith)
    go [] n e (paired h p q l j) = absurd (omega arith)
    go (b ∷ []) n e (alone h p q j) = one b p q j
    go (b ∷ []) n e (paired h p q l j) = absurd (omega arith)
    go (b ∷ d ∷ []) n e (alone h p q j) = absurd (omega arith)
    go (b ∷ d ∷ []) n e (paired h p q l j) = two b d p q j
    go (b ∷ d ∷ x ∷ v) n e (alone h p q j) = absurd (omega arith)
    go (b ∷ d ∷ x ∷ v) n e (paired h p q l j) = absurd (omega arith)

-- The bytes that the writer gives are those that can be taken back from the instruction: there are no others.
pub written-back : (set : Set) (i : Instruction) (bytes : List ℕ) → Bytes bytes → Writes set i (given bytes) → bytes_back i ≡ bytes
unfolding pick
written-back set i bytes small w = go bytes small (whole set i bytes w)
  where
    go : (v : List ℕ) → Bytes v → Whole set i v → bytes_back i ≡ v
    go v small (one b p q j) = rw (← j) (bytes-back set b 0 (small 0) (omega arith) p ∙ rw q)
    go v small (two b d p q j) = rw (← j) (bytes-back set b d (small 0) (small 1) p ∙ rw q)

module _ (program : Program) (a : ℕ) (i : Instruction) where
  -- Encoded, then read: where bytes that the writer gives for an instruction stand, in any program and at any address, the reader finds
  -- the instruction, with their number as its length.
  pub write-read :
      (bytes : List ℕ) → length program.bytes ≤ 4096 → Writes program.set i (given bytes) → StandsAt program.bytes a bytes
      → read_of program a ≡ given (sized i (length bytes))
  unfolding read_of instruction_at decoded_at pick
  write-read bytes short w s = go bytes (whole program.set i bytes w) s
    where
      go : (v : List ℕ) → Whole program.set i v → StandsAt program.bytes a v → read_of program a ≡ given (sized i (length v))
      go v (one b p q j) s = simp (le-ltb _ _ short, s.0, s.1, p, q, j)
      go v (two b d p q j) s = simp (le-ltb _ _ short, s.0, s.1, s.2.0, s.2.1, p, q, j)

  -- What is read at an address stands there, as many bytes as the reader says, and the writer has no reason to refuse it.
  pub read-stands :
      (n : ℕ) → Bytes program.bytes → read_of program a ≡ given (sized i n)
      → Stands program.bytes a n (given (bytes_back i)) × ((m : ℕ) → Refuses program.set i m → ⊥)
  unfolding pick
  read-stands n small r = go n (found program a i n (read-there program a i n r))
    where
      b : ℕ
      b = byte_at program.bytes a

      d : ℕ
      d = byte_at program.bytes (next_pc a)

      go : (n : ℕ) → Found program a i n → Stands program.bytes a n (given (bytes_back i)) × ((m : ℕ) → Refuses program.set i m → ⊥)
      go n (alone h p q j) =
          let back : bytes_back i ≡ b ∷ [] = rw (← j) (bytes-back program.set b 0 (small a) (omega arith) p ∙ rw q) in
          rw back ((refl, (h, refl, tt)), rw (← j) (unrefused program.set b 0 (small a) (omega arith) p))
      go n (paired h p q l j) =
          let back : bytes_back i ≡ b ∷ d ∷ [] = rw (← j) (bytes-back program.set b d (small a) (small (next_pc a)) p ∙ rw q) in
          rw back ((refl, (h, refl, (l, refl, tt))), rw (← j) (unrefused program.set b d (small a) (small (next_pc a)) p))

  -- Read, then written: whatever the writer answers for an instruction that is read at an address of a program are bytes, as many as the
  -- reader says, and the very ones that stand there.
  pub read-write :
      (n : ℕ) (answer : Answer (List ℕ)) → Bytes program.bytes → BytesIn answer → read_of program a ≡ given (sized i n)
      → Writes program.set i answer → Stands program.bytes a n answer
  read-write n (given bytes) small small' r w =
      rw (written-back program.set i bytes small' w) at (read-stands n small r).0
  read-write n (refused m) small small' r w = absurd ((read-stands n small r).1 m w)
