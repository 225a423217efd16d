-- Document 01, "Codes: 164 of one byte, 66 of two, 26 undefined", and document 02, item 2, "26 undefined codes for Intel, 24 for NEC": what
-- they say of the 256 codes, by computation over the sheet.
-- Assumes nothing.
use mathlib.Core.Path.{◌≡◌, refl}
use mathlib.Core.List.{List, [], ◌∷◌, ◌++◌}
use mathlib.Core.Bool.{Bool, true, ◌&&◌}
use Prim.Native.Nat.{ℕ, zero, suc, ◌+◌, ◌<◌, ◌≤◌}
use lib.Dec.{eqb, leb, leb→le}
use lib.ListN.{length}
use Rattle.isa.specs.Choice.{pick}
use Rattle.isa.specs.Sheet.{Row, rows, rows_of, fits, entry_of, kind_of}
use Rattle.isa.specs.declared.Set.{Set}
use Rattle.isa.specs.declared.Set.TheVariants.{Intel, Nec}
use Rattle.isa.proofs.Everywhere.{everywhere}

-- What is counted of a set: its instructions, and its codes by bytes and by cycles; and the undefined ones, as the documents list them.
pub record Counts : Type 0 where
  pub instructions : ℕ
  pub one_byte : ℕ
  pub two_bytes : ℕ
  pub one_cycle : ℕ
  pub two_cycles : ℕ
  pub undefined : List ℕ

-- HALT and STOP have one byte and one cycle each; Intel leaves their codes, 01 and 82, undefined.
abbrev pub counts : Set → Counts
counts Intel =
    record {
      instructions = 96;
      one_byte = 164;
      two_bytes = 66;
      one_cycle = 133;
      two_cycles = 97;
      undefined =
          0x01 ∷ 0x06 ∷ 0x0B ∷ 0x22 ∷ 0x33 ∷ 0x38 ∷ 0x3B ∷ 0x63 ∷ 0x66 ∷ 0x73 ∷ 0x82 ∷ 0x87 ∷ 0x8B
          ∷ 0x9B ∷ 0xA2 ∷ 0xA6 ∷ 0xB7 ∷ 0xC0 ∷ 0xC1 ∷ 0xC2 ∷ 0xC3 ∷ 0xD6 ∷ 0xE0 ∷ 0xE1 ∷ 0xE2 ∷ 0xF3 ∷ [];
    }
counts Nec =
    record {
      instructions = 98;
      one_byte = 166;
      two_bytes = 66;
      one_cycle = 135;
      two_cycles = 97;
      undefined =
          0x06 ∷ 0x0B ∷ 0x22 ∷ 0x33 ∷ 0x38 ∷ 0x3B ∷ 0x63 ∷ 0x66 ∷ 0x73 ∷ 0x87 ∷ 0x8B
          ∷ 0x9B ∷ 0xA2 ∷ 0xA6 ∷ 0xB7 ∷ 0xC0 ∷ 0xC1 ∷ 0xC2 ∷ 0xC3 ∷ 0xD6 ∷ 0xE0 ∷ 0xE1 ∷ 0xE2 ∷ 0xF3 ∷ [];
    }

-- Of the n codes from i on, those that pass a test.
abbrev codes : (ℕ → Bool) → ℕ → ℕ → List ℕ
codes test zero i = []
codes test (suc n) i = pick (test i) (i ∷ []) [] ++ codes test n (suc i)

abbrev of_bytes : Set → ℕ → ℕ → Bool
of_bytes set n b = eqb (entry_of set b).bytes n

abbrev of_cycles : Set → ℕ → ℕ → Bool
of_cycles set n b = eqb (entry_of set b).cycles n

abbrev counted : Set → Counts
counted set =
    record {
      instructions = length (rows_of set);
      one_byte = length (codes (of_bytes set 1) 256 0);
      two_bytes = length (codes (of_bytes set 2) 256 0);
      one_cycle = length (codes (of_cycles set 1) 256 0);
      two_cycles = length (codes (of_cycles set 2) 256 0);
      undefined = codes (of_bytes set 0) 256 0;
    }

pub counts-found : (set : Set) → counted set ≡ counts set
unfolding entry_of kind_of pick
counts-found Intel = refl
counts-found Nec = refl

-- Two cycles: "every two-byte code", and of one byte these: OUTL BUS, INS and IN, MOVD A,Pp, OUTL Pp, MOVD Pp,A, MOVX A,@Rr, RET,
-- ORLD, MOVX @Rr,A, RETR, ANLD, MOVP, JMPP, MOVP3.
pub two-bytes-two-cycles :
    (set : Set) → codes (of_bytes set 2) 256 0 ≡ codes (λ b. of_bytes set 2 b && of_cycles set 2 b) 256 0
unfolding entry_of kind_of pick
two-bytes-two-cycles Intel = refl
two-bytes-two-cycles Nec = refl

pub one-byte-two-cycles :
    (set : Set)
    → codes (λ b. of_bytes set 1 b && of_cycles set 2 b) 256 0
    ≡ 0x02 ∷ 0x08 ∷ 0x09 ∷ 0x0A ∷ 0x0C ∷ 0x0D ∷ 0x0E ∷ 0x0F ∷ 0x39 ∷ 0x3A ∷ 0x3C ∷ 0x3D ∷ 0x3E ∷ 0x3F
    ∷ 0x80 ∷ 0x81 ∷ 0x83 ∷ 0x8C ∷ 0x8D ∷ 0x8E ∷ 0x8F ∷ 0x90 ∷ 0x91 ∷ 0x93 ∷ 0x9C ∷ 0x9D ∷ 0x9E ∷ 0x9F
    ∷ 0xA3 ∷ 0xB3 ∷ 0xE3 ∷ []
unfolding entry_of kind_of pick
one-byte-two-cycles Intel = refl
one-byte-two-cycles Nec = refl

-- How many rows a code fits.
abbrev fitting : List Row → ℕ → ℕ
fitting [] b = 0
fitting (w ∷ ws) b = pick (fits w.place w.code b) 1 0 + fitting ws b

pub one-row-at-most : (b : ℕ) → b < 256 → fitting rows b ≤ 1
unfolding pick
one-row-at-most b h = leb→le _ 1 (rw (everywhere (λ k. leb (fitting rows k) 1) (λ k. true) 256 refl b h) tt)
