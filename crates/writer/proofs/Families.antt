-- Why the writer's bytes are right: what a family's function gives is what the sheet has. The sheet is compared, by computation, at
-- every value that an operand may take; at any other the answer is 23. Intel's rows are compared, and NEC's set has them all.
-- Assumes nothing.
use mathlib.Core.Path.{◌≡◌, refl, sym, ◌∙◌, ap}
use mathlib.Core.Bool.{Bool, true, false}
use mathlib.Core.List.{[], ◌∷◌}
use Prim.Native.Nat.{ℕ, suc, zero-le, ◌+◌, ◌-◌, ◌*◌, ◌/◌, ◌%◌, ◌≤◌, ◌<◌}
use native.Mathlib.Omega.{arith}
use borrow.Author.Tests.{leb-false, le-leb, lt-leb}
use Rattle.std.specs.Prelude.{Result, Ok, Err}
use Rattle.isa.specs.Choice.{pick, within, listed}
use Rattle.isa.specs.Numbers.{given}
use Rattle.isa.specs.Sheet.{kind_of, entry_of, instruction_of}
use Rattle.isa.specs.Reading.{Sized, sized, under, read_of, instruction_at, decoded_at}
use Rattle.isa.specs.declared.Cell.{Cell}
use Rattle.isa.specs.declared.Cell.TheVariants.{Register, Indirect}
use Rattle.isa.specs.declared.Source.{Source}
use Rattle.isa.specs.declared.Source.TheVariants.{FromCell, Immediate}
use Rattle.isa.specs.declared.Latch.{Latch}
use Rattle.isa.specs.declared.Latch.TheVariants.{Bus, Port}
use Rattle.isa.specs.declared.Flag.{Flag}
use Rattle.isa.specs.declared.Flag.TheVariants.{FlagC, FlagF0, FlagF1}
use Rattle.isa.specs.declared.Join.{Join}
use Rattle.isa.specs.declared.Instruction.{Instruction}
use Rattle.isa.specs.declared.Instruction.TheVariants.{Logic, MovData}
use Rattle.isa.specs.declared.Refusal.{Refusal}
use Rattle.isa.specs.declared.Refusal.TheVariants.{OperandTooLarge}
use Rattle.isa.specs.declared.Set.{Set}
use Rattle.isa.specs.declared.Set.TheVariants.{Intel, Nec}
use Rattle.isa.proofs.Entries.{within-true}
use Rattle.isa.proofs.Everywhere.{between}
use Rattle.writer.specs.Codes.{coded, coded_high, alone, with_second, cell_code, source_code, latch_code, flag_code, nec_code}
use Rattle.isa.specs.Sets.{Without}
use Rattle.writer.specs.Writing.{unknown, too_large, Writes, encoded_as, holds, cell_holds, source_holds, latch_holds, far_holds}
use Rattle.writer.specs.declared.Encoded.{Encoded}
use Rattle.isa.proofs.Sets.{shared}

-- What the sheet has for the code b and the second byte d, in Intel's set and so in each.
abbrev pub known : ℕ → ℕ → Sized
known b d = sized (instruction_of Intel b d) (entry_of Intel b).bytes

pub reads-one :
    (b : ℕ) (i : Instruction) → known b 0 ≡ sized i 1 → (set : Set) → read_of (under set (b ∷ [])) 0 ≡ given (sized i 1)
unfolding read_of instruction_at decoded_at pick
reads-one b i k set =
    let size : (entry_of Intel b).bytes ≡ 1 = cc in
    let same : instruction_of Intel b 0 ≡ i = cc in
    simp (shared set b (rw size), size, same)

pub reads_two :
    (b d : ℕ) (i : Instruction) → known b d ≡ sized i 2 → (set : Set) → read_of (under set (b ∷ d ∷ [])) 0 ≡ given (sized i 2)
unfolding read_of instruction_at decoded_at pick
reads_two b d i k set =
    let size : (entry_of Intel b).bytes ≡ 2 = cc in
    let same : instruction_of Intel b d ≡ i = cc in
    simp (shared set b (rw size), size, same)

-- Both, as rules for the arms that write a code of the sheet.
pub ruleset read_back = (reads-one, reads_two)

-- A code that holds an operand k from low to high, alone (n is 1) or before a second byte d (n is 2); or 23. The sheet has it at each
-- value from low to high.
module _
    (d n : ℕ) (behind : Result ℕ Refusal → Result Encoded Refusal) (passed : behind (Err OperandTooLarge) ≡ Err OperandTooLarge)
    (reads : (b : ℕ) (i : Instruction) → known b d ≡ sized i n → (set : Set) → Writes set i (encoded_as (behind (Ok b)))) where
  operand-writes :
      (code : ℕ → ℕ) (low high : ℕ) (make : ℕ → Instruction) → ((k : ℕ) → within low high k ≡ false → holds (make k) ≡ false)
      → listed (λ k. known (code k) d) (suc high - low) low ≡ listed (λ k. sized (make k) n) (suc high - low) low
      → (k : ℕ) (set : Set) → Writes set (make k) (encoded_as (behind (pick (within low high k) (Ok (code k)) (Err OperandTooLarge))))
  unfolding pick
  operand-writes code low high make outside e k = go (within low high k) refl
    where
      go :
          (p : Bool) → within low high k ≡ p → (set : Set)
          → Writes set (make k) (encoded_as (behind (pick p (Ok (code k)) (Err OperandTooLarge))))
      go true h =
          let l : (low ≤ k) × (k ≤ high) = within-true low high k h in
          reads (code k) (make k)
          (between (λ k. known (code k) d) (λ k. sized (make k) n) (suc high - low) low e k l.0 (omega arith))
      go false h = λ set. rw passed (too_large (outside k h))

-- The laws of the families. In each the last premises are what an arm of the writer knows: which instruction it writes, and what the
-- functions that it calls gave.

-- An operand on top of a base, times its weight.
module _ (base weight low high : ℕ) where
  pub coded-writes :
      (make : ℕ → Instruction) → ((k : ℕ) → within low high k ≡ false → holds (make k) ≡ false)
      → listed (λ k. known (base + weight * k) 0) (suc high - low) low ≡ listed (λ k. sized (make k) 1) (suc high - low) low
      → {i : Instruction} {v : Result ℕ Refusal} {w : Result Encoded Refusal} {k : ℕ} → i ≡ make k → v ≡ coded base weight low high k
      → w ≡ alone v → (set : Set) → Writes set i (encoded_as w)
  coded-writes make outside e {k = k} p q r =
      rw (p, r, q) (operand-writes 0 1 alone refl reads-one (λ k. base + weight * k) low high make outside e k)

  pub coded-writes-two :
      (make : ℕ → ℕ → Instruction) → ((k d : ℕ) → within low high k ≡ false → holds (make k d) ≡ false)
      → ((d : ℕ) → listed (λ k. known (base + weight * k) d) (suc high - low) low ≡ listed (λ k. sized (make k d) 2) (suc high - low) low)
      → {i : Instruction} {v : Result ℕ Refusal} {w : Result Encoded Refusal} {k d : ℕ} → i ≡ make k d → v ≡ coded base weight low high k
      → w ≡ with_second v d → (set : Set) → Writes set i (encoded_as w)
  coded-writes-two make outside e {k = k} {d} p q r =
      rw (p, r, q)
      (operand-writes d 2 (λ v. with_second v d) refl (λ b. reads_two b d) (λ k. base + weight * k) low high (λ k. make k d) (λ k. outside k d) (e d) k)

-- JMP and CALL: bits 8-10 of the address stand in bits 5-7 of the code.
pub far-writes :
    (base : ℕ) (make : ℕ → Instruction) → ((a : ℕ) → holds (make a) ≡ far_holds a)
    → ((d : ℕ) → listed (λ k. known (base + 32 * k) d) 8 0 ≡ listed (λ k. sized (make (k * 256 + d)) 2) 8 0)
    → {i : Instruction} {v : Result ℕ Refusal} {w : Result Encoded Refusal} {a : ℕ} → i ≡ make a → v ≡ coded_high base (a / 256) → w ≡ with_second v (a % 256)
    → (set : Set) → Writes set i (encoded_as w)
far-writes base make far e {a = a} p q r =
    let whole : a / 256 * 256 + a % 256 ≡ a = omega arith in
    coded-writes-two base 32 0 7 (λ k d. make (k * 256 + d)) (λ k d h. far (k * 256 + d) ∙ too-far k d h) e (p ∙ ap make (sym whole)) q r
  where
    too-far : (k d : ℕ) → within 0 7 k ≡ false → far_holds (k * 256 + d) ≡ false
    too-far k d h =
        let large : 7 < k = leb-false k 7 (rw (le-leb 0 k zero-le) at h) in
        rw (le-leb 0 (k * 256 + d) zero-le, lt-leb (k * 256 + d) 0x7FF (omega arith))

-- Rr and @Rr.
pub cell-writes :
    (base : ℕ) (make : Cell → Instruction) → ((c : Cell) → holds (make c) ≡ cell_holds c)
    → listed (λ k. known (base + 8 + k) 0) 8 0 ≡ listed (λ k. sized (make (Register k)) 1) 8 0
    → listed (λ k. known (base + k) 0) 2 0 ≡ listed (λ k. sized (make (Indirect k)) 1) 2 0
    → {i : Instruction} {v : Result ℕ Refusal} {w : Result Encoded Refusal} {c : Cell} → i ≡ make c → v ≡ cell_code base c → w ≡ alone v
    → (set : Set) → Writes set i (encoded_as w)
cell-writes base make held er ei {c = Register k} p q r =
    coded-writes (base + 8) 1 0 7 (λ k. make (Register k)) (λ k h. held (Register k) ∙ h) er p q r
cell-writes base make held er ei {c = Indirect k} p q r =
    coded-writes base 1 0 1 (λ k. make (Indirect k)) (λ k h. held (Indirect k) ∙ h) ei p q r

-- MOV Rr,#data and MOV @Rr,#data.
pub mov-data-writes :
    {i : Instruction} {v : Result ℕ Refusal} {w : Result Encoded Refusal} {c : Cell} {d : ℕ} → i ≡ MovData c d → v ≡ cell_code 0xB0 c → w ≡ with_second v d
    → (set : Set) → Writes set i (encoded_as w)
unfolding entry_of kind_of pick
mov-data-writes {c = Register r} = coded-writes-two 0xB8 1 0 7 (λ k d. MovData (Register k) d) (λ k d h. rw h) (λ d. refl)
mov-data-writes {c = Indirect r} = coded-writes-two 0xB0 1 0 1 (λ k d. MovData (Indirect k) d) (λ k d h. rw h) (λ d. refl)

-- Rr, @Rr and #data.
pub source-writes :
    (base immediate : ℕ) (make : Source → Instruction) → ((s : Source) → holds (make s) ≡ source_holds s)
    → listed (λ k. known (base + 8 + k) 0) 8 0 ≡ listed (λ k. sized (make (FromCell (Register k))) 1) 8 0
    → listed (λ k. known (base + k) 0) 2 0 ≡ listed (λ k. sized (make (FromCell (Indirect k))) 1) 2 0
    → ((d : ℕ) → known immediate d ≡ sized (make (Immediate d)) 2)
    → {i : Instruction} {w : Result Encoded Refusal} {s : Source} → i ≡ make s → w ≡ source_code base immediate s
    → (set : Set) → Writes set i (encoded_as w)
source-writes base immediate make held er ei ed {s = FromCell c} p q =
    cell-writes base (λ c. make (FromCell c)) (λ c. held (FromCell c)) er ei p refl q
source-writes base immediate make held er ei ed {s = Immediate d} p q = rw (p, q) (reads_two immediate d (make (Immediate d)) (ed d))

-- BUS and Pp.
pub latch-writes :
    (bus base : ℕ) (make : Latch → Instruction) → ((l : Latch) → holds (make l) ≡ latch_holds l)
    → known bus 0 ≡ sized (make Bus) 1 → listed (λ k. known (base + k) 0) 2 1 ≡ listed (λ k. sized (make (Port k)) 1) 2 1
    → {i : Instruction} {v : Result ℕ Refusal} {w : Result Encoded Refusal} {l : Latch} → i ≡ make l → v ≡ latch_code bus base l → w ≡ alone v
    → (set : Set) → Writes set i (encoded_as w)
latch-writes bus base make held eb ep {l = Bus} p q r = rw (p, r, q) (reads-one bus (make Bus) eb)
latch-writes bus base make held eb ep {l = Port n} p q r =
    coded-writes base 1 1 2 (λ k. make (Port k)) (λ k h. held (Port k) ∙ h) ep p q r

-- ANL and ORL on BUS and Pp, with the data behind the code.
pub logic-writes :
    (base : ℕ) (op : Join) → ((d : ℕ) → known base d ≡ sized (Logic op Bus d) 2)
    → ((d : ℕ) → listed (λ k. known (base + k) d) 2 1 ≡ listed (λ k. sized (Logic op (Port k) d) 2) 2 1)
    → (l : Latch) {o : Join} {v : Result ℕ Refusal} → o ≡ op → v ≡ latch_code base base l → (set : Set) (d : ℕ)
    → Writes set (Logic o l d) (encoded_as (with_second v d))
logic-writes base op eb ep Bus p q set d = rw (p, q) (reads_two base d (Logic op Bus d) (eb d) set)
logic-writes base op eb ep (Port n) p q set d =
    rw p (coded-writes-two base 1 1 2 (λ k d. Logic op (Port k) d) (λ k d h. rw h) ep refl q refl set)

-- A conditional jump, ANL and ORL on a latch: the function called gave the code, for any second byte.
pub second-writes :
    (make : ℕ → Instruction) (v : Result ℕ Refusal) {i : Instruction} {w : Result Encoded Refusal} {d : ℕ} → i ≡ make d
    → ((set : Set) (d : ℕ) → Writes set (make d) (encoded_as (with_second v d))) → w ≡ with_second v d
    → (set : Set) → Writes set i (encoded_as w)
second-writes make v {d = d} p h q set = rw (p, q) (h set d)

-- CPL and CLR of a flag.
pub flag-writes :
    (c f0 f1 : ℕ) (make : Flag → Instruction) → known c 0 ≡ sized (make FlagC) 1 → known f0 0 ≡ sized (make FlagF0) 1
    → known f1 0 ≡ sized (make FlagF1) 1 → {i : Instruction} {b : ℕ} {f : Flag} → i ≡ make f → b ≡ flag_code c f0 f1 f
    → (set : Set) → Writes set i (given (b ∷ []))
flag-writes c f0 f1 make ec e0 e1 {f = FlagC} p q = rw (p, q) (reads-one c (make FlagC) ec)
flag-writes c f0 f1 make ec e0 e1 {f = FlagF0} p q = rw (p, q) (reads-one f0 (make FlagF0) e0)
flag-writes c f0 f1 make ec e0 e1 {f = FlagF1} p q = rw (p, q) (reads-one f1 (make FlagF1) e1)

-- HALT and STOP.
pub nec-writes :
    (code : ℕ) (i : Instruction) → Without Intel i → Writes Nec i (given (code ∷ []))
    → {j : Instruction} {v : Result ℕ Refusal} {w : Result Encoded Refusal} (set : Set) → j ≡ i → v ≡ nec_code set code → w ≡ alone v
    → Writes set j (encoded_as w)
nec-writes code i none there Intel p q r = rw (p, r, q) (unknown none)
nec-writes code i none there Nec p q r = rw (p, r, q) there
