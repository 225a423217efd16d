-- Document 02, item 6, of the chip: the steps over a string of rotates, in the chip's program, in the second one, or in both (item 7).
-- Assumes nothing.
use Rattle.std.specs.Prelude.{ℕ, zero, suc, ◌+◌, ◌≤◌, Bool, false, List, [], ◌∷◌, ◌++◌, map, ◌⊎◌, ◌≡◌, length, replicate}
use Rattle.isa.specs.Reading.{next_pc, lacks, byte_at}
use Rattle.machine.specs.Counting.{counted}
use Rattle.machine.specs.Pins.{t1_pin, is_high}
use Rattle.machine.specs.Psw.{bit_c}
use Rattle.machine.specs.Rom.{Roms, seen_by}
use Rattle.machine.specs.State.{count_of, with_pc, with_mode, with_count}
use Rattle.machine.specs.declared.Count.{Count}
use Rattle.machine.specs.declared.Counting.{Counting}
use Rattle.machine.specs.declared.Mode.{Mode}
use Rattle.machine.specs.declared.Mode.TheVariants.{Running}
use Rattle.machine.specs.declared.State.{State}
use Rattle.accumulator.specs.Rotates.{Rotate, rotated, Law}
use Rattle.effects.specs.declared.Event.TheVariants.{Quiet}
use Rattle.chip.specs.History.{after}
use Rattle.chip.specs.Refusals.{Fetches}
use Rattle.chip.specs.Run.{Progress, begun}

-- n steps from k to m, one after the other. Each comes to fetch: no reset, no wait and no interrupt call comes between.
pub data Fetching (roms : Roms) : Progress → ℕ → Progress → Type 0 where
  none : {k : Progress} → Fetching roms k 0 k
  step :
      {k m : Progress} {n : ℕ} (first second : ℕ) → Fetches roms k.ram k.state first second
      → Fetching roms (after roms k first second) n m → Fetching roms k (suc n) m

-- The two samples of each.
pub record Samples : Type 0 where
  pub first : ℕ
  pub second : ℕ

abbrev pub samples_of : {roms : Roms} {k m : Progress} {n : ℕ} → Fetching roms k n m → List Samples
samples_of none = []
samples_of (step first second f g) = record { first = first; second = second } ∷ samples_of g

-- T1's level in the first cycle of each. (A rotate has no second.)
abbrev pub levels : {roms : Roms} {k m : Progress} {n : ℕ} → Fetching roms k n m → List Bool
levels g = map (λ x. is_high t1_pin x.first) (samples_of g)

-- Steps with these samples, one after the other from the address a, see these bytes: each sees its own, wherever EA takes it from.
abbrev pub SeenAt : Roms → ℕ → List Samples → List ℕ → Type 0
SeenAt roms a [] bytes = Unit {0}
SeenAt roms a (x ∷ xs) [] = Unit {0}
SeenAt roms a (x ∷ xs) (b ∷ bs) =
    (lacks (seen_by roms x.first).bytes a ≡ false) × (byte_at (seen_by roms x.first).bytes a ≡ b) × SeenAt roms (next_pc a) xs bs

-- PC past n bytes.
abbrev pub pc_past : ℕ → ℕ → ℕ
pc_past zero pc = pc
pc_past (suc n) pc = pc_past n (next_pc pc)

-- The mode past n instructions: the first ends a release (document 02, item 2), so the machine runs after it.
abbrev pub mode_past : ℕ → Mode → Mode
mode_past zero mode = mode
mode_past (suc n) mode = Running

-- A state with another PC, mode and counter.
abbrev pub moved : State → ℕ → Mode → Count → State
moved s pc mode c = with_count (with_mode (with_pc s pc) mode) c

-- The counter after a cycle with each of these levels of T1.
abbrev pub counted_over : Counting → Bool → Count → List Bool → Count
counted_over counting enabled c [] = c
counted_over counting enabled c (t1 ∷ rest) = counted_over counting enabled (counted counting c t1 enabled) rest

-- Where the steps over a string lead, all of it: A and C are what the string makes of them, PC is past its bytes, a release has ended
-- unless the string is empty, its cycles, one for each, are counted and have used as many samples, there is no event, and all else is as it
-- was.
abbrev pub over : List Rotate → Progress → List Bool → Progress
over rs k t1 =
    record {
      ram = k.ram;
      state =
          moved (rotated rs k.state) (pc_past (length rs) k.state.pc) (mode_past (length rs) k.state.mode)
          (counted_over k.state.counting k.state.interrupts.tcnti (count_of k.state) t1);
      used = k.used + length rs;
      cycles = k.cycles + length rs;
      events = k.events ++ replicate (length rs) Quiet;
    }

-- From one RAM and state, x is where the steps over a law's string lead, and y where those over the string that stands instead lead.
pub record Replaced (l : Law) (ram : List ℕ) (s : State) (x y : Progress) (t1 instead-t1 : List Bool) : Type 0 where
  pub leaves : x ≡ over l.string (begun ram s) t1
  pub instead_leaves : y ≡ over l.instead (begun ram s) instead-t1
  -- The same A and C, in as many cycles as the law says.
  pub a : x.state.a ≡ y.state.a
  pub c : bit_c x.state.psw ≡ bit_c y.state.psw
  pub cycles : x.cycles ≡ l.cycles
  pub instead_cycles : y.cycles ≡ l.instead_cycles
  -- All else is the same too, but PC, the counter (T, its divider, TF, the stored request and T1's level), and the mode as follows.
  pub state : y.state ≡ moved x.state y.state.pc y.state.mode (count_of y.state)
  -- The mode is the same if the machine ran or neither string is empty: only an empty one leaves a machine just released.
  pub mode : (s.mode ≡ Running) ⊎ ((1 ≤ length l.string) × (1 ≤ length l.instead)) → x.state.mode ≡ y.state.mode
  pub memory : x.ram ≡ y.ram

-- Two memories for the same set, and each as long: the program in the chip, and the second one.
pub record AsLong (roms patched : Roms) : Type 0 where
  pub set : patched.set ≡ roms.set
  pub inside : length patched.inside ≡ length roms.inside
  pub outside : length patched.outside ≡ length roms.outside

-- In another memory i steps go the way of g: with the same samples, and to the same end.
pub record SameWay {roms : Roms} {k m : Progress} {n : ℕ} (g : Fetching roms k n m) (patched : Roms) (i : ℕ) : Type 0 where
  pub way : Fetching patched k i m
  pub samples : samples_of way ≡ samples_of g
