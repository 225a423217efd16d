-- The third demand for a program in C: what calls leave in its buffers, calls of mcs48_step one after the other, and the bytes that tell of
-- the counter and of the call to location 7.
-- Assumes nothing.
use Rattle.std.specs.Prelude.{ℕ, ◌+◌, List, ◌≡◌}
use Rattle.isa.specs.Reading.{byte_at}
use Rattle.isa.specs.declared.Set.{Set}
use Rattle.machine.specs.Rom.{both}
use Rattle.chip.specs.History.{Undisturbed}
use Rattle.mcs48_c.specs.Bytes.{state_of}
use Rattle.mcs48_c.specs.Calls.{step_from, ram_from, run_from, after_step, after_run}

-- The buffers of the RAM and of the state.
pub record Buffers : Type 0 where
  pub ram : List ℕ
  pub bytes : List ℕ

-- What a call of mcs48_run leaves in them.
abbrev pub run_leaves : ℕ → List ℕ → List ℕ → Buffers → List ℕ → Buffers
run_leaves name program outside k samples =
    record {
      ram = (run_from name program outside k.ram k.bytes samples).ram;
      bytes = after_run k.bytes (run_from name program outside k.ram k.bytes samples).ran;
    }

-- What a call of mcs48_step leaves in them.
abbrev pub step_leaves : ℕ → List ℕ → List ℕ → Buffers → ℕ → ℕ → Buffers
step_leaves name program outside k first second =
    record {
      ram = ram_from name program outside k.ram k.bytes first second;
      bytes = after_step k.bytes (step_from name program outside k.ram k.bytes first second);
    }

-- Calls of mcs48_step on these buffers, one after the other and each accepted, with the machine cycles that they answered added up.
pub data Stepped (name : ℕ) (program outside : List ℕ) (b : Buffers) : Buffers → ℕ → Type 0 where
  none : Stepped name program outside b b 0
  more :
      {k : Buffers} {n : ℕ} (first second : ℕ) → Stepped name program outside b k n
      → (step_from name program outside k.ram k.bytes first second).number ≡ 0
      → Stepped name program outside b (step_leaves name program outside k first second)
      (n + (step_from name program outside k.ram k.bytes first second).cycles)

-- In none of them a reset is seen, or one of STRT T, STRT CNT, STOP TCNT and MOV T,A carried out, the set being the one that is named.
abbrev pub UndisturbedCalls : {name : ℕ} {program outside : List ℕ} {b k : Buffers} {n : ℕ} → Set → Stepped name program outside b k n → Type 0
UndisturbedCalls set none = Unit {0}
UndisturbedCalls {program = program} {outside = outside} set (more {k = k} first second h a) =
    UndisturbedCalls set h × Undisturbed (both set program outside) (state_of k.bytes) first

-- The bytes of a state just after STRT T, the counter holding c: T is in byte 6, the divider in byte 7, and 1 in byte 8 says that the counter
-- counts cycles.
pub record JustStartedBytes (c : ℕ) (bytes : List ℕ) : Type 0 where
  pub t : byte_at bytes 6 ≡ c
  pub divider : byte_at bytes 7 ≡ 0
  pub counting : byte_at bytes 8 ≡ 1

-- The bytes of a state just after the call to location 7: PC is 007, the request is cleared, and the interrupt is in service.
pub record CalledBytes (bytes : List ℕ) : Type 0 where
  pub pc_low : byte_at bytes 1 ≡ 7
  pub pc_high : byte_at bytes 2 ≡ 0
  pub request : byte_at bytes 10 ≡ 0
  pub service : byte_at bytes 13 ≡ 1
