-- Four RL, and SWAP instead of them, in a program in the chip, EA low: from address 010, A being 12.
-- Assumes nothing.
use Rattle.std.specs.Prelude.{ℕ, zero, suc, List, [], ◌∷◌}
use Rattle.machine.specs.Rom.{Roms}
use Rattle.machine.specs.State.{power_up, with_core}
use Rattle.machine.specs.declared.State.{State}
use Rattle.chip.specs.Cases.{Case, holding, blank, idle, times, a, pc, number}
use Rattle.chip.specs.History.{after}
use Rattle.chip.specs.Run.{Progress, begun}

abbrev pub start : State
start = with_core power_up 0x12 0x010 0x08

abbrev pub four_rl : List ℕ
four_rl = holding 1024 0x010 (0xE7 ∷ 0xE7 ∷ 0xE7 ∷ 0xE7 ∷ [])

abbrev pub one_swap : List ℕ
one_swap = holding 1024 0x010 (0x47 ∷ [])

abbrev pub filled_swap : List ℕ
filled_swap = holding 1024 0x010 (0x47 ∷ 0x00 ∷ 0x00 ∷ 0x00 ∷ [])

-- A run over n samples, all pins high but EA: the number, A, PC and the cycles after it.
abbrev pub run : List ℕ → ℕ → List ℕ → Case
run program n want =
    record {
      program = program;
      ram = blank;
      state = start;
      samples = times n idle;
      look = λ e. number e ∷ a e ∷ pc e ∷ e.ran.cycles ∷ [];
      want = want;
    }

abbrev pub runs : List Case
runs =
    run four_rl 5 (0 ∷ 0x21 ∷ 0x014 ∷ 4 ∷ []) ∷
    run one_swap 2 (0 ∷ 0x21 ∷ 0x011 ∷ 1 ∷ []) ∷
    run filled_swap 5 (0 ∷ 0x21 ∷ 0x014 ∷ 4 ∷ []) ∷
    []

-- After n steps.
abbrev pub stepped : Roms → ℕ → Progress → Progress
stepped roms zero k = k
stepped roms (suc n) k = stepped roms n (after roms k idle idle)

abbrev pub reached : Roms → ℕ → Progress
reached roms n = stepped roms n (begun blank start)
