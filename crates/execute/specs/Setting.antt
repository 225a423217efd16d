-- The instructions that set the counter, and what they set.
-- Assumes nothing.
use Rattle.std.specs.Prelude.{ℕ, ◌≡◌}
use Rattle.isa.specs.declared.Instruction.{Instruction}
use Rattle.isa.specs.declared.Instruction.TheVariants.{Control, MovTA}
use Rattle.isa.specs.declared.Switch.TheVariants.{StopTcnt, StrtCnt, StrtT}
use Rattle.machine.specs.declared.Counting.{Counting}
use Rattle.machine.specs.declared.State.{State}

-- The instruction is none of STRT T, STRT CNT, STOP TCNT and MOV T,A.
pub record LeavesCounter (i : Instruction) : Type 0 where
  pub no_strt_t : i ≡ Control StrtT → ⊥
  pub no_strt_cnt : i ≡ Control StrtCnt → ⊥
  pub no_stop_tcnt : i ≡ Control StopTcnt → ⊥
  pub no_mov_t_a : i ≡ MovTA → ⊥

-- How the counter counts, what it holds, and its divider.
pub record Setting : Type 0 where
  pub counting : Counting
  pub t : ℕ
  pub divider : ℕ

abbrev pub setting_of : State → Setting
setting_of s = record { counting = s.counting; t = s.t; divider = s.divider }
