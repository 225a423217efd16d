-- Document 01, "Counting".
-- Assumes nothing.
use Rattle.std.specs.Prelude.{ℕ, ◌+◌, ◌/◌, ◌%◌, Bool, not, ◌&&◌, ◌||◌, eqb, ltb}
use Rattle.isa.specs.Choice.{pick, one_if}
use Rattle.machine.specs.declared.Count.{Count}
use Rattle.machine.specs.declared.Counting.{Counting}
use Rattle.machine.specs.declared.Counting.TheVariants.{Stopped, Timer, Counter}

-- The divider becomes d, T goes up by n, which is 0 or 1, and T1's level is remembered. "T counted up from FF to 00 sets TF, and stores
-- a request only if the timer interrupt is enabled."
abbrev pub advanced : Count → ℕ → ℕ → Bool → Bool → Count
advanced c d n t1 enabled =
    record {
      t = (c.t + n) % 256;
      divider = d;
      tf = c.tf || ltb 255 (c.t + n);
      request = c.request || (ltb 255 (c.t + n) && enabled);
      last = t1;
    }

-- One cycle in which T1 has the level t1. "Standing, nothing. As timer, the divider goes up by one; at 32 it returns to 0 and T goes
-- up. As counter, T goes up when T1 was high in the cycle before and is low in this one. T1 is remembered every cycle."
abbrev pub counted : Counting → Count → Bool → Bool → Count
counted Stopped c t1 enabled = advanced c c.divider 0 t1 enabled
counted Timer c t1 enabled = advanced c ((c.divider + 1) % 32) ((c.divider + 1) / 32) t1 enabled
counted Counter c t1 enabled = advanced c c.divider (one_if (c.last && not t1)) t1 enabled

-- "The counter stands still, counts cycles or counts falls of T1": 0, 1, 2.
abbrev pub counting_byte : Counting → ℕ
counting_byte Stopped = 0
counting_byte Timer = 1
counting_byte Counter = 2

unfoldable pub counting_of : ℕ → Counting
counting_of n = pick (eqb n 0) Stopped (pick (eqb n 1) Timer Counter)
