-- 3 from C (document 02, item 9): no call of mcs48_step gives it for what an accepted one left, and a call of mcs48_run that gives 1, 2 or 3
-- has done nothing.
-- Assumes nothing.
use Prim.Native.Nat.{ℕ, ◌≤◌}
use mathlib.Core.List.{List}
use mathlib.Core.Path.{◌≡◌, refl, ◌∙◌}
use native.Mathlib.Omega.{arith}
use Rattle.isa.specs.Choice.{pick}
use Rattle.isa.specs.Naming.{set_of}
use Rattle.machine.specs.Rom.{both}
use Rattle.chip.specs.Run.{Ended, begun, ended}
use Rattle.chip.specs.Step.{refused_by, step_of}
use Rattle.demands.proofs.Tested.{never-3, only-at-start}
use Rattle.mcs48_c.specs.Bytes.{state_of}
use Rattle.mcs48_c.specs.Calls.{step_from, ram_from, run_from, totalled, totals_after}
use Rattle.mcs48_c.specs.Naming.{by_named}
use Rattle.mcs48_c.specs.Stepping.{Buffers, run_leaves, step_leaves}
use Rattle.mcs48_c.proofs.Demand3.{c-step-state}
use Rattle.mcs48_c.proofs.Naming.{Names, a_set, no-set, names}

pub c-never-3 :
    (name : ℕ) (program outside : List ℕ) (b : Buffers) (first second : ℕ) → (step_from name program outside b.ram b.bytes first second).number ≡ 0
    → (x y : ℕ)
    → (step_from name program outside (step_leaves name program outside b first second).ram (step_leaves name program outside b first second).bytes x y).number ≡ 3
    → ⊥
c-never-3 name program outside b first second a x y = rw (c-step-state name program outside b first second) (go (names name) a)
  where
    go :
        Names name → (step_from name program outside b.ram b.bytes first second).number ≡ 0
        → (by_named (set_of name) (λ set. step_of (both set program outside) (ram_from name program outside b.ram b.bytes first second) (step_from name program outside b.ram b.bytes first second).state x y)
        (λ number. refused_by number (step_from name program outside b.ram b.bytes first second).state)).number ≡ 3 → ⊥
    go (a_set set e) = rw e (λ a. never-3 (both set program outside) b.ram (state_of b.bytes) first second a x y)
    go (no-set e) = rw e (λ a. absurd (omega (arith, a)))

module _ (name : ℕ) (program outside : List ℕ) (b : Buffers) (samples : List ℕ) where
  abbrev run : Ended
  run = run_from name program outside b.ram b.bytes samples

  begun-only : 1 ≤ run.ran.number → run.ran.number ≤ 3 → run ≡ ended (begun b.ram (state_of b.bytes)) run.ran.number
  begun-only = go (names name)
    where
      go : Names name → 1 ≤ run.ran.number → run.ran.number ≤ 3 → run ≡ ended (begun b.ram (state_of b.bytes)) run.ran.number
      go (a_set set e) = rw e (λ some few. let w = only-at-start (both set program outside) b.ram (state_of b.bytes) samples some few in w ∙ rw w)
      go (no-set e) = rw e (λ some few. refl)

  -- The state's bytes and the RAM are as they were, and the totals, if they are written, 0 and 0.
  pub nothing-done :
      (totals : List ℕ) → 1 ≤ (run_from name program outside b.ram b.bytes samples).ran.number
      → (run_from name program outside b.ram b.bytes samples).ran.number ≤ 3
      → (run_leaves name program outside b samples ≡ b)
      × (totals_after totals (run_from name program outside b.ram b.bytes samples).ran ≡ totalled totals 0 0)
  unfolding pick
  nothing-done totals some few = rw (begun-only some few) (refl, refl)
