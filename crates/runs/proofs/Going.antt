-- The invariant of a run's loop, and what a step does to it.
-- Assumes nothing.
use Prim.Native.Nat.{ℕ, ◌+◌, ◌≤◌, ◌<◌}
use mathlib.Core.List.{List, [], ◌∷◌, ◌++◌}
use mathlib.Core.Path.{◌≡◌, sym, ap, ◌∙◌}
use native.Mathlib.Omega.{arith}
use lib.ListN.{length, get_or, drop, length-drop}
use Rattle.machine.specs.Rom.{Roms}
use Rattle.machine.specs.declared.State.{State}
use Rattle.effects.specs.declared.Event.{Event}
use Rattle.chip.specs.Admission.{lent_of}
use Rattle.chip.specs.Run.{Progress, begun, ended, run_over}
use Rattle.chip.specs.Step.{Moved, moved_of, plan_of, ram_after, step_of}
use Rattle.chip.proofs.Cycles.{one-or-two, cycles-used}
use Rattle.std.proofs.lemmas.List.{take_rest}
use Rattle.chip.proofs.Permitted.{still-stands}
use Rattle.chip.proofs.Runs.{next, run-short, spent, went, halted}

-- How far the run has come: the samples left, and all that a run returns; the events of the steps so far are not in the code.
pub record Going (roms : Roms) (samples ram₀ : List ℕ) (state₀ : State) (left ram : List ℕ) (state : State) (used cycles : ℕ) : Type 0 where
  pub same_length : length ram ≡ length ram₀
  pub within : used + length left ≡ length samples
  pub fewer : cycles ≤ used
  pub lent : lent_of roms ram state ≡ 0
  pub events : List Event
  pub same :
      run_over roms left (record { ram = ram; state = state; used = used; cycles = cycles; events = events })
      ≡ run_over roms samples (begun ram₀ state₀)

module _ (roms : Roms) {samples ram₀ : List ℕ} {state₀ : State} {left ram : List ℕ} {state : State} {used cycles : ℕ}
    (g : Going roms samples ram₀ state₀ left ram state used cycles) where
  -- So far.
  abbrev here : Progress
  here = record { ram = ram; state = state; used = used; cycles = cycles; events = g.events }

  -- The samples run out.
  pub runs-out : length left < 2 → ended (record { ram = ram; state = state; used = used; cycles = cycles; events = g.events }) 0 ≡ run_over roms samples (begun ram₀ state₀)
  runs-out l = sym (run-short roms left 0 _ (omega arith)) ∙ g.same

  -- What a call of the step answered, and the RAM that it left.
  module _ (two : 2 ≤ length left) {r : Moved} {after : List ℕ}
      (er : r ≡ moved_of (step_of roms ram state (get_or left 0 0) (get_or left 1 0))) (el : after ≡ ram_after roms ram state (get_or left 0 0) (get_or left 1 0)) where
    -- It used one sample or two, which are there, and no more cycles.
    pub taken : r.number ≡ 0 → (1 ≤ r.used) × (r.used ≤ length left) × (r.cycles ≤ r.used)
    taken n = let s = spent roms left 0 here r after er el n in (s.0, omega (arith, s.1, two), s.2)

    pub goes-on : r.number ≡ 0 → length after ≡ length ram → Going roms samples ram₀ state₀ (drop r.used left) after r.state (used + r.used) (cycles + r.cycles)
    goes-on n l =
        let t = taken n in
        let z : drop (0 + r.used) left ≡ drop r.used left = ap (λ (k : ℕ). drop k left) (omega arith) in
        let so_far : Progress = record { ram = after; state = r.state; used = used + r.used; cycles = cycles + r.cycles; events = g.events ++ ((next roms left 0 here).event ∷ []) } in
        record {
          same_length = l ∙ g.same_length;
          within = rw length-drop (omega (arith, t.1, g.within));
          fewer = omega (arith, t.2, g.fewer);
          lent = still-stands roms ram state _ _ r after er el n g.lent;
          events = g.events ++ ((next roms left 0 here).event ∷ []);
          same = ap (λ (xs : List ℕ). run_over roms xs so_far) (sym z) ∙ went roms left 0 here r after er el (omega (arith, two)) n ∙ g.same;
        }

    pub stops :
        (r.number ≡ 0 → ⊥)
        → ended (record { ram = after; state = r.state; used = used; cycles = cycles; events = g.events }) r.number ≡ run_over roms samples (begun ram₀ state₀)
    stops n = sym (halted roms left 0 here r after er el (omega (arith, two)) n) ∙ g.same

-- What an accepted step takes, as the loop's own goals ask for it.
pub spends :
    (roms : Roms) (ram : List ℕ) (s : State) (x y : ℕ) → (plan_of roms ram s x y).number ≡ 0
    → (1 ≤ (plan_of roms ram s x y).used) × ((plan_of roms ram s x y).used ≤ 2) × ((plan_of roms ram s x y).cycles ≤ (plan_of roms ram s x y).used)
spends roms ram s x y n =
    let o = one-or-two roms (begun ram s) x y n in
    (o.0, o.1, cycles-used roms (begun ram s) x y n)

pub ruleset turn = (spends, length-drop, take_rest)
