-- The third demand.
--
-- The counter is just started, holding c (`strt-t` shows it of a step that carries out STRT T). p is what is done up to the end of some step:
-- accepted steps, in which no reset is seen and none of STRT T, STRT CNT, STOP TCNT and MOV T,A is carried out. What a run does after p is
-- free: it may be refused there. A run goes through every p that reads its samples (`run-through`), and has one to its end (`run-history`).
-- Assumes nothing.
use Prim.Native.Nat.{ℕ, ◌+◌, ◌/◌, ◌%◌, ◌≤◌, ◌<◌}
use mathlib.Core.Bool.{true}
use mathlib.Core.List.{List}
use mathlib.Core.Path.{◌≡◌, refl, sym, ap, ◌∙◌}
use native.Mathlib.Omega.{arith}
use lib.ListN.{drop}
use Rattle.isa.specs.Numbers.{given}
use Rattle.isa.specs.Reading.{sized, instruction_at}
use Rattle.isa.specs.declared.Instruction.TheVariants.{Control}
use Rattle.isa.specs.declared.Switch.TheVariants.{StrtT}
use Rattle.machine.specs.Rom.{Roms, seen_by}
use Rattle.machine.specs.declared.State.{State}
use Rattle.chip.specs.Admission.{lent_of}
use Rattle.chip.specs.History.{Cycle, afterwards, Overflowing, Calm, cycle, AllUndisturbed, JustStarted, History, StepWith, up_to, Reads, HistoryOf, overflow_cycle, Asked, next, Called}
use Rattle.chip.specs.Refusals.{Fetches}
use Rattle.chip.specs.Run.{Ended, run_over, run_of}
use Rattle.chip.specs.Step.{moved_of, step_of, ram_after}
use Rattle.chip.proofs.Answering.{left-tf, left-request, call-law, within-3}
use Rattle.chip.proofs.Cycles.{at-start, count-law, cycle-law}
use Rattle.chip.proofs.Exactly.{admitted-stands}
use Rattle.chip.proofs.Linking.{over-through, run-over}
use Rattle.chip.proofs.Overflows.{overflow-law, calm-law}
use Rattle.chip.proofs.Permitted.{still-stands}
use Rattle.demands.proofs.Parts.{begins-undisturbed, begins-reads, begins-cycle, step-with}
use Rattle.demands.proofs.Starting.{strt-t}

-- A run goes through every history that reads its samples: what it returns and leaves is what it makes of the rest.
pub run-through :
    (roms : Roms) (ram : List ℕ) (s : State) (samples : List ℕ) → lent_of roms ram s ≡ 0 → (p : History roms ram s)
    → Reads samples p.steps → run_of roms ram s samples ≡ run_over roms (drop p.end.used samples) p.end
run-through roms ram s samples admitted p reads = run-over roms ram s samples admitted ∙ over-through samples p.steps reads

module _ {roms : Roms} {ram : List ℕ} {s : State} (c : ℕ) (small : c < 256) (started : JustStarted c s) where
  module _ (p : History roms ram s) (undisturbed : AllUndisturbed p.steps) where
    -- "After n more cycles the counter holds c plus the whole part of n/32, modulo 256."
    pub count-after : p.end.state.t ≡ (c + p.end.cycles / 32) % 256
    count-after = (count-law c p.steps undisturbed (at-start c s small started)).at.t

    -- And so after each cycle, also after the first of a step's two.
    pub count-in : (i : ℕ) → 1 ≤ i → i ≤ p.end.cycles → (afterwards (cycle p.steps i)).t ≡ (c + i / 32) % 256
    count-in i l g = (cycle-law c p.steps undisturbed (at-start c s small started) i l g).to.t

    -- "Its first overflow is in cycle 32 x (256 - c)": no cycle before that is one, or sets TF, or stores a request;
    pub none-before : (i : ℕ) → 1 ≤ i → i ≤ p.end.cycles → i < overflow_cycle c → Calm (cycle p.steps i)
    none-before = calm-law c small p.steps undisturbed (at-start c s small started)

    -- and that cycle is one, sets TF, and stores a request exactly if the timer interrupt is enabled in it.
    pub overflow-then : overflow_cycle c ≤ p.end.cycles → Overflowing (cycle p.steps (overflow_cycle c))
    overflow-then = overflow-law c small p.steps undisturbed (at-start c s small started)

    -- The step with that cycle.
    pub overflow-step : overflow_cycle c ≤ p.end.cycles → StepWith (overflow_cycle c) p
    overflow-step reached = step-with (overflow_cycle c) p.steps (omega arith) reached

    -- When that step is over TF is set and, if the timer interrupt was enabled in the cycle, a request is stored.
    module _ (o : StepWith (overflow_cycle c) p) where
      pub tf-left : (up_to o).end.state.tf ≡ true
      tf-left =
          left-tf c small o.first o.second o.before.steps o.fine (begins-undisturbed o.begins undisturbed)
          (at-start c s small started) o.starts o.ends

      pub request-left : (cycle p.steps (overflow_cycle c)).enabled ≡ true → (up_to o).end.state.request ≡ true
      request-left on =
          left-request c small o.first o.second o.before.steps o.fine (begins-undisturbed o.begins undisturbed)
          (at-start c s small started) o.starts o.ends
          (ap (λ (x : Cycle). x.enabled) (begins-cycle o.begins (overflow_cycle c) o.ends) ∙ on)

  -- Of a whole run that nothing disturbs to its end: T and the cycles that it returns.
  pub run-count :
      (samples : List ℕ) (h : HistoryOf roms ram s samples (run_of roms ram s samples)) → AllUndisturbed h.steps
      → (run_of roms ram s samples).ran.state.t ≡ (c + (run_of roms ram s samples).ran.cycles / 32) % 256
  run-count samples h u =
      ap (λ (e : Ended). e.ran.state.t) h.is ∙ (count-law c h.steps u (at-start c s small started)).at.t
      ∙ ap (λ (e : Ended). (c + e.ran.cycles / 32) % 256) (sym h.is)

  -- "If the timer interrupt is enabled then, .. the call to location 7 is complete at most 3 cycles after the overflow: from c = 0, within
  -- 8,195."
  pub called-in-time : {samples : List ℕ} → lent_of roms ram s ≡ 0 → (q : Asked roms ram s samples c) → Called q
  called-in-time {samples} admitted q =
      let o = q.overflow in
      let on = ap (λ (x : Cycle). x.enabled) (begins-cycle o.begins (overflow_cycle c) o.ends) ∙ q.on in
      let u : AllUndisturbed (next q).steps = (begins-undisturbed o.begins q.undisturbed, q.calm) in
      let w =
      within-3 c small (at-start c s small started) o.before.steps o.first o.second o.fine o.starts o.ends on _ _ q.fine u
      q.idle q.off q.awake
      in
      record {
        through =
            run-through roms ram s samples admitted (next q)
            (begins-reads samples o.begins q.reads, refl, refl, q.two);
        calls =
            call-law c small (at-start c s small started) o.before.steps o.first o.second o.fine o.starts o.ends on _ _
            q.fine u q.idle q.off q.awake;
        soon = w;
        within_8195 = λ z. omega (arith, w);
      }

-- The whole of it, from a step that carries out STRT T: what it asks is asked of the state and the RAM that this step leaves.
pub from-strt-t :
    (roms : Roms) (ram : List ℕ) (s : State) (first second : ℕ) → Fetches roms ram s first second → (n : ℕ)
    → instruction_at (seen_by roms first) s.pc ≡ given (sized (Control StrtT) n) → s.t < 256 → (samples : List ℕ)
    → (q : Asked roms (ram_after roms ram s first second) (step_of roms ram s first second).state samples s.t) → Called q
from-strt-t roms ram s first second f n i small samples q =
    let started = strt-t roms ram s first second f n i in
    called-in-time s.t small started.1
    (still-stands roms ram s first second (moved_of (step_of roms ram s first second)) (ram_after roms ram s first second) refl refl started.0
    (admitted-stands roms ram s first second f.admitted))
    q
