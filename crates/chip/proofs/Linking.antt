-- A run over samples is a history of steps that read those samples.
-- Assumes nothing.
use Prim.Native.Nat.{ℕ, zero, suc, ◌+◌, ◌≤◌, ◌<◌}
use mathlib.Core.Bool.{Bool, true, false}
use mathlib.Core.List.{List}
use mathlib.Core.Path.{◌≡◌, refl, sym, ◌∙◌, subst}
use native.Mathlib.Omega.{arith}
use lib.Dec.{eqb, leb}
use lib.ListN.{length, drop}
use borrow.Author.Tests.{eq-eqb, ne_eqb, eqb-true, eqb-false, leb-true, leb-false}
use Rattle.isa.specs.Choice.{pick}
use Rattle.machine.specs.Rom.{Roms}
use Rattle.machine.specs.declared.State.{State}
use Rattle.chip.specs.Admission.{lent_of}
use Rattle.chip.specs.History.{plan_at, after, Steps, none, more, waits_in, first_of, second_of, Reads, HistoryOf}
use Rattle.chip.specs.Run.{Progress, Ended, begun, ended, run_over, run_of}
use Rattle.chip.proofs.Cycles.{one-or-two, samples-used}
use Rattle.chip.proofs.Runs.{run-short, run-refused, run-step}

step-through :
    (roms : Roms) (samples : List ℕ) (k : Progress) (first second : ℕ) → first ≡ first_of samples k → second ≡ second_of samples k
    → k.used + 2 ≤ length samples → (plan_at roms k first second).number ≡ 0
    → run_over roms (drop k.used samples) k
    ≡ run_over roms (drop (after roms k first second).used samples) (after roms k first second)
step-through roms samples k first second p q l a =
    rw (p, q) (run-step roms samples k.used k (omega arith) (rw (← p, ← q) a))

-- A run goes through the end of every history that reads its samples.
pub over-through :
    {roms : Roms} {ram : List ℕ} {s : State} {k : Progress} (samples : List ℕ) (h : Steps roms ram s k) → Reads samples h
    → run_over roms samples (begun ram s) ≡ run_over roms (drop k.used samples) k
over-through samples none d = refl
over-through {roms} samples (more {k = k} first second h a) d =
    over-through samples h d.0 ∙ step-through roms samples k first second d.1 d.2 d.3 a

-- Each cycle of a history uses one sample, and each wait.
pub sample-a-cycle : {roms : Roms} {ram : List ℕ} {s : State} {k : Progress} (h : Steps roms ram s k) → k.used ≡ k.cycles + waits_in h
sample-a-cycle none = refl
sample-a-cycle {roms} (more {k = k} first second h a) =
    let before = sample-a-cycle h in
    let this = samples-used roms k first second a in
    omega (arith, before, this)

module _ (roms : Roms) (ram : List ℕ) (s : State) (samples : List ℕ) where
  -- The rest of a run, the steps h being done.
  rest : Progress → Ended
  rest k = run_over roms (drop k.used samples) k

  -- A step of it with the samples that are next.
  abbrev step : Progress → ℕ
  step k = (plan_at roms k (first_of samples k) (second_of samples k)).number

  ends-short :
      (k : Progress) (h : Steps roms ram s k) → Reads samples h → length samples ≤ k.used + 1 → k.used ≤ length samples
      → HistoryOf roms ram s samples (rest k)
  unfolding rest
  ends-short k h d e l =
      subst (λ (r : Ended). HistoryOf roms ram s samples r) (sym (run-short roms samples k.used k e))
      (record {
        end = k;
        steps = h;
        reads = d;
        is = refl;
        used = sample-a-cycle h;
        enough = l;
        short = λ z. e;
        two = λ z. absurd (z refl);
        stopped = λ z. absurd (z refl);
      })

  ends-refused :
      (k : Progress) (h : Steps roms ram s k) → Reads samples h → k.used + 1 < length samples → (step k ≡ 0 → ⊥)
      → HistoryOf roms ram s samples (rest k)
  unfolding rest
  ends-refused k h d b n =
      subst (λ (r : Ended). HistoryOf roms ram s samples r) (sym (run-refused roms samples k.used k b n))
      (record {
        end = k;
        steps = h;
        reads = d;
        is = refl;
        used = sample-a-cycle h;
        enough = omega arith;
        short = λ z. absurd (n z);
        two = λ z. omega arith;
        stopped = λ z. refl;
      })

  -- One more step of it: the run ends, is refused, or goes on.
  turn :
      (k : Progress) (h : Steps roms ram s k) → Reads samples h → k.used ≤ length samples
      → ((j : Progress) (g : Steps roms ram s j) → Reads samples g → j.used ≤ length samples → k.used < j.used
      → HistoryOf roms ram s samples (rest j))
      → (x y : Bool) → leb (length samples) (k.used + 1) ≡ x → eqb (step k) 0 ≡ y → HistoryOf roms ram s samples (rest k)
  unfolding rest
  turn k h d l on true y p q = ends-short k h d (leb-true _ _ p) l
  turn k h d l on false true p q =
      let b : k.used + 1 < length samples = leb-false _ _ p in
      let a : step k ≡ 0 = eqb-true _ _ q in
      let o = one-or-two roms k (first_of samples k) (second_of samples k) a in
      subst (λ (r : Ended). HistoryOf roms ram s samples r) (sym (run-step roms samples k.used k b a))
      (on (after roms k (first_of samples k) (second_of samples k)) (more (first_of samples k) (second_of samples k) h a)
      (d, refl, refl, omega arith) (omega (arith, o.1)) (omega (arith, o.0)))
  turn k h d l on false false p q = ends-refused k h d (leb-false _ _ p) (eqb-false _ _ q)

  traced :
      (f : ℕ) (k : Progress) (h : Steps roms ram s k) → Reads samples h → k.used ≤ length samples
      → length samples ≤ k.used + f → HistoryOf roms ram s samples (rest k)
  traced zero k h d l e = ends-short k h d (omega arith) l
  traced (suc f) k h d l e = turn k h d l (λ j g d' l' b. traced f j g d' l' (omega arith)) _ _ refl refl

  -- A run over samples has a history, refused or not.
  pub over-history : HistoryOf roms ram s samples (run_over roms samples (begun ram s))
  unfolding rest
  over-history = traced (length samples) (begun ram s) none tt (omega arith) (omega arith)

  -- So has every run that 1, 2 and 3 do not refuse.
  module _ (admitted : lent_of roms ram s ≡ 0) where
    pub run-over : run_of roms ram s samples ≡ run_over roms samples (begun ram s)
    unfolding run_of pick
    run-over = rw (eq-eqb _ _ admitted)

    pub run-history : HistoryOf roms ram s samples (run_of roms ram s samples)
    run-history = subst (λ (r : Ended). HistoryOf roms ram s samples r) (sym run-over) over-history

  -- And a run that they refuse does nothing.
  pub not-begun : (lent_of roms ram s ≡ 0 → ⊥) → run_of roms ram s samples ≡ ended (begun ram s) (lent_of roms ram s)
  unfolding run_of pick
  not-begun n = rw (ne_eqb _ _ n)
