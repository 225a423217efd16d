-- What a history begins with, and the step in which a cycle lies.
-- Assumes nothing.
use Prim.Native.Nat.{ℕ, ◌+◌, ◌≤◌}
use mathlib.Core.Bool.{Bool, true, false}
use mathlib.Core.List.{List}
use mathlib.Core.Path.{◌≡◌, refl, sym, ◌∙◌}
use native.Mathlib.Omega.{arith}
use lib.Dec.{leb}
use borrow.Author.Tests.{leb-true, leb-false, le-leb}
use Rattle.isa.specs.Choice.{pick}
use Rattle.machine.specs.Rom.{Roms}
use Rattle.machine.specs.declared.State.{State}
use Rattle.chip.specs.History.{plan_at, Steps, none, more, cycle, Reads, AllUndisturbed, History, longer, Begins, whole, then, StepWith}
use Rattle.chip.specs.Run.{Progress}

module _ {roms : Roms} {ram : List ℕ} {s : State} where
  pub begins-le : {p q : History roms ram s} → Begins p q → p.end.cycles ≤ q.end.cycles
  begins-le whole = omega arith
  begins-le (then {q = q} first second a b) =
      let w = begins-le b in
      omega (arith, w)

  pub begins-undisturbed : {p q : History roms ram s} → Begins p q → AllUndisturbed q.steps → AllUndisturbed p.steps
  begins-undisturbed whole u = u
  begins-undisturbed (then first second a b) u = begins-undisturbed b u.0

  pub begins-reads : {p q : History roms ram s} (samples : List ℕ) → Begins p q → Reads samples q.steps → Reads samples p.steps
  begins-reads samples whole r = r
  begins-reads samples (then first second a b) r = begins-reads samples b r.0

  earlier :
      (q : History roms ram s) (first second : ℕ) (a : (plan_at roms q.end first second).number ≡ 0) (i : ℕ) → i ≤ q.end.cycles
      → cycle (more first second q.steps a) i ≡ cycle q.steps i
  unfolding cycle pick
  earlier q first second a i l = rw (le-leb i q.end.cycles l)

  -- The cycles of a beginning are those of the whole.
  pub begins-cycle : {p q : History roms ram s} → Begins p q → (i : ℕ) → i ≤ p.end.cycles → cycle p.steps i ≡ cycle q.steps i
  begins-cycle whole i l = refl
  begins-cycle (then {q = q} first second a b) i l =
      let w = begins-le b in
      begins-cycle b i l ∙ sym (earlier q first second a i (omega (arith, w)))

  find-more :
      {k : Progress} (i first second : ℕ) (h : Steps roms ram s k) (a : (plan_at roms k first second).number ≡ 0)
      → i ≤ k.cycles + (plan_at roms k first second).cycles
      → (i ≤ k.cycles → StepWith i (record { end = k; steps = h }))
      → (b : Bool) → leb i k.cycles ≡ b
      → StepWith i (longer (record { end = k; steps = h }) first second a)
  find-more {k} i first second h a l f true e =
      let w = f (leb-true i k.cycles e) in
      record {
        before = w.before;
        first = w.first;
        second = w.second;
        fine = w.fine;
        starts = w.starts;
        ends = w.ends;
        begins = then first second a w.begins;
      }
  find-more {k} i first second h a l f false e =
      record {
        before = record { end = k; steps = h };
        first = first;
        second = second;
        fine = a;
        starts = leb-false i k.cycles e;
        ends = l;
        begins = whole;
      }

  pub step-with : {k : Progress} (i : ℕ) (h : Steps roms ram s k) → 1 ≤ i → i ≤ k.cycles → StepWith i (record { end = k; steps = h })
  step-with i none l g = absurd (omega arith)
  step-with i (more first second h a) l g = find-more i first second h a g (λ e. step-with i h l e) _ refl
