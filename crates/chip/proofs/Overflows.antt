-- The overflows of a history.
-- Assumes nothing.
use Prim.Native.Nat.{ℕ, ◌+◌, ◌-◌, ◌*◌, ◌%◌, ◌≤◌, ◌<◌}
use mathlib.Core.List.{List}
use mathlib.Core.Path.{◌≡◌, sym, ap, ◌∙◌, subst}
use native.Mathlib.Omega.{arith}
use Rattle.isa.specs.Choice.{pick}
use Rattle.machine.specs.Counting.{counted}
use Rattle.machine.specs.Rom.{Roms}
use Rattle.machine.specs.declared.Count.{Count}
use Rattle.machine.specs.declared.Counting.{Counting}
use Rattle.machine.specs.declared.Counting.TheVariants.{Timer}
use Rattle.machine.specs.declared.State.{State}
use Rattle.machine.proofs.Timing.{At, full, empty, sets-tf, stores, leaves-tf, leaves-request, overflow-only}
use Rattle.chip.specs.History.{Cycle, afterwards, Overflowing, Calm, Steps, cycle, AllUndisturbed, overflow_cycle}
use Rattle.chip.specs.Run.{Progress}
use Rattle.chip.proofs.Cycles.{Counts, Running, cycle-law}

module _ (c i : ℕ) (x : Cycle) (l : 1 ≤ i) (k : Counts c i x) where
  as-timer : afterwards x ≡ counted Timer x.before x.t1 x.enabled
  unfolding pick
  as-timer = rw k.counted_in (ap (λ (m : Counting). counted m x.before x.t1 x.enabled) k.counting)

  timer-to : At c i (counted Timer x.before x.t1 x.enabled)
  timer-to = subst (λ (y : Count). At c i y) as-timer k.to

  -- A cycle whose number with 32 c is a multiple of 8,192 is an overflow.
  pub overflowing : (32 * c + i) % 8192 ≡ 0 → Overflowing x
  overflowing h =
      record {
        is =
            record {
              from = full c i l x.before x.t1 x.enabled k.from h;
              to = ap (λ (y : Count). y.t) as-timer ∙ empty c i l x.before x.t1 x.enabled k.from timer-to h;
            };
        tf = ap (λ (y : Count). y.tf) as-timer ∙ sets-tf c i l x.before x.t1 x.enabled k.from h;
        request = ap (λ (y : Count). y.request) as-timer ∙ stores c i l x.before x.t1 x.enabled k.from h;
      }

  -- Every other is none.
  pub calm : ((32 * c + i) % 8192 ≡ 0 → ⊥) → Calm x
  calm h =
      record {
        not = λ o. h (overflow-only c i l x.before x.t1 x.enabled k.from timer-to o.from (ap (λ (y : Count). y.t) (sym as-timer) ∙ o.to));
        tf = ap (λ (y : Count). y.tf) as-timer ∙ leaves-tf c i l x.before x.t1 x.enabled k.from h;
        request = ap (λ (y : Count). y.request) as-timer ∙ leaves-request c i l x.before x.t1 x.enabled k.from h;
      }

pub first-hit : (c : ℕ) → c < 256 → (32 * c + 32 * (256 - c)) % 8192 ≡ 0
first-hit c h = omega arith

pub no-earlier : (c i : ℕ) → c < 256 → 1 ≤ i → i < 32 * (256 - c) → (32 * c + i) % 8192 ≡ 0 → ⊥
no-earlier c i h l b e = omega arith

-- The first overflow is in cycle 32 x (256 - c): that cycle is one, and no cycle before it.
module _ {roms : Roms} {ram : List ℕ} {s : State} {k : Progress} (c : ℕ) (small : c < 256) (h : Steps roms ram s k) (u : AllUndisturbed h)
    (r : Running c 0 s) where
  pub overflow-law : overflow_cycle c ≤ k.cycles → Overflowing (cycle h (overflow_cycle c))
  overflow-law g =
      let l : 1 ≤ overflow_cycle c = omega arith in
      overflowing c _ _ l (cycle-law c h u r (overflow_cycle c) l g) (first-hit c small)

  pub calm-law : (i : ℕ) → 1 ≤ i → i ≤ k.cycles → i < overflow_cycle c → Calm (cycle h i)
  calm-law i l g b = calm c i _ l (cycle-law c h u r i l g) (no-earlier c i small l b)
