-- Which turn a step takes where 1, 2 and 3 are not given, by document 01's order of precedence; and what excludes all turns but an
-- instruction's.
-- Assumes nothing.
use Prim.Native.Nat.{ℕ, ◌/◌, ◌%◌, ◌^◌}
use mathlib.Core.Bool.{Bool, true, false, not, ◌&&◌, false≢true}
use mathlib.Core.List.{List}
use mathlib.Core.Path.{◌≡◌, refl}
use native.Mathlib.Omega.{arith}
use borrow.Author.Tests.{eqb-true, ne_eqb}
use Rattle.isa.specs.Choice.{pick}
use Rattle.machine.specs.Mode.{is_running, is_waiting}
use Rattle.machine.specs.Pins.{int_pin, reset_pin, is_high, is_low}
use Rattle.machine.specs.Rom.{Roms}
use Rattle.machine.specs.declared.Mode.{Mode}
use Rattle.machine.specs.declared.Mode.TheVariants.{Running, HaltMode, StopMode, Released}
use Rattle.machine.specs.declared.State.{State}
use Rattle.chip.specs.Admission.{sample_allowed, lent_of}
use Rattle.chip.specs.Step.{external_calls, timer_calls, course_by, course}
use Rattle.chip.specs.declared.Turn.{Turn}
use Rattle.chip.specs.declared.Turn.TheVariants.{Refuse, Reset, Wait, ExternalCall, TimerCall, CarryOut}
use Rattle.chip.proofs.Exactly.{samples-decide}

not-low : (pin sample : ℕ) → is_high pin sample ≡ true → is_low pin sample ≡ false
not-low pin sample h = ne_eqb (sample / 2 ^ pin % 2) 0 (λ z. let one = eqb-true (sample / 2 ^ pin % 2) 1 h in omega arith)

-- What `usual` says: all five hold.
all-five :
    (w x y z r : Bool) → (w && x && y && not z && r) ≡ true → (w ≡ true) × (x ≡ true) × (y ≡ true) × (z ≡ false) × (r ≡ true)
all-five true true true false true h = (refl, refl, refl, refl, refl)
all-five true true true false false h = absurd (false≢true h)
all-five true true true true r h = absurd (false≢true h)
all-five true true false z r h = absurd (false≢true h)
all-five true false y z r h = absurd (false≢true h)
all-five false x y z r h = absurd (false≢true h)

and-false : (r x y : Bool) → (r && x && y && false) ≡ false
and-false true true true = refl
and-false true true false = refl
and-false true false y = refl
and-false false x y = refl

-- A machine that simply runs is not halted.
pub awake : (m : Mode) → is_running m ≡ true → is_waiting m ≡ false
awake Running h = refl
awake HaltMode h = absurd (false≢true h)
awake StopMode h = absurd (false≢true h)
awake Released h = refl

-- Where it runs, what is left of a call's condition decides; just released, none is called.
module _ (s : State) where
  pub running-external :
      (first : ℕ) {b : Bool} → s.mode ≡ Running → (not s.interrupts.service && s.interrupts.external && is_low int_pin first) ≡ b
      → external_calls s first ≡ b
  running-external first e h = rw e h

  pub running-timer :
      {b : Bool} → s.mode ≡ Running → (not s.interrupts.service && s.interrupts.tcnti && s.request) ≡ b → timer_calls s ≡ b
  running-timer e h = rw e h

  pub released-external : (first : ℕ) → s.mode ≡ Released → external_calls s first ≡ false
  released-external first e = rw e

  pub released-timer : s.mode ≡ Released → timer_calls s ≡ false
  released-timer e = rw e

module _ (roms : Roms) (ram : List ℕ) (s : State) (first second : ℕ) (lent : lent_of roms ram s ≡ 0) where
  abbrev pub allowed : Bool
  allowed = sample_allowed first && sample_allowed second

  abbrev pub Takes : Turn → Type 0
  Takes t = course roms ram s first second ≡ course_by t roms ram s first second

  pub refuses : allowed ≡ false → Takes Refuse
  unfolding course pick
  refuses a = rw (samples-decide roms ram s first second lent, a)

  pub resets : allowed ≡ true → is_low reset_pin first ≡ true → Takes Reset
  unfolding course pick
  resets a r = rw (samples-decide roms ram s first second lent, a, r)

  pub waits-in : allowed ≡ true → is_low reset_pin first ≡ false → is_waiting s.mode ≡ true → Takes Wait
  unfolding course pick
  waits-in a r w = rw (samples-decide roms ram s first second lent, a, r, w)

  pub calls-external : allowed ≡ true → is_low reset_pin first ≡ false → is_waiting s.mode ≡ false → external_calls s first ≡ true → Takes ExternalCall
  unfolding course pick
  calls-external a r w e = rw (samples-decide roms ram s first second lent, a, r, w, e)

  pub calls-timer :
      allowed ≡ true → is_low reset_pin first ≡ false → is_waiting s.mode ≡ false → external_calls s first ≡ false → timer_calls s ≡ true
      → Takes TimerCall
  unfolding course pick
  calls-timer a r w e t = rw (samples-decide roms ram s first second lent, a, r, w, e, t)

  pub carries-out :
      allowed ≡ true → is_low reset_pin first ≡ false → is_waiting s.mode ≡ false → external_calls s first ≡ false → timer_calls s ≡ false
      → Takes CarryOut
  unfolding course pick
  carries-out a r w e t = rw (samples-decide roms ram s first second lent, a, r, w, e, t)

  -- Samples allowed, RESET and INT high, no request, and a machine that runs: then none of the others.
  pub usual : (allowed && is_high reset_pin first && is_high int_pin first && not s.request && is_running s.mode) ≡ true → Takes CarryOut
  usual h =
      let f = all-five allowed (is_high reset_pin first) (is_high int_pin first) s.request (is_running s.mode) h in
      carries-out f.0 (not-low reset_pin first f.1) (awake s.mode f.4)
      (rw (not-low int_pin first f.2) (and-false (is_running s.mode) (not s.interrupts.service) s.interrupts.external))
      (rw f.3 (and-false (is_running s.mode) (not s.interrupts.service) s.interrupts.tcnti))
