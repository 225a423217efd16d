-- What a step shows outside is told from the state before it (`showing`): the event by the instruction's code, the bytes by their addresses.
-- Assumes nothing.
use Prim.Native.Nat.{ℕ, ◌/◌, ◌%◌, ◌<◌}
use mathlib.Core.Bool.{Bool, true, false, ◌||◌, false≢true}
use mathlib.Core.List.{List, [], ◌∷◌}
use mathlib.Core.Path.{◌≡◌, refl, sym, ap, ◌∙◌}
use lib.Dec.{eqb}
use borrow.Author.Tests.{eqb-true, eqb-false, eq-eqb}
use Rattle.isa.specs.Choice.{pick, listed}
use Rattle.isa.specs.Numbers.{Answer, given, refused}
use Rattle.isa.specs.Reading.{Sized, sized, next_pc, byte_at, instruction_at}
use Rattle.isa.specs.Sheet.{kind_of, entry_of, instruction_of}
use Rattle.isa.specs.declared.DigitMove.TheVariants.{MovdRead, MovdWrite, Orld, Anld}
use Rattle.isa.specs.declared.Instruction.{Instruction}
use Rattle.isa.specs.declared.Instruction.TheVariants.{Jmpp, Movp, Movp3}
use Rattle.isa.specs.declared.Set.{Set}
use Rattle.isa.specs.declared.Set.TheVariants.{Intel, Nec}
use Rattle.isa.proofs.Everywhere.{everywhere}
use Rattle.isa.proofs.Finding.{Found, alone, paired, found, refused-some}
use Rattle.machine.specs.Pins.{ea_pin, is_high}
use Rattle.machine.specs.Rom.{Roms, seen_by}
use Rattle.machine.specs.State.{running_at}
use Rattle.machine.specs.declared.State.{State}
use Rattle.effects.specs.Effect.{Effect}
use Rattle.effects.specs.Memory.{register_at}
use Rattle.effects.specs.Moves.{quiet, lacking}
use Rattle.effects.specs.declared.Event.{Event}
use Rattle.effects.specs.declared.Event.TheVariants.{Quiet, ExternalRead, ExternalWrite, ExpanderMove}
use Rattle.flow.specs.Stack.{pushed}
use Rattle.execute.specs.Execute.{executed}
use Rattle.chip.specs.Outside.{table_bytes, outside_among, from_outside}
use Rattle.chip.specs.Refusals.{TableByte, of_movp, of_movp3, of_jmpp}
use Rattle.chip.specs.Run.{unshown}
use Rattle.chip.specs.Step.{Course, declined, accepted, waits, called, pc_after, done, carried_by, carried, course_by, course, plan_by, outcome_of, report_of, step_of, Shows}
use Rattle.chip.specs.declared.Report.{Report}
use Rattle.chip.specs.declared.Turn.{Turn}
use Rattle.chip.specs.declared.Turn.TheVariants.{Refuse, Reset, Wait, ExternalCall, TimerCall, CarryOut}
use Rattle.chip.proofs.Cycles.{course-number}
use Rattle.chip.proofs.Exactly.{small_ram}
use Rattle.chip.proofs.Runs.{same-or-none, first-unshown, first-taken, lent-unshown}
use Rattle.chip.proofs.Telling.{some-number}

-- ---- the event
-- As the code tells it.
abbrev pub shown_by : ℕ → List ℕ → State → Event
shown_by b ram s =
    pick (eqb (b / 2) 0x40) (ExternalRead (byte_at ram (register_at s.psw b)))
    (pick (eqb (b / 2) 0x48) (ExternalWrite (byte_at ram (register_at s.psw b)) s.a)
    (pick (eqb (b / 4) 0x03) (ExpanderMove MovdRead (b % 8) (s.a % 16))
    (pick (eqb (b / 4) 0x0F) (ExpanderMove MovdWrite (b % 8) (s.a % 16))
    (pick (eqb (b / 4) 0x23) (ExpanderMove Orld (b % 8) (s.a % 16))
    (pick (eqb (b / 4) 0x27) (ExpanderMove Anld (b % 8) (s.a % 16))
    Quiet)))))

module _ (ram : List ℕ) (s : State) (d next base first second : ℕ) (bytes : List ℕ) where
  abbrev event_in : Set → ℕ → Event
  event_in set b = (executed (instruction_of set b d) bytes ram (running_at s next) base first second).event

  -- MOVP, JMPP and MOVP3, whose effect is not computed where the bytes are open, show nothing either way.
  table-quiet : (b : Bool) (x y : State) → (pick b (lacking x) (quiet y)).event ≡ Quiet
  unfolding pick
  table-quiet true x y = refl
  table-quiet false x y = refl

  table-event : (i : Instruction) (at : ℕ) → TableByte base s.a i at → (executed i bytes ram (running_at s next) base first second).event ≡ Quiet
  unfolding executed
  table-event i at of_movp = table-quiet _ _ _
  table-event i at of_jmpp = table-quiet _ _ _
  table-event i at of_movp3 = table-quiet _ _ _

  abbrev is_table : ℕ → Bool
  is_table b = eqb b 0xA3 || eqb b 0xB3 || eqb b 0xE3

  at-table : (set : Set) (b : ℕ) → is_table b ≡ true → event_in set b ≡ Quiet
  at-table set b h = go (eqb b 0xA3) (eqb b 0xB3) (eqb b 0xE3) refl refl refl h
    where
      shown : Instruction → Event
      shown i = (executed i bytes ram (running_at s next) base first second).event

      movp : (set : Set) → instruction_of set 0xA3 d ≡ Movp
      movp Intel = unfold entry_of kind_of pick in refl
      movp Nec = unfold entry_of kind_of pick in refl

      jmpp : (set : Set) → instruction_of set 0xB3 d ≡ Jmpp
      jmpp Intel = unfold entry_of kind_of pick in refl
      jmpp Nec = unfold entry_of kind_of pick in refl

      movp3 : (set : Set) → instruction_of set 0xE3 d ≡ Movp3
      movp3 Intel = unfold entry_of kind_of pick in refl
      movp3 Nec = unfold entry_of kind_of pick in refl

      go : (x y z : Bool) → eqb b 0xA3 ≡ x → eqb b 0xB3 ≡ y → eqb b 0xE3 ≡ z → (x || y || z) ≡ true → event_in set b ≡ Quiet
      go true y z p q r h = ap (λ (k : ℕ). event_in set k) (eqb-true b 0xA3 p) ∙ ap shown (movp set) ∙ table-event Movp _ of_movp
      go false true z p q r h = ap (λ (k : ℕ). event_in set k) (eqb-true b 0xB3 q) ∙ ap shown (jmpp set) ∙ table-event Jmpp _ of_jmpp
      go false false true p q r h = ap (λ (k : ℕ). event_in set k) (eqb-true b 0xE3 r) ∙ ap shown (movp3 set) ∙ table-event Movp3 _ of_movp3
      go false false false p q r h = absurd (false≢true h)

  by-code : (set : Set) → listed (λ b. shown_by b ram s) 256 0 ≡ listed (λ b. pick (is_table b) Quiet (event_in set b)) 256 0
  unfolding executed pushed entry_of kind_of pick
  by-code Intel = refl
  by-code Nec = refl

  pub event-shown : (set : Set) (b : ℕ) → b < 256 → event_in set b ≡ shown_by b ram s
  event-shown set b l = sym (everywhere (λ b. shown_by b ram s) (λ b. pick (is_table b) Quiet (event_in set b)) 256 (by-code set) b l ∙ go (is_table b) refl)
    where
      go : (x : Bool) → is_table b ≡ x → pick x Quiet (event_in set b) ≡ event_in set b
      go true h = unfold pick in sym (at-table set b h)
      go false h = unfold pick in refl

-- For the code's attributes, which name no dash.
pub ruleset events = (event-shown)

-- ---- the instruction at PC
module _ (roms : Roms) (ram : List ℕ) (s : State) (first : ℕ) (b bytes : ℕ) (event : Event) (n : ℕ)
    (value : b ≡ byte_at (seen_by roms first).bytes s.pc) (entry : bytes ≡ (entry_of roms.set b).bytes) where
  abbrev taken : List ℕ
  taken = s.pc ∷ pick (eqb bytes 2) (next_pc s.pc ∷ []) (table_bytes b s.pc s.a)

  -- (ea is what the code's own test of EA answers.)
  pub shows :
      {ea : Bool} → ea ≡ is_high ea_pin first
      → ((set : Set) (d next base first second : ℕ) (bytes : List ℕ) → event ≡ (executed (instruction_of set b d) bytes ram (running_at s next) base first second).event)
      → n ≡ outside_among roms.inside ea taken
      → (second : ℕ) → Shows roms ram s first second (record { event = event; outside = n })
  shows is f g second =
      record {
        event = λ i k there. told i k (found (seen_by roms first) s.pc i k there);
        outside = unfold from_outside in g ∙ ap (λ (e : Bool). outside_among roms.inside e taken) is ∙ rw (entry, value);
      }
    where
      told :
          (i : Instruction) (k : ℕ) → Found (seen_by roms first) s.pc i k
          → event ≡ (executed i (seen_by roms first).bytes ram (running_at s (pc_after k s.pc)) s.pc first second).event
      told i k (alone h p q j) = f roms.set 0 (pc_after 1 s.pc) s.pc first second (seen_by roms first).bytes ∙ rw (value, j)
      told i k (paired h p q l j) =
          f roms.set (byte_at (seen_by roms first).bytes (next_pc s.pc)) (pc_after 2 s.pc) s.pc first second (seen_by roms first).bytes ∙ rw (value, j)

-- ---- a step
abbrev shown_of : Course → Report
shown_of c = record { event = c.event; outside = c.outside }

plan-report : (c : Course) (s : State) (first second : ℕ) → c.number ≡ 0 → report_of (outcome_of (plan_by c s first second)) ≡ shown_of c
unfolding plan_by pick
plan-report c s first second h = rw (eq-eqb _ _ h)

module _ (roms : Roms) (ram : List ℕ) (s : State) (first second : ℕ) where
  abbrev Turns : Turn → Type 0
  Turns t = course roms ram s first second ≡ course_by t roms ram s first second

  by-turn : (t : Turn) → Turns t → (step_of roms ram s first second).number ≡ 0 → report_of (step_of roms ram s first second) ≡ shown_of (course_by t roms ram s first second)
  by-turn t e a =
      plan-report (course roms ram s first second) s first second (course-number (course roms ram s first second) s first second a) ∙ ap shown_of e

  -- No other turn shows anything.
  idle-turn : (t : Turn) → (t ≡ CarryOut → ⊥) → unshown ≡ shown_of (course_by t roms ram s first second)
  unfolding declined accepted waits called pushed
  idle-turn Refuse n = refl
  idle-turn Reset n = refl
  idle-turn Wait n = refl
  idle-turn ExternalCall n = refl
  idle-turn TimerCall n = refl
  idle-turn CarryOut n = absurd (n refl)

  pub shows-nothing :
      {r : Report} (t : Turn) → (t ≡ CarryOut → ⊥) → Turns t → r ≡ unshown → (step_of roms ram s first second).number ≡ 0 → r ≡ report_of (step_of roms ram s first second)
  shows-nothing t n e p a = p ∙ idle-turn t n ∙ sym (by-turn t e a)

  of-done : (x : Effect) (cycles : ℕ) → (done x cycles s).number ≡ 0 → x.event ≡ (done x cycles s).event
  unfolding done accepted declined pick
  of-done x cycles z = go (eqb x.number 0) refl z
    where
      go : (q : Bool) → eqb x.number 0 ≡ q → (pick q (accepted x cycles) (declined x.number s)).number ≡ 0 → x.event ≡ (pick q (accepted x cycles) (declined x.number s)).event
      go true h z = refl
      go false h z = absurd (eqb-false _ _ h z)

  carried-event : {r : Report} → Shows roms ram s first second r → (carried (seen_by roms first) ram s first second).number ≡ 0 → r.event ≡ (carried (seen_by roms first) ram s first second).event
  unfolding carried declined
  carried-event {r} w a = go (instruction_at (seen_by roms first) s.pc) refl a
    where
      effect : Instruction → ℕ → Effect
      effect i k = executed i (seen_by roms first).bytes ram (running_at s (pc_after k s.pc)) s.pc first second

      go :
          (q : Answer Sized) → instruction_at (seen_by roms first) s.pc ≡ q → (carried_by q (seen_by roms first) ram s first second).number ≡ 0
          → r.event ≡ (carried_by q (seen_by roms first) ram s first second).event
      go (refused m) h z = absurd (refused-some (seen_by roms first) s.pc m h z)
      go (given (sized i k)) h z = w.event i k h ∙ of-done (effect i k) _ z

  pub shows-instruction :
      {r : Report} → Turns CarryOut → Shows roms ram s first second r → (step_of roms ram s first second).number ≡ 0 → r ≡ report_of (step_of roms ram s first second)
  shows-instruction {r} e w a =
      let n : (carried (seen_by roms first) ram s first second).number ≡ 0 =
      sym (ap (λ (c : Course). c.number) e) ∙ course-number (course roms ram s first second) s first second a
      in
      rw (by-turn CarryOut e a, ← (carried-event w n), ← w.outside)

-- For `report_of`, and for `play`.
pub ruleset reports = (small_ram, shows-nothing)

pub ruleset plays = (some-number, same-or-none, first-unshown, first-taken, lent-unshown)
