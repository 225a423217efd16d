-- A step gives a number exactly when document 01's table says so; and a refused step changes nothing (demand 1).
-- Assumes nothing.
use Prim.Native.Nat.{ℕ, ◌≤◌, ◌<◌}
use mathlib.Core.Bool.{Bool, true, false, not, ◌&&◌}
use mathlib.Core.List.{List}
use mathlib.Core.Path.{◌≡◌, refl, sym, ◌∙◌, ap, subst}
use native.Mathlib.Omega.{arith}
use lib.Dec.{eqb}
use lib.ListN.{length}
use borrow.Author.Tests.{eqb-true, eqb-false, ne_eqb}
use Rattle.isa.specs.Choice.{pick}
use Rattle.isa.specs.Numbers.{Answer, given, refused}
use Rattle.isa.specs.Reading.{entry_at, Sized, sized, lacks, next_pc, instruction_at, decoded_at}
use Rattle.isa.specs.declared.Switch.TheVariants.{EnI, DisI, Ent0Clk, SelMb0, SelMb1, SelRb0, SelRb1, EnTcnti, DisTcnti, StopTcnt, StrtCnt, StrtT}
use Rattle.isa.specs.declared.Set.{Set}
use Rattle.isa.specs.declared.Instruction.{Instruction}
use Rattle.isa.specs.declared.Instruction.TheVariants.{Alu, Accumulator, Djnz, Branch, Jmp, Jmpp, Control, MovA, Mov, MovData, MovAPsw, MovPswA, Movp, Movp3, MovxRead, MovxWrite, Xch, Xchd, Cpl, Clr, Logic, In, Outl, Expander, Dec, Inc, Call, Ret, Retr, MovAT, MovTA, Nop, Halt, Stop}
use Rattle.machine.specs.Mode.{is_waiting}
use Rattle.machine.specs.Pins.{reset_pin, ea_pin, is_high, is_low}
use Rattle.machine.specs.Rom.{Roms, seen_by}
use Rattle.machine.proofs.Seeing.{visible-lacks}
use Rattle.machine.specs.State.{permitted, running_at}
use Rattle.machine.specs.declared.State.{State}
use Rattle.effects.specs.Effect.{Nothing, Effect, written}
use Rattle.effects.specs.declared.Event.TheVariants.{Quiet}
use Rattle.flow.specs.Stack.{pushed}
use Rattle.execute.specs.Execute.{executed}
use Rattle.chip.specs.Admission.{program_allowed, outside_allowed, ram_allowed, sample_allowed, sample_number, lent_number, lent_of, admission}
use Rattle.chip.specs.Refusals.{Fetches, lacking, Gives, program_length, outside_length, ram-length, state_outside, sample_bits, no_first_byte, undefined_code, no_second_byte, no_table_byte, TableByte, of_movp, of_movp3, of_jmpp}
use Rattle.chip.specs.Step.{Course, Plan, external_calls, timer_calls, pc_after, waits, declined, accepted, done, carried_by, carried, course_by, course, refused_by, plan_by, plan_of, step_of, ram_after}
use Rattle.chip.specs.declared.Turn.TheVariants.{Reset, Wait, ExternalCall, TimerCall, CarryOut}
use Rattle.chip.proofs.Choices.{either}

-- A refused step returns its number, the state it got, no event, 0 cycles and 0 samples, and leaves RAM as it was.
pub record Unchanged (ram : List ℕ) (s : State) (p : Plan) : Type 0 where
  pub state : p.state ≡ s
  pub event : p.event ≡ Quiet
  pub cycles : p.cycles ≡ 0
  pub used : p.used ≡ 0
  pub outside : p.outside ≡ 0
  pub memory : written ram p.write ≡ ram

pub refused-unchanged :
    (roms : Roms) (ram : List ℕ) (s : State) (first second : ℕ) → ((plan_of roms ram s first second).number ≡ 0 → ⊥)
    → Unchanged ram s (plan_of roms ram s first second)
unfolding plan_by written
refused-unchanged roms ram s first second n =
    either (λ p. (p.number ≡ 0 → ⊥) → Unchanged ram s p) _ _ _ (λ t h. absurd (h refl))
    (λ t h. record { state = refl; event = refl; cycles = refl; used = refl; outside = refl; memory = refl }) n

-- All of it at once.
pub refused-step :
    (roms : Roms) (ram : List ℕ) (s : State) (first second : ℕ) → ((step_of roms ram s first second).number ≡ 0 → ⊥)
    → step_of roms ram s first second ≡ refused_by (step_of roms ram s first second).number s
refused-step roms ram s first second n =
    let u = refused-unchanged roms ram s first second n in
    rw (u.state, u.event, u.cycles, u.used, u.outside)

-- The number of a step is its course's.
number_of : (c : Course) (s : State) (first second : ℕ) → (plan_by c s first second).number ≡ c.number
unfolding plan_by pick
number_of c s first second = go (eqb c.number 0) refl
  where
    go : (b : Bool) → eqb c.number 0 ≡ b → (plan_by c s first second).number ≡ c.number
    go true h = rw h (sym (eqb-true _ _ h))
    go false h = rw h

-- An instruction gives 5, and only where the program lacks its table byte; and then it writes nothing.
record Lacking (program : List ℕ) (base a : ℕ) (i : Instruction) (e : Effect) : Type 0 where
  at : ℕ
  table_byte : TableByte base a i at
  none_there : lacks program at ≡ true
  five : e.number ≡ 5
  silent : e.write ≡ Nothing

table-lacks :
    (program : List ℕ) (base a : ℕ) (i : Instruction) (at : ℕ) → TableByte base a i at → (b : Bool) → lacks program at ≡ b → (x y : Effect)
    → x.number ≡ 5 → x.write ≡ Nothing → y.number ≡ 0 → ((pick b x y).number ≡ 0 → ⊥) → Lacking program base a i (pick b x y)
unfolding pick
table-lacks program base a i at w true e x y p n q h = record { at = at; table_byte = w; none_there = e; five = p; silent = n }
table-lacks program base a i at w false e x y p n q h = absurd (h q)

module _ (program ram : List ℕ) (s : State) (base first second : ℕ) where
  numbered :
      (i : Instruction) → ((executed i program ram s base first second).number ≡ 0 → ⊥)
      → Lacking program base s.a i (executed i program ram s base first second)
  unfolding executed pushed
  numbered (Alu op from) h = absurd (h refl)
  numbered (Accumulator op) h = absurd (h refl)
  numbered (Djnz r d) h = absurd (h refl)
  numbered (Branch c d) h = absurd (h refl)
  numbered (Jmp a) h = absurd (h refl)
  numbered Jmpp h = table-lacks program base s.a Jmpp _ of_jmpp _ refl _ _ refl refl refl h
  numbered (Control EnI) h = absurd (h refl)
  numbered (Control DisI) h = absurd (h refl)
  numbered (Control Ent0Clk) h = absurd (h refl)
  numbered (Control SelMb0) h = absurd (h refl)
  numbered (Control SelMb1) h = absurd (h refl)
  numbered (Control SelRb0) h = absurd (h refl)
  numbered (Control SelRb1) h = absurd (h refl)
  numbered (Control EnTcnti) h = absurd (h refl)
  numbered (Control DisTcnti) h = absurd (h refl)
  numbered (Control StopTcnt) h = absurd (h refl)
  numbered (Control StrtCnt) h = absurd (h refl)
  numbered (Control StrtT) h = absurd (h refl)
  numbered (MovA from) h = absurd (h refl)
  numbered (Mov to) h = absurd (h refl)
  numbered (MovData to d) h = absurd (h refl)
  numbered MovAPsw h = absurd (h refl)
  numbered MovPswA h = absurd (h refl)
  numbered Movp h = table-lacks program base s.a Movp _ of_movp _ refl _ _ refl refl refl h
  numbered Movp3 h = table-lacks program base s.a Movp3 _ of_movp3 _ refl _ _ refl refl refl h
  numbered (MovxRead r) h = absurd (h refl)
  numbered (MovxWrite r) h = absurd (h refl)
  numbered (Xch c) h = absurd (h refl)
  numbered (Xchd r) h = absurd (h refl)
  numbered (Cpl f) h = absurd (h refl)
  numbered (Clr f) h = absurd (h refl)
  numbered (Logic op l d) h = absurd (h refl)
  numbered (In l) h = absurd (h refl)
  numbered (Outl l) h = absurd (h refl)
  numbered (Expander op p) h = absurd (h refl)
  numbered (Dec r) h = absurd (h refl)
  numbered (Inc c) h = absurd (h refl)
  numbered (Call a) h = absurd (h refl)
  numbered Ret h = absurd (h refl)
  numbered Retr h = absurd (h refl)
  numbered MovAT h = absurd (h refl)
  numbered MovTA h = absurd (h refl)
  numbered Nop h = absurd (h refl)
  numbered Halt h = absurd (h refl)
  numbered Stop h = absurd (h refl)

  -- What an instruction has done to RAM where it is refused: nothing. So a step may write in place and still give RAM back as it came.
  pub refused-writes :
      (i : Instruction) → ((executed i program ram s base first second).number ≡ 0 → ⊥) → (executed i program ram s base first second).write ≡ Nothing
  refused-writes i h = (numbered i h).silent

-- RAM of fewer than 64 bytes is refused.
pub small_ram : (set : Set) (inside outside ram : ℕ) (s : State) → ram < 64 → 1 ≤ lent_number set inside outside ram s
unfolding lent_number pick
small_ram set inside outside ram s h = grind arith

module _ (roms : Roms) (ram : List ℕ) (s : State) (first second : ℕ) where
  abbrev pub G : ℕ → Type 0
  G n = Gives roms ram s first second n

  given-by : {m n : ℕ} → m ≡ n → G m → G n
  given-by e g = subst (λ (k : ℕ). G k) e g

  -- 1, 2, 3.
  abbrev lengths : Bool → Bool → Bool → Bool → ℕ
  lengths p o r q = pick (not p) 1 (pick (not o) 1 (pick (not r) 2 (pick (not q) 3 0)))

  lent-gives : (n : ℕ) → lent_of roms ram s ≡ n → (n ≡ 0 → ⊥) → G n
  unfolding lent_number pick
  lent-gives n e z =
      go (program_allowed (length roms.inside)) (outside_allowed (length roms.outside)) (ram_allowed (length ram)) (permitted roms.set s) refl refl refl refl e
    where
      go :
          (p o r q : Bool) → program_allowed (length roms.inside) ≡ p → outside_allowed (length roms.outside) ≡ o → ram_allowed (length ram) ≡ r
          → permitted roms.set s ≡ q → lengths p o r q ≡ n → G n
      go false o r q hp ho hr hq e = given-by e (program_length hp)
      go true false r q hp ho hr hq e = given-by e (outside_length hp ho)
      go true true false q hp ho hr hq e = given-by e (ram-length hp ho hr)
      go true true true false hp ho hr hq e = given-by e (state_outside hp ho hr hq)
      go true true true true hp ho hr hq e = absurd (z (sym e))

  pub record Allowed : Type 0 where
    pub program_sized : program_allowed (length roms.inside) ≡ true
    pub outside_sized : outside_allowed (length roms.outside) ≡ true
    pub ram_sized : ram_allowed (length ram) ≡ true
    pub state_permitted : permitted roms.set s ≡ true

  pub allowed : lent_of roms ram s ≡ 0 → Allowed
  unfolding lent_number pick
  allowed e =
      go (program_allowed (length roms.inside)) (outside_allowed (length roms.outside)) (ram_allowed (length ram)) (permitted roms.set s) refl refl refl refl e
    where
      go :
          (p o r q : Bool) → program_allowed (length roms.inside) ≡ p → outside_allowed (length roms.outside) ≡ o → ram_allowed (length ram) ≡ r
          → permitted roms.set s ≡ q → ◌≡◌ {A = ℕ} (lengths p o r q) 0 → Allowed
      go false o r q hp ho hr hq e = absurd (omega arith)
      go true false r q hp ho hr hq e = absurd (omega arith)
      go true true false q hp ho hr hq e = absurd (omega arith)
      go true true true false hp ho hr hq e = absurd (omega arith)
      go true true true true hp ho hr hq e = record { program_sized = hp; outside_sized = ho; ram_sized = hr; state_permitted = hq }

  -- Every chip has 64 bytes of RAM at least.
  pub roomy : lent_of roms ram s ≡ 0 → 64 ≤ length ram
  roomy e = grind (arith, small_ram)

  -- Where 1, 2 and 3 are not given, the samples alone decide.
  pub samples-decide : lent_of roms ram s ≡ 0 → admission roms ram s first second ≡ sample_number first second
  unfolding admission pick
  samples-decide h = rw h

  -- Where one of them is given, it is the step's.
  pub lent-refuses :
      (lent_of roms ram s ≡ 0 → ⊥)
      → (step_of roms ram s first second ≡ refused_by (lent_of roms ram s) s)
      × (ram_after roms ram s first second ≡ ram)
  unfolding course admission declined plan_by written pick
  lent-refuses z = (simp (ne_eqb (lent_of roms ram s) 0 z), simp (ne_eqb (lent_of roms ram s) 0 z))

  pub lent-declines : (lent_of roms ram s ≡ 0 → ⊥) → course roms ram s first second ≡ declined (lent_of roms ram s) s
  unfolding course admission pick
  lent-declines z = simp (ne_eqb (lent_of roms ram s) 0 z)

  pub admitted-stands : admission roms ram s first second ≡ 0 → lent_of roms ram s ≡ 0
  unfolding admission pick
  admitted-stands e = go (eqb (lent_of roms ram s) 0) refl e
    where
      go :
          (p : Bool) → eqb (lent_of roms ram s) 0 ≡ p
          → pick (not p) (lent_of roms ram s) (pick (not (sample_allowed first && sample_allowed second)) 6 0) ≡ 0
          → lent_of roms ram s ≡ 0
      go true h e = eqb-true _ _ h
      go false h e = e

  -- And 6.
  admission-gives : (n : ℕ) → admission roms ram s first second ≡ n → (n ≡ 0 → ⊥) → G n
  unfolding admission pick
  admission-gives n e z = go (eqb (lent_of roms ram s) 0) (sample_allowed first && sample_allowed second) refl refl e
    where
      go :
          (p q : Bool) → eqb (lent_of roms ram s) 0 ≡ p → (sample_allowed first && sample_allowed second) ≡ q
          → pick (not p) (lent_of roms ram s) (pick (not q) 6 0) ≡ n → G n
      go false q hp hq e = lent-gives n e z
      go true false hp hq e =
          let h = allowed (eqb-true _ _ hp) in
          given-by e (sample_bits h.program_sized h.outside_sized h.ram_sized h.state_permitted hq)
      go true true hp hq e = absurd (z (sym e))

  -- What the step sees lacks a byte where the memory that must answer does.
  seen-lacking : (a : ℕ) {b : Bool} → lacks (seen_by roms first).bytes a ≡ b → lacking roms first a ≡ b
  seen-lacking a h = sym (visible-lacks roms.inside roms.outside (is_high ea_pin first) a) ∙ h

  lacking-seen : (a : ℕ) {b : Bool} → lacking roms first a ≡ b → lacks (seen_by roms first).bytes a ≡ b
  lacking-seen a h = visible-lacks roms.inside roms.outside (is_high ea_pin first) a ∙ h

  -- 5, 4, 5.
  answer-gives : Fetches roms ram s first second → (n : ℕ) → instruction_at (seen_by roms first) s.pc ≡ refused n → G n
  unfolding instruction_at decoded_at pick
  answer-gives f n e = go (lacks (seen_by roms first).bytes s.pc) (eqb size 0) (eqb size 1) (lacks (seen_by roms first).bytes (next_pc s.pc)) refl refl refl refl _ _ e
    where
      size : ℕ
      size = (entry_at (seen_by roms first) s.pc).bytes

      go :
          (q p t u : Bool) → lacks (seen_by roms first).bytes s.pc ≡ q → eqb size 0 ≡ p → eqb size 1 ≡ t → lacks (seen_by roms first).bytes (next_pc s.pc) ≡ u
          → (x y : Sized) → pick q (refused 5) (pick p (refused 4) (pick t (given x) (pick u (refused 5) (given y)))) ≡ refused n → G n
      go true p t u hq hp ht hu x y e = given-by (cc) (no_first_byte f (seen-lacking _ hq))
      go false true t u hq hp ht hu x y e = given-by (cc) (undefined_code f (seen-lacking _ hq) hp)
      go false false true u hq hp ht hu x y e = let z : ◌≡◌ {A = ℕ} 0 1 = cc in absurd (omega arith)
      go false false false true hq hp ht hu x y e = given-by (cc) (no_second_byte f (seen-lacking _ hq) hp ht (seen-lacking _ hu))
      go false false false false hq hp ht hu x y e = let z : ◌≡◌ {A = ℕ} 0 1 = cc in absurd (omega arith)

  carried-gives : Fetches roms ram s first second → (n : ℕ) → (carried (seen_by roms first) ram s first second).number ≡ n → (n ≡ 0 → ⊥) → G n
  unfolding carried done accepted declined pick
  carried-gives f n e z = go (instruction_at (seen_by roms first) s.pc) refl e
    where
      go : (a : Answer Sized) → instruction_at (seen_by roms first) s.pc ≡ a → (carried_by a (seen_by roms first) ram s first second).number ≡ n → G n
      go (refused m) h e = given-by e (answer-gives f m h)
      go (given (sized i k)) h e = table (eqb effect.number 0) refl e
        where
          effect : Effect
          effect = executed i (seen_by roms first).bytes ram (running_at s (pc_after k s.pc)) s.pc first second

          table : (b : Bool) → eqb effect.number 0 ≡ b → (pick b (accepted effect (entry_at (seen_by roms first) s.pc).cycles) (declined effect.number s)).number ≡ n → G n
          table true t e = absurd (z (sym e))
          table false t e =
              let l = numbered (seen_by roms first).bytes ram (running_at s (pc_after k s.pc)) s.pc first second i (eqb-false _ _ t) in
              given-by (sym l.five ∙ e) (no_table_byte i k l.at f h l.table_byte (seen-lacking _ l.none_there))

  -- A step that gives a number has the table's reason for it.
  pub exactly-from : (n : ℕ) → (step_of roms ram s first second).number ≡ n → (n ≡ 0 → ⊥) → G n
  unfolding course accepted declined waits pick
  exactly-from n e z =
      go (eqb number 0) (is_low reset_pin first) (is_waiting s.mode) (external_calls s first) (timer_calls s) refl refl refl refl refl
      (sym (number_of (course roms ram s first second) s first second) ∙ e)
    where
      number : ℕ
      number = admission roms ram s first second

      go :
          (p q w r t : Bool) → eqb number 0 ≡ p → is_low reset_pin first ≡ q → is_waiting s.mode ≡ w → external_calls s first ≡ r → timer_calls s ≡ t
          → (pick (not p) (declined number s)
          (pick q (course_by Reset roms ram s first second) (pick w (course_by Wait roms ram s first second)
          (pick r (course_by ExternalCall roms ram s first second)
          (pick t (course_by TimerCall roms ram s first second) (course_by CarryOut roms ram s first second)))))).number ≡ n → G n
      go false q w r t hp hq hw hr ht e = admission-gives n e z
      go true true w r t hp hq hw hr ht e = absurd (z (sym e))
      go true false true r t hp hq hw hr ht e = absurd (z (sym e))
      go true false false true t hp hq hw hr ht e = absurd (z (sym e))
      go true false false false true hp hq hw hr ht e = absurd (z (sym e))
      go true false false false false hp hq hw hr ht e =
          carried-gives (record { admitted = eqb-true _ _ hp; no_reset = hq; no_wait = hw; no_external = hr; no_timer = ht }) n e z

  -- And where the table has a reason, the step gives the number.
  not-admitted : (n : ℕ) → admission roms ram s first second ≡ n → (n ≡ 0 → ⊥) → (course roms ram s first second).number ≡ n
  unfolding course declined pick
  not-admitted n e z = rw (e, ne_eqb _ _ z)

  -- A step that is accepted was admitted.
  pub admitted : (course roms ram s first second).number ≡ 0 → admission roms ram s first second ≡ 0
  admitted a = go (eqb (admission roms ram s first second) 0) refl
    where
      go : (p : Bool) → eqb (admission roms ram s first second) 0 ≡ p → admission roms ram s first second ≡ 0
      go true h = eqb-true _ _ h
      go false h = sym (not-admitted _ refl (eqb-false _ _ h)) ∙ a

  pub comes-to : Fetches roms ram s first second → course roms ram s first second ≡ course_by CarryOut roms ram s first second
  unfolding course pick
  comes-to f = rw (f.admitted, f.no_reset, f.no_wait, f.no_external, f.no_timer)

  reads : Fetches roms ram s first second → (n : ℕ) → instruction_at (seen_by roms first) s.pc ≡ refused n → (course roms ram s first second).number ≡ n
  unfolding carried declined
  reads f n e = rw (comes-to f, e)

  five : (i : Instruction) (k at : ℕ) → TableByte s.pc s.a i at → lacks (seen_by roms first).bytes at ≡ true → (executed i (seen_by roms first).bytes ram (running_at s (pc_after k s.pc)) s.pc first second).number ≡ 5
  unfolding executed pick
  five i k at of_movp l = rw l
  five i k at of_movp3 l = rw l
  five i k at of_jmpp l = rw l

  table :
      (i : Instruction) (k : ℕ) → instruction_at (seen_by roms first) s.pc ≡ given (sized i k)
      → (executed i (seen_by roms first).bytes ram (running_at s (pc_after k s.pc)) s.pc first second).number ≡ 5 → (carried (seen_by roms first) ram s first second).number ≡ 5
  unfolding carried done declined pick
  table i k e t = rw (e, t)

  course-gives : (n : ℕ) → G n → (course roms ram s first second).number ≡ n
  unfolding admission lent_number instruction_at decoded_at pick
  course-gives n (program_length p) = not-admitted 1 (rw p) (λ z. omega arith)
  course-gives n (outside_length p o) = not-admitted 1 (rw (p, o)) (λ z. omega arith)
  course-gives n (ram-length p o r) = not-admitted 2 (rw (p, o, r)) (λ z. omega arith)
  course-gives n (state_outside p o r q) = not-admitted 3 (rw (p, o, r, q)) (λ z. omega arith)
  course-gives n (sample_bits p o r q b) = not-admitted 6 (rw (p, o, r, q, b)) (λ z. omega arith)
  course-gives n (no_first_byte f l) = reads f 5 (rw (lacking-seen _ l))
  course-gives n (undefined_code f l u) = reads f 4 (rw (lacking-seen _ l, u))
  course-gives n (no_second_byte f l u o m) = reads f 5 (rw (lacking-seen _ l, u, o, lacking-seen _ m))
  course-gives n (no_table_byte i k at f e w l) = ap (λ (c : Course). c.number) (comes-to f) ∙ table i k e (five i k at w (lacking-seen at l))

  pub exactly-to : (n : ℕ) → G n → (step_of roms ram s first second).number ≡ n
  exactly-to n g = number_of (course roms ram s first second) s first second ∙ course-gives n g
