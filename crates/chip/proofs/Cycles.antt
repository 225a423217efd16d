-- The count in every cycle of a history.
-- Assumes nothing.
use Prim.Native.Nat.{ℕ, pred, ◌+◌, ◌%◌, ◌≤◌, ◌<◌}
use mathlib.Core.Bool.{Bool, true, false, false≢true}
use mathlib.Core.List.{List}
use mathlib.Core.Path.{◌≡◌, refl, sym, ap, ◌∙◌, subst}
use native.Mathlib.Omega.{arith}
use lib.Dec.{eqb, leb}
use borrow.Author.Tests.{eqb-true, eqb-false, eq-eqb, ne_eqb, not-true, leb-true, leb-false, le-leb, lt-leb}
use Rattle.isa.specs.Choice.{pick, one_if}
use Rattle.isa.specs.Numbers.{Answer, given, refused}
use Rattle.isa.specs.Reading.{Program, Sized, sized, instruction_at}
use Rattle.isa.specs.declared.Instruction.{Instruction}
use Rattle.isa.proofs.Finding.{refused-some}
use Rattle.machine.specs.Counting.{counted}
use Rattle.machine.specs.Rom.{Roms, seen_by}
use Rattle.machine.specs.State.{count_of, running_at}
use Rattle.machine.specs.declared.Count.{Count}
use Rattle.machine.specs.declared.Counting.{Counting}
use Rattle.machine.specs.declared.Counting.TheVariants.{Timer}
use Rattle.machine.specs.declared.State.{State}
use Rattle.machine.proofs.Timing.{At, one-more}
use Rattle.effects.specs.Effect.{Effect}
use Rattle.flow.specs.Stack.{pushed}
use Rattle.execute.specs.Setting.{LeavesCounter, Setting, setting_of}
use Rattle.execute.proofs.Keeping.{keeps}
use Rattle.chip.specs.History.{Cycle, afterwards, first_cycle, second_cycle, course_at, plan_at, after, Steps, none, more, cycle, Undisturbed, AllUndisturbed, JustStarted}
use Rattle.chip.specs.Run.{Progress}
use Rattle.chip.specs.Step.{Course, Plan, declined, accepted, waits, called, without_request, pc_after, released, done, carried_by, carried, course, ticked, settled, plan_by}
use Rattle.chip.proofs.Choices.{either}
use Rattle.chip.proofs.Fresh.{course-once}
use Rattle.chip.proofs.Lasting.{Spends, in_cycles, in_waiting, plan-busy, waits-only, idle-waits}

-- ---- what an undisturbed step does before its cycles are counted leaves the counter alone
record Still (s : State) (c : Course) : Type 0 where
  setting : c.number ≡ 0 → setting_of c.state ≡ setting_of s
  counts : c.number ≡ 0 → c.fresh ≡ false

declined-still : (s : State) (n : ℕ) (t : State) → (n ≡ 0 → ⊥) → Still s (declined n t)
unfolding declined
declined-still s n t h = record { setting = λ z. absurd (h z); counts = λ z. absurd (h z) }

-- An effect leaves the counter alone, and its cycle is to be counted.
abbrev Leaves : State → Effect → Type 0
Leaves s e = (setting_of e.state ≡ setting_of s) × (e.fresh ≡ false)

accepted-still : (s : State) (e : Effect) (cycles : ℕ) → Leaves s e → Still s (accepted e cycles)
unfolding accepted
accepted-still s e cycles k = record { setting = λ z. k.0; counts = λ z. k.1 }

-- A release changes the mode alone.
released-setting : (s : State) (first : ℕ) → setting_of (released s first) ≡ setting_of s
released-setting s first = either (λ (x : State). setting_of x ≡ setting_of s) _ _ _ (λ l. refl) (λ l. refl)

waits-state : (s : State) (first : ℕ) → (waits s first).state ≡ released s first
unfolding waits
waits-state s first = refl

released-count : (s : State) (first : ℕ) → count_of (released s first) ≡ count_of s
released-count s first = either (λ (x : State). count_of x ≡ count_of s) _ _ _ (λ l. refl) (λ l. refl)

waits-still : (s : State) (first : ℕ) → Still s (waits s first)
unfolding waits
waits-still s first = record { setting = λ z. released-setting s first; counts = λ z. refl }

called-keeps : (s : State) (vector : ℕ) → Leaves s (called s vector)
unfolding called pushed
called-keeps s vector = (refl, refl)

request-keeps : (s : State) → setting_of (without_request s) ≡ setting_of s
unfolding without_request
request-keeps s = refl

done-still : (s : State) (e : Effect) (cycles : ℕ) → Leaves s e → Still s (done e cycles s)
unfolding done
done-still s e cycles k =
    either (Still s) _ _ _ (λ t. accepted-still s e cycles k) (λ t. declined-still s _ s (eqb-false _ _ t))

carried-still :
    (program : Program) (ram : List ℕ) (s : State) (first second : ℕ)
    → ((i : Instruction) (n : ℕ) → instruction_at program s.pc ≡ given (sized i n) → LeavesCounter i)
    → Still s (carried program ram s first second)
unfolding carried
carried-still program ram s first second f = go (instruction_at program s.pc) refl
  where
    go : (a : Answer Sized) → instruction_at program s.pc ≡ a → Still s (carried_by a program ram s first second)
    go (refused n) e = declined-still s n s (refused-some program s.pc n e)
    go (given (sized i n)) e =
        let k = keeps i program.bytes ram (running_at s (pc_after n s.pc)) s.pc first second in
        done-still s _ _ (k.setting (f i n e), k.counted (f i n e))

course-still :
    (roms : Roms) (ram : List ℕ) (s : State) (first second : ℕ) → Undisturbed roms s first → Still s (course roms ram s first second)
unfolding course
course-still roms ram s first second u =
    either (Still s) _ _ _ (λ t. declined-still s _ s (eqb-false _ _ (not-true _ t)))
    (λ t. either (Still s) _ _ _ (λ v. absurd (false≢true (sym u.no_reset ∙ v)))
    (λ v. either (Still s) _ _ _ (λ h. waits-still s first)
    (λ h. either (Still s) _ _ _ (λ w. accepted-still s _ 2 (called-keeps s _))
    (λ w. either (Still s) _ _ _
    (λ x. accepted-still s _ 2 ((called-keeps (without_request s) _).0 ∙ request-keeps s, (called-keeps (without_request s) _).1))
    (λ x.
    let c = carried-still (seen_by roms first) ram s first second
    (λ i n e. u.none_of_four i (record { no_reset = v; no_wait = h; no_external = w; no_timer = x; bytes = n; stands = e })) in
    record { setting = c.setting; counts = c.counts })))))

-- ---- an accepted step is its course, and then its cycles counted
record Takes (c : Course) (p : Plan) : Type 0 where
  takes : p.number ≡ 0 → c.number ≡ 0

module _ (c : Course) (s : State) (first second : ℕ) where
  pub course-number : (plan_by c s first second).number ≡ 0 → c.number ≡ 0
  course-number = walk.takes
    where
      walk : Takes c (plan_by c s first second)
      walk = unfold plan_by in either (Takes c) _ _ _ (λ t. record { takes = λ z. eqb-true _ _ t }) (λ t. record { takes = λ z. z })

  pub plan-state : c.number ≡ 0 → (plan_by c s first second).state ≡ settled c.state c.cycles c.fresh first second
  unfolding plan_by pick
  plan-state h = rw (eq-eqb _ _ h)

  pub plan-cycles : c.number ≡ 0 → (plan_by c s first second).cycles ≡ c.cycles
  unfolding plan_by pick
  plan-cycles h = rw (eq-eqb _ _ h)

  pub plan-write : c.number ≡ 0 → (plan_by c s first second).write ≡ c.write
  unfolding plan_by pick
  plan-write h = rw (eq-eqb _ _ h)

-- The counter after no cycle, after one and after two, and what counting leaves.
settled-none : (c : Course) (first second : ℕ) → c.cycles ≡ 0 → settled c.state c.cycles c.fresh first second ≡ c.state
unfolding settled ticked pick
settled-none c first second e = rw e

settled-one :
    (c : Course) (first second : ℕ) → c.cycles ≡ 1
    → count_of (settled c.state c.cycles c.fresh first second) ≡ afterwards (first_cycle c first)
unfolding settled ticked first_cycle pick
settled-one c first second e = rw e

settled-two :
    (c : Course) (first second : ℕ) → c.fresh ≡ false → c.cycles ≡ 2
    → count_of (settled c.state c.cycles c.fresh first second) ≡ afterwards (second_cycle c first second)
unfolding settled ticked first_cycle second_cycle pick
settled-two c first second f e = rw (f, e)

settled-counting : (s : State) (cycles : ℕ) (fresh : Bool) (first second : ℕ) → (settled s cycles fresh first second).counting ≡ s.counting
unfolding settled
settled-counting s cycles fresh first second = refl

settled-timer : (s : State) (cycles : ℕ) (fresh : Bool) (first second : ℕ) → (settled s cycles fresh first second).interrupts.tcnti ≡ s.interrupts.tcnti
unfolding settled
settled-timer s cycles fresh first second = refl

-- The counter runs as timer, n cycles after the count c.
pub record Running (c n : ℕ) (s : State) : Type 0 where
  pub counting : s.counting ≡ Timer
  pub at : At c n (count_of s)

-- A cycle in which it does: cycle i takes it from i - 1 cycles to i.
pub record Counts (c i : ℕ) (x : Cycle) : Type 0 where
  pub counting : x.counting ≡ Timer
  pub counted_in : x.fresh ≡ false
  pub from : At c (pred i) x.before
  pub to : At c i (afterwards x)

-- A cycle that the counter enters as timer.
counts-one : (c n : ℕ) (x : Cycle) → x.counting ≡ Timer → x.fresh ≡ false → At c n x.before → Counts c (n + 1) x
unfolding pick
counts-one c n x e f h =
    let p : pred (n + 1) ≡ n = omega arith in
    record {
      counting = e;
      counted_in = f;
      from = subst (λ (j : ℕ). At c j x.before) (sym p) h;
      to =
          rw f
          (subst (λ (m : Counting). At c (n + 1) (counted m x.before x.t1 x.enabled)) (sym e)
          (one-more c n x.before x.t1 x.enabled h));
    }

module _ (roms : Roms) (k : Progress) (first second : ℕ) (a : (plan_at roms k first second).number ≡ 0) where
  spent : Spends (plan_at roms k first second).cycles (plan_at roms k first second).used
  spent = (plan-busy roms k.ram k.state first second).spends a

  -- An accepted step takes two cycles at most, and uses one sample or two.
  pub two-at-most : (plan_at roms k first second).cycles ≤ 2
  two-at-most = go spent
    where
      go : Spends (plan_at roms k first second).cycles (plan_at roms k first second).used → (plan_at roms k first second).cycles ≤ 2
      go (in_cycles l g e) = g
      go (in_waiting e f) = omega arith

  pub one-or-two : (1 ≤ (plan_at roms k first second).used) × ((plan_at roms k first second).used ≤ 2)
  one-or-two = go spent
    where
      go :
          Spends (plan_at roms k first second).cycles (plan_at roms k first second).used
          → (1 ≤ (plan_at roms k first second).used) × ((plan_at roms k first second).used ≤ 2)
      go (in_cycles l g e) = (omega arith, omega arith)
      go (in_waiting e f) = (omega arith, omega arith)

  pub cycles-used : (plan_at roms k first second).cycles ≤ (plan_at roms k first second).used
  cycles-used = go spent
    where
      go : Spends (plan_at roms k first second).cycles (plan_at roms k first second).used → (plan_at roms k first second).cycles ≤ (plan_at roms k first second).used
      go (in_cycles l g e) = omega arith
      go (in_waiting e f) = omega arith

  pub same-used : 1 ≤ (plan_at roms k first second).cycles → (plan_at roms k first second).used ≡ (plan_at roms k first second).cycles
  same-used some = go spent
    where
      go : Spends (plan_at roms k first second).cycles (plan_at roms k first second).used → (plan_at roms k first second).used ≡ (plan_at roms k first second).cycles
      go (in_cycles l g e) = e
      go (in_waiting e f) = absurd (omega arith)

  -- One sample a cycle, and one for a step without any.
  pub samples-used : (plan_at roms k first second).used ≡ (plan_at roms k first second).cycles + one_if (eqb (plan_at roms k first second).cycles 0)
  samples-used = go spent
    where
      go :
          Spends (plan_at roms k first second).cycles (plan_at roms k first second).used
          → (plan_at roms k first second).used ≡ (plan_at roms k first second).cycles + one_if (eqb (plan_at roms k first second).cycles 0)
      go (in_cycles l g e) = rw (e, ne_eqb (plan_at roms k first second).cycles 0 (λ z. omega arith)) (omega arith)
      go (in_waiting e f) = rw (e, f)

  pub accepted-course : (course_at roms k first second).number ≡ 0
  accepted-course = course-number (course_at roms k first second) k.state first second a

  pub is-settled :
      (after roms k first second).state
      ≡ settled (course_at roms k first second).state (course_at roms k first second).cycles (course_at roms k first second).fresh first second
  is-settled = plan-state (course_at roms k first second) k.state first second accepted-course

  pub same-cycles : (course_at roms k first second).cycles ≡ (plan_at roms k first second).cycles
  same-cycles = sym (plan-cycles (course_at roms k first second) k.state first second accepted-course)

  pub ends-enabled : (after roms k first second).state.interrupts.tcnti ≡ (course_at roms k first second).state.interrupts.tcnti
  ends-enabled = ap (λ (s : State). s.interrupts.tcnti) is-settled ∙ settled-timer (course_at roms k first second).state _ _ first second

  -- A step without a cycle is a wait, and leaves the counter.
  pub waits-then : (plan_at roms k first second).cycles ≡ 0 → course_at roms k first second ≡ waits k.state first
  waits-then e =
      waits-only roms k.ram k.state first second
      (idle-waits roms k.ram k.state first second accepted-course (same-cycles ∙ e))

  pub ends-waiting : (plan_at roms k first second).cycles ≡ 0 → (after roms k first second).state ≡ released k.state first
  ends-waiting e =
      is-settled ∙ settled-none (course_at roms k first second) first second (same-cycles ∙ e)
      ∙ ap (λ (c : Course). c.state) (waits-then e) ∙ waits-state k.state first

  pub ends-none : (plan_at roms k first second).cycles ≡ 0 → count_of (after roms k first second).state ≡ count_of k.state
  ends-none e = ap count_of (ends-waiting e) ∙ released-count k.state first

  -- The state after it has the counter of its last cycle.
  pub ends-first :
      (plan_at roms k first second).cycles ≡ 1
      → count_of (after roms k first second).state ≡ afterwards (first_cycle (course_at roms k first second) first)
  ends-first e = ap count_of is-settled ∙ settled-one (course_at roms k first second) first second (same-cycles ∙ e)

  pub ends-second :
      (plan_at roms k first second).cycles ≡ 2
      → count_of (after roms k first second).state ≡ afterwards (second_cycle (course_at roms k first second) first second)
  ends-second e =
      ap count_of is-settled
      ∙ settled-two (course_at roms k first second) first second
      ((course-once roms k.ram k.state first second).once accepted-course (same-cycles ∙ e)) (same-cycles ∙ e)

  module _ (u : Undisturbed roms k.state first) where
    still : Still k.state (course_at roms k first second)
    still = course-still roms k.ram k.state first second u

    -- ---- the count in the cycles of one step
    module _ (c n : ℕ) (h : Running c n k.state) where
      course-counting : (course_at roms k first second).state.counting ≡ Timer
      course-counting = ap (λ (x : Setting). x.counting) (still.setting accepted-course) ∙ h.counting

      first-before : At c n (first_cycle (course_at roms k first second) first).before
      unfolding first_cycle
      first-before =
          record {
            t = ap (λ (x : Setting). x.t) (still.setting accepted-course) ∙ h.at.t;
            divider = ap (λ (x : Setting). x.divider) (still.setting accepted-course) ∙ h.at.divider;
          }

      pub first-counts : Counts c (n + 1) (first_cycle (course_at roms k first second) first)
      unfolding first_cycle
      first-counts = counts-one c n (first_cycle (course_at roms k first second) first) course-counting (still.counts accepted-course) first-before

      pub second-counts : Counts c (n + 1 + 1) (second_cycle (course_at roms k first second) first second)
      unfolding second_cycle
      second-counts = counts-one c (n + 1) (second_cycle (course_at roms k first second) first second) course-counting refl first-counts.to

      step-at : At c (n + (plan_at roms k first second).cycles) (count_of (after roms k first second).state)
      step-at = go (eqb (plan_at roms k first second).cycles 2) (eqb (plan_at roms k first second).cycles 0) refl refl
        where
          go :
              (b d : Bool) → eqb (plan_at roms k first second).cycles 2 ≡ b → eqb (plan_at roms k first second).cycles 0 ≡ d
              → At c (n + (plan_at roms k first second).cycles) (count_of (after roms k first second).state)
          go true d e f =
              let w : (plan_at roms k first second).cycles ≡ 2 = eqb-true _ _ e in
              let l : n + 1 + 1 ≡ n + (plan_at roms k first second).cycles = omega arith in
              subst (λ (x : Count). At c (n + (plan_at roms k first second).cycles) x) (sym (ends-second w))
              (subst (λ (i : ℕ). At c i (afterwards (second_cycle (course_at roms k first second) first second))) l second-counts.to)
          go false true e f =
              let w : (plan_at roms k first second).cycles ≡ 0 = eqb-true _ _ f in
              let l : n ≡ n + (plan_at roms k first second).cycles = omega arith in
              subst (λ (x : Count). At c (n + (plan_at roms k first second).cycles) x) (sym (ends-none w))
              (subst (λ (i : ℕ). At c i (count_of k.state)) l h.at)
          go false false e f =
              let d : (plan_at roms k first second).cycles ≡ 2 → ⊥ = eqb-false _ _ e in
              let d' : (plan_at roms k first second).cycles ≡ 0 → ⊥ = eqb-false _ _ f in
              let w : (plan_at roms k first second).cycles ≡ 1 = omega (arith, two-at-most, d, d') in
              let l : n + 1 ≡ n + (plan_at roms k first second).cycles = omega arith in
              subst (λ (x : Count). At c (n + (plan_at roms k first second).cycles) x) (sym (ends-first w))
              (subst (λ (i : ℕ). At c i (afterwards (first_cycle (course_at roms k first second) first))) l first-counts.to)

      pub step-running : Running c (n + (plan_at roms k first second).cycles) (after roms k first second).state
      step-running =
          record {
            counting = ap (λ (s : State). s.counting) is-settled ∙ settled-counting (course_at roms k first second).state _ _ first second ∙ course-counting;
            at = step-at;
          }

-- ---- the cycles of the last step of a history, and those before it
pub cycle-before :
    {roms : Roms} {ram : List ℕ} {s : State} {k : Progress} (first second : ℕ) (h : Steps roms ram s k)
    (a : (plan_at roms k first second).number ≡ 0) (i : ℕ) → i ≤ k.cycles → cycle (more first second h a) i ≡ cycle h i
unfolding cycle pick
cycle-before {k = k} first second h a i l = rw (le-leb i k.cycles l)

module _ {roms : Roms} {ram : List ℕ} {s : State} {k : Progress} (first second : ℕ) (h : Steps roms ram s k)
    (a : (plan_at roms k first second).number ≡ 0) (i : ℕ) (b : k.cycles < i) where
  pub cycle-first : i ≡ k.cycles + 1 → cycle (more first second h a) i ≡ first_cycle (course_at roms k first second) first
  unfolding cycle pick
  cycle-first e = rw (lt-leb i k.cycles b, eq-eqb i (k.cycles + 1) e)

  pub cycle-second : (i ≡ k.cycles + 1 → ⊥) → cycle (more first second h a) i ≡ second_cycle (course_at roms k first second) first second
  unfolding cycle pick
  cycle-second e = rw (lt-leb i k.cycles b, ne_eqb i (k.cycles + 1) e)

-- After any history that has a cycle the counter is that of its last cycle, counted or not.
pub ends-last :
    {roms : Roms} {ram : List ℕ} {s : State} {k : Progress} (h : Steps roms ram s k) → 1 ≤ k.cycles
    → count_of k.state ≡ afterwards (cycle h k.cycles)
ends-last none l = absurd (omega arith)
ends-last {roms} (more {k = k} first second h a) l =
    go (λ g. ends-last h g) (eqb (plan_at roms k first second).cycles 2) (eqb (plan_at roms k first second).cycles 0) refl refl
  where
    go :
        (1 ≤ k.cycles → count_of k.state ≡ afterwards (cycle h k.cycles))
        → (b d : Bool) → eqb (plan_at roms k first second).cycles 2 ≡ b → eqb (plan_at roms k first second).cycles 0 ≡ d
        → count_of (after roms k first second).state ≡ afterwards (cycle (more first second h a) (k.cycles + (plan_at roms k first second).cycles))
    go earlier true d e f =
        let w : (plan_at roms k first second).cycles ≡ 2 = eqb-true _ _ e in
        ends-second roms k first second a w ∙ ap afterwards (sym (cycle-second first second h a _ (omega arith) (λ z. omega arith)))
    go earlier false true e f =
        let w : (plan_at roms k first second).cycles ≡ 0 = eqb-true _ _ f in
        let n : k.cycles ≡ k.cycles + (plan_at roms k first second).cycles = omega arith in
        let g : 1 ≤ k.cycles = omega (arith, l) in
        ends-none roms k first second a w ∙ earlier g
        ∙ ap afterwards (sym (cycle-before first second h a k.cycles (omega arith)) ∙ ap (cycle (more first second h a)) n)
    go earlier false false e f =
        let d : (plan_at roms k first second).cycles ≡ 2 → ⊥ = eqb-false _ _ e in
        let d' : (plan_at roms k first second).cycles ≡ 0 → ⊥ = eqb-false _ _ f in
        let o = two-at-most roms k first second a in
        let w : (plan_at roms k first second).cycles ≡ 1 = omega (arith, o, d, d') in
        ends-first roms k first second a w ∙ ap afterwards (sym (cycle-first first second h a _ (omega arith) (omega arith)))

-- The counter just started, no cycle counted yet.
pub at-start : (c : ℕ) (s : State) → c < 256 → JustStarted c s → Running c 0 s
at-start c s l h = record { counting = h.counting; at = record { t = h.t ∙ small c l; divider = h.divider } }
  where
    small : (c : ℕ) → c < 256 → c ≡ (c + 0) % 256
    small c l = omega arith

-- After a history of n cycles the counter holds c + n / 32 modulo 256.
pub count-law :
    {roms : Roms} {ram : List ℕ} {s : State} {k : Progress} (c : ℕ) (h : Steps roms ram s k) → AllUndisturbed h → Running c 0 s
    → Running c k.cycles k.state
count-law c none u r = r
count-law {roms} c (more {k = k} first second h a) u r =
    step-running roms k first second a u.1 c k.cycles (count-law c h u.0 r)

-- And in each cycle of it, inside a step too.
choose : (c i : ℕ) (b : Bool) (x y : Cycle) → (b ≡ true → Counts c i x) → (b ≡ false → Counts c i y) → Counts c i (pick b x y)
choose c i b x y f g = either (Counts c i) b x y f g

pub cycle-law :
    {roms : Roms} {ram : List ℕ} {s : State} {k : Progress} (c : ℕ) (h : Steps roms ram s k) → AllUndisturbed h → Running c 0 s
    → (i : ℕ) → 1 ≤ i → i ≤ k.cycles → Counts c i (cycle h i)
unfolding cycle
cycle-law c none u r i l g = absurd (omega arith)
cycle-law {roms} c (more {k = k} first second h a) u r i l g =
    let o = two-at-most roms k first second a in
    let t = count-law c h u.0 r in
    choose c i (leb i k.cycles) _ _ (λ e. cycle-law c h u.0 r i l (leb-true i k.cycles e))
    (λ e. choose c i (eqb i (k.cycles + 1)) _ _
    (λ f. subst (λ (j : ℕ). Counts c j (first_cycle (course_at roms k first second) first)) (sym (eqb-true i (k.cycles + 1) f)) (first-counts roms k first second a u.1 c k.cycles t))
    (λ f.
    let d : i ≡ k.cycles + 1 → ⊥ = eqb-false i (k.cycles + 1) f in
    let b : k.cycles < i = leb-false i k.cycles e in
    let w : k.cycles + 1 + 1 ≡ i = omega (arith, o) in
    subst (λ (j : ℕ). Counts c j (second_cycle (course_at roms k first second) first second)) w (second-counts roms k first second a u.1 c k.cycles t)))
