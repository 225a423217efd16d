-- STRT T and STRT CNT, whose own cycle isn't counted, take one cycle: so both cycles of a step of two are counted.
-- Assumes nothing.
use Prim.Native.Nat.{ℕ, ◌/◌, ◌%◌, ◌^◌}
use mathlib.Core.Bool.{Bool, true, false, false≢true}
use mathlib.Core.List.{List, [], ◌∷◌}
use mathlib.Core.Path.{◌≡◌, refl, sym, ap, ◌∙◌, subst}
use native.Mathlib.Omega.{arith}
use lib.Dec.{eqb, ltb}
use lib.ListN.{get_or-eq_default}
use borrow.Author.Tests.{eqb-false, eq-eqb, not-true, ltb-true, ltb-false}
use Rattle.isa.specs.Choice.{pick}
use Rattle.isa.specs.Numbers.{Answer, given, refused}
use Rattle.isa.specs.Reading.{Program, entry_at, Sized, sized, byte_at, instruction_at}
use Rattle.isa.specs.Sheet.{Row, rows, undefined_row, row_of, operand_in, kind_of, entry_of, instruction_of}
use Rattle.isa.specs.declared.Condition.TheVariants.{Jb}
use Rattle.isa.specs.declared.Instruction.{Instruction}
use Rattle.isa.specs.declared.Instruction.TheVariants.{Branch}
use Rattle.isa.specs.declared.Set.{Set}
use Rattle.isa.proofs.Everywhere.{everywhere}
use Rattle.isa.proofs.Finding.{Found, alone, paired, found, refused-some}
use Rattle.machine.specs.Rom.{Roms, seen_by}
use Rattle.machine.specs.State.{power_up, with_core, running_at, with_counting}
use Rattle.machine.specs.declared.Counting.{Counting}
use Rattle.machine.specs.declared.Counting.TheVariants.{Stopped, Timer}
use Rattle.machine.specs.declared.State.{State}
use Rattle.effects.specs.Effect.{Effect}
use Rattle.effects.specs.Moves.{quiet}
use Rattle.flow.specs.Jumps.{jump_if}
use Rattle.flow.specs.Stack.{pushed}
use Rattle.execute.specs.Execute.{executed}
use Rattle.execute.specs.Setting.{LeavesCounter}
use Rattle.execute.proofs.Keeping.{keeps}
use Rattle.chip.specs.Step.{Course, declined, accepted, waits, called, pc_after, done, carried_by, carried, course}
use Rattle.chip.proofs.Choices.{either}

-- What an instruction does to the counter of one state, which counts cycles, holds 0, and has A = 1: enough to tell those that set it.
record Told : Type 0 where
  fresh : Bool
  counting : Counting
  t : ℕ

abbrev probe : State
probe = with_counting (with_core power_up 1 0 0x08) Timer 0

abbrev told_of : Effect → Told
told_of e = record { fresh = e.fresh; counting = e.state.counting; t = e.state.t }

told : Instruction → Told
told i = told_of (executed i [] [] probe 0 0 0)

abbrev unset : Told
unset = record { fresh = false; counting = Timer; t = 0 }

leaves : (i : Instruction) → told i ≡ unset → LeavesCounter i
unfolding told executed
leaves i h =
    record {
      no_strt_t = λ e. false≢true (ap (λ (x : Told). x.fresh) (sym h ∙ ap told e));
      no_strt_cnt = λ e. false≢true (ap (λ (x : Told). x.fresh) (sym h ∙ ap told e));
      no_stop_tcnt = λ e.
          let z : Timer ≡ Stopped = ap (λ (x : Told). x.counting) (sym h ∙ ap told e) in
          let y : ◌≡◌ {A = ℕ} 0 1 = cc in
          omega arith;
      no_mov_t_a = λ e. let z : ◌≡◌ {A = ℕ} 0 1 = ap (λ (x : Told). x.t) (sym h ∙ ap told e) in omega arith;
    }

-- JBb, whose test is not computed where b is open, leaves it either way.
bit-unset : (b d : ℕ) → told (Branch (Jb b) d) ≡ unset
unfolding told executed pick
bit-unset b d = go (eqb (1 / 2 ^ (b % 8) % 2) 1)
  where
    go : (taken : Bool) → told_of (quiet (jump_if taken probe 0 d)) ≡ unset
    go true = refl
    go false = refl

-- None of the sheet's instructions of two cycles sets the counter. (Row 27 is JBb.)
row-leaves : (k n d : ℕ) → (row_of k).cycles ≡ 2 → LeavesCounter ((row_of k).make n d)
unfolding told executed pushed pick
row-leaves k n d two = go (ltb k 99) refl
  where
    go : (p : Bool) → ltb k 99 ≡ p → LeavesCounter ((row_of k).make n d)
    go true h =
        leaves ((row_of k).make n d)
        (rw (eq-eqb _ _ two) at
        (everywhere (λ k. pick (eqb (row_of k).cycles 2) (told ((row_of k).make n d)) unset) (λ k. pick (eqb k 27) (told (Branch (Jb n) d)) unset) 99 refl k (ltb-true k 99 h))
        ∙ either (λ (x : Told). x ≡ unset) (eqb k 27) _ _ (λ t. bit-unset n d) (λ t. refl))
    go false h =
        let past : row_of k ≡ undefined_row = get_or-eq_default (undefined_row ∷ rows) undefined_row (ltb-false k 99 h) in
        let never : ◌≡◌ {A = ℕ} 0 2 = ap (λ (r : Row). r.cycles) (sym past) ∙ two in
        absurd (omega arith)

code-leaves : (set : Set) (b d : ℕ) → (entry_of set b).cycles ≡ 2 → LeavesCounter (instruction_of set b d)
unfolding entry_of
code-leaves set b d two = row-leaves (kind_of set b) (operand_in (row_of (kind_of set b)).place b) d two

found-leaves : (program : Program) (a : ℕ) (i : Instruction) (n : ℕ) → Found program a i n → (entry_at program a).cycles ≡ 2 → LeavesCounter i
found-leaves program a i n (alone h p q j) two = subst LeavesCounter j (code-leaves program.set (byte_at program.bytes a) _ two)
found-leaves program a i n (paired h p q l j) two = subst LeavesCounter j (code-leaves program.set (byte_at program.bytes a) _ two)

pub record Once (c : Course) : Type 0 where
  pub once : c.number ≡ 0 → c.cycles ≡ 2 → c.fresh ≡ false

declined-once : (n : ℕ) (s : State) → (n ≡ 0 → ⊥) → Once (declined n s)
unfolding declined
declined-once n s h = record { once = λ z. absurd (h z) }

accepted-once : (e : Effect) (cycles : ℕ) → (cycles ≡ 2 → e.fresh ≡ false) → Once (accepted e cycles)
unfolding accepted
accepted-once e cycles f = record { once = λ z. f }

waits-once : (s : State) (first : ℕ) → Once (waits s first)
unfolding waits
waits-once s first = record { once = λ z two. refl }

called-once : (s : State) (vector : ℕ) → (called s vector).fresh ≡ false
unfolding called pushed
called-once s vector = refl

done-once : (e : Effect) (cycles : ℕ) (s : State) → (cycles ≡ 2 → e.fresh ≡ false) → Once (done e cycles s)
unfolding done
done-once e cycles s f = either Once _ _ _ (λ t. accepted-once e cycles f) (λ t. declined-once _ s (eqb-false _ _ t))

carried-once : (program : Program) (ram : List ℕ) (s : State) (first second : ℕ) → Once (carried program ram s first second)
unfolding carried
carried-once program ram s first second = go (instruction_at program s.pc) refl
  where
    go : (a : Answer Sized) → instruction_at program s.pc ≡ a → Once (carried_by a program ram s first second)
    go (refused n) e = declined-once n s (refused-some program s.pc n e)
    go (given (sized i n)) e =
        done-once _ _ s
        (λ two. (keeps i program.bytes ram (running_at s (pc_after n s.pc)) s.pc first second).counted (found-leaves program s.pc i n (found program s.pc i n e) two))

pub course-once : (roms : Roms) (ram : List ℕ) (s : State) (first second : ℕ) → Once (course roms ram s first second)
unfolding course
course-once roms ram s first second =
    either Once _ _ _ (λ t. declined-once _ s (eqb-false _ _ (not-true _ t)))
    (λ t. either Once _ _ _ (λ u. accepted-once _ _ (λ two. refl))
    (λ u. either Once _ _ _ (λ h. waits-once s first)
    (λ h. either Once _ _ _ (λ v. accepted-once _ _ (λ two. called-once s _))
    (λ v. either Once _ _ _ (λ w. accepted-once _ _ (λ two. called-once _ _))
    (λ w. record { once = (carried-once (seen_by roms first) ram s first second).once })))))
