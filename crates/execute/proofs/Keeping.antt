-- Every instruction but STRT T, STRT CNT, STOP TCNT and MOV T,A leaves the counter, its divider and how it counts; and every one but HALT
-- and STOP leaves the mode.
-- Assumes nothing.
use Prim.Native.Nat.{ℕ}
use mathlib.Core.Bool.{Bool, true, false}
use mathlib.Core.List.{List}
use mathlib.Core.Path.{◌≡◌, refl, ap}
use Rattle.isa.specs.Choice.{pick}
use Rattle.isa.specs.Sets.{Standby, halt, stop}
use Rattle.isa.specs.declared.Condition.{Condition}
use Rattle.isa.specs.declared.Condition.TheVariants.{Jb, Jc, Jf0, Jf1, Jnc, Jni, Jnt0, Jnt1, Jnz, Jtf, Jt0, Jt1, Jz}
use Rattle.isa.specs.declared.DigitMove.{DigitMove}
use Rattle.isa.specs.declared.DigitMove.TheVariants.{MovdRead, MovdWrite, Orld, Anld}
use Rattle.isa.specs.declared.Flag.{Flag}
use Rattle.isa.specs.declared.Flag.TheVariants.{FlagC, FlagF0, FlagF1}
use Rattle.isa.specs.declared.Instruction.{Instruction}
use Rattle.isa.specs.declared.Instruction.TheVariants.{Alu, Accumulator, Djnz, Branch, Jmp, Jmpp, Control, MovA, Mov, MovData, MovAPsw, MovPswA, Movp, Movp3, MovxRead, MovxWrite, Xch, Xchd, Cpl, Clr, Logic, In, Outl, Expander, Dec, Inc, Call, Ret, Retr, MovAT, MovTA, Nop, Halt, Stop}
use Rattle.isa.specs.declared.Latch.{Latch}
use Rattle.isa.specs.declared.Latch.TheVariants.{Bus, Port}
use Rattle.isa.specs.declared.Operation.{Operation}
use Rattle.isa.specs.declared.Operation.TheVariants.{Add, Addc, Anl, Orl, Xrl}
use Rattle.isa.specs.declared.Switch.{Switch}
use Rattle.isa.specs.declared.Switch.TheVariants.{EnI, DisI, Ent0Clk, SelMb0, SelMb1, SelRb0, SelRb1, EnTcnti, DisTcnti, StopTcnt, StrtCnt, StrtT}
use Rattle.isa.specs.declared.Unary.{Unary}
use Rattle.isa.specs.declared.Unary.TheVariants.{CplA, ClrA, DaA, DecA, IncA, RlA, RlcA, RrA, RrcA, SwapA}
use Rattle.machine.specs.Pins.{int_pin, is_low}
use Rattle.machine.specs.State.{with_mode}
use Rattle.machine.specs.declared.Mode.{Mode}
use Rattle.machine.specs.declared.Mode.TheVariants.{HaltMode, StopMode}
use Rattle.machine.specs.declared.State.{State}
use Rattle.accumulator.specs.Accumulator.{operated, changed}
use Rattle.effects.specs.Effect.{Effect}
use Rattle.effects.specs.Moves.{quiet}
use Rattle.effects.specs.Ports.{input, output, expander_moved}
use Rattle.flow.specs.Control.{cleared, complemented, switched, standing_by}
use Rattle.flow.specs.Jumps.{jump_if, branched}
use Rattle.flow.specs.Stack.{pushed}
use Rattle.execute.specs.Execute.{executed}
use Rattle.execute.specs.Setting.{LeavesCounter, Setting, setting_of}

-- The counter is set as it was, and the cycle is to be counted, but for the four; the mode is what it was, but for the two.
pub record Keeps (i : Instruction) (s : State) (e : Effect) : Type 0 where
  pub setting : LeavesCounter i → setting_of e.state ≡ setting_of s
  pub counted : LeavesCounter i → e.fresh ≡ false
  pub mode : (Standby i → ⊥) → e.state.mode ≡ s.mode

-- What most instructions keep.
record Kept : Type 0 where
  setting : Setting
  mode : Mode

abbrev kept : State → Kept
kept s = record { setting = setting_of s; mode = s.mode }

all : {i : Instruction} {s : State} {e : Effect} → kept e.state ≡ kept s → e.fresh ≡ false → Keeps i s e
all k f = record { setting = λ l. ap (λ (x : Kept). x.setting) k; counted = λ l. f; mode = λ l. ap (λ (x : Kept). x.mode) k }

either : {i : Instruction} {s : State} (b : Bool) (x y : Effect) → Keeps i s x → Keeps i s y → Keeps i s (pick b x y)
unfolding pick
either true x y f g = f
either false x y f g = g

jump-keeps : (taken : Bool) (s : State) (base d : ℕ) → kept (jump_if taken s base d) ≡ kept s
unfolding pick
jump-keeps true s base d = refl
jump-keeps false s base d = refl

operated-keeps : (op : Operation) (x : ℕ) (s : State) → kept (operated op x s) ≡ kept s
operated-keeps Add x s = refl
operated-keeps Addc x s = refl
operated-keeps Anl x s = refl
operated-keeps Orl x s = refl
operated-keeps Xrl x s = refl

adjusted-keeps : (b : Bool) (s x y : State) → kept x ≡ kept s → kept y ≡ kept s → kept (pick b x y) ≡ kept s
unfolding pick
adjusted-keeps true s x y f g = f
adjusted-keeps false s x y f g = g

changed-keeps : (op : Unary) (s : State) → kept (changed op s) ≡ kept s
changed-keeps CplA s = refl
changed-keeps ClrA s = refl
changed-keeps DaA s = adjusted-keeps _ s _ _ refl refl
changed-keeps DecA s = refl
changed-keeps IncA s = refl
changed-keeps RlA s = refl
changed-keeps RlcA s = refl
changed-keeps RrA s = refl
changed-keeps RrcA s = refl
changed-keeps SwapA s = refl

branched-keeps : (c : Condition) (s : State) (base d first : ℕ) → kept (branched c s base d first) ≡ kept s
branched-keeps (Jb b) s base d first = jump-keeps _ s base d
branched-keeps Jc s base d first = jump-keeps _ s base d
branched-keeps Jf0 s base d first = jump-keeps _ s base d
branched-keeps Jf1 s base d first = jump-keeps _ s base d
branched-keeps Jnc s base d first = jump-keeps _ s base d
branched-keeps Jni s base d first = jump-keeps _ s base d
branched-keeps Jnt0 s base d first = jump-keeps _ s base d
branched-keeps Jnt1 s base d first = jump-keeps _ s base d
branched-keeps Jnz s base d first = jump-keeps _ s base d
branched-keeps Jtf s base d first = jump-keeps _ _ base d
branched-keeps Jt0 s base d first = jump-keeps _ s base d
branched-keeps Jt1 s base d first = jump-keeps _ s base d
branched-keeps Jz s base d first = jump-keeps _ s base d

switched-keeps : (op : Switch) (s : State) → Keeps (Control op) s (switched op s)
switched-keeps EnI s = all refl refl
switched-keeps DisI s = all refl refl
switched-keeps Ent0Clk s = all refl refl
switched-keeps SelMb0 s = all refl refl
switched-keeps SelMb1 s = all refl refl
switched-keeps SelRb0 s = all refl refl
switched-keeps SelRb1 s = all refl refl
switched-keeps EnTcnti s = all refl refl
switched-keeps DisTcnti s = all refl refl
switched-keeps StopTcnt s = record { setting = λ f. absurd (f.no_stop_tcnt refl); counted = λ f. absurd (f.no_stop_tcnt refl); mode = λ l. refl }
switched-keeps StrtCnt s = record { setting = λ f. absurd (f.no_strt_cnt refl); counted = λ f. absurd (f.no_strt_cnt refl); mode = λ l. refl }
switched-keeps StrtT s = record { setting = λ f. absurd (f.no_strt_t refl); counted = λ f. absurd (f.no_strt_t refl); mode = λ l. refl }

cleared-keeps : (f : Flag) (s : State) → kept (cleared f s) ≡ kept s
cleared-keeps FlagC s = refl
cleared-keeps FlagF0 s = refl
cleared-keeps FlagF1 s = refl

complemented-keeps : (f : Flag) (s : State) → kept (complemented f s) ≡ kept s
complemented-keeps FlagC s = refl
complemented-keeps FlagF0 s = refl
complemented-keeps FlagF1 s = refl

input-keeps : (l : Latch) (s : State) (second : ℕ) → kept (input l s second) ≡ kept s
input-keeps Bus s second = refl
input-keeps (Port p) s second = refl

output-keeps : (l : Latch) (s : State) (v : ℕ) → kept (output l s v) ≡ kept s
output-keeps Bus s v = refl
output-keeps (Port p) s v = refl

expander-keeps : (op : DigitMove) (p : ℕ) (s : State) (second : ℕ) → Keeps (Expander op p) s (expander_moved op p s second)
expander-keeps MovdRead p s second = all refl refl
expander-keeps MovdWrite p s second = all refl refl
expander-keeps Orld p s second = all refl refl
expander-keeps Anld p s second = all refl refl

standing-by-keeps : (i : Instruction) (s : State) (mode : Mode) (first : ℕ) → Standby i → Keeps i s (quiet (standing_by s mode first))
unfolding pick
standing-by-keeps i s mode first two = go (is_low int_pin first)
  where
    go : (low : Bool) → Keeps i s (quiet (pick low s (with_mode s mode)))
    go true = all refl refl
    go false = record { setting = λ f. refl; counted = λ f. refl; mode = λ l. absurd (l two) }

pub keeps : (i : Instruction) (program ram : List ℕ) (s : State) (base first second : ℕ) → Keeps i s (executed i program ram s base first second)
unfolding executed pushed
keeps (Alu op from) program ram s base first second = all (operated-keeps op _ s) refl
keeps (Accumulator op) program ram s base first second = all (changed-keeps op s) refl
keeps (Djnz r d) program ram s base first second = all (jump-keeps _ s base d) refl
keeps (Branch c d) program ram s base first second = all (branched-keeps c s base d first) refl
keeps (Jmp a) program ram s base first second = all refl refl
keeps Jmpp program ram s base first second = either _ _ _ (all refl refl) (all refl refl)
keeps (Control op) program ram s base first second = switched-keeps op s
keeps (MovA from) program ram s base first second = all refl refl
keeps (Mov to) program ram s base first second = all refl refl
keeps (MovData to d) program ram s base first second = all refl refl
keeps MovAPsw program ram s base first second = all refl refl
keeps MovPswA program ram s base first second = all refl refl
keeps Movp program ram s base first second = either _ _ _ (all refl refl) (all refl refl)
keeps Movp3 program ram s base first second = either _ _ _ (all refl refl) (all refl refl)
keeps (MovxRead r) program ram s base first second = all refl refl
keeps (MovxWrite r) program ram s base first second = all refl refl
keeps (Xch with) program ram s base first second = all refl refl
keeps (Xchd r) program ram s base first second = all refl refl
keeps (Cpl g) program ram s base first second = all (complemented-keeps g s) refl
keeps (Clr g) program ram s base first second = all (cleared-keeps g s) refl
keeps (Logic op l d) program ram s base first second = all (output-keeps l s _) refl
keeps (In l) program ram s base first second = all (input-keeps l s second) refl
keeps (Outl l) program ram s base first second = all (output-keeps l s _) refl
keeps (Expander op p) program ram s base first second = expander-keeps op p s second
keeps (Dec r) program ram s base first second = all refl refl
keeps (Inc c) program ram s base first second = all refl refl
keeps (Call a) program ram s base first second = all refl refl
keeps Ret program ram s base first second = all refl refl
keeps Retr program ram s base first second = all refl refl
keeps MovAT program ram s base first second = all refl refl
keeps MovTA program ram s base first second = record { setting = λ f. absurd (f.no_mov_t_a refl); counted = λ f. absurd (f.no_mov_t_a refl); mode = λ l. refl }
keeps Nop program ram s base first second = all refl refl
keeps Halt program ram s base first second = standing-by-keeps Halt s HaltMode first halt
keeps Stop program ram s base first second = standing-by-keeps Stop s StopMode first stop
