-- Every instruction leaves PC, the divider and PSW within their sizes.
-- Assumes nothing.
use Prim.Native.Nat.{ℕ, ◌+◌, ◌*◌, ◌/◌, ◌%◌, ◌<◌}
use mathlib.Core.Bool.{Bool, true, false}
use mathlib.Core.List.{List}
use mathlib.Core.Path.{◌≡◌}
use native.Mathlib.Omega.{arith}
use lib.Dec.{lit≤}
use Rattle.isa.specs.Choice.{pick}
use Rattle.isa.specs.Reading.{next_pc}
use Rattle.isa.specs.declared.Condition.{Condition}
use Rattle.isa.specs.declared.Condition.TheVariants.{Jb, Jc, Jf0, Jf1, Jnc, Jni, Jnt0, Jnt1, Jnz, Jtf, Jt0, Jt1, Jz}
use Rattle.isa.specs.declared.DigitMove.{DigitMove}
use Rattle.isa.specs.declared.DigitMove.TheVariants.{MovdRead, MovdWrite, Orld, Anld}
use Rattle.isa.specs.declared.Flag.{Flag}
use Rattle.isa.specs.declared.Flag.TheVariants.{FlagC, FlagF0, FlagF1}
use Rattle.isa.specs.declared.Instruction.{Instruction}
use Rattle.isa.specs.declared.Instruction.TheVariants.{Alu, Accumulator, Djnz, Branch, Jmp, Jmpp, Control, MovA, Mov, MovData, MovAPsw, MovPswA, Movp, Movp3, MovxRead, MovxWrite, Xch, Xchd, Cpl, Clr, Logic, In, Outl, Expander, Dec, Inc, Call, Ret, Retr, MovAT, MovTA, Nop, Halt, Stop}
use Rattle.isa.specs.declared.Latch.{Latch}
use Rattle.isa.specs.declared.Latch.TheVariants.{Bus, Port}
use Rattle.isa.specs.declared.Operation.{Operation}
use Rattle.isa.specs.declared.Operation.TheVariants.{Add, Addc, Anl, Orl, Xrl}
use Rattle.isa.specs.declared.Switch.{Switch}
use Rattle.isa.specs.declared.Switch.TheVariants.{EnI, DisI, Ent0Clk, SelMb0, SelMb1, SelRb0, SelRb1, EnTcnti, DisTcnti, StopTcnt, StrtCnt, StrtT}
use Rattle.isa.specs.declared.Unary.{Unary}
use Rattle.isa.specs.declared.Unary.TheVariants.{CplA, ClrA, DaA, DecA, IncA, RlA, RlcA, RrA, RrcA, SwapA}
use Rattle.machine.specs.State.{with_a}
use Rattle.machine.specs.declared.State.{State}
use Rattle.accumulator.specs.Accumulator.{operated, with_ac, low_adjusted, high_adjusted, changed}
use Rattle.effects.specs.Effect.{Effect}
use Rattle.effects.specs.Ports.{input, output, expander_moved}
use Rattle.flow.specs.Control.{cleared, complemented, switched}
use Rattle.flow.specs.Jumps.{jump_if, branched}
use Rattle.flow.specs.Stack.{pushed}
use Rattle.execute.specs.Execute.{executed}

-- What refusal 3 asks of a state.
pub record Within (pc divider psw : ℕ) : Type 0 where
  pub address : pc < 4096
  pub divides : divider < 32
  pub bit_3 : psw / 8 % 2 ≡ 1

abbrev pub WithinSizes : State → Type 0
WithinSizes s = Within s.pc s.divider s.psw

-- ---- PSW with other bits
carries-bit-3 : (psw c ac : ℕ) → psw / 8 % 2 ≡ 1 → (psw % 64 + ac * 64 + c * 128) / 8 % 2 ≡ 1
carries-bit-3 psw c ac h = omega arith

c-bit-3 : (psw c : ℕ) → psw / 8 % 2 ≡ 1 → (psw % 128 + c * 128) / 8 % 2 ≡ 1
c-bit-3 psw c h = omega arith

f0-bit-3 : (psw f0 : ℕ) → psw / 8 % 2 ≡ 1 → (psw / 64 * 64 + f0 * 32 + psw % 32) / 8 % 2 ≡ 1
f0-bit-3 psw f0 h = omega arith

bs-bit-3 : (psw bs : ℕ) → psw / 8 % 2 ≡ 1 → (psw / 32 * 32 + bs * 16 + psw % 16) / 8 % 2 ≡ 1
bs-bit-3 psw bs h = omega arith

sp-bit-3 : (psw x : ℕ) → psw / 8 % 2 ≡ 1 → (psw / 8 * 8 + x % 8) / 8 % 2 ≡ 1
sp-bit-3 psw x h = omega arith

high-bit-3 : (a : ℕ) → (a / 16 * 16 + 8 + a % 8) / 8 % 2 ≡ 1
high-bit-3 a = omega arith

restored-bit-3 : (high psw x : ℕ) → psw / 8 % 2 ≡ 1 → (high / 16 * 16 + psw / 8 % 2 * 8 + x % 8) / 8 % 2 ≡ 1
restored-bit-3 high psw x h = omega arith

module _ {pc divider psw : ℕ} (h : Within pc divider psw) where
  at-pc : {to : ℕ} → to < 4096 → Within to divider psw
  at-pc l = record { address = l; divides = h.divides; bit_3 = h.bit_3 }

  at-psw : {psw' : ℕ} → psw' / 8 % 2 ≡ 1 → Within pc divider psw'
  at-psw e = record { address = h.address; divides = h.divides; bit_3 = e }

-- ---- PC elsewhere
in-page : (base d : ℕ) → base < 4096 → base / 256 * 256 + d % 256 < 4096
in-page base d l = omega arith

pub next-within : (pc : ℕ) → pc < 4096 → next_pc pc < 4096
next-within pc l = omega arith

far : (b : Bool) (a : ℕ) → pick b (a % 2048 + 2048) (a % 2048) < 4096
unfolding pick
far true a = omega arith
far false a = omega arith

back : (low high : ℕ) → low % 256 + high % 16 * 256 < 4096
back low high = omega arith

either : (b : Bool) (x y : Effect) → WithinSizes x.state → WithinSizes y.state → WithinSizes (pick b x y).state
unfolding pick
either true x y f g = f
either false x y f g = g

choose : (b : Bool) (x y : State) → WithinSizes x → WithinSizes y → WithinSizes (pick b x y)
unfolding pick
choose true x y f g = f
choose false x y f g = g

module _ (s : State) (h : WithinSizes s) where
  jump-within : (taken : Bool) (base d : ℕ) → base < 4096 → WithinSizes (jump_if taken s base d)
  jump-within taken base d l = choose taken _ _ (at-pc h (in-page (next_pc base) d (next-within base l))) h

  operated-within : (op : Operation) (x : ℕ) → WithinSizes (operated op x s)
  operated-within Add x = at-psw h (carries-bit-3 s.psw _ _ h.bit_3)
  operated-within Addc x = at-psw h (carries-bit-3 s.psw _ _ h.bit_3)
  operated-within Anl x = h
  operated-within Orl x = h
  operated-within Xrl x = h

  adjusted-within : (v : ℕ) → WithinSizes (high_adjusted s v)
  adjusted-within v = choose _ (with_ac s ((v + 0x60) % 256) 1) (with_a s (v % 256)) (at-psw h (c-bit-3 s.psw 1 h.bit_3)) h

  changed-within : (op : Unary) → WithinSizes (changed op s)
  changed-within CplA = h
  changed-within ClrA = h
  changed-within DaA = adjusted-within (low_adjusted s.a s.psw)
  changed-within DecA = h
  changed-within IncA = h
  changed-within RlA = h
  changed-within RlcA = at-psw h (c-bit-3 s.psw _ h.bit_3)
  changed-within RrA = h
  changed-within RrcA = at-psw h (c-bit-3 s.psw _ h.bit_3)
  changed-within SwapA = h

  switched-within : (op : Switch) → WithinSizes (switched op s).state
  switched-within EnI = h
  switched-within DisI = h
  switched-within Ent0Clk = h
  switched-within SelMb0 = h
  switched-within SelMb1 = h
  switched-within SelRb0 = at-psw h (bs-bit-3 s.psw 0 h.bit_3)
  switched-within SelRb1 = at-psw h (bs-bit-3 s.psw 1 h.bit_3)
  switched-within EnTcnti = h
  switched-within DisTcnti = h
  switched-within StopTcnt = h
  switched-within StrtCnt = h
  switched-within StrtT = record { address = h.address; divides = lit≤ tt; bit_3 = h.bit_3 }

  cleared-within : (f : Flag) → WithinSizes (cleared f s)
  cleared-within FlagC = at-psw h (c-bit-3 s.psw 0 h.bit_3)
  cleared-within FlagF0 = at-psw h (f0-bit-3 s.psw 0 h.bit_3)
  cleared-within FlagF1 = h

  complemented-within : (f : Flag) → WithinSizes (complemented f s)
  complemented-within FlagC = at-psw h (c-bit-3 s.psw _ h.bit_3)
  complemented-within FlagF0 = at-psw h (f0-bit-3 s.psw _ h.bit_3)
  complemented-within FlagF1 = h

  input-within : (l : Latch) (second : ℕ) → WithinSizes (input l s second)
  input-within Bus second = h
  input-within (Port p) second = h

  output-within : (l : Latch) (v : ℕ) → WithinSizes (output l s v)
  output-within Bus v = h
  output-within (Port p) v = h

  expander-within : (op : DigitMove) (p second : ℕ) → WithinSizes (expander_moved op p s second).state
  expander-within MovdRead p second = h
  expander-within MovdWrite p second = h
  expander-within Orld p second = h
  expander-within Anld p second = h

branched-within : (c : Condition) (s : State) (base d first : ℕ) → WithinSizes s → base < 4096 → WithinSizes (branched c s base d first)
branched-within (Jb b) s base d first h l = jump-within s h _ base d l
branched-within Jc s base d first h l = jump-within s h _ base d l
branched-within Jf0 s base d first h l = jump-within s h _ base d l
branched-within Jf1 s base d first h l = jump-within s h _ base d l
branched-within Jnc s base d first h l = jump-within s h _ base d l
branched-within Jni s base d first h l = jump-within s h _ base d l
branched-within Jnt0 s base d first h l = jump-within s h _ base d l
branched-within Jnt1 s base d first h l = jump-within s h _ base d l
branched-within Jnz s base d first h l = jump-within s h _ base d l
branched-within Jtf s base d first h l = jump-within _ h _ base d l
branched-within Jt0 s base d first h l = jump-within s h _ base d l
branched-within Jt1 s base d first h l = jump-within s h _ base d l
branched-within Jz s base d first h l = jump-within s h _ base d l

pub push-within : (s : State) (to : ℕ) → WithinSizes s → to < 4096 → WithinSizes (pushed s to).state
unfolding pushed
push-within s to h l = at-pc (at-psw h (sp-bit-3 s.psw _ h.bit_3)) l

pub within : (i : Instruction) (program ram : List ℕ) (s : State) (base first second : ℕ) → WithinSizes s → base < 4096 → WithinSizes (executed i program ram s base first second).state
unfolding executed
within (Alu op from) program ram s base first second h l = operated-within s h op _
within (Accumulator op) program ram s base first second h l = changed-within s h op
within (Djnz r d) program ram s base first second h l = jump-within s h _ base d l
within (Branch c d) program ram s base first second h l = branched-within c s base d first h l
within (Jmp a) program ram s base first second h l = at-pc h (far _ a)
within Jmpp program ram s base first second h l = either _ _ _ (at-pc h l) (at-pc h (in-page base _ l))
within (Control op) program ram s base first second h l = switched-within s h op
within (MovA from) program ram s base first second h l = h
within (Mov to) program ram s base first second h l = h
within (MovData to d) program ram s base first second h l = h
within MovAPsw program ram s base first second h l = h
within MovPswA program ram s base first second h l = at-psw h (high-bit-3 s.a)
within Movp program ram s base first second h l = either _ _ _ (at-pc h l) h
within Movp3 program ram s base first second h l = either _ _ _ (at-pc h l) h
within (MovxRead r) program ram s base first second h l = h
within (MovxWrite r) program ram s base first second h l = h
within (Xch with) program ram s base first second h l = h
within (Xchd r) program ram s base first second h l = h
within (Cpl g) program ram s base first second h l = complemented-within s h g
within (Clr g) program ram s base first second h l = cleared-within s h g
within (Logic op to d) program ram s base first second h l = output-within s h to _
within (In from) program ram s base first second h l = input-within s h from second
within (Outl to) program ram s base first second h l = output-within s h to _
within (Expander op p) program ram s base first second h l = expander-within s h op p second
within (Dec r) program ram s base first second h l = h
within (Inc c) program ram s base first second h l = h
within (Call a) program ram s base first second h l = push-within s _ h (far _ a)
within Ret program ram s base first second h l = at-pc (at-psw h (sp-bit-3 s.psw _ h.bit_3)) (back _ _)
within Retr program ram s base first second h l = at-pc (at-psw h (restored-bit-3 _ s.psw _ h.bit_3)) (back _ _)
within MovAT program ram s base first second h l = h
within MovTA program ram s base first second h l = h
within Nop program ram s base first second h l = h
within Halt program ram s base first second h l = choose _ _ _ h h
within Stop program ram s base first second h l = choose _ _ _ h h
