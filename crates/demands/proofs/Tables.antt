-- An instruction looks at the program for its table byte alone.
-- Assumes nothing.
use Prim.Native.Nat.{ℕ}
use mathlib.Core.List.{List}
use mathlib.Core.Path.{◌≡◌, refl}
use Rattle.isa.specs.Reading.{lacks, byte_at}
use Rattle.isa.specs.declared.Instruction.{Instruction}
use Rattle.isa.specs.declared.Instruction.TheVariants.{Alu, Accumulator, Djnz, Branch, Jmp, Jmpp, Control, MovA, Mov, MovData, MovAPsw, MovPswA, Movp, Movp3, MovxRead, MovxWrite, Xch, Xchd, Cpl, Clr, Logic, In, Outl, Expander, Dec, Inc, Call, Ret, Retr, MovAT, MovTA, Nop, Halt, Stop}
use Rattle.machine.specs.declared.State.{State}
use Rattle.execute.specs.Execute.{executed}
use Rattle.chip.specs.Refusals.{TableByte, of_movp, of_movp3, of_jmpp}

-- Two programs have the same at an address.
pub record Same (p q : List ℕ) (a : ℕ) : Type 0 where
  pub lacking : lacks p a ≡ lacks q a
  pub byte : byte_at p a ≡ byte_at q a

module _ (p q ram : List ℕ) (s : State) (base first second : ℕ) where
  pub by-table :
      (i : Instruction) → ((at : ℕ) → TableByte base s.a i at → Same p q at) → executed i p ram s base first second ≡ executed i q ram s base first second
  unfolding executed
  by-table (Alu op from) h = refl
  by-table (Accumulator op) h = refl
  by-table (Djnz r d) h = refl
  by-table (Branch c d) h = refl
  by-table (Jmp a) h = refl
  by-table Jmpp h = let w = h _ of_jmpp in rw (w.lacking, w.byte)
  by-table (Control op) h = refl
  by-table (MovA from) h = refl
  by-table (Mov to) h = refl
  by-table (MovData to d) h = refl
  by-table MovAPsw h = refl
  by-table MovPswA h = refl
  by-table Movp h = let w = h _ of_movp in rw (w.lacking, w.byte)
  by-table Movp3 h = let w = h _ of_movp3 in rw (w.lacking, w.byte)
  by-table (MovxRead r) h = refl
  by-table (MovxWrite r) h = refl
  by-table (Xch c) h = refl
  by-table (Xchd r) h = refl
  by-table (Cpl f) h = refl
  by-table (Clr f) h = refl
  by-table (Logic op l d) h = refl
  by-table (In l) h = refl
  by-table (Outl l) h = refl
  by-table (Expander op n) h = refl
  by-table (Dec r) h = refl
  by-table (Inc c) h = refl
  by-table (Call a) h = refl
  by-table Ret h = refl
  by-table Retr h = refl
  by-table MovAT h = refl
  by-table MovTA h = refl
  by-table Nop h = refl
  by-table Halt h = refl
  by-table Stop h = refl
