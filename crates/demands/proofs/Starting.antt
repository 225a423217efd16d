-- A step that carries out STRT T leaves the counter just started, holding what it held.
-- Assumes nothing.
use Prim.Native.Nat.{ℕ}
use mathlib.Core.Bool.{false}
use mathlib.Core.List.{List}
use mathlib.Core.Path.{◌≡◌, refl}
use native.Mathlib.Omega.{arith}
use borrow.Author.Tests.{eq-eqb, ne_eqb}
use Rattle.isa.specs.Choice.{pick}
use Rattle.isa.specs.Numbers.{given}
use Rattle.isa.specs.Reading.{Program, entry_at, sized, lacks, byte_at, instruction_at}
use Rattle.isa.specs.Sheet.{kind_of, entry_of, instruction_of}
use Rattle.isa.specs.declared.Instruction.TheVariants.{Control}
use Rattle.isa.specs.declared.Set.{Set}
use Rattle.isa.specs.declared.Set.TheVariants.{Intel, Nec}
use Rattle.isa.specs.declared.Switch.TheVariants.{StrtT}
use Rattle.isa.proofs.Finding.{found}
use Rattle.machine.specs.Rom.{Roms, seen_by}
use Rattle.machine.specs.State.{running_at}
use Rattle.machine.specs.declared.State.{State}
use Rattle.execute.specs.Execute.{executed}
use Rattle.chip.specs.History.{JustStarted}
use Rattle.chip.specs.Outside.{from_outside}
use Rattle.chip.specs.Refusals.{Fetches}
use Rattle.chip.specs.Step.{accepted, pc_after, done, carried, with_outside, course, ticked, settled, plan_by, plan_of}
use Rattle.chip.proofs.Fetches.{reads-one}
use Rattle.chip.proofs.Lasting.{found-cycles}

-- Code 55 is STRT T.
pub code-55 : (program : Program) (a : ℕ) → lacks program.bytes a ≡ false → byte_at program.bytes a ≡ 0x55 → instruction_at program a ≡ given (sized (Control StrtT) 1)
code-55 program a l e = reads-one program a 0x55 (Control StrtT) l e each
  where
    each : (set : Set) → ((entry_of set 0x55).bytes ≡ 1) × (instruction_of set 0x55 0 ≡ Control StrtT)
    each Intel = unfold entry_of kind_of pick in (refl, refl)
    each Nec = unfold entry_of kind_of pick in (refl, refl)

module _ (roms : Roms) (ram : List ℕ) (s : State) (first second : ℕ) (f : Fetches roms ram s first second) (n : ℕ)
    (i : instruction_at (seen_by roms first) s.pc ≡ given (sized (Control StrtT) n)) where
  start-course :
      course roms ram s first second
      ≡ with_outside (from_outside roms first s)
      (done (executed (Control StrtT) (seen_by roms first).bytes ram (running_at s (pc_after n s.pc)) s.pc first second) (entry_at (seen_by roms first) s.pc).cycles s)
  unfolding course carried pick
  start-course = rw (eq-eqb _ _ f.admitted, f.no_reset, f.no_wait, f.no_external, f.no_timer, i)

  pub strt-t : ((plan_of roms ram s first second).number ≡ 0) × JustStarted s.t (plan_of roms ram s first second).state
  unfolding plan_by done accepted executed settled ticked pick
  strt-t =
      let k = found-cycles (seen_by roms first) s.pc (Control StrtT) n (found (seen_by roms first) s.pc (Control StrtT) n i) in
      rw (start-course, ne_eqb (entry_at (seen_by roms first) s.pc).cycles 0 (λ z. omega (arith, k.0))) (refl, record { counting = refl; t = refl; divider = refl })
