-- The cases with a second program, by computation; and that a step takes two bytes from outside at most.
-- Assumes nothing.
use Prim.Native.Nat.{ℕ, ◌≤◌}
use mathlib.Core.Bool.{Bool}
use mathlib.Core.List.{List, [], ◌∷◌, map}
use mathlib.Core.Path.{◌≡◌, refl}
use native.Mathlib.Omega.{arith}
use lib.Dec.{eqb, lit≤}
use lib.ListN.{length}
use Rattle.isa.specs.Choice.{pick}
use Rattle.isa.specs.Reading.{Program, next_pc, byte_at, entry_at, instruction_at, decoded_at}
use Rattle.isa.specs.Sheet.{kind_of, entry_of}
use Rattle.isa.specs.declared.Set.{Set}
use Rattle.isa.specs.declared.Set.TheVariants.{Intel, Nec}
use Rattle.machine.specs.Pins.{ea_pin, is_high}
use Rattle.machine.specs.Rom.{Roms, answering, visible, seen_by}
use Rattle.machine.specs.declared.State.{State}
use Rattle.machine.specs.declared.rom.Memory.{Memory}
use Rattle.machine.specs.declared.rom.Memory.TheVariants.{Internal, External}
use Rattle.flow.specs.Stack.{pushed}
use Rattle.execute.specs.Execute.{executed}
use Rattle.chip.specs.Admission.{lent_number, admission}
use Rattle.chip.specs.Outside.{table_bytes, bytes_taken, counted_outside, outside_among, from_outside}
use Rattle.chip.specs.Step.{Course, Plan, declined, accepted, waits, reset_state, called, without_request, done, carried, course, ticked, settled, plan_by, step_of}
use Rattle.chip.proofs.Choices.{either}
use Rattle.demands.specs.Far.{seen, far_cases}

pub far-seen : (set : Set) → map (seen set) far_cases ≡ map (λ c. c.want) far_cases
unfolding plan_by settled ticked course carried done accepted declined reset_state called without_request admission lent_number executed pushed instruction_at decoded_at visible from_outside entry_of kind_of pick
far-seen Intel = refl
far-seen Nec = refl

-- ---- two at most
counted-few : (m : Memory) → counted_outside m ≤ 1
counted-few Internal = lit≤ tt
counted-few External = lit≤ tt

among-few : (inside : List ℕ) (ea : Bool) (xs : List ℕ) → outside_among inside ea xs ≤ length xs
among-few inside ea [] = lit≤ tt
among-few inside ea (x ∷ xs) =
    let one = counted-few (answering inside ea x) in
    let rest = among-few inside ea xs in
    omega (arith, one, rest)

record Short (xs : List ℕ) : Type 0 where
  short : length xs ≤ 1

-- An instruction has one byte besides its first at most, its second or its table byte.
taken-few : (program : Program) (base a : ℕ) → length (bytes_taken program base a) ≤ 2
taken-few program base a = let h = further.short in omega (arith, h)
  where
    further : Short (pick (eqb (entry_at program base).bytes 2) (next_pc base ∷ []) (table_bytes (byte_at program.bytes base) base a))
    further =
        either Short _ _ _ (λ t. record { short = lit≤ tt })
        (λ t. either Short _ _ _ (λ u. record { short = lit≤ tt })
        (λ u. either Short _ _ _ (λ v. record { short = lit≤ tt })
        (λ v. either Short _ _ _ (λ w. record { short = lit≤ tt }) (λ w. record { short = lit≤ tt }))))

from-few : (roms : Roms) (first : ℕ) (s : State) → from_outside roms first s ≤ 2
unfolding from_outside
from-few roms first s =
    let n = among-few roms.inside (is_high ea_pin first) (bytes_taken (seen_by roms first) s.pc s.a) in
    let m = taken-few (seen_by roms first) s.pc s.a in
    omega (arith, n, m)

course-few : (roms : Roms) (ram : List ℕ) (s : State) (first second : ℕ) → (course roms ram s first second).outside ≤ 2
unfolding course declined accepted waits
course-few roms ram s first second =
    either Few _ _ _ (λ t. lit≤ tt)
    (λ t. either Few _ _ _ (λ u. lit≤ tt)
    (λ u. either Few _ _ _ (λ h. lit≤ tt)
    (λ h. either Few _ _ _ (λ v. lit≤ tt)
    (λ v. either Few _ _ _ (λ w. lit≤ tt) (λ w. from-few roms first s)))))
  where
    Few : Course → Type 0
    Few c = c.outside ≤ 2

pub outside-few : (roms : Roms) (ram : List ℕ) (s : State) (first second : ℕ) → (step_of roms ram s first second).outside ≤ 2
unfolding plan_by
outside-few roms ram s first second =
    either (λ (p : Plan). p.outside ≤ 2) _ _ _ (λ t. course-few roms ram s first second) (λ t. lit≤ tt)
