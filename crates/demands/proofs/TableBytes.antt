-- Number 5 for a table byte: "5 applies to the byte now addressed" (document 02, item 3).
-- Assumes nothing.
use Prim.Native.Nat.{ℕ, ◌<◌, ◌≤◌}
use mathlib.Core.Bool.{Bool, true, false, ◌||◌, false≢true}
use mathlib.Core.List.{List, [], ◌∷◌}
use mathlib.Core.Path.{◌≡◌, refl, ◌∙◌}
use native.Mathlib.Omega.{arith}
use lib.Dec.{eqb}
use lib.ListN.{length}
use borrow.Author.Tests.{eqb-true, leb-true, leb-false, le-leb}
use Rattle.isa.specs.Choice.{pick}
use Rattle.isa.specs.Numbers.{given}
use Rattle.isa.specs.Pages.{movp_address, jmpp_address, movp3_address}
use Rattle.isa.specs.Reading.{Program, sized, lacks, byte_at, instruction_at, decoded_at}
use Rattle.isa.specs.Sheet.{kind_of, entry_of, instruction_of}
use Rattle.isa.specs.declared.Instruction.{Instruction}
use Rattle.isa.specs.declared.Instruction.TheVariants.{Movp}
use Rattle.isa.specs.declared.Set.{Set}
use Rattle.isa.specs.declared.Set.TheVariants.{Intel, Nec}
use Rattle.machine.specs.Pins.{ea_pin, is_high}
use Rattle.machine.specs.Rom.{Roms, alone, fetched, seen_by, visible}
use Rattle.machine.specs.State.{with_pc}
use Rattle.machine.specs.declared.State.{State}
use Rattle.machine.proofs.Seeing.{inside-lacks, inside-byte}
use Rattle.effects.specs.Effect.{written}
use Rattle.execute.specs.Execute.{executed}
use Rattle.chip.specs.Admission.{program_allowed, lent_number, admission}
use Rattle.chip.specs.Cases.{holding, idle, blank, with}
use Rattle.chip.specs.Refusals.{Fetches, lacking, no_table_byte, TableByte, of_movp, of_movp3, of_jmpp}
use Rattle.chip.specs.Step.{declined, accepted, done, carried, course, refused_by, plan_by, step_of, ram_after}
use Rattle.chip.proofs.Exactly.{exactly-to}
use Rattle.chip.proofs.Fetches.{reads-one}

-- MOVP at 3FF of 1,024 bytes, whose table byte would stand at 434.
abbrev last_movp : List ℕ
last_movp = holding 1024 0x3FF (0xA3 ∷ [])

abbrev at3ff : State
at3ff = with_pc (with 0x34 0x08) 0x3FF

pub movp-past-end :
    (set : Set) → step_of (alone set last_movp) blank at3ff idle idle ≡ refused_by 5 at3ff
unfolding plan_by course carried done accepted declined admission lent_number executed instruction_at decoded_at visible entry_of kind_of pick
movp-past-end Intel = refl
movp-past-end Nec = refl

pub movp-past-end-ram : (set : Set) → ram_after (alone set last_movp) blank at3ff idle idle ≡ blank
unfolding plan_by course carried done accepted declined written admission lent_number executed instruction_at decoded_at visible entry_of kind_of pick
movp-past-end-ram Intel = refl
movp-past-end-ram Nec = refl

-- Whatever A, RAM and the rest of the program are, that MOVP gives 5 where EA is low and no second program is lent.
reads-movp : (program : Program) (pc : ℕ) → lacks program.bytes pc ≡ false → byte_at program.bytes pc ≡ 0xA3 → instruction_at program pc ≡ given (sized Movp 1)
reads-movp program pc l b = reads-one program pc 0xA3 Movp l b each
  where
    each : (set : Set) → ((entry_of set 0xA3).bytes ≡ 1) × (instruction_of set 0xA3 0 ≡ Movp)
    each Intel = unfold entry_of kind_of pick in (refl, refl)
    each Nec = unfold entry_of kind_of pick in (refl, refl)

pub last-movp-5 :
    (roms : Roms) (ram : List ℕ) (s : State) (first second : ℕ) → Fetches roms ram s first second → length roms.inside ≡ 1024
    → length roms.outside ≡ 0 → s.pc ≡ 0x3FF → byte_at roms.inside s.pc ≡ 0xA3 → is_high ea_pin first ≡ false
    → (step_of roms ram s first second).number ≡ 5
last-movp-5 roms ram s first second f n o e b low =
    exactly-to roms ram s first second 5
    (no_table_byte Movp 1 _ f (reads-movp (seen_by roms first) s.pc here code) of_movp gone)
  where
    there : s.pc < length roms.inside
    there = omega arith

    past : length roms.inside ≤ movp_address s.pc s.a
    past = omega arith

    none : length roms.outside ≤ movp_address s.pc s.a
    none = omega arith

    here : lacks (seen_by roms first).bytes s.pc ≡ false
    here = inside-lacks roms.inside roms.outside (is_high ea_pin first) s.pc low there

    code : byte_at (seen_by roms first).bytes s.pc ≡ 0xA3
    code = inside-byte roms.inside roms.outside (is_high ea_pin first) s.pc low there ∙ b

    gone : lacking roms first (movp_address s.pc s.a) ≡ true
    gone = unfold fetched pick in rw (low, le-leb _ _ past, le-leb _ _ none)

-- And no other table byte is past the end of a program that has the first byte.
pub record LastMovp (size pc : ℕ) (i : Instruction) : Type 0 where
  pub of_1024 : size ≡ 1024
  pub at_3ff : pc ≡ 0x3FF
  pub is_movp : i ≡ Movp

one-of-three : (n : ℕ) (P : Type 0) → program_allowed n ≡ true → (n ≡ 1024 → P) → (n ≡ 2048 → P) → (n ≡ 4096 → P) → P
one-of-three n P h f g k = go (eqb n 1024) (eqb n 2048) (eqb n 4096) refl refl refl h
  where
    go : (x y z : Bool) → eqb n 1024 ≡ x → eqb n 2048 ≡ y → eqb n 4096 ≡ z → (x || y || z) ≡ true → P
    go true y z p q r h = f (eqb-true n 1024 p)
    go false true z p q r h = g (eqb-true n 2048 q)
    go false false true p q r h = k (eqb-true n 4096 r)
    go false false false p q r h = absurd (false≢true h)

module _ (n pc a : ℕ) (allowed : program_allowed n ≡ true) (there : pc < n) where
  movp-last : n ≤ movp_address pc a → LastMovp n pc Movp
  movp-last none =
      one-of-three n _ allowed (λ e. record { of_1024 = e; at_3ff = omega arith; is_movp = refl }) (λ e. absurd (omega arith)) (λ e. absurd (omega arith))

  movp3-there : a < 256 → n ≤ movp3_address pc a → ⊥
  movp3-there l none = one-of-three n ⊥ allowed (λ e. omega arith) (λ e. omega arith) (λ e. omega arith)

  jmpp-there : n ≤ jmpp_address pc a → ⊥
  jmpp-there none = one-of-three n ⊥ allowed (λ e. omega arith) (λ e. omega arith) (λ e. omega arith)

pub only-last-movp :
    (program : Program) (pc a : ℕ) (i : Instruction) (at : ℕ) → program_allowed (length program.bytes) ≡ true → lacks program.bytes pc ≡ false → a < 256
    → TableByte pc a i at → lacks program.bytes at ≡ true → LastMovp (length program.bytes) pc i
only-last-movp program pc a i at allowed there l of_movp none = movp-last _ pc a allowed (leb-false _ _ there) (leb-true _ _ none)
only-last-movp program pc a i at allowed there l of_movp3 none =
    absurd (movp3-there _ pc a allowed (leb-false _ _ there) l (leb-true _ _ none))
only-last-movp program pc a i at allowed there l of_jmpp none =
    absurd (jmpp-there _ pc a allowed (leb-false _ _ there) (leb-true _ _ none))
