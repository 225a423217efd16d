-- The 24 bytes of a state stand for that state, so that what a call leaves can be lent to the next; and bytes that no state has give 3, as
-- under Intel those of any state that does not simply run.
-- Assumes nothing.
use mathlib.Core.Path.{◌≡◌, refl}
use mathlib.Core.Bool.{Bool, true, false, ◌&&◌}
use mathlib.Core.List.{List}
use Prim.Native.Nat.{ℕ, ◌+◌, ◌*◌, ◌/◌, ◌%◌}
use native.Mathlib.Omega.{arith}
use lib.Dec.{eqb, ltb}
use lib.ListN.{length}
use borrow.Author.Tests.{ne_eqb}
use Rattle.isa.specs.Choice.{pick, one_if}
use Rattle.isa.specs.Reading.{byte_at}
use Rattle.isa.specs.declared.Set.{Set}
use Rattle.isa.specs.declared.Set.TheVariants.{Intel}
use Rattle.machine.specs.Counting.{counting_byte, counting_of}
use Rattle.machine.specs.declared.Counting.{Counting}
use Rattle.machine.specs.declared.Counting.TheVariants.{Stopped, Timer, Counter}
use Rattle.machine.specs.Mode.{is_running, mode_byte, mode_of}
use Rattle.machine.specs.State.{permitted}
use Rattle.machine.specs.declared.Mode.{Mode}
use Rattle.machine.specs.declared.Mode.TheVariants.{Running, HaltMode, StopMode, Released}
use Rattle.machine.specs.declared.State.{State}
use Rattle.chip.specs.Admission.{program_allowed, outside_allowed, ram_allowed, lent_number}
use Rattle.mcs48_c.specs.Bytes.{bytes_of, formed, state_in, state_of}

flag-fits : (b : Bool) → ltb (one_if b) 2 ≡ true
flag-fits false = refl
flag-fits true = refl

flag-back : (b : Bool) → eqb (one_if b) 1 ≡ b
flag-back false = refl
flag-back true = refl

counting-fits : (c : Counting) → ltb (counting_byte c) 3 ≡ true
counting-fits Stopped = refl
counting-fits Timer = refl
counting-fits Counter = refl

counting-back : (c : Counting) → counting_of (counting_byte c) ≡ c
unfolding counting_of pick
counting-back Stopped = refl
counting-back Timer = refl
counting-back Counter = refl

mode-fits : (m : Mode) → ltb (mode_byte m) 4 ≡ true
mode-fits Running = refl
mode-fits HaltMode = refl
mode-fits StopMode = refl
mode-fits Released = refl

mode-back : (m : Mode) → mode_of (mode_byte m) ≡ m
unfolding mode_of pick
mode-back Running = refl
mode-back HaltMode = refl
mode-back StopMode = refl
mode-back Released = refl

pc-back : (pc : ℕ) → pc % 256 + pc / 256 * 256 ≡ pc
pc-back pc = omega arith

pub state-back : (s : State) → state_of (bytes_of s) ≡ s
unfolding state_of bytes_of pick
state-back s = simp (flag-fits, flag-back, counting-fits, counting-back, mode-fits, mode-back, pc-back)

-- Order 1, 2, 3: where the lengths are allowed, bytes that no state has give 3, whatever the set.
module _ (set : Set) (bytes : List ℕ) (program outside ram : ℕ) (p : program_allowed program ≡ true) (o : outside_allowed outside ≡ true)
    (r : ram_allowed ram ≡ true) where
  pub no-state-3 : (eqb (length bytes) 24 && formed bytes) ≡ false → lent_number set program outside ram (state_of bytes) ≡ 3
  unfolding lent_number state_of pick
  no-state-3 h = go (eqb (length bytes) 24) (formed bytes) refl refl h
    where
      go :
          (x y : Bool) → eqb (length bytes) 24 ≡ x → formed bytes ≡ y → (x && y) ≡ false
          → lent_number set program outside ram (state_of bytes) ≡ 3
      go true true e f z = let t : true ≡ false = z in cc
      go true false e f z = rw (p, o, r, e, f)
      go false y e f z = rw (p, o, r, e)

  -- A state that the set does not permit gives 3 too.
  outside-3 : permitted set (state_of bytes) ≡ false → lent_number set program outside ram (state_of bytes) ≡ 3
  unfolding lent_number pick
  outside-3 h = rw (p, o, r, h)

-- "3 for any but running under Intel": so where byte 20 is not 0.
not-running : (n : ℕ) → (n ≡ 0 → ⊥) → is_running (mode_of n) ≡ false
unfolding mode_of pick
not-running n z = go (eqb n 1) (eqb n 2)
  where
    go : (x y : Bool) → is_running (pick (eqb n 0) Running (pick x HaltMode (pick y StopMode Released))) ≡ false
    go true y = rw (ne_eqb _ _ z)
    go false true = rw (ne_eqb _ _ z)
    go false false = rw (ne_eqb _ _ z)

and-false : (x y : Bool) → y ≡ false → (x && y) ≡ false
and-false true y h = h
and-false false y h = refl

pub intel-runs-3 :
    (bytes : List ℕ) (program outside ram : ℕ) → program_allowed program ≡ true → outside_allowed outside ≡ true → ram_allowed ram ≡ true
    → (byte_at bytes 20 ≡ 0 → ⊥) → lent_number Intel program outside ram (state_of bytes) ≡ 3
unfolding state_of pick
intel-runs-3 bytes program outside ram p o r n = go (eqb (length bytes) 24) (formed bytes) refl refl
  where
    go : (x y : Bool) → eqb (length bytes) 24 ≡ x → formed bytes ≡ y → lent_number Intel program outside ram (state_of bytes) ≡ 3
    go true true e f =
        outside-3 Intel bytes program outside ram p o r
        (rw (e, f)
        (and-false (ltb (state_in bytes).pc 4096 && ltb (state_in bytes).divider 32 && eqb ((state_in bytes).psw / 8 % 2) 1) _
        (not-running (byte_at bytes 20) n)))
    go true false e f = no-state-3 Intel bytes program outside ram p o r (rw (e, f))
    go false y e f = no-state-3 Intel bytes program outside ram p o r (rw e)
