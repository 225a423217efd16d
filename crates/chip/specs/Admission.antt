-- What is looked at before a step does anything: "Order: 1, 2, 3, 6".
-- Assumes nothing.
use Rattle.std.specs.Prelude.{ℕ, ◌^◌, Bool, not, ◌&&◌, ◌||◌, List, ltb, eqb, length}
use Rattle.isa.specs.Choice.{pick}
use Rattle.isa.specs.declared.Set.{Set}
use Rattle.machine.specs.Rom.{Roms}
use Rattle.machine.specs.State.{permitted}
use Rattle.machine.specs.declared.State.{State}

-- "Program: exactly 1,024, 2,048 or 4,096 bytes."
abbrev pub program_allowed : ℕ → Bool
program_allowed n = eqb n 1024 || eqb n 2048 || eqb n 4096

-- "The caller may lend a second program of 4,096 bytes, or none (length 0)"; "a second program of another length is 1, tested after the
-- first" (document 02, item 7).
abbrev pub outside_allowed : ℕ → Bool
outside_allowed n = eqb n 0 || eqb n 4096

-- "RAM: exactly 64, 128 or 256 bytes, any pairing with the program."
abbrev pub ram_allowed : ℕ → Bool
ram_allowed n = eqb n 64 || eqb n 128 || eqb n 256

-- "Bits 28-31 are 0", of which "6 now looks at bits 29-31" (item 7).
abbrev pub sample_allowed : ℕ → Bool
sample_allowed sample = ltb sample (2 ^ 29)

-- The number that the programs' and the RAM's lengths and the state give under a set, 0 if none.
unfoldable pub lent_number : Set → ℕ → ℕ → ℕ → State → ℕ
lent_number set inside outside ram s =
    pick (not (program_allowed inside)) 1
    (pick (not (outside_allowed outside)) 1
    (pick (not (ram_allowed ram)) 2
    (pick (not (permitted set s)) 3 0)))

abbrev pub lent_of : Roms → List ℕ → State → ℕ
lent_of roms ram s = lent_number roms.set (length roms.inside) (length roms.outside) (length ram) s

-- The number that the two samples of a step give, 0 if none.
abbrev pub sample_number : ℕ → ℕ → ℕ
sample_number first second = pick (not (sample_allowed first && sample_allowed second)) 6 0

-- Both, in this order.
unfoldable pub admission : Roms → List ℕ → State → ℕ → ℕ → ℕ
admission roms ram s first second = pick (not (eqb (lent_of roms ram s) 0)) (lent_of roms ram s) (sample_number first second)
