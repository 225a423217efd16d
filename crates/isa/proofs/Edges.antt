-- The pages of jumps and tables: at the edges by computation, and inside a page.
-- Assumes nothing.
use Prim.Native.Nat.{ℕ, ◌%◌, ◌<◌}
use mathlib.Core.List.{map}
use mathlib.Core.Path.{◌≡◌, refl}
use native.Mathlib.Omega.{arith}
use Rattle.isa.specs.Edges.{Edge, edge, edges}
use Rattle.isa.specs.Pages.{in_page, branch_target, movp_address, jmpp_address, movp3_address}
use Rattle.isa.specs.Reading.{next_pc}

-- A row by the definitions.
abbrev found : ℕ → Edge
found first =
    edge first (next_pc first) (branch_target first 0x34) (movp_address first 0x34) (jmpp_address first 0x34) (movp3_address first 0x34)

pub edges-found : map (λ e. found e.first) edges ≡ edges
edges-found = refl

-- Away from the last byte of a page, the next PC is in the page of the first byte: a ROM that has no conditional jump and no MOVP at the
-- last byte of a page is carried out and listed as document 01 alone had it.
pub branch-inside : (first d : ℕ) → first % 256 < 255 → branch_target first d ≡ in_page first d
branch-inside first d inside = omega arith

pub movp-inside : (first a : ℕ) → first % 256 < 255 → movp_address first a ≡ in_page first a
movp-inside first a inside = omega arith
