-- The table holds the sheet's entry of every code; and a defined code takes one cycle or two.
-- Assumes nothing.
use mathlib.Core.Path.{◌≡◌, refl}
use mathlib.Core.Bool.{Bool, true, false, ◌&&◌}
use mathlib.Core.List.{◌∷◌}
use Prim.Native.Nat.{ℕ, ◌<◌, ◌≤◌}
use lib.Dec.{eqb, leb, ltb}
use lib.ListN.{length, get_or, get_or-eq_default}
use borrow.Author.Tests.{leb-true, ltb-true, ltb-false}
use Rattle.std.specs.Prelude.{None}
use Rattle.isa.specs.Choice.{pick, within}
use Rattle.isa.specs.Sheet.{rows, rows_of, undefined_row, row_of, kind_of, entry_of}
use Rattle.isa.specs.Table.{entry_as}
use Rattle.isa.specs.declared.Set.{Set}
use Rattle.isa.specs.declared.table.Entry.{Entry}
use Rattle.isa.specs.declared.table.TheConstants.{TABLE}
use Rattle.isa.specs.declared.Set.TheVariants.{Intel, Nec}
use Rattle.isa.proofs.Everywhere.{everywhere}

-- The table's entry of an undefined code.
abbrev pub blank : Entry
blank = entry_as None

pub nec_held : (b : ℕ) → b < 256 → get_or TABLE b blank ≡ entry_of Nec b
unfolding entry_of kind_of pick
nec_held b h = everywhere (λ k. get_or TABLE k blank) (entry_of Nec) 256 refl b h

-- A set leaves the codes undefined that NEC's does, and those whose kind is past the set's rows.
abbrev pub within_set : Set → Entry → Entry
within_set set e = pick (eqb e.bytes 0) blank (pick (ltb (length (rows_of set)) e.kind) blank e)

pub entry_within : (set : Set) (b : ℕ) → b < 256 → entry_of set b ≡ within_set set (entry_of Nec b)
unfolding entry_of kind_of pick
entry_within Intel b h = everywhere (entry_of Intel) (λ k. within_set Intel (entry_of Nec k)) 256 refl b h
entry_within Nec b h = everywhere (entry_of Nec) (λ k. within_set Nec (entry_of Nec k)) 256 refl b h

pub entry-held : (set : Set) (b : ℕ) → b < 256 → within_set set (get_or TABLE b blank) ≡ entry_of set b
entry-held set b h = rw (nec_held b h, entry_within set b h)

-- A number from low to high.
pub within-true : (low high k : ℕ) → within low high k ≡ true → (low ≤ k) × (k ≤ high)
within-true low high k e = go (leb low k) refl e
  where
    go : (p : Bool) → leb low k ≡ p → (p && leb k high) ≡ true → (low ≤ k) × (k ≤ high)
    go true h t = (leb-true low k h, leb-true k high t)
    go false h t = cc

row-cycles : (k : ℕ) → eqb (row_of k).bytes 0 ≡ false → within 1 2 (row_of k).cycles ≡ true
unfolding pick
row-cycles k defined = go (ltb k 99) refl
  where
    go : (p : Bool) → ltb k 99 ≡ p → within 1 2 (row_of k).cycles ≡ true
    go true h =
        rw defined at
        (everywhere (λ k. pick (eqb (row_of k).bytes 0) true (within 1 2 (row_of k).cycles)) (λ k. true) 99 refl k (ltb-true k 99 h))
    go false h =
        let past : row_of k ≡ undefined_row = get_or-eq_default (undefined_row ∷ rows) undefined_row (ltb-false k 99 h) in
        let never : true ≡ false = rw past at defined in
        cc

pub defined-cycles :
    (set : Set) (b : ℕ) → eqb (entry_of set b).bytes 0 ≡ false → (1 ≤ (entry_of set b).cycles) × ((entry_of set b).cycles ≤ 2)
unfolding entry_of
defined-cycles set b defined = within-true 1 2 (entry_of set b).cycles (row-cycles (kind_of set b) defined)
