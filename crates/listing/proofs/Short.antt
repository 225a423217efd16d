-- A line of the listing has at most 32 bytes: 12 stand before the text and the LF after it, and no row's text takes more than 19.
-- Assumes nothing.
use Rattle.isa.specs.Choice.{pick}
use mathlib.Core.Path.{refl}
use mathlib.Core.List.{List, [], ◌∷◌, ◌++◌}
use mathlib.Core.Bool.{Bool, true, false}
use Prim.Native.Nat.{ℕ, ◌+◌, ◌*◌, ◌/◌, ◌%◌, ◌<◌, ◌≤◌, zero-le}
use native.Mathlib.Omega.{arith}
use lib.ListN.{length, length-append}
use lib.Dec.{ltb, eqb, leb, leb→le, lit≤}
use Rattle.isa.proofs.Everywhere.{everywhere}
use Rattle.isa.specs.declared.table.Entry.{Entry}
use Rattle.isa.specs.Reading.{Program, byte_at, entry_at}
use Rattle.isa.specs.Pages.{branch_target}
use Rattle.listing.specs.Text.{ascii, digit_of, hex2, hex3, byte_number, address_number, expand, expand_all, letters_of, line_one, line_two}
use Rattle.listing.specs.Listing.{two_at, line_at}
use Rattle.listing.proofs.Texts.{kind-small}

byte-short : (d : ℕ) → length (byte_number d) ≤ 4
unfolding pick
byte-short d = go (ltb (d / 16) 10)
  where
    go : (p : Bool) → length (pick p [] (ascii "0") ++ (hex2 d ++ ascii "H")) ≤ 4
    go true = lit≤ tt
    go false = lit≤ tt

address-short : (d : ℕ) → length (address_number d) ≤ 5
unfolding pick
address-short d = go (ltb (d / 256) 10)
  where
    go : (p : Bool) → length (pick p [] (ascii "0") ++ (hex3 d ++ ascii "H")) ≤ 5
    go true = lit≤ tt
    go false = lit≤ tt

-- The most that a letter takes.
abbrev widest : Bool → Bool → Bool → Bool → Bool → Bool → ℕ
widest r p b d a t = pick r 1 (pick p 1 (pick b 1 (pick d 4 (pick a 5 (pick t 5 1)))))

abbrev wide : ℕ → ℕ
wide x = widest (eqb x 114) (eqb x 112) (eqb x 98) (eqb x 100) (eqb x 97) (eqb x 116)

letter-short : (a b d x : ℕ) → length (expand a b d x) ≤ wide x
unfolding expand pick
letter-short a b d x = go (eqb x 114) (eqb x 112) (eqb x 98) (eqb x 100) (eqb x 97) (eqb x 116)
  where
    go :
        (p o q s t u : Bool)
        → length (pick p (digit_of (b % 8) ∷ []) (pick o (digit_of (b % 8) ∷ []) (pick q (digit_of (b / 32) ∷ []) (pick s (byte_number d)
        (pick t (address_number (b / 32 * 256 + d)) (pick u (address_number (branch_target a d)) (x ∷ []))))))) ≤ widest p o q s t u
    go true o q s t u = lit≤ tt
    go false true q s t u = lit≤ tt
    go false false true s t u = lit≤ tt
    go false false false true t u = byte-short d
    go false false false false true u = address-short (b / 32 * 256 + d)
    go false false false false false true = address-short (branch_target a d)
    go false false false false false false = lit≤ tt

abbrev width : List ℕ → ℕ
width [] = 0
width (x ∷ xs) = wide x + width xs

text-short : (a b d : ℕ) (xs : List ℕ) → length (expand_all a b d xs) ≤ width xs
text-short a b d [] = zero-le
text-short a b d (x ∷ xs) = rw length-append (omega (arith, letter-short a b d x, text-short a b d xs))

row-short : (kind : ℕ) → kind < 99 → width (letters_of kind) ≤ 19
unfolding letters_of pick
row-short kind h = leb→le (width (letters_of kind)) 19 (rw (everywhere (λ k. leb (width (letters_of k)) 19) (λ k. true) 99 refl kind h) tt)

one-short : (kind a b : ℕ) → kind < 99 → length (line_one kind a b) ≤ 32
one-short kind a b h = simp length-append (omega (arith, row-short kind h, text-short a b b (letters_of kind)))

two-short : (kind a b d : ℕ) → kind < 99 → length (line_two kind a b d) ≤ 32
two-short kind a b d h = simp length-append (omega (arith, row-short kind h, text-short a b d (letters_of kind)))

pub line-short : (program : Program) (a : ℕ) → byte_at program.bytes a < 256 → length (line_at program a) ≤ 32
unfolding line_at pick
line-short program a h = go (two_at program.bytes a e) (eqb e.bytes 1)
  where
    b : ℕ
    b = byte_at program.bytes a

    d : ℕ
    d = byte_at program.bytes (a + 1)

    e : Entry
    e = entry_at program a

    small : e.kind < 99
    small = kind-small program.set e b refl h

    go : (p q : Bool) → length (pick p (line_two e.kind a b d) (pick q (line_one e.kind a b) (line_one 0 a b))) ≤ 32
    go true q = two-short e.kind a b d small
    go false true = one-short e.kind a b small
    go false false = one-short 0 a b (lit≤ tt)
