-- Laws of the rows' texts: how they are put letter by letter, and how long they are; what holds of every row or code is computed over the sheet.
-- Assumes nothing.
use mathlib.Core.Path.{◌≡◌, refl, sym, ◌∙◌, ap}
use mathlib.Core.List.{List, [], ◌∷◌, ◌++◌, map, append_assoc, append-nil}
use mathlib.Core.Bool.{true}
use Prim.Native.Nat.{ℕ, suc, ◌<◌, ◌+◌}
use native.Mathlib.Numerals.{add-one}
use lib.ListN.{get_or, length, take}
use lib.Seq.{take-suc, take_all}
use lib.Dec.{leb, leb→le}
use Rattle.isa.proofs.Everywhere.{everywhere}
use Rattle.isa.specs.declared.Set.{Set}
use Rattle.isa.specs.declared.Set.TheVariants.{Intel, Nec}
use Rattle.isa.specs.declared.table.Entry.{Entry}
use Rattle.isa.specs.Choice.{pick, listed}
use Rattle.isa.specs.Sheet.{entry_of, kind_of}
use Rattle.listing.specs.declared.text.TheConstants.{TEXTS}
use Rattle.listing.specs.Text.{expand, expand_all, letters_of}
use Rattle.listing.proofs.Drafts.{cut_cut}

snoc : (a b d : ℕ) (xs : List ℕ) (x : ℕ) → expand_all a b d (xs ++ (x ∷ [])) ≡ expand_all a b d xs ++ expand a b d x
snoc a b d [] x = append-nil (expand a b d x)
snoc a b d (y ∷ ys) x =
    ap (λ (t : List ℕ). expand a b d y ++ t) (snoc a b d ys x) ∙ sym (append_assoc (expand a b d y) (expand_all a b d ys) (expand a b d x))

-- the same of one more letter of those that are taken
pub taken :
    (a b d i : ℕ) (xs : List ℕ) → i < length xs → expand_all a b d (take (i + 1) xs) ≡ expand_all a b d (take i xs) ++ expand a b d (get_or xs i 0)
taken a b d i xs h = rw (add-one, take-suc xs i 0 h) (snoc a b d (take i xs) (get_or xs i 0))

-- for a line's ending, letter by letter
pub ruleset endings = (cut_cut, taken, append_assoc, take_all)

-- what stands in the table of texts
pub text-at : (k : ℕ) → k < 99 → get_or (map (λ x. x.now) TEXTS) k [] ≡ letters_of k
unfolding letters_of
text-at k h = everywhere (λ k. get_or (map (λ x. x.now) TEXTS) k []) letters_of 99 refl k h

-- a kind of a set's table is that of a row, or 0
kinds-small : (set : Set) → listed (λ k. leb (suc (entry_of set k).kind) 99) 256 0 ≡ listed (λ k. true) 256 0
unfolding entry_of kind_of pick
kinds-small Intel = refl
kinds-small Nec = refl

pub kind-small : (set : Set) (e : Entry) (b : ℕ) → e ≡ entry_of set b → b < 256 → e.kind < 99
kind-small set e b p h =
    rw p (leb→le (suc (entry_of set b).kind) 99 (rw (everywhere (λ k. leb (suc (entry_of set k).kind) 99) (λ k. true) 256 (kinds-small set) b h) tt))
