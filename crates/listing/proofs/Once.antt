-- Two answers of `line` that meet its statement are equal, and so are the buffers that they leave.
-- Assumes nothing.
use Prim.Native.Nat.{ℕ}
use mathlib.Core.List.{List}
use mathlib.Core.Path.{◌≡◌, ◌∙◌, ap}
use Rattle.std.specs.Prelude.{Result, Ok, Err}
use lib.ListN.{length}
use Rattle.isa.proofs.Once.{once, one-number}
use Rattle.isa.specs.Numbers.{number_of}
use Rattle.isa.specs.Reading.{Program}
use Rattle.isa.specs.declared.Refusal.{Refusal}
use Rattle.listing.specs.Listing.{listed_as, listed_of, line_after}
use Rattle.listing.specs.declared.Listed.{Listed}

listed-as-once : (r s : Result Listed Refusal) → listed_as r ≡ listed_as s → r ≡ s
listed-as-once (Ok x) (Ok y) e =
    let length : x.length ≡ y.length = cc in
    let size : x.size ≡ y.size = cc in
    ap (λ n. Ok (record { length = n; size = x.size })) length ∙ ap (λ n. Ok (record { length = y.length; size = n })) size
listed-as-once (Ok x) (Err r) e = cc
listed-as-once (Err r) (Ok x) e = cc
listed-as-once (Err r) (Err s) e = let n : number_of r ≡ number_of s = cc in ap Err (one-number r s n)

pub line-once :
    (program : Program) (a : ℕ) (old : List ℕ) (r s : Result Listed Refusal) {b c : List ℕ} → listed_as r ≡ listed_of program a (length old)
    → b ≡ line_after program a old → listed_as s ≡ listed_of program a (length old) → c ≡ line_after program a old → (r ≡ s) × (b ≡ c)
line-once program a old r s p q p' q' = (listed-as-once r s (once p p'), once q q')
