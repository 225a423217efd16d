-- The set that a number names, told by the answer of `Set::try_from`: the one is the other by its contract.
-- Assumes nothing.
use mathlib.Core.Path.{◌≡◌, refl, sym, ◌∙◌}
use mathlib.Core.Bool.{Bool, true, false}
use Prim.Native.Nat.{ℕ, ◌<◌}
use native.Mathlib.Omega.{arith}
use lib.Dec.{eqb}
use borrow.Author.Tests.{ne_eqb}
use Rattle.isa.specs.Choice.{pick}
use Rattle.isa.specs.Naming.{set_of, named_as}
use Rattle.isa.specs.Numbers.{Answer, given, refused}
use Rattle.isa.specs.declared.Refusal.{Refusal}
use Rattle.isa.specs.declared.Set.{Set}
use Rattle.isa.specs.declared.Set.TheVariants.{Intel, Nec}
use Rattle.std.specs.Prelude.{Result, Ok}

pub known : {r : Result Set Refusal} {x : Answer Set} {set : Set} → named_as r ≡ x → r ≡ Ok set → x ≡ given set
known e is = sym e ∙ rw is

-- A number names a set, or is refused by 25.
pub data Names (name : ℕ) : Type 0 where
  a_set : (set : Set) → set_of name ≡ given set → Names name
  no-set : set_of name ≡ refused 25 → Names name

pub names : (name : ℕ) → Names name
unfolding set_of pick
names name = go (eqb name 0) (eqb name 1) refl refl
  where
    go : (p q : Bool) → eqb name 0 ≡ p → eqb name 1 ≡ q → Names name
    go true q e f = a_set Intel (rw e)
    go false true e f = a_set Nec (rw (e, f))
    go false false e f = no-set (rw (e, f))

-- It is refused exactly if it is neither 0 nor 1.
pub intel-0 : set_of 0 ≡ given Intel
unfolding set_of pick
intel-0 = refl

pub nec-1 : set_of 1 ≡ given Nec
unfolding set_of pick
nec-1 = refl

pub none-25 : (name : ℕ) → 1 < name → set_of name ≡ refused 25
unfolding set_of pick
none-25 name h = rw (ne_eqb name 0 (λ z. omega arith), ne_eqb name 1 (λ z. omega arith))
