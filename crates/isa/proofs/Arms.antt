-- The arms of the match on a row's number.
-- Assumes nothing.
use mathlib.Core.Path.{◌≡◌, refl}
use mathlib.Core.List.{◌∷◌}
use Prim.Native.Nat.{ℕ, zero, suc, ◌≤◌}
use native.Mathlib.Omega.{arith}
use lib.ListN.{get_or-eq_default}
use Rattle.isa.specs.Sheet.{rows, undefined_row, make_of}
use Rattle.isa.specs.declared.Instruction.{Instruction}
use Rattle.isa.specs.declared.Instruction.TheVariants.{Nop}

-- An arm gives the instruction of its row: its key is the row's number.
pub arm : (kind key b d : ℕ) (i : Instruction) → kind ≡ key → i ≡ make_of key b d → i ≡ make_of kind b d
arm kind key b d i e r = rw e r

-- The last arm: the number is none of the keys 1 to n.
abbrev pub NoKey : ℕ → ℕ → Type 0
NoKey zero x = Unit {0}
NoKey (suc n) x = NoKey n x × (x ≡ suc n → ⊥)

past : (n x : ℕ) → NoKey n x → (x ≡ 0 → ⊥) → suc n ≤ x
past zero x r h = omega (arith, h)
past (suc n) x r h = let below : suc n ≤ x = past n x r.0 h in omega (arith, r.1)

pub last : (kind b d : ℕ) → NoKey 98 kind → Nop ≡ make_of kind b d
last zero b d r = refl
last (suc k) b d r = rw (get_or-eq_default (undefined_row ∷ rows) undefined_row (past 98 (suc k) r (λ z. omega arith)))
