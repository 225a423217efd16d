-- The words that every other definition is written with.
-- Assumes nothing.
use Rattle.std.specs.Prelude.{Bool, true, false, ◌&&◌, List, [], ◌∷◌, ℕ, zero, suc, leb}

-- The first if the test holds, else the second.
unfoldable pub pick {ℓ} : {A : Type ℓ} → Bool → A → A → A
pick true a b = a
pick false a b = b

-- 1 if the test holds, else 0.
abbrev pub one_if : Bool → ℕ
one_if true = 1
one_if false = 0

-- k is one of the numbers from low to high.
abbrev pub within : ℕ → ℕ → ℕ → Bool
within low high k = leb low k && leb k high

-- f i, f (i + 1), .. : n of them.
abbrev pub listed : {A : Type 0} → (ℕ → A) → ℕ → ℕ → List A
listed f zero i = []
listed f (suc n) i = f i ∷ listed f n (suc i)
