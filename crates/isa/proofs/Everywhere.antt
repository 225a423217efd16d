-- A law for each of n numbers, from one equation of two lists that the checker computes.
-- Assumes nothing.
use mathlib.Core.Path.{◌≡◌}
use Prim.Native.Nat.{ℕ, zero, suc, ◌+◌, ◌-◌, ◌<◌, ◌≤◌}
use native.Mathlib.Nat.{add-zero, add-suc, suc-add, le_of_suc-le-suc, not-suc-le-zero}
use native.Mathlib.Omega.{arith}
use Rattle.isa.specs.Choice.{listed}

from : {A : Type 0} (f g : ℕ → A) (n i : ℕ) → listed f n i ≡ listed g n i → (k : ℕ) → k < n → f (i + k) ≡ g (i + k)
from f g zero i e k h = absurd (not-suc-le-zero h)
from f g (suc n) i e zero h = rw add-zero (cc)
from f g (suc n) i e (suc k) h =
    let later : listed f n (suc i) ≡ listed g n (suc i) = cc in
    let at : f (suc i + k) ≡ g (suc i + k) = from f g n (suc i) later k (le_of_suc-le-suc h) in
    rw (add-suc, ← suc-add) at

pub between : {A : Type 0} (f g : ℕ → A) (n i : ℕ) → listed f n i ≡ listed g n i → (k : ℕ) → i ≤ k → k < i + n → f k ≡ g k
between f g n i e k h l =
    let same : i + (k - i) ≡ k = omega arith in
    rw same at (from f g n i e (k - i) (omega arith))

pub everywhere : {A : Type 0} (f g : ℕ → A) (n : ℕ) → listed f n 0 ≡ listed g n 0 → (k : ℕ) → k < n → f k ≡ g k
everywhere f g n e k h = between f g n 0 e k (omega arith) (omega arith)
