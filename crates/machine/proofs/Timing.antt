-- The counter as timer: n cycles counted from the count c with the divider 0.
-- Assumes nothing.
use Prim.Native.Nat.{ℕ, pred, ◌+◌, ◌*◌, ◌/◌, ◌%◌, ◌≤◌, ◌<◌}
use mathlib.Core.Bool.{Bool, true, false, ◌||◌, ◌&&◌}
use mathlib.Core.Path.{◌≡◌, ap, ◌∙◌}
use native.Mathlib.Omega.{arith}
use lib.Dec.{ltb}
use borrow.Author.Tests.{lt-ltb, le-ltb}
use Rattle.std.proofs.Math.Bool.{or-true, or-false}
use Rattle.machine.specs.Counting.{advanced, counted}
use Rattle.machine.specs.declared.Count.{Count}
use Rattle.machine.specs.declared.Counting.{Counting}
use Rattle.machine.specs.declared.Counting.TheVariants.{Stopped, Timer, Counter}

-- n cycles after the count c with the divider 0.
pub record At (c n : ℕ) (x : Count) : Type 0 where
  pub t : x.t ≡ (c + n / 32) % 256
  pub divider : x.divider ≡ n % 32

count-more : (c n x d : ℕ) → x ≡ (c + n / 32) % 256 → d ≡ n % 32 → (x + (d + 1) / 32) % 256 ≡ (c + (n + 1) / 32) % 256
count-more c n x d p q = omega arith

divider-more : (n d : ℕ) → d ≡ n % 32 → (d + 1) % 32 ≡ (n + 1) % 32
divider-more n d q = omega arith

-- One cycle more, whatever T1 and the interrupt's enable are.
pub one-more : (c n : ℕ) (x : Count) (t1 enabled : Bool) → At c n x → At c (n + 1) (counted Timer x t1 enabled)
one-more c n x t1 enabled h =
    record { t = count-more c n x.t x.divider h.t h.divider; divider = divider-more n x.divider h.divider }

-- A request that is stored stays through a cycle.
pub request-stays : (mode : Counting) (x : Count) (t1 enabled : Bool) → x.request ≡ true → (counted mode x t1 enabled).request ≡ true
request-stays Stopped x t1 enabled h = rw h
request-stays Timer x t1 enabled h = rw h
request-stays Counter x t1 enabled h = rw h

-- And so does TF, once set.
pub tf-stays : (mode : Counting) (x : Count) (t1 enabled : Bool) → x.tf ≡ true → (counted mode x t1 enabled).tf ≡ true
tf-stays Stopped x t1 enabled h = rw h
tf-stays Timer x t1 enabled h = rw h
tf-stays Counter x t1 enabled h = rw h

-- A cycle that counts nothing leaves a byte T, TF and the request.
pub kept : (x : Count) (d : ℕ) (t1 enabled : Bool) → x.t < 256 → record { t = x.t; divider = d; tf = x.tf; request = x.request; last = t1 } ≡ advanced x d 0 t1 enabled
kept x d t1 enabled h =
    let t : (x.t + 0) % 256 ≡ x.t = omega arith in
    let none : ltb 255 (x.t + 0) ≡ false = le-ltb 255 (x.t + 0) (omega arith) in
    simp (t, none, or-false)

-- ---- cycle i overflows exactly if 32 c + i is a multiple of 8,192
hit-count : (c i x : ℕ) → 1 ≤ i → x ≡ (c + pred i / 32) % 256 → (32 * c + i) % 8192 ≡ 0 → x ≡ 255
hit-count c i x l p h = omega arith

hit-divider : (c i d : ℕ) → 1 ≤ i → d ≡ pred i % 32 → (32 * c + i) % 8192 ≡ 0 → d ≡ 31
hit-divider c i d l p h = omega arith

hit-zero : (c i x : ℕ) → x ≡ (c + i / 32) % 256 → (32 * c + i) % 8192 ≡ 0 → x ≡ 0
hit-zero c i x p h = omega arith

hit-over : (x d : ℕ) → x ≡ 255 → d ≡ 31 → 255 < x + (d + 1) / 32
hit-over x d p q = omega arith

hit-only : (c i x y : ℕ) → 1 ≤ i → x ≡ (c + pred i / 32) % 256 → y ≡ (c + i / 32) % 256 → x ≡ 255 → y ≡ 0 → (32 * c + i) % 8192 ≡ 0
hit-only c i x y l p q r s = omega arith

miss : (c i x d : ℕ) → 1 ≤ i → x ≡ (c + pred i / 32) % 256 → d ≡ pred i % 32 → ((32 * c + i) % 8192 ≡ 0 → ⊥) → x + (d + 1) / 32 ≤ 255
miss c i x d l p q h = omega arith

module _ (c i : ℕ) (l : 1 ≤ i) (x : Count) (t1 enabled : Bool) (from : At c (pred i) x) where
  -- Such a cycle takes T from FF to 00, sets TF, and stores a request exactly if the timer interrupt is enabled.
  module _ (h : (32 * c + i) % 8192 ≡ 0) where
    over : ltb 255 (x.t + (x.divider + 1) / 32) ≡ true
    over = lt-ltb _ _ (hit-over _ _ (hit-count c i _ l from.t h) (hit-divider c i _ l from.divider h))

    pub full : x.t ≡ 255
    full = hit-count c i _ l from.t h

    pub sets-tf : (counted Timer x t1 enabled).tf ≡ true
    sets-tf = ap (λ (b : Bool). x.tf || b) over ∙ or-true x.tf

    pub stores : (counted Timer x t1 enabled).request ≡ (x.request || enabled)
    stores = ap (λ (b : Bool). x.request || (b && enabled)) over

  -- Every other cycle leaves TF and the request alone.
  module _ (h : (32 * c + i) % 8192 ≡ 0 → ⊥) where
    under : ltb 255 (x.t + (x.divider + 1) / 32) ≡ false
    under = le-ltb _ _ (miss c i _ _ l from.t from.divider h)

    pub leaves-tf : (counted Timer x t1 enabled).tf ≡ x.tf
    leaves-tf = ap (λ (b : Bool). x.tf || b) under ∙ or-false _

    pub leaves-request : (counted Timer x t1 enabled).request ≡ x.request
    leaves-request = ap (λ (b : Bool). x.request || (b && enabled)) under ∙ or-false _

  module _ (to : At c i (counted Timer x t1 enabled)) where
    pub empty : (32 * c + i) % 8192 ≡ 0 → (counted Timer x t1 enabled).t ≡ 0
    empty h = hit-zero c i _ to.t h

    -- There is no other overflow.
    pub overflow-only : x.t ≡ 255 → (counted Timer x t1 enabled).t ≡ 0 → (32 * c + i) % 8192 ≡ 0
    overflow-only p q = hit-only c i _ _ l from.t to.t p q
