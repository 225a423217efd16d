-- Laws of a line that is cut at 32 bytes: what one part after the other adds is what they add together; and past the line its array is 0.
-- Assumes nothing.
use mathlib.Core.Path.{◌≡◌, refl, sym, ◌∙◌, ap}
use mathlib.Core.List.{List, [], ◌∷◌, ◌++◌, append_assoc}
use Prim.Native.Nat.{ℕ, zero, suc, ◌+◌, ◌-◌, ◌≤◌, min}
use native.Mathlib.Omega.{arith}
use lib.ListN.{length, take, drop, replicate}
use Rattle.std.proofs.Math.Seq.{take-append-add, take-append_seam}
use Rattle.std.proofs.lemmas.List.{length-take-le, take_min, take-append-drop, drop-drop, drop-replicate, length-append, length-drop}
use Rattle.listing.specs.Draft.{cut, Adds}

take-take-append : (n : ℕ) (x y : List ℕ) → take n (take n x ++ y) ≡ take n (x ++ y)
take-take-append zero x y = refl
take-take-append (suc n) [] y = refl
take-take-append (suc n) (a ∷ x) y = ap (λ (l : List ℕ). a ∷ l) (take-take-append n x y)

-- a line that is cut and added to is the line with both added
pub cut_cut : (l x y : List ℕ) → cut (cut (l ++ x) ++ y) ≡ cut (l ++ (x ++ y))
unfolding cut
cut_cut l x y = take-take-append 32 (l ++ x) y ∙ ap (λ (t : List ℕ). take 32 t) (append_assoc l x y)

-- a line with x added and then y added is the line with both added
pub chain : {l m r x y : List ℕ} → Adds l x m → Adds m y r → Adds l (x ++ y) r
chain {l} {m} {r} {x} {y} f g = record { is = grind (arith, cut_cut) }

-- a line with as many bytes behind it as there is room for is cut at 32
pub filled :
    (l x post : List ℕ) (k n : ℕ) → length l ≡ k → k ≤ 32 → n ≡ min (32 - k) (length x) → take (k + n) (l ++ (take n x ++ post)) ≡ cut (l ++ x)
unfolding cut
filled l x post k n long short is =
    let all : length (take n x) ≡ n = length-take-le n x (omega arith) in
    let put : take n (take n x ++ post) ≡ take (32 - k) x = rw all at (take-append_seam (take n x) post) ∙ rw is (take_min (32 - k) x) in
    let whole : k + (32 - k) ≡ 32 = omega arith in
    rw long at (take-append-add l (take n x ++ post) n) ∙ ap (λ (t : List ℕ). l ++ t) put ∙ sym (rw (long, whole) at (take-append-add l x (32 - k)))

-- a part written anew leaves the array's length
pub same_size :
    (a k : ℕ) (xs ys p : List ℕ) → length xs ≡ 32 → a + k ≤ 32 → length ys ≡ k → take (a + k) p ≡ take a xs ++ ys → drop (a + k) p ≡ drop (a + k) xs
    → length p ≡ 32
same_size a k xs ys p long short part front rest =
    let f : length (take a xs) ≡ a = length-take-le a xs (omega arith) in
    let d : length (drop (a + k) xs) ≡ 32 - (a + k) = length-drop (a + k) xs ∙ ap (λ (n : ℕ). n - (a + k)) long in
    let parts : length (take (a + k) p ++ drop (a + k) p) ≡ 32 =
    rw (front, rest) (length-append (take a xs ++ ys) (drop (a + k) xs) ∙ rw (length-append (take a xs) ys, f, part, d) (omega arith)) in
    sym (ap (λ (l : List ℕ). length l) (take-append-drop (a + k) p)) ∙ parts

-- past a part that is written next, all is 0 still
pub still_0 : (a n : ℕ) (xs : List ℕ) → drop a xs ≡ replicate (32 - a) 0 → drop (a + n) xs ≡ replicate (32 - (a + n)) 0
still_0 a n xs e =
    let left : 32 - a - n ≡ 32 - (a + n) = omega arith in
    sym (drop-drop n a xs) ∙ ap (λ (l : List ℕ). drop n l) e ∙ drop-replicate n (32 - a) 0 ∙ ap (λ (m : ℕ). replicate m 0) left
