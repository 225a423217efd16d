-- Two strings that turn one ring do the same exactly if their places leave the same remainder by its bits.
-- Assumes nothing.
use Prim.Native.Nat.{ℕ, zero, suc, ◌+◌, ◌*◌, ◌/◌, ◌%◌, ◌^◌, ◌<◌}
use mathlib.Core.Bool.{Bool, true, false}
use mathlib.Core.List.{List, [], ◌∷◌, ◌++◌}
use mathlib.Core.Path.{◌≡◌, refl, sym, ap, ◌∙◌}
use native.Mathlib.Nat.{zero-add}
use native.Mathlib.Omega.{arith}
use lib.ListN.{length, replicate, replicate-append-replicate}
use lib.Dec.{ltb, lit≤}
use lib.Pow.{pow-lt}
use borrow.Author.Tests.{ltb-true, ltb-false}
use Rattle.isa.proofs.Everywhere.{everywhere}
use Rattle.machine.specs.Psw.{bit_c}
use Rattle.machine.specs.declared.State.{State}
use Rattle.accumulator.specs.Rings.{Ring, Alone, WithC, bits, Turns, rl, rr, swap, rlc, rrc, nop, TurnsBy, none, more}
use Rattle.accumulator.specs.Rotates.{Rotate, Rl, Rlc, Rr, Rrc, Swap, Nop, turned, rotated, law, Same, Holds}
use Rattle.accumulator.proofs.Rotates.{cycles-bytes, plain, same-by-values, rotated-append}

-- ---- a part of a string may be replaced where it stands
-- A and PSW stay bytes.
turned-bytes : (r : Rotate) (s : State) → s.a < 256 → s.psw < 256 → ((turned r s).a < 256) × ((turned r s).psw < 256)
turned-bytes Rl s l m = (omega arith, m)
turned-bytes Rlc s l m = (omega arith, omega arith)
turned-bytes Rr s l m = (omega arith, m)
turned-bytes Rrc s l m = (omega arith, omega arith)
turned-bytes Swap s l m = (omega arith, m)
turned-bytes Nop s l m = (l, m)

rotated-bytes : (rs : List Rotate) (s : State) → s.a < 256 → s.psw < 256 → ((rotated rs s).a < 256) × ((rotated rs s).psw < 256)
rotated-bytes [] s l m = (l, m)
rotated-bytes (r ∷ rs) s l m =
    let w = turned-bytes r s l m in
    rotated-bytes rs (turned r s) w.0 w.1

pub same-inside :
    (before string instead behind : List Rotate) → Same string instead → Same (before ++ string ++ behind) (before ++ instead ++ behind)
same-inside before string instead behind e s l m =
    let w = rotated-bytes before s l m in
    rotated-append (before ++ string) behind s
    ∙ ap (rotated behind) (rotated-append before string s ∙ e (rotated before s) w.0 w.1 ∙ sym (rotated-append before instead s))
    ∙ sym (rotated-append (before ++ instead) behind s)

-- ---- every string of a ring is so many times RL, or RLC
abbrev one : Ring → Rotate
one Alone = Rl
one WithC = Rlc

abbrev ones : Ring → ℕ → List Rotate
ones ring n = replicate n (one ring)

turns-ones : {ring : Ring} {r : Rotate} {n : ℕ} → Turns ring r n → Same (r ∷ []) (ones ring n)
turns-ones {ring} {r} {n} rl = same-by-values (r ∷ []) (ones ring n) refl
turns-ones {ring} {r} {n} rr = same-by-values (r ∷ []) (ones ring n) refl
turns-ones {ring} {r} {n} swap = same-by-values (r ∷ []) (ones ring n) refl
turns-ones {ring} {r} {n} rlc = same-by-values (r ∷ []) (ones ring n) refl
turns-ones {ring} {r} {n} rrc = same-by-values (r ∷ []) (ones ring n) refl
turns-ones {ring} {r} {n} nop = same-by-values (r ∷ []) (ones ring n) refl

by-ones : {ring : Ring} {rs : List Rotate} {n : ℕ} → TurnsBy ring rs n → Same rs (ones ring n)
by-ones none s l m = refl
by-ones {ring} (more {r = r} {rs = rs} {m = i} {n = j} t ts) s l m =
    let w = turned-bytes r s l m in
    by-ones ts (turned r s) w.0 w.1 ∙ ap (rotated (ones ring j)) (turns-ones t s l m)
    ∙ sym (rotated-append (ones ring i) (ones ring j) s) ∙ ap (λ (ys : List Rotate). rotated ys s) (replicate-append-replicate i j (one ring))

-- All the way round is nothing, and so only the remainder counts.
round : (ring : Ring) → Same (ones ring (bits ring)) []
round Alone = same-by-values (ones Alone (bits Alone)) [] refl
round WithC = same-by-values (ones WithC (bits WithC)) [] refl

once-more : (ring : Ring) (q n : ℕ) → bits ring * suc q + n ≡ bits ring + (bits ring * q + n)
once-more Alone q n = omega arith
once-more WithC q n = omega arith

rounds : (ring : Ring) (q n : ℕ) → Same (ones ring (bits ring * q + n)) (ones ring n)
rounds Alone zero n s l m = rw zero-add
rounds WithC zero n s l m = rw zero-add
rounds ring (suc q) n s l m =
    ap (λ (k : ℕ). rotated (ones ring k) s) (once-more ring q n)
    ∙ ap (λ (ys : List Rotate). rotated ys s) (sym (replicate-append-replicate (bits ring) (bits ring * q + n) (one ring)))
    ∙ rotated-append (ones ring (bits ring)) (ones ring (bits ring * q + n)) s
    ∙ ap (rotated (ones ring (bits ring * q + n))) (round ring s l m) ∙ rounds ring q n s l m

divided : (ring : Ring) (n : ℕ) → n ≡ bits ring * (n / bits ring) + n % bits ring
divided Alone n = omega arith
divided WithC n = omega arith

remainder : (ring : Ring) (n : ℕ) → Same (ones ring n) (ones ring (n % bits ring))
remainder ring n s l m =
    ap (λ (k : ℕ). rotated (ones ring k) s) (divided ring n) ∙ rounds ring (n / bits ring) (n % bits ring) s l m

same-places :
    {ring : Ring} {string instead : List Rotate} {m n : ℕ} → TurnsBy ring string m → TurnsBy ring instead n
    → m % bits ring ≡ n % bits ring → Same string instead
same-places {ring} {m = i} {n = j} t u e s l m =
    by-ones t s l m ∙ remainder ring i s l m ∙ ap (λ (k : ℕ). rotated (ones ring k) s) e
    ∙ sym (by-ones u s l m ∙ remainder ring j s l m)

pub ring-law :
    {ring : Ring} {string instead : List Rotate} {m n : ℕ} → TurnsBy ring string m → TurnsBy ring instead n
    → m % bits ring ≡ n % bits ring → Holds (law string (length string) instead (length instead))
ring-law {string = string} {instead = instead} t u e =
    record { same = same-places t u e; cycles = λ set. cycles-bytes set string; instead_cycles = λ set. cycles-bytes set instead }

-- Five RL, or three RR: 5 places, and 21, which is 5 and twice 8.
pub five-rl : Holds (law (replicate 5 Rl) 5 (replicate 3 Rr) 3)
five-rl = ring-law (more rl (more rl (more rl (more rl (more rl none))))) (more rr (more rr (more rr none))) refl

-- ---- and no other string does: where A = 01 and C = 0 come to shows the places
-- A and C as one number of 9 bits.
abbrev placed : State → ℕ
placed s = s.a + bit_c s.psw * 256

shown : (ring : Ring) (n : ℕ) → n < bits ring → placed (rotated (ones ring n) (plain 1 0)) ≡ 2 ^ n
shown Alone n l = everywhere (λ k. placed (rotated (ones Alone k) (plain 1 0))) (λ k. 2 ^ k) 8 refl n l
shown WithC n l = everywhere (λ k. placed (rotated (ones WithC k) (plain 1 0))) (λ k. 2 ^ k) 9 refl n l

remainder-less : (ring : Ring) (n : ℕ) → n % bits ring < bits ring
remainder-less Alone n = omega arith
remainder-less WithC n = omega arith

string-shown : {ring : Ring} {rs : List Rotate} {n : ℕ} → TurnsBy ring rs n → placed (rotated rs (plain 1 0)) ≡ 2 ^ (n % bits ring)
string-shown {ring} {n = n} t =
    ap placed (by-ones t (plain 1 0) (lit≤ tt) (lit≤ tt) ∙ remainder ring n (plain 1 0) (lit≤ tt) (lit≤ tt))
    ∙ shown ring (n % bits ring) (remainder-less ring n)

same-exponent : (i j : ℕ) → 2 ^ i ≡ 2 ^ j → i ≡ j
same-exponent i j e = go (ltb i j) (ltb j i) refl refl
  where
    go : (x y : Bool) → ltb i j ≡ x → ltb j i ≡ y → i ≡ j
    go true y p q = let l = pow-lt (ltb-true i j p) in absurd (omega (arith, l, e))
    go false true p q = let l = pow-lt (ltb-true j i q) in absurd (omega (arith, l, e))
    go false false p q = let l = ltb-false i j p in let k = ltb-false j i q in omega (arith, l, k)

pub ring-law-only :
    {ring : Ring} {string instead : List Rotate} {m n : ℕ} → TurnsBy ring string m → TurnsBy ring instead n → Same string instead
    → m % bits ring ≡ n % bits ring
ring-law-only {ring} {m = i} {n = j} t u e =
    same-exponent (i % bits ring) (j % bits ring) (sym (string-shown t) ∙ ap placed (e (plain 1 0) (lit≤ tt) (lit≤ tt)) ∙ string-shown u)
