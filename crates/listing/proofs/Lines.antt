-- How many bytes a line shows, and that the lines of a listing show every address of the program once, in order: each begins where the one
-- before it ends.
-- Assumes nothing.
use Prim.Native.Nat.{ℕ, zero, suc, ◌+◌, ◌-◌, ◌%◌, ◌<◌, ◌≤◌}
use mathlib.Core.Bool.{Bool, true, false, ◌&&◌}
use mathlib.Core.List.{List, [], ◌∷◌, ◌++◌}
use mathlib.Core.Path.{◌≡◌, refl, ◌∙◌, ap}
use native.Mathlib.Nat.{add-zero, zero-add}
use native.Mathlib.Omega.{arith}
use lib.Dec.{eqb, ltb, lit≤}
use lib.ListN.{length}
use borrow.Author.Tests.{ltb-true, leb-true, leb-false}
use Rattle.isa.specs.Choice.{pick, listed}
use Rattle.isa.specs.Numbers.{given, refused}
use Rattle.isa.specs.Reading.{Program, lacks, entry_at, Bytes}
use Rattle.listing.specs.Listing.{two_at, size_at, line_at, shown, listed_of, shown_from}
use Rattle.listing.proofs.Short.{line-short}

-- The address past a program's last byte.
abbrev pub end_of : Program → ℕ
end_of program = length program.bytes

-- A line shows one byte or two, and only such as the program has.
pub record Sized (program : Program) (a : ℕ) : Type 0 where
  pub some : 1 ≤ size_at program a
  pub few : size_at program a ≤ 2
  pub there : a < end_of program → a + size_at program a ≤ end_of program

-- Of three tests that all hold, the last holds.
last_of : (p q r : Bool) → (p && (q && r)) ≡ true → r ≡ true
last_of true true r h = h
last_of true false r h = cc
last_of false q r h = cc

-- By the tests that choose a line of two bytes: the last of them is that the second byte is there.
pub size-at : (program : Program) (a : ℕ) → Sized program a
unfolding size_at pick
size-at program a = go (two_at program.bytes a (entry_at program a)) refl
  where
    go : (b : Bool) → two_at program.bytes a (entry_at program a) ≡ b → Sized program a
    go true h =
        let in-range : a + 1 < end_of program =
        ltb-true (a + 1) (end_of program)
        (last_of (eqb (entry_at program a).bytes 2) (ltb (a % 2048) 2047) (ltb (a + 1) (end_of program)) h)
        in
        record { some = rw h (lit≤ tt); few = rw h (lit≤ tt); there = λ l. rw h (omega arith) }
    go false h = record { some = rw h (lit≤ tt); few = rw h (lit≤ tt); there = λ l. rw h (omega arith) }

-- What `line` gives: a line of at most 32 bytes, which shows a byte or more of the program and none past its end.
pub record Given (bytes : List ℕ) (a n size : ℕ) : Type 0 where
  pub short : n ≤ 32
  pub some : 1 ≤ size
  pub there : a + size ≤ length bytes

-- The answer is the line only where no refusal comes first.
pub line-given :
    (program : Program) (a room n size : ℕ) → Bytes program.bytes → given (shown n size) ≡ listed_of program a room → Given program.bytes a n size
unfolding listed_of pick
line-given program a room n size small e = go (ltb 4096 (length program.bytes)) (ltb room 32) (lacks program.bytes a) refl e
  where
    go :
        (p q r : Bool) → lacks program.bytes a ≡ r
        → given (shown n size) ≡ pick p (refused 1) (pick q (refused 7) (pick r (refused 5) (given (shown (length (line_at program a)) (size_at program a)))))
        → Given program.bytes a n size
    go true q r l e = cc
    go false true r l e = cc
    go false false true l e = cc
    go false false false l e =
        let long : n ≡ length (line_at program a) = cc in
        let shows : size ≡ size_at program a = cc in
        let sized = size-at program a in
        rw (long, shows) (record { short = line-short program a (small a); some = sized.some; there = sized.there (leb-false _ _ l) })

-- Numbers that follow each other, in two parts.
listed-parts : (s m a : ℕ) → listed (λ k. k) s a ++ listed (λ k. k) m (a + s) ≡ listed (λ k. k) (s + m) a
listed-parts zero m a = rw (add-zero, zero-add)
listed-parts (suc s) m a =
    let from : a + suc s ≡ suc a + s = omega arith in
    let all : suc s + m ≡ suc (s + m) = omega arith in
    rw (from, all) (ap (λ (x : List ℕ). a ∷ x) (listed-parts s m (suc a)))

-- The lines from an address on show every address from there to the end once, in order.
shown-from :
    (n : ℕ) (program : Program) (a : ℕ) → a ≤ end_of program → end_of program ≤ a + n
    → shown_from n program a ≡ listed (λ k. k) (end_of program - a) a
unfolding shown_from pick
shown-from zero program a h l = let z : end_of program - a ≡ 0 = omega arith in rw z
shown-from (suc n) program a h l =
    let size = size-at program a in
    let some : 1 ≤ size_at program a = size.some in
    go (λ (t : a < end_of program). shown-from n program (a + size_at program a) (size.there t) (omega arith)) (lacks program.bytes a) refl
  where
    go :
        (a < end_of program → shown_from n program (a + size_at program a) ≡ listed (λ k. k) (end_of program - (a + size_at program a)) (a + size_at program a))
        → (b : Bool) → lacks program.bytes a ≡ b
        → pick b [] (listed (λ k. k) (size_at program a) a ++ shown_from n program (a + size_at program a)) ≡ listed (λ k. k) (end_of program - a) a
    go later true e =
        let past : end_of program ≤ a = leb-true _ _ e in
        let z : end_of program - a ≡ 0 = omega arith in
        rw z
    go later false e =
        let there : a < end_of program = leb-false _ _ e in
        let fits : a + size_at program a ≤ end_of program = (size-at program a).there there in
        let sum : size_at program a + (end_of program - (a + size_at program a)) ≡ end_of program - a = omega arith in
        ap (λ (x : List ℕ). listed (λ k. k) (size_at program a) a ++ x) (later there)
        ∙ listed-parts (size_at program a) (end_of program - (a + size_at program a)) a ∙ rw sum

-- The lines of a listing show every address of the program once, in order.
pub shown-all : (program : Program) → shown_from (end_of program) program 0 ≡ listed (λ k. k) (end_of program) 0
shown-all program = let z : end_of program - 0 ≡ end_of program = omega arith in rw z at (shown-from (end_of program) program 0 (omega arith) (omega arith))
