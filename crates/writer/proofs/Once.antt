-- Two answers of the writer that meet its statement are equal, since bytes can be taken back from the instruction and it has at most one
-- reason to be refused: 4 is given exactly when the set is without it, 23 exactly when the code can't hold an operand.
-- Assumes nothing.
use mathlib.Core.Path.{◌≡◌, refl, sym, ◌∙◌, ap}
use mathlib.Core.Bool.{true, false, true≢false}
use mathlib.Core.List.{List}
use Prim.Native.Nat.{ℕ}
use lib.ListN.{length}
use Rattle.std.specs.Prelude.{Result, Ok, Err}
use Rattle.isa.specs.Numbers.{Answer, given, refused}
use Rattle.isa.proofs.Once.{one-number}
use Rattle.isa.specs.declared.Instruction.{Instruction}
use Rattle.isa.specs.declared.Refusal.{Refusal}
use Rattle.isa.specs.declared.Set.{Set}
use Rattle.isa.specs.Reading.{under, Bytes}
use Rattle.writer.specs.Standing.{BytesIn}
use Rattle.isa.specs.Sets.{Without, standby, halt, stop}
use Rattle.writer.specs.Writing.{holds, Refuses, unknown, too_large, Writes, encoded_as}
use Rattle.writer.specs.declared.Encoded.{Encoded}
use Rattle.writer.specs.declared.Encoded.TheVariants.{One, Two}
use Rattle.writer.proofs.RoundTrips.{written-back, read-stands}

-- An instruction that the writer has bytes for, it has no reason to refuse.
bytes-held :
    (set : Set) (i : Instruction) (bytes : List ℕ) (n : ℕ) → Bytes bytes → Writes set i (given bytes) → Refuses set i n → ⊥
bytes-held set i bytes n small w = (read-stands (under set bytes) 0 i (length bytes) small w).1 n

-- And no instruction has both reasons.
without-holds : (set : Set) (i : Instruction) → Without set i → holds i ≡ true
without-holds set i (standby halt) = refl
without-holds set i (standby stop) = refl

one-reason : (set : Set) (i : Instruction) (m n : ℕ) → Refuses set i m → Refuses set i n → m ≡ n
one-reason set i m n (unknown w) (unknown v) = refl
one-reason set i m n (unknown w) (too_large h) = absurd (true≢false (sym (without-holds set i w) ∙ h))
one-reason set i m n (too_large h) (unknown w) = absurd (true≢false (sym (without-holds set i w) ∙ h))
one-reason set i m n (too_large h) (too_large g) = refl

pub answer-once :
    (set : Set) (i : Instruction) (a b : Answer (List ℕ)) → BytesIn a → BytesIn b → Writes set i a → Writes set i b → a ≡ b
answer-once set i (given v) (given w) sv sw p q = ap given (sym (written-back set i v sv p) ∙ written-back set i w sw q)
answer-once set i (given v) (refused n) sv sw p q = absurd (bytes-held set i v n sv p q)
answer-once set i (refused n) (given w) sv sw p q = absurd (bytes-held set i w n sw q p)
answer-once set i (refused m) (refused n) sv sw p q = ap refused (one-reason set i m n p q)

pub refused-4 : (set : Set) (i : Instruction) (a : Answer (List ℕ)) → BytesIn a → Writes set i a → Without set i → a ≡ refused 4
refused-4 set i a sa p without = answer-once set i a (refused 4) sa tt p (unknown without)

pub only-4 : (set : Set) (i : Instruction) → Writes set i (refused 4) → Without set i
only-4 set i (unknown without) = without

pub refused-23 : (set : Set) (i : Instruction) (a : Answer (List ℕ)) → BytesIn a → Writes set i a → holds i ≡ false → a ≡ refused 23
refused-23 set i a sa p out = answer-once set i a (refused 23) sa tt p (too_large out)

pub only-23 : (set : Set) (i : Instruction) → Writes set i (refused 23) → holds i ≡ false
only-23 set i (too_large out) = out

pub never-else : (set : Set) (i : Instruction) (n : ℕ) → Writes set i (refused n) → (Without set i → ⊥) → holds i ≡ true → ⊥
never-else set i n (unknown without) has held = has without
never-else set i n (too_large out) has held = true≢false (sym held ∙ out)

pub written-as-once : (r s : Result Encoded Refusal) → encoded_as r ≡ encoded_as s → r ≡ s
written-as-once (Ok (One b)) (Ok (One c)) e = cc
written-as-once (Ok (One b)) (Ok (Two c d)) e = cc
written-as-once (Ok (One b)) (Err r) e = cc
written-as-once (Ok (Two b d)) (Ok (One c)) e = cc
written-as-once (Ok (Two b d)) (Ok (Two c f)) e = cc
written-as-once (Ok (Two b d)) (Err r) e = cc
written-as-once (Err r) (Ok (One b)) e = cc
written-as-once (Err r) (Ok (Two b d)) e = cc
written-as-once (Err r) (Err s) e = ap Err (one-number r s (cc))

pub write-once :
    (set : Set) (i : Instruction) (r s : Result Encoded Refusal) → BytesIn (encoded_as r) → BytesIn (encoded_as s)
    → Writes set i (encoded_as r) → Writes set i (encoded_as s) → r ≡ s
write-once set i r s br bs p q = written-as-once r s (answer-once set i (encoded_as r) (encoded_as s) br bs p q)
