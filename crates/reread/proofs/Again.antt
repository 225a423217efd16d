-- An instruction that is read at an address and written again in the same set: its bytes are those that stand there, by `read-write` of
-- crate writer.
-- Assumes nothing.
use mathlib.Core.Path.{◌≡◌, sym}
use mathlib.Core.List.{List, [], ◌∷◌}
use Prim.Native.Nat.{ℕ, zero, suc, ◌<◌}
use native.Mathlib.Omega.{arith}
use Rattle.isa.specs.Choice.{pick}
use Rattle.isa.specs.Numbers.{Answer, given, refused}
use Rattle.isa.specs.Reading.{under, sized, read_of, Bytes}
use Rattle.isa.specs.declared.Decoded.{Decoded}
use Rattle.isa.specs.declared.Set.{Set}
use Rattle.writer.specs.Standing.{BytesIn, Stands}
use Rattle.writer.specs.Writing.{Writes}
use Rattle.writer.proofs.RoundTrips.{read-write}
use Rattle.mcs48_c.specs.Packed.{packed, packed_read}

one_byte : {b : ℕ} → b < 256 → Bytes (b ∷ [])
one_byte h zero = h
one_byte h (suc k) = omega arith

two_bytes : {b d : ℕ} → b < 256 → d < 256 → Bytes (b ∷ d ∷ [])
two_bytes h k zero = h
two_bytes h k (suc zero) = k
two_bytes h k (suc (suc j)) = omega arith

module _ (set : Set) (bytes : List ℕ) (a : ℕ) (d : Decoded) (small : Bytes bytes)
    (read : given (sized d.instruction d.bytes) ≡ read_of (under set bytes) a) where
  stands : (answer : Answer (List ℕ)) → BytesIn answer → Writes set d.instruction answer → Stands bytes a d.bytes answer
  stands answer b writes = read-write (under set bytes) a d.instruction d.bytes answer small b (sym read) writes

  pub one-again :
      {b : ℕ} → b < 256 → Writes set d.instruction (given (b ∷ [])) → packed 0 d.bytes b 0 0 ≡ packed_read bytes a (read_of (under set bytes) a)
  unfolding pick
  one-again {b} h w =
      let s = stands (given (b ∷ [])) (one_byte h) w in
      rw (← read, ← s.0, s.1.1)

  pub two-again :
      {b c : ℕ} → b < 256 → c < 256 → Writes set d.instruction (given (b ∷ c ∷ []))
      → packed 0 d.bytes b c 0 ≡ packed_read bytes a (read_of (under set bytes) a)
  unfolding pick
  two-again {b} {c} h k w =
      let s = stands (given (b ∷ c ∷ [])) (two_bytes h k) w in
      rw (← read, ← s.0, s.1.1, s.1.2.1)

  -- The writer never refuses what was read.
  pub not-refused : {A : Type 0} {n : ℕ} → Writes set d.instruction (refused n) → A
  not-refused {n = n} w = absurd (stands (refused n) tt w)
