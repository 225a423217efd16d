-- Document 02, item 6: the laws of the rotates, of A and C.
-- Assumes nothing.
use Prim.Native.Nat.{ℕ, zero, suc, ◌+◌, ◌-◌, ◌*◌, ◌/◌, ◌%◌, ◌≤◌, ◌<◌}
use mathlib.Core.List.{List, [], ◌∷◌, ◌++◌, map}
use mathlib.Core.Path.{◌≡◌, refl, sym, ap, ◌∙◌}
use native.Mathlib.Omega.{arith}
use lib.ListN.{length, replicate, length-append, length-replicate}
use Rattle.isa.specs.Choice.{pick, listed}
use Rattle.isa.specs.Sheet.{entry_of, kind_of}
use Rattle.isa.specs.declared.Set.{Set}
use Rattle.isa.specs.declared.Set.TheVariants.{Intel}
use Rattle.isa.proofs.Everywhere.{everywhere}
use Rattle.isa.proofs.Sets.{shared}
use Rattle.machine.specs.Psw.{bit_c, with_c}
use Rattle.machine.specs.State.{power_up, with_core}
use Rattle.machine.specs.declared.State.{State}
use Rattle.accumulator.specs.Accumulator.{with_ac}
use Rattle.accumulator.specs.Rotates.{Rotate, Rl, Rlc, Rr, Rrc, Swap, Nop, code_of, Example, example, examples, turned, rotated, cycles_of, Law, laws, fill, Same, Holds, AllHold}

-- ---- what the sheet says
-- Each has one byte and takes one cycle; so a string takes as many cycles as it has bytes.
-- It is enough to look at Intel's set: NEC's has what Intel's has.
by-intel :
    (set : Set) (b : ℕ) → ((entry_of Intel b).bytes ≡ 1) × ((entry_of Intel b).cycles ≡ 1) → ((entry_of set b).bytes ≡ 1) × ((entry_of set b).cycles ≡ 1)
by-intel set b h = rw (shared set b (rw h.0)) h

pub one-each : (set : Set) (r : Rotate) → ((entry_of set (code_of r)).bytes ≡ 1) × ((entry_of set (code_of r)).cycles ≡ 1)
unfolding entry_of kind_of pick
one-each set Rl = by-intel set 0xE7 (refl, refl)
one-each set Rlc = by-intel set 0xF7 (refl, refl)
one-each set Rr = by-intel set 0x77 (refl, refl)
one-each set Rrc = by-intel set 0x67 (refl, refl)
one-each set Swap = by-intel set 0x47 (refl, refl)
one-each set Nop = by-intel set 0x00 (refl, refl)

pub cycles-bytes : (set : Set) (rs : List Rotate) → cycles_of set rs ≡ length rs
cycles-bytes set [] = refl
cycles-bytes set (r ∷ rs) = rw ((one-each set r).1, cycles-bytes set rs) (omega arith)

-- ---- which way each turns
-- The state after power-up with other A and C.
abbrev pub plain : ℕ → ℕ → State
plain a c = with_ac power_up a c

-- An example by the definitions.
abbrev seen : Example → Example
seen x =
    example x.rotate x.a x.c (turned x.rotate (plain x.a x.c)).a (bit_c (turned x.rotate (plain x.a x.c)).psw)

pub examples-seen : map seen examples ≡ examples
examples-seen = refl

-- ---- a string goes by A and C, and changes A and C
c-of : (psw c : ℕ) → bit_c (with_c psw c) ≡ c
c-of psw c = omega arith

c-again : (psw c d : ℕ) → with_c (with_c psw c) d ≡ with_c psw d
c-again psw c d = ap (λ (p : ℕ). p + d * 128) (omega arith)

turned-plain :
    (r : Rotate) (s : State) (a c : ℕ)
    → turned r (with_ac s a c) ≡ with_ac s (turned r (plain a c)).a (bit_c (turned r (plain a c)).psw)
turned-plain Rl s a c = simp c-of
turned-plain Rlc s a c = simp (c-of, c-again)
turned-plain Rr s a c = simp c-of
turned-plain Rrc s a c = simp (c-of, c-again)
turned-plain Swap s a c = simp c-of
turned-plain Nop s a c = simp c-of

rotated-plain :
    (rs : List Rotate) (s : State) (a c : ℕ)
    → rotated rs (with_ac s a c) ≡ with_ac s (rotated rs (plain a c)).a (bit_c (rotated rs (plain a c)).psw)
rotated-plain [] s a c = simp c-of
rotated-plain (r ∷ rs) s a c =
    ap (rotated rs) (turned-plain r s a c) ∙ rotated-plain rs s (turned r (plain a c)).a (bit_c (turned r (plain a c)).psw)
    ∙ ap (λ t. with_ac s (rotated rs t).a (bit_c (rotated rs t).psw)) (sym (turned-plain r power_up a c))

plain-decides :
    (string instead : List Rotate) (s : State) (a c : ℕ) → rotated string (plain a c) ≡ rotated instead (plain a c)
    → rotated string (with_ac s a c) ≡ rotated instead (with_ac s a c)
plain-decides string instead s a c e =
    rotated-plain string s a c ∙ ap (λ t. with_ac s t.a (bit_c t.psw)) e ∙ sym (rotated-plain instead s a c)

-- ---- so the 512 values of A and C, by computation, are all
abbrev left : List Rotate → ℕ → State
left rs k = rotated rs (plain (k % 256) (k / 256))

all-values :
    (string instead : List Rotate) → listed (left string) 512 0 ≡ listed (left instead) 512 0 → (a c : ℕ) → a < 256 → c < 2
    → rotated string (plain a c) ≡ rotated instead (plain a c)
all-values string instead e a c l m =
    let p : (a + c * 256) % 256 ≡ a = omega arith in
    let q : (a + c * 256) / 256 ≡ c = omega arith in
    rw (p, q) at (everywhere (left string) (left instead) 512 e (a + c * 256) (omega arith))

pub same-by-values : (string instead : List Rotate) → listed (left string) 512 0 ≡ listed (left instead) 512 0 → Same string instead
same-by-values string instead e s l m =
    let whole : with_ac s s.a (bit_c s.psw) ≡ s = ap (λ (psw : ℕ). with_core s s.a s.pc psw) (omega arith) in
    rw whole at
    (plain-decides string instead s s.a (bit_c s.psw) (all-values string instead e s.a (bit_c s.psw) l (omega arith)))

-- ---- the laws
-- What is computed of a law, and what it is to be.
record Facts : Type 0 where
  states : List State
  cycles : ℕ
  instead_cycles : ℕ

abbrev found : Law → Facts
found l =
    record { states = listed (left l.string) 512 0; cycles = length l.string; instead_cycles = length l.instead }

abbrev told : Law → Facts
told l = record { states = listed (left l.instead) 512 0; cycles = l.cycles; instead_cycles = l.instead_cycles }

holds : (l : Law) → found l ≡ told l → Holds l
holds l e =
    record {
      same = same-by-values l.string l.instead (ap (λ (f : Facts). f.states) e);
      cycles = λ set. cycles-bytes set l.string ∙ ap (λ (f : Facts). f.cycles) e;
      instead_cycles = λ set. cycles-bytes set l.instead ∙ ap (λ (f : Facts). f.instead_cycles) e;
    }

all-hold : (ls : List Law) → map found ls ≡ map told ls → AllHold ls
all-hold [] e = tt
all-hold (l ∷ ls) e = (holds l (cc), all-hold ls (cc))

pub laws-hold : AllHold laws
unfolding pick
laws-hold = all-hold laws refl

-- ---- filled up with NOP
pub rotated-append : (xs ys : List Rotate) (s : State) → rotated (xs ++ ys) s ≡ rotated ys (rotated xs s)
rotated-append [] ys s = refl
rotated-append (x ∷ xs) ys s = rotated-append xs ys (turned x s)

nops-nothing : (n : ℕ) (s : State) → rotated (replicate n Nop) s ≡ s
nops-nothing zero s = refl
nops-nothing (suc n) s = nops-nothing n s

-- A law that is filled has as many bytes on either side,
pub filled-length : (l : Law) → length l.instead ≤ length l.string → length (fill l).string ≡ length (fill l).instead
filled-length l le = rw (length-append, length-replicate) (omega arith)

-- and holds if the law does.
pub filled-holds : (l : Law) → Holds l → length l.instead ≤ length l.string → Holds (fill l)
filled-holds l h le =
    record {
      same = λ s a psw.
          h.same s a psw ∙ sym (nops-nothing (length l.string - length l.instead) (rotated l.instead s))
          ∙ sym (rotated-append l.instead (replicate (length l.string - length l.instead) Nop) s);
      cycles = h.cycles;
      instead_cycles =
          λ set. cycles-bytes set (fill l).instead ∙ sym (filled-length l le) ∙ sym (cycles-bytes set l.string) ∙ h.cycles set;
    }
