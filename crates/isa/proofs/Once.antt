-- Two answers that meet one statement are equal, for each public routine. `next_pc`, `u8::from` and `made` state their result by an equation,
-- r ≡ x, so that two are equal by `once`. `entry_of` states the entry of its answer, and that one that it gives has a length; `read` states
-- the number and the values of its answer: from these the answer follows.
-- Assumes nothing.
use mathlib.Core.Path.{◌≡◌, refl, sym, ◌∙◌, ap}
use Prim.Native.Nat.{ℕ, ◌<◌}
use native.Mathlib.Omega.{arith}
use lib.Dec.{eqb}
use Rattle.std.specs.Prelude.{Option, Some, None, IfSome, Result, Ok, Err}
use Rattle.isa.specs.Choice.{pick}
use Rattle.isa.specs.Numbers.{number_of}
use Rattle.isa.specs.Reading.{Program, read_of, read_as}
use Rattle.isa.specs.Table.{entry_as}
use Rattle.isa.specs.declared.table.Entry.{Entry}
use Rattle.isa.specs.declared.Instruction.{Instruction}
use Rattle.isa.specs.declared.Refusal.{Refusal}
use Rattle.isa.specs.declared.Refusal.TheVariants.{ProgramLength, RamLength, StateOutside, UndefinedCode, PastEnd, SampleBits, LineTooShort, OperandTooLarge, SetUnknown}
use Rattle.isa.specs.declared.Decoded.{Decoded}

pub once : {A : Type 0} {x r s : A} → r ≡ x → s ≡ x → r ≡ s
once p q = p ∙ sym q

pub entry-once :
    (x : Entry) (r s : Option Entry) → entry_as r ≡ x → IfSome r (λ e. 0 < e.bytes) → entry_as s ≡ x → IfSome s (λ e. 0 < e.bytes) → r ≡ s
entry-once x (Some e) (Some f) p d q g = ap Some (once p q)
entry-once x (Some e) None p d q g =
    let none : e.bytes ≡ 0 = ap (λ (e : Entry). e.bytes) (once p q) in
    absurd (omega arith)
entry-once x None (Some f) p d q g =
    let none : f.bytes ≡ 0 = ap (λ (e : Entry). e.bytes) (once q p) in
    absurd (omega arith)
entry-once x None None p d q g = refl

-- The refusal that has a number.
named : ℕ → Refusal
named n =
    pick (eqb n 1) ProgramLength
    (pick (eqb n 2) RamLength
    (pick (eqb n 3) StateOutside
    (pick (eqb n 4) UndefinedCode
    (pick (eqb n 5) PastEnd
    (pick (eqb n 6) SampleBits
    (pick (eqb n 7) LineTooShort
    (pick (eqb n 23) OperandTooLarge SetUnknown)))))))

named-number : (r : Refusal) → named (number_of r) ≡ r
unfolding named pick
named-number ProgramLength = refl
named-number RamLength = refl
named-number StateOutside = refl
named-number UndefinedCode = refl
named-number PastEnd = refl
named-number SampleBits = refl
named-number LineTooShort = refl
named-number OperandTooLarge = refl
named-number SetUnknown = refl

-- No two refusals have one number.
pub one-number : (r s : Refusal) → number_of r ≡ number_of s → r ≡ s
one-number r s e = sym (named-number r) ∙ ap named e ∙ named-number s

same-decoded : (i j : Decoded) → i.instruction ≡ j.instruction → i.bytes ≡ j.bytes → i ≡ j
same-decoded i j p q = ap (λ (x : Instruction). record i { instruction = x }) p ∙ ap (λ (n : ℕ). record j { bytes = n }) q

pub read-as-once : (r s : Result Decoded Refusal) → read_as r ≡ read_as s → r ≡ s
read-as-once (Ok i) (Ok j) e =
    let p : i.instruction ≡ j.instruction = cc in
    let q : i.bytes ≡ j.bytes = cc in
    ap Ok (same-decoded i j p q)
read-as-once (Ok i) (Err r) e = cc
read-as-once (Err r) (Ok j) e = cc
read-as-once (Err r) (Err s) e = let n : number_of r ≡ number_of s = cc in ap Err (one-number r s n)

pub read-once :
    (program : Program) (a : ℕ) (r s : Result Decoded Refusal) → read_as r ≡ read_of program a → read_as s ≡ read_of program a → r ≡ s
read-once program a r s p q = read-as-once r s (once p q)
