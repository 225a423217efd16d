-- What a second program changes (document 02, item 7): nothing where the bytes are in the chip and EA is low; and with EA high it is all that
-- counts.
-- Assumes nothing.
use Prim.Native.Nat.{ℕ, ◌≤◌, ◌<◌}
use mathlib.Core.Bool.{Bool, true, false}
use mathlib.Core.List.{List, [], ◌∷◌}
use mathlib.Core.Path.{◌≡◌, refl, sym, ap, ◌∙◌}
use native.Mathlib.Omega.{arith}
use lib.Dec.{eqb, leb, ltb}
use lib.ListN.{length, get_or-eq_default}
use borrow.Author.Tests.{eqb-false, ltb-true, ltb-false, leb-true, lt-leb}
use Rattle.isa.specs.Choice.{pick}
use Rattle.isa.specs.Numbers.{Answer, given, refused}
use Rattle.isa.specs.Reading.{Program, under, Sized, sized, next_pc, lacks, byte_at, entry_at, instruction_at, decoded_at}
use Rattle.isa.specs.Sheet.{rows, undefined_row, row_of, kind_of, entry_of, instruction_of}
use Rattle.isa.specs.declared.Instruction.{Instruction}
use Rattle.isa.specs.declared.Set.{Set}
use Rattle.isa.proofs.Everywhere.{everywhere}
use Rattle.machine.specs.Pins.{ea_pin, is_high}
use Rattle.machine.specs.Rom.{Roms, both, alone, visible, seen_by}
use Rattle.machine.specs.State.{running_at}
use Rattle.machine.specs.declared.State.{State}
use Rattle.machine.proofs.Seeing.{inside-lacks, inside-byte}
use Rattle.chip.specs.Admission.{program_allowed, outside_allowed, lent_number, lent_of, admission}
use Rattle.chip.specs.Outside.{bytes_taken, outside_among, from_outside}
use Rattle.chip.specs.Refusals.{TableByte, StaysInside}
use Rattle.chip.specs.Run.{begun, run_over, run_of, EachStep}
use Rattle.chip.specs.Step.{Course, pc_after, carried_by, carried, course_by, course, plan_by, plan_of}
use Rattle.chip.specs.declared.Turn.TheVariants.{CarryOut}
use Rattle.demands.proofs.Each.{each-step, run-same}
use Rattle.demands.proofs.Tables.{Same, by-table}

-- ---- the first program alone
row-bytes : (k : ℕ) → (row_of k).bytes ≤ 2
row-bytes k = go (ltb k 99) refl
  where
    go : (p : Bool) → ltb k 99 ≡ p → (row_of k).bytes ≤ 2
    go true h = leb-true _ _ (everywhere (λ k. leb (row_of k).bytes 2) (λ k. true) 99 refl k (ltb-true k 99 h))
    go false h = rw (get_or-eq_default (undefined_row ∷ rows) undefined_row (ltb-false k 99 h)) (omega arith)

two-at-most : (set : Set) (b : ℕ) → (entry_of set b).bytes ≤ 2
unfolding entry_of
two-at-most set b = row-bytes (kind_of set b)

-- Where two programs have the same first byte, and the same second byte if there is one, the same instruction stands.
same-reading :
    (set : Set) (p q : List ℕ) (a : ℕ) → Same p q a → ((entry_of set (byte_at q a)).bytes ≡ 2 → Same p q (next_pc a))
    → instruction_at (under set p) a ≡ instruction_at (under set q) a
unfolding instruction_at decoded_at pick
same-reading set p q a here next = rw (here.lacking, here.byte) (go (eqb size 0) (eqb size 1) refl refl)
  where
    b : ℕ
    b = byte_at q a

    size : ℕ
    size = (entry_of set (byte_at q a)).bytes

    behind : eqb size 0 ≡ false → eqb size 1 ≡ false → Same p q (next_pc a)
    behind x y =
        let none : size ≡ 0 → ⊥ = eqb-false _ _ x in
        let one : size ≡ 1 → ⊥ = eqb-false _ _ y in
        let few : size ≤ 2 = two-at-most set (byte_at q a) in
        let two : size ≡ 2 = omega arith in
        next two

    read : List ℕ → Bool → Bool → Answer Sized
    read r x y =
        pick (lacks q a) (refused 5)
        (pick x (refused 4)
        (pick y (given (sized (instruction_of set (byte_at q a) 0) 1))
        (pick (lacks r (next_pc a)) (refused 5) (given (sized (instruction_of set (byte_at q a) (byte_at r (next_pc a))) 2)))))

    go : (x y : Bool) → eqb size 0 ≡ x → eqb size 1 ≡ y → read p x y ≡ read q x y
    go true y h k = refl
    go false true h k = refl
    go false false h k = let w = behind h k in rw (w.lacking, w.byte)

-- Two programs between which a step can't tell: the same instruction stands at PC in both, and the same table byte, if it has one.
record Alike (p q : Program) (s : State) : Type 0 where
  reading : instruction_at p s.pc ≡ instruction_at q s.pc
  entry : entry_at p s.pc ≡ entry_at q s.pc
  table : (i : Instruction) (n at : ℕ) → instruction_at q s.pc ≡ given (sized i n) → TableByte s.pc s.a i at → Same p.bytes q.bytes at

alike-carried : (p q : Program) (ram : List ℕ) (s : State) (first second : ℕ) → Alike p q s → carried p ram s first second ≡ carried q ram s first second
unfolding carried
alike-carried p q ram s first second w = rw w.reading (go (instruction_at q s.pc) refl)
  where
    go : (a : Answer Sized) → instruction_at q s.pc ≡ a → carried_by a p ram s first second ≡ carried_by a q ram s first second
    go (refused n) h = refl
    go (given (sized i n)) h =
        rw (w.entry, by-table p.bytes q.bytes ram (running_at s (pc_after n s.pc)) s.pc first second i (λ at t. w.table i n at h t))

module _ (roms : Roms) (s : State) (first : ℕ) (w : StaysInside roms s first) where
  there : (a : ℕ) → a < length roms.inside → Same (seen_by roms first).bytes roms.inside a
  there a l =
      record {
        lacking = inside-lacks roms.inside roms.outside (is_high ea_pin first) a w.ea_low l ∙ sym (lt-leb _ _ l);
        byte = inside-byte roms.inside roms.outside (is_high ea_pin first) a w.ea_low l;
      }

  -- What the step carries out is what the reader's definition reads there.
  pub reads-inside : instruction_at (seen_by roms first) s.pc ≡ instruction_at (under roms.set roms.inside) s.pc
  reads-inside =
      same-reading roms.set _ roms.inside s.pc (there s.pc w.first_byte) (λ e. there (next_pc s.pc) (w.second_byte e))

  alike-inside : Alike (seen_by roms first) (under roms.set roms.inside) s
  alike-inside =
      record {
        reading = reads-inside;
        entry = ap (λ (b : ℕ). entry_of roms.set b) (there s.pc w.first_byte).byte;
        table = λ i n at h t. there at (w.table_byte i n at h t);
      }

-- ---- one step
module _ (r q : Roms) (ram : List ℕ) (s : State) (first second : ℕ) where
  plan-same :
      lent_of r ram s ≡ lent_of q ram s → course_by CarryOut r ram s first second ≡ course_by CarryOut q ram s first second
      → plan_of r ram s first second ≡ plan_of q ram s first second
  plan-same lent carries = ap (λ (c : Course). plan_by c s first second) course-same
    where
      course-same : course r ram s first second ≡ course q ram s first second
      course-same = unfold course admission in rw (lent, carries)

  instruction-same :
      from_outside r first s ≡ from_outside q first s → carried (seen_by r first) ram s first second ≡ carried (seen_by q first) ram s first second
      → course_by CarryOut r ram s first second ≡ course_by CarryOut q ram s first second
  instruction-same o c = rw (o, c)

-- A step whose bytes are all in the chip is the same with a second program as without one.
pub inside-step :
    (roms : Roms) (ram : List ℕ) (s : State) (first second : ℕ) → outside_allowed (length roms.outside) ≡ true → StaysInside roms s first
    → plan_of roms ram s first second ≡ plan_of (alone roms.set roms.inside) ram s first second
inside-step roms ram s first second allowed w =
    plan-same roms none ram s first second (unfold lent_number pick in rw allowed)
    (instruction-same roms none ram s first second from (carried-alike roms w ∙ sym (carried-alike none alone-stays)))
  where
    none : Roms
    none = alone roms.set roms.inside

    alone-stays : StaysInside none s first
    alone-stays = record { ea_low = w.ea_low; first_byte = w.first_byte; second_byte = w.second_byte; table_byte = w.table_byte }

    carried-alike : (r : Roms) → StaysInside r s first → carried (seen_by r first) ram s first second ≡ carried (under r.set r.inside) ram s first second
    carried-alike r v = alike-carried (seen_by r first) (under r.set r.inside) ram s first second (alike-inside r s first v)

    byte : byte_at (seen_by roms first).bytes s.pc ≡ byte_at (seen_by none first).bytes s.pc
    byte = (there roms s first w s.pc w.first_byte).byte ∙ sym (there none s first alone-stays s.pc w.first_byte).byte

    from : from_outside roms first s ≡ from_outside none first s
    from = unfold from_outside in rw byte

high-count : (i j xs : List ℕ) → outside_among i true xs ≡ outside_among j true xs
unfolding pick
high-count i j [] = refl
high-count i j (x ∷ xs) = rw (high-count i j xs)

-- With EA high the first program's bytes don't matter, and it may be any that is allowed.
pub outside-step :
    (set : Set) (i j outside ram : List ℕ) (s : State) (first second : ℕ) → program_allowed (length i) ≡ true → program_allowed (length j) ≡ true
    → is_high ea_pin first ≡ true → plan_of (both set i outside) ram s first second ≡ plan_of (both set j outside) ram s first second
outside-step set i j outside ram s first second p q high =
    plan-same (both set i outside) (both set j outside) ram s first second (unfold lent_number pick in rw (p, q))
    (instruction-same (both set i outside) (both set j outside) ram s first second from carries)
  where
    sees : (k : List ℕ) → seen_by (both set k outside) first ≡ under set outside
    sees k = unfold visible pick in rw high refl

    counts : (k : List ℕ) → from_outside (both set k outside) first s ≡ outside_among k true (bytes_taken (under set outside) s.pc s.a)
    counts k =
        unfold from_outside in
        ap (λ (p : Program). outside_among k (is_high ea_pin first) (bytes_taken p s.pc s.a)) (sees k)
        ∙ ap (λ (ea : Bool). outside_among k ea (bytes_taken (under set outside) s.pc s.a)) high

    from : from_outside (both set i outside) first s ≡ from_outside (both set j outside) first s
    from = counts i ∙ high-count i j (bytes_taken (under set outside) s.pc s.a) ∙ sym (counts j)

    carries : carried (seen_by (both set i outside) first) ram s first second ≡ carried (seen_by (both set j outside) first) ram s first second
    carries = unfold visible pick in rw high

-- ---- a run
run-of-same : (r q : Roms) (ram : List ℕ) (s : State) (samples : List ℕ) → lent_of r ram s ≡ lent_of q ram s → run_over r samples (begun ram s) ≡ run_over q samples (begun ram s) → run_of r ram s samples ≡ run_of q ram s samples
unfolding run_of
run-of-same r q ram s samples lent over = rw (lent, over)

-- With EA low, a program that never leaves the chip's own memory runs the same whatever second program is lent, or none.
pub never-leaves :
    (roms : Roms) (ram : List ℕ) (s : State) (samples : List ℕ) → outside_allowed (length roms.outside) ≡ true
    → EachStep (λ m t x y. StaysInside roms t x) roms samples (begun ram s) → run_of roms ram s samples ≡ run_of (alone roms.set roms.inside) ram s samples
never-leaves roms ram s samples allowed w =
    run-of-same roms none ram s samples (unfold lent_number pick in rw allowed)
    (run-same roms (plan_of none) samples (begun ram s) (each-step roms (λ m t x y v. inside-step roms m t x y allowed v) samples (begun ram s) w))
  where
    none : Roms
    none = alone roms.set roms.inside

-- With EA high at every step, as for a part without memory of its own, the first program's bytes don't matter.
pub first-unseen :
    (set : Set) (i j outside ram : List ℕ) (s : State) (samples : List ℕ) → program_allowed (length i) ≡ true → program_allowed (length j) ≡ true
    → EachStep (λ m t x y. is_high ea_pin x ≡ true) (both set i outside) samples (begun ram s)
    → run_of (both set i outside) ram s samples ≡ run_of (both set j outside) ram s samples
first-unseen set i j outside ram s samples p q w =
    run-of-same (both set i outside) (both set j outside) ram s samples (unfold lent_number pick in rw (p, q))
    (run-same (both set i outside) (plan_of (both set j outside)) samples (begun ram s)
    (each-step (both set i outside) (λ m t x y v. outside-step set i j outside m t x y p q v) samples (begun ram s) w))
