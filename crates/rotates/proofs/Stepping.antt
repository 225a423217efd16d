-- Document 02, item 6, of the chip: a step that comes to fetch and finds a rotate does what the string says of it, counts one cycle and leaves
-- all else; so by induction do the steps over a string.
-- Assumes nothing.
use Prim.Native.Nat.{ℕ, zero, suc, ◌+◌, ◌%◌, ◌<◌, ◌≤◌}
use mathlib.Core.Bool.{Bool, false, or-false}
use mathlib.Core.List.{List, [], ◌∷◌, map, append_assoc, append-nil}
use mathlib.Core.Logic.{◌⊎◌, inl, inr}
use mathlib.Core.Path.{◌≡◌, refl, sym, ap, ◌∙◌, subst}
use native.Mathlib.Nat.{add-zero, zero-add}
use native.Mathlib.Omega.{arith}
use lib.Dec.{ltb}
use lib.ListN.{length}
use borrow.Author.Tests.{le-ltb}
use Rattle.isa.specs.Choice.{pick}
use Rattle.isa.specs.Numbers.{given}
use Rattle.isa.specs.Reading.{sized, next_pc, lacks, byte_at, instruction_at}
use Rattle.isa.specs.Sheet.{kind_of, entry_of, instruction_of}
use Rattle.isa.specs.declared.Set.{Set}
use Rattle.isa.specs.declared.Set.TheVariants.{Intel}
use Rattle.isa.proofs.Sets.{shared}
use Rattle.machine.specs.Counting.{counted}
use Rattle.machine.specs.Pins.{t1_pin, is_high}
use Rattle.machine.specs.Rom.{Roms, seen_by}
use Rattle.machine.specs.State.{count_of, running_at}
use Rattle.machine.specs.declared.Count.{Count}
use Rattle.machine.specs.declared.Counting.TheVariants.{Stopped}
use Rattle.machine.specs.declared.Mode.{Mode}
use Rattle.machine.specs.declared.Mode.TheVariants.{Running}
use Rattle.machine.specs.declared.State.{State}
use Rattle.accumulator.specs.Rotates.{Rotate, Rl, Rlc, Rr, Rrc, Swap, Nop, code_of, turned, rotated, Law, Holds}
use Rattle.accumulator.proofs.Rotates.{one-each, cycles-bytes}
use Rattle.effects.specs.Effect.{Nothing, written}
use Rattle.effects.specs.Moves.{quiet}
use Rattle.effects.specs.declared.Event.TheVariants.{Quiet}
use Rattle.execute.specs.Execute.{executed}
use Rattle.chip.specs.History.{Steps, more}
use Rattle.chip.specs.Outside.{from_outside}
use Rattle.chip.specs.Refusals.{Fetches}
use Rattle.chip.specs.Run.{Progress, begun, gone}
use Rattle.chip.specs.Step.{Plan, accepted, done, carried, remembered, ticked, settled, plan_by, plan_of}
use Rattle.chip.proofs.Exactly.{comes-to}
use Rattle.chip.proofs.Fetches.{reads-one}
use Rattle.rotates.specs.Strings.{Fetching, none, step, samples_of, levels, SeenAt, mode_past, moved, counted_over, over, Replaced}

-- ---- one step
-- What the step over a rotate does: A and C as the string says, the next PC, the machine runs, and one cycle is counted. Its byte comes from
-- outside or not.
abbrev pub turned_step : ℕ → Rotate → State → ℕ → Plan
turned_step outside r s first =
    record {
      number = 0;
      state = moved (turned r s) (next_pc s.pc) Running (counted s.counting (count_of s) (is_high t1_pin first) s.interrupts.tcnti);
      event = Quiet;
      write = Nothing;
      cycles = 1;
      used = 1;
      outside = outside;
    }

-- Both sets have the same entry for its code. By the step's definitions the instruction that the sheet has there does what the string says, and
-- goes by A and C alone and changes nothing else.
pub record Meant (r : Rotate) : Type 0 where
  pub either : (set : Set) → entry_of set (code_of r) ≡ entry_of Intel (code_of r)
  pub does :
      (bytes ram : List ℕ) (s : State) (base first second : ℕ)
      → executed (instruction_of Intel (code_of r) 0) bytes ram s base first second ≡ quiet (turned r s)
  pub apart : (s : State) (pc : ℕ) (m : Mode) (c : Count) → turned r (moved s pc m c) ≡ moved (turned r s) pc m c
  pub counting : (s : State) → (turned r s).counting ≡ s.counting
  pub interrupts : (s : State) → (turned r s).interrupts ≡ s.interrupts

pub meant : (r : Rotate) → Meant r
unfolding executed entry_of kind_of pick
meant Rl =
    record { either = λ set. shared set 0xE7 refl; does = λ p m s b f g. refl; apart = λ s pc m c. refl; counting = λ s. refl; interrupts = λ s. refl }
meant Rlc =
    record { either = λ set. shared set 0xF7 refl; does = λ p m s b f g. refl; apart = λ s pc m c. refl; counting = λ s. refl; interrupts = λ s. refl }
meant Rr =
    record { either = λ set. shared set 0x77 refl; does = λ p m s b f g. refl; apart = λ s pc m c. refl; counting = λ s. refl; interrupts = λ s. refl }
meant Rrc =
    record { either = λ set. shared set 0x67 refl; does = λ p m s b f g. refl; apart = λ s pc m c. refl; counting = λ s. refl; interrupts = λ s. refl }
meant Swap =
    record { either = λ set. shared set 0x47 refl; does = λ p m s b f g. refl; apart = λ s pc m c. refl; counting = λ s. refl; interrupts = λ s. refl }
meant Nop =
    record { either = λ set. shared set 0x00 refl; does = λ p m s b f g. refl; apart = λ s pc m c. refl; counting = λ s. refl; interrupts = λ s. refl }

module _ (roms : Roms) (ram : List ℕ) (s : State) (first second : ℕ) (r : Rotate) (f : Fetches roms ram s first second)
    (l : lacks (seen_by roms first).bytes s.pc ≡ false) (e : byte_at (seen_by roms first).bytes s.pc ≡ code_of r) where
  reads : instruction_at (seen_by roms first) s.pc ≡ given (sized (instruction_of Intel (code_of r) 0) 1)
  reads = reads-one (seen_by roms first) s.pc (code_of r) _ l e (λ set. ((one-each set r).0, rw ((meant r).either set)))

  carries :
      carried (seen_by roms first) ram s first second
      ≡ done (executed (instruction_of Intel (code_of r) 0) (seen_by roms first).bytes ram (running_at s (next_pc s.pc)) s.pc first second) 1 s
  unfolding carried pick
  carries = rw (reads, e, (one-each roms.set r).1)

  pub step-over : plan_of roms ram s first second ≡ turned_step (from_outside roms first s) r s first
  unfolding plan_by done accepted settled ticked pick
  step-over =
      rw (comes-to roms ram s first second f, carries, (meant r).does, (meant r).apart s (next_pc s.pc) Running (count_of s), (meant r).counting s, (meant r).interrupts s)

-- ---- the steps over a string
rotated-apart : (rs : List Rotate) (s : State) (pc : ℕ) (m : Mode) (c : Count) → rotated rs (moved s pc m c) ≡ moved (rotated rs s) pc m c
rotated-apart [] s pc m c = refl
rotated-apart (r ∷ rs) s pc m c = ap (rotated rs) ((meant r).apart s pc m c) ∙ rotated-apart rs (turned r s) pc m c

past-running : (n : ℕ) → mode_past n Running ≡ Running
past-running zero = refl
past-running (suc n) = refl

one-more : (i n : ℕ) → i + 1 + n ≡ i + suc n
one-more i n = omega arith

over-none : (k : Progress) → k ≡ over [] k []
over-none k = simp (add-zero, append-nil)

over-more :
    (outside : ℕ) (r : Rotate) (rs : List Rotate) (k : Progress) (first : ℕ) (rest : List Bool)
    → over rs (gone k (turned_step outside r k.state first)) rest ≡ over (r ∷ rs) k (is_high t1_pin first ∷ rest)
unfolding written
over-more outside r rs k first rest =
    rw (rotated-apart rs (turned r k.state) (next_pc k.state.pc) Running (counted k.state.counting (count_of k.state) (is_high t1_pin first) k.state.interrupts.tcnti), (meant r).counting k.state, (meant r).interrupts k.state, past-running (length rs), one-more k.used (length rs), one-more k.cycles (length rs), append_assoc)

-- The steps over a string lead where `over` says: all of it.
pub string-steps :
    {roms : Roms} (rs : List Rotate) {k m : Progress} (g : Fetching roms k (length rs) m) → SeenAt roms k.state.pc (samples_of g) (map code_of rs)
    → m ≡ over rs k (levels g)
string-steps [] {k} none w = over-none k
string-steps {roms} (r ∷ rs) {k} (step first second f g) w =
    let one = step-over roms k.ram k.state first second r f w.0 w.1 in
    string-steps rs g (subst (λ (p : Plan). SeenAt roms p.state.pc (samples_of g) (map code_of rs)) (sym one) w.2)
    ∙ ap (λ (p : Plan). over rs (gone k p) (levels g)) one ∙ over-more (from_outside roms first k.state) r rs k first (levels g)

-- None of them is refused: they go on a history of accepted steps, so a run goes through them (chip's `over-through`).
pub string-accepted :
    {roms : Roms} {ram : List ℕ} {s : State} (rs : List Rotate) {k m : Progress} (g : Fetching roms k (length rs) m)
    → SeenAt roms k.state.pc (samples_of g) (map code_of rs) → Steps roms ram s k → Steps roms ram s m
string-accepted [] none w h = h
string-accepted {roms} (r ∷ rs) {k} (step first second f g) w h =
    let one = step-over roms k.ram k.state first second r f w.0 w.1 in
    string-accepted rs g (subst (λ (p : Plan). SeenAt roms p.state.pc (samples_of g) (map code_of rs)) (sym one) w.2)
    (more first second h (ap (λ (p : Plan). p.number) one))

-- ---- a counter that stands still
stands-one : (c : Count) (t1 enabled : Bool) → c.t < 256 → counted Stopped c t1 enabled ≡ remembered c t1
stands-one c t1 enabled l =
    let kept : (c.t + 0) % 256 ≡ c.t = omega arith in
    let low : ltb 255 (c.t + 0) ≡ false = le-ltb 255 (c.t + 0) (omega arith) in
    rw (kept, low, or-false c.tf, or-false c.request)

stands-over :
    (c : Count) (enabled : Bool) (t1 : List Bool) → c.t < 256
    → counted_over Stopped enabled c t1 ≡ remembered c (counted_over Stopped enabled c t1).last
stands-over c enabled [] l = refl
stands-over c enabled (t ∷ t1) l =
    subst (λ (d : Count). counted_over Stopped enabled d t1 ≡ remembered c (counted_over Stopped enabled d t1).last)
    (sym (stands-one c t enabled l)) (stands-over (remembered c t) enabled t1 l)

over-standing :
    (rs : List Rotate) (k m : Progress) (t1 : List Bool) → m ≡ over rs k t1 → k.state.counting ≡ Stopped → k.state.t < 256
    → count_of m.state ≡ remembered (count_of k.state) m.state.last
over-standing rs k m t1 e still l = rw (e, still) (stands-over (count_of k.state) k.state.interrupts.tcnti t1 l)

-- ---- one string instead of another
over-same :
    (string instead : List Rotate) (k : Progress) (t1 instead-t1 : List Bool) → rotated string k.state ≡ rotated instead k.state
    → length string ≡ length instead → t1 ≡ instead-t1 → over string k t1 ≡ over instead k instead-t1
over-same string instead k t1 instead-t1 e n t = rw (e, n, t)

same-mode : (i j : ℕ) (m : Mode) → (m ≡ Running) ⊎ ((1 ≤ i) × (1 ≤ j)) → mode_past i m ≡ mode_past j m
same-mode zero zero m h = refl
same-mode zero (suc j) m (inl e) = e
same-mode zero (suc j) m (inr h) = absurd (omega (arith, h.0))
same-mode (suc i) zero m (inl e) = sym e
same-mode (suc i) zero m (inr h) = absurd (omega (arith, h.1))
same-mode (suc i) (suc j) m h = refl

module _
    {l : Law} (holds : Holds l) {roms patched : Roms} {ram : List ℕ} {s : State} {x y : Progress} (a_byte : s.a < 256) (psw-byte : s.psw < 256)
    (g : Fetching roms (begun ram s) (length l.string) x) (h : Fetching patched (begun ram s) (length l.instead) y)
    (seen : SeenAt roms s.pc (samples_of g) (map code_of l.string)) (instead-seen : SeenAt patched s.pc (samples_of h) (map code_of l.instead)) where
  pub replaced : Replaced l ram s x y (levels g) (levels h)
  replaced =
      let p = string-steps l.string g seen in
      let q = string-steps l.instead h instead-seen in
      let e = holds.same s a_byte psw-byte in
      record {
        leaves = p;
        instead_leaves = q;
        a = rw (p, q, e);
        c = rw (p, q, e);
        cycles = rw (p, zero-add) (sym (cycles-bytes roms.set l.string) ∙ holds.cycles roms.set);
        instead_cycles = rw (q, zero-add) (sym (cycles-bytes patched.set l.instead) ∙ holds.instead_cycles patched.set);
        state = rw (p, q, e);
        mode = λ h. rw (p, q) (same-mode (length l.string) (length l.instead) s.mode h);
        memory = rw (p, q);
      }

  -- Where both have as many bytes, and T1 the same levels, nothing differs at all.
  pub replaced-exactly : length l.string ≡ length l.instead → levels g ≡ levels h → x ≡ y
  replaced-exactly n t =
      replaced.leaves ∙ over-same l.string l.instead (begun ram s) (levels g) (levels h) (holds.same s a_byte psw-byte) n t
      ∙ sym replaced.instead_leaves

  -- Where the counter stands still, nothing differs but PC, T1's level, and the mode as `mode` says.
  pub replaced-standing :
      s.counting ≡ Stopped → s.t < 256
      → y.state ≡ moved x.state y.state.pc y.state.mode (remembered (count_of x.state) y.state.last)
  replaced-standing still small =
      let p = over-standing l.string (begun ram s) x (levels g) replaced.leaves still small in
      let q = over-standing l.instead (begun ram s) y (levels h) replaced.instead_leaves still small in
      replaced.state ∙ ap (moved x.state y.state.pc y.state.mode) (q ∙ ap (λ (c : Count). remembered c y.state.last) (sym p))
