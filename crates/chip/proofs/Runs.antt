-- Laws of the run, where i samples are used.
-- Assumes nothing.
use Prim.Native.Nat.{ℕ, suc, ◌+◌, ◌≤◌, ◌<◌}
use mathlib.Core.Bool.{Bool, true, false}
use mathlib.Core.List.{List, [], ◌∷◌, ◌++◌}
use mathlib.Core.Path.{◌≡◌, refl, sym, ap, ◌∙◌}
use native.Mathlib.Numerals.{add-one}
use native.Mathlib.Omega.{arith}
use lib.Dec.{eqb}
use lib.ListN.{length, get_or, drop, length-drop}
use lib.Seq.{drop-cons}
use borrow.Author.Tests.{eqb-true, eqb-false, eq-eqb, ne_eqb}
use Rattle.isa.specs.Choice.{pick}
use Rattle.machine.specs.Rom.{Roms}
use Rattle.machine.specs.declared.State.{State}
use Rattle.effects.specs.Effect.{written}
use Rattle.chip.specs.Admission.{lent_of}
use Rattle.chip.specs.Run.{Progress, Ended, begun, gone, turned, ended, first_shown, first_accepted, unshown, run_by, run_over}
use Rattle.chip.specs.Step.{Plan, plan_of, moved_of, report_of, step_of, ram_after, Moved}
use Rattle.chip.specs.declared.Report.{Report}
use Rattle.chip.proofs.Cycles.{one-or-two, cycles-used}
use Rattle.chip.proofs.Exactly.{refused-unchanged, lent-refuses}
use Rattle.chip.proofs.Lasting.{Busy, plan-busy}

short : (roms : Roms) (xs : List ℕ) (m : Progress) → length xs ≤ 1 → run_over roms xs m ≡ ended m 0
unfolding run_by
short roms [] m h = refl
short roms (x ∷ []) m h = refl
short roms (x ∷ (y ∷ zs)) m h = absurd (omega arith)

module _ (roms : Roms) (samples : List ℕ) (i : ℕ) (m : Progress) where
  -- The step that comes next.
  abbrev pub next : Plan
  next = plan_of roms m.ram m.state (get_or samples i 0) (get_or samples (i + 1) 0)

  pub run-short : length samples ≤ i + 1 → run_over roms (drop i samples) m ≡ ended m 0
  run-short h = short roms (drop i samples) m (rw length-drop (omega arith))

  one-left : suc i < length samples → drop (suc i) samples ≡ get_or samples (i + 1) 0 ∷ drop (suc (suc i)) samples
  one-left h = rw add-one (drop-cons samples (suc i) 0 h)

  two-left : i + 1 < length samples → drop i samples ≡ get_or samples i 0 ∷ (get_or samples (i + 1) 0 ∷ drop (suc (suc i)) samples)
  two-left h =
      let p : suc i < length samples = omega arith in
      let q : i < length samples = omega arith in
      drop-cons samples i 0 q ∙ ap (λ l. get_or samples i 0 ∷ l) (one-left p)

  pub run-refused : i + 1 < length samples → (next.number ≡ 0 → ⊥) → run_over roms (drop i samples) m ≡ ended m next.number
  unfolding run_by pick
  run-refused h n = rw (two-left h, ne_eqb _ _ n)

  goes-one :
      i + 1 < length samples → next.number ≡ 0 → next.used ≡ 1
      → run_over roms (drop i samples) m ≡ run_over roms (get_or samples (i + 1) 0 ∷ drop (suc (suc i)) samples) (gone m next)
  unfolding run_by pick
  goes-one h n e = rw (two-left h, eq-eqb _ _ n, eq-eqb _ _ e)

  goes-two :
      i + 1 < length samples → next.number ≡ 0 → (next.used ≡ 1 → ⊥)
      → run_over roms (drop i samples) m ≡ run_over roms (drop (suc (suc i)) samples) (gone m next)
  unfolding run_by pick
  goes-two h n e = rw (two-left h, eq-eqb _ _ n, ne_eqb _ _ e)

  busy : Busy next
  busy = plan-busy roms m.ram m.state (get_or samples i 0) (get_or samples (i + 1) 0)

  pub run-step :
      i + 1 < length samples → next.number ≡ 0
      → run_over roms (drop i samples) m ≡ run_over roms (drop (i + next.used) samples) (gone m next)
  run-step h n = go (eqb next.used 1) refl
    where
      go : (b : Bool) → eqb next.used 1 ≡ b → run_over roms (drop i samples) m ≡ run_over roms (drop (i + next.used) samples) (gone m next)
      go true t =
          let e : next.used ≡ 1 = eqb-true _ _ t in
          let j : suc i ≡ i + next.used = omega arith in
          goes-one h n e ∙ ap (λ l. run_over roms l (gone m next)) (sym (one-left (omega arith)) ∙ ap (λ k. drop k samples) j)
      go false t =
          let e : next.used ≡ 1 → ⊥ = eqb-false _ _ t in
          let o = one-or-two roms m (get_or samples i 0) (get_or samples (i + 1) 0) n in
          let j : suc (suc i) ≡ i + next.used = omega (arith, o.0, o.1) in
          goes-two h n e ∙ ap (λ k. run_over roms (drop k samples) (gone m next)) j

  -- The same of what a call of the step answered and the RAM that it left.
  module _ (r : Moved) (left : List ℕ)
      (er : r ≡ moved_of (step_of roms m.ram m.state (get_or samples i 0) (get_or samples (i + 1) 0)))
      (el : left ≡ ram_after roms m.ram m.state (get_or samples i 0) (get_or samples (i + 1) 0)) where
    -- It used one sample or two, and no more cycles.
    pub spent : r.number ≡ 0 → (1 ≤ r.used) × (r.used ≤ 2) × (r.cycles ≤ r.used)
    spent n =
        let a : next.number ≡ 0 = rw er at n in
        let o = one-or-two roms m (get_or samples i 0) (get_or samples (i + 1) 0) a in
        let w = cycles-used roms m (get_or samples i 0) (get_or samples (i + 1) 0) a in
        rw er (o.0, o.1, w)

    pub went :
        i + 1 < length samples → r.number ≡ 0
        → run_over roms (drop (i + r.used) samples)
        (record { ram = left; state = r.state; used = m.used + r.used; cycles = m.cycles + r.cycles; events = m.events ++ (next.event ∷ []) })
        ≡ run_over roms (drop i samples) m
    went h n = rw (er, el) (sym (run-step h (rw er at n)))

    unmoved : (r.number ≡ 0 → ⊥) → left ≡ m.ram
    unfolding written
    unmoved n = el ∙ ap (written m.ram) (busy.still (rw er at n))

    pub halted :
        i + 1 < length samples → (r.number ≡ 0 → ⊥)
        → run_over roms (drop i samples) m
        ≡ ended (record { ram = left; state = r.state; used = m.used; cycles = m.cycles; events = m.events }) r.number
    halted h n =
        let u = refused-unchanged roms m.ram m.state (get_or samples i 0) (get_or samples (i + 1) 0) (rw er at n) in
        run-refused h (rw er at n) ∙ rw (unmoved n, er, u.state)

-- ---- the first step
-- A run uses no fewer samples than were used before it; after an accepted step, more.
turn-used :
    (p : Plan) (m : Progress) (one two : Progress → Ended) → ((k : Progress) → k.used ≤ (one k).ran.used) → ((k : Progress) → k.used ≤ (two k).ran.used)
    → (m.used ≤ (turned p m one two).ran.used) × (p.number ≡ 0 → m.used + p.used ≤ (turned p m one two).ran.used)
unfolding pick
turn-used p m one two f g = go (eqb p.number 0) (eqb p.used 1) refl
  where
    go :
        (a b : Bool) → eqb p.number 0 ≡ a
        → (m.used ≤ (pick a (pick b one two (gone m p)) (ended m p.number)).ran.used)
        × (p.number ≡ 0 → m.used + p.used ≤ (pick a (pick b one two (gone m p)) (ended m p.number)).ran.used)
    go false b h = (omega arith, λ z. absurd (eqb-false _ _ h z))
    go true true h = let l = f (gone m p) in (omega (arith, l), λ z. l)
    go true false h = let l = g (gone m p) in (omega (arith, l), λ z. l)

over-used : (roms : Roms) (xs : List ℕ) (m : Progress) → m.used ≤ (run_over roms xs m).ran.used
unfolding run_by
over-used roms [] m = omega arith
over-used roms (x ∷ []) m = omega arith
over-used roms (x ∷ (y ∷ rest)) m =
    (turn-used (plan_of roms m.ram m.state x y) m _ _ (λ k. over-used roms (y ∷ rest) k) (λ k. over-used roms rest k)).0

pub same-or-none : (b : Bool) (r : Report) → pick b r r ≡ r
unfolding pick
same-or-none true r = refl
same-or-none false r = refl

-- It used a sample exactly if there was a first step, and it was accepted; else that shows nothing.
module _ (roms : Roms) (ram : List ℕ) (s : State) where
  first-used : (x y : ℕ) (rest : List ℕ) → (plan_of roms ram s x y).number ≡ 0 → 1 ≤ (run_over roms (x ∷ (y ∷ rest)) (begun ram s)).ran.used
  unfolding run_by
  first-used x y rest n =
      let u = (turn-used (plan_of roms ram s x y) (begun ram s) (run_over roms (y ∷ rest)) (run_over roms rest) (λ k. over-used roms (y ∷ rest) k) (λ k. over-used roms rest k)).1 n in
      let o = one-or-two roms (begun ram s) x y n in
      omega (arith, u, o.0)

  first-refused : (x y : ℕ) (rest : List ℕ) → ((plan_of roms ram s x y).number ≡ 0 → ⊥) → (run_over roms (x ∷ (y ∷ rest)) (begun ram s)).ran.used ≡ 0
  unfolding run_by pick
  first-refused x y rest n = rw (ne_eqb _ _ n)

  pub first-unshown : (xs : List ℕ) → (run_over roms xs (begun ram s)).ran.used ≡ 0 → first_shown roms ram s xs ≡ unshown
  unfolding first_shown
  first-unshown [] e = refl
  first-unshown (x ∷ []) e = refl
  first-unshown (x ∷ (y ∷ rest)) e =
      let n : (plan_of roms ram s x y).number ≡ 0 → ⊥ = λ z. let l = first-used x y rest z in omega (arith, l, e) in
      let u = refused-unchanged roms ram s x y n in
      rw (u.event, u.outside)

  pub first-taken : (xs : List ℕ) → ((run_over roms xs (begun ram s)).ran.used ≡ 0 → ⊥) → first_accepted roms ram s xs ≡ true
  unfolding first_accepted
  first-taken [] e = absurd (e (unfold run_by in refl))
  first-taken (x ∷ []) e = absurd (e (unfold run_by in refl))
  first-taken (x ∷ (y ∷ rest)) e = go (eqb (plan_of roms ram s x y).number 0) refl
    where
      go : (b : Bool) → eqb (plan_of roms ram s x y).number 0 ≡ b → b ≡ true
      go true h = refl
      go false h = absurd (e (first-refused x y rest (eqb-false _ _ h)))

  -- Where 1, 2 or 3 is given, nothing is shown.
  pub lent-unshown : (xs : List ℕ) → (lent_of roms ram s ≡ 0 → ⊥) → first_shown roms ram s xs ≡ unshown
  unfolding first_shown
  lent-unshown [] z = refl
  lent-unshown (x ∷ []) z = refl
  lent-unshown (x ∷ (y ∷ rest)) z = ap report_of (lent-refuses roms ram s x y z).0
