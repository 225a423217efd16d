-- A run may be cut anywhere: the first part, and then what it did not use and the rest, are the run over the whole.
-- Assumes nothing.
use Prim.Native.Nat.{ℕ, ◌+◌, ◌≤◌}
use native.Mathlib.Nat.{add-zero, add_assoc}
use mathlib.Core.Bool.{Bool, true, false}
use mathlib.Core.List.{List, [], ◌∷◌, ◌++◌, append_assoc, append-nil}
use mathlib.Core.Path.{◌≡◌, refl, sym, ap, ◌∙◌, subst}
use native.Mathlib.Omega.{arith}
use lib.Dec.{eqb}
use lib.ListN.{length, drop, length-append}
use borrow.Author.Tests.{eqb-true, eqb-false}
use Rattle.std.proofs.lemmas.List.{drop-append-le, get_or_append_left}
use Rattle.isa.specs.Choice.{pick}
use Rattle.machine.specs.Rom.{Roms}
use Rattle.machine.specs.declared.State.{State}
use Rattle.effects.specs.declared.Event.{Event}
use Rattle.chip.specs.Admission.{lent_of}
use Rattle.chip.specs.History.{Steps, none, more, Reads, HistoryOf}
use Rattle.chip.specs.Run.{Progress, Ended, begun, gone, ended, turned, run_by, run_over, run_of, Joined}
use Rattle.chip.specs.Step.{Plan, plan_of}
use Rattle.chip.proofs.Linking.{over-through, over-history, run-over, not-begun}
use Rattle.chip.proofs.Permitted.{still-stands}

-- ---- what a run makes of samples does not depend on what it did before, but for its totals and its events, which go on from there
record Later (u c : ℕ) (es : List Event) (a b : Ended) : Type 0 where
  number : b.ran.number ≡ a.ran.number
  state : b.ran.state ≡ a.ran.state
  ram : b.ram ≡ a.ram
  used : b.ran.used ≡ u + a.ran.used
  cycles : b.ran.cycles ≡ c + a.ran.cycles
  events : b.events ≡ es ++ a.events

module _ (u c : ℕ) (es : List Event) where
  abbrev later : Progress → Progress
  later m = record { ram = m.ram; state = m.state; used = u + m.used; cycles = c + m.cycles; events = es ++ m.events }

  gone-later : (m : Progress) (p : Plan) → gone (later m) p ≡ later (gone m p)
  gone-later m p = rw (add_assoc, add_assoc, append_assoc)

  turned-later :
      (p : Plan) (m : Progress) (one two : Progress → Ended) → ((k : Progress) → Later u c es (one k) (one (later k)))
      → ((k : Progress) → Later u c es (two k) (two (later k))) → Later u c es (turned p m one two) (turned p (later m) one two)
  unfolding pick
  turned-later p m one two f g = go (eqb p.number 0) (eqb p.used 1)
    where
      go :
          (a b : Bool)
          → Later u c es (pick a (pick b one two (gone m p)) (ended m p.number))
          (pick a (pick b one two (gone (later m) p)) (ended (later m) p.number))
      go false b = record { number = refl; state = refl; ram = refl; used = refl; cycles = refl; events = refl }
      go true true = subst (λ (k : Progress). Later u c es (one (gone m p)) (one k)) (sym (gone-later m p)) (f (gone m p))
      go true false = subst (λ (k : Progress). Later u c es (two (gone m p)) (two k)) (sym (gone-later m p)) (g (gone m p))

  over-later : (roms : Roms) (xs : List ℕ) (m : Progress) → Later u c es (run_over roms xs m) (run_over roms xs (later m))
  unfolding run_by
  over-later roms [] m = record { number = refl; state = refl; ram = refl; used = refl; cycles = refl; events = refl }
  over-later roms (x ∷ []) m = record { number = refl; state = refl; ram = refl; used = refl; cycles = refl; events = refl }
  over-later roms (x ∷ (y ∷ rest)) m =
      turned-later (plan_of roms m.ram m.state x y) m _ _ (λ k. over-later roms (y ∷ rest) k) (λ k. over-later roms rest k)

-- From where a run stands, so beginning anew.
onward :
    (roms : Roms) (xs : List ℕ) (m : Progress)
    → Later m.used m.cycles m.events (run_over roms xs (begun m.ram m.state)) (run_over roms xs m)
onward roms xs m =
    subst (λ (k : Progress). Later m.used m.cycles m.events (run_over roms xs (begun m.ram m.state)) (run_over roms xs k)) same
    (over-later m.used m.cycles m.events roms xs (begun m.ram m.state))
  where
    same : later m.used m.cycles m.events (begun m.ram m.state) ≡ m
    same = rw (add-zero, add-zero, append-nil)

-- ---- the samples
longer-length : (xs ys : List ℕ) → length xs ≤ length (xs ++ ys)
longer-length xs ys = rw length-append (omega arith)

reads_more : {roms : Roms} {ram : List ℕ} {s : State} {k : Progress} (xs ys : List ℕ) (h : Steps roms ram s k) → Reads xs h → Reads (xs ++ ys) h
reads_more xs ys none d = tt
reads_more xs ys (more {k = k} first second h a) d =
    let l = longer-length xs ys in (
      reads_more xs ys h d.0,
      d.1 ∙ sym (get_or_append_left xs ys 0 k.used (omega (arith, d.3))),
      d.2 ∙ sym (get_or_append_left xs ys 0 (k.used + 1) (omega (arith, d.3))),
      omega (arith, d.3, l),
    )

-- Where 1, 2 and 3 are not given, they are not given after any accepted steps.
pub still-lent :
    {roms : Roms} {ram : List ℕ} {s : State} {k : Progress} → Steps roms ram s k → lent_of roms ram s ≡ 0
    → lent_of roms k.ram k.state ≡ 0
still-lent none z = z
still-lent {roms} (more {k = k} first second h a) z =
    still-stands roms k.ram k.state first second _ _ refl refl a (still-lent h z)

module _ (roms : Roms) (ram : List ℕ) (s : State) (xs ys : List ℕ) where
  -- The first part, the rest from where it ended, and the whole.
  abbrev part : Ended
  part = run_of roms ram s xs

  abbrev rest : Ended
  rest = run_of roms part.ram part.ran.state (drop part.ran.used xs ++ ys)

  abbrev whole : Ended
  whole = run_of roms ram s (xs ++ ys)

  cut-refused : (lent_of roms ram s ≡ 0 → ⊥) → Joined part rest whole
  cut-refused n = rw (not-begun roms ram s xs n) (rw (not-begun roms ram s (xs ++ ys) n) (record { number = refl; state = refl; ram = refl; used = refl; cycles = refl; events = refl }))

  cut-lent : lent_of roms ram s ≡ 0 → HistoryOf roms ram s xs (run_over roms xs (begun ram s)) → Joined part rest whole
  cut-lent z h =
      let first : part ≡ ended h.end (run_over roms xs (begun ram s)).ran.number = run-over roms ram s xs z ∙ h.is in
      let all : whole ≡ run_over roms (drop h.end.used xs ++ ys) h.end =
      run-over roms ram s (xs ++ ys) z ∙ over-through (xs ++ ys) h.steps (reads_more xs ys h.steps h.reads)
      ∙ ap (λ (l : List ℕ). run_over roms l h.end) (drop-append-le h.end.used xs ys h.enough)
      in
      let then : run_of roms h.end.ram h.end.state (drop h.end.used xs ++ ys) ≡ run_over roms (drop h.end.used xs ++ ys) (begun h.end.ram h.end.state) =
      run-over roms h.end.ram h.end.state (drop h.end.used xs ++ ys) (still-lent h.steps z)
      in
      let w = onward roms (drop h.end.used xs ++ ys) h.end in
      rw (first, all, then)
      (record { number = w.number; state = w.state; ram = w.ram; used = w.used; cycles = w.cycles; events = w.events })

  pub run-cut :
      Joined (run_of roms ram s xs)
      (run_of roms (run_of roms ram s xs).ram (run_of roms ram s xs).ran.state (drop (run_of roms ram s xs).ran.used xs ++ ys))
      (run_of roms ram s (xs ++ ys))
  run-cut = go (eqb (lent_of roms ram s) 0) refl
    where
      go : (b : Bool) → eqb (lent_of roms ram s) 0 ≡ b → Joined part rest whole
      go true e = cut-lent (eqb-true _ _ e) (over-history roms ram s xs)
      go false e = cut-refused (eqb-false _ _ e)
