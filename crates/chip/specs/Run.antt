-- A run is its steps, one by one.
-- Assumes nothing.
use Rattle.std.specs.Prelude.{ℕ, ◌+◌, Bool, false, List, [], ◌∷◌, ◌++◌, ◌≡◌, eqb, Option, Some, None}
use Rattle.isa.specs.Choice.{pick}
use Rattle.isa.specs.Numbers.{number_of}
use Rattle.isa.specs.declared.Refusal.{Refusal}
use Rattle.machine.specs.Rom.{Roms}
use Rattle.machine.specs.declared.State.{State}
use Rattle.effects.specs.Effect.{written}
use Rattle.effects.specs.declared.Event.{Event}
use Rattle.effects.specs.declared.Event.TheVariants.{Quiet}
use Rattle.chip.specs.Admission.{lent_of}
use Rattle.chip.specs.Step.{Plan, plan_of, report_of, step_of}
use Rattle.chip.specs.declared.Played as code_played
use Rattle.chip.specs.declared.Ran as code_ran
use Rattle.chip.specs.declared.Report.{Report}

-- How far a run has come: the RAM, the state, the samples used, the cycles spent, and the events of its steps in order.
pub record Progress : Type 0 where
  pub ram : List ℕ
  pub state : State
  pub used : ℕ
  pub cycles : ℕ
  pub events : List Event

abbrev pub begun : List ℕ → State → Progress
begun ram s = record { ram = ram; state = s; used = 0; cycles = 0; events = [] }

-- After a step that was accepted. "Samples and cycles become two separate totals" (document 02, item 2).
abbrev pub gone : Progress → Plan → Progress
gone m p =
    record {
      ram = written m.ram p.write;
      state = p.state;
      used = m.used + p.used;
      cycles = m.cycles + p.cycles;
      events = m.events ++ (p.event ∷ []);
    }

-- What a run returns: the number that ended it, 0 if samples ran out, the state, the samples used and the machine cycles spent.
pub record Ran : Type 0 where
  pub number : ℕ
  pub state : State
  pub used : ℕ
  pub cycles : ℕ

-- What a run returns, the RAM that it leaves, and the events of its steps in order.
pub record Ended : Type 0 where
  pub ran : Ran
  pub ram : List ℕ
  pub events : List Event

-- "Steps done before a refusal stand."
abbrev pub ended : Progress → ℕ → Ended
ended m number =
    record {
      ran = record { number = number; state = m.state; used = m.used; cycles = m.cycles };
      ram = m.ram;
      events = m.events;
    }

-- After a step: a refusal ends the run as it stood; else it goes on, as `one` says after a step that used one sample, as `two`
-- after one that used two.
abbrev pub turned : Plan → Progress → (Progress → Ended) → (Progress → Ended) → Ended
turned p m one two = pick (eqb p.number 0) (pick (eqb p.used 1) one two (gone m p)) (ended m p.number)

-- The run over the samples that are left, by a step that is given the RAM, the state and two samples. "A run steps while two samples remain,
-- or until a refusal"; "0 if samples ran out". Where the step used x alone, y is the next step's first.
unfoldable pub run_by : (List ℕ → State → ℕ → ℕ → Plan) → List ℕ → Progress → Ended
run_by step [] m = ended m 0
run_by step (x ∷ []) m = ended m 0
run_by step (x ∷ (y ∷ rest)) m = turned (step m.ram m.state x y) m (run_by step (y ∷ rest)) (run_by step rest)

-- By the whole step, which asks for 1, 2 and 3 each time.
abbrev pub run_over : Roms → List ℕ → Progress → Ended
run_over roms samples m = run_by (plan_of roms) samples m

-- 1, 2 and 3 at a run's start: "With 0 or 1 sample it checks 1, 2, 3 and does nothing."
abbrev pub checked : Roms → List ℕ → State → Ended → Ended
checked roms ram s e = pick (eqb (lent_of roms ram s) 0) e (ended (begun ram s) (lent_of roms ram s))

unfoldable pub run_of : Roms → List ℕ → State → List ℕ → Ended
run_of roms ram s samples = checked roms ram s (run_over roms samples (begun ram s))

-- Something holds of each step of a run: of the RAM, the state and the two samples that it is given.
unfoldable pub EachStep : (List ℕ → State → ℕ → ℕ → Type 0) → Roms → List ℕ → Progress → Type 0
EachStep P roms [] m = Unit {0}
EachStep P roms (x ∷ []) m = Unit {0}
EachStep P roms (x ∷ (y ∷ rest)) m =
    P m.ram m.state x y
    × pick (eqb (plan_of roms m.ram m.state x y).number 0)
    (pick (eqb (plan_of roms m.ram m.state x y).used 1) (EachStep P roms (y ∷ rest)) (EachStep P roms rest)
    (gone m (plan_of roms m.ram m.state x y)))
    (Unit {0})

-- What the first step of a run shows outside: nothing where there are no samples for one, or it is refused.
abbrev pub unshown : Report
unshown = record { event = Quiet; outside = 0 }

unfoldable pub first_shown : Roms → List ℕ → State → List ℕ → Report
first_shown roms ram s [] = unshown
first_shown roms ram s (x ∷ []) = unshown
first_shown roms ram s (x ∷ (y ∷ rest)) = report_of (step_of roms ram s x y)

-- There is a first step, and it is accepted.
unfoldable pub first_accepted : Roms → List ℕ → State → List ℕ → Bool
first_accepted roms ram s [] = false
first_accepted roms ram s (x ∷ []) = false
first_accepted roms ram s (x ∷ (y ∷ rest)) = eqb (step_of roms ram s x y).number 0

-- What a run returns, and what its first step showed.
pub record Played : Type 0 where
  pub ran : Ran
  pub shown : Report

-- A run, with that if it is asked for.
abbrev pub played_of : Bool → Roms → List ℕ → State → List ℕ → Played
played_of asked roms ram s samples =
    record { ran = (run_of roms ram s samples).ran; shown = pick asked (first_shown roms ram s samples) unshown }

-- What the code's answers tell.
abbrev pub number_ended : Option Refusal → ℕ
number_ended None = 0
number_ended (Some r) = number_of r

abbrev pub ran_as : code_ran.Ran → Ran
ran_as r = record { number = number_ended r.ended; state = r.state; used = r.used; cycles = r.cycles }

abbrev pub played_as : code_played.Played → Played
played_as p = record { ran = ran_as p.ran; shown = p.shown }

-- The run w is the runs a and b, one after the other: it ends as b does, its totals are theirs added, and its events are a's and then b's.
pub record Joined (a b w : Ended) : Type 0 where
  pub number : w.ran.number ≡ b.ran.number
  pub state : w.ran.state ≡ b.ran.state
  pub ram : w.ram ≡ b.ram
  pub used : w.ran.used ≡ a.ran.used + b.ran.used
  pub cycles : w.ran.cycles ≡ a.ran.cycles + b.ran.cycles
  pub events : w.events ≡ a.events ++ b.events
