-- What the calls from C answer, and what they leave in the buffers that are lent to them. `name` is the number by which the caller names the
-- set; where it names none the answer is 25, before everything else is looked at, and nothing is touched.
-- Assumes nothing.
use Rattle.std.specs.Prelude.{ℕ, List, eqb, ltb, length, set}
use Rattle.isa.specs.Choice.{pick}
use Rattle.isa.specs.Naming.{set_of}
use Rattle.isa.specs.Numbers.{Answer, refused}
use Rattle.isa.specs.Reading.{Sized, under, read_of}
use Rattle.machine.specs.Rom.{both}
use Rattle.chip.specs.Run.{Ended, begun, ended, first_shown, run_of, unshown, Ran}
use Rattle.chip.specs.Step.{refused_by, step_of, ram_after, Outcome}
use Rattle.chip.specs.declared.Report.{Report}
use Rattle.listing.specs.Listing.{Shown, listed_of, line_after}
use Rattle.mcs48_c.specs.declared.RunAnswer.{RunAnswer}
use Rattle.mcs48_c.specs.Bytes.{state_of, holding}
use Rattle.mcs48_c.specs.Naming.{by_named}

-- A step from the state that lent bytes stand for, and the RAM that it leaves. `program` is in the chip, `outside` the second one, which is
-- empty where there is none.
abbrev pub step_from : ℕ → List ℕ → List ℕ → List ℕ → List ℕ → ℕ → ℕ → Outcome
step_from name program outside ram bytes first second =
    by_named (set_of name) (λ set. step_of (both set program outside) ram (state_of bytes) first second)
    (λ number. refused_by number (state_of bytes))

abbrev pub ram_from : ℕ → List ℕ → List ℕ → List ℕ → List ℕ → ℕ → ℕ → List ℕ
ram_from name program outside ram bytes first second =
    by_named (set_of name) (λ set. ram_after (both set program outside) ram (state_of bytes) first second) (λ number. ram)

-- A run from that state: what it returns, the RAM that it leaves, and its events.
abbrev pub run_from : ℕ → List ℕ → List ℕ → List ℕ → List ℕ → List ℕ → Ended
run_from name program outside ram bytes samples =
    by_named (set_of name) (λ set. run_of (both set program outside) ram (state_of bytes) samples) (ended (begun ram (state_of bytes)))

-- What the first step of that run shows outside.
abbrev pub shown_from : ℕ → List ℕ → List ℕ → List ℕ → List ℕ → List ℕ → Report
shown_from name program outside ram bytes samples =
    by_named (set_of name) (λ set. first_shown (both set program outside) ram (state_of bytes) samples) (λ number. unshown)

-- What is read at an address.
abbrev pub read_from : ℕ → List ℕ → ℕ → Answer Sized
read_from name program a = by_named (set_of name) (λ set. read_of (under set program) a) refused

-- A line of the listing, into a buffer of `room` bytes: what is answered, and what the buffer holds after it.
abbrev pub listed_from : ℕ → List ℕ → ℕ → ℕ → Answer Shown
listed_from name program a room = by_named (set_of name) (λ set. listed_of (under set program) a room) refused

abbrev pub line_from : ℕ → List ℕ → ℕ → List ℕ → List ℕ
line_from name program a old = by_named (set_of name) (λ set. line_after (under set program) a old) (λ number. old)

-- What is left of a run's answer once its state is in the lent bytes, with what its first step shows.
abbrev pub run_answer : Ran → Report → RunAnswer
run_answer r shown = record { number = r.number; used = r.used; cycles = r.cycles; shown = shown }

-- The state's buffer after a step: "A refused step returns .. the state it got".
abbrev pub after_step : List ℕ → Outcome → List ℕ
after_step old o = pick (eqb o.number 0) (holding old o.state) old

-- The state's buffer after a run: "Steps done before a refusal stand." Where no step was done it stays as it is.
abbrev pub after_run : List ℕ → Ran → List ℕ
after_run old r = pick (eqb r.used 0) old (holding old r.state)

-- The buffer of the totals, if it has room for two: the samples used and the machine cycles spent.
unfoldable pub totalled : List ℕ → ℕ → ℕ → List ℕ
totalled old used cycles = pick (ltb (length old) 2) old (set (set old 0 used) 1 cycles)

abbrev pub totals_after : List ℕ → Ran → List ℕ
totals_after old r = totalled old r.used r.cycles
