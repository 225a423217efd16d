-- Document 02, item 3: the steps at the edges of pages. Under Intel's set what the instructions do is computed from the definitions. NEC's has
-- the same entries at these codes, none of which is 01 or 82, and a step goes by the program that it sees (item 7): so each step is the same
-- there, and in every memory that shows it that program.
-- Assumes nothing.
use Prim.Native.Nat.{ℕ}
use mathlib.Core.Bool.{Bool, true, false}
use mathlib.Core.List.{List, [], ◌∷◌, map, flat_map, append-nil}
use mathlib.Core.Path.{◌≡◌, refl, ap, ◌∙◌}
use native.Mathlib.Omega.{arith}
use lib.Dec.{eqb}
use lib.ListN.{length, get_or}
use lib.Seq.{drop-nil}
use Rattle.isa.specs.Choice.{pick}
use Rattle.isa.specs.Numbers.{Answer, given, refused}
use Rattle.isa.specs.Reading.{Sized, sized, under, byte_at, instruction_at, decoded_at}
use Rattle.isa.specs.Sheet.{kind_of, entry_of}
use Rattle.isa.specs.declared.Set.{Set}
use Rattle.isa.specs.declared.Set.TheVariants.{Intel, Nec}
use Rattle.isa.proofs.Sets.{shared}
use Rattle.machine.specs.Mode.{is_running, is_waiting}
use Rattle.machine.specs.Pins.{reset_pin, ea_pin, is_high, is_low}
use Rattle.machine.specs.Rom.{Roms, both, alone, seen_by, visible}
use Rattle.machine.specs.State.{permitted}
use Rattle.machine.specs.declared.State.{State}
use Rattle.effects.specs.Effect.{written}
use Rattle.execute.specs.Execute.{executed}
use Rattle.chip.specs.Admission.{program_allowed, outside_allowed, ram_allowed, sample_number, lent_number, lent_of}
use Rattle.chip.specs.Cases.{Case, seen}
use Rattle.chip.specs.Outside.{from_outside}
use Rattle.chip.specs.Refusals.{Fetches}
use Rattle.chip.specs.Run.{Ended, begun, ended, turned, run_by, run_of}
use Rattle.chip.specs.Step.{Course, external_calls, timer_calls, declined, accepted, done, carried_by, carried, with_outside, ticked, settled, plan_by, plan_of}
use Rattle.chip.proofs.Exactly.{samples-decide, comes-to}
use Rattle.edges.specs.Steps.{edge_cases, seen_in, Holds, In, here, later}

-- 28 conditional jumps, each taken and not, MOVP, MOVP3 and JMPP, at two edges of 1,024 bytes, four of 2,048 and six of 4,096.
pub edge-cases-708 : length (edge_cases false) ≡ 708
unfolding flat_map pick
edge-cases-708 = refl

-- The same at six edges of the second program.
pub edge-cases-354 : length (edge_cases true) ≡ 354
unfolding flat_map pick
edge-cases-354 = refl

-- ---- a step that carries out an instruction
-- The two samples of a case's step.
abbrev first_in : Case → ℕ
first_in c = get_or c.samples 0 0

abbrev second_in : Case → ℕ
second_in c = get_or c.samples 1 0

-- How a run of one step ends.
abbrev ending : Case → Course → Ended
ending c x = turned (plan_by x c.state (first_in c) (second_in c)) (begun c.ram c.state) (λ m. ended m 0) (λ m. ended m 0)

-- It does not tell how many bytes came from outside.
untold : (c : Case) (n : ℕ) (x : Course) → ending c (with_outside n x) ≡ ending c x
unfolding plan_by pick
untold c n x = go (eqb x.number 0) refl
  where
    go : (b : Bool) → eqb x.number 0 ≡ b → ending c (with_outside n x) ≡ ending c x
    go true h = rw h
    go false h = rw h

one-step :
    (roms : Roms) (ram : List ℕ) (s : State) → lent_of roms ram s ≡ 0 → (samples : List ℕ) → length samples ≡ 2
    → run_of roms ram s samples ≡ turned (plan_of roms ram s (get_or samples 0 0) (get_or samples 1 0)) (begun ram s) (λ m. ended m 0) (λ m. ended m 0)
unfolding run_of run_by pick
one-step roms ram s lent [] n = absurd (omega (arith, n))
one-step roms ram s lent (x ∷ []) n = absurd (omega (arith, n))
one-step roms ram s lent (x ∷ (y ∷ [])) n = rw lent
one-step roms ram s lent (x ∷ (y ∷ (z ∷ rest))) n = absurd (omega (arith, n))

-- What the instruction does that stands in the case's program.
abbrev does : Case → Course
does c = carried (under Intel c.program) c.ram c.state (first_in c) (second_in c)

-- What else is looked at in a case: `samples` is how many there are, and `sampled` the number that the first two give.
record Facts : Type 0 where
  ram : Bool
  state : Bool
  running : Bool
  waiting : Bool
  samples : ℕ
  sampled : ℕ
  reset : Bool
  external : Bool
  timer : Bool
  level : Bool
  undefined : Bool

abbrev found : Case → Facts
found c =
    record {
      ram = ram_allowed (length c.ram);
      state = permitted Intel c.state;
      running = is_running c.state.mode;
      waiting = is_waiting c.state.mode;
      samples = length c.samples;
      sampled = sample_number (first_in c) (second_in c);
      reset = is_low reset_pin (first_in c);
      external = external_calls c.state (first_in c);
      timer = timer_calls c.state;
      level = is_high ea_pin (first_in c);
      undefined = eqb (entry_of Intel (byte_at c.program c.state.pc)).bytes 0;
    }

-- One step of a machine that runs, with EA at a level, over a code that both sets have; no reset and no interrupt call comes.
abbrev wanted : Bool → Facts
wanted ea =
    record {
      ram = true;
      state = true;
      running = true;
      waiting = false;
      samples = 2;
      sampled = 0;
      reset = false;
      external = false;
      timer = false;
      level = ea;
      undefined = false;
    }

-- A machine that runs is permitted in both sets.
permitted-either : (set : Set) (s : State) → is_running s.mode ≡ true → permitted Intel s ≡ true → permitted set s ≡ true
permitted-either Intel s running p = p
permitted-either Nec s running p = rw running at p

module _ (ea : Bool) (roms : Roms) (c : Case) (e : found c ≡ wanted ea) (h : Holds ea roms c) where
  lent : lent_of roms c.ram c.state ≡ 0
  unfolding lent_number pick
  lent =
      let p = permitted-either roms.set c.state (ap (λ (x : Facts). x.running) e) (ap (λ (x : Facts). x.state) e) in
      rw (h.inside, h.outside, ap (λ (x : Facts). x.ram) e, p)

  fetches : Fetches roms c.ram c.state (first_in c) (second_in c)
  fetches =
      record {
        admitted = samples-decide roms c.ram c.state (first_in c) (second_in c) lent ∙ ap (λ (x : Facts). x.sampled) e;
        no_reset = ap (λ (x : Facts). x.reset) e;
        no_wait = ap (λ (x : Facts). x.waiting) e;
        no_external = ap (λ (x : Facts). x.external) e;
        no_timer = ap (λ (x : Facts). x.timer) e;
      }

  entry : entry_of roms.set (byte_at c.program c.state.pc) ≡ entry_of Intel (byte_at c.program c.state.pc)
  entry = shared roms.set _ (ap (λ (x : Facts). x.undefined) e)

  same-read : instruction_at (under roms.set c.program) c.state.pc ≡ instruction_at (under Intel c.program) c.state.pc
  unfolding instruction_at decoded_at
  same-read = rw entry

  same-carried :
      (i : Answer Sized)
      → carried_by i (under roms.set c.program) c.ram c.state (first_in c) (second_in c)
      ≡ carried_by i (under Intel c.program) c.ram c.state (first_in c) (second_in c)
  same-carried (refused n) = refl
  same-carried (given (sized i n)) = rw entry

  same-does : carried (seen_by roms (first_in c)) c.ram c.state (first_in c) (second_in c) ≡ does c
  unfolding carried
  same-does =
      rw (ap (λ (x : Facts). x.level) e, h.sees, same-read, same-carried (instruction_at (under Intel c.program) c.state.pc))

  runs : run_of roms c.ram c.state c.samples ≡ ending c (does c)
  runs =
      one-step roms c.ram c.state lent c.samples (ap (λ (x : Facts). x.samples) e)
      ∙ ap (ending c) (comes-to roms c.ram c.state (first_in c) (second_in c) fetches)
      ∙ untold c (from_outside roms (first_in c) c.state) (carried (seen_by roms (first_in c)) c.ram c.state (first_in c) (second_in c))
      ∙ ap (ending c) same-does

-- ---- the cases
found-low : map found (edge_cases false) ≡ map (λ c. wanted false) (edge_cases false)
unfolding entry_of kind_of pick flat_map
found-low = refl

found-high : map found (edge_cases true) ≡ map (λ c. wanted true) (edge_cases true)
unfolding entry_of kind_of pick flat_map
found-high = refl

found-wanted : (ea : Bool) → map found (edge_cases ea) ≡ map (λ c. wanted ea) (edge_cases ea)
found-wanted false = found-low
found-wanted true = found-high

abbrev computed : Case → List ℕ
computed c = c.look (ending c (does c))

stepped-low : map computed (edge_cases false) ≡ map (λ c. c.want) (edge_cases false)
unfolding plan_by settled ticked carried done accepted declined written executed instruction_at decoded_at entry_of kind_of pick flat_map
stepped-low = refl

stepped-high : map computed (edge_cases true) ≡ map (λ c. c.want) (edge_cases true)
unfolding plan_by settled ticked carried done accepted declined written executed instruction_at decoded_at entry_of kind_of pick flat_map
stepped-high = refl

stepped : (ea : Bool) → map computed (edge_cases ea) ≡ map (λ c. c.want) (edge_cases ea)
stepped false = stepped-low
stepped true = stepped-high

-- What holds of all cases of a list holds of each.
each : {A : Type 0} (f g : Case → A) (c : Case) (cs : List Case) → In c cs → map f cs ≡ map g cs → f c ≡ g c
each f g c cs here e = cc
each f g c cs (later i) e = each f g c _ i (cc)

-- In any memory.
pub edges-anywhere : (ea : Bool) (roms : Roms) (c : Case) → In c (edge_cases ea) → Holds ea roms c → seen_in roms c ≡ c.want
edges-anywhere ea roms c i h =
    ap c.look (runs ea roms c (each found (λ c. wanted ea) c (edge_cases ea) i (found-wanted ea)) h)
    ∙ each computed (λ c. c.want) c (edge_cases ea) i (stepped ea)

listed : (f g : Case → List ℕ) (cs : List Case) → ((c : Case) → In c cs → f c ≡ g c) → map f cs ≡ map g cs
listed f g [] h = refl
listed f g (c ∷ cs) h = rw (h c here, listed f g cs (λ d i. h d (later i)))

-- In the chip, with EA low and no second program.
sizes : map (λ c. program_allowed (length c.program)) (edge_cases false) ≡ map (λ c. true) (edge_cases false)
unfolding pick flat_map
sizes = refl

inside-holds : (set : Set) (c : Case) → In c (edge_cases false) → Holds false (alone set c.program) c
inside-holds set c i =
    record {
      inside = each (λ c. program_allowed (length c.program)) (λ c. true) c (edge_cases false) i sizes;
      outside = refl;
      sees = unfold visible pick in rw (drop-nil (length c.program)) (append-nil c.program);
    }

pub edges-stepped : (set : Set) → map (seen set) (edge_cases false) ≡ map (λ c. c.want) (edge_cases false)
edges-stepped set =
    listed (seen set) (λ c. c.want) (edge_cases false) (λ c i. edges-anywhere false (alone set c.program) c i (inside-holds set c i))

-- Outside, with EA high, whatever stands in the chip.
outside-sizes : map (λ c. outside_allowed (length c.program)) (edge_cases true) ≡ map (λ c. true) (edge_cases true)
unfolding pick flat_map
outside-sizes = refl

module _ (set : Set) (inside : List ℕ) (allowed : program_allowed (length inside) ≡ true) where
  outside-holds : (c : Case) → In c (edge_cases true) → Holds true (both set inside c.program) c
  outside-holds c i =
      record {
        inside = allowed;
        outside = each (λ c. outside_allowed (length c.program)) (λ c. true) c (edge_cases true) i outside-sizes;
        sees = unfold visible pick in refl;
      }

  pub edges-outside : map (λ c. seen_in (both set inside c.program) c) (edge_cases true) ≡ map (λ c. c.want) (edge_cases true)
  edges-outside =
      listed (λ c. seen_in (both set inside c.program) c) (λ c. c.want) (edge_cases true)
      (λ c i. edges-anywhere true (both set inside c.program) c i (outside-holds c i))
