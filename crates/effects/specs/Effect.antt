-- What an instruction does.
-- Assumes nothing.
use Rattle.std.specs.Prelude.{ℕ, ◌+◌, Bool, false, List, set, Result, Ok, Err}
use Rattle.isa.specs.Numbers.{number_of}
use Rattle.isa.specs.declared.Refusal.{Refusal}
use Rattle.machine.specs.declared.State.{State}
use Rattle.effects.specs.declared.Event.{Event}
use Rattle.effects.specs.declared.Effect as code

-- What is written to RAM: nothing, a byte, or two bytes in cells one after the other.
pub data Write : Type 0 where
  Nothing : Write
  Byte : ℕ → ℕ → Write
  Pair : ℕ → ℕ → ℕ → Write

-- RAM after a write.
unfoldable pub written : List ℕ → Write → List ℕ
written ram Nothing = ram
written ram (Byte at v) = set ram at v
written ram (Pair at low high) = set (set ram at low) (at + 1) high

-- number is 5 if the memory that must answer lacks a table byte, else 0; fresh says that the instruction has started the counter.
pub record Effect : Type 0 where
  pub number : ℕ
  pub state : State
  pub event : Event
  pub write : Write
  pub fresh : Bool

-- The code writes RAM in place, and who wants the event asks for it apart: so what it answers is the rest.
pub record EffectAnswer : Type 0 where
  pub number : ℕ
  pub state : State
  pub fresh : Bool

abbrev pub answer_of : Effect → EffectAnswer
answer_of e = record { number = e.number; state = e.state; fresh = e.fresh }

-- The code's own answers: of an instruction that is carried out; and of one that may be refused, on the state s that the step got.
abbrev pub done_as : code.Effect → EffectAnswer
done_as e = record { number = 0; state = e.state; fresh = e.fresh }

abbrev pub effect_as : State → Result code.Effect Refusal → EffectAnswer
effect_as s (Ok e) = done_as e
effect_as s (Err r) = record { number = number_of r; state = s; fresh = false }
