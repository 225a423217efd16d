-- What is seen from outside, besides the latches: the number and the values of each event.
-- Assumes nothing.
use Rattle.std.specs.Prelude.{ℕ}
use Rattle.isa.specs.declared.DigitMove.{DigitMove}
use Rattle.isa.specs.declared.DigitMove.TheVariants.{MovdRead, MovdWrite, Orld, Anld}
use Rattle.effects.specs.declared.Event.{Event}
use Rattle.effects.specs.declared.Event.TheVariants.{Quiet, ExternalRead, ExternalWrite, ExpanderMove}

-- An event as numbers: which it is, its address or port, and its data or digit; 0 where it has none.
pub record Seen : Type 0 where
  pub number : ℕ
  pub place : ℕ
  pub value : ℕ

abbrev pub move_number : DigitMove → ℕ
move_number MovdRead = 3
move_number MovdWrite = 4
move_number Orld = 5
move_number Anld = 6

-- "MOVX gives an event with the register's whole 8 bits as address and, writing, data." "MOVD, ORLD, ANLD give an event with operation,
-- port 4-7 and A's low digit as it was before."
abbrev pub event_as : Event → Seen
event_as Quiet = record { number = 0; place = 0; value = 0 }
event_as (ExternalRead address) = record { number = 1; place = address; value = 0 }
event_as (ExternalWrite address d) = record { number = 2; place = address; value = d }
event_as (ExpanderMove op port digit) = record { number = move_number op; place = port; value = digit }
