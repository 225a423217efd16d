-- What an instruction answers, and the moves between A and RAM.
-- Assumes nothing.
use Rattle.std.specs.Prelude.{ℕ, ◌+◌, ◌*◌, ◌/◌, ◌%◌, true, false, List}
use Rattle.isa.specs.Reading.{byte_at}
use Rattle.machine.specs.State.{with_a}
use Rattle.machine.specs.declared.State.{State}
use Rattle.effects.specs.Effect.{Effect, Nothing, Byte}
use Rattle.effects.specs.declared.Event.{Event}
use Rattle.effects.specs.declared.Event.TheVariants.{Quiet}

-- The state changes, and nothing else happens.
abbrev pub quiet : State → Effect
quiet s = record { number = 0; state = s; event = Quiet; write = Nothing; fresh = false }

-- One cell of RAM is written.
abbrev pub stored : State → ℕ → ℕ → Effect
stored s at v = record { number = 0; state = s; event = Quiet; write = Byte at v; fresh = false }

-- Something is seen from outside.
abbrev pub signalled : State → Event → Effect
signalled s e = record { number = 0; state = s; event = e; write = Nothing; fresh = false }

-- "The cycle of STRT T or STRT CNT itself isn't counted."
abbrev pub started : State → Effect
started s = record { number = 0; state = s; event = Quiet; write = Nothing; fresh = true }

-- The memory that must answer lacks a byte: 5, and the state that the step got.
abbrev pub lacking : State → Effect
lacking s = record { number = 5; state = s; event = Quiet; write = Nothing; fresh = false }

abbrev pub exchanged : State → List ℕ → ℕ → Effect
exchanged s ram at = stored (with_a s (byte_at ram at)) at s.a

-- XCHD: the low digits change places.
abbrev pub digits_exchanged : State → List ℕ → ℕ → Effect
digits_exchanged s ram at =
    stored (with_a s (s.a / 16 * 16 + byte_at ram at % 16)) at (byte_at ram at / 16 * 16 + s.a % 16)

-- INC and DEC of a cell, n being 1 or 255: less 1 is + 255 modulo 256, also from 0.
abbrev pub raised : State → List ℕ → ℕ → ℕ → Effect
raised s ram at n = stored s at ((byte_at ram at + n) % 256)
