-- Answers packed into one 64-bit number.
-- Assumes nothing.
use Rattle.std.specs.Prelude.{ℕ, ◌+◌, ◌*◌, ◌^◌, List, Result, Ok, Err, eqb}
use Rattle.isa.specs.Choice.{pick}
use Rattle.isa.specs.Numbers.{number_of, Answer, given, refused}
use Rattle.isa.specs.Reading.{Sized, sized, byte_at, next_pc}
use Rattle.isa.specs.declared.Refusal.{Refusal}
use Rattle.effects.specs.Events.{event_as}
use Rattle.effects.specs.declared.Event.{Event}
use Rattle.chip.specs.Step.{Outcome}
use Rattle.listing.specs.Listing.{Shown, shown}

-- Bytes 0 to 4 of a number, the lowest first.
unfoldable pub packed : ℕ → ℕ → ℕ → ℕ → ℕ → ℕ
packed b0 b1 b2 b3 b4 = b0 + b1 * 2 ^ 8 + b2 * 2 ^ 16 + b3 * 2 ^ 24 + b4 * 2 ^ 32

-- A refusal: its number, and nothing else.
abbrev pub packed_refusal : ℕ → ℕ
packed_refusal number = packed number 0 0 0 0

-- What is packed already, or a refusal.
abbrev pub packed_answer : Result ℕ Refusal → ℕ
packed_answer (Ok n) = n
packed_answer (Err r) = packed_refusal (number_of r)

-- A step: the number, the machine cycles, and the event's number, its address or port, its data or digit; in byte 5 how many bytes came
-- from outside, and in byte 6 the samples used.
abbrev pub packed_event : ℕ → ℕ → Event → ℕ
packed_event number cycles e = packed number cycles (event_as e).number (event_as e).place (event_as e).value

abbrev pub packed_used : ℕ → ℕ → ℕ → ℕ → Event → ℕ
packed_used number cycles used outside e = packed_event number cycles e + outside * 2 ^ 40 + used * 2 ^ 48

abbrev pub packed_step : Outcome → ℕ
packed_step o = packed_used o.number o.cycles o.used o.outside o.event

-- What the reader gives at an address: 0, the length, and the instruction's bytes. The writer writes the very bytes that stand there
-- (`read-write` in crate writer), so they are named by where they stand; the second by the next PC, and 0 if there is none.
abbrev pub packed_read : List ℕ → ℕ → Answer Sized → ℕ
packed_read program a (refused number) = packed_refusal number
packed_read program a (given (sized i n)) = packed 0 n (byte_at program a) (pick (eqb n 2) (byte_at program (next_pc a)) 0) 0

-- A line: 0, its length in bits 8-23, and in bits 24-39 how many addresses on the next line is. (A line has at most 32 bytes, and the next
-- is one address on, or two.)
abbrev pub packed_line : Answer Shown → ℕ
packed_line (refused number) = packed_refusal number
packed_line (given (shown n size)) = packed 0 n 0 size 0
