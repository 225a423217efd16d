-- "Pins: a list of pin samples, one 32-bit number for each machine cycle. Bits 0-7 BUS, 8-15 P1, 16-23 P2, 24 INT, 25 T0, 26 T1, 27 RESET,
-- as levels." And "EA is bit 28" (document 02, item 7).
-- Assumes nothing.
use Rattle.std.specs.Prelude.{ℕ, ◌/◌, ◌%◌, ◌^◌, Bool, eqb}
use Rattle.machine.specs.declared.pins.Pin.{Pin}
use Rattle.machine.specs.declared.pins.Pin.TheVariants.{Int, T0, T1, Reset, Ea}

abbrev pub int_pin : ℕ
int_pin = 24

abbrev pub t0_pin : ℕ
t0_pin = 25

abbrev pub t1_pin : ℕ
t1_pin = 26

abbrev pub reset_pin : ℕ
reset_pin = 27

abbrev pub ea_pin : ℕ
ea_pin = 28

-- Which bit is a pin's.
abbrev pub pin_number : Pin → ℕ
pin_number Int = int_pin
pin_number T0 = t0_pin
pin_number T1 = t1_pin
pin_number Reset = reset_pin
pin_number Ea = ea_pin

-- A pin's level in a sample.
abbrev pub is_high : ℕ → ℕ → Bool
is_high pin sample = eqb (sample / 2 ^ pin % 2) 1

abbrev pub is_low : ℕ → ℕ → Bool
is_low pin sample = eqb (sample / 2 ^ pin % 2) 0

-- The eight pins of BUS, P1 and P2.
abbrev pub bus_pins : ℕ → ℕ
bus_pins sample = sample % 256

abbrev pub p1_pins : ℕ → ℕ
p1_pins sample = sample / 2 ^ 8 % 256

abbrev pub p2_pins : ℕ → ℕ
p2_pins sample = sample / 2 ^ 16 % 256
