-- "PSW: bit 7 C, 6 AC, 5 F0, 4 bank BS, 3 always 1 (after MOV PSW,A too), 2 to 0 SP."
-- Assumes nothing.
use Rattle.std.specs.Prelude.{ℕ, ◌+◌, ◌*◌, ◌/◌, ◌%◌}

abbrev pub bit_c : ℕ → ℕ
bit_c psw = psw / 128

abbrev pub bit_ac : ℕ → ℕ
bit_ac psw = psw / 64 % 2

abbrev pub bit_f0 : ℕ → ℕ
bit_f0 psw = psw / 32 % 2

abbrev pub bit_bs : ℕ → ℕ
bit_bs psw = psw / 16 % 2

abbrev pub sp : ℕ → ℕ
sp psw = psw % 8

-- With other bits.
abbrev pub with_c : ℕ → ℕ → ℕ
with_c psw c = psw % 128 + c * 128

abbrev pub with_carries : ℕ → ℕ → ℕ → ℕ
with_carries psw c ac = psw % 64 + ac * 64 + c * 128

abbrev pub with_f0 : ℕ → ℕ → ℕ
with_f0 psw f0 = psw / 64 * 64 + f0 * 32 + psw % 32

abbrev pub with_bs : ℕ → ℕ → ℕ
with_bs psw bs = psw / 32 * 32 + bs * 16 + psw % 16

abbrev pub with_sp : ℕ → ℕ → ℕ
with_sp psw sp = psw / 8 * 8 + sp
