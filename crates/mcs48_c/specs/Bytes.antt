-- The machine state as 24 bytes: how a caller in C lends it.
-- Assumes nothing.
use Rattle.std.specs.Prelude.{ℕ, ◌+◌, ◌*◌, ◌/◌, ◌%◌, Bool, ◌&&◌, List, [], ◌∷◌, eqb, ltb, length}
use Rattle.isa.specs.Choice.{pick, one_if}
use Rattle.isa.specs.Reading.{byte_at}
use Rattle.machine.specs.Counting.{counting_byte, counting_of}
use Rattle.machine.specs.Mode.{mode_byte, mode_of}
use Rattle.machine.specs.State.{power_up, with_pc}
use Rattle.machine.specs.declared.State.{State}

-- A flag's byte is 0 or 1.
abbrev pub is_flag : List ℕ → ℕ → Bool
is_flag bytes at = ltb (byte_at bytes at) 2

abbrev pub flag_at : List ℕ → ℕ → Bool
flag_at bytes at = eqb (byte_at bytes at) 1

-- The bytes of a state, 24 of them.
unfoldable pub bytes_of : State → List ℕ
bytes_of s =
    s.a ∷ s.pc % 256 ∷ s.pc / 256 ∷ s.psw ∷ one_if s.f1 ∷ one_if s.dbf ∷ s.t ∷ s.divider ∷ counting_byte s.counting
    ∷ one_if s.tf ∷ one_if s.request ∷ one_if s.interrupts.external ∷ one_if s.interrupts.tcnti
    ∷ one_if s.interrupts.service ∷ one_if s.last ∷ one_if s.clock ∷ s.ports.p1 ∷ s.ports.p2 ∷ s.ports.bus
    ∷ one_if s.ports.driven ∷ mode_byte s.mode ∷ 0 ∷ 0 ∷ 0 ∷ []

-- 24 bytes are those of a state: flags are 0 or 1, the counting is 0, 1 or 2, the mode is 0 to 3, and bytes 21 to 23 are 0. (Whether the set
-- has that mode the chip looks at: any but 0 is 3 under Intel.)
abbrev pub formed : List ℕ → Bool
formed b =
    is_flag b 4 && is_flag b 5 && ltb (byte_at b 8) 3 && is_flag b 9 && is_flag b 10 && is_flag b 11 && is_flag b 12 && is_flag b 13 && is_flag b 14
    && is_flag b 15 && is_flag b 19 && ltb (byte_at b 20) 4 && eqb (byte_at b 21) 0 && eqb (byte_at b 22) 0 && eqb (byte_at b 23) 0

-- The state whose bytes they then are.
abbrev pub state_in : List ℕ → State
state_in b =
    record {
      a = byte_at b 0;
      pc = byte_at b 1 + byte_at b 2 * 256;
      psw = byte_at b 3;
      mode = mode_of (byte_at b 20);
      counting = counting_of (byte_at b 8);
      t = byte_at b 6;
      divider = byte_at b 7;
      tf = flag_at b 9;
      request = flag_at b 10;
      last = flag_at b 14;
      f1 = flag_at b 4;
      dbf = flag_at b 5;
      clock = flag_at b 15;
      interrupts = record { external = flag_at b 11; tcnti = flag_at b 12; service = flag_at b 13 };
      ports = record { p1 = byte_at b 16; p2 = byte_at b 17; bus = byte_at b 18; driven = flag_at b 19 };
    }

-- A state outside its sizes.
abbrev pub outside : State
outside = with_pc power_up 4096

-- What lent bytes stand for. Bytes that no state has stand for one outside its sizes: so they are refused by 3, at 3's place in the order.
unfoldable pub state_of : List ℕ → State
state_of bytes = pick (eqb (length bytes) 24) (pick (formed bytes) (state_in bytes) outside) outside

-- A lent buffer after a state was written to it: one that has not 24 bytes stays as it is.
unfoldable pub holding : List ℕ → State → List ℕ
holding old s = pick (eqb (length old) 24) (bytes_of s) old
