-- The example by computation, and as an instance of the law: what the law asks for can be had, since with all pins high but EA and no
-- interrupt enabled the steps over any string come to fetch.
-- Assumes nothing.
use Prim.Native.Nat.{ℕ}
use mathlib.Core.Bool.{Bool, true, false, not, ◌&&◌}
use mathlib.Core.List.{List, [], ◌∷◌, map}
use mathlib.Core.Path.{◌≡◌, refl, sym, ap, ◌∙◌, subst}
use lib.Dec.{lit≤}
use lib.ListN.{length, replicate}
use Rattle.isa.specs.Choice.{pick}
use Rattle.isa.specs.Reading.{instruction_at, decoded_at}
use Rattle.isa.specs.Sheet.{kind_of, entry_of}
use Rattle.isa.specs.declared.Set.{Set}
use Rattle.isa.specs.declared.Set.TheVariants.{Intel, Nec}
use Rattle.machine.specs.Mode.{is_running, is_waiting}
use Rattle.machine.specs.Pins.{ea_pin, is_high}
use Rattle.machine.specs.Rom.{Roms, alone, seen_by, visible}
use Rattle.writer.specs.Standing.{StandsAt}
use Rattle.accumulator.specs.Rotates.{Rotate, Rl, Swap, Nop, code_of, law}
use Rattle.accumulator.proofs.Rotates.{laws-hold, filled-holds}
use Rattle.effects.specs.Effect.{written}
use Rattle.execute.specs.Execute.{executed}
use Rattle.chip.specs.Admission.{lent_number, lent_of, admission}
use Rattle.chip.specs.Cases.{seen, blank, idle}
use Rattle.chip.specs.History.{plan_at, after}
use Rattle.chip.specs.Outside.{from_outside}
use Rattle.chip.specs.Refusals.{Fetches}
use Rattle.chip.specs.Run.{Progress, begun, run_by, run_of}
use Rattle.chip.specs.Step.{Plan, declined, accepted, done, carried, course, ticked, settled, plan_by}
use Rattle.chip.proofs.Exactly.{samples-decide}
use Rattle.chip.proofs.Permitted.{still-stands}
use Rattle.rotates.specs.Example.{start, four_rl, one_swap, filled_swap, runs, stepped, reached}
use Rattle.rotates.specs.Strings.{Fetching, none, step, samples_of, levels, SeenAt, Replaced, SameWay}
use Rattle.rotates.proofs.Filling.{same-way}
use Rattle.rotates.proofs.Seen.{stands-inside, inside-seen}
use Rattle.rotates.proofs.Stepping.{turned_step, meant, step-over, replaced}

pub runs-seen : (set : Set) → map (seen set) runs ≡ map (λ c. c.want) runs
unfolding run_of run_by plan_by settled ticked course carried done accepted declined written admission lent_number executed instruction_at decoded_at visible entry_of kind_of pick
runs-seen Intel = refl
runs-seen Nec = refl

-- ---- the law asks for what can be had
-- 1, 2 and 3 are not given, the machine is not halted or stopped, and no interrupt is enabled. A rotate leaves it so.
record Clear (roms : Roms) (k : Progress) : Type 0 where
  lent : lent_of roms k.ram k.state ≡ 0
  awake : is_waiting k.state.mode ≡ false
  external : k.state.interrupts.external ≡ false
  tcnti : k.state.interrupts.tcnti ≡ false

off : (x y z : Bool) → (x && y && false && z) ≡ false
off true true z = refl
off true false z = refl
off false y z = refl

module _ (roms : Roms) where
  clear-fetches : (k : Progress) → Clear roms k → Fetches roms k.ram k.state idle idle
  unfolding pick
  clear-fetches k c =
      record {
        admitted = samples-decide roms k.ram k.state idle idle c.lent;
        no_reset = refl;
        no_wait = c.awake;
        no_external = rw c.external (off (is_running k.state.mode) (not k.state.interrupts.service) false);
        no_timer = rw c.tcnti (off (is_running k.state.mode) (not k.state.interrupts.service) k.state.request);
      }

  clear-after :
      (r : Rotate) (k : Progress) → plan_at roms k idle idle ≡ turned_step (from_outside roms idle k.state) r k.state idle → Clear roms k
      → Clear roms (after roms k idle idle)
  clear-after r k one c =
      let same = ap (λ (p : Plan). p.state.interrupts) one ∙ (meant r).interrupts k.state in
      record {
        lent = still-stands roms k.ram k.state idle idle _ _ refl refl (ap (λ (p : Plan). p.number) one) c.lent;
        awake = ap (λ (p : Plan). is_waiting p.state.mode) one;
        external = ap (λ i. i.external) same ∙ c.external;
        tcnti = ap (λ i. i.tcnti) same ∙ c.tcnti;
      }

  through :
      (rs : List Rotate) (k : Progress) → Clear roms k → StandsAt (seen_by roms idle).bytes k.state.pc (map code_of rs)
      → Fetching roms k (length rs) (stepped roms (length rs) k)
  through [] k c w = none
  through (r ∷ rs) k c w =
      let f = clear-fetches k c in
      let one = step-over roms k.ram k.state idle idle r f w.0 w.1 in
      step idle idle f
      (through rs (after roms k idle idle) (clear-after r k one c)
      (subst (λ (p : Plan). StandsAt (seen_by roms idle).bytes p.state.pc (map code_of rs)) (sym one) w.2))

  through-low :
      (rs : List Rotate) (k : Progress) (c : Clear roms k) (w : StandsAt (seen_by roms idle).bytes k.state.pc (map code_of rs))
      → map (λ x. is_high ea_pin x.first) (samples_of (through rs k c w)) ≡ map (λ x. false) (samples_of (through rs k c w))
  unfolding through
  through-low [] k c w = refl
  through-low (r ∷ rs) k c w = ap (◌∷◌ false) (through-low rs _ _ _)

lent : (set : Set) → lent_number set 1024 0 128 start ≡ 0
unfolding lent_number pick
lent Intel = refl
lent Nec = refl

-- The three programs in the chip.
rls : StandsAt four_rl start.pc (map code_of (replicate 4 Rl))
rls = (refl, refl, (refl, refl, (refl, refl, (refl, refl, tt))))

swap : StandsAt one_swap start.pc (map code_of (Swap ∷ []))
swap = (refl, refl, tt)

swap-nops : StandsAt filled_swap start.pc (map code_of (Swap ∷ replicate 3 Nop))
swap-nops = (refl, refl, (refl, refl, (refl, refl, (refl, refl, tt))))

module _ (set : Set) where
  clear : (program : List ℕ) → length program ≡ 1024 → Clear (alone set program) (begun blank start)
  clear program n = record { lent = rw n (lent set); awake = refl; external = refl; tcnti = refl }

  module _ (program : List ℕ) (rs : List Rotate) (n : length program ≡ 1024) (w : StandsAt program start.pc (map code_of rs)) where
    abbrev from_start : Fetching (alone set program) (begun blank start) (length rs) (reached (alone set program) (length rs))
    from_start = through (alone set program) rs (begun blank start) (clear program n) (stands-inside program [] start.pc (map code_of rs) w)

    seen-from-start :
        (patched bytes : List ℕ) → StandsAt patched start.pc bytes → SeenAt (alone set patched) start.pc (samples_of from_start) bytes
    seen-from-start patched bytes v =
        inside-seen (alone set patched) start.pc (samples_of from_start) bytes
        (through-low (alone set program) rs (begun blank start) (clear program n) (stands-inside program [] start.pc (map code_of rs) w)) v

  pub four : Fetching (alone set four_rl) (begun blank start) 4 (reached (alone set four_rl) 4)
  four = from_start four_rl (replicate 4 Rl) refl rls

  pub one : Fetching (alone set one_swap) (begun blank start) 1 (reached (alone set one_swap) 1)
  one = from_start one_swap (Swap ∷ []) refl swap

  pub swap-instead :
      Replaced (law (replicate 4 Rl) 4 (Swap ∷ []) 1) blank start (reached (alone set four_rl) 4) (reached (alone set one_swap) 1) (levels four) (levels one)
  unfolding four one
  swap-instead =
      replaced laws-hold.0 (lit≤ tt) (lit≤ tt) four one (seen-from-start four_rl (replicate 4 Rl) refl rls four_rl _ rls)
      (seen-from-start one_swap (Swap ∷ []) refl swap one_swap _ swap)

  pub swap-filled : SameWay four (alone set filled_swap) 4
  unfolding four
  swap-filled =
      same-way (filled-holds (law (replicate 4 Rl) 4 (Swap ∷ []) 1) laws-hold.0 (lit≤ tt)) (lit≤ tt) (lit≤ tt)
      (record { set = refl; inside = refl; outside = refl }) refl four (seen-from-start four_rl (replicate 4 Rl) refl rls four_rl _ rls)
      (seen-from-start four_rl (replicate 4 Rl) refl rls filled_swap _ swap-nops)
