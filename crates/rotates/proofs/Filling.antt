-- A string of as many bytes goes the same way: with the same samples no reset, no wait and no interrupt call comes between there either.
-- Assumes nothing.
use Prim.Native.Nat.{ℕ, suc, ◌/◌, ◌%◌, ◌<◌}
use mathlib.Core.List.{List, [], ◌∷◌, map}
use mathlib.Core.Path.{◌≡◌, refl, sym, ap, ◌∙◌, subst}
use native.Mathlib.Omega.{arith}
use lib.ListN.{length}
use Rattle.isa.specs.Reading.{next_pc}
use Rattle.machine.specs.Pins.{t1_pin, is_high}
use Rattle.machine.specs.Rom.{Roms}
use Rattle.machine.specs.State.{count_of}
use Rattle.machine.specs.declared.State.{State}
use Rattle.accumulator.specs.Rotates.{Rotate, Rl, Rlc, Rr, Rrc, Swap, Nop, code_of, turned, Law, Holds}
use Rattle.effects.specs.Effect.{written}
use Rattle.chip.specs.Admission.{lent_number, admission}
use Rattle.chip.specs.History.{plan_at, after}
use Rattle.chip.specs.Outside.{from_outside}
use Rattle.chip.specs.Refusals.{Fetches}
use Rattle.chip.specs.Run.{Progress, begun}
use Rattle.chip.specs.Step.{Plan}
use Rattle.rotates.specs.Strings.{Samples, Fetching, none, step, samples_of, SeenAt, AsLong, SameWay}
use Rattle.rotates.proofs.Stepping.{turned_step, meant, step-over, replaced-exactly}

-- What a step looks at before it comes to fetch.
record Beside (s t : State) : Type 0 where
  mode : t.mode ≡ s.mode
  pc : t.pc ≡ s.pc
  psw : t.psw / 8 % 2 ≡ s.psw / 8 % 2
  counting : t.counting ≡ s.counting
  count : count_of t ≡ count_of s
  interrupts : t.interrupts ≡ s.interrupts

fetches-beside :
    (roms patched : Roms) (ram left : List ℕ) (s t : State) (first second : ℕ) → AsLong roms patched → left ≡ ram
    → Beside s t → Fetches roms ram s first second → Fetches patched left t first second
unfolding admission lent_number
fetches-beside roms patched ram left s t first second n e b f =
    let d : t.divider ≡ s.divider = ap (λ c. c.divider) b.count in
    let r : t.request ≡ s.request = ap (λ c. c.request) b.count in
    record {
      admitted = rw (n.set, n.inside, n.outside, e, b.mode, b.pc, b.psw, d) f.admitted;
      no_reset = f.no_reset;
      no_wait = rw b.mode f.no_wait;
      no_external = rw (b.mode, b.interrupts) f.no_external;
      no_timer = rw (b.mode, b.interrupts, r) f.no_timer;
    }

turned-psw : (r : Rotate) (s : State) → (turned r s).psw / 8 % 2 ≡ s.psw / 8 % 2
turned-psw Rl s = refl
turned-psw Rlc s = omega arith
turned-psw Rr s = refl
turned-psw Rrc s = omega arith
turned-psw Swap s = refl
turned-psw Nop s = refl

-- Two rotates leave it as it was between them: after each the machine runs.
turned-beside :
    (i j : ℕ) (q r : Rotate) (s t : State) (first : ℕ) → Beside s t → Beside (turned_step i q s first).state (turned_step j r t first).state
turned-beside i j q r s t first b =
    record {
      mode = refl;
      pc = ap next_pc b.pc;
      psw = turned-psw r t ∙ b.psw ∙ sym (turned-psw q s);
      counting = (meant r).counting t ∙ b.counting ∙ sym ((meant q).counting s);
      count = rw (b.counting, b.count, b.interrupts);
      interrupts = (meant r).interrupts t ∙ b.interrupts ∙ sym ((meant q).interrupts s);
    }

-- The steps over a string in one memory, and beside them, with the same samples, i steps in another, wherever they lead.
module _ (roms patched : Roms) where
  record Along {k m : Progress} {n : ℕ} (g : Fetching roms k n m) (j : Progress) (i : ℕ) : Type 0 where
    end : Progress
    way : Fetching patched j i end
    samples : samples_of way ≡ samples_of g

  along-more :
      {k m j : Progress} {n i : ℕ} (first second : ℕ) (f : Fetches roms k.ram k.state first second)
      → Fetches patched j.ram j.state first second → (g : Fetching roms (after roms k first second) n m)
      → Along g (after patched j first second) i → Along (step {k = k} first second f g) j (suc i)
  along-more first second f h g a =
      record {
        end = a.end;
        way = step first second h a.way;
        samples = ap (◌∷◌ (record { first = first; second = second })) a.samples;
      }

  along :
      (string instead : List Rotate) {k m j : Progress} → AsLong roms patched → length string ≡ length instead → j.ram ≡ k.ram
      → Beside k.state j.state → (g : Fetching roms k (length string) m) → SeenAt roms k.state.pc (samples_of g) (map code_of string)
      → SeenAt patched j.state.pc (samples_of g) (map code_of instead) → Along g j (length instead)
  unfolding written
  along [] [] {j = j} p n e b none w v = record { end = j; way = none; samples = refl }
  along [] (r ∷ instead) p n e b g w v = absurd (omega (arith, n))
  along (q ∷ string) [] p n e b g w v = absurd (omega (arith, n))
  along (q ∷ string) (r ∷ instead) {k} {j = j} p n e b (step first second f g) w v =
      let h = fetches-beside roms patched k.ram j.ram k.state j.state first second p e b f in
      let x = step-over roms k.ram k.state first second q f w.0 w.1 in
      let y = step-over patched j.ram j.state first second r h v.0 v.1 in
      along-more first second f h g
      (along string instead p (omega (arith, n))
      (ap (λ (z : Plan). written j.ram z.write) y ∙ e ∙ sym (ap (λ (z : Plan). written k.ram z.write) x))
      (subst (λ (z : Plan). Beside (plan_at roms k first second).state z.state) (sym y)
      (subst (λ (z : Plan). Beside z.state (turned_step (from_outside patched first j.state) r j.state first).state) (sym x)
      (turned-beside (from_outside roms first k.state) (from_outside patched first j.state) q r k.state j.state first b)))
      g
      (subst (λ (z : Plan). SeenAt roms z.state.pc (samples_of g) (map code_of string)) (sym x) w.2)
      (subst (λ (z : Plan). SeenAt patched z.state.pc (samples_of g) (map code_of instead)) (sym y) v.2))

-- So of a law whose two strings have as many bytes only the one need be looked at: in a memory that is as long, the other goes its way.
pub same-way :
    {l : Law} → Holds l → {roms patched : Roms} {ram : List ℕ} {s : State} {x : Progress} → s.a < 256 → s.psw < 256
    → AsLong roms patched → length l.string ≡ length l.instead → (g : Fetching roms (begun ram s) (length l.string) x)
    → SeenAt roms s.pc (samples_of g) (map code_of l.string) → SeenAt patched s.pc (samples_of g) (map code_of l.instead)
    → SameWay g patched (length l.instead)
same-way {l} holds {roms} {patched} {ram} {s} a_byte psw-byte p n g w v =
    let beside : Beside s s = record { mode = refl; pc = refl; psw = refl; counting = refl; count = refl; interrupts = refl } in
    let a = along roms patched l.string l.instead p n refl beside g w v in
    let u = subst (λ (xs : List Samples). SeenAt patched s.pc xs (map code_of l.instead)) (sym a.samples) v in
    let same = replaced-exactly holds a_byte psw-byte g a.way w u n (ap (map (λ x. is_high t1_pin x.first)) (sym a.samples)) in
    subst (λ (y : Progress). (h : Fetching patched (begun ram s) (length l.instead) y) → samples_of h ≡ samples_of g → SameWay g patched (length l.instead))
    same (λ h q. record { way = h; samples = q }) a.way a.samples
