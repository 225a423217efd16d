-- What a step sees is what its fetches find, address by address.
-- Assumes nothing.
use Prim.Native.Nat.{ℕ, ◌+◌, ◌-◌, ◌≤◌, ◌<◌}
use mathlib.Core.Bool.{Bool, true, false, not, false≢true}
use mathlib.Core.List.{List, ◌++◌}
use mathlib.Core.Logic.{◌⊎◌, inl, inr}
use mathlib.Core.Path.{◌≡◌, refl, sym, ap, ◌∙◌}
use native.Mathlib.Omega.{arith}
use lib.Dec.{leb, ltb}
use lib.ListN.{length, get_or, drop, length-append, length-drop, get_or-append, get_or-eq_default}
use lib.Seq.{get_or-append-add, get_or-drop}
use borrow.Author.Tests.{leb-true, leb-false, ltb-true, ltb-false, le-leb, lt-leb}
use Rattle.std.specs.Prelude.{Option, None, Some}
use Rattle.std.specs.Option.{is_some, option_map, unwrap_or}
use Rattle.std.proofs.lemmas.Option.{none-some, same_Some}
use Rattle.isa.specs.Choice.{pick}
use Rattle.isa.specs.Reading.{lacks, byte_at}
use Rattle.machine.specs.Rom.{Byte, bytes_of, visible, fetched, answering, found_of}
use Rattle.machine.specs.declared.rom.Memory.{Memory}
use Rattle.machine.specs.declared.rom.Memory.TheVariants.{Internal, External}

module _ (inside outside : List ℕ) where
  -- What a fetch answers, by who must answer and whether it has the byte.
  pub from-inside :
      (ea : Bool) (a : ℕ) → not ea ≡ true → a < length inside
      → record { memory = Internal; lacking = false; value = byte_at inside a } ≡ fetched inside outside ea a
  unfolding fetched pick
  from-inside true a e l = absurd (false≢true e)
  from-inside false a e l = rw (lt-leb _ _ l) (rw (lt-leb _ _ l))

  must-outside : (ea : Bool) (a : ℕ) → (not ea ≡ false) ⊎ (length inside ≤ a) → answering inside ea a ≡ External
  unfolding pick
  must-outside true a w = refl
  must-outside false a (inl e) = absurd (false≢true (sym e))
  must-outside false a (inr l) = rw (le-leb _ _ l)

  pub from-outside :
      (ea : Bool) (a : ℕ) → (not ea ≡ false) ⊎ (length inside ≤ a) → a < length outside
      → record { memory = External; lacking = false; value = byte_at outside a } ≡ fetched inside outside ea a
  unfolding fetched
  from-outside ea a w l = rw (must-outside ea a w, lt-leb _ _ l)

  pub nowhere :
      (ea : Bool) (a : ℕ) → (not ea ≡ false) ⊎ (length inside ≤ a) → length outside ≤ a
      → record { memory = External; lacking = true; value = 0 } ≡ fetched inside outside ea a
  unfolding fetched
  nowhere ea a w l = rw (must-outside ea a w, le-leb _ _ l, get_or-eq_default outside 0 l)

  -- The same by the code's answer: what `get` finds in the memory that must answer.
  pub found-by :
      {A : Type 0} (f : A → ℕ) (m : Memory) (ea : Bool) (a : ℕ) (r : Option A) → m ≡ answering inside ea a
      → is_some r ≡ ltb a (length (bytes_of m inside outside)) → unwrap_or (option_map f r) 0 ≡ byte_at (bytes_of m inside outside) a
      → option_map f r ≡ found_of (fetched inside outside ea a)
  unfolding fetched found_of pick
  found-by f m ea a None e h v = rw (← e, le-leb _ _ (ltb-false _ _ (sym h)))
  found-by f m ea a (Some x) e h v = rw (← e, lt-leb _ _ (ltb-true _ _ (sym h)), v)

  -- Past the internal end the second program's bytes stand at their own addresses.
  past : (a : ℕ) → length inside ≤ a → get_or (inside ++ drop (length inside) outside) a 0 ≡ get_or outside a 0
  past a h =
      let k : ℕ = a - length inside in
      let e : a ≡ length inside + k = omega arith in
      ap (λ (x : ℕ). get_or (inside ++ drop (length inside) outside) x 0) e
      ∙ get_or-append-add inside (drop (length inside) outside) k 0
      ∙ get_or-drop (length inside) outside k 0
      ∙ ap (λ (x : ℕ). get_or outside x 0) (sym e)

  pub visible-byte : (ea : Bool) (a : ℕ) → byte_at (visible inside outside ea) a ≡ (fetched inside outside ea a).value
  unfolding visible fetched pick
  visible-byte true a = refl
  visible-byte false a = go (lacks inside a) refl
    where
      go : (b : Bool) → lacks inside a ≡ b → byte_at (inside ++ drop (length inside) outside) a ≡ (fetched inside outside false a).value
      go true h = rw h (past a (leb-true _ _ h))
      go false h = rw h (get_or-append inside _ 0 a (leb-false _ _ h))

  pub visible-lacks : (ea : Bool) (a : ℕ) → lacks (visible inside outside ea) a ≡ (fetched inside outside ea a).lacking
  unfolding visible fetched pick
  visible-lacks true a = refl
  visible-lacks false a = go (lacks inside a) refl
    where
      total : length (inside ++ drop (length inside) outside) ≡ length inside + (length outside - length inside)
      total = rw (length-append, length-drop)

      go : (b : Bool) → lacks inside a ≡ b → lacks (inside ++ drop (length inside) outside) a ≡ (fetched inside outside false a).lacking
      go true h = rw (h, total) (same (leb (length outside) a) refl)
        where
          same : (c : Bool) → leb (length outside) a ≡ c → leb (length inside + (length outside - length inside)) a ≡ c
          same true l =
              let i : length inside ≤ a = leb-true _ _ h in
              let o : length outside ≤ a = leb-true _ _ l in
              let s : length inside + (length outside - length inside) ≤ a = omega arith in
              le-leb _ _ s
          same false l =
              let o : a < length outside = leb-false _ _ l in
              let s : a < length inside + (length outside - length inside) = omega arith in
              lt-leb _ _ s
      go false h =
          let i : a < length inside = leb-false _ _ h in
          let l : a < length inside + (length outside - length inside) = omega arith in
          rw (h, total) (lt-leb _ _ l ∙ sym h)

  -- With EA low a byte that the chip has is the one that is seen.
  module _ (ea : Bool) (a : ℕ) (low : ea ≡ false) (there : a < length inside) where
    is-inside : record { memory = Internal; lacking = false; value = byte_at inside a } ≡ fetched inside outside ea a
    is-inside = from-inside ea a (rw low) there

    pub inside-lacks : lacks (visible inside outside ea) a ≡ false
    inside-lacks = visible-lacks ea a ∙ ap (λ (x : Byte). x.lacking) (sym is-inside)

    pub inside-byte : byte_at (visible inside outside ea) a ≡ byte_at inside a
    inside-byte = visible-byte ea a ∙ ap (λ (x : Byte). x.value) (sym is-inside)

  -- A fetch finds nothing where a byte is lacking, else the byte that is seen.
  pub found_seen : (ea : Bool) (a : ℕ) → found_of (fetched inside outside ea a) ≡ pick (lacks (visible inside outside ea) a) None (Some (byte_at (visible inside outside ea) a))
  unfolding found_of
  found_seen ea a = rw (visible-lacks ea a, visible-byte ea a)

  -- The same of what a call of `fetch` answered.
  module _ (ea : Bool) (a : ℕ) (r : Option ℕ) (e : r ≡ found_of (fetched inside outside ea a)) where
    found-is : r ≡ pick (lacks (visible inside outside ea) a) None (Some (byte_at (visible inside outside ea) a))
    found-is = e ∙ found_seen ea a

    pub found-lacking : r ≡ None → lacks (visible inside outside ea) a ≡ true
    unfolding pick
    found-lacking h = go (lacks (visible inside outside ea) a) found-is
      where
        go : (b : Bool) → r ≡ pick b None (Some (byte_at (visible inside outside ea) a)) → b ≡ true
        go true w = refl
        go false w = absurd (none-some _ (sym h ∙ w))

    pub found-byte : {v : ℕ} → r ≡ Some v → (lacks (visible inside outside ea) a ≡ false) × (v ≡ byte_at (visible inside outside ea) a)
    unfolding pick
    found-byte {v} h = go (lacks (visible inside outside ea) a) found-is
      where
        go : (b : Bool) → r ≡ pick b None (Some (byte_at (visible inside outside ea) a)) → (b ≡ false) × (v ≡ byte_at (visible inside outside ea) a)
        go true w = absurd (none-some v (sym w ∙ h))
        go false w = (refl, same_Some _ _ (sym h ∙ w))

    pub found-or-zero : unwrap_or r 0 ≡ byte_at (visible inside outside ea) a
    unfolding pick
    found-or-zero = go (lacks (visible inside outside ea) a) refl found-is
      where
        go :
            (b : Bool) → lacks (visible inside outside ea) a ≡ b → r ≡ pick b None (Some (byte_at (visible inside outside ea) a))
            → unwrap_or r 0 ≡ byte_at (visible inside outside ea) a
        go true l w = rw w (sym (get_or-eq_default (visible inside outside ea) 0 (leb-true _ _ l)))
        go false l w = rw w
