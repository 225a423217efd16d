-- Where the bytes of a string may come from: steps that all have EA at one level see what stands in the program visible at that level, with EA
-- low what stands in the chip, with EA high what stands outside.
-- Assumes nothing.
use Prim.Native.Nat.{ℕ}
use mathlib.Core.Bool.{Bool, true, false}
use mathlib.Core.List.{List, [], ◌∷◌, map}
use mathlib.Core.Path.{◌≡◌, refl, ◌∙◌}
use borrow.Author.Tests.{leb-false}
use Rattle.isa.specs.Choice.{pick}
use Rattle.isa.specs.Reading.{next_pc}
use Rattle.machine.specs.Pins.{ea_pin, is_high}
use Rattle.machine.specs.Rom.{Roms, visible}
use Rattle.machine.proofs.Seeing.{inside-lacks, inside-byte}
use Rattle.writer.specs.Standing.{StandsAt}
use Rattle.rotates.specs.Strings.{Samples, SeenAt}

pub stands-inside : (inside outside : List ℕ) (a : ℕ) (bytes : List ℕ) → StandsAt inside a bytes → StandsAt (visible inside outside false) a bytes
stands-inside inside outside a [] w = tt
stands-inside inside outside a (b ∷ bs) w =
    let l = leb-false _ _ w.0 in
    (inside-lacks inside outside false a refl l, inside-byte inside outside false a refl l ∙ w.1, stands-inside inside outside (next_pc a) bs w.2)

module _ (roms : Roms) where
  pub level-seen :
      (ea : Bool) (a : ℕ) (xs : List Samples) (bytes : List ℕ) → map (λ x. is_high ea_pin x.first) xs ≡ map (λ x. ea) xs
      → StandsAt (visible roms.inside roms.outside ea) a bytes → SeenAt roms a xs bytes
  level-seen ea a [] bytes e w = tt
  level-seen ea a (x ∷ xs) [] e w = tt
  level-seen ea a (x ∷ xs) (b ∷ bs) e w =
      let h : is_high ea_pin x.first ≡ ea = cc in
      (rw h w.0, rw h w.1, level-seen ea (next_pc a) xs bs (cc) w.2)

  module _ (a : ℕ) (xs : List Samples) (bytes : List ℕ) where
    pub inside-seen : map (λ x. is_high ea_pin x.first) xs ≡ map (λ x. false) xs → StandsAt roms.inside a bytes → SeenAt roms a xs bytes
    inside-seen e w = level-seen false a xs bytes e (stands-inside roms.inside roms.outside a bytes w)

    pub outside-seen : map (λ x. is_high ea_pin x.first) xs ≡ map (λ x. true) xs → StandsAt roms.outside a bytes → SeenAt roms a xs bytes
    outside-seen e w = level-seen true a xs bytes e (unfold visible pick in w)
