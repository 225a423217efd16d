-- `listing::item::Item::at` meets its contract: a row's number is less than 99.
-- Assumes nothing.
use native.Mathlib.Omega.{arith}
use Rattle.listing.proofs.Texts.{kind-small}
use Rattle.listing.proofs.item.Item.at.Goals as goal

pub invariant_of-result : goal.invariant_of-result
invariant_of-result c = grind (arith, kind-small)
