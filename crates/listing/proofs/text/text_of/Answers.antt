-- `listing::text::text_of` meets its contract.
-- Assumes nothing.
use mathlib.Core.List.{List}
use Prim.Native.Nat.{ℕ}
use lib.ListN.{get_or-map}
use Rattle.std.proofs.Common.{Bor}
use Rattle.listing.proofs.Texts.{text-at}
use Rattle.listing.proofs.text.text_of.Goals as goal

pub returns : goal.returns
returns c = rw (← get_or-map (λ (text : Bor (List ℕ)). text.now)) (text-at c.args.kind c.requires)
