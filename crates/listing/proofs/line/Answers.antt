-- `listing::line` meets its contract: an accepted call copies the line of an item, which is not cut, since a line has at most 32 bytes.
-- The buffer's room and the address are answered first: a test that lets another pass is refused there.
-- Assumes nothing.
use mathlib.Core.Path.{◌≡◌}
use Prim.Native.Nat.{◌≤◌, ◌<◌}
use native.Mathlib.Omega.{arith}
use lib.ListN.{length}
use lib.Seq.{take_all}
use Rattle.std.proofs.lemmas.Grind.{common_steps}
use Rattle.isa.specs.Choice.{pick}
use Rattle.isa.specs.Reading.{Program, under}
use Rattle.listing.specs.Draft.{cut}
use Rattle.listing.specs.Listing.{line_at, listed_of, line_after}
use Rattle.listing.proofs.Lines.{size-at}
use Rattle.listing.proofs.Short.{line-short}
use Rattle.listing.proofs.line.Goals as goal

pub returns : goal.returns
unfolding listed_of line_after pick
returns c =
    let roomy : 32 ≤ length c.args.buffer.now = omega arith in
    let there : c.args.address < length c.args.program.now = omega arith in
    let program : Program = under c.args.set c.args.program.now in
    let fits = line-short program c.args.address (c.type_inv.program c.args.address).fits in
    let whole : cut (line_at program c.args.address) ≡ line_at program c.args.address = unfold cut in take_all 32 _ fits in
    let sized = size-at program c.args.address in
    record { answer = grind (arith, common_steps); left = grind (arith, common_steps); shown = grind (arith, common_steps, sized.there) }
