-- `listing::draft::Draft::put_ending` meets its contract. The loop's invariant: the spaces stand in the line, and the first letters of
-- the text, each as it is shown.
-- Assumes nothing.
use Rattle.std.proofs.Common.{◌++◌, take}
use Rattle.listing.specs.Draft.{Adds}
use Rattle.listing.specs.Item.{data_of}
use Rattle.listing.specs.Text.{ascii, expand_all}
use Rattle.listing.proofs.draft.Draft.put_ending.Given as goal

abbrev pub invariant-loop-letter : goal.invariant-loop-letter
invariant-loop-letter l =
    Adds l.fn.self (ascii "  " ++ expand_all l.item.address l.item.code (data_of l.item) (take l.letter-index l.letter-items)) l.self
