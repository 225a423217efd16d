-- `reread::reread` meets its contract: the bytes that the writer gives are those that stand at the address.
-- Assumes nothing.
use borrow.Author.Rules.{rules}
use Rattle.mcs48_c.proofs.Naming.{known}
use Rattle.reread.proofs.Again.{one-again, two-again, not-refused}
use Rattle.reread.proofs.reread.Goals as goal

pub returns-in_err-b : goal.returns-in_err-b
returns-in_err-b c =
    not-refused c.in_ok-set.set c.args.program.now c.args.address c.in_ok-read.read (λ k. (c.type_inv.program k).fits)
    c.in_ok-read.ensures c.in_err-b.ensures

pub returns-in-One : goal.returns-in-One
returns-in-One c =
    rw (c.pack.ensures.is, known c.try_from.ensures c.in_ok-set.was)
    (one-again c.in_ok-set.set c.args.program.now c.args.address c.in_ok-read.read (λ k. (c.type_inv.program k).fits)
    c.in_ok-read.ensures (search rules) (rw c.in-One.is at c.in_ok-b.ensures))

pub returns-in-Two : goal.returns-in-Two
returns-in-Two c =
    rw (c.pack-in-Two.ensures.is, known c.try_from.ensures c.in_ok-set.was)
    (two-again c.in_ok-set.set c.args.program.now c.args.address c.in_ok-read.read (λ k. (c.type_inv.program k).fits)
    c.in_ok-read.ensures (search rules) (search rules) (rw c.in-Two.is at c.in_ok-b.ensures))
