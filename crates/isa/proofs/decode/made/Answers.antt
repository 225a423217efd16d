-- `isa::decode::made` meets its contract: each arm is the row of its number.
-- Assumes nothing.
use Rattle.isa.proofs.Arms.{arm, last}
use Rattle.isa.proofs.decode.made.Goals as goal

pub returns-in_default : goal.returns-in_default
returns-in_default c = last _ _ _ c.in_default.in_default-own.rest

pub returns-in-2 : goal.returns-in-2
returns-in-2 c = search arm
