-- `runs::run_on` meets its contract: each turn of the loop is a step of the run.
-- Assumes nothing.
use mathlib.Core.Path.{refl, ap}
use Rattle.std.proofs.lemmas.List.{take_rest}
use Rattle.chip.specs.Run.{Ended}
use Rattle.chip.proofs.Telling.{some-number}
use Rattle.runs.proofs.Going.{runs-out, goes-on, stops}
use Rattle.runs.proofs.run_on.Goals as goal

pub loop-left-preserved : goal.loop-left-preserved
loop-left-preserved c =
    rw (take_rest c.loop-left.left.now _)
    (goes-on _ c.loop-left.invariant c.in-len2-up.len_at_least c.in-Ok.ensures.answer c.in-Ok.ensures.memory refl c.do_step.auto.ram)

pub returns-in-Err : goal.returns-in-Err
returns-in-Err c =
    let e = stops _ c.loop-left.invariant c.in-len2-up.len_at_least c.in-Err.ensures.answer c.in-Err.ensures.memory (some-number c.in-Err.refusal) in
    record { answer = ap (λ (r : Ended). r.ran) e; memory = ap (λ (r : Ended). r.ram) e }

pub returns-in_default : goal.returns-in_default
returns-in_default c =
    let e = runs-out _ c.loop-left.invariant c.in_default.len_below in
    record { answer = ap (λ (r : Ended). r.ran) e; memory = ap (λ (r : Ended). r.ram) e }
