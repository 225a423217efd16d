-- `mcs48_c::mcs48_step` meets its contract: a run over two samples is one step.
-- Assumes nothing.
use mathlib.Core.Path.{◌∙◌}
use borrow.Author.Rules.{rules}
use Rattle.mcs48_c.proofs.OneStep.{stepped, little, left, kept}
use Rattle.mcs48_c.proofs.mcs48_step.Goals as goal

pub overflow_cast-r : goal.overflow_cast-r
overflow_cast-r c =
    let a = c.args in
    let fit = little a.set a.program.now a.outside.now a.ram.now a.state.now _ _ c.run_lent-r.ensures.answer in
    search rules

pub overflow_cast-r-2 : goal.overflow_cast-r-2
overflow_cast-r-2 c =
    let a = c.args in
    let fit = little a.set a.program.now a.outside.now a.ram.now a.state.now _ _ c.run_lent-r.ensures.answer in
    search rules

pub returns : goal.returns
returns c =
    let ran = c.run_lent-r.ensures in
    let a = c.args in
    let program = a.program.now in
    let outside = a.outside.now in
    let ram = a.ram.now in
    let bytes = a.state.now in
    record {
      answer = c.pack_step.ensures ∙ stepped a.set program outside ram bytes a.first a.second c.run_lent-r.result ran.answer;
      memory = ran.memory ∙ left a.set program outside ram bytes a.first a.second;
      left = ran.left ∙ kept a.set program outside ram bytes a.first a.second;
    }
