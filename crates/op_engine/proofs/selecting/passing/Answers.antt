-- One object more is tried.
use Rattle.std.proofs.Common.{◌++◌, ◌∷◌, ◌∙◌, [], ap, arith, sym}
use Rattle.std.specs.Prelude.{if◌then◌else◌}
use Rattle.op_engine.specs.Selecting.{passes}
use Rattle.op_engine.proofs.SelectLaws.{passed_more}
use Rattle.op_engine.proofs.selecting.passing.Goals as goal

pub loop-entry-preserved : goal.loop-entry-preserved
loop-entry-preserved c =
    let x = c.entry-item.result in
    c.in_ok-add_passing.ensures
    ∙ ap (λ es. es ++ (if passes c.args.schema.now c.args.filter.now x.now then x.now ∷ [] else []))
    c.loop-entry.invariant
    ∙ sym (passed_more c.args.schema.now c.args.filter.now c.args.entries.now c.loop-entry.entry-index x x (omega arith)
    c.entry-item.is)
