-- Each step reads on from where the one before it ended.
use Rattle.std.proofs.Common.{rules, ◌<◌, ◌≤◌, arith, length}
use Rattle.document_units.proofs.UnitRows.{all_read, exit_units, step_on, step_rises}
use Rattle.document_units.proofs.reading.read_units.Goals as goal

pub returns-in_err-at : goal.returns-in_err-at
returns-in_err-at c = let within : c.loop-at.at < length c.args.tokens.now = search rules in
    exit_units c.from_residual.result c.from_residual.ensures.1 within c.in_err-at.ensures c.loop-at.invariant

pub loop-at-smaller : goal.loop-at-smaller
loop-at-smaller c = let within : c.loop-at.at < length c.args.tokens.now = search rules in
    let rises = step_rises c.in_ok-at.ensures in omega (arith, within, rises)

pub loop-at-preserved : goal.loop-at-preserved
loop-at-preserved c = let within : c.loop-at.at < length c.args.tokens.now = search rules in
    step_on within c.in_ok-at.ensures c.loop-at.invariant

pub returns : goal.returns
returns c = let past : length c.args.tokens.now ≤ c.loop-at.at = search rules in all_read past c.loop-at.invariant
