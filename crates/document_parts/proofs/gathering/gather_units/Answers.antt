-- Each step reads on from where the one before it ended.
use Rattle.std.proofs.Common.{rules, ◌<◌, ◌≤◌, arith, length}
use Rattle.document_parts.proofs.GatheringLaws.{exit_units, gathered_end, gathered_rises, gathered_start, gathered_step}
use Rattle.document_parts.proofs.gathering.gather_units.Goals as goal

pub loop-at-init : goal.loop-at-init
loop-at-init c = gathered_start c.args.tokens.now c.args.document c.args.parts.now

pub returns-in_err-at : goal.returns-in_err-at
returns-in_err-at c = let within : c.loop-at.at < length c.args.tokens.now = search rules in
    exit_units _ c.from_residual.result c.from_residual.ensures.1 within c.in_err-at.ensures c.loop-at.invariant

pub loop-at-smaller : goal.loop-at-smaller
loop-at-smaller c = let within : c.loop-at.at < length c.args.tokens.now = search rules in
    let rises = gathered_rises c.in_ok-at.ensures in omega (arith, within, rises)

pub loop-at-preserved : goal.loop-at-preserved
loop-at-preserved c = let within : c.loop-at.at < length c.args.tokens.now = search rules in
    gathered_step within c.loop-at.invariant c.in_ok-at.ensures

pub returns : goal.returns
returns c = let past : length c.args.tokens.now ≤ c.loop-at.at = search rules in
    gathered_end past c.loop-at.invariant
