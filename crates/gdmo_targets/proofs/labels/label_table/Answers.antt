-- One more label, and all of them.
use Rattle.std.proofs.Common.{◌<◌, ◌≤◌, arith, length}
use Rattle.asn1_names.specs.FirstNames.{found}
use Rattle.gdmo_names.specs.FoundViews.{found_views}
use Rattle.gdmo_targets.proofs.TableLaws.{table_begun, table_end, table_step}
use Rattle.gdmo_targets.proofs.labels.label_table.Goals as goal

pub loop-number-init : goal.loop-number-init
loop-number-init c = table_begun (found_views c.args.templates.now) c.new-table.result c.new-table.ensures.empty

pub loop-number-preserved : goal.loop-number-preserved
loop-number-preserved c =
    let within : c.loop-number.number < length c.args.templates.now = omega (arith, c.loop-number-test.true) in
    table_step c.args.templates.now c.loop-number.number c.index-templates-number.result
    (found c.loop-number.table) (found c.keep_label.new.table) within c.index-templates-number.is
    c.loop-number.invariant c.in_ok-keep_label.ensures

pub returns : goal.returns
returns c = λ parts are.
    let past : length c.args.templates.now ≤ c.loop-number.number = omega (arith, c.loop-number-test.false) in
    table_end parts c.args.templates.now c.loop-number.number (found c.loop-number.table) are past
    c.loop-number.invariant
