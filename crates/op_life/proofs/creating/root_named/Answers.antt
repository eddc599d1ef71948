-- The steps of the root, one after the other.
use Rattle.std.proofs.Common.{rules, ◌≡◌, true}
use Rattle.term_model.specs.Creating.{has_value}
use Rattle.term_model.specs.Creation.{outline_of}
use Rattle.term_model.specs.Licensing.{names_by}
use Rattle.op_life.specs.AskingView.{asking_view}
use Rattle.op_life.proofs.PlacingLaws.{root_made}
use Rattle.op_life.proofs.creating.root_named.Goals as goal

pub returns-then-fits : goal.returns-then-fits
returns-then-fits c =
    let whole : c.in_ok-outline.outline ≡ outline_of c.args.schema.now c.args.class.now c.args.asking.now.given =
    search rules in
    let names : true ≡ names_by c.args.schema.now c.in_ok-outline.outline c.args.part.now.attribute = search rules in
    let value : true ≡ has_value c.args.schema.now c.args.part.now = search rules in
    root_made c.args.schema.now (asking_view c.args.asking.now) c.args.class.now c.args.part.now
    c.in_ok-outline.outline c.in_ok-creation.creation c.in_ok-came.came c.object_of.result whole
    c.in_ok-creation.ensures c.in_ok-came.ensures c.object_of.ensures names value
