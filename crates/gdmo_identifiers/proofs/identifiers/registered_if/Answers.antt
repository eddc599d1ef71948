-- The identifier is an object identifier, or not.
use Rattle.std.proofs.Common.{◌∙◌, sym}
use Rattle.gdmo_names.specs.FoundViews.{found_view}
use Rattle.gdmo_identifiers.proofs.TemplateLaws.{placed_told, unplaced_told}
use Rattle.gdmo_identifiers.proofs.identifiers.registered_if.Goals as goal

pub returns-then-is_one : goal.returns-then-is_one
returns-then-is_one c = λ parts row own listed told is.
    placed_told parts row (found_view c.args.found.now) c.args.list own c.registered_at.result
    (sym is ∙ c.if-is_one.true) listed told c.registered_at.ensures

pub returns-else-is_one : goal.returns-else-is_one
returns-else-is_one c = λ parts row own listed told is.
    unplaced_told parts row (found_view c.args.found.now) own (sym is ∙ c.if-is_one.false) told
