-- The identifier of the attribute.
use Rattle.std.proofs.Common.{◌∙◌, sym}
use Rattle.gdmo_begun_names.proofs.FilterLaws.{assertion_named, assertion_other}
use Rattle.gdmo_begun_names.proofs.filter_names.assertion_part.Goals as goal

pub returns-then-is_named : goal.returns-then-is_named
returns-then-is_named c = assertion_named c.args.name.now (sym c.is_named.ensures ∙ c.if-is_named.true)

pub returns-else-is_named : goal.returns-else-is_named
returns-else-is_named c = assertion_other c.args.name.now (sym c.is_named.ensures ∙ c.if-is_named.false)
