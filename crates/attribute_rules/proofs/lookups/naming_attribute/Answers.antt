-- The last part of the name, or of the system's where the name has none.
use Rattle.std.proofs.Common.{rules, ◌≡◌, sym, ap, ◌∙◌}
use Rattle.term_model.specs.Modifiable.{last_attribute}
use Rattle.attribute_rules.proofs.NamingLaws.{last_behind_none, last_behind_some}
use Rattle.attribute_rules.proofs.lookups.naming_attribute.Goals as goal

pub returns-in-Some : goal.returns-in-Some
returns-in-Some c =
    sym
    (last_behind_some c.args.schema.now.system c.args.name.now c.in-Some.attribute.now (sym c.in-Some.ensures))

pub returns-in-None : goal.returns-in-None
returns-in-None c =
    let system : c.as_slice.result.now ≡ c.args.schema.now.system = search rules in
    c.last_attribute-in-None.ensures ∙ ap last_attribute system
    ∙ sym (last_behind_none c.args.schema.now.system c.args.name.now (sym c.in-None.ensures))
