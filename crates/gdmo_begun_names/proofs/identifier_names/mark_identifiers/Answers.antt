-- Those of modules, and those of templates.
use Rattle.gdmo_begun_names.proofs.StatedLaws.{all_marked}
use Rattle.gdmo_begun_names.proofs.identifier_names.mark_identifiers.Goals as goal

pub returns : goal.returns
returns c = λ parts has are.
    all_marked parts c.args.modules.now c.args.templates.now has are c.mark_modules.ensures c.mark_templates.ensures
