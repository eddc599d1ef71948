-- The module's identifier, and those from which it imports.
use Rattle.gdmo_names.specs.PartViews.{identifier_list, imported_identifiers}
use Rattle.gdmo_identifiers.specs.IdentifierFaults.{StatedFaults}
use Rattle.gdmo_identifiers.proofs.TemplateLaws.{noted_append}
use Rattle.gdmo_identifiers.proofs.module_identifiers.judge_module.Goals as goal

pub returns : goal.returns
returns c = λ parts are.
    noted_append (StatedFaults parts c.args.text.now.document) (identifier_list c.args.text.now.identifier)
    (imported_identifiers c.args.text.now.imports) (c.judge_module_identifier.ensures parts are)
    (c.judge_maybe_imports.ensures parts are)
