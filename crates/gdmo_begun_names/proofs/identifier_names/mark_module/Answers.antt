-- The module's identifier, and those from which it imports.
use Rattle.gdmo_names.specs.PartViews.{identifier_list, imported_identifiers}
use Rattle.gdmo_begun_names.specs.StatedNames.{StatedFirst}
use Rattle.gdmo_begun_names.proofs.StatedLaws.{marked_append}
use Rattle.gdmo_begun_names.proofs.identifier_names.mark_module.Goals as goal

pub returns : goal.returns
returns c =
    marked_append StatedFirst (identifier_list c.args.text.now.identifier)
    (imported_identifiers c.args.text.now.imports) c.mark_maybe.ensures c.mark_maybe_imports.ensures
