-- A name is imported where its module is told.
use Rattle.std.proofs.Common.{rules, ◌≡◌, ◌∙◌, ℕ, List, None, Some, Option, ap, option_map, slice_get, sym, Bor}
use Rattle.std.proofs.Math.Path.{subst}
use Rattle.std.specs.Option.{option_copied}
use Rattle.asn1_names.specs.NameMeaning.{import_of}
use Rattle.asn1_names.specs.TermViews.{module_terms}
use Rattle.asn1_names.proofs.TableLaws.{same_some}
use Rattle.asn1_names.proofs.name_tables.NameTables.imports.Goals as goal

pub returns : goal.returns
returns c = c.is_some.ensures ∙ same_some c.imported_from.result
    (import_of (module_terms c.args.self.now) c.args.home c.args.name.now) c.imported_from.ensures
