-- What the module assigns, else what it imports.
use Rattle.std.proofs.Common.{rules, ◌≡◌, ◌∙◌, ℕ, List, None, Some, Option, ap, option_map, slice_get, sym, Bor}
use Rattle.std.proofs.Math.Path.{subst}
use Rattle.std.specs.Option.{option_copied}
use Rattle.asn1_names.specs.CodeMeanings.{Means}
use Rattle.asn1_names.specs.NameMeaning.{meaning_within}
use Rattle.asn1_names.specs.TermViews.{module_terms}
use Rattle.asn1_names.proofs.TableLaws.{name_imported, name_own, name_unknown}
use Rattle.asn1_names.proofs.name_tables.NameTables.name_meaning.Goals as goal

pub returns-in-Some : goal.returns-in-Some
returns-in-Some c = subst (λ m. Means (module_terms c.args.self.now) c.meaning_within.result m)
    (ap (λ w. meaning_within (module_terms c.args.self.now) w c.args.name.now) c.module_meaning.ensures ∙
    sym (name_imported (module_terms c.args.self.now) c.args.home c.args.name.now c.in-Some.from.now
    c.in-Nothing.ensures (sym c.imported_from.ensures ∙ ap (option_map (λ text. text.now)) c.in-Some.is)))
    c.meaning_within.ensures

pub returns-in-None : goal.returns-in-None
returns-in-None c = name_unknown (module_terms c.args.self.now) c.args.home c.args.name.now c.in-Nothing.ensures
    (sym c.imported_from.ensures ∙ ap (option_map (λ text. text.now)) c.in-None.is)

pub returns-in_default : goal.returns-in_default
returns-in_default c = name_own (module_terms c.args.self.now) c.args.home c.args.name.now c.assigned_in.result
    c.in_default.not-Nothing c.assigned_in.ensures
