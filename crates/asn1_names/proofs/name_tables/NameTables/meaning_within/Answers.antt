-- The cases of what the name of a module means.
use Rattle.std.proofs.Common.{rules, ◌≡◌, ◌∙◌, ℕ, List, None, Some, Option, ap, option_map, slice_get, sym, Bor}
use Rattle.std.proofs.Math.Path.{subst}
use Rattle.std.specs.Option.{option_copied}
use Rattle.asn1_names.specs.CodeMeanings.{Means, module_meant}
use Rattle.asn1_names.specs.NameMeaning.{meaning_within, standard_meaning}
use Rattle.asn1_names.specs.TermViews.{module_terms}
use Rattle.asn1_names.specs.WordViews.{standard_syntax_of}
use Rattle.asn1_names.proofs.TableLaws.{within_module, within_none, within_standard}
use Rattle.asn1_names.proofs.name_tables.NameTables.meaning_within.Goals as goal

pub returns-in-Some : goal.returns-in-Some
returns-in-Some c =
    ap (λ w. meaning_within (module_terms c.args.self.now) (module_meant w) c.args.name.now) c.in-Standard.is ∙
    within_standard (module_terms c.args.self.now) c.args.name.now ∙
    ap standard_meaning (sym c.standard_type.ensures ∙ ap (option_map standard_syntax_of) c.in-Some.is)

pub returns-in-None : goal.returns-in-None
returns-in-None c =
    ap (λ w. meaning_within (module_terms c.args.self.now) (module_meant w) c.args.name.now) c.in-Standard.is ∙
    within_standard (module_terms c.args.self.now) c.args.name.now ∙
    ap standard_meaning (sym c.standard_type.ensures ∙ ap (option_map standard_syntax_of) c.in-None.is)

pub returns-in-At : goal.returns-in-At
returns-in-At c = subst (λ m. Means (module_terms c.args.self.now) c.assigned_in.result m)
    (sym (within_module (module_terms c.args.self.now) c.in-At.place c.args.name.now) ∙
    sym (ap (λ w. meaning_within (module_terms c.args.self.now) (module_meant w) c.args.name.now) c.in-At.is))
    c.assigned_in.ensures

pub returns-in-Nothing : goal.returns-in-Nothing
returns-in-Nothing c =
    ap (λ w. meaning_within (module_terms c.args.self.now) (module_meant w) c.args.name.now) c.in-Nothing.is ∙
    within_none (module_terms c.args.self.now) c.args.name.now
