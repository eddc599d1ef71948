-- The name behind the point in its module, or the name alone.
use Rattle.std.proofs.Common.{rules, ◌≡◌, ◌∙◌, ℕ, List, None, Some, Option, ap, option_map, slice_get, sym, Bor}
use Rattle.std.proofs.Math.Path.{subst}
use Rattle.std.specs.Option.{option_copied}
use Rattle.asn1_names.specs.CodeMeanings.{Means}
use Rattle.asn1_names.specs.NameMeaning.{meaning_within, name_meaning}
use Rattle.asn1_names.specs.TermViews.{module_terms}
use Rattle.asn1_names.proofs.TableLaws.{reference_alone, reference_within}
use Rattle.asn1_names.proofs.name_tables.NameTables.reference_meaning.Goals as goal

pub returns-in-Some : goal.returns-in-Some
returns-in-Some c = subst (λ m. Means (module_terms c.args.self.now) c.meaning_within.result m)
    (search rules ∙ sym (reference_within (module_terms c.args.self.now) c.args.home c.args.name.now
    c.in-Some.member c.in-Some.is))
    c.meaning_within.ensures

pub returns-in-None : goal.returns-in-None
returns-in-None c = subst (λ m. Means (module_terms c.args.self.now) c.name_meaning.result m)
    (search rules ∙ sym (reference_alone (module_terms c.args.self.now) c.args.home c.args.name.now c.in-None.is))
    c.name_meaning.ensures
