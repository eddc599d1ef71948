-- The type that is meant.
use Rattle.std.proofs.Common.{sym}
use Rattle.std.proofs.Math.Path.{subst}
use Rattle.asn1_names.specs.CodeMeanings.{named_module, named_type}
use Rattle.asn1_names.specs.ModuleTerms.TypeTerm.{Reference}
use Rattle.asn1_names.specs.TermViews.{module_terms}
use Rattle.asn1_numbers.specs.NamedTargets.{AddsNamed}
use Rattle.asn1_numbers.proofs.TargetLaws.{adds_type}
use Rattle.asn1_numbers.proofs.containment.push_target.Goals as goal

pub returns-in_ok-push-in-TypeAt : goal.returns-in_ok-push-in-TypeAt
returns-in_ok-push-in-TypeAt c = λ limits. subst (λ xs. AddsNamed (module_terms c.args.tables.now) c.args.home
    (Reference (named_module c.args.name.now) (named_type c.args.name.now) limits) c.args.targets.now.items xs)
    (sym c.in_ok-push-in-TypeAt.ensures.items)
    (adds_type (module_terms c.args.tables.now) c.args.home (named_module c.args.name.now)
    (named_type c.args.name.now) limits c.in-TypeAt.number c.args.targets.now.items c.in-TypeAt.ensures)
