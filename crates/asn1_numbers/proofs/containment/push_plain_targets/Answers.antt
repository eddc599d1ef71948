-- A name.
use Rattle.std.proofs.Common.{◌∙◌, OnOk, ap, sym}
use Rattle.std.proofs.Math.Path.{subst}
use Rattle.asn1_names.specs.TermViews.{module_terms, plain_term}
use Rattle.asn1_names.proofs.WalkLaws.{named_is}
use Rattle.asn1_numbers.specs.NamedTargets.{AddsNamed}
use Rattle.asn1_numbers.proofs.containment.push_plain_targets.Goals as goal

pub returns-in-Named : goal.returns-in-Named
returns-in-Named c = λ limits. subst (λ t. OnOk c.push_target.result (AddsNamed (module_terms c.args.tables.now)
    c.args.home t c.args.targets.now.items c.push_target.new.targets.items))
    (sym (ap (λ p. plain_term p limits) c.in-Named.is ∙ named_is c.in-Named.name limits))
    (c.push_target.ensures limits)
