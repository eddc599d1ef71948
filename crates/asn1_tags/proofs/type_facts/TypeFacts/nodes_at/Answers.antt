-- The nodes are those that are kept.
use Rattle.std.proofs.Common.{ap, subst, ◌∙◌}
use Rattle.std.specs.Prelude.{slice_get, unwrap_or}
use Rattle.asn1_names.specs.TermViews.{module_terms}
use Rattle.asn1_tags.specs.ToldFacts.{TellsNodes}
use Rattle.asn1_tags.proofs.OrderedFacts.{nodes_are_told}
use Rattle.asn1_tags.proofs.type_facts.TypeFacts.nodes_at.Goals as goal

pub returns : goal.returns
returns c = subst (λ modules. TellsNodes (module_terms modules) c.args.number c.nodes_told.result) c.self.view_is
    (nodes_are_told c.args.number c.nodes_told.result c.self.invariant (c.nodes_told.ensures ∙
    ap (λ xs. unwrap_or (slice_get xs c.args.number) 0) c.as_slice.ensures.value))
