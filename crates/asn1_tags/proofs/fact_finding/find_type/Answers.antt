-- First the nodes, then the tags.
use Rattle.std.proofs.Common.{◌∙◌, ap, subst}
use Rattle.std.specs.Prelude.{slice_get, unwrap_or}
use Rattle.asn1_names.specs.TermViews.{module_terms}
use Rattle.asn1_tags.specs.DraftFacts.{CountsType}
use Rattle.asn1_tags.proofs.OrderedFacts.{finds_type}
use Rattle.asn1_tags.proofs.NodeLaws.{ok_then}
use Rattle.asn1_tags.proofs.fact_finding.find_type.Goals as goal

pub returns : goal.returns
returns c = ok_then c.gather_type.result (λ gathers. finds_type c.args.draft.now
    (record { nodes = c.count_type.new.nodes; sources = c.gather_type.new.sources; sets = c.gather_type.new.sets })
    c.nodes_told-nodes.result
    (subst (λ modules. CountsType (module_terms modules) c.args.cyclic.now c.args.number c.args.draft.now.nodes.items
    c.count_type.new.nodes.items) c.tables.ensures c.count_type.ensures) gathers
    (c.nodes_told-nodes.ensures ∙ ap (λ xs. unwrap_or (slice_get xs c.args.number) 0) c.as_slice.ensures.value))
    c.gather_type.ensures
