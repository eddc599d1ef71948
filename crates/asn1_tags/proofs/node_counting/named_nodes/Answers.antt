-- The nodes of a name.
use Rattle.std.proofs.Common.{◌∙◌, sym, refl}
use Rattle.asn1_names.specs.CodeMeanings.{named_module, named_type}
use Rattle.asn1_names.specs.NodeCount.HasNodes.{standard, unknown}
use Rattle.asn1_tags.proofs.CountLaws.{cyclic_count, fits_count, named_count, no_type_nothing, no_type_value}
use Rattle.asn1_tags.proofs.node_counting.named_nodes.Goals as goal

pub returns-then-is_marked : goal.returns-then-is_marked
returns-then-is_marked c = λ limits known. cyclic_count c.args.known.now.nodes.now c.in-TypeAt.number (named_module
    c.args.name.now)
    (named_type c.args.name.now) limits known (c.in-TypeAt.ensures) (sym c.is_marked.ensures ∙ c.if-is_marked.true)

pub returns-else-is_marked : goal.returns-else-is_marked
returns-else-is_marked c = λ limits known. named_count c.args.known.now.nodes.now c.in-TypeAt.number c.nodes_told.result
    (named_module c.args.name.now) (named_type c.args.name.now) limits known (c.in-TypeAt.ensures)
    (sym c.is_marked.ensures ∙ c.if-is_marked.false) c.nodes_told.ensures

pub returns-in-Standard : goal.returns-in-Standard
returns-in-Standard c = λ limits known. (
  c.standard_nodes.result,
  standard (c.in-Standard.ensures) c.standard_nodes.ensures,
  fits_count c.standard_nodes.result c.standard_nodes.type_inv,
)

pub returns-in-ValueAt : goal.returns-in-ValueAt
returns-in-ValueAt c = λ limits known. (0, unknown (no_type_value (c.in-ValueAt.ensures)), refl)

pub returns-in-Nothing : goal.returns-in-Nothing
returns-in-Nothing c = λ limits known. (0, unknown (no_type_nothing (c.in-Nothing.ensures)), refl)
