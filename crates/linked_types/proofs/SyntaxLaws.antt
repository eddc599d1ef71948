-- SyntaxLaws: an attribute has one syntax (X.722, section 8.7).
use Rattle.std.proofs.Common.{◌≡◌, ℕ, List}
use Rattle.term_values.specs.Syntaxes.{TypeSyntax}
use Rattle.asn1_names.specs.ModuleTerms.{ModuleTerm}
use Rattle.linked_parts.specs.declared.linked.Linked.{Linked}
use Rattle.filled_syntaxes.specs.LinkedMeanings.{linked_arcs, linked_meaning}
use Rattle.filled_syntaxes.proofs.FilledLaws.{has_once}
use Rattle.class_faults.specs.AttributeSyntaxes.{AttributeHas}
use Rattle.linked_types.proofs.AttributeLaws.{end_from_has, end_named, ends_somewhere}

-- that of the type that is named where its bases end
pub one_syntax : (ms : List ModuleTerm) (linked : Linked) (k : ℕ) (one other : TypeSyntax) →
    AttributeHas ms linked k one → AttributeHas ms linked k other → one ≡ other
one_syntax ms linked k one other has also =
    let somewhere = ends_somewhere ms linked has in
    let end = end_named ms linked somewhere.1 in
    has_once ms (linked_arcs linked) (linked_meaning ms end.name.meaning) (end_from_has ms linked end has somewhere.1)
    (end_from_has ms linked end also somewhere.1)
