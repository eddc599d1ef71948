-- ArcRowLaws: the parts in braces, as a row and as a list.
use Rattle.std.proofs.Common.{◌≡◌, ◌∙◌, ap, refl}
use Rattle.std.specs.declared.alloc.Global.{Global}
use Rattle.std.specs.declared.vec.Vec.{Vec}
use Rattle.token_grammar.specs.declared.token.Token.{Token}
use Rattle.asn1_values_syntax.specs.declared.value.BracesText.{Row_of-ValuePart, end_of-ValuePart, more_of-ValuePart}
use Rattle.asn1_values_syntax.specs.declared.value.BracesText.{items-the_row-ValuePart}
use Rattle.asn1_values_syntax.specs.declared.value.BracesText.{items_hidden-the_row-ValuePart-0}
use Rattle.asn1_values_syntax.specs.declared.value.BracesText.TheBlock.{hidden-the_row-ValuePart-0}
use Rattle.asn1_values_syntax.specs.declared.value.BracesText.TheVariants.{Parts}
use Rattle.asn1_values_syntax.specs.declared.value.ValuePart.{ValuePart}
use Rattle.gdmo_names.specs.ArcViews.{braces_arcs, row_arcs}
use Rattle.identifier_arcs.specs.ArcTexts.{list_arcs}

row_said : {n : _} (brace : Token) (row : Row_of-ValuePart n) →
    row_arcs brace row ≡ list_arcs brace (items-the_row-ValuePart n row)
row_said brace end_of-ValuePart = refl
row_said brace (more_of-ValuePart part end_of-ValuePart) = refl
row_said brace (more_of-ValuePart part (more_of-ValuePart other others)) = refl

pub parts_said : (brace : Token) (parts : Vec ValuePart Global) →
    braces_arcs brace (Parts parts) ≡ list_arcs brace parts.items
parts_said brace parts = row_said brace (hidden-the_row-ValuePart-0 parts) ∙
    ap (list_arcs brace) (items_hidden-the_row-ValuePart-0 parts)
