-- The name of the only part.
use Rattle.std.proofs.Common.{◌∙◌, ap, sym}
use Rattle.token_grammar.specs.Form.{Bare, Empty, First, Pair, Second}
use Rattle.token_grammar.specs.Parts.{list_tree}
use Rattle.asn1_values_syntax.proofs.Rows.{parts_content}
use Rattle.asn1_values_syntax.specs.ValueTrees.{content_tree, part_tree}
use Rattle.gdmo_names.specs.ValueNames.{content_name}
use Rattle.gdmo_begun_names.proofs.begun_names.content_name.Goals as goal

pub returns-in-Parts : goal.returns-in-Parts
returns-in-Parts c = c.only_name.ensures
    ∙ ap (λ xs. content_name (Second (First (Pair (list_tree part_tree Empty xs) Bare)))) c.as_slice.ensures.value
    ∙ ap content_name (sym (parts_content c.in-Parts.parts))
    ∙ ap (λ x. content_name (content_tree x)) (sym c.in-Parts.is)
