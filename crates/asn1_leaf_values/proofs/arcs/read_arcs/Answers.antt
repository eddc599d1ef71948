use Rattle.std.proofs.Common.{rules, ◌≡◌, ◌∷◌, [], IfOk, None, length, get_or, ap, sym, subst, ◌∙◌}
use Rattle.asn1_values_syntax.specs.declared.value.BracesText.TheVariants.{Parts}
use Rattle.asn1_leaf_values.proofs.RowLaws.{parts_content, no_arcs, one_part}
use Rattle.asn1_leaf_values.specs.Arcs.{arcs_said}
use Rattle.asn1_leaf_values.specs.FirstNames.{arcs_named}
use Rattle.asn1_leaf_values.specs.TextValues.{TextValue, said, said_name, said_value, content_said, parts_said}
use Rattle.asn1_leaf_values.specs.TextValues.TextValue.{InBraces}
use Rattle.asn1_leaf_values.specs.TextValues.TextParts.{NoTexts, AndText}
use Rattle.asn1_leaf_values.proofs.arcs.read_arcs.Goals as goal

pub returns-then-parts-ne1 : goal.returns-then-parts-ne1
returns-then-parts-ne1 c =
    let parts = c.in-Parts.parts in
    let text : said c.args.text.now ≡ content_said (Parts parts) = search rules in
    let names = arcs_named c.args.names.now in
    ap (arcs_said names) (text ∙ parts_content parts) ∙ no_arcs names parts.items (search rules)

pub returns-else-parts-ne1 : goal.returns-else-parts-ne1
returns-else-parts-ne1 c =
    let parts = c.in-Parts.parts in
    let x = c.index-parts-0.result in
    let text : said c.args.text.now ≡ content_said (Parts parts) = search rules in
    let one : parts_said parts.items ≡ AndText (said_name x) (said_value x) NoTexts =
    one_part parts.items x (search rules) (search rules) in
    let whole : said c.args.text.now ≡ InBraces (AndText (said_name x) (said_value x) NoTexts) =
    text ∙ parts_content parts ∙ ap InBraces one in
    subst (λ (s : TextValue). IfOk c.alone_arcs.result (λ found. arcs_said (arcs_named c.args.names.now) s ≡ found))
    (sym whole) c.alone_arcs.ensures
