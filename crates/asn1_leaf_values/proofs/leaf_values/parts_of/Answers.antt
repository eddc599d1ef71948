use Rattle.std.proofs.Common.{rules, ◌≡◌, sym, ap, ◌∙◌}
use Rattle.std.specs.Prelude.{Some}
use Rattle.asn1_values_syntax.specs.declared.value.BracesText.TheVariants.{Parts}
use Rattle.asn1_leaf_values.specs.TextValues.{said, content_said, parts_of, parts_said}
use Rattle.asn1_leaf_values.proofs.RowLaws.{parts_content}
use Rattle.asn1_leaf_values.proofs.leaf_values.parts_of.Goals as goal

pub returns-in-Braces-default-Parts : goal.returns-in-Braces-default-Parts
returns-in-Braces-default-Parts c =
    let parts = c.in-Braces-default-Parts.parts in
    let items : c.as_slice.result.now ≡ parts.items = search rules in
    let text : said c.args.text.now ≡ content_said (Parts parts) = search rules in
    sym (ap parts_of text ∙ ap parts_of (parts_content parts) ∙ ap (λ xs. Some (parts_said xs)) (sym items))
