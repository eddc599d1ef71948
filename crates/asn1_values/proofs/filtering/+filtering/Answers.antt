use Rattle.std.proofs.Common.{rules, ◌≡◌, ◌+◌, ◌<◌, length, drop, IfOk, List, [], ◌∷◌, ◌++◌, Option, Some, None, subst}
use Rattle.std.proofs.Common.{ap, sym, ◌∙◌, arith, option_map}
use Rattle.ber_values.proofs.DecodingLaws.{values_all, nothing_left}
use Rattle.ber_values.specs.Left.{values_before}
use Rattle.asn1_values.proofs.ComponentLaws.{drop_next}
use Rattle.asn1_values.proofs.FilterLaws.{each_read}
use Rattle.asn1_leaf_values.proofs.RowLaws.{parts_content}
use Rattle.asn1_values_syntax.specs.declared.value.BracesText.TheVariants.{Parts}
use Rattle.term_values.specs.Typed.{TypedValue}
use Rattle.asn1_values.specs.Filters.{rising_filters, where_unnamed, filter_said, filters_said, each_said}
use Rattle.asn1_leaf_values.specs.FirstNames.{arcs_named}
use Rattle.asn1_leaf_values.specs.TextValues.{said, said_name, said_value, content_said, parts_said}
use Rattle.asn1_values.proofs.filtering.+filtering.Goals as goal

pub read_each-loop-part-preserved : goal.read_each-loop-part-preserved
read_each-loop-part-preserved t c =
    let texts = c.args.texts.now in
    let i = c.loop-part.part-index in
    let x = c.part-item.result in
    let left : drop i texts ≡ x ∷ drop (i + 1) texts = drop_next texts i x (search rules) (search rules) in
    let is : where_unnamed (said_name x) (filter_said (arcs_named c.args.names.now) (said_value x)) ≡ Some c.in-Some.value = search rules in
    let pushed : c.push.new.self.items ≡ c.loop-part.items.items ++ c.in-Some.value ∷ [] = search rules in
    c.loop-part.invariant ∙ each_read (arcs_named c.args.names.now) c.loop-part.items.items x (drop i texts) (drop (i + 1) texts)
    c.in-Some.value left is
    ∙ ap (λ xs. option_map (values_before xs) (each_said (arcs_named c.args.names.now) (parts_said (drop (i + 1) texts)))) (sym pushed)

pub read_each-returns : goal.read_each-returns
read_each-returns t c =
    let none : drop c.loop-part.part-index c.args.texts.now ≡ [] =
    nothing_left c.args.texts.now c.loop-part.part-index (omega arith) in
    c.loop-part.invariant
    ∙ ap (λ xs. option_map (values_before c.loop-part.items.items) (each_said (arcs_named c.args.names.now) (parts_said xs))) none
    ∙ ap Some (values_all c.loop-part.items.items)

pub read_set-returns-in-None : goal.read_set-returns-in-None
read_set-returns-in-None t c =
    let parts = c.in-Parts.parts in
    let text : said c.args.text.now ≡ content_said (Parts parts) = search rules in
    let lent : c.as_slice.result.now ≡ parts.items = search rules in
    let none : each_said (arcs_named c.args.names.now) (parts_said parts.items) ≡ None = search rules in
    ap (λ s. option_map rising_filters (filters_said (arcs_named c.args.names.now) s)) (text ∙ parts_content parts)
    ∙ ap (option_map rising_filters) none

pub read_set-returns-in-Some : goal.read_set-returns-in-Some
read_set-returns-in-Some t c =
    let parts = c.in-Parts.parts in
    let text : said c.args.text.now ≡ content_said (Parts parts) = search rules in
    let lent : c.as_slice.result.now ≡ parts.items = search rules in
    let some : each_said (arcs_named c.args.names.now) (parts_said parts.items) ≡ Some c.in-Some.values = search rules in
    let whole : option_map rising_filters (filters_said (arcs_named c.args.names.now) (said c.args.text.now))
    ≡ Some (rising_filters c.in-Some.values) =
    ap (λ s. option_map rising_filters (filters_said (arcs_named c.args.names.now) s)) (text ∙ parts_content parts)
    ∙ ap (option_map rising_filters) some in
    subst (λ (o : Option TypedValue). IfOk c.sorted-in-Some.result (λ found. o ≡ found)) (sym whole) (search rules)
