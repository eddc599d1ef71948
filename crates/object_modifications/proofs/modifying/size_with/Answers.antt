-- What the attribute added before is taken away, and what it adds now is put in.
use Rattle.std.proofs.Common.{◌≡◌, ◌+◌, ◌-◌, ap, sym, ◌∙◌}
use Rattle.term_values.specs.Lengths.{counted, octet_count}
use Rattle.term_model.specs.declared.object.Attribute.{Attribute}
use Rattle.term_model.specs.ClassAttributes.{syntax_of}
use Rattle.attribute_rules.specs.Weights.{weight}
use Rattle.object_modifications.proofs.WeighingLaws.{octets_of}
use Rattle.object_modifications.proofs.modifying.size_with.Goals as goal

pub returns : goal.returns
returns c = λ syntax held value same named was now.
    let records = c.args.records.now in
    let bound = c.args.seen.now.bound in
    let changed : Attribute = record held { value = value } in
    let its = ap (syntax_of records) same ∙ named in
    let less : c.weight_by-less.result ≡ counted (weight records bound held) =
    c.weight_by-less.ensures held same c.in_ok-named.ensures
    (was ∙ ap octet_count (sym (octets_of records held syntax its))) in
    let more : c.weight_by-more.result ≡ counted (weight records bound changed) =
    c.weight_by-more.ensures changed same c.in_ok-named.ensures
    (now ∙ ap octet_count (sym (octets_of records changed syntax its))) in
    c.plus.ensures ∙ ap (λ n. counted (n + c.weight_by-more.result)) c.saturating_sub.ensures
    ∙ ap (λ n. counted (c.args.total - n + c.weight_by-more.result)) less
    ∙ ap (λ n. counted (c.args.total - counted (weight records bound held) + n)) more
