-- One more number.
use Rattle.std.proofs.Common.{◌≡◌, ◌∙◌, List, Some, None, ap, if◌then◌else◌, option_map, sym}
use Rattle.asn1_names.specs.FirstNames.{first_of}
use Rattle.asn1_names.specs.StandardModule.{is_same_name}
use Rattle.asn1_names.specs.TermViews.{bound_term, integer_term}
use Rattle.asn1_names.proofs.NamedLaws.{called_none, called_step}
use Rattle.asn1_names.proofs.NumberLaws.{empty_found}
use Rattle.asn1_names.proofs.named_numbers.first_numbers.Goals as goal

pub loop-named-init : goal.loop-named-init
loop-named-init c = λ name. ap (option_map (λ bound. bound_term bound.now))
    (empty_found c.new-table.result name c.new-table.ensures.empty) ∙ sym (called_none name)

pub loop-named-preserved : goal.loop-named-preserved
loop-named-preserved c = λ name. c.in_ok-keep_number.ensures name ∙
    ap (λ z. first_of z (if is_same_name c.as_slice.result.now name then Some (bound_term c.named-item.result.number)
    else None)) (c.loop-named.invariant name) ∙
    called_step name integer_term c.args.numbers.now c.loop-named.named-index c.named-item.result
    c.as_slice.result.now c.as_slice.ensures c.loop-named-test.true c.named-item.is
