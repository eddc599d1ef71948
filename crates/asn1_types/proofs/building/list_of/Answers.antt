-- A list.
use Rattle.std.proofs.Common.{◌∙◌, option_map, sym}
use Rattle.std.proofs.lemmas.Result.{IfOk-weaker}
use Rattle.asn1_names.specs.TermViews.{module_terms, range_terms}
use Rattle.asn1_types.proofs.BuildingLaws.{sequence_of_denoted, set_of_denoted}
use Rattle.asn1_types.proofs.building.list_of.Goals as goal

pub returns-then-is_word_of : goal.returns-then-is_word_of
returns-then-is_word_of c = IfOk-weaker c.sized.result _ _ (λ left narrows of denotes said.
    set_of_denoted (module_terms c.args.numbers.now) c.args.home c.args.word.now
    (option_map range_terms c.args.size.now) of c.args.element c.in_ok-element.element.value left c.new-bounds.result
    c.in_ok-element.ensures.ok c.new-bounds.ensures (sym c.is_word_of.ensures ∙ c.if-is_word_of.true) denotes said
    narrows) c.sized.ensures

pub returns : goal.returns
returns c = IfOk-weaker c.sized-2.result _ _ (λ left narrows of denotes said.
    sequence_of_denoted (module_terms c.args.numbers.now) c.args.home c.args.word.now
    (option_map range_terms c.args.size.now) of c.args.element c.in_ok-element.element.value left c.new-bounds.result
    c.in_ok-element.ensures.ok c.new-bounds.ensures (sym c.is_word_of.ensures ∙ c.if-is_word_of.false) denotes said
    narrows) c.sized-2.ensures
