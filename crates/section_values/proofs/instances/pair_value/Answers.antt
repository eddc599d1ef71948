-- The value of the text, where it denotes one.
use Rattle.section_values.proofs.StepLaws.{attribute_told}
use Rattle.section_values.proofs.instances.pair_value.Goals as goal

pub returns-clause-told : goal.returns-clause-told
returns-clause-told c = λ ms known.
    attribute_told c.args.pair.now c.in_ok-value.value (λ syntax has. c.in_ok-value.ensures.told ms syntax known has)
