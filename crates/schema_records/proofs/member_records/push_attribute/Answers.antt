-- The attribute with its syntax.
use Rattle.std.proofs.Common.{ap}
use Rattle.std.specs.Option.{option_copied}
use Rattle.schema_records.specs.AddedRecords.AddsAttribute.{one}
use Rattle.schema_records.proofs.member_records.push_attribute.Goals as goal

pub returns-in_ok-push-in-Some-attribute_syntax : goal.returns-in_ok-push-in-Some-attribute_syntax
returns-in_ok-push-in-Some-attribute_syntax c = λ ms known have at.
    let syntax = c.in-Some-attribute_syntax.syntax.now in
    let has = (c.attribute_syntax.ensures ms known syntax).0 (ap option_copied c.in-Some-attribute_syntax.is) in
    one c.in_ok-found-in-Some-attribute_syntax.found c.in_ok-push-in-Some-attribute_syntax.ensures.stored
    (c.in_ok-found-in-Some-attribute_syntax.ensures ms known at c.in-Some.is has)
