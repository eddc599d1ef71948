-- The class that is registered.
use Rattle.schema_records.proofs.class_records.push_class.Goals as goal

pub returns-in_ok-push-in-Some-clause-told : goal.returns-in_ok-push-in-Some-clause-told
returns-in_ok-push-in-Some-clause-told c = λ ms known registered. record {
  x = c.in_ok-class_record-in-Some.field-0;
  behind = c.in_ok-push-in-Some.ensures.stored;
  is = c.in_ok-class_record-in-Some.ensures.told ms known c.in-Some.is registered;
}
