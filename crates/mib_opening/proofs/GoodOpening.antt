-- The map that an opening gives is well-formed, where the schema is whole and everything in it has an encoding.
use Rattle.std.proofs.Common.{◌≡◌, List, Ok, Err}
use Rattle.std.specs.Prelude.{IfOk, Result}
use Rattle.term_model.specs.declared.objects.NamedObject.{NamedObject}
use Rattle.term_model.specs.declared.schema.Set.{Set}
use Rattle.term_model.specs.Opening.{opened}
use Rattle.term_model.specs.WellFormedObjects.{AreGood}
use Rattle.term_model.specs.WholeSet.{IsWhole}
use Rattle.opening_laws.specs.Encodable.{IsEncodable}
use Rattle.opening_laws.proofs.Good.{opened_good}

pub good_opening : {E : Type 0} (schema : Set) (result : Result (List NamedObject) E)
    → IfOk result (λ objects. opened schema ≡ Ok objects)
    → IfOk result (λ objects. IsWhole schema → IsEncodable schema → AreGood schema objects)
good_opening schema (Ok objects) is = λ whole encodable. opened_good schema objects whole encodable is
good_opening schema (Err refusal) is = tt
