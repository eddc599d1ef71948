-- What a Get tells by the sets that it goes by: X.711, section 7.4.
use Rattle.std.specs.Prelude.{ℕ, List, [], ◌∷◌, Bool, true, false, ◌||◌, filter, map, not}
use Rattle.std.specs.BTreeSet.{BTreeSet}
use Rattle.term_model.specs.declared.object.Attribute.{Attribute}
use Rattle.term_model.specs.declared.request.IdRef.{IdRef}
use Rattle.term_model.specs.declared.request.IdRef.TheVariants as ids
use Rattle.term_model.specs.declared.results.AttributeValue.{AttributeValue}
use Rattle.term_model.specs.declared.results.GetInfoStatus.{GetInfoStatus}
use Rattle.term_model.specs.declared.schema.AttrRec.{AttrRec}
use Rattle.term_model.specs.ObjectGet.{not_before, not_readable, not_there, told}
use Rattle.op_object.specs.IdSets.{has_id}

-- the identifier is that of an attribute that is held, or of a group that is used
abbrev pub is_there : BTreeSet (List ℕ) → BTreeSet (List ℕ) → IdRef → Bool
is_there held used (ids.Global id) = has_id held id || has_id used id
is_there held used (ids.Local number) = false

-- the error of an identifier that didn't come before and is not there
abbrev pub absent_of : Bool → Bool → IdRef → List GetInfoStatus
absent_of true there id = []
absent_of false true id = []
absent_of false false id = not_there id ∷ []

abbrev pub absent_errors : BTreeSet (List ℕ) → BTreeSet (List ℕ) → List IdRef → List IdRef → List GetInfoStatus
absent_errors held used before asked =
    map not_there (filter (λ (id : IdRef). not (is_there held used id)) (not_before before asked))

abbrev pub wanted_of : BTreeSet (List ℕ) → List Attribute → List Attribute
wanted_of wanted attributes = filter (λ (attribute : Attribute). has_id wanted attribute.id) attributes

abbrev pub denied_errors : BTreeSet (List ℕ) → BTreeSet (List ℕ) → List Attribute → List GetInfoStatus
denied_errors wanted readable attributes =
    map not_readable
    (filter (λ (attribute : Attribute). not (has_id readable attribute.id)) (wanted_of wanted attributes))

abbrev pub values_given : List AttrRec → BTreeSet (List ℕ) → BTreeSet (List ℕ) → List Attribute → List AttributeValue
values_given records wanted readable attributes =
    map (told records)
    (filter (λ (attribute : Attribute). has_id readable attribute.id) (wanted_of wanted attributes))
