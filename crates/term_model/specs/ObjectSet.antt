-- What a Set does to one object: X.711, section 7.4, m-Set; docs/PROFILE.md, section 15.
use Rattle.std.specs.Prelude.{ℕ, List, [], ◌∷◌, ◌++◌, Bool, true, false, Option, Some, Result, Ok, Err, filter, map}
use Rattle.std.specs.Prelude.{if◌then◌else◌}
use Rattle.term_values.specs.ResultSyntaxes.{attributes_result}
use Rattle.term_values.specs.SameValue.{same_value}
use Rattle.term_model.specs.declared.effect.Diff.{Diff}
use Rattle.term_model.specs.declared.effect.Effect.{Effect}
use Rattle.term_model.specs.declared.effect.Source.{Source}
use Rattle.term_model.specs.declared.effect.What.TheVariants as what
use Rattle.term_model.specs.declared.name.Rdn.{Rdn}
use Rattle.term_model.specs.declared.object.Attribute.{Attribute}
use Rattle.term_model.specs.declared.object.Object.{Object}
use Rattle.term_model.specs.declared.reply.CmisError.{CmisError}
use Rattle.term_model.specs.declared.reply.Reply.{Reply}
use Rattle.term_model.specs.declared.reply.Reply.TheVariants as reply
use Rattle.term_model.specs.declared.request.Change.{Change}
use Rattle.term_model.specs.declared.results.AttributeValue.{AttributeValue}
use Rattle.term_model.specs.declared.results.SetInfoStatus.{SetInfoStatus}
use Rattle.term_model.specs.declared.results.SetInfoStatus.TheVariants as set_info
use Rattle.term_model.specs.declared.schema.AttrRec.{AttrRec}
use Rattle.term_model.specs.declared.schema.Set.{Set}
use Rattle.term_model.specs.CmisErrors.{set_list_error}
use Rattle.term_model.specs.ObjectOperation.{value_octets}
use Rattle.term_model.specs.Replies.{single}
use Rattle.term_model.specs.ResultValues.{attributes_value}
use Rattle.term_model.specs.Modifications.{Modified, modified, unmodified}
use Rattle.term_model.specs.ObjectGet.{told}
use Rattle.term_model.specs.PresentPackages.{is_among}

-- an attribute with its value before and its value now
abbrev pub diff_of : List AttrRec → Attribute → Attribute → Diff
diff_of records before now = record {
  attribute = before.id;
  old = value_octets records before;
  new = value_octets records now;
}

-- the attributes that have another value than before
abbrev pub differing : List AttrRec → List Attribute → List Attribute → List Diff
differing records (before ∷ earlier) (now ∷ later) =
    if same_value before.value now.value then differing records earlier later
    else diff_of records before now ∷ differing records earlier later
differing records _ _ = []

-- an object that differs is left under its name
abbrev pub patch_of : List Rdn → Object → List Diff → List (List Rdn × Option Object)
patch_of name object [] = []
patch_of name object (diff ∷ diffs) = (name, Some object) ∷ []

-- and is the source of an event
abbrev pub source_of : List Rdn → List ℕ → List Diff → List Source
source_of name class [] = []
source_of name class (diff ∷ diffs) =
    record { name = name; class = class; what = what.Differs (diff ∷ diffs) } ∷ []

abbrev pub left_by : Set → List Rdn → Object → Object → Reply → Effect
left_by schema name before now answer =
    let diffs = differing schema.attributes before.attrs now.attrs in
    record {
      changes = patch_of name now diffs;
      reply = answer;
      sources = source_of name now.class diffs;
    }

-- the attributes that modifications changed, once each, with their values at the end
abbrev pub modified_attributes : Set → Modified → List AttributeValue
modified_attributes schema made =
    map (told schema.attributes)
    (filter (λ (attribute : Attribute). is_among made.done attribute.id) made.object.attrs)

-- some modification was made, and the Set isn't atomic: those that were made stay
abbrev pub stays : Bool → List (List ℕ) → Bool
stays true done = false
stays false [] = false
stays false (id ∷ done) = true

-- a result where no modification failed. Else, by best effort, setListError with the errors and the attributes that
-- were changed all the same; and where nothing stays, with the errors alone.
abbrev pub set_with : Set → List Rdn → Object → Modified → Bool → List ℕ → List SetInfoStatus → Result Effect CmisError
set_with schema name object made atomic time [] =
    Ok (left_by schema name object made.object
    (single attributes_result (attributes_value object.class name time (modified_attributes schema made))))
set_with schema name object made atomic time (failure ∷ failures) =
    if stays atomic made.done
    then Ok (left_by schema name object made.object
    (reply.Error (set_list_error object.class name time
    ((failure ∷ failures) ++ map set_info.Attribute (modified_attributes schema made)))))
    else Err (set_list_error object.class name time (failure ∷ failures))

-- the Set of an object, granted at the moment that this text tells
abbrev pub set_effect : Set → List Rdn → Object → List Change → Bool → List ℕ → Result Effect CmisError
set_effect schema name object changes atomic time =
    let made = modified schema name (unmodified object) changes in
    set_with schema name object made atomic time made.failures
