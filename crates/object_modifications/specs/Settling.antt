-- An object on its way through modifications, as the definition has it: X.711, section 7.4, m-Set.
use Rattle.std.specs.Prelude.{◌≡◌, ℕ, ℤ, List, Bool, ◌&&◌, ◌||◌, Result, codes, filter, map, if◌then◌else◌}
use Rattle.term_values.specs.Typed.{TypedValue}
use Rattle.term_model.specs.declared.object.Attribute.{Attribute}
use Rattle.term_model.specs.declared.request.Change.{Change}
use Rattle.term_model.specs.declared.schema.AttrRec.{AttrRec}
use Rattle.term_model.specs.declared.schema.Set.{Set}
use Rattle.term_model.specs.ClassAttributes.{is_labelled}
use Rattle.term_model.specs.declared.results.AttributeValue.{AttributeValue}
use Rattle.term_model.specs.ObjectGet.{told}
use Rattle.term_model.specs.PresentPackages.{is_among}
use Rattle.term_model.specs.Modifications.{Modified, settled, without_full}
use Rattle.object_modifications.specs.declared.seen_once.Seen.{Seen}
use Rattle.object_modifications.specs.declared.settling.Modified.{Modified as Kept}
use Rattle.object_modifications.specs.Trying.{IsMade}

abbrev pub made_of : Kept → Modified
made_of kept = record { object = kept.object; failures = kept.failures.items; done = kept.done }

-- setting this attribute takes logFull away, in a bound log
abbrev pub ends_full_by : List AttrRec → Bool → List ℕ → Bool
ends_full_by records bound id =
    (is_labelled records (codes "maxLogSize") id || is_labelled records (codes "logFullAction") id) && bound

-- attributes from which logFull is then taken
abbrev pub freed_by : List AttrRec → Bool → List ℕ → List Attribute → List Attribute
freed_by records bound id attributes =
    if ends_full_by records bound id then map (without_full records) attributes else attributes

-- a modification of the attribute with this identifier, of which this is told, is made or noted as one that failed
abbrev pub TellsModified : Set → Seen → Kept → Kept → Change → List ℕ → Result TypedValue ℤ → Type 0
TellsModified schema seen before after change id told =
    (made_of after ≡ settled schema (made_of before) change id told)
    × IsMade schema seen after.object after.size after.knowledge.items

-- the attributes that modifications changed, with their values
abbrev pub modified_among : List AttrRec → List (List ℕ) → List Attribute → List AttributeValue
modified_among records done attributes =
    map (told records) (filter (λ (attribute : Attribute). is_among done attribute.id) attributes)
