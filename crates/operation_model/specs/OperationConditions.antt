-- What whole operations ask of the objects and of the request: X.711, section 7.5; docs/PROFILE.md, section 17.
use Rattle.std.specs.Prelude.{◌≡◌, ◌≤◌, List, Bool, true, All}
use Rattle.term_model.specs.declared.filter.Asked.{Asked}
use Rattle.term_model.specs.declared.filter.Asked.TheVariants as filters
use Rattle.term_model.specs.declared.objects.NamedObject.{NamedObject}
use Rattle.term_model.specs.declared.request.Request.{Request}
use Rattle.term_model.specs.declared.request.Request.TheVariants as request
use Rattle.term_model.specs.declared.schema.Set.{Set}
use Rattle.term_model.specs.BoundClasses.{object_size}
use Rattle.term_model.specs.FilterTruth.{is_valid}

-- the filter, where it is one to be asked, is valid under the schema
abbrev pub has_valid_filter : Set → Asked → Bool
has_valid_filter schema (filters.Good filter) = is_valid schema.attributes filter
has_valid_filter schema (filters.Bad octets) = true
has_valid_filter schema filters.Large = true

abbrev pub HasValidFilter : Set → Request → Type 0
HasValidFilter schema (request.Get head ids) = has_valid_filter schema head.filter ≡ true
HasValidFilter schema (request.Set head changes confirmed) = has_valid_filter schema head.filter ≡ true
HasValidFilter schema _ = Unit {0}

-- each object is at most 16,384 octets long, as those of an agent are; what a bound log tells of its records is left
-- out
abbrev pub AreSmall : Set → List NamedObject → Type 0
AreSmall schema objects = All (λ (entry : NamedObject). object_size schema entry.object ≤ 16384) objects
