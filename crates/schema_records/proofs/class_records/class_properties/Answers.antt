-- The properties of the table at the place.
use Rattle.std.proofs.Common.{◌≡◌, ◌∙◌, None, Some, ap, sym}
use Rattle.std.specs.Prelude.{slice_get}
use Rattle.std.specs.Option.{option_copied}
use Rattle.std.proofs.Math.Path.{subst}
use Rattle.std.proofs.lemmas.Option.{same_Some}
use Rattle.asn1_names.proofs.TableAnswers.{item_is}
use Rattle.joined_statements.specs.JoinedStatements.{Attributes}
use Rattle.term_model.specs.declared.packages.Property.{Property}
use Rattle.std.specs.Prelude.{List}
use Rattle.schema_records.specs.PropertyRecords.{AreAttributePlaces, AreJoinedProperties}
use Rattle.schema_records.proofs.EachLaws.{ok_by}
use Rattle.schema_records.proofs.class_records.class_properties.Goals as goal

pub returns-in-Some : goal.returns-in-Some
returns-in-Some c =
    let parts = c.args.parts.now in
    let linked = parts.linked.now in
    let tables = c.args.joined.now.properties.now in
    let here = c.in-Some.attributes.now in
    let there : slice_get tables c.args.place ≡ Some here =
    sym (item_is tables c.args.place c.get.result c.get.ensures.lookup.0 c.get.ensures.lookup.1)
    ∙ ap option_copied c.in-Some.is in
    ok_by c.joined_properties.result
    (λ (xs : List Property). AreAttributePlaces linked here →
    AreJoinedProperties linked parts.table.now parts.values.now here xs)
    (λ (xs : List Property). (attributes : Attributes) → slice_get tables c.args.place ≡ Some attributes →
    AreAttributePlaces linked attributes →
    AreJoinedProperties linked parts.table.now parts.values.now attributes xs)
    (λ xs told attributes at. subst (λ (table : Attributes). AreAttributePlaces linked table →
    AreJoinedProperties linked parts.table.now parts.values.now table xs)
    (same_Some here attributes (sym there ∙ at)) told) c.joined_properties.ensures

pub returns-in-None : goal.returns-in-None
returns-in-None c = λ attributes at registered.
    let tables = c.args.joined.now.properties.now in
    let there : slice_get tables c.args.place ≡ None =
    sym (item_is tables c.args.place c.get.result c.get.ensures.lookup.0 c.get.ensures.lookup.1)
    ∙ ap option_copied c.in-None.is in absurd (gone attributes (sym there ∙ at))
  where
    gone : (attributes : Attributes) → None ≡ Some attributes → ⊥
    gone attributes e = absurd (cc)
