-- The class has a record, and these are its properties.
use Rattle.std.proofs.Common.{rules, ◌≡◌, Some, refl, sym, ap, ◌∙◌, subst}
use Rattle.std.specs.Prelude.{option_and_then}
use Rattle.term_model.specs.declared.schema.ClassRec.{ClassRec}
use Rattle.term_model.specs.ClassAttributes.{property_among}
use Rattle.term_model.specs.ObjectOperation.{class_record}
use Rattle.term_model.specs.Places.{HasPlaces}
use Rattle.attribute_rules.specs.PropertyPlaces.{attributes_of, properties_of}
use Rattle.attribute_rules.proofs.property_places.property_of.Goals as goal

pub returns-in-Some : goal.returns-in-Some
returns-in-Some c = λ has.
    let schema = c.args.schema.now in
    let id = c.args.id.now in
    let of_class : ClassRec = c.in-Some.of_class.now in
    let there : class_record schema.classes c.args.class.now ≡ Some of_class = search rules in
    let properties : c.as_slice.result.now ≡ of_class.properties = search rules in
    let stated : properties_of schema c.args.class.now ≡ of_class.properties = rw there refl in
    c.property_among.ensures
    (subst (λ ps. HasPlaces c.args.places.now (attributes_of ps)) (stated ∙ sym properties) has)
    ∙ ap (λ ps. property_among ps id) properties
    ∙ sym (ap (option_and_then (λ (one : ClassRec). property_among one.properties id)) there)
