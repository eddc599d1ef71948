-- The syntax at the attribute's place, or none.
use Rattle.std.proofs.Common.{◌≡◌, ◌∙◌, None, Some, ap, sym}
use Rattle.std.specs.Prelude.{slice_get}
use Rattle.std.specs.Option.{option_copied}
use Rattle.asn1_names.proofs.TableAnswers.{item_is}
use Rattle.linked_types.proofs.AttributeLaws.{looked_up}
use Rattle.linked_types.proofs.NamingLaws.{no_place}
use Rattle.linked_types.proofs.closing_parts.ClosingParts.attribute_syntax.Goals as goal

pub returns-in-Some : goal.returns-in-Some
returns-in-Some c = λ ms known syntax.
    let parts = c.args.self.now in
    let there : slice_get parts.types.now.attributes.types.items c.args.attribute ≡ Some c.in-Some.place.now =
    sym (ap (λ xs. slice_get xs c.args.attribute) c.deref.ensures.value) ∙ sym
    (item_is c.deref.result.now c.args.attribute c.get.result
    c.get.ensures.lookup.0 c.get.ensures.lookup.1) ∙ ap option_copied c.in-Some.is in
    let told = known.types_are.of_attributes.types_are.told c.args.attribute c.in-Some.place.now there in
    let found = looked_up ms parts.linked.now parts.table.now c.args.attribute c.in-Some.place.now syntax told in
    (λ e. found.0 (sym c.syntax.ensures ∙ e), λ has. c.syntax.ensures ∙ found.1 has)

pub returns-in-None : goal.returns-in-None
returns-in-None c = λ ms known syntax.
    let parts = c.args.self.now in
    let there : slice_get parts.types.now.attributes.types.items c.args.attribute ≡ None =
    sym (ap (λ xs. slice_get xs c.args.attribute) c.deref.ensures.value) ∙ sym
    (item_is c.deref.result.now c.args.attribute c.get.result
    c.get.ensures.lookup.0 c.get.ensures.lookup.1) ∙ ap option_copied c.in-None.is in (
      λ e. absurd (cc),
      λ has. absurd (no_place ms parts.linked.now parts.table.now parts.types.now.attributes.types.items
          c.args.attribute syntax known.types_are.of_attributes.types_are there has),
    )
