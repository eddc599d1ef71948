-- The identifiers are the same, or differ.
use Rattle.std.proofs.Common.{◌≡◌, ◌∙◌, Some, ap, false, refl, sym, true}
use Rattle.std.specs.Prelude.{slice_get}
use Rattle.std.specs.Option.{option_copied}
use Rattle.std.proofs.lemmas.Bool.Decides.{Decides-eqb}
use Rattle.std.proofs.lemmas.Option.{same_Some}
use Rattle.std.proofs.lemmas.Slice.Eq.{slice_eq-Decides}
use Rattle.asn1_names.proofs.TableAnswers.{item_is}
use Rattle.term_model.specs.declared.schema.AttrRec.{AttrRec}
use Rattle.instance_records.proofs.instance_parts.record_place.Goals as goal

pub returns-then-eq : goal.returns-then-eq
returns-then-eq c =
    let there : slice_get c.args.records.now c.args.next ≡ Some c.in-Some-get.record.now =
    sym (item_is c.args.records.now c.args.next c.get.result c.get.ensures.lookup.0 c.get.ensures.lookup.1)
    ∙ ap option_copied c.in-Some-get.is in
    let same = (slice_eq-Decides Decides-eqb c.in-Some.id c.in-Some-get.record.now.id _ c.if-eq.ensures).0 refl in
    (refl, c.in-Some-get.record.now, there, c.in-Some.is ∙ ap Some same)

pub returns-else-eq : goal.returns-else-eq
returns-else-eq c = λ x at identified.
    let there : slice_get c.args.records.now c.args.next ≡ Some c.in-Some-get.record.now =
    sym (item_is c.args.records.now c.args.next c.get.result c.get.ensures.lookup.0 c.get.ensures.lookup.1)
    ∙ ap option_copied c.in-Some-get.is in
    let other = same_Some c.in-Some-get.record.now x (sym there ∙ at) in
    let same = same_Some c.in-Some.id x.id (sym c.in-Some.is ∙ identified)
    ∙ ap (λ (y : AttrRec). y.id) (sym other) in
    let wrong : false ≡ true =
    (slice_eq-Decides Decides-eqb c.in-Some.id c.in-Some-get.record.now.id _ c.if-eq.ensures).1 same in absurd (cc)
