-- The set's place is told anew.
use Rattle.std.proofs.Common.{subst}
use Rattle.asn1_names.specs.CodeMeanings.{IsTypeOf}
use Rattle.asn1_names.specs.TermViews.{module_terms, type_term}
use Rattle.asn1_tags.specs.DraftFacts.{IsSetOf}
use Rattle.asn1_tags.specs.GatheredTags.{KnowsTags}
use Rattle.asn1_tags.specs.KnownFacts.{AreKnown, HasCount}
use Rattle.asn1_tags.proofs.FactLaws.{gathers_type}
use Rattle.asn1_tags.proofs.fact_finding.gather_type.Goals as goal

pub returns-in_ok-place-in-Some : goal.returns-in_ok-place-in-Some
returns-in_ok-place-in-Some c = let ms = module_terms c.args.numbers.now in
    let of = type_term c.in-Some.of.now in
    gathers_type c.args.sources.now.items c.set_number.new.numbers.items c.args.sets.now.items c.place_of.new.sets.items
    c.args.nodes c.in_ok-place-in-Some.place
    (subst (λ modules. IsTypeOf (module_terms modules) c.args.number c.in-Some.home of) c.tables.ensures
    c.in-Some.ensures) c.set_number.ensures c.in_ok-place-in-Some.ensures.kept
    (subst (λ sources. AreKnown (KnowsTags ms sources c.args.sets.now.items) ms c.args.cyclic.now c.in-Some.home of →
    HasCount ms c.in-Some.home of c.args.nodes → IsSetOf ms c.in-Some.home of c.place_of.new.sets.items
    c.in_ok-place-in-Some.place) c.as_slice.ensures.value c.in_ok-place-in-Some.ensures.place)
