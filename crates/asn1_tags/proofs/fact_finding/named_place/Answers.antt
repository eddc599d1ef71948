-- The set of the type that the name means.
use Rattle.std.proofs.Common.{◌∙◌, subst, sym}
use Rattle.asn1_names.specs.CodeMeanings.{named_module, named_type}
use Rattle.asn1_names.specs.TermViews.{module_terms}
use Rattle.asn1_tags.specs.DraftFacts.{IsSetOf}
use Rattle.asn1_tags.specs.GatheredTags.{KnowsTags}
use Rattle.asn1_tags.specs.KnownFacts.{AreKnown}
use Rattle.asn1_tags.proofs.FactLaws.{if_some_from, named_set}
use Rattle.asn1_tags.proofs.fact_finding.named_place.Goals as goal

pub returns-else-is_marked : goal.returns-else-is_marked
returns-else-is_marked c = if_some_from c.place_at.result (λ place e known.
    let ms = module_terms c.args.known.now.numbers.now in
    let is = c.in_ok-name.ensures in
    let knows = KnowsTags ms c.args.known.now.sources.now c.args.known.now.sets.now in
    subst (λ of. IsSetOf ms c.args.home of c.args.known.now.sets.now place) (sym is.1)
    (named_set c.args.known.now.sources.now c.args.known.now.sets.now c.in-TypeAt.number place
    (named_module c.in_ok-name.name.now) (named_type c.in_ok-name.name.now) is.0
    (subst (AreKnown knows ms c.args.known.now.cyclic.now c.args.home) is.1 known) c.in-TypeAt.ensures
    (sym c.is_marked.ensures ∙ c.if-is_marked.false) (sym c.place_at.ensures ∙ e)))
