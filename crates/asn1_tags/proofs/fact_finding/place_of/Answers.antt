-- The set of the type that is named, or the one that was gathered.
use Rattle.std.proofs.Common.{◌≤◌, ℕ, subst}
use Rattle.asn1_names.specs.NodeCount.{HasNodes}
use Rattle.asn1_names.specs.TermViews.{module_terms, type_term}
use Rattle.asn1_tags.specs.DraftFacts.{IsSetOf}
use Rattle.asn1_tags.specs.GatheredTags.{HasTags, KnowsTags}
use Rattle.asn1_tags.specs.KnownFacts.{AreKnown, HasCount}
use Rattle.asn1_tags.proofs.AmbiguityLaws.{if_ok_then}
use Rattle.asn1_tags.proofs.fact_finding.place_of.Goals as goal

pub returns-in-Some-clause-place : goal.returns-in-Some-clause-place
returns-in-Some-clause-place c = λ known count. let ms = module_terms c.args.numbers.now in
    subst (λ sets. AreKnown (KnowsTags ms c.args.sources.now sets) ms c.args.cyclic.now c.args.home
    (type_term c.args.of.now) → IsSetOf ms c.args.home (type_term c.args.of.now) sets c.in-Some.place)
    c.as_slice.ensures.value c.in-Some.ensures known

pub returns-in_ok-set-in-None-clause-place : goal.returns-in_ok-set-in-None-clause-place
returns-in_ok-set-in-None-clause-place c = if_ok_then c.push_set.result (λ place found known count.
    let ms = module_terms c.args.numbers.now in
    let of = type_term c.args.of.now in record {
      set = c.in_ok-set-in-None.set;
      found = found;
      has = subst (λ sets. AreKnown (KnowsTags ms c.args.sources.now sets) ms c.args.cyclic.now c.args.home of →
          HasCount ms c.args.home of c.args.nodes → (n : ℕ) → HasNodes ms c.args.home of n → n ≤ 10000 →
          HasTags ms c.args.home of c.in_ok-set-in-None.set) c.as_slice.ensures.value c.in_ok-set-in-None.ensures known
          count;
    }) c.push_set.ensures.place
