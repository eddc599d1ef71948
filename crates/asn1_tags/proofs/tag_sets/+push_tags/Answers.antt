-- The tags of a type: its own, those of its alternatives, or those of the type that is named.
use Rattle.std.proofs.Common.{ap, map, subst, sym}
use Rattle.term_values.specs.Tag.{is_same_tag}
use Rattle.asn1_names.specs.NodeCount.{HasNodes}
use Rattle.asn1_names.specs.TermViews.{limit_terms, module_terms, tag_term, type_term}
use Rattle.asn1_names.specs.TypeWalks.{IsNoName}
use Rattle.asn1_names.specs.WholeNumbers.{IsTag}
use Rattle.asn1_tags.specs.GatheredTags.{AddsTags, GainsTags, KnowsTags}
use Rattle.asn1_tags.specs.KnownFacts.{AreKnown}
use Rattle.asn1_tags.specs.MemberRows.{alternative_row, members}
use Rattle.asn1_tags.proofs.BeginLaws.{adds_choice, adds_end, adds_no_tag, adds_none, adds_own, adds_plain, adds_step}
use Rattle.asn1_tags.proofs.BeginLaws.{adds_structure}
use Rattle.asn1_tags.proofs.MemberLists.{choice_term, member_at, plain_term_is}
use Rattle.asn1_tags.proofs.NamedTypes.{alternative_known}
use Rattle.asn1_tags.proofs.NodeLaws.{alternative_few, ok_then}
use Rattle.asn1_tags.proofs.tag_sets.+push_tags.Goals as goal

pub loop-alternative-init : goal.loop-alternative-init
loop-alternative-init t c = λ n known nodes small. adds_none c.args.into.now

pub loop-alternative-preserved : goal.loop-alternative-preserved
loop-alternative-preserved t c = λ n known nodes small.
    let ms = module_terms c.args.known.now.numbers.now in
    let xs = c.deref-alternative-items.result.now in
    let i = c.loop-alternative.alternative-index in
    let x = c.alternative-item.result in
    let is = choice_term c.args.of.now c.in-Choice.word c.in-Choice.alternatives c.in-Choice.constraints xs
    c.in-Choice.is c.deref-alternative-items.ensures.value in
    let member = member_at alternative_row xs i x c.loop-alternative-test.true c.alternative-item.is in
    let knows = KnowsTags ms c.args.known.now.sources.now c.args.known.now.sets.now in
    let part = alternative_known c.in-Choice.word (members (map alternative_row xs))
    (limit_terms c.in-Choice.constraints) (alternative_row x).of (alternative_row x).presence member
    (subst (AreKnown knows ms c.args.known.now.cyclic.now c.args.home) is known) in
    let few = alternative_few c.in-Choice.word (members (map alternative_row xs)) (limit_terms c.in-Choice.constraints)
    (alternative_row x).of (alternative_row x).presence member
    (subst (λ of. HasNodes ms c.args.home of n) is nodes) small in
    adds_step alternative_row xs i x c.args.into.now c.loop-alternative.into c.push_tags.new.into
    c.loop-alternative-test.true c.alternative-item.is (c.loop-alternative.invariant n known nodes small)
    (c.in_ok-push_tags-in-Choice.ensures few.nodes part few.has few.few)

pub returns-in-Some : goal.returns-in-Some
returns-in-Some t c = ok_then c.push_tag.result (λ gains n known nodes small.
    subst (λ of. AddsTags (module_terms c.args.known.now.numbers.now) c.args.home of c.args.into.now
    c.push_tag.new.into) (sym (ap type_term c.in-Tagged.is))
    (adds_own (tag_term c.in-Tagged.tag.value) c.in-Tagged.mode (type_term c.in-Tagged.of.value) c.in-Some.own
    c.args.into.now c.push_tag.new.into
    (subst (λ text. IsTag (module_terms c.args.known.now.numbers.now) c.args.home (tag_term text) c.in-Some.own)
    c.deref.ensures c.in-Some.ensures) gains)) c.push_tag.ensures

pub returns-in-None : goal.returns-in-None
returns-in-None t c = λ n known nodes small.
    subst (λ of. AddsTags (module_terms c.args.known.now.numbers.now) c.args.home of c.args.into.now c.args.into.now)
    (sym (ap type_term c.in-Tagged.is))
    (adds_no_tag (tag_term c.in-Tagged.tag.value) c.in-Tagged.mode (type_term c.in-Tagged.of.value) c.args.into.now
    (λ tag is. c.in-None.ensures tag (subst (λ text. IsTag (module_terms c.args.known.now.numbers.now) c.args.home
    (tag_term text) tag) (sym c.deref.ensures) is)))

pub returns-in-Structured : goal.returns-in-Structured
returns-in-Structured t c = ok_then c.push_tag-in-Structured.result (λ gains n known nodes small.
    subst (λ of. AddsTags (module_terms c.args.known.now.numbers.now) c.args.home of c.args.into.now
    c.push_tag-in-Structured.new.into) (sym (ap type_term c.in-Structured.is))
    (adds_structure c.in-Structured.word c.in-Structured.content c.args.into.now c.push_tag-in-Structured.new.into
    (subst (λ tag. GainsTags c.args.into.now c.push_tag-in-Structured.new.into (is_same_tag tag))
    c.structure_tag.ensures gains))) c.push_tag-in-Structured.ensures

pub returns-after-loop-alternative : goal.returns-after-loop-alternative
returns-after-loop-alternative t c = λ n known nodes small.
    let xs = c.deref-alternative-items.result.now in
    let is = choice_term c.args.of.now c.in-Choice.word c.in-Choice.alternatives c.in-Choice.constraints xs
    c.in-Choice.is c.deref-alternative-items.ensures.value in
    subst (λ of. AddsTags (module_terms c.args.known.now.numbers.now) c.args.home of c.args.into.now
    c.loop-alternative.into) (sym is)
    (adds_choice c.in-Choice.word (map alternative_row xs) (limit_terms c.in-Choice.constraints) c.args.into.now
    c.loop-alternative.into (adds_end alternative_row xs c.loop-alternative.alternative-index c.args.into.now
    c.loop-alternative.into c.loop-alternative-test.false (c.loop-alternative.invariant n known nodes small)))

pub returns-in-Some-name_of : goal.returns-in-Some-name_of
returns-in-Some-name_of t c = ok_then c.push_named.result (λ adds n known nodes small.
    let ms = module_terms c.args.known.now.numbers.now in
    let is = c.in-Some-name_of.ensures in
    let knows = KnowsTags ms c.args.known.now.sources.now c.args.known.now.sets.now in
    subst (λ of. AddsTags ms c.args.home of c.args.into.now c.push_named.new.into) (sym is.1)
    (adds is.0 n (subst (AreKnown knows ms c.args.known.now.cyclic.now c.args.home) is.1 known)
    (subst (λ of. HasNodes ms c.args.home of n) is.1 nodes) small)) c.push_named.ensures

pub returns-in-None-name_of : goal.returns-in-None-name_of
returns-in-None-name_of t c = ok_then c.push_plain.result (λ gains n known nodes small.
    let ms = module_terms c.args.known.now.numbers.now in
    let is = plain_term_is c.args.of.now c.in-Plain.plain c.in-Plain.constraints c.in-Plain.is in
    subst (λ of. AddsTags ms c.args.home of c.args.into.now c.push_plain.new.into) (sym is)
    (adds_plain c.in-Plain.plain (limit_terms c.in-Plain.constraints) c.args.into.now c.push_plain.new.into
    (subst IsNoName is c.in-None-name_of.ensures) gains)) c.push_plain.ensures
