-- The tags of a name.
use Rattle.std.proofs.Common.{◌≡◌, ◌∙◌, Option, None, Some, subst, sym}
use Rattle.asn1_names.specs.CodeMeanings.{named_module, named_type}
use Rattle.asn1_names.specs.TermViews.{module_terms}
use Rattle.asn1_names.specs.WordViews.{standard_syntax_of}
use Rattle.asn1_tags.specs.declared.tag_sets.TagSet.{TagSet}
use Rattle.asn1_tags.specs.GatheredTags.{HasTags, set_found}
use Rattle.asn1_tags.proofs.BeginLaws.{adds_cyclic, adds_named, adds_standard, adds_unknown}
use Rattle.asn1_tags.proofs.CountLaws.{no_type_nothing, no_type_value}
use Rattle.asn1_tags.proofs.NamedTypes.{cyclic_at, marked, not_cyclic_at, type_is, type_named, unmarked}
use Rattle.asn1_tags.proofs.NodeLaws.{nodes_beneath, ok_then}
use Rattle.asn1_tags.proofs.tag_sets.push_named.Goals as goal

pub returns-then-is_marked : goal.returns-then-is_marked
returns-then-is_marked c = λ limits n known nodes small.
    let is = c.in-TypeAt.ensures in
    adds_cyclic (named_module c.args.name.now) (named_type c.args.name.now) limits is.of c.args.into.now is.is
    (cyclic_at is.numbered is.at (marked c.in-TypeAt.number known.marked
    (sym c.is_marked.ensures ∙ c.if-is_marked.true)))

same_set : (found : Option TagSet) (x y : TagSet) → Some x ≡ found → found ≡ Some y → y ≡ x
same_set found x y e f = cc

no_set : (found : Option TagSet) (y : TagSet) → None ≡ found → found ≡ Some y → ⊥
no_set found y e f = absurd (cc)

pub returns-in-Some : goal.returns-in-Some
returns-in-Some c = ok_then c.push_set.result (λ gains limits n known nodes small.
    let is = c.in-TypeAt.ensures in
    let unless = unmarked c.in-TypeAt.number known.marked (sym c.is_marked.ensures ∙ c.if-is_marked.false) in
    let not_cyclic = not_cyclic_at is.numbered is.at unless in
    let of_it = known.each c.in-TypeAt.number (type_named (named_module c.args.name.now)
    (named_type c.args.name.now) limits is) unless in
    adds_named (named_module c.args.name.now) (named_type c.args.name.now) limits is.of c.in-Some.set.now
    c.args.into.now c.push_set.new.into is.is not_cyclic
    (subst (HasTags (module_terms c.args.known.now.numbers.now) is.numbered.in_module is.of)
    (same_set (set_found c.args.known.now.sources.now c.args.known.now.sets.now c.in-TypeAt.number)
    c.in-Some.set.now of_it.set c.in-Some.ensures of_it.found)
    (of_it.tells is.numbered.in_module is.of (type_is is) n (nodes_beneath is.is not_cyclic nodes) small))
    gains) c.push_set.ensures

pub returns-in-None : goal.returns-in-None
returns-in-None c = λ limits n known nodes small.
    let is = c.in-TypeAt.ensures in
    let unless = unmarked c.in-TypeAt.number known.marked (sym c.is_marked.ensures ∙ c.if-is_marked.false) in
    let of_it = known.each c.in-TypeAt.number (type_named (named_module c.args.name.now)
    (named_type c.args.name.now) limits is) unless in
    absurd (no_set (set_found c.args.known.now.sources.now c.args.known.now.sets.now c.in-TypeAt.number)
    of_it.set c.in-None.ensures of_it.found)

pub returns-in-Standard : goal.returns-in-Standard
returns-in-Standard c = ok_then c.push_standard.result (λ gains limits n known nodes small.
    adds_standard (named_module c.args.name.now) (named_type c.args.name.now) limits
    (standard_syntax_of c.in-Standard.standard) c.args.into.now c.push_standard.new.into c.in-Standard.ensures gains)
    c.push_standard.ensures

pub returns-in-ValueAt : goal.returns-in-ValueAt
returns-in-ValueAt c = λ limits n known nodes small. adds_unknown (named_module c.args.name.now)
    (named_type c.args.name.now) limits c.args.into.now (no_type_value c.in-ValueAt.ensures)

pub returns-in-Nothing : goal.returns-in-Nothing
returns-in-Nothing c = λ limits n known nodes small. adds_unknown (named_module c.args.name.now)
    (named_type c.args.name.now) limits c.args.into.now (no_type_nothing c.in-Nothing.ensures)
