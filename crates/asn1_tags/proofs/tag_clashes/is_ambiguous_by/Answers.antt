-- What is told of members is told of the type.
use Rattle.std.proofs.Common.{◌∙◌, ap, map, refl, subst, sym}
use Rattle.asn1_names.specs.TermViews.{limit_terms, module_terms, tag_term, type_term}
use Rattle.asn1_tags.specs.MemberRows.{alternative_row, component_row, members}
use Rattle.asn1_tags.specs.ToldFacts.{TellsAmbiguous}
use Rattle.asn1_names.specs.TermViews.{range_terms}
use Rattle.std.specs.Prelude.{option_map, false}
use Rattle.asn1_tags.proofs.AmbiguityLaws.{choice_told, empty_never, if_ok_then, list_never, never_told, plain_never}
use Rattle.asn1_tags.proofs.AmbiguityLaws.{sequence_told, set_told, tagged_never}
use Rattle.asn1_tags.proofs.MemberLists.{choice_term, components_term, list_of_term, no_components_term}
use Rattle.asn1_tags.proofs.MemberLists.{plain_term_is}
use Rattle.asn1_tags.proofs.tag_clashes.is_ambiguous_by.Goals as goal

pub returns-in-Tagged : goal.returns-in-Tagged
returns-in-Tagged c = λ facts. subst (λ of. TellsAmbiguous (module_terms c.args.known.now.numbers.now) c.args.home of
    false) (sym (ap type_term c.in-Tagged.is)) (never_told _ (tagged_never (tag_term c.in-Tagged.tag.value)
    c.in-Tagged.mode (type_term c.in-Tagged.of.value)))

pub returns-then-is_word_of : goal.returns-then-is_word_of
returns-then-is_word_of c = if_ok_then c.components_share.result (λ told tells facts.
    let xs = c.as_slice.result.now in
    subst (λ of. TellsAmbiguous (module_terms c.args.known.now.numbers.now) c.args.home of told)
    (sym (components_term c.args.of.now c.in-Structured.word c.in-Structured.content c.in-Components.components
    c.in-Components.constraints c.in-Some.components xs c.in-Structured.is c.in-Components.is c.in-Some.is
    c.as_slice.ensures.value))
    (set_told c.args.known.now.sources.now c.args.known.now.sets.now c.in-Structured.word
    (members (map component_row xs)) (limit_terms c.in-Components.constraints) told facts
    (sym c.is_word_of.ensures ∙ c.if-is_word_of.true) tells)) c.components_share.ensures

pub returns-else-is_word_of : goal.returns-else-is_word_of
returns-else-is_word_of c = if_ok_then c.runs_share.result (λ told tells facts.
    let xs = c.as_slice-else-is_word_of.result.now in
    subst (λ of. TellsAmbiguous (module_terms c.args.known.now.numbers.now) c.args.home of told)
    (sym (components_term c.args.of.now c.in-Structured.word c.in-Structured.content c.in-Components.components
    c.in-Components.constraints c.in-Some.components xs c.in-Structured.is c.in-Components.is c.in-Some.is
    c.as_slice-else-is_word_of.ensures.value))
    (sequence_told c.args.known.now.sources.now c.args.known.now.sets.now c.in-Structured.word
    (members (map component_row xs)) (limit_terms c.in-Components.constraints) told facts
    (sym c.is_word_of.ensures ∙ c.if-is_word_of.false) tells)) c.runs_share.ensures

pub returns-in-None : goal.returns-in-None
returns-in-None c = λ facts. subst (λ of. TellsAmbiguous (module_terms c.args.known.now.numbers.now) c.args.home of
    false) (sym (no_components_term c.args.of.now c.in-Structured.word c.in-Structured.content
    c.in-Components.components c.in-Components.constraints c.in-Structured.is c.in-Components.is c.in-None.is))
    (never_told _ (empty_never c.in-Structured.word (limit_terms c.in-Components.constraints)))

pub returns-in-ListOf : goal.returns-in-ListOf
returns-in-ListOf c = λ facts. subst (λ of. TellsAmbiguous (module_terms c.args.known.now.numbers.now) c.args.home of
    false) (sym (list_of_term c.args.of.now c.in-Structured.word c.in-Structured.content c.in-ListOf.size c.in-ListOf.of
    c.in-ListOf.of.value c.in-Structured.is c.in-ListOf.is refl)) (never_told _ (list_never c.in-Structured.word
    (option_map range_terms c.in-ListOf.size) (type_term c.in-ListOf.of.value)))

pub returns-in-Choice : goal.returns-in-Choice
returns-in-Choice c = if_ok_then c.alternatives_share.result (λ told tells facts.
    let xs = c.as_slice-in-Choice.result.now in
    subst (λ of. TellsAmbiguous (module_terms c.args.known.now.numbers.now) c.args.home of told)
    (sym (choice_term c.args.of.now c.in-Choice.word c.in-Choice.alternatives c.in-Choice.constraints xs
    c.in-Choice.is c.as_slice-in-Choice.ensures.value))
    (choice_told c.args.known.now.sources.now c.args.known.now.sets.now c.in-Choice.word
    (members (map alternative_row xs)) (limit_terms c.in-Choice.constraints) told facts tells))
    c.alternatives_share.ensures

pub returns-in-Plain : goal.returns-in-Plain
returns-in-Plain c = λ facts. subst (λ of. TellsAmbiguous (module_terms c.args.known.now.numbers.now) c.args.home of
    false) (sym (plain_term_is c.args.of.now c.in-Plain.of c.in-Plain.constraints c.in-Plain.is))
    (never_told _ (plain_never c.in-Plain.of (limit_terms c.in-Plain.constraints)))
