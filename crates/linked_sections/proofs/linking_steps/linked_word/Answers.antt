-- An attribute's label, or a value.
use Rattle.linked_sections.specs.LinkedSections.IsStep.{reply_attribute, reply_word}
use Rattle.gdmo_names.specs.RuleWords.IsReplyLabel.{attribute_label}
use Rattle.linked_sections.proofs.PlacedLaws.{label_linked, told_none, told_some}
use Rattle.linked_sections.proofs.TakenLaws.{word_told}
use Rattle.linked_sections.proofs.linking_steps.linked_word.Goals as goal

pub returns-in-Some : goal.returns-in-Some
returns-in-Some c = λ parts rule is complete.
    let linker = c.args.linker.now in
    let label = told_some c.in-Some.number
    (c.labelled_attribute.ensures parts is.linkage.are_found.all is.linkage.are_labels) c.in-Some.is in
    reply_attribute (attribute_label label.0)
    (label_linked parts linker rule.document c.in-Some.number c.place.result c.args.word.now label.0 is label.1
    c.place.ensures)

pub returns-in_ok-name-in-None : goal.returns-in_ok-name-in-None
returns-in_ok-name-in-None c = λ parts rule is complete.
    let other = told_none (c.labelled_attribute.ensures parts is.linkage.are_found.all is.linkage.are_labels) c.in-None.is in
    reply_word (λ label. other (complete.1 label))
    (word_told c.args.word.now c.in_ok-name-in-None.name complete.0 c.in_ok-name-in-None.ensures)
