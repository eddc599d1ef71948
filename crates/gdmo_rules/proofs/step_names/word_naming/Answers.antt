-- The attribute whose label the word is, and none.
use Rattle.std.proofs.Math.Path.{subst}
use Rattle.gdmo_rules.specs.AttributeLabels.{TellsAttribute}
use Rattle.gdmo_rules.proofs.StepNameLaws.{no_word_told, word_told}
use Rattle.gdmo_rules.proofs.step_names.word_naming.Goals as goal

pub returns-in-Some : goal.returns-in-Some
returns-in-Some c = λ parts is.
    let xs = c.args.linkage.now.templates.now in
    word_told parts xs c.args.document c.args.word c.in-Some.attribute
    (subst (TellsAttribute parts xs c.args.word.now) c.in-Some.is
    (c.labelled_attribute.ensures parts is.are_found.all is.are_labels))

pub returns-in-None : goal.returns-in-None
returns-in-None c = λ parts is.
    let xs = c.args.linkage.now.templates.now in
    no_word_told parts xs c.args.document c.args.word.now
    (subst (TellsAttribute parts xs c.args.word.now) c.in-None.is
    (c.labelled_attribute.ensures parts is.are_found.all is.are_labels))
