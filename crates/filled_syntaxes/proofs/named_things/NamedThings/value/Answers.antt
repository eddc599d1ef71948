-- A text that denotes a value isn't noted, and one that is refused is.
use Rattle.asn1_values_syntax.specs.ValueTrees.{value_tree}
use Rattle.asn1_leaf_values.specs.TextValues.{first_place}
use Rattle.filled_syntaxes.specs.LinkedMeanings.{linked_arcs}
use Rattle.filled_syntaxes.proofs.ThingsLaws.{bad_noted, good_noted, none_told, refused, value_told}
use Rattle.filled_syntaxes.proofs.named_things.NamedThings.value.Goals as goal

pub returns-in-Ok-clause-told : goal.returns-in-Ok-clause-told
returns-in-Ok-clause-told c = λ ms linked known.
    value_told known c.args.syntax.now c.args.text.now c.in-Ok.value c.in-Ok.ensures.denoted

pub returns-in-Ok-clause-noted : goal.returns-in-Ok-clause-noted
returns-in-Ok-clause-noted c = λ ms linked known.
    good_noted (linked_arcs linked) c.args.syntax.now (value_tree c.args.text.now) c.in-Ok.value c.args.document
    c.args.bad.now.first (value_told known c.args.syntax.now c.args.text.now c.in-Ok.value c.in-Ok.ensures.denoted)

pub returns-in-Err-BadValue-clause-told : goal.returns-in-Err-BadValue-clause-told
returns-in-Err-BadValue-clause-told c = λ ms linked known.
    let arm = c.in-Err-BadValue in
    let told = refused arm.field-0 arm.token (first_place c.args.text.now) arm.field-0-is arm.ensures.bad in
    (arm.token, none_told known c.args.syntax.now c.args.text.now arm.token told.1 told.0)

pub returns-in-Err-BadValue-clause-noted : goal.returns-in-Err-BadValue-clause-noted
returns-in-Err-BadValue-clause-noted c = λ ms linked known.
    let arm = c.in-Err-BadValue in
    let told = refused arm.field-0 arm.token (first_place c.args.text.now) arm.field-0-is arm.ensures.bad in
    bad_noted (linked_arcs linked) c.args.syntax.now (value_tree c.args.text.now) c.args.document arm.token
    (none_told known c.args.syntax.now c.args.text.now arm.token told.1 told.0) c.note.ensures
