-- The text that stands at the path, in the document of its module; and that none stands there.
use Rattle.asn1_values_syntax.specs.ValueTrees.{value_tree}
use Rattle.asn1_types.specs.ToldMeanings.{TellsDefaultText}
use Rattle.std.proofs.Math.Path.{subst}
use Rattle.filled_syntaxes.specs.LinkedMeanings.{linked_arcs}
use Rattle.filled_syntaxes.proofs.WalkLaws.{no_presence, none_own, own_noted, text_home, text_told, told_presence}
use Rattle.filled_syntaxes.proofs.filling.Filling.default_value.Goals as goal
use Rattle.std.proofs.Common.{refl}

pub returns-in_ok-told-in-Some-clause-told : goal.returns-in_ok-told-in-Some-clause-told
returns-in_ok-told-in-Some-clause-told c = λ ms linked meant f optional.
    let path = c.args.path.now in
    let stands = subst (TellsDefaultText ms meant path) c.in-Some.is
    (text_told f path c.in_ok-home.field-0 c.in_ok-home.ensures) in
    told_presence ms (linked_arcs linked) meant path c.args.syntax.now optional c.in_ok-told-in-Some.told c.in-Some.home
    (value_tree c.in-Some.text.now) stands (c.in_ok-told-in-Some.ensures.told ms linked f.known)

pub returns-in_ok-told-in-Some-clause-noted : goal.returns-in_ok-told-in-Some-clause-noted
returns-in_ok-told-in-Some-clause-noted c = λ ms linked meant f.
    let path = c.args.path.now in
    let stands = subst (TellsDefaultText ms meant path) c.in-Some.is
    (text_told f path c.in_ok-home.field-0 c.in_ok-home.ensures) in
    own_noted ms (linked_arcs linked) meant path c.args.syntax.now c.in-Some.home c.document.result
    (value_tree c.in-Some.text.now) stands
    (text_home c.args.self.now.meaning f.means stands c.document.result
    (λ x at. c.document.ensures ms linked x f.known at))
    (c.in_ok-told-in-Some.ensures.noted ms linked f.known)

pub returns-in-None-clause-told : goal.returns-in-None-clause-told
returns-in-None-clause-told c = λ ms linked meant f optional.
    let path = c.args.path.now in
    no_presence ms (linked_arcs linked) meant path c.args.syntax.now optional _ refl
    (subst (TellsDefaultText ms meant path) c.in-None.is (text_told f path c.in_ok-home.field-0 c.in_ok-home.ensures))

pub returns-in-None-clause-noted : goal.returns-in-None-clause-noted
returns-in-None-clause-noted c = λ ms linked meant f.
    let path = c.args.path.now in
    none_own ms (linked_arcs linked) meant path c.args.syntax.now c.args.bad.now.first
    (subst (TellsDefaultText ms meant path) c.in-None.is (text_told f path c.in_ok-home.field-0 c.in_ok-home.ensures))
