use Rattle.std.proofs.Common.{◌≡◌, sym, ap, ◌∙◌, subst, arith, rules}
use Rattle.std.proofs.lemmas.Grind.{common_steps}
use Rattle.term_values.specs.Syntaxes.TypeSyntax.{Tagged}
use Rattle.term_values.specs.SyntaxView.{syntax_of}
use Rattle.asn1_names.proofs.NarrowingLaws.{narrows_as, integer_narrows, bits_narrow, octets_narrow, text_narrows}
use Rattle.asn1_names.proofs.NarrowingLaws.{list_narrows, set_narrows, tagged_narrows, NarrowsWhere}
use Rattle.asn1_names.proofs.narrowing.+narrow.Goals as goal

pub returns-in_ok-after-in-Int : goal.returns-in_ok-after-in-Int
returns-in_ok-after-in-Int t c =
    narrows_as _ _ _ _ _ (sym c.syntax.view_is ∙ ap syntax_of c.in-Int.is) c.of_form.ensures
    (integer_narrows _ c.in-Int.names _ _ c.in_ok-after-in-Int.ensures)

pub returns-in_ok-after-in-Bits : goal.returns-in_ok-after-in-Bits
returns-in_ok-after-in-Bits t c =
    narrows_as _ _ _ _ _ (sym c.syntax.view_is ∙ ap syntax_of c.in-Bits.is) c.of_form-in-Bits.ensures
    (bits_narrow _ c.in-Bits.names _ _ c.in_ok-after-in-Bits.ensures)

pub returns-in_ok-after-in-Octets : goal.returns-in_ok-after-in-Octets
returns-in_ok-after-in-Octets t c =
    narrows_as _ _ _ _ _ (sym c.syntax.view_is ∙ ap syntax_of c.in-Octets.is) c.of_form-in-Octets.ensures
    (octets_narrow _ _ _ c.in_ok-after-in-Octets.ensures)

pub returns-in_ok-after-in-Text : goal.returns-in_ok-after-in-Text
returns-in_ok-after-in-Text t c =
    narrows_as _ _ _ _ _ (sym c.syntax.view_is ∙ ap syntax_of c.in-Text.is) c.of_form-in-Text.ensures
    (text_narrows _ c.in-Text.charset _ _ c.in_ok-after-in-Text.ensures)

pub returns-in_ok-after-in-ListOf : goal.returns-in_ok-after-in-ListOf
returns-in_ok-after-in-ListOf t c =
    narrows_as _ _ _ _ _ (sym c.syntax.view_is ∙ ap syntax_of c.in-ListOf.is) c.of_form-in-ListOf.ensures
    (list_narrows _ c.in-ListOf.of.value _ _ c.in_ok-after-in-ListOf.ensures)

pub returns-in_ok-after-in-SetOf : goal.returns-in_ok-after-in-SetOf
returns-in_ok-after-in-SetOf t c =
    narrows_as _ _ _ _ _ (sym c.syntax.view_is ∙ ap syntax_of c.in-SetOf.is) c.of_form-in-SetOf.ensures
    (set_narrows _ c.in-SetOf.of.value _ _ c.in_ok-after-in-SetOf.ensures)

pub returns-in_ok-new-in-Tagged : goal.returns-in_ok-new-in-Tagged
returns-in_ok-new-in-Tagged t c =
    let of = c.in-Tagged.of.value in
    let left = c.in_ok-inner-in-Tagged.inner in
    let stands : c.into_inner.result ≡ of = first_of (search rules, grind (arith, common_steps)) in
    let boxed : c.in_ok-new-in-Tagged.field-0.value ≡ left = first_of (search rules, grind (arith, common_steps)) in
    let inner : NarrowsWhere c.args.stated.items of left =
    subst (λ z. NarrowsWhere c.args.stated.items z left) stands c.in_ok-inner-in-Tagged.ensures in
    narrows_as _ _ _ _ _ (sym c.syntax.view_is ∙ ap syntax_of c.in-Tagged.is)
    (c.of_form-in-Tagged.ensures ∙ ap (Tagged c.in-Tagged.tag c.in-Tagged.explicit) boxed)
    (tagged_narrows _ c.in-Tagged.tag c.in-Tagged.explicit of left inner)
