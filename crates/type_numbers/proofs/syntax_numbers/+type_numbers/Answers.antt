-- Types by their forms, and parts from the last one on.
use Rattle.std.proofs.Common.{◌≡◌, ◌∙◌, ◌<◌, ◌+◌, ◌-◌, ℕ, ap, arith, length, refl, sym}
use Rattle.std.proofs.Math.Path.{subst}
use Rattle.std.proofs.lemmas.Option.{slice_get_read}
use Rattle.term_values.specs.PartsView.{parts_listed}
use Rattle.term_values.specs.SyntaxView.{syntax_of}
use Rattle.asn1_names.specs.TermViews.{module_terms}
use Rattle.type_numbers.specs.PlacedTerms.{placed_terms}
use Rattle.type_numbers.proofs.PartLaws.{numbered_all, numbered_first, numbered_more}
use Rattle.type_numbers.proofs.WalkLaws.{NumbersSyntax, choice_told, list_told, sequence_told, set_of_told}
use Rattle.type_numbers.proofs.WalkLaws.{set_told, tagged_told}
use Rattle.type_numbers.proofs.syntax_numbers.+type_numbers.Goals as goal

pub parts_number-loop-i-init : goal.parts_number-loop-i-init
parts_number-loop-i-init g c = (
  (λ k x h. c.leaf.ensures.grows k x h),
  numbered_first (module_terms c.args.texts.now) (placed_terms c.args.text) c.as_slice-items.result.now
      c.leaf.new.self (length c.as_slice-items.result.now - 0) c.in_ok-rest.rest (omega arith) c.in_ok-rest.ensures.is,
)

pub parts_number-loop-i-preserved : goal.parts_number-loop-i-preserved
parts_number-loop-i-preserved g c =
    let items = c.as_slice-items.result.now in
    let place : ℕ = length items - 1 - c.loop-i.i in
    let test = c.loop-i-test.true in
    let sizes : place + (c.loop-i.i + 1) ≡ length items = omega (arith, test) in
    let within : place < length items = omega (arith, test) in (
      (λ k x h. c.with_part.ensures.grows k x (c.syntax_number.ensures.grows k x (c.loop-i.invariant.0 k x h))),
      numbered_more (module_terms c.args.texts.now) (placed_terms c.args.text) (placed_terms c.member_text.result) items
          c.loop-i.lists c.syntax_number.new.lists c.with_part.new.lists c.loop-i.i place c.loop-i.rest
          c.in_ok-rest-2.rest c.in_ok-of.of c.has_default.result c.index-items-place.result sizes
          (slice_get_read items _ place c.index-items-place.result refl within c.index-items-place.is) c.member_text.ensures
          c.has_default.ensures c.syntax_number.ensures.grows c.loop-i.invariant.1 c.in_ok-of.ensures.is
          c.in_ok-rest-2.ensures.is,
    )

pub parts_number-returns-in_err-of-clause-grows : goal.parts_number-returns-in_err-of-clause-grows
parts_number-returns-in_err-of-clause-grows g c = λ k x h.
    c.syntax_number.ensures.grows k x (c.loop-i.invariant.0 k x h)

pub parts_number-returns-in_err-rest-2-clause-grows : goal.parts_number-returns-in_err-rest-2-clause-grows
parts_number-returns-in_err-rest-2-clause-grows g c = λ k x h.
    c.with_part.ensures.grows k x (c.syntax_number.ensures.grows k x (c.loop-i.invariant.0 k x h))

pub parts_number-returns-clause-grows : goal.parts_number-returns-clause-grows
parts_number-returns-clause-grows g c = c.loop-i.invariant.0

pub parts_number-returns-clause-is : goal.parts_number-returns-clause-is
parts_number-returns-clause-is g c =
    numbered_all (module_terms c.args.texts.now) (placed_terms c.args.text) c.as_slice-items.result.now
    c.args.parts.now c.loop-i.lists c.loop-i.i c.loop-i.rest c.loop-i-test.false
    (ap parts_listed c.as_slice-items.ensures.value ∙ c.parts.view_is) c.loop-i.invariant.1

pub syntax_number-returns-in_ok-members-in-Seq-clause-is : goal.syntax_number-returns-in_ok-members-in-Seq-clause-is
syntax_number-returns-in_ok-members-in-Seq-clause-is g c =
    sequence_told (module_terms c.args.texts.now) (placed_terms c.args.stated) (placed_terms c.at_end-text.result)
    c.args.syntax.now c.in-Seq.parts c.parts_number.new.lists c.with_parts.new.lists c.in_ok-members-in-Seq.members
    c.with_parts.result (sym c.syntax.view_is ∙ ap syntax_of c.in-Seq.is) c.at_end-text.ensures
    c.in_ok-members-in-Seq.ensures.is c.with_parts.ensures.is

pub syntax_number-returns-in_ok-members-in-Unordered-clause-is : goal.syntax_number-returns-in_ok-members-in-Unordered-clause-is
syntax_number-returns-in_ok-members-in-Unordered-clause-is g c =
    set_told (module_terms c.args.texts.now) (placed_terms c.args.stated) (placed_terms c.at_end-text.result)
    c.args.syntax.now c.in-Unordered.parts c.parts_number-in-Unordered.new.lists c.with_parts-in-Unordered.new.lists
    c.in_ok-members-in-Unordered.members c.with_parts-in-Unordered.result
    (sym c.syntax.view_is ∙ ap syntax_of c.in-Unordered.is) c.at_end-text.ensures
    c.in_ok-members-in-Unordered.ensures.is c.with_parts-in-Unordered.ensures.is

pub syntax_number-returns-in_ok-members-in-Choice-clause-is : goal.syntax_number-returns-in_ok-members-in-Choice-clause-is
syntax_number-returns-in_ok-members-in-Choice-clause-is g c =
    choice_told (module_terms c.args.texts.now) (placed_terms c.args.stated) (placed_terms c.at_end-text.result)
    c.args.syntax.now c.in-Choice.parts c.parts_number-in-Choice.new.lists c.with_parts-in-Choice.new.lists
    c.in_ok-members-in-Choice.members c.with_parts-in-Choice.result
    (sym c.syntax.view_is ∙ ap syntax_of c.in-Choice.is) c.at_end-text.ensures
    c.in_ok-members-in-Choice.ensures.is c.with_parts-in-Choice.ensures.is

pub syntax_number-returns-in_ok-member-in-ListOf-clause-is : goal.syntax_number-returns-in_ok-member-in-ListOf-clause-is
syntax_number-returns-in_ok-member-in-ListOf-clause-is g c =
    list_told (module_terms c.args.texts.now) (placed_terms c.args.stated) (placed_terms c.at_end-text.result)
    (placed_terms c.text_beneath.result) c.args.syntax.now c.in-ListOf.of.value c.in-ListOf.sizes
    c.syntax_number.new.lists c.list_of.new.lists c.in_ok-member-in-ListOf.member c.list_of.result
    (sym c.syntax.view_is ∙ ap syntax_of c.in-ListOf.is) c.text_beneath.ensures c.at_end-text.ensures
    (subst (λ s. NumbersSyntax (module_terms c.args.texts.now) (placed_terms c.text_beneath.result) s
    c.syntax_number.new.lists c.in_ok-member-in-ListOf.member) c.deref.ensures c.in_ok-member-in-ListOf.ensures.is)
    c.list_of.ensures.is

pub syntax_number-returns-in_ok-member-in-SetOf-clause-is : goal.syntax_number-returns-in_ok-member-in-SetOf-clause-is
syntax_number-returns-in_ok-member-in-SetOf-clause-is g c =
    set_of_told (module_terms c.args.texts.now) (placed_terms c.args.stated) (placed_terms c.at_end-text.result)
    (placed_terms c.text_beneath-in-SetOf.result) c.args.syntax.now c.in-SetOf.of.value c.in-SetOf.sizes
    c.syntax_number-in-SetOf.new.lists c.list_of-in-SetOf.new.lists c.in_ok-member-in-SetOf.member
    c.list_of-in-SetOf.result (sym c.syntax.view_is ∙ ap syntax_of c.in-SetOf.is) c.text_beneath-in-SetOf.ensures
    c.at_end-text.ensures
    (subst (λ s. NumbersSyntax (module_terms c.args.texts.now) (placed_terms c.text_beneath-in-SetOf.result) s
    c.syntax_number-in-SetOf.new.lists c.in_ok-member-in-SetOf.member) c.deref-in-SetOf.ensures
    c.in_ok-member-in-SetOf.ensures.is) c.list_of-in-SetOf.ensures.is

pub syntax_number-returns-in_ok-beneath-in-Tagged-clause-is : goal.syntax_number-returns-in_ok-beneath-in-Tagged-clause-is
syntax_number-returns-in_ok-beneath-in-Tagged-clause-is g c =
    tagged_told (module_terms c.args.texts.now) (placed_terms c.args.stated) (placed_terms c.at_end-text.result)
    (placed_terms c.text_beneath-in-Tagged.result) c.args.syntax.now c.in-Tagged.of.value c.in-Tagged.tag
    c.in-Tagged.explicit c.syntax_number-in-Tagged.new.lists c.tagged.new.lists c.in_ok-beneath-in-Tagged.beneath
    c.tagged.result (sym c.syntax.view_is ∙ ap syntax_of c.in-Tagged.is) c.text_beneath-in-Tagged.ensures
    c.at_end-text.ensures
    (subst (λ s. NumbersSyntax (module_terms c.args.texts.now) (placed_terms c.text_beneath-in-Tagged.result) s
    c.syntax_number-in-Tagged.new.lists c.in_ok-beneath-in-Tagged.beneath) c.deref-in-Tagged.ensures
    c.in_ok-beneath-in-Tagged.ensures.is) c.tagged.ensures.is
