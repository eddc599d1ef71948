-- The parts of the braces as a list.
use Rattle.std.proofs.Common.{◌≡◌, ◌∙◌, ap, sym, subst}
use Rattle.std.specs.Prelude.{IfOk}
use Rattle.gdmo_names.specs.ArcViews.{braces_arcs}
use Rattle.identifier_arcs.specs.ArcTexts.{list_arcs, maybe_said}
use Rattle.identifier_arcs.proofs.ArcRowLaws.{parts_said}
use Rattle.identifier_arcs.proofs.arc_texts.of_content.Goals as goal

pub returns-in-Parts : goal.returns-in-Parts
returns-in-Parts c =
    let brace = c.args.brace.now in
    subst (λ o. IfOk c.of_parts.result (λ text. maybe_said text ≡ o))
    (ap (list_arcs brace) c.as_slice.ensures.value ∙ sym (parts_said brace c.in-Parts.parts) ∙
    ap (braces_arcs brace) (sym c.in-Parts.is)) c.of_parts.ensures
