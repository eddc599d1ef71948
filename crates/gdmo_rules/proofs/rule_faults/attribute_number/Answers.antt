-- The template at the place of the number.
use Rattle.std.proofs.Common.{ap, option_map, refl, sym, ◌∙◌}
use Rattle.std.proofs.lemmas.Bool.{true≢false}
use Rattle.gdmo_names.specs.FoundViews.{found_view}
use Rattle.gdmo_targets.proofs.TableLaws.{got_view}
use Rattle.gdmo_rules.proofs.LabelledLaws.{nothing_there, other_kind}
use Rattle.gdmo_rules.proofs.rule_faults.attribute_number.Goals as goal

pub returns-then-is_attribute-clause-some : goal.returns-then-is_attribute-clause-some
returns-then-is_attribute-clause-some c =
    let got = got_view c.args.templates.now c.args.number c.get.result c.get.ensures.lookup.0 c.get.ensures.lookup.1 in (
      refl,
      record {
        attribute = found_view c.in-Some.template.now;
        at = sym got ∙ ap (option_map (λ x. found_view x.now)) c.in-Some.is;
        of_kind = c.is_attribute.ensures.0 c.if-is_attribute.true;
      },
    )

pub returns-else-is_attribute-clause-none : goal.returns-else-is_attribute-clause-none
returns-else-is_attribute-clause-none c =
    let got = got_view c.args.templates.now c.args.number c.get.result c.get.ensures.lookup.0 c.get.ensures.lookup.1 in
    other_kind c.args.templates.now c.args.number (found_view c.in-Some.template.now)
    (sym got ∙ ap (option_map (λ x. found_view x.now)) c.in-Some.is)
    (λ kind. true≢false (sym (c.is_attribute.ensures.1 kind) ∙ c.if-is_attribute.false))

pub returns-in-None-clause-none : goal.returns-in-None-clause-none
returns-in-None-clause-none c =
    let got = got_view c.args.templates.now c.args.number c.get.result c.get.ensures.lookup.0 c.get.ensures.lookup.1 in
    nothing_there c.args.templates.now c.args.number
    (sym got ∙ ap (option_map (λ x. found_view x.now)) c.in-None.is)
