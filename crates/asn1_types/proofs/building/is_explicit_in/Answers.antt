-- The module's tags.
use Rattle.std.proofs.Common.{◌∙◌, ap, refl, sym}
use Rattle.std.proofs.lemmas.Bool.{ltb-false, ltb-true}
use Rattle.std.proofs.lemmas.Option.{slice_get_past, slice_get_read}
use Rattle.asn1_names.specs.DenotedSyntax.{is_explicit}
use Rattle.asn1_types.proofs.BuildingLaws.{default_is, default_none}
use Rattle.asn1_types.proofs.building.is_explicit_in.Goals as goal

pub returns-in-Some : goal.returns-in-Some
returns-in-Some c =
    let at = c.in-Some.ensures.lookup in
    c.is_explicit.ensures ∙ ap (λ b. is_explicit b c.args.mode.now c.args.of.now)
    (sym (default_is c.args.numbers.now c.modules.result.now c.args.home c.in-Some.text.now
    (c.modules.ensures ∙ c.tables.ensures)
    (slice_get_read c.modules.result.now _ c.args.home c.in-Some.text.now refl (ltb-true _ _ (sym at.0)) at.1)))

pub returns-in-None : goal.returns-in-None
returns-in-None c =
    c.is_explicit-in-None.ensures ∙ ap (λ b. is_explicit b c.args.mode.now c.args.of.now)
    (sym (default_none c.args.numbers.now c.modules.result.now c.args.home (c.modules.ensures ∙ c.tables.ensures)
    (slice_get_past c.modules.result.now c.args.home (ltb-false _ _ (sym c.in-None.ensures.lookup.0)))))
