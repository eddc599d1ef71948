-- The components of a SEQUENCE or SET.
use Rattle.std.proofs.Common.{refl, sym}
use Rattle.std.proofs.lemmas.Bool.{ltb-false, ltb-true}
use Rattle.std.proofs.lemmas.Option.{slice_get_past, slice_get_read}
use Rattle.asn1_types.proofs.DefaultLaws.{component_told, component_untold, path_led}
use Rattle.asn1_types.proofs.defaults.in_components.Goals as goal

pub returns-in-Some : goal.returns-in-Some
returns-in-Some c = λ ms m word limits.
    let at = c.in-Some.ensures.lookup in
    component_told ms m word limits c.args.components.now c.args.path.now _ _ c.in-Some.component.now
    c.in_component.result (path_led c.args.path.now c.in-len1-up.len_at_least)
    (slice_get_read c.args.components.now _ _ c.in-Some.component.now refl (ltb-true _ _ (sym at.0)) at.1)
    (c.in_component.ensures ms m _ word _ limits)

pub returns-in-None : goal.returns-in-None
returns-in-None c = λ ms m word limits.
    component_untold ms m word limits c.args.components.now c.args.path.now _ _
    (path_led c.args.path.now c.in-len1-up.len_at_least)
    (slice_get_past c.args.components.now _ (ltb-false _ _ (sym c.in-None.ensures.lookup.0)))
