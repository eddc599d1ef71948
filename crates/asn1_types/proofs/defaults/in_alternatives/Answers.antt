-- The alternatives of a CHOICE.
use Rattle.std.proofs.Common.{refl, sym}
use Rattle.std.proofs.lemmas.Bool.{ltb-false, ltb-true}
use Rattle.std.proofs.lemmas.Option.{slice_get_past, slice_get_read}
use Rattle.asn1_types.proofs.DefaultLaws.{alternative_told, alternative_untold, path_led}
use Rattle.asn1_types.proofs.defaults.in_alternatives.Goals as goal

pub returns-in-Some : goal.returns-in-Some
returns-in-Some c = λ ms m word limits.
    let at = c.in-Some.ensures.lookup in
    alternative_told ms m word limits c.args.alternatives.now c.args.path.now _ _ c.in-Some.alternative.now
    c.in_alternative.result (path_led c.args.path.now c.in-len1-up.len_at_least)
    (slice_get_read c.args.alternatives.now _ _ c.in-Some.alternative.now refl (ltb-true _ _ (sym at.0)) at.1)
    (c.in_alternative.ensures ms m _ word _ limits)

pub returns-in-None : goal.returns-in-None
returns-in-None c = λ ms m word limits.
    alternative_untold ms m word limits c.args.alternatives.now c.args.path.now _ _
    (path_led c.args.path.now c.in-len1-up.len_at_least)
    (slice_get_past c.args.alternatives.now _ (ltb-false _ _ (sym c.in-None.ensures.lookup.0)))
