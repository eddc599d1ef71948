-- The part at the place, or none.
use Rattle.std.proofs.Common.{◌∙◌, None, Some, ap, option_map, sym}
use Rattle.std.proofs.lemmas.Option.{slice_get_past}
use Rattle.term_values.specs.PartsView.{parts_listed}
use Rattle.gdmo_types.proofs.StepLaws.{got_at}
use Rattle.begun_values.specs.DefaultNames.{part_of}
use Rattle.begun_values.proofs.DefaultLaws.{part_there}
use Rattle.begun_values.proofs.default_values.part_in.Goals as goal

pub returns-in-Some-get : goal.returns-in-Some-get
returns-in-Some-get c =
    let at = got_at c.deref.result.now c.args.place c.in-Some-get.part.now c.in-Some-get.ensures.lookup.3.0
    c.in-Some-get.ensures.lookup.1 in
    part_there c.in-Some.parts.now c.deref.result.now c.args.place (Some c.in-Some-get.part.now) (sym at)
    (ap parts_listed c.deref.ensures.value ∙ c.parts.view_is)
    ∙ sym (ap (λ o. part_of (option_map (λ one. one.now) o) c.args.place) c.in-Some.is)

pub returns-in-None-get : goal.returns-in-None-get
returns-in-None-get c =
    part_there c.in-Some.parts.now c.deref.result.now c.args.place None
    (sym (slice_get_past c.deref.result.now c.args.place c.in-None-get.ensures.lookup.3))
    (ap parts_listed c.deref.ensures.value ∙ c.parts.view_is)
    ∙ sym (ap (λ o. part_of (option_map (λ one. one.now) o) c.args.place) c.in-Some.is)
