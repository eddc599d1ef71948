-- What the pairs of the name state.
use Rattle.std.proofs.Common.{◌∙◌, ap, sym}
use Rattle.std.specs.Option.{option_copied}
use Rattle.std.proofs.Math.Path.{subst}
use Rattle.std.proofs.lemmas.Option.{same_Some}
use Rattle.section_values.specs.SectionRecords.{IsInstance}
use Rattle.schema_records.proofs.EachLaws.{ok_by}
use Rattle.instance_records.specs.InstanceRecords.{IsPart}
use Rattle.instance_records.proofs.PairLaws.{along}
use Rattle.instance_records.proofs.object_names.stated_name.Goals as goal

pub returns-in-Some : goal.returns-in-Some
returns-in-Some c = ok_by c.name_of.result _ _ (λ name told ms held known registered is each.
    let linked = c.args.parts.now.linked.now in
    let instance = c.args.instance.now in
    let same = same_Some c.in-Some.held.now held (sym (ap option_copied c.in-Some.is) ∙ is) in
    let its = subst (IsInstance ms linked instance) (sym same) each in
    along ms linked (IsPart ms linked) instance.name.items c.as_slice.result.now c.in-Some.held.now.name.items
    c.as_slice-in-Some.result.now name (sym c.as_slice.ensures.value) (sym c.as_slice-in-Some.ensures.value)
    registered.of_name its.name_is (told ms known)) c.name_of.ensures
