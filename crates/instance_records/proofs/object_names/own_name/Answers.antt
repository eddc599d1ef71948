-- The name of no ROOT: what its pairs state.
use Rattle.std.proofs.Common.{sym}
use Rattle.std.proofs.Math.Path.{subst}
use Rattle.schema_records.proofs.EachLaws.{ok_by}
use Rattle.instance_records.specs.InstanceRecords.{IsObjectName, IsPart}
use Rattle.instance_records.proofs.PairLaws.{along}
use Rattle.instance_records.proofs.object_names.own_name.Goals as goal

pub returns : goal.returns
returns c = ok_by c.name_of.result _ _ (λ name told ms known registered each.
    let linked = c.args.parts.now.linked.now in
    let instance = c.args.instance.now in
    subst (λ b. IsObjectName ms linked b instance.name.items name) (sym c.if-instance.false)
    (along ms linked (IsPart ms linked) instance.name.items c.as_slice.result.now c.args.values.now.name.items
    c.as_slice-2.result.now name (sym c.as_slice.ensures.value) (sym c.as_slice-2.ensures.value) registered.of_name
    each.name_is (told ms known))) c.name_of.ensures
