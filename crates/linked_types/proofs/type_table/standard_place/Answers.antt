-- The type of CMIP-1 that has the name.
use Rattle.std.proofs.Common.{◌<◌, ◌∙◌, arith, length, refl, sym}
use Rattle.std.proofs.lemmas.Bool.Decides.{Decides-eqb}
use Rattle.std.proofs.lemmas.Slice.Eq.{slice_eq-Decides}
use Rattle.class_faults.proofs.PlaceFaultLaws.{got_at}
use Rattle.linked_types.proofs.type_table.standard_place.Goals as goal

pub returns-then-eq : goal.returns-then-eq
returns-then-eq c =
    let within : c.loop-entry.entry-index < length c.args.standard.now = omega (arith, c.loop-entry-test.true) in
    let same = (slice_eq-Decides Decides-eqb c.as_slice.result.now c.args.name.now _ c.if-eq.ensures).0 refl in record {
      k = c.loop-entry.entry-index;
      entry = c.entry-item.result;
      stands = got_at c.args.standard.now c.loop-entry.entry-index c.entry-item.result within c.entry-item.is;
      called = sym c.as_slice.ensures ∙ same;
      is = refl;
    }
