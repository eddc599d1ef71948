-- One class more, and all of them.
use Rattle.std.proofs.Common.{◌≡◌, ◌<◌, ◌≤◌, Some, ap, arith, length, sym}
use Rattle.std.specs.Prelude.{All, slice_get}
use Rattle.std.proofs.Math.Path.{subst}
use Rattle.term_model.specs.JoinedProperties.{HasJoined}
use Rattle.class_faults.proofs.PlaceFaultLaws.{got_at}
use Rattle.linked_types.specs.PartIdentifiers.{AreEach}
use Rattle.schema_records.specs.ClassRecords.{IsClass}
use Rattle.schema_records.specs.PropertyRecords.{AreAttributePlaces, HasJoinedProperties}
use Rattle.schema_records.specs.RegisteredParts.{IsRegisteredClass}
use Rattle.schema_records.proofs.EachLaws.{all_at, each_added, each_none, each_whole, there_of}
use Rattle.schema_records.proofs.ClassLaws.{AreModelled}
use Rattle.schema_records.proofs.JoinedLaws.{all_joined, tables_registered}
use Rattle.schema_records.proofs.class_records.class_records.Goals as goal

pub loop-place-init : goal.loop-place-init
loop-place-init c =
    let parts = c.args.parts.now in record {
      told = λ ms known. each_none (IsClass ms parts.linked.now) c.new-records.result c.new-records.ensures;
      properties = λ registered size places.
          each_none (HasJoinedProperties parts.linked.now parts.table.now parts.values.now) c.new-records.result
          c.new-records.ensures;
    }

pub loop-place-preserved : goal.loop-place-preserved
loop-place-preserved c =
    let parts = c.args.parts.now in
    let linked = parts.linked.now in
    let tables = c.args.joined.now.properties.now in
    let i = c.loop-place.place in
    let slice = c.deref-part-items.result.now in
    let part = c.part-item.result in
    let within : i < length slice = omega (arith, c.loop-place-test.true) in
    let at = subst (λ xs. slice_get xs i ≡ Some part) c.deref-part-items.ensures.value
    (got_at slice i part within c.part-item.is) in record {
      told = λ ms known. each_added (IsClass ms linked) linked.classes.items i part c.loop-place.records
          c.push_class.new.records at (c.loop-place.invariant.told ms known)
          (c.in_ok-push_class.ensures.told ms known
          (all_at (IsRegisteredClass linked) linked.classes.items i part known.registered.classes at));
      properties = λ registered size places.
          let same : length slice ≡ length linked.classes.items = ap length c.deref-part-items.ensures.value in
          let table = there_of tables i (omega arith) in
          each_added (HasJoinedProperties linked parts.table.now parts.values.now) tables i table.0
          c.loop-place.records c.push_class.new.records table.1 (c.loop-place.invariant.properties registered size places)
          (c.in_ok-push_class.ensures.properties table.0
          (all_at (IsRegisteredClass linked) linked.classes.items i part registered.classes at).itself table.1
          (all_at (AreAttributePlaces linked) tables i table.0 places table.1));
    }

pub returns-clause-told : goal.returns-clause-told
returns-clause-told c = λ ms registered have means say.
    each_whole (IsClass ms c.args.parts.now.linked.now) c.args.parts.now.linked.now.classes.items c.loop-place.place
    c.loop-place.records
    (subst (λ xs. length xs ≤ c.loop-place.place) c.deref-part-items.ensures.value c.loop-place-test.false)
    (c.loop-place.invariant.told ms
    (record { say = say; registered = registered; types = have; values_are = means }))

pub returns-clause-properties : goal.returns-clause-properties
returns-clause-properties c = λ registered size places.
    let parts = c.args.parts.now in
    let same = ap length c.deref-part-items.ensures.value in
    let past = c.loop-place-test.false in
    each_whole (HasJoinedProperties parts.linked.now parts.table.now parts.values.now) c.args.joined.now.properties.now
    c.loop-place.place c.loop-place.records (omega arith) (c.loop-place.invariant.properties registered size places)

pub returns-clause-joined : goal.returns-clause-joined
returns-clause-joined c = λ ms schema registered have means own say joined equal same.
    let parts = c.args.parts.now in
    let linked = parts.linked.now in
    let known = c.args.joined.now.properties.now in
    let stated = c.args.joined.now.stated.now in
    let records = c.loop-place.records in
    let model : AreModelled = record {
      ms = ms;
      linked = linked;
      table = parts.table.now;
      values = parts.values.now;
      stated = stated;
      schema = schema;
      are = subst (AreEach (IsClass ms linked) linked.classes.items) (sym same)
          (returns-clause-told c ms registered have means say);
      say = say;
      apart = own.classes;
    } in
    let places = tables_registered ms linked parts.table.now parts.values.now stated known registered say joined in
    subst (All (HasJoined schema)) same
    (all_joined model own.attributes known
    (subst (AreEach (HasJoinedProperties linked parts.table.now parts.values.now) known) (sym same)
    (returns-clause-properties c registered joined.size places)) joined equal)
