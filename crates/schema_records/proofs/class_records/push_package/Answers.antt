-- The package at the place, with what it states.
use Rattle.std.proofs.Common.{◌≡◌, ◌∙◌, None, Some, ap, sym}
use Rattle.std.specs.Prelude.{slice_get}
use Rattle.std.specs.Option.{option_copied}
use Rattle.std.proofs.Math.Path.{subst}
use Rattle.asn1_names.proofs.TableAnswers.{item_is}
use Rattle.linked_parts.specs.declared.linked.LinkedPackage.{LinkedPackage}
use Rattle.schema_records.specs.KnownPackages.{IsKnownPackage}
use Rattle.schema_records.proofs.PropertyLaws.{package_known}
use Rattle.schema_records.proofs.class_records.push_package.Goals as goal

pub returns-in_ok-push-in-Some-get : goal.returns-in_ok-push-in-Some-get
returns-in_ok-push-in-Some-get c = λ ms known there.
    let parts = c.args.parts.now in
    let linked = parts.linked.now in
    let place = c.args.place in
    let part = c.in-Some.part.now in
    let statements = c.in-Some-get.statements.now in
    let at : slice_get linked.packages.items place ≡ Some part =
    sym (ap (λ xs. slice_get xs place) c.deref.ensures.value) ∙ sym (item_is c.deref.result.now place c.get.result
    c.get.ensures.lookup.0 c.get.ensures.lookup.1) ∙ ap option_copied c.in-Some.is in
    let stated : slice_get c.args.joined.now.stated.now place ≡ Some statements =
    sym (item_is c.args.joined.now.stated.now place c.get-in-Some.result c.get-in-Some.ensures.lookup.0
    c.get-in-Some.ensures.lookup.1) ∙ ap option_copied c.in-Some-get.is in record {
      x = c.in_ok-package_record-in-Some-get.field-0;
      behind = c.in_ok-push-in-Some-get.ensures.items;
      is = (
        part,
        at,
        c.in_ok-package_record-in-Some-get.ensures ms
            (subst (IsKnownPackage ms linked parts.table.now parts.values.now part) (sym c.as_slice.ensures.value)
            (package_known place part statements known at stated)),
      );
    }

pub returns-in-None : goal.returns-in-None
returns-in-None c = λ ms known there.
    let linked = c.args.parts.now.linked.now in
    let place = c.args.place in
    let at : slice_get linked.packages.items place ≡ None =
    sym (ap (λ xs. slice_get xs place) c.deref.ensures.value) ∙ sym (item_is c.deref.result.now place c.get.result
    c.get.ensures.lookup.0 c.get.ensures.lookup.1) ∙ ap option_copied c.in-None.is in
    absurd (gone there.0 (sym at ∙ there.1))
  where
    gone : (part : LinkedPackage) → None ≡ Some part → ⊥
    gone part e = absurd (cc)
