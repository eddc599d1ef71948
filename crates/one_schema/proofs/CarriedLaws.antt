-- CarriedLaws: what the classes of a schema derive from, and what their packages state, is so in each schema whose
-- classes have the same templates (X.722, sections 5.2, 8.3 and 8.4).
use Rattle.std.specs.Prelude.{◌⊎◌, ℕ, List, Option, Contains}
use Rattle.std.proofs.Common.{◌∙◌, inl, inr, sym}
use Rattle.std.proofs.Math.Path.{subst}
use Rattle.term_values.specs.Typed.{TypedValue}
use Rattle.term_model.specs.Inheritance.{Derives, HasRecord, IsAbove}
use Rattle.term_model.specs.Inheritance.IsAbove.{Further, Itself}
use Rattle.term_model.specs.JoinedProperties.{Holds, OwnStates, SomeStates, States}
use Rattle.term_model.specs.JoinedProperties.Holds.{Inherited, Own}
use Rattle.term_model.specs.declared.packages.PackageRec.{PackageRec}
use Rattle.term_model.specs.declared.packages.Property.{Property}
use Rattle.term_model.specs.declared.schema.ClassRec.{ClassRec}
use Rattle.term_model.specs.declared.schema.Set.{Set}
use Rattle.linked_types.specs.PartIdentifiers.{AreEach}
use Rattle.schema_records.proofs.ClassLaws.{at_contains, contains_at, each_at}
use Rattle.one_schema.specs.SameSchemas.{HaveSameTemplate}

turned : {x y : ClassRec} → HaveSameTemplate x y → HaveSameTemplate y x
turned same = record {
  id = sym same.id;
  label = sym same.label;
  superclasses = sym same.superclasses;
  mandatory = sym same.mandatory;
  conditional = sym same.conditional;
}

own_carried : {x y : ClassRec} {stated : Property} → HaveSameTemplate x y → OwnStates x stated → OwnStates y stated
own_carried {x} {y} same own = record { of_package = own.of_package; own = by own.own; says = own.says }
  where
    by : Contains x.mandatory own.of_package ⊎ Contains x.conditional own.of_package →
        Contains y.mandatory own.of_package ⊎ Contains y.conditional own.of_package
    by (inl there) = inl (subst (λ (ps : List PackageRec). Contains ps own.of_package) same.mandatory there)
    by (inr there) = inr (subst (λ (ps : List PackageRec). Contains ps own.of_package) same.conditional there)

module _ (one other : Set) (same : AreEach HaveSameTemplate one.classes other.classes) where
  -- the record of a class in the other schema
  record HasCarried (class : List ℕ) (x : ClassRec) : Type 0 where
    y : ClassRec
    has : HasRecord other class y
    template : HaveSameTemplate x y

  record_carried : {class : List ℕ} {x : ClassRec} → HasRecord one class x → HasCarried class x
  record_carried {class} {x} has =
      let at = contains_at one.classes x has.known in
      let found = each_at HaveSameTemplate one.classes other.classes at.0 x same at.1 in
      record {
        y = found.0;
        has = record {
          known = at_contains other.classes at.0 found.0 found.1;
          named = sym found.2.id ∙ has.named;
        };
        template = found.2;
      }

  derives_carried : {class superclass : List ℕ} → Derives one class superclass → Derives other class superclass
  derives_carried {class} {superclass} derives =
      let carried = record_carried derives.has in
      record {
        of_class = carried.y;
        has = carried.has;
        from = subst (λ ids. Contains ids superclass) carried.template.superclasses derives.from;
      }

  above_carried : {class above : List ℕ} → IsAbove one class above → IsAbove other class above
  above_carried Itself = Itself
  above_carried (Further so_far derives) = Further (above_carried so_far) (derives_carried derives)

  states_carried : {class : List ℕ} {stated : Property} → States one class stated → States other class stated
  states_carried states =
      let carried = record_carried states.record_of in
      record {
        above = states.above;
        is_above = above_carried states.is_above;
        of_class = carried.y;
        record_of = carried.has;
        says = own_carried carried.template states.says;
      }

  pub some_carried : (class attribute : List ℕ) (such : Property → Type 0) → SomeStates one class attribute such →
      SomeStates other class attribute such
  some_carried class attribute such (stated, states, is, holds) = (stated, states_carried states, is, holds)

  -- a value that the class itself states hides what is inherited, in both
  pub holds_carried : (which : Property → Option TypedValue) (attribute : List ℕ) {class : List ℕ}
      {value : TypedValue} → Holds one which attribute class value → Holds other which attribute class value
  holds_carried which attribute (Own of_class stated has own is gives) =
      let carried = record_carried has in
      Own carried.y stated carried.has (own_carried carried.template own) is gives
  holds_carried which attribute (Inherited of_class has unstated derives holds) =
      let carried = record_carried has in
      Inherited carried.y carried.has (λ stated own. unstated stated (own_carried (turned carried.template) own))
      (derives_carried derives) (holds_carried which attribute holds)
