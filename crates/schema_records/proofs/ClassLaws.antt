-- ClassLaws: linked classes and the records of these, each by its place: which record an identifier names, which classes
-- are above, and what the packages of a class state (X.722, sections 5.2, 8.3 and 8.4).
use Rattle.std.proofs.Common.{◌≡◌, ◌⊎◌, ◌<◌, ◌∙◌, ◌∷◌, [], ℕ, suc, zero, List, Option, None, Some, ap, arith, inl, inr}
use Rattle.std.proofs.Common.{get_or, length, map, refl, sym}
use Rattle.std.specs.Prelude.{Contains, option_and_then, slice_get}
use Rattle.std.specs.Global.{Vec}
use Rattle.std.proofs.Math.Path.{subst}
use Rattle.std.proofs.lemmas.List.{length-map}
use Rattle.std.proofs.lemmas.Option.{get_or_from_slice_get, same_Some, slice_get-get_or, slice_get_within}
use Rattle.term_model.specs.Inheritance.{Derives, HasRecord, IsAbove}
use Rattle.term_model.specs.Inheritance.IsAbove.{Further, Itself}
use Rattle.term_model.specs.JoinedProperties.{OwnStates, States}
use Rattle.term_model.specs.declared.packages.PackageRec.{PackageRec}
use Rattle.term_model.specs.declared.packages.Property.{Property}
use Rattle.term_model.specs.declared.schema.ClassRec.{ClassRec}
use Rattle.term_model.specs.declared.schema.Set.{Set}
use Rattle.asn1_names.specs.ModuleTerms.{ModuleTerm}
use Rattle.joined_statements.specs.JoinedStatements.{Values}
use Rattle.joined_properties.specs.OwnStatements.{OwnStatement, Stated}
use Rattle.joined_properties.specs.ReachedStatements.{HasStatement}
use Rattle.joined_properties.specs.declared.statement.Statement.{Statement}
use Rattle.link_graphs.specs.Leading.{Leads, LeadsAtOnce, Reaches, targets_of}
use Rattle.link_graphs.specs.Leading.Leads.{at_once, onward}
use Rattle.link_graphs.proofs.LeadingLaws.{reaches_on}
use Rattle.linked_parts.specs.declared.linked.Linked.{Linked}
use Rattle.linked_parts.specs.declared.linked.LinkedClass.{LinkedClass}
use Rattle.linked_parts.specs.declared.linked.LinkedHead.{LinkedHead}
use Rattle.linked_parts.specs.declared.linked.LinkedPackage.{LinkedPackage}
use Rattle.linked_parts.specs.declared.linked.LinkedUse.{LinkedUse}
use Rattle.class_faults.specs.CyclicFaults.{superclasses_of}
use Rattle.linked_types.specs.PartIdentifiers.{AreEach, IsClassId, IsIdentified}
use Rattle.linked_types.specs.PartTypes.{AreTold}
use Rattle.linked_types.specs.declared.type_table.TypeTable.{TypeTable}
use Rattle.package_statements.specs.PackageStatements.{AreStated, AreStatementsOf, IsStatementOf}
use Rattle.schema_records.specs.ApartParts.{AreApart}
use Rattle.schema_records.specs.ClassRecords.{IsClass, IsPackage, IsPackageAt, IsProperty}
use Rattle.schema_records.proofs.EachLaws.{there_of}
use Rattle.schema_records.proofs.StatedLaws.{SayOne}

-- ---- places

pub each_at : {A B : Type 0} (Is : A → B → Type 0) (xs : List A) (ys : List B) (k : ℕ) (x : A) → AreEach Is xs ys →
    slice_get xs k ≡ Some x → (y : B) × (slice_get ys k ≡ Some y) × Is x y
each_at Is [] ys k x each at = absurd (cc)
each_at Is (z ∷ xs) [] k x each at = absurd each
each_at Is (z ∷ xs) (y ∷ ys) zero x each at = (y, refl, subst (λ w. Is w y) (same_Some z x at) each.0)
each_at Is (z ∷ xs) (y ∷ ys) (suc k) x each at = each_at Is xs ys k x each.1 at

pub each_from : {A B : Type 0} (Is : A → B → Type 0) (xs : List A) (ys : List B) (k : ℕ) (y : B) → AreEach Is xs ys →
    slice_get ys k ≡ Some y → (x : A) × (slice_get xs k ≡ Some x) × Is x y
each_from Is [] [] k y each at = absurd (cc)
each_from Is [] (w ∷ ys) k y each at = absurd each
each_from Is (x ∷ xs) [] k y each at = absurd each
each_from Is (x ∷ xs) (w ∷ ys) zero y each at = (x, refl, subst (Is x) (same_Some w y at) each.0)
each_from Is (x ∷ xs) (w ∷ ys) (suc k) y each at = each_from Is xs ys k y each.1 at

pub contains_at : {A : Type 0} (xs : List A) (x : A) → Contains xs x → (k : ℕ) × (slice_get xs k ≡ Some x)
contains_at xs x there =
    (there.0, slice_get-get_or xs there.0 x there.1 ∙ ap Some (there.2))

pub at_contains : {A : Type 0} (xs : List A) (k : ℕ) (x : A) → slice_get xs k ≡ Some x → Contains xs x
at_contains xs k x at = (k, slice_get_within xs k x at, get_or_from_slice_get xs k x x at)

-- the template that an identifier names is there
pub record IsNamed {L : Type 0} (head : L → LinkedHead) (xs : List L) (k : ℕ) (id : List ℕ) : Type 0 where
  pub part : L
  pub stands : slice_get xs k ≡ Some part
  pub called : (head part).identifier ≡ Some id

pub named_part : {L : Type 0} (head : L → LinkedHead) (xs : List L) (k : ℕ) (id : List ℕ) → IsIdentified head xs k id →
    IsNamed head xs k id
named_part {L} head xs k id is = by (slice_get xs k) refl
  where
    by : (o : Option L) → slice_get xs k ≡ o → IsNamed head xs k id
    by None at = absurd (gone (sym (ap (option_and_then (λ x. (head x).identifier)) at) ∙ is))
      where
        gone : None ≡ Some id → ⊥
        gone e = absurd (cc)
    by (Some x) at = record {
      part = x;
      stands = at;
      called = sym (ap (option_and_then (λ y. (head y).identifier)) at) ∙ is;
    }

targets_at : (classes : List LinkedClass) (k : ℕ) (part : LinkedClass) → slice_get classes k ≡ Some part →
    targets_of (superclasses_of classes) k ≡ part.superclasses.items
targets_at [] k part at = absurd (cc)
targets_at (x ∷ classes) zero part at = ap (λ (y : LinkedClass). y.superclasses.items) (same_Some x part at)
targets_at (x ∷ classes) (suc k) part at = targets_at classes k part at

class_of_target : (classes : List LinkedClass) (k place target : ℕ) →
    slice_get (targets_of (superclasses_of classes) k) place ≡ Some target →
    (part : LinkedClass) × (slice_get classes k ≡ Some part)
class_of_target [] k place target at = absurd (cc)
class_of_target (x ∷ classes) zero place target at = (x, refl)
class_of_target (x ∷ classes) (suc k) place target at = class_of_target classes k place target at

-- linked classes with what their packages state, and a schema that has the records of these classes
pub record AreModelled : Type 0 where
  pub ms : List ModuleTerm
  pub linked : Linked
  pub table : TypeTable
  pub values : Values
  pub stated : Stated
  pub schema : Set
  pub are : AreEach (IsClass ms linked) linked.classes.items schema.classes
  pub say : AreStated ms linked table values linked.packages.items stated
  pub apart : AreApart (λ (x : LinkedClass). x.head) linked.classes.items

module _ (m : AreModelled) where
  -- ---- records

  -- the record of the class at a place
  pub record IsRecordAt (k : ℕ) (x : ClassRec) : Type 0 where
    pub part : LinkedClass
    pub class_at : slice_get m.linked.classes.items k ≡ Some part
    pub record_at : slice_get m.schema.classes k ≡ Some x
    pub is : IsClass m.ms m.linked part x

  pub record_there : (k : ℕ) (part : LinkedClass) → slice_get m.linked.classes.items k ≡ Some part →
      (x : ClassRec) × IsRecordAt k x
  record_there k part at =
      let found = each_at (IsClass m.ms m.linked) m.linked.classes.items m.schema.classes k part m.are at in
      (found.0, record { part = part; class_at = at; record_at = found.1; is = found.2 })

  pub record_from : (k : ℕ) (x : ClassRec) → slice_get m.schema.classes k ≡ Some x → IsRecordAt k x
  record_from k x at =
      let found = each_from (IsClass m.ms m.linked) m.linked.classes.items m.schema.classes k x m.are at in
      record { part = found.0; class_at = found.1; record_at = at; is = found.2 }

  pub is_known : {k : ℕ} {x : ClassRec} → IsRecordAt k x → HasRecord m.schema x.id x
  is_known {k} {x} here = record { known = at_contains m.schema.classes k x here.record_at; named = refl }

  is_identified : {k : ℕ} {x : ClassRec} → IsRecordAt k x → IsClassId m.linked k x.id
  is_identified here =
      ap (option_and_then (λ (y : LinkedClass). y.head.identifier)) here.class_at ∙ here.is.registered.is_id

  -- the record of a class is the only one with its identifier
  pub one_record : {k : ℕ} {x : ClassRec} (y : ClassRec) → IsRecordAt k x → HasRecord m.schema x.id y → y ≡ x
  one_record {k} {x} y here has =
      let at = contains_at m.schema.classes y has.known in
      let there = record_from at.0 y at.1 in
      let same = m.apart at.0 k x.id (subst (IsClassId m.linked at.0) has.named (is_identified there)) (is_identified here) in
      same_Some y x (sym at.1 ∙ ap (slice_get m.schema.classes) same ∙ here.record_at)

  -- ---- classes above

  -- a class that a record names, with its record
  pub record Names (k : ℕ) (id : List ℕ) : Type 0 where
    pub x : ClassRec
    pub here : IsRecordAt k x
    pub called : x.id ≡ id

  named_record : (k : ℕ) (id : List ℕ) → IsClassId m.linked k id → Names k id
  named_record k id is =
      let named = named_part (λ (x : LinkedClass). x.head) m.linked.classes.items k id is in
      let found = record_there k named.part named.stands in
      record {
        x = found.0;
        here = found.1;
        called = same_Some found.0.id id (sym found.1.is.registered.is_id
            ∙ ap (λ (y : LinkedClass). y.head.identifier)
            (same_Some found.1.part named.part (sym found.1.class_at ∙ named.stands)) ∙ named.called);
      }

  -- the record of a superclass
  pub record HasAbove (x : ClassRec) (target : ℕ) : Type 0 where
    pub y : ClassRec
    pub there : IsRecordAt target y
    pub derives : Derives m.schema x.id y.id

  pub above_at : {k : ℕ} {x : ClassRec} (here : IsRecordAt k x) (place target : ℕ) →
      slice_get here.part.superclasses.items place ≡ Some target → HasAbove x target
  above_at {k} {x} here place target at =
      let found = each_at (IsClassId m.linked) here.part.superclasses.items x.superclasses place target
      here.is.superclasses_are at in
      let named = named_record target found.0 found.2 in
      record {
        y = named.x;
        there = named.here;
        derives = record {
          of_class = x;
          has = is_known here;
          from = subst (Contains x.superclasses) (sym named.called) (at_contains x.superclasses place found.0 found.1);
        };
      }

  pub above_once : {k : ℕ} {x : ClassRec} → IsRecordAt k x → (target : ℕ) →
      LeadsAtOnce (superclasses_of m.linked.classes.items) k target → HasAbove x target
  above_once {k} {x} here target one =
      above_at here one.place target
      (subst (λ ts. slice_get ts one.place ≡ Some target) (targets_at m.linked.classes.items k here.part here.class_at)
      one.stands)

  -- a superclass that a record names
  pub record IsSuperclass (k : ℕ) (superclasses : List ℕ) (id : List ℕ) : Type 0 where
    pub target : ℕ
    pub named : Names target id
    pub listed : Contains superclasses target
    pub leads : LeadsAtOnce (superclasses_of m.linked.classes.items) k target

  pub superclass_of : {k : ℕ} {x : ClassRec} (here : IsRecordAt k x) (id : List ℕ) → Derives m.schema x.id id →
      IsSuperclass k here.part.superclasses.items id
  superclass_of {k} {x} here id derives =
      let same = one_record derives.of_class here derives.has in
      let at = contains_at x.superclasses id
      (subst (λ (y : ClassRec). Contains y.superclasses id) same derives.from) in
      let found = each_from (IsClassId m.linked) here.part.superclasses.items x.superclasses at.0 id
      here.is.superclasses_are at.1 in
      let named = named_record found.0 id found.2 in
      record {
        target = found.0;
        named = named;
        listed = at_contains here.part.superclasses.items at.0 found.0 found.1;
        leads = record {
          place = at.0;
          stands = subst (λ ts. slice_get ts at.0 ≡ Some found.0)
              (sym (targets_at m.linked.classes.items k here.part here.class_at)) found.1;
          within =
              let within = slice_get_within m.linked.classes.items found.0 named.here.part named.here.class_at in
              let size = length-map m.linked.classes.items (λ (y : LinkedClass). y.superclasses.items) in
              omega (arith, within, size);
        };
      }

  -- the record of a class that is reached
  pub record HasReached (x : ClassRec) (k : ℕ) : Type 0 where
    pub y : ClassRec
    pub there : IsRecordAt k y
    pub above : IsAbove m.schema x.id y.id

  leads_above : {k : ℕ} {x : ClassRec} → IsRecordAt k x → (j : ℕ) →
      Leads (superclasses_of m.linked.classes.items) k j → HasReached x j
  leads_above here j (at_once one) =
      let next = above_once here j one in
      record { y = next.y; there = next.there; above = Further Itself next.derives }
  leads_above here j (onward {between = between} leads one) =
      let so_far = leads_above here between leads in
      let next = above_once so_far.there j one in
      record { y = next.y; there = next.there; above = Further so_far.above next.derives }

  pub reached_above : {k : ℕ} {x : ClassRec} → IsRecordAt k x → (j : ℕ) →
      Reaches (superclasses_of m.linked.classes.items) k j → HasReached x j
  reached_above {k} {x} here j (inl same) =
      record { y = x; there = subst (λ n. IsRecordAt n x) same here; above = Itself }
  reached_above here j (inr leads) = leads_above here j leads

  pub record IsReached (k : ℕ) (id : List ℕ) : Type 0 where
    pub above : ℕ
    pub named : Names above id
    pub reaches : Reaches (superclasses_of m.linked.classes.items) k above

  pub above_reached : {k : ℕ} {x : ClassRec} → IsRecordAt k x → (id : List ℕ) → IsAbove m.schema x.id id → IsReached k id
  above_reached {k} {x} here id Itself =
      record { above = k; named = record { x = x; here = here; called = refl }; reaches = inl refl }
  above_reached here id (Further {above = above} is_above derives) =
      let so_far = above_reached here above is_above in
      let next = superclass_of so_far.named.here id
      (subst (λ a. Derives m.schema a id) (sym so_far.named.called) derives) in
      record { above = next.target; named = next.named; reaches = reaches_on so_far.reaches next.leads }

  -- ---- statements

  -- a property of the packages at these places, with the statement of the same
  pub record HasStated (places : List ℕ) (x : Property) : Type 0 where
    pub place : ℕ
    pub own : Contains places place
    pub statements : Vec Statement
    pub package_at : slice_get m.stated place ≡ Some statements
    pub statement : Statement
    pub says : Contains statements.items statement
    pub both : SayOne m.ms m.linked m.table m.values statement x

  statements_at : (place : ℕ) (part : LinkedPackage) → slice_get m.linked.packages.items place ≡ Some part →
      (statements : Vec Statement) × (slice_get m.stated place ≡ Some statements)
      × AreStatementsOf m.ms m.linked m.table m.values part statements
  statements_at place part at =
      let within = slice_get_within m.linked.packages.items place part at in
      let size = m.say.size in
      let found = there_of m.stated place (omega arith) in
      (found.0, found.1, m.say.told place part found.0 at found.1)

  stated_in : (places : List ℕ) (packages : List PackageRec) (package_ : PackageRec) (x : Property) →
      AreEach (IsPackageAt m.ms m.linked) places packages → Contains packages package_ → Contains package_.attributes x →
      HasStated places x
  stated_in places packages package_ x each own says =
      let at = contains_at packages package_ own in
      let found = each_from (IsPackageAt m.ms m.linked) places packages at.0 package_ each at.1 in
      let part = found.2.0 in
      let statements = statements_at found.0 part found.2.1 in
      let where_ = contains_at package_.attributes x says in
      let use_ = each_from (IsProperty m.ms m.linked) part.attributes.items package_.attributes where_.0 x
      found.2.2.attributes_are where_.1 in
      let within = slice_get_within part.attributes.items where_.0 use_.0 use_.1 in
      let size = statements.2.size in
      let one = there_of statements.0.items where_.0 (omega arith) in
      record {
        place = found.0;
        own = at_contains places at.0 found.0 found.1;
        statements = statements.0;
        package_at = statements.1;
        statement = one.0;
        says = at_contains statements.0.items where_.0 one.0 one.1;
        both = record {
          stated = use_.0;
          says = statements.2.told where_.0 use_.0 one.0 use_.1 one.1;
          is = use_.2;
        };
      }

  pub record IsOwnSaid (k : ℕ) (x : Property) : Type 0 where
    pub statement : Statement
    pub own : OwnStatement m.linked.classes.items m.stated k statement
    pub both : SayOne m.ms m.linked m.table m.values statement x

  -- what the record of a class states itself, its class states
  pub own_said : {k : ℕ} {of_class : ClassRec} → IsRecordAt k of_class → (x : Property) → OwnStates of_class x →
      IsOwnSaid k x
  own_said {k} {of_class} here x own = by own.own
    where
      made : (found : HasStated here.part.mandatory.items x ⊎ HasStated here.part.conditional.items x) → IsOwnSaid k x
      made (inl found) = record {
        statement = found.statement;
        own = record {
          of_class = here.part;
          class_at = here.class_at;
          place = found.place;
          own = inl found.own;
          statements = found.statements;
          package_at = found.package_at;
          says = found.says;
        };
        both = found.both;
      }
      made (inr found) = record {
        statement = found.statement;
        own = record {
          of_class = here.part;
          class_at = here.class_at;
          place = found.place;
          own = inr found.own;
          statements = found.statements;
          package_at = found.package_at;
          says = found.says;
        };
        both = found.both;
      }

      by : Contains of_class.mandatory own.of_package ⊎ Contains of_class.conditional own.of_package → IsOwnSaid k x
      by (inl there) = made (inl (stated_in here.part.mandatory.items of_class.mandatory own.of_package x
          here.is.mandatory_are there own.says))
      by (inr there) = made (inr (stated_in here.part.conditional.items of_class.conditional own.of_package x
          here.is.conditional_are there own.says))

  -- the record of a package at one of these places, with the property of a statement
  pub record HasProperty (packages : List PackageRec) (statement : Statement) : Type 0 where
    pub of_package : PackageRec
    pub own : Contains packages of_package
    pub x : Property
    pub says : Contains of_package.attributes x
    pub both : SayOne m.ms m.linked m.table m.values statement x

  property_in : (places : List ℕ) (packages : List PackageRec) (place : ℕ) (statements : Vec Statement)
      (statement : Statement) → AreEach (IsPackageAt m.ms m.linked) places packages → Contains places place →
      slice_get m.stated place ≡ Some statements → Contains statements.items statement → HasProperty packages statement
  property_in places packages place statements statement each own at says =
      let there = contains_at places place own in
      let found = each_at (IsPackageAt m.ms m.linked) places packages there.0 place each there.1 in
      let part = found.2.0 in
      let told = m.say.told place part statements found.2.1 at in
      let where_ = contains_at statements.items statement says in
      let within = slice_get_within statements.items where_.0 statement where_.1 in
      let size = told.size in
      let use_ = there_of part.attributes.items where_.0 (omega arith) in
      let property = each_at (IsProperty m.ms m.linked) part.attributes.items found.0.attributes where_.0 use_.0
      found.2.2.attributes_are use_.1 in
      record {
        of_package = found.0;
        own = at_contains packages there.0 found.0 found.1;
        x = property.0;
        says = at_contains found.0.attributes where_.0 property.0 property.1;
        both = record {
          stated = use_.0;
          says = told.told where_.0 use_.0 statement use_.1 where_.1;
          is = property.2;
        };
      }

  pub record IsOwnProperty (of_class : ClassRec) (statement : Statement) : Type 0 where
    pub x : Property
    pub own : OwnStates of_class x
    pub both : SayOne m.ms m.linked m.table m.values statement x

  -- what a class states itself, its record states
  pub own_property : {k : ℕ} {of_class : ClassRec} → IsRecordAt k of_class → (statement : Statement) →
      OwnStatement m.linked.classes.items m.stated k statement → IsOwnProperty of_class statement
  own_property {k} {of_class} here statement own = by (subst (λ (part : LinkedClass).
      Contains part.mandatory.items own.place ⊎ Contains part.conditional.items own.place)
      (same_Some own.of_class here.part (sym own.class_at ∙ here.class_at)) own.own)
    where
      by : Contains here.part.mandatory.items own.place ⊎ Contains here.part.conditional.items own.place →
          IsOwnProperty of_class statement
      by (inl there) =
          let found = property_in here.part.mandatory.items of_class.mandatory own.place own.statements statement
          here.is.mandatory_are there own.package_at own.says in
          record {
            x = found.x;
            own = record { of_package = found.of_package; own = inl found.own; says = found.says };
            both = found.both;
          }
      by (inr there) =
          let found = property_in here.part.conditional.items of_class.conditional own.place own.statements statement
          here.is.conditional_are there own.package_at own.says in
          record {
            x = found.x;
            own = record { of_package = found.of_package; own = inr found.own; says = found.says };
            both = found.both;
          }

  pub record IsSaid (k : ℕ) (x : Property) : Type 0 where
    pub statement : Statement
    pub has : HasStatement m.linked.classes.items m.stated k statement
    pub both : SayOne m.ms m.linked m.table m.values statement x

  -- what holds of the record of a class, its own and inherited
  pub states_said : {k : ℕ} {of_class : ClassRec} → IsRecordAt k of_class → (x : Property) →
      States m.schema of_class.id x → IsSaid k x
  states_said here x states =
      let reached = above_reached here states.above states.is_above in
      let same = one_record states.of_class reached.named.here
      (subst (λ id. HasRecord m.schema id states.of_class) (sym reached.named.called) states.record_of) in
      let own = own_said reached.named.here x (subst (λ (y : ClassRec). OwnStates y x) same states.says) in
      record {
        statement = own.statement;
        has = record { above = reached.above; is_above = reached.reaches; says = own.own };
        both = own.both;
      }

  pub record HasSaid (class : List ℕ) (statement : Statement) : Type 0 where
    pub x : Property
    pub states : States m.schema class x
    pub both : SayOne m.ms m.linked m.table m.values statement x

  pub said_states : {k : ℕ} {of_class : ClassRec} → IsRecordAt k of_class → (statement : Statement) →
      HasStatement m.linked.classes.items m.stated k statement → HasSaid of_class.id statement
  said_states here statement has =
      let reached = reached_above here has.above has.is_above in
      let own = own_property reached.there statement has.says in
      record {
        x = own.x;
        states = record {
          above = reached.y.id;
          is_above = reached.above;
          of_class = reached.y;
          record_of = is_known reached.there;
          says = own.own;
        };
        both = own.both;
      }
