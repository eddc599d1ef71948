-- JoinedLaws: classes with the same templates, in schemas whose classes all have these, have the same joined properties
-- (X.722, section 8.4; docs/PROFILE.md, section 18).
use Rattle.std.specs.Prelude.{◌≡◌, ◌↔◌, ◌∷◌, [], ℕ, zero, suc, List, Bool, true, Option, Some, Contains, get_or, map}
use Rattle.std.specs.Prelude.{refl, slice_get}
use Rattle.std.proofs.Common.{◌∙◌, sym}
use Rattle.std.proofs.Math.Path.{subst}
use Rattle.std.proofs.lemmas.List.Elements.{All-contains, Contains-get_or}
use Rattle.std.proofs.lemmas.Option.{same_Some}
use Rattle.term_values.specs.Typed.{TypedValue}
use Rattle.term_model.specs.JoinedProperties.{HasJoined, Holds, IsJoined, SomeStates, States}
use Rattle.term_model.specs.declared.packages.Property.{Property}
use Rattle.term_model.specs.declared.schema.ClassRec.{ClassRec}
use Rattle.term_model.specs.declared.schema.Set.{Set}
use Rattle.linked_types.specs.PartIdentifiers.{AreEach}
use Rattle.schema_records.proofs.ClassLaws.{at_contains, contains_at}
use Rattle.one_schema.specs.SameSchemas.{AreSaidBy, AreSameClasses, AreSameProperties, HaveSameTemplate}
use Rattle.one_schema.proofs.OnceLaws.{same_bool, same_option}
use Rattle.one_schema.proofs.CarriedLaws.{holds_carried, some_carried}

-- what each of two is told by, where either gives the other
both_told : {P Q A B : Type 0} → P ↔ A → Q ↔ B → (A → B) → (B → A) → P ↔ Q
both_told is also to from = (λ p. also.1 (to (is.0 p)), λ q. is.1 (from (also.0 q)))

-- the element of which something is told
told_at : {A B : Type 0} (tells : A → B) (xs : List A) (k : ℕ) (y : B) → slice_get (map tells xs) k ≡ Some y →
    (x : A) × (slice_get xs k ≡ Some x) × (tells x ≡ y)
told_at tells [] k y at = absurd (cc)
told_at tells (x ∷ xs) zero y at = (x, refl, same_Some (tells x) y at)
told_at tells (x ∷ xs) (suc k) y at = told_at tells xs k y at

told_of : {A B : Type 0} (tells : A → B) (xs : List A) (y : B) → Contains (map tells xs) y →
    (x : A) × Contains xs x × (tells x ≡ y)
told_of tells xs y has =
    let at = contains_at (map tells xs) y has in
    let found = told_at tells xs at.0 y at.1 in (found.0, at_contains xs at.0 found.0 found.1, found.2)

module _ (one other : Set) (to : AreEach HaveSameTemplate one.classes other.classes)
    (from : AreEach HaveSameTemplate other.classes one.classes) where
  -- two properties of one attribute of a class
  same_joined : (class : List ℕ) (p q : Property) → p.attribute ≡ q.attribute → IsJoined one class p →
      IsJoined other class q → AreSameProperties p q
  same_joined class p q same is also = record {
    attribute = same;
    get = flag p.get q.get (λ x. x.get ≡ true) is.get also.get;
    replace = flag p.replace q.replace (λ x. x.replace ≡ true) is.replace also.replace;
    add = flag p.add q.add (λ x. x.add ≡ true) is.add also.add;
    remove = flag p.remove q.remove (λ x. x.remove ≡ true) is.remove also.remove;
    set_to_default = flag p.set_to_default q.set_to_default (λ x. x.set_to_default ≡ true) is.set_to_default
        also.set_to_default;
    default = value p.default q.default (λ x. x.default) is.default also.default;
    initial = value p.initial q.initial (λ x. x.initial) is.initial also.initial;
    permitted = λ type. stated (λ x. Contains x.permitted type) (is.permitted type) (also.permitted type);
    required = λ name. stated (λ x. Contains x.required name) (is.required name) (also.required name);
  }
    where
      stated : {P Q : Type 0} (such : Property → Type 0) → P ↔ SomeStates one class p.attribute such →
          Q ↔ SomeStates other class q.attribute such → P ↔ Q
      stated such told too = both_told told too
          (λ some. subst (λ a. SomeStates other class a such) same
          (some_carried one other to class p.attribute such some))
          (λ some. some_carried other one from class p.attribute such
          (subst (λ a. SomeStates other class a such) (sym same) some))

      flag : (mine its : Bool) (such : Property → Type 0) → (mine ≡ true) ↔ SomeStates one class p.attribute such →
          (its ≡ true) ↔ SomeStates other class q.attribute such → mine ≡ its
      flag mine its such told too = same_bool mine its (stated such told too)

      value : (mine its : Option TypedValue) (which : Property → Option TypedValue) →
          ((v : TypedValue) → (mine ≡ Some v) ↔ Holds one which p.attribute class v) →
          ((v : TypedValue) → (its ≡ Some v) ↔ Holds other which q.attribute class v) → mine ≡ its
      value mine its which told too = same_option mine its (λ v. both_told (told v) (too v)
          (λ held. subst (λ a. Holds other which a class v) same (holds_carried one other to which p.attribute held))
          (λ held. holds_carried other one from which p.attribute
          (subst (λ a. Holds other which a class v) (sym same) held)))

  -- each property of a class says what one of the other schema says
  said_by : (x y : ClassRec) → x.id ≡ y.id → HasJoined one x → HasJoined other y → AreSaidBy x.properties y.properties
  said_by x y same joined also k d within =
      let p = get_or x.properties k d in
      let is = All-contains (IsJoined one x.id) x.properties p joined.joined
      (Contains-get_or x.properties k d within) in
      let stated = some_carried one other to x.id p.attribute (λ s. Unit {0}) is.stated in
      let found = told_of (λ (q : Property). q.attribute) y.properties stated.0.attribute
      (also.each stated.0 (subst (λ id. States other id stated.0) same stated.1)) in
      let q = found.0 in (
        q,
        found.1,
        same_joined x.id p q (sym stated.2 ∙ sym found.2) is
            (subst (λ id. IsJoined other id q) (sym same)
            (All-contains (IsJoined other y.id) y.properties q also.joined found.1)),
      )

module _ (one other : Set) (to : AreEach HaveSameTemplate one.classes other.classes)
    (from : AreEach HaveSameTemplate other.classes one.classes) where
  pub same_class : (x y : ClassRec) → HasJoined one x → HasJoined other y → HaveSameTemplate x y → AreSameClasses x y
  same_class x y joined also same = record {
    template = same;
    properties = said_by one other to from x y same.id joined also;
    no_others = said_by other one from to y x (sym same.id) also joined;
  }
