-- A network of which everything has an encoding, and one in which a class has an identifier of one arc: X.660,
-- clause 7.
use Rattle.std.proofs.Common.{◌≡◌, ◌⊎◌, ℕ, ◌<◌, ◌^◌, true, List, [], ◌∷◌, None, Some, refl, sym, ap, ◌∙◌, subst}
use Rattle.std.proofs.Common.{arith, inl, inr, length}
use Rattle.std.proofs.lemmas.Bool.{false≢true}
use Rattle.std.proofs.lemmas.List.Elements.{All-cons, All-head, All-nil}
use Rattle.std.specs.Prelude.{All, Contains, pos}
use Rattle.term_values.specs.Der.{identifier_octets, length_octets}
use Rattle.term_values.specs.Octets.{integer_contents}
use Rattle.term_values.specs.Typed.TypedValue.{Int}
use Rattle.term_values.specs.Written.{der}
use Rattle.term_model.specs.declared.name.Rdn.{Rdn}
use Rattle.term_model.specs.declared.packages.PackageRec.{PackageRec}
use Rattle.term_model.specs.declared.packages.Property.{Property}
use Rattle.term_model.specs.declared.schema.AttrRec.{AttrRec}
use Rattle.term_model.specs.declared.schema.ClassRec.{ClassRec}
use Rattle.term_model.specs.declared.schema.InstRec.{InstRec}
use Rattle.term_model.specs.declared.schema.Set.{Set}
use Rattle.term_model.proofs.ExampleNetwork.{element_class, element_package, id_property, id_template, load_property}
use Rattle.term_model.proofs.ExampleNetwork.{element_oid, id_oid, load_oid, load_template, network}
use Rattle.package_laws.proofs.Members.{first_or_later, nowhere}
use Rattle.typed_laws.specs.SyntaxTags.{has_tags}
use Rattle.opening_laws.specs.Encodable.{HasShortValues, IsChosen, IsEncodable, IsIdentifier, IsNamePart, IsOfClass}

only_one : {X : Type 0} (x y : X) → Contains (x ∷ []) y → x ≡ y
only_one x y at = elim (first_or_later x y [] at) [
  | inl same ↦ same
  | inr later ↦ absurd (nowhere y later)
]

-- the network, in which load has the default 7
abbrev load_stated : Property
load_stated = record load_property { default = Some (Int (pos 7)) }

abbrev class_stated : ClassRec
class_stated = record element_class { properties = id_property ∷ load_stated ∷ [] }

abbrev stated : Set
stated = record network { classes = class_stated ∷ [] }

-- a package without an identifier
no_package : (id : List ℕ) → IsOfClass stated id → IsIdentifier id
no_package id (of_class, (of_package, at, own, is)) =
    let class_is : class_stated ≡ of_class = only_one class_stated of_class at in
    elim own [
      | inl mandatory ↦ absurd (none of_package
          (only_one element_package of_package
          (subst (λ (c : ClassRec). Contains c.mandatory of_package) (sym class_is) mandatory)) is)
      | inr conditional ↦ absurd (nowhere of_package
          (subst (λ (c : ClassRec). Contains c.conditional of_package) (sym class_is) conditional))
    ]
  where
    none : (of_package : PackageRec) → element_package ≡ of_package → of_package.id ≡ Some id → ⊥
    none of_package same has =
        let e : None ≡ Some id = ap (λ (p : PackageRec). p.id) same ∙ has in absurd (cc)

-- the one instance chooses none
none_chosen : (id : List ℕ) → IsChosen stated id → IsIdentifier id
none_chosen id (instance, at, chosen) =
    absurd (nowhere id (subst (λ (i : InstRec). Contains i.chosen id) (sym (only_one _ instance at)) chosen))

packages_identified : (id : List ℕ) → IsOfClass stated id ⊎ IsChosen stated id → IsIdentifier id
packages_identified id (inl own) = no_package id own
packages_identified id (inr chosen) = none_chosen id chosen

-- the one name is that of the system, whose part has three octets
three_octets : length {A = ℕ} (2 ∷ 1 ∷ 1 ∷ []) < 2 ^ 32
three_octets = omega arith

part_short : (part : Rdn) → IsNamePart stated part → length part.value < 2 ^ 32
part_short part (inl at) =
    subst (λ (p : Rdn). length p.value < 2 ^ 32) (only_one _ part at) three_octets
part_short part (inr (instance, at, inside)) =
    absurd (nowhere part
    (subst (λ (i : InstRec). Contains i.name part) (sym (only_one _ instance at)) inside))

-- the octets of 7
seven_short : length (der id_template.syntax (Int (pos 7))) < 2 ^ 32
unfolding identifier_octets length_octets integer_contents
seven_short = omega arith

id_unstated : HasShortValues stated id_property
id_unstated template value at named (inl initial) = absurd (cc)
id_unstated template value at named (inr default) = absurd (cc)

load_short : HasShortValues stated load_stated
load_short template value at named (inl initial) = absurd (cc)
load_short template value at named (inr default) =
    let is : Int (pos 7) ≡ value = cc in
    elim (first_or_later id_template template (load_template ∷ []) at) [
      | inl same ↦ subst (λ (t : AttrRec). length (der t.syntax value) < 2 ^ 32) same
          (subst (λ v. length (der id_template.syntax v) < 2 ^ 32) is seven_short)
      | inr later ↦ subst (λ (t : AttrRec). length (der t.syntax value) < 2 ^ 32)
          (only_one load_template template later)
          (subst (λ v. length (der load_template.syntax v) < 2 ^ 32) is seven_short)
    ]

stated_is_encodable : IsEncodable stated
stated_is_encodable = record {
  identifiers = All-cons IsIdentifier element_oid (id_oid ∷ load_oid ∷ []) (refl, refl)
      (All-cons IsIdentifier id_oid (load_oid ∷ []) (refl, refl)
      (All-cons IsIdentifier load_oid [] (refl, refl) (All-nil IsIdentifier)));
  packages = packages_identified;
  tags = All-cons (λ (t : AttrRec). has_tags t.syntax ≡ true) id_template (load_template ∷ []) refl
      (All-cons (λ (t : AttrRec). has_tags t.syntax ≡ true) load_template [] refl
      (All-nil (λ (t : AttrRec). has_tags t.syntax ≡ true)));
  parts = part_short;
  values = All-cons (λ (c : ClassRec). All (HasShortValues stated) c.properties) class_stated []
      (All-cons (HasShortValues stated) id_property (load_stated ∷ []) id_unstated
      (All-cons (HasShortValues stated) load_stated [] load_short (All-nil (HasShortValues stated))))
      (All-nil (λ (c : ClassRec). All (HasShortValues stated) c.properties));
}

-- one arc is no identifier
abbrev one_arc : Set
one_arc = record network { classes = record element_class { id = 2 ∷ [] } ∷ [] }

one_arc_is_none : IsEncodable one_arc → ⊥
one_arc_is_none encodable = false≢true (All-head IsIdentifier (2 ∷ []) (id_oid ∷ load_oid ∷ []) encodable.identifiers).0
