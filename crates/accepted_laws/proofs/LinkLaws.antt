-- LinkLaws: a reference is linked by one number, and a name of a type or a value by one meaning, where no two templates
-- have their labels at one place; and the identifier of a template is one list of arcs (X.722, section 8;
-- docs/PROFILE.md, section 12).
use Rattle.std.specs.Prelude.{AllPairs, slice_get}
use Rattle.std.proofs.Common.{◌≡◌, ◌⊎◌, ◌<◌, ℕ, List, ◌∷◌, Option, None, Some, refl, sym, ◌∙◌, ap, inl, inr}
use Rattle.std.proofs.lemmas.Bool.{cases_order}
use Rattle.std.proofs.lemmas.Option.{same_Some}
use Rattle.token_grammar.specs.declared.qualified_name.QualifiedName.{QualifiedName}
use Rattle.token_grammar.specs.declared.token.Token.{Token}
use Rattle.asn1_names.specs.NameMeaning.{Meaning}
use Rattle.gdmo_names.specs.DocumentTemplates.{templates}
use Rattle.gdmo_names.specs.Mentions.{Role, wanted_kind}
use Rattle.gdmo_names.specs.PartTerms.{Placed, PartTerms}
use Rattle.gdmo_names.specs.TargetTables.{ArePlacedApart, AreTwo}
use Rattle.gdmo_names.specs.TemplateTerms.{IdentifierTerm, ReferenceTerm, ReferenceTerms, TemplateKind}
use Rattle.identifier_arcs.proofs.KnownLaws.{one_arcs}
use Rattle.gdmo_linking.specs.LinkedNames.{IsLinkedIdentifier, IsLinkedName, IsMeant, IsOptionalName, of_standard}
use Rattle.gdmo_linking.specs.LinkedNames.{of_type, of_value}
use Rattle.gdmo_linking.specs.LinkedTables.{AreLinked, Links, another, no_more, table}
use Rattle.linked_parts.specs.declared.linked.LinkedName.{LinkedName}
use Rattle.linked_parts.specs.declared.linked.NamedMeaning.{NamedMeaning}
use Rattle.registered_laws.proofs.ApartLaws.{pair_at, pairs_of_kind}

-- ---- templates

module _ (parts : PartTerms) (apart : ArePlacedApart parts) where
  -- a template stands at one place of the table of its kind
  one_place : (kind : TemplateKind) (x : Placed) (j k : ℕ) → slice_get (table parts kind) j ≡ Some x →
      slice_get (table parts kind) k ≡ Some x → j ≡ k
  one_place kind x j k at there = by (cases_order j k)
    where
      pairs : AllPairs AreTwo (table parts kind)
      pairs = pairs_of_kind AreTwo kind (templates parts) apart

      by : (j ≡ k) ⊎ ((j < k) ⊎ (k < j)) → j ≡ k
      by (inl same) = same
      by (inr (inl less)) = absurd (pair_at AreTwo (table parts kind) j k x x pairs less at there refl refl)
      by (inr (inr more)) = absurd (pair_at AreTwo (table parts kind) k j x x pairs more there at refl refl)

  pub one_link : {document : ℕ} {role : Role} {reference : ReferenceTerm} {j k : ℕ} →
      Links parts document role reference j → Links parts document role reference k → j ≡ k
  one_link {role = role} {j = j} {k = k} one other =
      let same = same_Some one.to other.to (sym one.means.is_target ∙ other.means.is_target) in
      one_place (wanted_kind role) other.to j k (one.at ∙ ap Some same) other.at

  pub one_row : {document : ℕ} {role : Role} {references : ReferenceTerms} {js ks : List ℕ} →
      AreLinked parts document role references js → AreLinked parts document role references ks → js ≡ ks
  one_row no_more no_more = refl
  one_row (another one rest) (another other further) =
      let first = one_link one other in
      let behind = one_row rest further in
      λ i. first i ∷ behind i

-- ---- names of types and values

one_meaning : {name : Token} {meaning : Meaning} {one other : NamedMeaning} → IsMeant name meaning one →
    IsMeant name meaning other → one ≡ other
one_meaning of_type of_type = refl
one_meaning of_value of_value = refl
one_meaning of_standard of_standard = refl

pub one_name : {parts : PartTerms} {name : QualifiedName} {x y : LinkedName} → IsLinkedName parts name x →
    IsLinkedName parts name y → x ≡ y
one_name one other =
    let named = one.named ∙ sym other.named in
    let meant = one_meaning one.meant other.meant in
    λ i. record { name = named i; meaning = meant i }

pub one_optional : (parts : PartTerms) (name : Option QualifiedName) (x y : Option LinkedName) →
    IsOptionalName parts name x → IsOptionalName parts name y → x ≡ y
one_optional parts None None None one other = refl
one_optional parts None None (Some _) one other = absurd other
one_optional parts None (Some _) y one other = absurd one
one_optional parts (Some _) None y one other = absurd one
one_optional parts (Some _) (Some _) None one other = absurd other
one_optional parts (Some name) (Some x) (Some y) one other = ap Some (one_name one other)

-- ---- identifiers

pub one_identifier : (parts : PartTerms) (x : Option IdentifierTerm) (a b : Option (List ℕ)) →
    IsLinkedIdentifier parts x a → IsLinkedIdentifier parts x b → a ≡ b
one_identifier parts None None None one other = refl
one_identifier parts None None (Some _) one other = absurd other
one_identifier parts None (Some _) b one other = absurd one
one_identifier parts (Some _) None b one other = absurd one
one_identifier parts (Some _) (Some _) None one other = absurd other
one_identifier parts (Some _) (Some _) (Some _) one other = ap Some (one_arcs one.has other.has)
