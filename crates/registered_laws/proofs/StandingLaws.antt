-- StandingLaws: a class of the documents derives from classes of the documents, and its packages stand there; which
-- attributes they have is known (X.722, sections 8.3 and 8.4).
use Rattle.std.specs.Prelude.{◌≡◌, ◌<◌, ◌∷◌, [], ℕ, zero, suc, List, Bool, true, false, Some, get_or, length}
use Rattle.std.specs.Prelude.{if◌then◌else◌, refl, slice_get}
use Rattle.std.proofs.Common.{◌∙◌, ap, arith, inl, inr, sym}
use Rattle.std.proofs.Math.Path.{subst}
use Rattle.std.proofs.lemmas.Bool.{eq-eqb}
use Rattle.std.proofs.lemmas.Option.{same_Some}
use Rattle.gdmo_names.specs.ClassMembers.{Derives, HasUnknownAttributes, IsOrDerives}
use Rattle.gdmo_names.specs.ClassMembers.Derives.{directly, through}
use Rattle.gdmo_names.specs.ClassMembers.HasUnknownAttributes.{attribute_of, package_of, superclass}
use Rattle.gdmo_names.specs.DocumentTemplates.{templates}
use Rattle.gdmo_names.specs.LabelMeaning.{Leads, LeadsNowhere}
use Rattle.gdmo_names.specs.Mentions.{Role, mention, template_mentions, wanted_kind}
use Rattle.gdmo_names.specs.Mentions.Role.{MandatoryPackage, PackageAttribute, Superclass}
use Rattle.gdmo_names.specs.PartTerms.{Placed, PartTerms, body_of, kind_of}
use Rattle.gdmo_names.specs.TemplateTerms.{TemplateKind}
use Rattle.gdmo_names.specs.TemplateTerms.TemplateKind.{ClassKind, PackageKind}
use Rattle.gdmo_linking.specs.LinkedTables.{is_kind, kind_number, of_kind, table}
use Rattle.gdmo_linking.proofs.StepLaws.{each_at}
use Rattle.linked_parts.specs.declared.linked.Linked.{Linked}
use Rattle.linked_packages.specs.LinkedPackages.{IsPackageOf}
use Rattle.linked_templates.specs.LinkedTemplates.{IsClassOf}
use Rattle.linked_templates.specs.TemplateTables.{AreLinkedTemplates, IsTemplate}
use Rattle.registered_laws.proofs.LedLaws.{IsAllLinked, IsLinkedClass, class_linked, package_linked}
use Rattle.registered_laws.proofs.TableLaws.{StandsIn, stands_at}

-- ---- places among the templates of a kind

placed_at : (kind : TemplateKind) (xs : List Placed) (x : Placed) (n : ℕ) → n < length xs → get_or xs n x ≡ x →
    is_kind kind x ≡ true → (k : ℕ) × (slice_get (of_kind kind xs) k ≡ Some x)
unfolding of_kind
placed_at kind [] x n below is own = absurd (omega (arith, below))
placed_at kind (y ∷ ys) x zero below is own = (
  0,
  ap (λ b. slice_get (if b then y ∷ of_kind kind ys else of_kind kind ys) 0) (ap (is_kind kind) is ∙ own) ∙ ap Some is,
)
placed_at kind (y ∷ ys) x (suc n) below is own =
    behind (is_kind kind y) (placed_at kind ys x n (omega (arith, below)) is own)
  where
    behind : (b : Bool) → (k : ℕ) × (slice_get (of_kind kind ys) k ≡ Some x) →
        (k : ℕ) × (slice_get (if b then y ∷ of_kind kind ys else of_kind kind ys) k ≡ Some x)
    behind true found = (suc found.0, found.1)
    behind false found = found

place_of : (kind : TemplateKind) (xs : List Placed) (x : Placed) → StandsIn kind xs x →
    (k : ℕ) × (slice_get (of_kind kind xs) k ≡ Some x)
place_of kind xs x stands = placed_at kind xs x stands.stands.0 stands.stands.1 stands.stands.2
    (eq-eqb (kind_number (kind_of x.template)) (kind_number kind) (ap kind_number stands.of_kind))

-- ---- what a template leads to

leads_there : (parts : PartTerms) (role : Role) (from to : Placed) →
    IsAllLinked parts from.document role (template_mentions from.template) → Leads parts from role to →
    StandsIn (wanted_kind role) (templates parts) to
unfolding IsAllLinked
leads_there parts role from to all leads =
    let found = all (mention role leads.reference) leads.names refl in
    subst (StandsIn (wanted_kind role) (templates parts))
    (same_Some found.1.to to (sym found.1.means.is_target ∙ leads.means.is_target))
    (stands_at (wanted_kind role) (templates parts) found.0 found.1.to found.1.at)

leads_somewhere : (parts : PartTerms) (role : Role) (from : Placed) →
    IsAllLinked parts from.document role (template_mentions from.template) → LeadsNowhere parts from role → ⊥
unfolding IsAllLinked
leads_somewhere parts role from all nowhere =
    let found = all (mention role nowhere.reference) nowhere.names refl in nowhere.lost found.1.to found.1.means

module _ (parts : PartTerms) (linked : Linked) (tables : AreLinkedTemplates parts (templates parts) linked) where
  class_there : (x : Placed) → StandsIn ClassKind (templates parts) x →
      IsLinkedClass parts x.document (template_mentions x.template)
  class_there x stands =
      let place = place_of ClassKind (templates parts) x stands in
      let found = each_at (IsTemplate parts (λ y. y.head) (IsClassOf parts)) (table parts ClassKind)
      linked.classes.items place.0 x tables.classes place.1 in
      class_linked parts x.document (body_of x.template) found.0 found.2.1

  package_there : (x : Placed) → StandsIn PackageKind (templates parts) x →
      IsAllLinked parts x.document PackageAttribute (template_mentions x.template)
  package_there x stands =
      let place = place_of PackageKind (templates parts) x stands in
      let found = each_at (IsTemplate parts (λ y. y.head) (IsPackageOf parts)) (table parts PackageKind)
      linked.packages.items place.0 x tables.packages place.1 in
      package_linked parts x.document (body_of x.template) found.0 found.2.1

  superclass_there : (class base : Placed) → StandsIn ClassKind (templates parts) class →
      Leads parts class Superclass base → StandsIn ClassKind (templates parts) base
  superclass_there class base stands leads =
      leads_there parts Superclass class base (class_there class stands).superclasses leads

  derives_there : (class base : Placed) → StandsIn ClassKind (templates parts) class → Derives parts class base →
      StandsIn ClassKind (templates parts) base
  derives_there class base stands (directly leads) = superclass_there class base stands leads
  derives_there class base stands (through {middle = middle} derives leads) =
      superclass_there middle base (derives_there class middle stands derives) leads

  pub above_there : (class base : Placed) → StandsIn ClassKind (templates parts) class →
      IsOrDerives parts class base → StandsIn ClassKind (templates parts) base
  above_there class base stands (inl same) = subst (StandsIn ClassKind (templates parts)) same stands
  above_there class base stands (inr derives) = derives_there class base stands derives

  pub mandatory_there : (class in_package : Placed) → StandsIn ClassKind (templates parts) class →
      Leads parts class MandatoryPackage in_package → StandsIn PackageKind (templates parts) in_package
  mandatory_there class in_package stands leads =
      leads_there parts MandatoryPackage class in_package (class_there class stands).mandatory leads

  pub all_known : (class : Placed) → StandsIn ClassKind (templates parts) class → ¬ HasUnknownAttributes parts class
  all_known class stands (superclass {base = base} above nowhere) = leads_somewhere parts Superclass base
      (class_there base (above_there class base stands above)).superclasses nowhere
  all_known class stands (package_of {base = base} above nowhere) = leads_somewhere parts MandatoryPackage base
      (class_there base (above_there class base stands above)).mandatory nowhere
  all_known class stands (attribute_of {base = base} {in_package = in_package} above leads nowhere) =
      leads_somewhere parts PackageAttribute in_package
      (package_there in_package (mandatory_there base in_package (above_there class base stands above) leads)) nowhere
