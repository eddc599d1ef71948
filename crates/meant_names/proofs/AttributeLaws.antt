-- AttributeLaws: each attribute has a syntax, that of its type or that of the attribute from which it derives, where
-- none derives from itself (X.722, section 8.7; docs/PROFILE.md, sections 12 and 18).
use Rattle.std.proofs.Common.{◌≡◌, ◌∙◌, ◌<◌, ap, arith, ℕ, zero, suc, List, [], ◌∷◌, Some, length, refl, subst}
use Rattle.std.proofs.lemmas.List.{length-map}
use Rattle.std.proofs.lemmas.Option.{get_or_from_slice_get, slice_get_within}
use Rattle.std.specs.Prelude.{slice_get}
use Rattle.term_values.specs.Syntaxes.{TypeSyntax}
use Rattle.asn1_names.specs.ModuleTerms.{ModuleTerm}
use Rattle.asn1_numbers.proofs.HeldLaws.{get_map}
use Rattle.denoted_types.specs.DenotedTypes.{NotNone}
use Rattle.denoted_types.proofs.FiniteInduction.{induction_below}
use Rattle.link_graphs.specs.Leading.{Leads, LeadsAtOnce}
use Rattle.link_graphs.specs.Leading.Leads.{at_once}
use Rattle.link_graphs.proofs.LeadingLaws.{leads_on, target_within}
use Rattle.linked_parts.specs.declared.linked.Linked.{Linked}
use Rattle.linked_parts.specs.declared.linked.LinkedAttribute.{LinkedAttribute}
use Rattle.linked_parts.specs.declared.linked.LinkedName.{LinkedName}
use Rattle.linked_parts.specs.declared.linked.LinkedSyntax.{LinkedSyntax}
use Rattle.linked_parts.specs.declared.linked.LinkedSyntax.TheVariants.{OfAttribute, OfType}
use Rattle.class_faults.specs.AttributeSyntaxes.{AttributeHas, attribute_bases, bases_of}
use Rattle.class_faults.specs.AttributeSyntaxes.AttributeHas.{of_base, of_type}
use Rattle.class_faults.specs.CyclicClasses.CyclicClassAt.{of_attribute}
use Rattle.class_faults.specs.FirstClassFault.{AreFaultless as AreClassesFaultless}
use Rattle.class_faults.specs.FirstClassFault.ClassFault.{ClassCyclic}
use Rattle.class_faults.specs.StatedProperties.{TypeHas}
use Rattle.meant_names.specs.MeantNames.{HasSyntax}
use Rattle.meant_names.specs.WantedMeanings.{AreWanted, IsWantedSyntax, MeansType}
use Rattle.meant_names.proofs.NoneLaws.{none_map}

-- ---- the attributes as a graph

abbrev bases : LinkedAttribute → List ℕ
bases x = bases_of x.syntax

leads_to_base : (linked : Linked) (k base : ℕ) (x y : LinkedAttribute) →
    slice_get linked.attributes.items k ≡ Some x → x.syntax ≡ OfAttribute base →
    slice_get linked.attributes.items base ≡ Some y → LeadsAtOnce (attribute_bases linked) k base
leads_to_base linked k base x y at is there = record {
  place = 0;
  stands = ap (λ ts. slice_get ts 0)
      (get_or_from_slice_get (attribute_bases linked) k (bases x) [] (get_map bases linked.attributes.items k x at) ∙
      ap bases_of is);
  within = slice_get_within (attribute_bases linked) base (bases y)
      (get_map bases linked.attributes.items base y there);
}

stands_there : (xs : List LinkedAttribute) (k : ℕ) → k < length xs → (x : LinkedAttribute) × (slice_get xs k ≡ Some x)
stands_there [] k less = absurd (omega (arith, less))
stands_there (x ∷ xs) zero less = (x, refl)
stands_there (x ∷ xs) (suc k) less = stands_there xs k (omega (arith, less))

-- none derives from itself
acyclic : (ms : List ModuleTerm) (linked : Linked) → AreClassesFaultless ms linked → (k : ℕ) →
    ¬ Leads (attribute_bases linked) k k
acyclic ms linked classes k leads =
    let found = stands_there linked.attributes.items k
    (subst (λ n. k < n) (length-map linked.attributes.items bases) (target_within leads)) in
    classes ClassCyclic found.0.head.document found.0.head.label.at
    (of_attribute found.1 leads (record { in_document = refl; at_token = refl }))

-- ---- the syntax of each

abbrev HasSome : List ModuleTerm → Linked → ℕ → Type 0
HasSome ms linked k = NotNone (λ (syntax : TypeSyntax). AttributeHas ms linked k syntax)

-- an attribute, where one stands there
abbrev HasWhere : List ModuleTerm → Linked → ℕ → Type 0
HasWhere ms linked k = (x : LinkedAttribute) → slice_get linked.attributes.items k ≡ Some x → HasSome ms linked k

attribute_by : (ms : List ModuleTerm) (linked : Linked) →
    ((name : LinkedName) → MeansType ms name → HasSyntax ms linked name) → (k : ℕ) (x : LinkedAttribute) →
    slice_get linked.attributes.items k ≡ Some x → (syntax : LinkedSyntax) → x.syntax ≡ syntax →
    IsWantedSyntax ms linked syntax →
    ((target : ℕ) → LeadsAtOnce (attribute_bases linked) k target → HasWhere ms linked target) → HasSome ms linked k
attribute_by ms linked types k x at (OfType name) is wanted behind =
    none_map (λ (syntax : TypeSyntax). TypeHas ms linked name syntax)
    (λ (syntax : TypeSyntax). AttributeHas ms linked k syntax) (λ syntax. syntax) (types name wanted)
    (λ syntax has. of_type at is has)
attribute_by ms linked types k x at (OfAttribute base) is wanted behind =
    none_map (λ (syntax : TypeSyntax). AttributeHas ms linked base syntax)
    (λ (syntax : TypeSyntax). AttributeHas ms linked k syntax) (λ syntax. syntax)
    (behind base (leads_to_base linked k base x wanted.0 at is wanted.1) wanted.0 wanted.1)
    (λ syntax has. of_base at is has)

wanted_syntax : (ms : List ModuleTerm) (linked : Linked) → AreWanted ms linked → (k : ℕ) (x : LinkedAttribute) →
    slice_get linked.attributes.items k ≡ Some x → IsWantedSyntax ms linked x.syntax
wanted_syntax ms linked wanted k x at =
    subst (λ (y : LinkedAttribute). IsWantedSyntax ms linked y.syntax)
    (get_or_from_slice_get linked.attributes.items k x x at)
    (wanted.of_attributes k x (slice_get_within linked.attributes.items k x at))

pub attribute_has : (ms : List ModuleTerm) (linked : Linked) → AreClassesFaultless ms linked → AreWanted ms linked →
    ((name : LinkedName) → MeansType ms name → HasSyntax ms linked name) → (k : ℕ) (x : LinkedAttribute) →
    slice_get linked.attributes.items k ≡ Some x → NotNone (λ (syntax : TypeSyntax). AttributeHas ms linked k syntax)
attribute_has ms linked classes wanted types k =
    let lists = attribute_bases linked in
    induction_below (LeadsAtOnce lists) (Leads lists) (HasWhere ms linked) (λ x y one. at_once one)
    (λ x y z one far. leads_on (at_once one) far)
    (λ j behind x at. attribute_by ms linked types j x at x.syntax refl (wanted_syntax ms linked wanted j x at) behind)
    (length lists) k (λ y far. acyclic ms linked classes y) (λ y far. target_within far)
