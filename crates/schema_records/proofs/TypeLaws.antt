-- TypeLaws: the syntax that is found for the name of a type, and the rules of an attribute that has a syntax.
use Rattle.std.proofs.Common.{◌≡◌, ◌⊎◌, ◌∙◌, ℕ, zero, suc, List, [], ◌∷◌, Option, None, Some, ap, inl, inr, map, refl}
use Rattle.std.proofs.Common.{sym}
use Rattle.std.specs.Prelude.{slice_get}
use Rattle.std.proofs.Math.Path.{subst}
use Rattle.std.proofs.lemmas.Option.{same_Some}
use Rattle.term_values.specs.Syntaxes.{TypeSyntax}
use Rattle.asn1_names.specs.ModuleTerms.{ModuleTerm}
use Rattle.link_graphs.specs.ChainEnds.{link_targets}
use Rattle.link_graphs.specs.Leading.{Leads, LeadsAtOnce, Reaches, targets_of}
use Rattle.link_graphs.specs.Leading.Leads.{at_once, onward}
use Rattle.link_graphs.proofs.ChainLaws.{link_lists, no_end}
use Rattle.linked_parts.specs.declared.linked.Linked.{Linked}
use Rattle.linked_parts.specs.declared.linked.LinkedAttribute.{LinkedAttribute}
use Rattle.linked_parts.specs.declared.linked.LinkedName.{LinkedName}
use Rattle.linked_parts.specs.declared.linked.LinkedSyntax.{LinkedSyntax}
use Rattle.linked_parts.specs.declared.linked.LinkedSyntax.TheVariants.{OfAttribute, OfType}
use Rattle.class_faults.specs.AttributeSyntaxes.{AttributeHas, attribute_bases, bases_of}
use Rattle.class_faults.specs.AttributeSyntaxes.AttributeHas.{of_base, of_type}
use Rattle.linked_types.specs.AttributeRules.{ReachesNoCycle}
use Rattle.linked_types.specs.AttributeTypes.{base_link, base_links}
use Rattle.linked_types.specs.PartTypes.{TellsOptionalType}
use Rattle.linked_types.specs.TypeTables.{syntax_at}
use Rattle.linked_types.specs.declared.type_table.TypeTable.{TypeTable}
use Rattle.linked_types.proofs.AttributeLaws.{ends_somewhere}
use Rattle.linked_types.proofs.NamingLaws.{optional_syntax}
use Rattle.schema_records.specs.MeantParts.{MeansType}
use Rattle.schema_records.specs.MemberRecords.{IsOptionalType}

-- the syntax at the place of a type that may be named
pub type_found : (ms : List ModuleTerm) (linked : Linked) (table : TypeTable) (name : Option LinkedName)
    (place : Option ℕ) (found : Option TypeSyntax) → TellsOptionalType ms linked table name place →
    MeansType ms linked name → found ≡ syntax_at table place → IsOptionalType ms linked name found
type_found ms linked table None None found told means is = subst (IsOptionalType ms linked None) (sym is) tt
type_found ms linked table None (Some place) found told means is = absurd told
type_found ms linked table (Some name) None found told means is = absurd told
type_found ms linked table (Some name) (Some place) found told means is =
    let there = (optional_syntax ms linked table name (Some place) means.0 told).1 means.1 in
    subst (IsOptionalType ms linked (Some name)) (sym (is ∙ there)) means.1

-- ---- an attribute that has a syntax leads to none that derives from itself

targets_there : (xs : List LinkedAttribute) (k : ℕ) (x : LinkedAttribute) → slice_get xs k ≡ Some x →
    targets_of (map (λ (y : LinkedAttribute). bases_of y.syntax) xs) k ≡ bases_of x.syntax
targets_there [] k x at = absurd (cc)
targets_there (y ∷ ys) zero x at = ap (λ (z : LinkedAttribute). bases_of z.syntax) (same_Some y x at)
targets_there (y ∷ ys) (suc k) x at = targets_there ys k x at

only_one : (place base y : ℕ) → slice_get (base ∷ []) place ≡ Some y → base ≡ y
only_one zero base y at = same_Some base y at
only_one (suc place) base y at = absurd (cc)

none_there : (place y : ℕ) → slice_get [] place ≡ Some y → ⊥
none_there place y at = absurd (cc)

base_has : (ms : List ModuleTerm) (linked : Linked) {k : ℕ} {syntax : TypeSyntax} (y : ℕ) →
    AttributeHas ms linked k syntax → LeadsAtOnce (attribute_bases linked) k y → AttributeHas ms linked y syntax
base_has ms linked y (of_type {k = k} {x = x} {name = name} at is has) one =
    absurd (none_there one.place y (subst (λ ts. slice_get ts one.place ≡ Some y)
    (targets_there linked.attributes.items k x at ∙ ap bases_of is) one.stands))
base_has ms linked {syntax = syntax} y (of_base {k = k} {base = base} {x = x} at is has) one =
    subst (λ b. AttributeHas ms linked b syntax)
    (only_one one.place base y (subst (λ ts. slice_get ts one.place ≡ Some y)
    (targets_there linked.attributes.items k x at ∙ ap bases_of is) one.stands)) has

above_has : (ms : List ModuleTerm) (linked : Linked) (k : ℕ) (syntax : TypeSyntax) (above : ℕ) →
    AttributeHas ms linked k syntax → Leads (attribute_bases linked) k above → AttributeHas ms linked above syntax
above_has ms linked k syntax above has (at_once one) = base_has ms linked above has one
above_has ms linked k syntax above has (onward {between = between} leads one) =
    base_has ms linked above (above_has ms linked k syntax between has leads) one

same_bases : (syntax : LinkedSyntax) → bases_of syntax ≡ link_targets (base_link syntax)
same_bases (OfType name) = refl
same_bases (OfAttribute base) = refl

same_targets : (xs : List LinkedAttribute) →
    map (λ (x : LinkedAttribute). bases_of x.syntax) xs ≡ link_lists (base_links xs)
same_targets [] = refl
same_targets (x ∷ xs) = λ i. same_bases x.syntax i ∷ same_targets xs i

pub no_cycle : (ms : List ModuleTerm) (linked : Linked) (k : ℕ) (syntax : TypeSyntax) → AttributeHas ms linked k syntax →
    ReachesNoCycle linked k
no_cycle ms linked k syntax has above reaches leads = by reaches
  where
    alone : AttributeHas ms linked above syntax → ⊥
    alone its =
        let end = ends_somewhere ms linked its in
        no_end (base_links linked.attributes.items) above end.0
        (subst (λ lists. Leads lists above above) (same_targets linked.attributes.items) leads) end.1

    by : Reaches (attribute_bases linked) k above → ⊥
    by (inl same) = alone (subst (λ n. AttributeHas ms linked n syntax) same has)
    by (inr further) = alone (above_has ms linked k syntax above has further)
