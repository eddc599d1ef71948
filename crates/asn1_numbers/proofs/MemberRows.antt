-- MemberRows: components and alternatives that are held in a type, as lists (X.680, sections 24 and 28).
use Rattle.std.specs.Prelude.{◌≡◌, ◌<◌, ℕ, zero, suc, List, [], ◌∷◌, Some, length, refl, slice_get}
use Rattle.std.proofs.Common.{ap, arith, subst, ◌∙◌}
use Rattle.std.proofs.lemmas.Option.{same_Some}
use Rattle.std.specs.declared.alloc.Global.{Global}
use Rattle.std.specs.declared.vec.Vec.{Vec}
use Rattle.token_grammar.specs.declared.token.Token.{Token}
use Rattle.asn1_values_syntax.specs.declared.constraint.Constraint.{Constraint}
use Rattle.asn1_syntax.specs.declared.type_text.TypeText.{Row_of-Alternative, end_of-Alternative, more_of-Alternative}
use Rattle.asn1_syntax.specs.declared.type_text.TypeText.{items-the_row-Alternative, items_hidden-the_row-Alternative-1}
use Rattle.asn1_syntax.specs.declared.type_text.TypeText.TheVariants.{Choice, Structured}
use Rattle.asn1_syntax.specs.declared.type_text.StructureText.{Row_of-Component, end_of-Component, more_of-Component}
use Rattle.asn1_syntax.specs.declared.type_text.StructureText.{items-the_row-Component}
use Rattle.asn1_syntax.specs.declared.type_text.StructureText.{items_hidden-the_row-Component-0}
use Rattle.asn1_syntax.specs.declared.type_text.StructureText.TheBlock.{hidden-the_row-Component-0}
use Rattle.asn1_syntax.specs.declared.type_text.StructureText.TheBlock.{hidden-the_row-Alternative-1}
use Rattle.asn1_syntax.specs.declared.type_text.StructureText.TheVariants.{Components}
use Rattle.asn1_syntax.specs.declared.type_text.Component.{Component}
use Rattle.asn1_syntax.specs.declared.type_text.Alternative.{Alternative}
use Rattle.asn1_names.specs.Containment.{IsMember}
use Rattle.asn1_names.specs.Containment.IsMember.{first, behind}
use Rattle.asn1_names.specs.ModuleTerms.{MemberTerms, PresenceTerm, TypeTerm}
use Rattle.asn1_names.specs.ModuleTerms.PresenceTerm.{Needed}
use Rattle.asn1_names.specs.ModuleTerms.MemberTerms.{NoMembers, Member}
use Rattle.asn1_names.specs.ModuleTerms.TypeTerm.{Structure, Alternatives}
use Rattle.asn1_names.specs.TermViews.{alternative_terms, limit_terms, presence_term, row_terms}
use Rattle.asn1_names.specs.TermViews.{type_term}
use Rattle.asn1_numbers.specs.NamedTargets.{alternative_members, component_members}
use Rattle.asn1_numbers.proofs.TargetLaws.{AreAll}

components-list : {n : _} (row : Row_of-Component n) →
    row_terms row ≡ component_members (items-the_row-Component n row)
components-list end_of-Component = refl
components-list (more_of-Component name of presence others) =
    ap (Member name (type_term of) (presence_term presence)) (components-list others)

alternatives-list : {n : _} (row : Row_of-Alternative n) →
    alternative_terms row ≡ alternative_members (items-the_row-Alternative n row)
alternatives-list end_of-Alternative = refl
alternatives-list (more_of-Alternative name of others) =
    ap (Member name (type_term of) Needed) (alternatives-list others)

pub structure_said : (word : Token) (components : Vec Component Global) (constraints : Vec Constraint Global) →
    type_term (Structured word (Components (Some components) constraints)) ≡
    Structure word (component_members components.items) (limit_terms constraints)
structure_said word components constraints = ap (λ members. Structure word members (limit_terms constraints))
    (components-list (hidden-the_row-Component-0 components) ∙
    ap component_members (items_hidden-the_row-Component-0 components))

pub choice_said : (word : Token) (alternatives : Vec Alternative Global) (constraints : Vec Constraint Global) →
    type_term (Choice word alternatives constraints) ≡
    Alternatives word (alternative_members alternatives.items) (limit_terms constraints)
choice_said word alternatives constraints = ap (λ members. Alternatives word members (limit_terms constraints))
    (alternatives-list (hidden-the_row-Alternative-1 alternatives) ∙
    ap alternative_members (items_hidden-the_row-Alternative-1 alternatives))

pub component_at : (xs : List Component) (k : ℕ) (x : Component) → slice_get xs k ≡ Some x →
    IsMember (component_members xs) k (type_term x.of) (presence_term x.presence)
component_at [] k x h = absurd (cc)
component_at (y ∷ ys) zero x h = subst (λ (z : Component).
    IsMember (component_members (y ∷ ys)) 0 (type_term z.of) (presence_term z.presence)) (same_Some y x h) first
component_at (y ∷ ys) (suc k) x h = behind (component_at ys k x h)

pub alternative_at : (xs : List Alternative) (k : ℕ) (x : Alternative) → slice_get xs k ≡ Some x →
    IsMember (alternative_members xs) k (type_term x.of) Needed
alternative_at [] k x h = absurd (cc)
alternative_at (y ∷ ys) zero x h = subst (λ (z : Alternative).
    IsMember (alternative_members (y ∷ ys)) 0 (type_term z.of) Needed) (same_Some y x h) first
alternative_at (y ∷ ys) (suc k) x h = behind (alternative_at ys k x h)

-- how many there are
abbrev member_count : MemberTerms → ℕ
member_count NoMembers = 0
member_count (Member name of presence rest) = suc (member_count rest)

all_members : {members : MemberTerms} {p : ℕ} {of : TypeTerm} {presence : PresenceTerm} →
    IsMember members p of presence → p < member_count members
all_members first = omega arith
all_members (behind h) = let rest = all_members h in omega (arith, rest)

component_count : (xs : List Component) → member_count (component_members xs) ≡ length xs
component_count [] = refl
component_count (x ∷ xs) = ap suc (component_count xs)

alternative_count : (xs : List Alternative) → member_count (alternative_members xs) ≡ length xs
alternative_count [] = refl
alternative_count (x ∷ xs) = ap suc (alternative_count xs)

pub all_components : (xs : List Component) → AreAll (component_members xs) (length xs)
all_components xs = λ p of presence h.
    let less = all_members h in let count = component_count xs in omega (arith, less, count)

pub all_alternatives : (xs : List Alternative) → AreAll (alternative_members xs) (length xs)
all_alternatives xs = λ p of presence h.
    let less = all_members h in let count = alternative_count xs in omega (arith, less, count)
