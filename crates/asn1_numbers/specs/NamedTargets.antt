-- NamedTargets: which assigned types are named in types, as lists of their numbers (X.680, section 16).
use Rattle.std.specs.Prelude.{◌≡◌, ◌<◌, ◌⊎◌, ◌↔◌, ℕ, List, [], ◌∷◌, length}
use Rattle.asn1_syntax.specs.declared.type_text.Alternative.{Alternative}
use Rattle.asn1_syntax.specs.declared.type_text.Component.{Component}
use Rattle.link_graphs.specs.Leading.{targets_of}
use Rattle.link_graphs.specs.Marking.{IsListed}
use Rattle.asn1_names.specs.AssignmentNumbers.{assignment_count}
use Rattle.asn1_names.specs.Containment.{IsMember}
use Rattle.asn1_names.specs.ModuleTerms.{PresenceTerm, TypeTerm, MemberTerms, ModuleTerm}
use Rattle.asn1_names.specs.ModuleTerms.PresenceTerm.{Needed}
use Rattle.asn1_names.specs.ModuleTerms.MemberTerms.{NoMembers, Member}
use Rattle.asn1_names.specs.TermViews.{presence_term, type_term}
use Rattle.asn1_names.specs.TypeWalks.{LeadsTo, NamesType}

-- one list has what another one has, and the numbers of the types that are named in a type
abbrev pub AddsNamed : List ModuleTerm → ℕ → TypeTerm → List ℕ → List ℕ → Type 0
AddsNamed ms m of before after =
    (number : ℕ) → IsListed after number ↔ (IsListed before number ⊎ NamesType ms m of number)

-- a type is named in one of the first k components, or alternatives
pub record NamesInFirst (ms : List ModuleTerm) (m : ℕ) (members : MemberTerms) (k number : ℕ) : Type 0 where
  pub place : ℕ
  pub first : place < k
  pub of : TypeTerm
  pub presence : PresenceTerm
  pub member : IsMember members place of presence
  pub names : NamesType ms m of number

-- the same of the first k components, or alternatives
abbrev pub AddsFirst : List ModuleTerm → ℕ → MemberTerms → ℕ → List ℕ → List ℕ → Type 0
AddsFirst ms m members k before after =
    (number : ℕ) → IsListed after number ↔ (IsListed before number ⊎ NamesInFirst ms m members k number)

-- what lists of components and of alternatives say
abbrev pub component_members : List Component → MemberTerms
component_members [] = NoMembers
component_members (x ∷ xs) = Member x.name (type_term x.of) (presence_term x.presence) (component_members xs)

abbrev pub alternative_members : List Alternative → MemberTerms
alternative_members [] = NoMembers
alternative_members (x ∷ xs) = Member x.name (type_term x.of) Needed (alternative_members xs)

-- the numbers of the types to which the assignment with a number leads
abbrev pub AreTargets : List ModuleTerm → ℕ → List ℕ → Type 0
AreTargets ms one targets = (other : ℕ) → IsListed targets other ↔ LeadsTo ms one other

-- the graph of the types to which assignments lead
pub record IsTypeGraph (ms : List ModuleTerm) (lists : List (List ℕ)) : Type 0 where
  pub size : length lists ≡ assignment_count ms
  pub targets : (one : ℕ) → AreTargets ms one (targets_of lists one)
