-- MeasuredTypes: types that stand in modules without faults, with a bound on their nodes (docs/PROFILE.md, section 11).
use Rattle.std.specs.Prelude.{◌≤◌, ℕ, List, [], ◌∷◌, Contains}
use Rattle.token_grammar.specs.declared.token.Token.{Token}
use Rattle.asn1_names.specs.FirstModuleFault.{AreFaultless}
use Rattle.asn1_names.specs.ModuleTerms.{PresenceTerm, TypeTerm, MemberTerms, ModuleTerm}
use Rattle.asn1_names.specs.ModuleTerms.MemberTerms.{NoMembers, Member}
use Rattle.asn1_names.specs.NodeCount.{HasNodes, HaveNodes}
use Rattle.asn1_names.specs.Occurrences.{Stands}

-- a type stands in the module at the place m, where nothing is wrong, and has at most so many nodes, and not more than
-- a syntax may have
pub record IsMeasured (ms : List ModuleTerm) (m : ℕ) (of : TypeTerm) (most : ℕ) : Type 0 where
  pub faultless : AreFaultless ms
  pub document : ℕ
  pub stands : Stands ms document m of
  pub nodes : ℕ
  pub has : HasNodes ms m of nodes
  pub within : nodes ≤ most
  pub few : nodes ≤ 10000

-- a component, or an alternative: its name, its type, and what says that it may be missing
pub record OneMember : Type 0 where
  pub name : Token
  pub of : TypeTerm
  pub presence : PresenceTerm

abbrev pub members_listed : List OneMember → MemberTerms
members_listed [] = NoMembers
members_listed (x ∷ xs) = Member x.name x.of x.presence (members_listed xs)

-- each of them is such a type, and together they have at most so many nodes
pub record AreMeasured (ms : List ModuleTerm) (m : ℕ) (members : List OneMember) (most : ℕ) : Type 0 where
  pub faultless : AreFaultless ms
  pub each : (x : OneMember) → Contains members x → IsMeasured ms m x.of most
  pub nodes : ℕ
  pub have : HaveNodes ms m (members_listed members) nodes
  pub few : nodes ≤ 10000
