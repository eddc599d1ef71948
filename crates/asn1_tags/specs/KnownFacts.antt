-- KnownFacts: what is known of the types that a type names, by which its own nodes are counted and the tags with which
-- it begins are gathered (X.680, sections 25.6, 27.3 and 29.3; docs/PROFILE.md, section 11).
use Rattle.std.specs.Prelude.{◌≡◌, ◌≤◌, ℕ, List, Bool, false, Some, min, slice_get, unwrap_or}
use Rattle.asn1_names.specs.ModuleTerms.{MemberTerms, ModuleTerm, PresenceTerm, TypeTerm}
use Rattle.asn1_names.specs.Containment.{IsMember}
use Rattle.asn1_names.specs.NodeCount.{HasNodes}
use Rattle.asn1_names.specs.TypeWalks.{NamesType}
use Rattle.asn1_numbers.specs.NumberedTypes.{IsCyclicNumber, MarkCyclic}
use Rattle.asn1_tags.specs.ToldFacts.{TellsNodes}

-- the nodes of a type of the module at the place m; of more than 2^64 - 1 that number is told
abbrev pub HasCount : List ModuleTerm → ℕ → TypeTerm → ℕ → Type 0
HasCount ms m of told = (n : ℕ) × HasNodes ms m of n × (told ≡ min n 18446744073709551615)

-- something is known of each type that a type names and that doesn't contain itself, by its number
abbrev pub KnowsEach : (ℕ → Type 0) → List ModuleTerm → ℕ → TypeTerm → Type 0
KnowsEach Knows ms m of = (number : ℕ) → NamesType ms m of number → ¬ IsCyclicNumber ms number → Knows number

-- a list tells the nodes of the type of the assignment with the number
abbrev pub KnowsNodes : List ModuleTerm → List ℕ → ℕ → Type 0
KnowsNodes ms nodes number = (told : ℕ) × (slice_get nodes number ≡ Some told) × TellsNodes ms number told

-- it is known which types contain themselves, and something of each other type that a type names
pub record AreKnown (Knows : ℕ → Type 0) (ms : List ModuleTerm) (marks : List Bool) (m : ℕ) (of : TypeTerm)
    : Type 0 where
  pub marked : MarkCyclic ms marks
  pub each : KnowsEach Knows ms m of

-- the mark of the assignment with the number
abbrev pub is_marked : List Bool → ℕ → Bool
is_marked marks number = unwrap_or (slice_get marks number) false

-- a type has at most so many nodes
pub record HasFew (ms : List ModuleTerm) (m : ℕ) (of : TypeTerm) (most : ℕ) : Type 0 where
  pub nodes : ℕ
  pub has : HasNodes ms m of nodes
  pub few : nodes ≤ most

-- of members enough is known, and each has at most 10,000 nodes
pub record MembersKnown (Knows : ℕ → Type 0) (ms : List ModuleTerm) (marks : List Bool) (m : ℕ) (rows : MemberTerms)
    : Type 0 where
  pub known : (k : ℕ) (of : TypeTerm) (presence : PresenceTerm) → IsMember rows k of presence →
      AreKnown Knows ms marks m of
  pub few : (k : ℕ) (of : TypeTerm) (presence : PresenceTerm) → IsMember rows k of presence → HasFew ms m of 10000
