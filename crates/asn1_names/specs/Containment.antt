-- Containment: which types stand in the text of a type, and which types contain which; a type that contains itself is
-- cyclic (X.680, section 16; docs/PROFILE.md, section 11).
use Rattle.std.specs.Prelude.{◌≡◌, ℕ, suc, List, Option, Some}
use Rattle.token_grammar.specs.declared.token.Token.{Token}
use Rattle.asn1_names.specs.ModuleTerms.{RangeTerm, LimitTerm, TagTerm, PresenceTerm, TypeTerm, MemberTerms}
use Rattle.asn1_names.specs.ModuleTerms.{ModuleTerm}
use Rattle.asn1_names.specs.ModuleTerms.TypeTerm.{Under, Structure, Repeated, Alternatives, Reference}
use Rattle.asn1_names.specs.ModuleTerms.MemberTerms.{Member}
use Rattle.asn1_names.specs.NameMeaning.{reference_meaning, type_at}
use Rattle.asn1_names.specs.NameMeaning.Meaning.{TypeAt}

-- the component, or alternative, at the place k
pub data IsMember : MemberTerms → ℕ → TypeTerm → PresenceTerm → Type 0 where
  first : {name : Token} {of : TypeTerm} {presence : PresenceTerm} {rest : MemberTerms} →
      IsMember (Member name of presence rest) 0 of presence
  behind : {name : Token} {other of : TypeTerm} {before presence : PresenceTerm} {rest : MemberTerms} {k : ℕ} →
      IsMember rest k of presence → IsMember (Member name other before rest) (suc k) of presence

-- a type stands in the text of another one, or is it
pub data Within (inner : TypeTerm) : TypeTerm → Type 0 where
  itself : Within inner inner
  tagged : {tag : TagTerm} {mode : Option Token} {of : TypeTerm} → Within inner of → Within inner (Under tag mode of)
  element : {word : Token} {size : Option (List RangeTerm)} {of : TypeTerm} →
      Within inner of → Within inner (Repeated word size of)
  component : {word : Token} {members : MemberTerms} {limits : List LimitTerm} {k : ℕ} {of : TypeTerm}
      {presence : PresenceTerm} → IsMember members k of presence → Within inner of →
      Within inner (Structure word members limits)
  alternative : {word : Token} {members : MemberTerms} {limits : List LimitTerm} {k : ℕ} {of : TypeTerm}
      {presence : PresenceTerm} → IsMember members k of presence → Within inner of →
      Within inner (Alternatives word members limits)

-- in the text of a type, in the module at the place m, stands a name of the type that is assigned at the place j of
-- the module at the place v
pub record Names (ms : List ModuleTerm) (m : ℕ) (of : TypeTerm) (v j : ℕ) : Type 0 where
  pub module_name : Option Token
  pub name : Token
  pub limits : List LimitTerm
  pub stands : Within (Reference module_name name limits) of
  pub named : TypeTerm
  pub means : reference_meaning ms m module_name name ≡ TypeAt v j named

-- the type at the place i of the module at the place m contains the one at the place j of the module at the place v,
-- directly or not
pub data ContainsType (ms : List ModuleTerm) (m i : ℕ) : ℕ → ℕ → Type 0 where
  directly : {of : TypeTerm} {v j : ℕ} → type_at ms m i ≡ Some of → Names ms m of v j → ContainsType ms m i v j
  through : {w k v j : ℕ} {of : TypeTerm} → ContainsType ms m i w k → type_at ms w k ≡ Some of → Names ms w of v j →
      ContainsType ms m i v j

-- a type contains itself
abbrev pub IsCyclic : List ModuleTerm → ℕ → ℕ → Type 0
IsCyclic ms m i = ContainsType ms m i m i
