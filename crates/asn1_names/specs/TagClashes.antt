-- TagClashes: tags don't tell the alternatives of a CHOICE apart, the components of a SET, or in a SEQUENCE those of an
-- optional run and the next component (X.680, sections 25.6, 27.3 and 29.3; docs/PROFILE.md, section 11).
use Rattle.std.specs.Prelude.{◌≡◌, ◌<◌, ℕ, List, Bool, true, false, codes}
use Rattle.token_grammar.specs.declared.token.Token.{Token}
use Rattle.token_grammar.specs.TokenTests.{is_word_of}
use Rattle.asn1_names.specs.ModuleTerms.{LimitTerm, PresenceTerm, TypeTerm, MemberTerms, ModuleTerm}
use Rattle.asn1_names.specs.ModuleTerms.PresenceTerm.{Needed, OptionalTerm, DefaultTerm}
use Rattle.asn1_names.specs.ModuleTerms.TypeTerm.{Structure, Alternatives}
use Rattle.asn1_names.specs.Containment.{IsMember}
use Rattle.asn1_names.specs.TypeTags.{ShareTag}

-- OPTIONAL or DEFAULT
abbrev pub may_be_absent : PresenceTerm → Bool
may_be_absent Needed = false
may_be_absent OptionalTerm = true
may_be_absent (DefaultTerm text) = true

-- two of the members share a tag
pub record TwoShare (ms : List ModuleTerm) (m : ℕ) (members : MemberTerms) : Type 0 where
  pub earlier : ℕ
  pub later : ℕ
  pub rising : earlier < later
  pub one : TypeTerm
  pub one_presence : PresenceTerm
  pub is_one : IsMember members earlier one one_presence
  pub other : TypeTerm
  pub other_presence : PresenceTerm
  pub is_other : IsMember members later other other_presence
  pub share : ShareTag ms m one other

-- the component at the place k may be missing
pub record MayMiss (members : MemberTerms) (k : ℕ) : Type 0 where
  pub of : TypeTerm
  pub presence : PresenceTerm
  pub member : IsMember members k of presence
  pub may : may_be_absent presence ≡ true

-- two components share a tag that stand in one optional run, or of which the later one is the next behind it: the
-- earlier one and all between them may be missing
pub record RunShares (ms : List ModuleTerm) (m : ℕ) (members : MemberTerms) : Type 0 where
  pub earlier : ℕ
  pub later : ℕ
  pub rising : earlier < later
  pub one : TypeTerm
  pub one_presence : PresenceTerm
  pub is_one : IsMember members earlier one one_presence
  pub may_miss : may_be_absent one_presence ≡ true
  pub between : (k : ℕ) → earlier < k → k < later → MayMiss members k
  pub other : TypeTerm
  pub other_presence : PresenceTerm
  pub is_other : IsMember members later other other_presence
  pub share : ShareTag ms m one other

-- tags don't decide in the type itself, whose word is this one
pub data IsAmbiguous (ms : List ModuleTerm) (m : ℕ) : TypeTerm → Token → Type 0 where
  choice : {word : Token} {members : MemberTerms} {limits : List LimitTerm} → TwoShare ms m members →
      IsAmbiguous ms m (Alternatives word members limits) word
  set : {word : Token} {members : MemberTerms} {limits : List LimitTerm} → is_word_of (codes "SET") word ≡ true →
      TwoShare ms m members → IsAmbiguous ms m (Structure word members limits) word
  sequence : {word : Token} {members : MemberTerms} {limits : List LimitTerm} →
      is_word_of (codes "SET") word ≡ false → RunShares ms m members →
      IsAmbiguous ms m (Structure word members limits) word
