-- KeysBeside: which keys go with the text of a type: a key that has the tags, elements, components and alternatives of
-- the type, with names gone past, and is marked exactly where DEFAULT stands in the text (X.680, sections 16 and 25.1;
-- docs/PROFILE.md, section 12). Bounds, numbers of tags and names of components aren't asked.
use Rattle.std.specs.Prelude.{◌≡◌, ℕ, List, Bool, true, false, Option, None, Some}
use Rattle.token_grammar.specs.declared.token.Token.{Token}
use Rattle.term_values.specs.Syntaxes.{Bounds, TypeSyntax}
use Rattle.term_values.specs.declared.tag.Tag.{Tag}
use Rattle.asn1_names.specs.ModuleTerms.{RangeTerm, LimitTerm, TagTerm, PresenceTerm, PlainTerm, TypeTerm}
use Rattle.asn1_names.specs.ModuleTerms.{MemberTerms, ModuleTerm}
use Rattle.asn1_names.specs.ModuleTerms.TypeTerm.{Under, Structure, Repeated, Alternatives, Plain, Reference}
use Rattle.asn1_names.specs.ModuleTerms.MemberTerms.{NoMembers, Member}
use Rattle.asn1_names.specs.NameMeaning.{reference_meaning}
use Rattle.asn1_names.specs.NameMeaning.Meaning.{TypeAt, StandardType}
use Rattle.asn1_names.specs.TypeWalks.{IsNoName}
use Rattle.key_numbers.specs.TypeKeys.{TypeKey, PartKeys, has_mark, has_mark_at}
use Rattle.key_numbers.specs.TypeKeys.TypeKey.{SequenceKey, SetKey, SequenceOfKey, SetOfKey, ChoiceKey, TaggedKey}
use Rattle.key_numbers.specs.TypeKeys.PartKeys.{PartKey}
use Rattle.type_numbers.specs.PlacedTerms.{are_components, members_of, stands_default}

-- no component is marked
abbrev pub IsUnmarked : TypeKey → Type 0
IsUnmarked key = (path : List ℕ) → has_mark key path ≡ false

abbrev pub AreUnmarked : PartKeys → Type 0
AreUnmarked keys = (k : ℕ) (path : List ℕ) → has_mark_at keys k path ≡ false

mutual
  -- the key goes with a type that is written in the module at the place m
  pub data IsBeside (ms : List ModuleTerm) : ℕ → TypeTerm → TypeKey → Type 0 where
    tagged : {m : ℕ} {text : TagTerm} {mode : Option Token} {of : TypeTerm} {tag : Tag} {explicit : Bool}
        {key : TypeKey} → IsBeside ms m of key → IsBeside ms m (Under text mode of) (TaggedKey tag explicit key)
    sequence : {m : ℕ} {word : Token} {members : MemberTerms} {limits : List LimitTerm} {keys : PartKeys} →
        AreBeside ms true m members keys → IsBeside ms m (Structure word members limits) (SequenceKey keys)
    set : {m : ℕ} {word : Token} {members : MemberTerms} {limits : List LimitTerm} {keys : PartKeys} →
        AreBeside ms true m members keys → IsBeside ms m (Structure word members limits) (SetKey keys)
    choice : {m : ℕ} {word : Token} {members : MemberTerms} {limits : List LimitTerm} {keys : PartKeys} →
        AreBeside ms false m members keys → IsBeside ms m (Alternatives word members limits) (ChoiceKey keys)
    sequence_of : {m : ℕ} {word : Token} {size : Option (List RangeTerm)} {of : TypeTerm} {key : TypeKey}
        {bounds : Bounds} → IsBeside ms m of key → IsBeside ms m (Repeated word size of) (SequenceOfKey key bounds)
    set_of : {m : ℕ} {word : Token} {size : Option (List RangeTerm)} {of : TypeTerm} {key : TypeKey}
        {bounds : Bounds} → IsBeside ms m of key → IsBeside ms m (Repeated word size of) (SetOfKey key bounds)
    plain : {m : ℕ} {word : Token} {of : PlainTerm} {limits : List LimitTerm} {key : TypeKey} → IsUnmarked key →
        IsBeside ms m (Plain word of limits) key
    named : {m v i : ℕ} {module_name : Option Token} {name : Token} {limits : List LimitTerm} {of : TypeTerm}
        {key : TypeKey} → reference_meaning ms m module_name name ≡ TypeAt v i of → IsBeside ms v of key →
        IsBeside ms m (Reference module_name name limits) key
    standard : {m : ℕ} {module_name : Option Token} {name : Token} {limits : List LimitTerm} {syntax : TypeSyntax}
        {key : TypeKey} → reference_meaning ms m module_name name ≡ StandardType syntax → IsUnmarked key →
        IsBeside ms m (Reference module_name name limits) key

  -- the keys go with components, or with alternatives; those behind the last one are marked nowhere
  pub data AreBeside (ms : List ModuleTerm) : Bool → ℕ → MemberTerms → PartKeys → Type 0 where
    no_more : {components : Bool} {m : ℕ} {keys : PartKeys} → AreUnmarked keys →
        AreBeside ms components m NoMembers keys
    another : {components : Bool} {m : ℕ} {name : Token} {of : TypeTerm} {presence : PresenceTerm}
        {rest : MemberTerms} {its_name : List ℕ} {key : TypeKey} {optional default : Bool} {keys : PartKeys} →
        IsBeside ms m of key → default ≡ stands_default components presence → AreBeside ms components m rest keys →
        AreBeside ms components m (Member name of presence rest) (PartKey its_name key optional default keys)

-- the same where there may be no text: then the key is marked nowhere
abbrev pub IsBesideAt : List ModuleTerm → Option (ℕ × TypeTerm) → TypeKey → Type 0
IsBesideAt ms None key = IsUnmarked key
IsBesideAt ms (Some x) key = IsBeside ms x.0 x.1 key

-- the same of a type that is no name
abbrev pub IsBesideEnd : List ModuleTerm → Option (ℕ × TypeTerm) → TypeKey → Type 0
IsBesideEnd ms None key = IsUnmarked key
IsBesideEnd ms (Some x) key = IsNoName x.1 × IsBeside ms x.0 x.1 key

abbrev pub AreBesideAt : List ModuleTerm → Option (ℕ × TypeTerm) → PartKeys → Type 0
AreBesideAt ms None keys = AreUnmarked keys
AreBesideAt ms (Some x) keys = AreBeside ms (are_components x.1) x.0 (members_of x.1) keys
