-- GatheredTags: the tags with which types begin, gathered in lists (X.680, sections 8.4, 25.6, 27.3, 29.3 and 31;
-- X.690, section 8.1.2). An ANY begins with each tag.
use Rattle.std.specs.Prelude.{◌≡◌, ◌≤◌, ◌<◌, ◌⊎◌, ◌||◌, ℕ, List, Bool, true, false, Option, None, Some, slice_get}
use Rattle.std.specs.Option.{option_and_then}
use Rattle.asn1_syntax.specs.declared.plain_type.PlainType.{PlainType}
use Rattle.asn1_syntax.specs.declared.plain_type.PlainType.TheVariants as plain
use Rattle.term_values.specs.Beginnings.{begins, is_one_of}
use Rattle.term_values.specs.Syntaxes.{TypeSyntax}
use Rattle.term_values.specs.Tag.{is_same_tag}
use Rattle.term_values.specs.UniversalTags.{integer, bit_string, octet_string, object_identifier, enumerated}
use Rattle.term_values.specs.declared.tag.Tag.{Tag}
use Rattle.asn1_names.specs.AssignmentNumbers.{assignment_count}
use Rattle.asn1_names.specs.CodeMeanings.{IsTypeOf}
use Rattle.asn1_names.specs.ModuleTerms.{TypeTerm, ModuleTerm}
use Rattle.asn1_names.specs.NodeCount.{HasNodes}
use Rattle.asn1_names.specs.TypeTags.{Begins}
use Rattle.asn1_names.specs.TypeWords.{one_word_type}
use Rattle.asn1_numbers.specs.NumberedTypes.{IsCyclicNumber, MarkCyclic}
use Rattle.asn1_tags.specs.declared.tag_sets.TagSet.{TagSet}

-- a set has the tag
abbrev pub has_tag : TagSet → Tag → Bool
has_tag set tag = set.any || is_one_of set.tags.items tag

-- one set has the tags of another one, and those that pass a test
abbrev pub GainsTags : TagSet → TagSet → (Tag → Bool) → Type 0
GainsTags before after test = (tag : Tag) → has_tag after tag ≡ (has_tag before tag || test tag)

-- one set has the tags of another one, and those with which a type begins
pub record AddsTags (ms : List ModuleTerm) (m : ℕ) (of : TypeTerm) (before after : TagSet) : Type 0 where
  pub kept : (tag : Tag) → has_tag before tag ≡ true → has_tag after tag ≡ true
  pub begun : (tag : Tag) → Begins ms m of tag → has_tag after tag ≡ true
  pub only : (tag : Tag) → has_tag after tag ≡ true → (has_tag before tag ≡ true) ⊎ Begins ms m of tag

-- a set has the tags with which a type begins
pub record HasTags (ms : List ModuleTerm) (m : ℕ) (of : TypeTerm) (set : TagSet) : Type 0 where
  pub begun : (tag : Tag) → Begins ms m of tag → has_tag set tag ≡ true
  pub only : (tag : Tag) → has_tag set tag ≡ true → Begins ms m of tag

-- a set has the tags of the type of the assignment with the number, where this has at most 10,000 nodes
abbrev pub TellsTags : List ModuleTerm → ℕ → TagSet → Type 0
TellsTags ms number set = (m : ℕ) (of : TypeTerm) → IsTypeOf ms number m of →
    (n : ℕ) → HasNodes ms m of n → n ≤ 10000 → HasTags ms m of set

-- the set of the assignment with the number, by its place
abbrev pub set_found : List ℕ → List TagSet → ℕ → Option TagSet
set_found sources sets number = option_and_then (slice_get sets) (slice_get sources number)

-- the set of the assignment with the number has the tags of the assignment's type
pub record KnowsTags (ms : List ModuleTerm) (sources : List ℕ) (sets : List TagSet) (number : ℕ) : Type 0 where
  pub set : TagSet
  pub found : set_found sources sets number ≡ Some set
  pub tells : TellsTags ms number set

-- it is known which types contain themselves, and the tags of all others
pub record AreTagsKnown (ms : List ModuleTerm) (marks : List Bool) (sources : List ℕ) (sets : List TagSet) : Type 0
  where
    pub marked : MarkCyclic ms marks
    pub each : (number : ℕ) → number < assignment_count ms → ¬ IsCyclicNumber ms number →
        KnowsTags ms sources sets number

-- the tags of a word
abbrev pub word_begins : Option TypeSyntax → Tag → Bool
word_begins None tag = false
word_begins (Some syntax) tag = begins syntax tag

-- the tags of a type that holds no other and is no name
abbrev pub plain_begins : PlainType → Tag → Bool
plain_begins (plain.Simple word) tag = word_begins (one_word_type word.text) tag
plain_begins (plain.Integer x) tag = is_same_tag integer tag
plain_begins (plain.Enumerated x) tag = is_same_tag enumerated tag
plain_begins (plain.BitString x) tag = is_same_tag bit_string tag
plain_begins (plain.OctetString word) tag = is_same_tag octet_string tag
plain_begins (plain.ObjectIdentifier word) tag = is_same_tag object_identifier tag
plain_begins (plain.Any x) tag = true
plain_begins (plain.Named x) tag = false
