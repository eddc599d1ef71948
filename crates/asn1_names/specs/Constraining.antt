-- Constraining: what constraints leave of a type: the numbers, or sizes, that the type allows and each of them does
-- (X.680, sections 49 to 51; docs/PROFILE.md, section 11).
use Rattle.std.specs.Prelude.{ℕ, ℤ, List, [], ◌∷◌, Bool, true, false}
use Rattle.range_sets.specs.RangeSets.{Leaves}
use Rattle.term_values.specs.Syntaxes.{Named, Bounds, TypeSyntax}
use Rattle.term_values.specs.Syntaxes.TypeSyntax.{Integer, BitString, OctetString, TextString, SequenceOf, SetOf}
use Rattle.term_values.specs.Syntaxes.TypeSyntax.{Tagged}
use Rattle.term_values.specs.declared.charset.Charset.{Charset}
use Rattle.term_values.specs.declared.tag.Tag.{Tag}
use Rattle.asn1_names.specs.ModuleTerms.{RangeTerm, LimitTerm, TypeTerm, ModuleTerm}
use Rattle.asn1_names.specs.ModuleTerms.LimitTerm.{SizeLimit, ValueLimit}
use Rattle.asn1_names.specs.WholeNumbers.{IsRange}

-- what ranges leave of a syntax: of INTEGER the values, of strings and lists the sizes, of a tagged type what they
-- leave of the type beneath
pub data Narrows (ranges : List (ℤ × ℤ)) : Bool → TypeSyntax → TypeSyntax → Type 0 where
  values : {names : Named} {before after : Bounds} → Leaves before ranges after →
      Narrows ranges false (Integer names before) (Integer names after)
  bits : {names : Named} {before after : Bounds} → Leaves before ranges after →
      Narrows ranges true (BitString names before) (BitString names after)
  octets : {before after : Bounds} → Leaves before ranges after →
      Narrows ranges true (OctetString before) (OctetString after)
  characters : {charset : Charset} {before after : Bounds} → Leaves before ranges after →
      Narrows ranges true (TextString charset before) (TextString charset after)
  elements : {member : TypeSyntax} {before after : Bounds} → Leaves before ranges after →
      Narrows ranges true (SequenceOf member before) (SequenceOf member after)
  members : {member : TypeSyntax} {before after : Bounds} → Leaves before ranges after →
      Narrows ranges true (SetOf member before) (SetOf member after)
  tagged : {is_size explicit : Bool} {tag : Tag} {of by : TypeSyntax} → Narrows ranges is_size of by →
      Narrows ranges is_size (Tagged tag explicit of) (Tagged tag explicit by)

-- the numbers of ranges of a type of the module at the place m
pub data AreRanges (ms : List ModuleTerm) (m : ℕ) (of : TypeTerm) : List RangeTerm → List (ℤ × ℤ) → Type 0 where
  no_more : AreRanges ms m of [] []
  another : {range : RangeTerm} {ranges : List RangeTerm} {pair : ℤ × ℤ} {pairs : List (ℤ × ℤ)} →
      IsRange ms m of range pair → AreRanges ms m of ranges pairs → AreRanges ms m of (range ∷ ranges) (pair ∷ pairs)

abbrev pub is_size_limit : LimitTerm → Bool
is_size_limit (SizeLimit ranges) = true
is_size_limit (ValueLimit ranges) = false

abbrev pub limit_ranges : LimitTerm → List RangeTerm
limit_ranges (SizeLimit ranges) = ranges
limit_ranges (ValueLimit ranges) = ranges

-- what constraints, which stand in the module at the place m behind a type, leave of a syntax, one after the other
pub data Constrains (ms : List ModuleTerm) (m : ℕ) (of : TypeTerm) : List LimitTerm → TypeSyntax → TypeSyntax →
    Type 0 where
  no_more : {syntax : TypeSyntax} → Constrains ms m of [] syntax syntax
  another : {limit : LimitTerm} {limits : List LimitTerm} {pairs : List (ℤ × ℤ)} {before between after : TypeSyntax} →
      AreRanges ms m of (limit_ranges limit) pairs → Narrows pairs (is_size_limit limit) before between →
      Constrains ms m of limits between after → Constrains ms m of (limit ∷ limits) before after
