-- The first fault of octets of which no front spells a tree: X.690, sections 8.1.2 to 8.1.5; docs/PROFILE.md, section
-- 3.
--
-- It is what is certain of the value in hand at the first octet at which it is certain. The octets are those from that
-- value to the nearest end. What is behind them: None where the bytes end there and no definite value stands round
-- them; Some 0 where a definite value ends there; else Some n: the bytes end there, n octets before the nearest
-- definite value does.
use Rattle.std.specs.Prelude.{◌≡◌, ◌⊎◌, ℕ, zero, suc, ◌+◌, ◌-◌, ◌*◌, ◌/◌, ◌%◌, ◌^◌, ◌<◌, ◌≤◌, List, [], ◌∷◌, ◌++◌, Bool}
use Rattle.std.specs.Prelude.{true, false, ◌&&◌, ◌==◌, length, take, drop, Option, Some, None}
use Rattle.term_values.specs.declared.ber_kind.BerKind.{BerKind}
use Rattle.term_values.specs.declared.ber_kind.BerKind.TheVariants.{Truncated, TooDeep, BadTag, BadLength, NoEnd}
use Rattle.term_values.specs.declared.tag.Tag.{Tag}
use Rattle.term_values.specs.Octets.{number}
use Rattle.term_values.specs.Tree.{TreeValues}
use Rattle.term_values.specs.Ber.{most_depth, Continues, IsIdentifier, IsLength, SpellsAll}

-- what needs so many of the octets goes past the end of the definite value round it
abbrev pub IsPast : Option ℕ → List ℕ → ℕ → Type 0
IsPast None octets needed = ⊥
IsPast (Some missing) octets needed = length octets + missing < needed

-- A needed octet isn't there: the end of a definite value comes in its place, else the end of the bytes. Where both
-- do, it is the definite value's.
abbrev pub when_cut : Option ℕ → BerKind
when_cut (Some zero) = BadLength
when_cut (Some (suc n)) = Truncated
when_cut None = Truncated

-- the place of a fault of what is in hand: its first octet, for Truncated the number of bytes
abbrev pub place_of : BerKind → List ℕ → ℕ → ℕ
place_of Truncated octets end = end
place_of TooDeep octets end = end - length octets
place_of BadTag octets end = end - length octets
place_of BadLength octets end = end - length octets
place_of NoEnd octets end = end - length octets

-- bit 6 of the first identifier octet: X.690, section 8.1.2.5
abbrev pub is_constructed : ℕ → Bool
is_constructed first = first / 32 % 2 == 1

-- octets behind those of a tag in the high form that were read and gave the number so far, which is 0 before the
-- first one
pub data NumberFault (behind : Option ℕ) (begun : ℕ) (octets : List ℕ) (kind : BerKind) : Type 0 where
  -- its next octet isn't there
  number_cut : octets ≡ [] → kind ≡ when_cut behind → NumberFault behind begun octets kind
  -- the first one is 80: X.690, section 8.1.2.4.2 c
  padded : (others : List ℕ) → octets ≡ 128 ∷ others → begun ≡ 0 → kind ≡ BadTag → NumberFault behind begun octets kind
  -- the number is past 2^32 - 1, as far as it was read
  number_past : (octet : ℕ) (others : List ℕ) → octets ≡ octet ∷ others → 2 ^ 32 ≤ begun * 128 + octet % 128 →
      kind ≡ BadTag → NumberFault behind begun octets kind
  -- the number has ended and is one of the low form: X.690, section 8.1.2.2
  low : (octet : ℕ) (others : List ℕ) → octets ≡ octet ∷ others → octet < 128 → begun * 128 + octet < 31 →
      kind ≡ BadTag → NumberFault behind begun octets kind

-- identifier octets; `full` says that 32 constructed values stand round them
pub data TagFault (full : Bool) (behind : Option ℕ) (octets : List ℕ) (kind : BerKind) : Type 0 where
  -- the first one isn't there
  tag_cut : octets ≡ [] → kind ≡ when_cut behind → TagFault full behind octets kind
  -- a constructed value within 32 constructed values, before any fault of its tag
  too_deep : (first : ℕ) (others : List ℕ) → octets ≡ first ∷ others → full && is_constructed first ≡ true →
      kind ≡ TooDeep → TagFault full behind octets kind
  -- the tag universal 0, in either form
  universal_zero : (first : ℕ) (others : List ℕ) → octets ≡ first ∷ others → full && is_constructed first ≡ false →
      (first ≡ 0) ⊎ (first ≡ 32) → kind ≡ BadTag → TagFault full behind octets kind
  -- a fault of the number in the high form
  number_fault : (first begun : ℕ) (front others : List ℕ) → octets ≡ first ∷ (front ++ others) →
      full && is_constructed first ≡ false → first % 32 ≡ 31 → Continues 0 front begun →
      NumberFault behind begun others kind → TagFault full behind octets kind

-- the octets of a length of which `more` were read, and `count` are announced: how many octets at least they and the
-- contents take, as those that are to come may be zeros
abbrev pub least : ℕ → List ℕ → ℕ
least count more = count + number more * 256 ^ (count - length more)

-- length octets, behind an identifier of this form
pub data LengthFault (constructed : Bool) (behind : Option ℕ) (octets : List ℕ) (kind : BerKind) : Type 0 where
  -- the first one isn't there
  length_cut : octets ≡ [] → kind ≡ when_cut behind → LengthFault constructed behind octets kind
  -- FF is reserved: X.690, section 8.1.3.5 c
  reserved : (others : List ℕ) → octets ≡ 255 ∷ others → kind ≡ BadLength → LengthFault constructed behind octets kind
  -- a primitive value has no indefinite length: X.690, section 8.1.3.2 a
  no_indefinite : (others : List ℕ) → octets ≡ 128 ∷ others → constructed ≡ false → kind ≡ BadLength →
      LengthFault constructed behind octets kind
  -- a length of one octet points past the definite value round it
  short_past : (first : ℕ) (others : List ℕ) → octets ≡ first ∷ others → first < 128 → IsPast behind others first →
      kind ≡ BadLength → LengthFault constructed behind octets kind
  -- A length of more octets is past 2^32 - 1 as far as it was read, or it is certain that its octets or the contents
  -- go past the definite value round it. This can be certain before any octet of the number is read.
  long_past : (count : ℕ) (more others : List ℕ) → octets ≡ (128 + count) ∷ (more ++ others) → 0 < count →
      count < 127 → length more ≤ count → (2 ^ 32 ≤ number more) ⊎ IsPast behind (more ++ others) (least count more) →
      kind ≡ BadLength → LengthFault constructed behind octets kind
  -- an octet of the length isn't there, and nothing of this is certain
  long_cut : (count : ℕ) (more : List ℕ) → octets ≡ (128 + count) ∷ more → 0 < count → count < 127 →
      length more < count → number more < 2 ^ 32 → ¬ (IsPast behind more (least count more)) → kind ≡ Truncated →
      LengthFault constructed behind octets kind

-- a fault of a value's own octets, and not of one inside it
pub data OwnFault (full : Bool) (behind : Option ℕ) (octets : List ℕ) (kind : BerKind) : Type 0 where
  of_tag : TagFault full behind octets kind → OwnFault full behind octets kind
  of_length : (constructed : Bool) (tag : Tag) (identifier others : List ℕ) → octets ≡ identifier ++ others →
      IsIdentifier constructed tag identifier → full && constructed ≡ false →
      LengthFault constructed behind others kind → OwnFault full behind octets kind
  -- contents octets of a primitive value aren't there
  of_contents : (tag : Tag) (n : ℕ) (identifier size others : List ℕ) → octets ≡ identifier ++ (size ++ others) →
      IsIdentifier false tag identifier → IsLength size n → ¬ (IsPast behind others n) → length others < n →
      kind ≡ Truncated → OwnFault full behind octets kind

-- in an indefinite value with these octets, in place of its next part, which no value begins: X.690, section 8.1.5
pub data EndFault (behind : Option ℕ) (value octets : List ℕ) (end place : ℕ) (kind : BerKind) : Type 0 where
  -- nothing stands there
  no_end : octets ≡ [] → place ≡ place_of NoEnd value end → kind ≡ NoEnd → EndFault behind value octets end place kind
  -- the second octet of the end isn't there
  end_cut : octets ≡ 0 ∷ [] → place ≡ place_of kind octets end → kind ≡ when_cut behind →
      EndFault behind value octets end place kind
  -- the second octet of the end isn't 00
  end_broken : (octet : ℕ) (others : List ℕ) → octets ≡ 0 ∷ octet ∷ others → 0 < octet →
      place ≡ place_of BadLength octets end → kind ≡ BadLength → EndFault behind value octets end place kind

-- A definite value, of which the octets that are there hold whole values and then these others, before its length is
-- filled.
pub record InDefinite (depth : ℕ) (behind : Option ℕ) (octets : List ℕ) (n : ℕ) (rest others : List ℕ) : Type 0 where
  pub tag : Tag
  pub identifier : List ℕ
  pub size : List ℕ
  pub front : List ℕ
  pub inside : TreeValues
  pub whole : octets ≡ identifier ++ (size ++ rest)
  pub is_identifier : IsIdentifier true tag identifier
  pub is_length : IsLength size n
  pub within : ¬ (IsPast behind rest n)
  pub contents : take n rest ≡ front ++ others
  pub spells : SpellsAll depth front inside
  pub unfilled : length front < n

-- an indefinite value, of which the octets hold whole values and then these others
pub record InIndefinite (depth : ℕ) (octets others : List ℕ) : Type 0 where
  pub tag : Tag
  pub identifier : List ℕ
  pub front : List ℕ
  pub inside : TreeValues
  pub whole : octets ≡ identifier ++ (128 ∷ (front ++ others))
  pub is_identifier : IsIdentifier true tag identifier
  pub spells : SpellsAll depth front inside

-- no end of contents, nor a part of one
abbrev pub BeginsValue : List ℕ → Type 0
BeginsValue [] = ⊥
BeginsValue (first ∷ others) = 0 < first

-- The fault of the value whose octets begin at these, which stand before the place `end`; so many constructed values
-- may still be opened. It is the value's own, or that of a value inside it behind whole ones, or of its end.
abbrev pub HasFault : ℕ → Option ℕ → List ℕ → ℕ → ℕ → BerKind → Type 0
HasFault zero behind octets end place kind = OwnFault true behind octets kind × (place ≡ place_of kind octets end)
HasFault (suc depth) behind octets end place kind =
    (OwnFault false behind octets kind × (place ≡ place_of kind octets end))
    ⊎ (((n : ℕ) × (rest others : List ℕ) × InDefinite depth behind octets n rest others
    × HasFault depth (Some (n - length rest)) others (end - length (drop n rest)) place kind)
    ⊎ ((others : List ℕ) × InIndefinite depth octets others
    × (EndFault behind octets others end place kind
    ⊎ (BeginsValue others × HasFault depth behind others end place kind))))

-- the first fault of bytes, with its place and its kind
abbrev pub IsFirstFault : List ℕ → ℕ → BerKind → Type 0
IsFirstFault bytes place kind = HasFault most_depth None bytes (length bytes) place kind
