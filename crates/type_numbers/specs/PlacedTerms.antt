-- PlacedTerms: the text of a type as a term, with the place of the module in which it is written, and the types that
-- stand in it: the type under a tag, of the elements of a list, and of a component or an alternative; and whether
-- DEFAULT stands at a component (X.680, sections 24 to 30; docs/PROFILE.md, section 12).
use Rattle.std.specs.Prelude.{◌≡◌, ℕ, zero, suc, Bool, true, false, Option, None, Some, option_map}
use Rattle.asn1_names.specs.ModuleTerms.{PresenceTerm, TypeTerm, MemberTerms}
use Rattle.asn1_names.specs.ModuleTerms.PresenceTerm.{DefaultTerm}
use Rattle.asn1_names.specs.ModuleTerms.TypeTerm.{Under, Structure, Repeated, Alternatives}
use Rattle.asn1_names.specs.ModuleTerms.MemberTerms.{NoMembers, Member}
use Rattle.asn1_names.specs.TermViews.{type_term}
use Rattle.type_numbers.specs.declared.type_texts.PlacedText.{PlacedText}

abbrev pub placed_term : PlacedText → ℕ × TypeTerm
placed_term x = (x.module, type_term x.of.now)

abbrev pub placed_terms : Option PlacedText → Option (ℕ × TypeTerm)
placed_terms x = option_map placed_term x

-- the type under a tag, or of the elements of a list
abbrev pub beneath_of : TypeTerm → Option TypeTerm
beneath_of (Under tag mode of) = Some of
beneath_of (Repeated word size of) = Some of
beneath_of _ = None

abbrev pub beneath_at : Option (ℕ × TypeTerm) → Option (ℕ × TypeTerm)
beneath_at None = None
beneath_at (Some x) = option_map (λ of. (x.0, of)) (beneath_of x.1)

-- the components of a SEQUENCE or SET, or the alternatives of a CHOICE
abbrev pub members_of : TypeTerm → MemberTerms
members_of (Structure word rows limits) = rows
members_of (Alternatives word rows limits) = rows
members_of _ = NoMembers

abbrev pub are_components : TypeTerm → Bool
are_components (Structure word rows limits) = true
are_components _ = false

-- a type has these components
abbrev pub HasComponents : TypeTerm → MemberTerms → Type 0
HasComponents of rows = (are_components of ≡ true) × (members_of of ≡ rows)

abbrev pub nth_member : MemberTerms → ℕ → Option TypeTerm
nth_member NoMembers k = None
nth_member (Member name of presence rest) zero = Some of
nth_member (Member name of presence rest) (suc k) = nth_member rest k

abbrev pub member_at : Option (ℕ × TypeTerm) → ℕ → Option (ℕ × TypeTerm)
member_at None k = None
member_at (Some x) k = option_map (λ of. (x.0, of)) (nth_member (members_of x.1) k)

-- DEFAULT stands at a component; at an alternative none stands
abbrev pub stands_default : Bool → PresenceTerm → Bool
stands_default true (DefaultTerm text) = true
stands_default _ _ = false

abbrev pub nth_default : Bool → MemberTerms → ℕ → Bool
nth_default components NoMembers k = false
nth_default components (Member name of presence rest) zero = stands_default components presence
nth_default components (Member name of presence rest) (suc k) = nth_default components rest k

abbrev pub default_at : Option (ℕ × TypeTerm) → ℕ → Bool
default_at None k = false
default_at (Some x) k = nth_default (are_components x.1) (members_of x.1) k
