-- Which syntaxes can be read and written: X.680, sections 24.5, 26.3 and 28.3, 30.6. Tags tell components and
-- alternatives apart, no CHOICE or ANY stands under an implicit tag, and each default fits its component.
use Rattle.std.specs.Prelude.{◌≡◌, List, [], ◌∷◌, Bool, true, false, ◌&&◌, ◌||◌, not, Option, None, Some, is_some}
use Rattle.term_values.specs.Beginnings.{first_tags, is_one_of}
use Rattle.term_values.specs.Fits.{Fits}
use Rattle.term_values.specs.Syntaxes.{TypeSyntax, TypeParts}
use Rattle.term_values.specs.Syntaxes.TypeSyntax.{Sequence, SetType, SequenceOf, SetOf, Choice, Tagged, Any, Filter}
use Rattle.term_values.specs.Syntaxes.TypeParts.{NoParts, Part}
use Rattle.term_values.specs.Typed.{TypedValue}
use Rattle.term_values.specs.declared.tag.Tag.{Tag}

abbrev pub no_tag_of : List Tag → List Tag → Bool
no_tag_of [] ys = true
no_tag_of (x ∷ xs) ys = not (is_one_of ys x) && no_tag_of xs ys

-- a tag tells the two apart
abbrev pub are_apart : Option (List Tag) → Option (List Tag) → Bool
are_apart (Some xs) (Some ys) = no_tag_of xs ys
are_apart _ _ = false

-- OPTIONAL or DEFAULT
abbrev pub may_be_absent : Bool → Option TypedValue → Bool
may_be_absent optional default = optional || is_some default

-- apart from all of these
abbrev pub is_apart_from_all : Option (List Tag) → TypeParts → Bool
is_apart_from_all tags NoParts = true
is_apart_from_all tags (Part name syntax optional default rest) =
    are_apart tags (first_tags syntax) && is_apart_from_all tags rest

-- apart from the next components, up to the first one that is always there
abbrev pub is_apart_from_next : Option (List Tag) → TypeParts → Bool
is_apart_from_next tags NoParts = true
is_apart_from_next tags (Part name syntax optional default rest) =
    are_apart tags (first_tags syntax) && (not (may_be_absent optional default) || is_apart_from_next tags rest)

-- the alternatives of a CHOICE, or the components of a SET, are all apart
abbrev pub are_all_apart : TypeParts → Bool
are_all_apart NoParts = true
are_all_apart (Part name syntax optional default rest) =
    is_apart_from_all (first_tags syntax) rest && are_all_apart rest

-- in a SEQUENCE, those that may be absent are apart from each other and from the next component
abbrev pub are_runs_apart : TypeParts → Bool
are_runs_apart NoParts = true
are_runs_apart (Part name syntax optional default rest) =
    (not (may_be_absent optional default) || is_apart_from_next (first_tags syntax) rest) && are_runs_apart rest

-- it has a tag of its own that an implicit one can replace
abbrev pub has_own_tag : TypeSyntax → Bool
has_own_tag (Choice parts) = false
has_own_tag Any = false
has_own_tag Filter = false
has_own_tag _ = true

abbrev mutual
  -- no two tags are ambiguous, anywhere in the syntax, and no implicit tag has nothing to replace
  pub has_clear_tags : TypeSyntax → Bool
  has_clear_tags (Sequence parts) = are_runs_apart parts && have_clear_tags parts
  has_clear_tags (SetType parts) = are_all_apart parts && have_clear_tags parts
  has_clear_tags (SequenceOf member sizes) = has_clear_tags member
  has_clear_tags (SetOf member sizes) = has_clear_tags member
  has_clear_tags (Choice parts) = are_all_apart parts && have_clear_tags parts
  has_clear_tags (Tagged own explicit of) = (explicit || has_own_tag of) && has_clear_tags of
  has_clear_tags _ = true

  pub have_clear_tags : TypeParts → Bool
  have_clear_tags NoParts = true
  have_clear_tags (Part name syntax optional default rest) = has_clear_tags syntax && have_clear_tags rest

-- a default, where there is one, fits
abbrev pub DefaultFits : TypeSyntax → Option TypedValue → Type 0
DefaultFits syntax None = Unit {0}
DefaultFits syntax (Some default) = Fits syntax default

abbrev mutual
  -- each default, anywhere in the syntax, fits its component
  pub HasFittingDefaults : TypeSyntax → Type 0
  HasFittingDefaults (Sequence parts) = HaveFittingDefaults parts
  HasFittingDefaults (SetType parts) = HaveFittingDefaults parts
  HasFittingDefaults (SequenceOf member sizes) = HasFittingDefaults member
  HasFittingDefaults (SetOf member sizes) = HasFittingDefaults member
  HasFittingDefaults (Choice parts) = HaveFittingDefaults parts
  HasFittingDefaults (Tagged own explicit of) = HasFittingDefaults of
  HasFittingDefaults _ = Unit {0}

  pub HaveFittingDefaults : TypeParts → Type 0
  HaveFittingDefaults NoParts = Unit {0}
  HaveFittingDefaults (Part name syntax optional default rest) =
      DefaultFits syntax default × HasFittingDefaults syntax × HaveFittingDefaults rest

-- a syntax that meets the conditions of reading and writing
abbrev pub IsSound : TypeSyntax → Type 0
IsSound syntax = (has_clear_tags syntax ≡ true) × HasFittingDefaults syntax
