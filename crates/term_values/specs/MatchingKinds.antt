-- Matching rules, and which syntaxes are of a rule's kind: X.722, section 8.7; docs/PROFILE.md, section 10.
use Rattle.std.specs.Prelude.{Bool, true, false, ◌&&◌}
use Rattle.term_values.specs.Syntaxes.{TypeSyntax}
use Rattle.term_values.specs.Syntaxes.TypeSyntax.{Integer, Enumerated, OctetString, ObjectIdentifier, TextString}
use Rattle.term_values.specs.Syntaxes.TypeSyntax.{GeneralizedTime, SetOf, Tagged}
use Rattle.term_values.specs.declared.rules.Rules.{Rules}

pub data MatchingRule : Type 0 where
  Equality : MatchingRule
  Ordering : MatchingRule
  Substrings : MatchingRule
  Comparison : MatchingRule
  Intersection : MatchingRule

-- the attribute has the rule
abbrev pub has_rule : Rules → MatchingRule → Bool
has_rule rules Equality = rules.equality
has_rule rules Ordering = rules.ordering
has_rule rules Substrings = rules.substrings
has_rule rules Comparison = rules.comparison
has_rule rules Intersection = rules.intersection

-- what stands beneath all tags
abbrev pub beneath_tags : TypeSyntax → TypeSyntax
beneath_tags (Tagged tag explicit of) = beneath_tags of
beneath_tags syntax = syntax

-- whole numbers, enumerations, texts, octets, times and identifiers have an order
abbrev pub has_order : TypeSyntax → Bool
has_order (Integer names ranges) = true
has_order (Enumerated names) = true
has_order (OctetString sizes) = true
has_order ObjectIdentifier = true
has_order (TextString charset sizes) = true
has_order GeneralizedTime = true
has_order _ = false

-- texts and octets have pieces
abbrev pub has_pieces : TypeSyntax → Bool
has_pieces (OctetString sizes) = true
has_pieces (TextString charset sizes) = true
has_pieces _ = false

abbrev pub is_set_of : TypeSyntax → Bool
is_set_of (SetOf member sizes) = true
is_set_of _ = false

-- the syntax is of the rule's kind: each one has equality, and the others are asked beneath all tags
abbrev pub is_of_kind : MatchingRule → TypeSyntax → Bool
is_of_kind Equality syntax = true
is_of_kind Ordering syntax = has_order (beneath_tags syntax)
is_of_kind Substrings syntax = has_pieces (beneath_tags syntax)
is_of_kind Comparison syntax = is_set_of (beneath_tags syntax)
is_of_kind Intersection syntax = is_set_of (beneath_tags syntax)

-- values of an attribute with these rules and this syntax can be matched by the rule
abbrev pub can_match : MatchingRule → Rules → TypeSyntax → Bool
can_match rule rules syntax = has_rule rules rule && is_of_kind rule syntax
