-- RuleSteps: how the rules of attributes come about, step by step: the words of each, joined with what is known of its
-- base (X.722, section 8.7).
use Rattle.std.specs.Prelude.{◌||◌, ℕ, List, Option, None, Some, codes, option_map, slice_get, slice_set}
use Rattle.term_values.specs.declared.rules.Rules.{Rules}
use Rattle.token_grammar.specs.declared.token.Token.{Token}
use Rattle.linked_parts.specs.declared.linked.LinkedAttribute.{LinkedAttribute}
use Rattle.linked_parts.specs.declared.linked.LinkedSyntax.{LinkedSyntax}
use Rattle.linked_parts.specs.declared.linked.LinkedSyntax.TheVariants.{OfAttribute, OfType}
use Rattle.linked_types.specs.AttributeRules.{has_word}

-- the rules that are among the words of MATCHES FOR
abbrev pub stated_rules : List Token → Rules
stated_rules words = record {
  equality = has_word (codes "EQUALITY") words;
  ordering = has_word (codes "ORDERING") words;
  substrings = has_word (codes "SUBSTRINGS") words;
  comparison = has_word (codes "SET-COMPARISON") words;
  intersection = has_word (codes "SET-INTERSECTION") words;
}

-- the rules of both
abbrev pub either_rules : Rules → Rules → Rules
either_rules one other = record {
  equality = one.equality || other.equality;
  ordering = one.ordering || other.ordering;
  substrings = one.substrings || other.substrings;
  comparison = one.comparison || other.comparison;
  intersection = one.intersection || other.intersection;
}

-- the rules of an attribute, from those of its base that are known
abbrev pub base_rules : List Rules → LinkedSyntax → Option Rules
base_rules known (OfType name) = None
base_rules known (OfAttribute base) = slice_get known base

abbrev pub with_base : Rules → Option Rules → Rules
with_base own None = own
with_base own (Some rules) = either_rules own rules

abbrev pub rules_now : List Rules → LinkedAttribute → Rules
rules_now known x = with_base (stated_rules x.rules.items) (base_rules known x.syntax)

abbrev pub rules_at : List LinkedAttribute → List Rules → ℕ → Option Rules
rules_at xs known place = option_map (rules_now known) (slice_get xs place)

-- those of all, when those of the attribute at a place are joined with its base's
abbrev pub set_where : List Rules → ℕ → Option Rules → List Rules
set_where known place None = known
set_where known place (Some rules) = slice_set known place rules

abbrev pub stepped_rules : List LinkedAttribute → List Rules → ℕ → List Rules
stepped_rules xs known place = set_where known place (rules_at xs known place)
