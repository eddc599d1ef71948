-- AttributeRules: the rules by which the values of an attribute match, its own and those of the attributes from which
-- it derives (X.722, section 8.7).
use Rattle.std.specs.Prelude.{◌≡◌, ◌↔◌, ℕ, List, Bool, true, Some, codes, length, slice_get}
use Rattle.std.specs.List.{list_any}
use Rattle.term_values.specs.declared.rules.Rules.{Rules}
use Rattle.token_grammar.specs.TokenTests.{is_word_of}
use Rattle.token_grammar.specs.declared.token.Token.{Token}
use Rattle.link_graphs.specs.Leading.{Leads, Reaches}
use Rattle.linked_parts.specs.declared.linked.Linked.{Linked}
use Rattle.class_faults.specs.AttributeSyntaxes.{HasRuleCalled, attribute_bases}

-- an attribute is told a rule exactly where it has it
abbrev pub TellsRule : Linked → List ℕ → ℕ → Bool → Type 0
TellsRule linked rule k told = (told ≡ true) ↔ HasRuleCalled linked rule k

pub record TellsRules (linked : Linked) (k : ℕ) (rules : Rules) : Type 0 where
  pub equality : TellsRule linked (codes "EQUALITY") k rules.equality
  pub ordering : TellsRule linked (codes "ORDERING") k rules.ordering
  pub substrings : TellsRule linked (codes "SUBSTRINGS") k rules.substrings
  pub comparison : TellsRule linked (codes "SET-COMPARISON") k rules.comparison
  pub intersection : TellsRule linked (codes "SET-INTERSECTION") k rules.intersection

-- an attribute neither derives from itself nor from one that does
abbrev pub ReachesNoCycle : Linked → ℕ → Type 0
ReachesNoCycle linked k =
    (above : ℕ) → Reaches (attribute_bases linked) k above → ¬ Leads (attribute_bases linked) above above

-- the rules of each attribute. Those of one that derives from itself, or from one that does, aren't told: that is a
-- fault.
pub record AreAttributeRules (linked : Linked) (rules : List Rules) : Type 0 where
  pub size : length rules ≡ length linked.attributes.items
  pub told : (k : ℕ) (x : Rules) → slice_get rules k ≡ Some x → ReachesNoCycle linked k → TellsRules linked k x

-- a word is among these, as of MATCHES FOR
abbrev pub has_word : List ℕ → List Token → Bool
has_word word words = list_any (is_word_of word) words
