-- The tests that compute say what the definitions by relations say.
use Rattle.std.specs.Prelude.{◌≡◌, ◌↔◌, true, List}
use Rattle.term_values.specs.Matching.{Matches}
use Rattle.term_values.specs.MatchingKinds.{MatchingRule}
use Rattle.term_values.specs.Typed.{TypedValue}
use Rattle.term_model.specs.declared.object.Attribute.{Attribute}
use Rattle.term_model.specs.declared.schema.AttrRec.{AttrRec}
use Rattle.term_model.specs.FilterTests.{is_true_of}
use Rattle.term_model.specs.FilterTrees.{FilterTree}
use Rattle.term_model.specs.FilterTruth.{IsTrueOf}
use Rattle.term_model.specs.MatchTests.{do_match}

-- of two values by a matching rule
abbrev pub TestsTellMatches : Type 0
TestsTellMatches = (rule : MatchingRule) (asserted held : TypedValue)
    → (do_match rule asserted held ≡ true) ↔ Matches rule asserted held

-- of a filter and the attributes of an object
abbrev pub TestsTellTruth : Type 0
TestsTellTruth = (records : List AttrRec) (attributes : List Attribute) (tree : FilterTree)
    → (is_true_of records attributes tree ≡ true) ↔ IsTrueOf records attributes tree
