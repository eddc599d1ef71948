-- SectionEnds: the tokens with which parts of the sections RULES and INSTANCES may go on (docs/PROFILE.md, section 9).
use Rattle.std.specs.Prelude.{Bool, [], ◌∷◌, codes}
use Rattle.token_grammar.specs.declared.token.Token.{Token}
use Rattle.token_grammar.specs.TokenTests.{is_one_of, is_word_of}
use Rattle.token_grammar.specs.Parts.{either}
use Rattle.asn1_values_syntax.specs.ValueForms.{colon, comma, is_value_start}

-- the value of EMIT, or what a name chooses
abbrev pub is_step_end : Token → Bool
is_step_end = either colon is_value_start

abbrev pub is_steps_end : Token → Bool
is_steps_end = either comma is_step_end

abbrev pub is_on : Token → Bool
is_on = is_word_of (codes "ON")

-- a further pair, or what a name chooses
abbrev pub is_assignments_end : Token → Bool
is_assignments_end = either comma colon

abbrev pub is_with : Token → Bool
is_with = is_word_of (codes "WITH")

abbrev pub is_with_end : Token → Bool
is_with_end = either is_with is_assignments_end

abbrev pub is_packages : Token → Bool
is_packages = is_word_of (codes "PACKAGES")

abbrev pub is_packages_end : Token → Bool
is_packages_end = either is_packages comma

abbrev pub is_instance_start : Token → Bool
is_instance_start = is_one_of (codes "ROOT" ∷ codes "OBJECT" ∷ [])
