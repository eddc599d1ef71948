-- StepValues: values of rules, of which one thing is taken, are told by one tree; and values of one tree begin at one
-- place (docs/PROFILE.md, section 9).
use Rattle.std.proofs.Common.{◌≡◌, Bool, true, false, refl, sym, ◌∙◌, ap}
use Rattle.std.specs.Prelude.{codes, if◌then◌else◌}
use Rattle.token_grammar.specs.declared.token.Token.{Token}
use Rattle.token_grammar.specs.Form.{Tree}
use Rattle.token_grammar.specs.TokenTests.{is_word_of}
use Rattle.asn1_values_syntax.specs.declared.numbers.SignedNumber.{SignedNumber}
use Rattle.asn1_values_syntax.specs.declared.value.NamedValue.TheVariants.{Name, Choice'}
use Rattle.asn1_values_syntax.specs.declared.value.ValueText.{ValueText}
use Rattle.asn1_values_syntax.specs.declared.value.ValueText.TheVariants.{Literal, Number, Named, Braces}
use Rattle.asn1_values_syntax.specs.Agreement.{ValuesAgree}
use Rattle.asn1_values_syntax.specs.ValueTrees.{value_tree}
use Rattle.asn1_values_syntax.proofs.OneValue.{values_agree}
use Rattle.asn1_leaf_values.specs.TextValues.{first_place}
use Rattle.gdmo_names.specs.PartTerms.{TakenTerm}
use Rattle.gdmo_names.specs.PartTerms.TakenTerm.{OneWord, OtherValue, TheArgument}
use Rattle.gdmo_names.specs.PartViews.{taken_term}
use Rattle.accepted_laws.proofs.ListTerms.{SayOne}

-- ---- what is taken of a value

abbrev word_tree : Token → Tree
word_tree word = value_tree (Named (Name word))

abbrev taken_tree : TakenTerm → Tree
taken_tree (TheArgument word) = word_tree word
taken_tree (OneWord word) = word_tree word
taken_tree (OtherValue tree) = tree

word_taken_tree : (word : Token) (is_argument : Bool) →
    taken_tree (if is_argument then TheArgument word else OneWord word) ≡ word_tree word
word_taken_tree word true = refl
word_taken_tree word false = refl

tree_of_taken : (x : ValueText) → taken_tree (taken_term x) ≡ value_tree x
tree_of_taken (Literal _) = refl
tree_of_taken (Number _) = refl
tree_of_taken (Named (Name word)) = word_taken_tree word (is_word_of (codes "ARGUMENT") word)
tree_of_taken (Named (Choice' _ _ _)) = refl
tree_of_taken (Braces _ _) = refl

pub one_tree : {taken : TakenTerm} (x y : ValueText) → taken_term x ≡ taken → taken_term y ≡ taken →
    value_tree x ≡ value_tree y
one_tree x y one other =
    sym (tree_of_taken x) ∙ ap taken_tree (one ∙ sym other) ∙ tree_of_taken y

-- ---- where values begin

places_say : SayOne ValuesAgree first_place
places_say (Literal _) (Literal _) a = ap (λ (t : Token). t.at) a
places_say (Literal _) (Number _) a = absurd a
places_say (Literal _) (Named _) a = absurd a
places_say (Literal _) (Braces _ _) a = absurd a
places_say (Number _) (Literal _) a = absurd a
places_say (Number _) (Number _) a = ap (λ (n : SignedNumber). first_place (Number n)) a
places_say (Number _) (Named _) a = absurd a
places_say (Number _) (Braces _ _) a = absurd a
places_say (Named _) (Literal _) a = absurd a
places_say (Named _) (Number _) a = absurd a
places_say (Named (Name _)) (Named (Name _)) a = ap (λ (t : Token). t.at) a
places_say (Named (Name _)) (Named (Choice' _ _ _)) a = absurd a
places_say (Named (Choice' _ _ _)) (Named (Name _)) a = absurd a
places_say (Named (Choice' _ _ _)) (Named (Choice' _ _ _)) a = ap (λ (t : Token). t.at) a.0
places_say (Named _) (Braces _ _) a = absurd a
places_say (Braces _ _) (Literal _) a = absurd a
places_say (Braces _ _) (Number _) a = absurd a
places_say (Braces _ _) (Named _) a = absurd a
places_say (Braces _ _) (Braces _ _) a = ap (λ (t : Token). t.at) a.0

pub one_begin : (x y : ValueText) → value_tree x ≡ value_tree y → first_place x ≡ first_place y
one_begin x y same = places_say x y (values_agree x y same)
