-- TakenLaws: what SET and REPLY take is told by what the text of a value says (docs/PROFILE.md, section 9).
use Rattle.std.specs.Prelude.{◌≡◌, Bool, true, false, codes, refl, if◌then◌else◌}
use Rattle.std.proofs.Common.{ap, sym, ◌∙◌}
use Rattle.std.proofs.Math.Path.{subst}
use Rattle.token_grammar.specs.declared.token.Token.{Token}
use Rattle.token_grammar.specs.Form.{Tree, Bare, Leaf, Pair, First, Second, Absent, Numbered}
use Rattle.token_grammar.specs.TokenTests.{is_word_of}
use Rattle.asn1_values_syntax.specs.declared.value.NamedValue.TheVariants.{Name, Choice'}
use Rattle.asn1_values_syntax.specs.declared.value.ValueText.{ValueText}
use Rattle.asn1_values_syntax.specs.declared.value.ValueText.TheVariants.{Literal, Number, Named as VNamed, Braces}
use Rattle.asn1_values_syntax.specs.ValueTrees.{value_tree}
use Rattle.extra_syntax.specs.declared.step.Reply.{Reply}
use Rattle.extra_syntax.specs.declared.step.Reply.TheVariants.{Value as ReplyText, Label as ReplyLabel}
use Rattle.gdmo_names.specs.PartTerms.{TakenTerm}
use Rattle.gdmo_names.specs.PartTerms.TakenTerm.{TheArgument, OneWord, OtherValue}
use Rattle.gdmo_names.specs.PartViews.{reply_term, taken_term, word_taken}

-- what a tree says of the value that is taken
abbrev taken_of : Tree → TakenTerm
taken_of (Numbered n (Second (Second (First (Pair (Leaf name) Absent))))) = word_taken name
taken_of tree = OtherValue tree

taken_told : (v : ValueText) → taken_of (value_tree v) ≡ taken_term v
taken_told (Literal x) = refl
taken_told (Number x) = refl
taken_told (VNamed (Name name)) = refl
taken_told (VNamed (Choice' name place value)) = refl
taken_told (Braces brace content) = refl

-- two values that say the same are taken as the same
pub taken_same : (v w : ValueText) → value_tree v ≡ value_tree w → taken_term v ≡ taken_term w
taken_same v w same = sym (taken_told v) ∙ ap taken_of same ∙ taken_told w

-- ---- a value that is no word alone

word_apart : (b : Bool) (name : Token) (tree : Tree) → (if b then TheArgument name else OneWord name) ≡ OtherValue tree →
    ⊥
word_apart true name tree is = absurd (cc)
word_apart false name tree is = absurd (cc)

abbrev tree_in : TakenTerm → Tree
tree_in (TheArgument word) = Bare
tree_in (OneWord word) = Bare
tree_in (OtherValue tree) = tree

same_tree : (v : ValueText) (tree : Tree) → value_tree v ≡ tree → taken_of (value_tree v) ≡ OtherValue (value_tree v) →
    taken_of tree ≡ OtherValue tree
same_tree v tree is told = subst (λ t. taken_of t ≡ OtherValue t) is told

other_told : (v : ValueText) (tree : Tree) → taken_term v ≡ OtherValue tree → taken_of tree ≡ OtherValue tree
other_told (Literal x) tree is = same_tree (Literal x) tree (ap tree_in is) refl
other_told (Number x) tree is = same_tree (Number x) tree (ap tree_in is) refl
other_told (VNamed (Name name)) tree is = absurd (word_apart (is_word_of (codes "ARGUMENT") name) name tree is)
other_told (VNamed (Choice' name place value)) tree is =
    same_tree (VNamed (Choice' name place value)) tree (ap tree_in is) refl
other_told (Braces brace content) tree is = same_tree (Braces brace content) tree (ap tree_in is) refl

pub other_reply : (reply : Reply) (value copy : ValueText) → reply_term reply ≡ OtherValue (value_tree value) →
    value_tree copy ≡ value_tree value → taken_term copy ≡ OtherValue (value_tree value)
other_reply (ReplyText v) value copy is same =
    sym (taken_told copy) ∙ ap taken_of same ∙ other_told v (value_tree value) is
other_reply (ReplyLabel label) value copy is same = absurd (cc)

-- a word alone that isn't ARGUMENT
pub word_told : (word name : Token) → is_word_of (codes "ARGUMENT") word ≡ false → name ≡ word →
    taken_term (VNamed (Name name)) ≡ OneWord word
word_told word name other same = ap word_taken same ∙ ap (λ b. if b then TheArgument word else OneWord word) other
