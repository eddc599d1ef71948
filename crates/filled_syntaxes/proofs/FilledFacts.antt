-- Examples, computed: a DEFAULT has its value, one that denotes none leaves its component as OPTIONAL; in which types
-- DEFAULT is written, which texts denote none, and what a value is assigned; docs/PROFILE.md, sections 11 and 18.
use Rattle.std.proofs.Common.{◌≡◌, true, false, [], ◌∷◌, ℕ, List, None, Some, refl}
use Rattle.std.specs.Prelude.{codes, pos}
use Rattle.token_grammar.specs.Form.{Tree}
use Rattle.token_grammar.specs.declared.token.Token.{Token}
use Rattle.asn1_values_syntax.specs.ValueTrees.{value_tree}
use Rattle.asn1_values_syntax.specs.declared.value.ValueText.{ValueText}
use Rattle.asn1_values_syntax.specs.declared.value.ValueText.TheVariants.{Number as TNumber, Literal as TLiteral}
use Rattle.term_values.specs.Syntaxes.{TypeSyntax}
use Rattle.term_values.specs.Syntaxes.TypeParts.{NoParts, Part}
use Rattle.term_values.specs.Syntaxes.TypeSyntax.{Boolean, Integer, Sequence}
use Rattle.term_values.specs.Typed.TypedValue.{Int}
use Rattle.asn1_names.specs.AssignmentNumbers.{numbered_at}
use Rattle.asn1_names.specs.Constraining.Constrains.{no_more as no_limit}
use Rattle.asn1_names.specs.Containment.IsMember.{first}
use Rattle.asn1_names.specs.DefaultTexts.HasDefault.{here}
use Rattle.asn1_names.specs.DenotedSyntax.AreNamed.{no_more as no_name}
use Rattle.asn1_names.specs.DenotedSyntax.Denotes.{plain as denotes_plain}
use Rattle.asn1_names.specs.DenotedSyntax.PlainDenotes.{integer as denotes_integer}
use Rattle.asn1_names.specs.ModuleTerms.{ModuleTerm, TypeTerm}
use Rattle.asn1_names.specs.ModuleTerms.AssignedTerm.{AssignsType, AssignsValue}
use Rattle.asn1_names.specs.ModuleTerms.MemberTerms.{Member, NoMembers}
use Rattle.asn1_names.specs.ModuleTerms.PlainTerm.{IntegerTerm, OneWord}
use Rattle.asn1_names.specs.ModuleTerms.PresenceTerm.{DefaultTerm, OptionalTerm}
use Rattle.asn1_names.specs.ModuleTerms.TypeTerm.{Plain, Reference, Repeated, Structure}
use Rattle.asn1_names.specs.NameMeaning.Meaning.{TypeAt, ValueAt}
use Rattle.asn1_names.specs.ResolvedTypes.HasDefaultText.{of_type as text_of_type}
use Rattle.asn1_names.specs.ResolvedTypes.HasSyntax.{of_value}
use Rattle.asn1_leaf_values.specs.Arcs.{no_names}
use Rattle.filled_syntaxes.specs.AssignedValues.{TellsAssigned}
use Rattle.filled_syntaxes.specs.BadDefaults.{BadWithin, may_miss_at}
use Rattle.filled_syntaxes.specs.FilledSyntaxes.{HasFilled, IsFilled, TextsAt}
use Rattle.filled_syntaxes.specs.FilledSyntaxes.IsPresence.{with_none, with_value, without}
use Rattle.filled_syntaxes.specs.LinkedMeanings.{AssignsNone}
use Rattle.filled_syntaxes.specs.LinkedMeanings.AssignsNone.{assigned as assigned_none}
use Rattle.filled_syntaxes.specs.LinkedMeanings.AssignsValue.{assigned as assigned_value}
use Rattle.filled_syntaxes.specs.SaidTexts.{DenotesNone, DenotesValue}
use Rattle.filled_syntaxes.specs.WrittenDefaults.{writes_default}

-- the texts 5 and TRUE
abbrev five : ValueText
five = TNumber (record { minus = None; number = record { kind = 1; at = 7; text = codes "5" } })

abbrev truth : ValueText
truth = TLiteral (record { kind = 0; at = 9; text = codes "TRUE" })

five_denotes : DenotesValue no_names (Integer [] []) (value_tree five) (Int (pos 5))
five_denotes = record { text = five; told = refl; denotes = refl }

truth_denotes_none : DenotesNone no_names (Integer [] []) (value_tree truth) 9
truth_denotes_none = record { text = truth; told = refl; denotes = refl; begins = refl }

-- the first component has DEFAULT with a text, the second is OPTIONAL
abbrev text_of_first : ValueText → TextsAt
text_of_first text path tree = (path ≡ 0 ∷ []) × (tree ≡ value_tree text)

abbrev plain : TypeSyntax
plain = Sequence (Part (codes "one") (Integer [] []) true None (Part (codes "two") Boolean true None NoParts))

not_first : (text : ValueText) (tree : Tree) → ¬ text_of_first text (1 ∷ []) tree
not_first text tree h = absurd (cc (h.0))

filled : IsFilled no_names (text_of_first five) [] plain
    (Sequence (Part (codes "one") (Integer [] []) false (Some (Int (pos 5)))
    (Part (codes "two") Boolean true None NoParts)))
filled = (_, refl, (refl, refl, with_value (refl, refl) five_denotes, (refl, refl, without (not_first five), tt)))

-- a DEFAULT without a value
as_optional : IsFilled no_names (text_of_first truth) [] plain plain
as_optional =
    (_, refl, (refl, refl, with_none (refl, refl) truth_denotes_none, (refl, refl, without (not_first truth), tt)))

-- ---- where DEFAULT is written

abbrev word : List ℕ → Token
word text = record { kind = 0; at = 0; text = text }

abbrev integer : TypeTerm
integer = Plain (word (codes "INTEGER")) (IntegerTerm []) []

-- SEQUENCE { one INTEGER DEFAULT .., two BOOLEAN OPTIONAL }
abbrev with_default : ValueText → TypeTerm
with_default text = Structure (word (codes "SEQUENCE"))
    (Member (word (codes "one")) integer (DefaultTerm (value_tree text))
    (Member (word (codes "two")) (Plain (word (codes "BOOLEAN")) OneWord []) OptionalTerm NoMembers)) []

in_sequence : writes_default (with_default five) ≡ true
in_sequence = refl

in_list : writes_default (Repeated (word (codes "SET")) None (with_default five)) ≡ true
in_list = refl

in_no_name : writes_default (Reference None (word (codes "Other")) []) ≡ false
in_no_name = refl

-- ---- texts that denote none

may_miss : may_miss_at plain (1 ∷ []) ≡ true
may_miss = refl

-- a module of the document 2, with a type that has DEFAULT TRUE for an INTEGER, and a value of INTEGER
abbrev in_module : ModuleTerm
in_module = record {
  document = 2;
  name = word (codes "Module");
  is_implicit = false;
  imports = [];
  assignments = record { name = word (codes "Type"); assigned = AssignsType (with_default truth) }
      ∷ record { name = word (codes "value"); assigned = AssignsValue integer None (value_tree five) } ∷ [];
}

bad_default : BadWithin (in_module ∷ []) no_names (TypeAt 0 0 (with_default truth)) [] plain
    (record { document = 2; token = 9 })
bad_default = record {
  rest = 0 ∷ [];
  component = Integer [] [];
  is_part = refl;
  bad = record {
    v = 0;
    text = value_tree truth;
    stands = text_of_type (here first);
    is_of = (in_module, refl, refl);
    none = truth_denotes_none;
  };
}

-- ---- what a value is assigned

has_integer : {text : Tree} → HasFilled (in_module ∷ []) no_names (ValueAt 0 1 integer None text) (Integer [] [])
has_integer = record {
  plain = Integer [] [];
  has = of_value (denotes_plain (denotes_integer no_name) no_limit);
  filled = refl;
}

five_assigned : TellsAssigned (in_module ∷ []) no_names (ValueAt 0 1 integer None (value_tree five)) (Some (Int (pos 5)))
five_assigned = assigned_value has_integer five_denotes

none_assigned : AssignsNone (in_module ∷ []) no_names (ValueAt 0 1 integer None (value_tree truth)) 9
none_assigned = assigned_none has_integer truth_denotes_none

value_at : numbered_at (in_module ∷ []) 1 ≡ Some (record {
  in_module = 0;
  place = 1;
  assignment = record { name = word (codes "value"); assigned = AssignsValue integer None (value_tree five) };
})
unfolding numbered_at
value_at = refl
