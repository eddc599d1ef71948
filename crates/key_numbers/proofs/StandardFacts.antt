-- StandardFacts: examples of the definitions, computed.
use Rattle.std.proofs.Common.{◌≡◌, ◌∷◌, [], true, false, None, Some, codes, pos, refl}
use Rattle.term_values.specs.Syntaxes.TypeSyntax.{Boolean, Sequence}
use Rattle.term_values.specs.Syntaxes.TypeParts.{NoParts, Part}
use Rattle.key_numbers.specs.ComponentKeys.{component_key, has_number_key, is_integer_key}
use Rattle.key_numbers.specs.KeyNumbers.{leaf_code}
use Rattle.key_numbers.specs.NumberedLists.{IsList, Row}
use Rattle.key_numbers.specs.NumberedLists.IsList.{empty, longer}
use Rattle.key_numbers.specs.TypeKeys.{TypeKey, has_mark, key_syntax}
use Rattle.key_numbers.specs.TypeKeys.TypeKey.{BooleanKey, IntegerKey, SequenceKey, TaggedKey}
use Rattle.key_numbers.specs.TypeKeys.PartKeys.{NoKeys, PartKey}

-- SEQUENCE { a BOOLEAN DEFAULT TRUE, b INTEGER { one(1) } }
abbrev example : TypeKey
example = SequenceKey (PartKey (codes "a") BooleanKey true true
    (PartKey (codes "b") (IntegerKey ((codes "one", pos 1) ∷ []) []) false false NoKeys))

has_default : has_mark example (0 ∷ []) ≡ true
has_default = refl

has_none : has_mark example (1 ∷ []) ≡ false
has_none = refl

syntax_alone : key_syntax (SequenceKey (PartKey (codes "a") BooleanKey true true NoKeys)) ≡
    Sequence (Part (codes "a") Boolean true None NoParts)
syntax_alone = refl

second_component : component_key (codes "b") (TaggedKey (record { class = 2; number = 0 }) false example) ≡
    Some (IntegerKey ((codes "one", pos 1) ∷ []) [])
second_component = refl

no_component : component_key (codes "c") example ≡ None
no_component = refl

has_one : has_number_key (codes "one") (IntegerKey ((codes "one", pos 1) ∷ []) []) ≡ true
has_one = refl

no_integer : is_integer_key example ≡ false
no_integer = refl

-- 2.9, whose number is 2
abbrev two_arcs : Row
two_arcs = (0, 0, 2) ∷ ((0, 1, 9) ∷ [])

is_two_nine : IsList two_arcs 2 (2 ∷ (9 ∷ []))
is_two_nine = longer {k = 1} {before = 1} {last = 9} {xs = 2 ∷ []} refl
    (longer {k = 0} {before = 0} {last = 2} {xs = []} refl empty)

bounds_alone : leaf_code 0 [] ((pos 1, pos 3) ∷ []) ≡ 0 ∷ (0 ∷ (0 ∷ (1 ∷ (0 ∷ (3 ∷ [])))))
bounds_alone = refl
