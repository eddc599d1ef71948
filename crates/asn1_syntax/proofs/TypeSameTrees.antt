-- Types that agree have one tree.
use Rattle.std.proofs.Common.{◌≡◌, List, refl, ap}
use Rattle.token_grammar.specs.Form.{Tree, Bare, Leaf, Pair, First, Second, Present, Empty, After, Numbered}
use Rattle.token_grammar.specs.Parts.{list_tree, optional_tree, vector_tree}
use Rattle.token_grammar.specs.PartLaws.{OneTreeBy, OptionsAgree}
use Rattle.token_grammar.proofs.Values.{lists_alike, options_alike}
use Rattle.asn1_values_syntax.proofs.OneTree.{values_alike}
use Rattle.asn1_values_syntax.specs.declared.constraint.Constraint.TheVariants.{Size, Values}
use Rattle.asn1_syntax.specs.declared.plain_type.PlainType.{PlainType}
use Rattle.asn1_syntax.specs.declared.presence.Presence.TheVariants.{Optional, Default}
use Rattle.asn1_syntax.specs.declared.type_text.TypeText.{TypeText, Row_of-Alternative, end_of-Alternative}
use Rattle.asn1_syntax.specs.declared.type_text.TypeText.{more_of-Alternative}
use Rattle.asn1_syntax.specs.declared.type_text.TypeText.TheVariants.{Tagged', Structured, Choice', Plain}
use Rattle.asn1_syntax.specs.declared.type_text.StructureText.{StructureText, Row_of-Component, end_of-Component}
use Rattle.asn1_syntax.specs.declared.type_text.StructureText.{more_of-Component, Held-StructureText-Components-0}
use Rattle.asn1_syntax.specs.declared.type_text.StructureText.{None', Some'}
use Rattle.asn1_syntax.specs.declared.type_text.StructureText.TheVariants.{Components', ListOf'}
use Rattle.asn1_values_syntax.specs.ConstraintTrees.{constraint_tree, list_size_tree, range_tree, size_tree}
use Rattle.asn1_values_syntax.specs.NamedNumberTrees.{named_bit_tree, named_bits_tree, named_integer_tree}
use Rattle.asn1_values_syntax.specs.NamedNumberTrees.{named_integers_tree, tag_tree}
use Rattle.asn1_syntax.specs.PlainTrees.{any_type_tree, bit_string_tree, enumerated_tree, integer_tree, plain_type_tree}
use Rattle.asn1_syntax.specs.PlainTrees.{type_name_tree, words_tree}
use Rattle.asn1_syntax.specs.PresenceTree.{boxed_presence_tree, presence_tree}
use Rattle.asn1_syntax.specs.TypeTrees.{alternative_tree, alternatives_row, component_parts, component_tree}
use Rattle.asn1_syntax.specs.TypeTrees.{components_held, components_row, constraints_tree, structure_tree, type_tree}
use Rattle.asn1_syntax.specs.TypeAgreement.{AlternativeRowsAgree, AlternativesAgree, BitStringsAgree}
use Rattle.asn1_syntax.specs.TypeAgreement.{BoxedPresencesAgree, ComponentRowsAgree, ComponentsAgree, ConstraintsAgree}
use Rattle.asn1_syntax.specs.TypeAgreement.{EnumeratedAgree, HeldAgree, IntegersAgree, PlainTypesAgree, PresencesAgree}
use Rattle.asn1_syntax.specs.TypeAgreement.{StructuresAgree, TypesAgree, VectorsAgree, VectorsEqual, two_any}
use Rattle.asn1_syntax.specs.TypeAgreement.{two_bit_strings, two_enumerated, two_identifiers, two_integers, two_names}
use Rattle.asn1_syntax.specs.TypeAgreement.{two_octet_strings, two_simple}

-- a vector of equal parts
pub vectors_equal : {X : Type 0} (view : X → Tree) → OneTreeBy VectorsEqual (vector_tree view)
vectors_equal {X} view x y a = ap (λ (xs : List X). list_tree view Empty xs) a

sizes_alike : OneTreeBy VectorsEqual size_tree
sizes_alike x y a = ap (λ (t : Tree). Pair Bare (Pair Bare (Pair t Bare))) (vectors_equal range_tree x y a)

pub constraints_alike : OneTreeBy ConstraintsAgree constraint_tree
constraints_alike (Size x) (Size y) a = ap (λ (t : Tree). Pair Bare (Pair (First t) Bare)) (sizes_alike x y a)
constraints_alike (Size _) (Values _) a = absurd a
constraints_alike (Values _) (Size _) a = absurd a
constraints_alike (Values x) (Values y) a = ap (λ (t : Tree). Pair Bare (Pair (Second t) Bare))
    (vectors_equal range_tree x y a)

constraint_lists : OneTreeBy (VectorsAgree ConstraintsAgree) constraints_tree
constraint_lists x y a = lists_alike ConstraintsAgree constraint_tree constraints_alike x.items y.items Empty Empty
    refl a

list_sizes_alike : OneTreeBy VectorsEqual list_size_tree
list_sizes_alike x y a = ap (λ (t : Tree). Pair Bare (Pair t Bare)) (sizes_alike x y a)

named_integers_alike : OneTreeBy VectorsEqual named_integers_tree
named_integers_alike x y a = ap (λ (t : Tree). Pair Bare (Pair t Bare)) (vectors_equal named_integer_tree x y a)

named_bits_alike : OneTreeBy VectorsEqual named_bits_tree
named_bits_alike x y a = ap (λ (t : Tree). Pair Bare (Pair t Bare)) (vectors_equal named_bit_tree x y a)

integers_alike : OneTreeBy IntegersAgree integer_tree
integers_alike x y a =
    let word = a.0 in
    let numbers = options_alike VectorsEqual named_integers_tree named_integers_alike x.numbers y.numbers a.1 in
    λ i. Pair (Leaf (word i)) (numbers i)

enumerated_alike : OneTreeBy EnumeratedAgree enumerated_tree
enumerated_alike x y a =
    let word = a.0 in
    let items = named_integers_alike x.items y.items a.1 in
    λ i. Pair (Leaf (word i)) (items i)

bit_strings_alike : OneTreeBy BitStringsAgree bit_string_tree
bit_strings_alike x y a =
    let word = a.0 in
    let bits = options_alike VectorsEqual named_bits_tree named_bits_alike x.bits y.bits a.1 in
    λ i. Pair (Leaf (word i)) (Pair Bare (bits i))

plain_in_turn : {x y : PlainType} → PlainTypesAgree x y → plain_type_tree x ≡ plain_type_tree y
plain_in_turn (two_simple a) = λ i. First (Leaf (a i))
plain_in_turn (two_integers {x} {y} a) = ap (λ (t : Tree). Second (First t)) (integers_alike x y a)
plain_in_turn (two_enumerated {x} {y} a) = ap (λ (t : Tree). Second (Second (First t))) (enumerated_alike x y a)
plain_in_turn (two_bit_strings {x} {y} a) = ap (λ (t : Tree). Second (Second (Second (First t)))) (bit_strings_alike x
    y a)
plain_in_turn (two_octet_strings a) = λ i. Second (Second (Second (Second (First (words_tree (a i))))))
plain_in_turn (two_identifiers a) = λ i. Second (Second (Second (Second (Second (First (words_tree (a i)))))))
plain_in_turn (two_any a) = λ i. Second (Second (Second (Second (Second (Second (First (any_type_tree (a i))))))))
plain_in_turn (two_names a) = λ i. Second (Second (Second (Second (Second (Second (Second (type_name_tree (a i))))))))

pub plain_types_alike : OneTreeBy PlainTypesAgree plain_type_tree
plain_types_alike x y a = plain_in_turn a

pub presences_alike : OneTreeBy PresencesAgree presence_tree
presences_alike (Optional x) (Optional y) a = λ i. First (Leaf (a i))
presences_alike (Optional _) (Default _) a = absurd a
presences_alike (Default _) (Optional _) a = absurd a
presences_alike (Default x) (Default y) a = ap (λ (t : Tree). Second (Pair Bare t)) (values_alike x y a)

boxes_alike : OneTreeBy BoxedPresencesAgree boxed_presence_tree
boxes_alike x y a = presences_alike x.value y.value a

optional_presences : OneTreeBy (OptionsAgree BoxedPresencesAgree) (optional_tree boxed_presence_tree)
optional_presences = options_alike BoxedPresencesAgree boxed_presence_tree boxes_alike

mutual
  pub types_alike : (x y : TypeText) → TypesAgree x y → type_tree x ≡ type_tree y
  types_alike (Tagged' tag mode place of) (Tagged' tag' mode' place' of') a = let tags = a.0 in let modes = a.1 in let
      types =
      types_alike of of' a.2 in λ i. Numbered 0 (First (Pair (tag_tree (tags i))
      (Pair (optional_tree Leaf (modes i)) (types i))))
  types_alike (Tagged' _ _ _ _) (Structured _ _) a = absurd a
  types_alike (Tagged' _ _ _ _) (Choice' _ _ _ _) a = absurd a
  types_alike (Tagged' _ _ _ _) (Plain _ _) a = absurd a
  types_alike (Structured _ _) (Tagged' _ _ _ _) a = absurd a
  types_alike (Structured word content) (Structured word' content') a = let words = a.0 in let contents =
      structures_alike content
      content' a.1 in λ i. Numbered 0 (Second (First (Pair (Leaf (words i)) (contents i))))
  types_alike (Structured _ _) (Choice' _ _ _ _) a = absurd a
  types_alike (Structured _ _) (Plain _ _) a = absurd a
  types_alike (Choice' _ _ _ _) (Tagged' _ _ _ _) a = absurd a
  types_alike (Choice' _ _ _ _) (Structured _ _) a = absurd a
  types_alike (Choice' word shape row constraints) (Choice' word' shape' row' constraints') a = let words = a.0 in
      let rows = alternative_rows row row' Empty Empty refl a.1 in
      let bounds = constraint_lists constraints constraints' a.2 in λ i. Numbered 0 (Second
      (Second (First (Pair (Leaf (words i)) (Pair Bare (Pair (rows i) (Pair Bare (bounds i))))))))
  types_alike (Choice' _ _ _ _) (Plain _ _) a = absurd a
  types_alike (Plain _ _) (Tagged' _ _ _ _) a = absurd a
  types_alike (Plain _ _) (Structured _ _) a = absurd a
  types_alike (Plain _ _) (Choice' _ _ _ _) a = absurd a
  types_alike (Plain of constraints) (Plain of' constraints') a = let types = plain_types_alike of of' a.0 in let
      bounds =
      constraint_lists constraints constraints' a.1 in λ i. Numbered 0 (Second (Second (Second
      (Pair (types i) (bounds i)))))

  structures_alike : (x y : StructureText) → StructuresAgree x y → structure_tree x ≡ structure_tree y
  structures_alike (Components' components constraints) (Components' components' constraints') a =
      let parts = held_alike components components' a.0 in
      let bounds = constraint_lists constraints constraints' a.1 in
      λ i. First (Pair Bare (Pair (parts i) (Pair Bare (bounds i))))
  structures_alike (Components' _ _) (ListOf' _ _ _) a = absurd a
  structures_alike (ListOf' _ _ _) (Components' _ _) a = absurd a
  structures_alike (ListOf' size place of) (ListOf' size' place' of') a =
      let sizes = options_alike VectorsEqual list_size_tree list_sizes_alike size size' a.0 in
      let types = types_alike of of' a.1 in
      λ i. Second (Pair (sizes i) (Pair Bare (types i)))

  held_alike : (x y : Held-StructureText-Components-0) → HeldAgree x y → components_held x ≡ components_held y
  held_alike None' None' a = refl
  held_alike None' (Some' _ _) a = absurd a
  held_alike (Some' _ _) None' a = absurd a
  held_alike (Some' shape row) (Some' shape' row') a = ap Present (component_rows row row' Empty Empty refl a)

  component_rows : {n m : _} (x : Row_of-Component n) (y : Row_of-Component m) (before other : Tree) → before ≡ other →
      ComponentRowsAgree x y → components_row before x ≡ components_row other y
  component_rows end_of-Component end_of-Component before other e a = e
  component_rows end_of-Component (more_of-Component _ _ _ _) before other e a = absurd a
  component_rows (more_of-Component _ _ _ _) end_of-Component before other e a = absurd a
  component_rows (more_of-Component name of presence others) (more_of-Component name' of' presence' others') before
      other e a =
      let names = a.0 in
      let types = types_alike of of' a.1 in
      let presences = optional_presences presence presence' a.2 in
      component_rows others others' (After before (component_parts name (type_tree of) presence))
      (After other (component_parts name' (type_tree of') presence'))
      (λ i. After (e i) (Pair (Leaf (names i)) (Pair (types i) (presences i)))) a.3

  alternative_rows : {n m : _} (x : Row_of-Alternative n) (y : Row_of-Alternative m) (before other : Tree) → before ≡
      other → AlternativeRowsAgree x y → alternatives_row before x ≡ alternatives_row other y
  alternative_rows end_of-Alternative end_of-Alternative before other e a = e
  alternative_rows end_of-Alternative (more_of-Alternative _ _ _) before other e a = absurd a
  alternative_rows (more_of-Alternative _ _ _) end_of-Alternative before other e a = absurd a
  alternative_rows (more_of-Alternative name of others) (more_of-Alternative name' of' others') before other e a =
      let names = a.0 in
      let types = types_alike of of' a.1 in
      alternative_rows others others' (After before (Pair (Leaf name) (type_tree of)))
      (After other (Pair (Leaf name') (type_tree of'))) (λ i. After (e i) (Pair (Leaf (names i)) (types i))) a.2

pub components_alike : OneTreeBy ComponentsAgree component_tree
components_alike x y a =
    let names = a.0 in
    let types = types_alike x.of y.of a.1 in
    let presences = optional_presences x.presence y.presence a.2 in
    λ i. Pair (Leaf (names i)) (Pair (types i) (presences i))

pub alternatives_alike : OneTreeBy AlternativesAgree alternative_tree
alternatives_alike x y a =
    let names = a.0 in
    let types = types_alike x.of y.of a.1 in
    λ i. Pair (Leaf (names i)) (types i)
