-- No two values have one tree: of optional parts and lists, given that it holds of their parts, and of
-- the parts of this crate.
use Rattle.std.proofs.Common.{◌≡◌, ℕ, ◌+◌, suc, List, [], ◌∷◌, None, Some, refl, ◌∙◌, ap, arith, length}
use Rattle.token_grammar.specs.declared.token.Token.{Token}
use Rattle.token_grammar.specs.declared.object_identifier.Arc.TheVariants.{Number, Named}
use Rattle.token_grammar.specs.declared.object_identifier.FirstArc.TheVariants.{OfArc, Name}
use Rattle.token_grammar.specs.Form.{Tree, Bare, Leaf, Pair, First, Second, Absent, Present, Empty, After, Numbered}
use Rattle.token_grammar.specs.Parts.{optional_tree, list_tree, document_name_tree, label_reference_tree}
use Rattle.token_grammar.specs.Parts.{qualified_name_tree, arc_tree, first_arc_tree, object_identifier_tree}
use Rattle.token_grammar.specs.PartLaws.{OneValue, OneValueBy, OneTreeBy, ListsAgree, OptionsAgree, IdentifiersAgree}

-- equal trees have equal parts
pub first_same : {a b : Tree} → First a ≡ First b → a ≡ b
first_same e = cc

pub second_same : {a b : Tree} → Second a ≡ Second b → a ≡ b
second_same e = cc

pub present_same : {a b : Tree} → Present a ≡ Present b → a ≡ b
present_same e = cc

pub leaf_same : {t u : Token} → Leaf t ≡ Leaf u → t ≡ u
leaf_same e = cc

pub pair_same : {a b c d : Tree} → Pair a b ≡ Pair c d → (a ≡ c) × (b ≡ d)
pair_same e = (cc, cc)

pub after_same : {a b c d : Tree} → After a b ≡ After c d → (a ≡ c) × (b ≡ d)
after_same e = (cc, cc)

pub numbered_same : {n m : ℕ} {a b : Tree} → Numbered n a ≡ Numbered m b → (n ≡ m) × (a ≡ b)
numbered_same e = (cc, cc)

-- and trees of two alternatives aren't equal
pub first_not_second : {a b : Tree} → First a ≡ Second b → ⊥
first_not_second e = cc

pub second_not_first : {a b : Tree} → Second a ≡ First b → ⊥
second_not_first e = cc

pub absent_not_present : {a : Tree} → Absent ≡ Present a → ⊥
absent_not_present e = cc

pub present_not_absent : {a : Tree} → Present a ≡ Absent → ⊥
present_not_absent e = cc

-- how many parts a list's tree has
abbrev pub parts_of : Tree → ℕ
parts_of Bare = 0
parts_of (Leaf token) = 0
parts_of (Pair a b) = 0
parts_of (First a) = 0
parts_of (Second a) = 0
parts_of Absent = 0
parts_of (Present a) = 0
parts_of Empty = 0
parts_of (After s a) = suc (parts_of s)
parts_of (Numbered n a) = 0

one_more : (a b : ℕ) → suc a + b ≡ a + suc b
one_more a b = omega arith

pub parts_of_list : {X : Type 0} (view : X → Tree) (before : Tree) (xs : List X)
    → parts_of (list_tree view before xs) ≡ parts_of before + length xs
parts_of_list view before [] = omega arith
parts_of_list view before (x ∷ xs) =
    parts_of_list view (After before (view x)) xs ∙ one_more (parts_of before) (length xs)

-- lists of one length behind what came before
lists_behind : {X : Type 0} (agree : X → X → Type 0) (view : X → Tree) → OneValueBy agree view
    → (xs ys : List X) (before other : Tree) → length xs ≡ length ys
    → list_tree view before xs ≡ list_tree view other ys → (before ≡ other) × ListsAgree agree xs ys
lists_behind agree view once [] [] before other same e = (e, tt)
lists_behind agree view once [] (y ∷ ys) before other same e = absurd (omega arith)
lists_behind agree view once (x ∷ xs) [] before other same e = absurd (omega arith)
lists_behind agree view once (x ∷ xs) (y ∷ ys) before other same e =
    let behind = lists_behind agree view once xs ys (After before (view x)) (After other (view y)) (omega arith) e in
    let last = after_same behind.0 in
    (last.0, (once x y last.1, behind.1))

-- lists of one tree
pub lists_agree : {X : Type 0} (agree : X → X → Type 0) (view : X → Tree) → OneValueBy agree view → (xs ys : List X)
    → list_tree view Empty xs ≡ list_tree view Empty ys → ListsAgree agree xs ys
lists_agree agree view once xs ys e =
    let left = parts_of_list view Empty xs in
    let right = parts_of_list view Empty ys in
    let same = ap parts_of e in
    (lists_behind agree view once xs ys Empty Empty (omega arith) e).1

equal_lists : {X : Type 0} (xs ys : List X) → ListsAgree ◌≡◌ xs ys → xs ≡ ys
equal_lists [] [] a = refl
equal_lists [] (y ∷ ys) a = absurd a
equal_lists (x ∷ xs) [] a = absurd a
equal_lists (x ∷ xs) (y ∷ ys) a = let rest = equal_lists xs ys a.1 in cc (a.0, rest)

pub one_list : {X : Type 0} (view : X → Tree) → OneValue view → (xs ys : List X)
    → list_tree view Empty xs ≡ list_tree view Empty ys → xs ≡ ys
one_list view once xs ys e = equal_lists xs ys (lists_agree ◌≡◌ view once xs ys e)

-- optional parts of one tree
pub options_agree : {X : Type 0} (agree : X → X → Type 0) (view : X → Tree) → OneValueBy agree view
    → OneValueBy (OptionsAgree agree) (optional_tree view)
options_agree agree view once None None e = tt
options_agree agree view once None (Some y) e = absurd (absent_not_present e)
options_agree agree view once (Some x) None e = absurd (present_not_absent e)
options_agree agree view once (Some x) (Some y) e = once x y (present_same e)

pub one_option : {X : Type 0} (view : X → Tree) → OneValue view → OneValue (optional_tree view)
one_option view once None None e = refl
one_option view once None (Some y) e = absurd (absent_not_present e)
one_option view once (Some x) None e = absurd (present_not_absent e)
one_option view once (Some x) (Some y) e = ap Some (once x y (present_same e))

pub one_token : OneValue Leaf
one_token x y e = leaf_same e

pub one_document_name : OneValue document_name_tree
one_document_name x y e = leaf_same (pair_same e).0

pub one_label_reference : OneValue label_reference_tree
one_label_reference x y e =
    let parts = pair_same e in
    let document = one_option document_name_tree one_document_name x.document y.document parts.0 in
    let label = leaf_same parts.1 in
    λ i. record { document = document i; label = label i }

pub one_qualified_name : OneValue qualified_name_tree
one_qualified_name x y e =
    let parts = pair_same e in
    let module_name = leaf_same parts.0 in
    let name = leaf_same (pair_same parts.1).1 in
    λ i. record { module_name = module_name i; name = name i }

pub one_arc : OneValue arc_tree
one_arc (Number number) (Number other) e = ap Number (leaf_same (first_same e))
one_arc (Number number) (Named other name) e = absurd (first_not_second e)
one_arc (Named name number) (Number other) e = absurd (second_not_first e)
one_arc (Named name number) (Named other another) e =
    let parts = pair_same (second_same e) in
    let same = leaf_same parts.0 in
    let equal = leaf_same (pair_same (pair_same parts.1).1).0 in
    λ i. Named (same i) (equal i)

pub one_first_arc : OneValue first_arc_tree
one_first_arc (OfArc x) (OfArc y) e = ap OfArc (one_arc x y (first_same e))
one_first_arc (OfArc x) (Name y) e = absurd (first_not_second e)
one_first_arc (Name x) (OfArc y) e = absurd (second_not_first e)
one_first_arc (Name x) (Name y) e = ap Name (leaf_same (second_same e))

pub one_object_identifier : OneValueBy IdentifiersAgree object_identifier_tree
one_object_identifier x y e =
    let brace = pair_same e in
    let first = pair_same brace.1 in (
      leaf_same brace.0,
      one_first_arc x.first y.first first.0,
      one_list arc_tree one_arc x.others.items y.others.items (pair_same first.1).0,
    )

-- Values that agree have one tree: of lists and optional parts, given that it holds of their parts.
pub lists_alike : {X : Type 0} (agree : X → X → Type 0) (view : X → Tree) → OneTreeBy agree view
    → (xs ys : List X) (before other : Tree) → before ≡ other → ListsAgree agree xs ys
    → list_tree view before xs ≡ list_tree view other ys
lists_alike agree view same [] [] before other e a = e
lists_alike agree view same [] (y ∷ ys) before other e a = absurd a
lists_alike agree view same (x ∷ xs) [] before other e a = absurd a
lists_alike agree view same (x ∷ xs) (y ∷ ys) before other e a =
    let last = same x y a.0 in
    lists_alike agree view same xs ys (After before (view x)) (After other (view y)) (λ i. After (e i) (last i)) a.1

pub options_alike : {X : Type 0} (agree : X → X → Type 0) (view : X → Tree) → OneTreeBy agree view
    → OneTreeBy (OptionsAgree agree) (optional_tree view)
options_alike agree view same None None a = refl
options_alike agree view same None (Some y) a = absurd a
options_alike agree view same (Some x) None a = absurd a
options_alike agree view same (Some x) (Some y) a = ap Present (same x y a)

pub identifiers_alike : OneTreeBy IdentifiersAgree object_identifier_tree
identifiers_alike x y a =
    let brace = a.0 in
    let first = a.1 in
    let others = a.2 in
    λ i. Pair (Leaf (brace i)) (Pair (first_arc_tree (first i)) (Pair (list_tree arc_tree Empty (others i)) Bare))
