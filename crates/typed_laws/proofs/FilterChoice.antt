-- A tree is a filter exactly where the CHOICE of a filter's alternatives has it: X.711, section 7.5.
use Rattle.std.proofs.Common.{◌≡◌, Bool, true, false, ◌&&◌, ◌||◌, Option, Some, None, refl, ap, sym, ◌∙◌, subst, ⊎_elim}
use Rattle.std.proofs.Common.{ℕ, List, []}
use Rattle.std.specs.Prelude.{is_some, option_map, option_and_then, codes}
use Rattle.std.proofs.lemmas.Bool.{cases_Bool, or_parts}
use Rattle.term_values.specs.Beginnings.{begins}
use Rattle.term_values.specs.CmipTypes.{one, unnamed, implicit, filter_choice, filter_item, piece, attribute_id}
use Rattle.term_values.specs.Decoding.{denoted, value_in, parts_in, members_in, one_in, rising_by, sized_members}
use Rattle.term_values.specs.Der.{written}
use Rattle.term_values.specs.FilterTrees.{is_filter, are_filters, is_one_filter, is_item, is_one_item}
use Rattle.term_values.specs.FilterTrees.{are_attribute_parts, are_pieces, is_one_attribute_id, is_attribute_id}
use Rattle.term_values.specs.FilterTrees.{is_context}
use Rattle.term_values.specs.LeafReading.{where_it}
use Rattle.term_values.specs.Octets.{integer_in}
use Rattle.term_values.specs.Oid.{oid_in}
use Rattle.term_values.specs.Syntaxes.{TypeSyntax, TypeParts}
use Rattle.term_values.specs.Syntaxes.TypeSyntax.{Filter, Any, Choice}
use Rattle.term_values.specs.Syntaxes.TypeParts.{NoParts, Part}
use Rattle.term_values.specs.Tag.{context}
use Rattle.term_values.specs.Tree.{TreeValue, TreeValues}
use Rattle.term_values.specs.Tree.TreeValue.{Primitive, Constructed}
use Rattle.term_values.specs.Tree.TreeValues.{Nothing as NoTrees, Then as AndTrees}
use Rattle.term_values.specs.TreeTags.{tag_of}
use Rattle.term_values.specs.Typed.{TypedValue, TypedSlots, TypedValues}
use Rattle.term_values.specs.Typed.TypedValue.{Identifier, Int, Parts, Pick, Raw}
use Rattle.term_values.specs.Typed.TypedSlots.{NoSlots, Filled}
use Rattle.term_values.specs.Typed.TypedValues.{Then}
use Rattle.term_values.specs.Written.{der}
use Rattle.term_values.specs.declared.tag.Tag.{Tag}
use Rattle.typed_laws.proofs.Choosing.{same_tag}

-- ---- tests of one tag

-- the tag with this number, or another one
at : (n : ℕ) (G : Tag → Type 0) (tag : Tag) → G (context n) → (is_context n tag ≡ false → G tag) → G tag
at n G tag here otherwise =
    ⊎_elim (λ (e : is_context n tag ≡ true). subst G (same_tag (context n) tag e) here) otherwise
    (cases_Bool (is_context n tag))

mapped : {A B : Type 0} (f : A → B) (o : Option A) → is_some (option_map f o) ≡ is_some o
mapped f None = refl
mapped f (Some x) = refl

then_mapped : {A B : Type 0} (f : A → B) (o : Option A) → is_some (option_and_then (λ x. Some (f x)) o) ≡ is_some o
then_mapped f None = refl
then_mapped f (Some x) = refl

or_nothing : (b : Bool) → b ≡ (b || false)
or_nothing true = refl
or_nothing false = refl

or_nothing_twice : (b : Bool) → b ≡ ((b || false) || false)
or_nothing_twice true = refl
or_nothing_twice false = refl

-- ---- identifiers and attributes

id_is : (x : TreeValue) → is_some (value_in attribute_id x) ≡ is_attribute_id x
id_is (Primitive tag contents) =
    at 0 (λ t. is_some (value_in attribute_id (Primitive t contents)) ≡ is_attribute_id (Primitive t contents)) tag
    (mapped (Pick 0) (option_map Identifier (oid_in contents)) ∙ (mapped Identifier (oid_in contents)
    ∙ or_nothing (is_some (oid_in contents))))
    (λ a. at 1 (λ t. is_some (value_in attribute_id (Primitive t contents)) ≡ is_attribute_id (Primitive t contents))
    tag
    (mapped (Pick 1) (option_and_then (λ n. Some (Int n)) (integer_in contents))
    ∙ then_mapped Int (integer_in contents))
    (λ b. rw (a, b) refl))
id_is (Constructed tag inside) =
    at 0 (λ t. is_some (value_in attribute_id (Constructed t inside)) ≡ false) tag refl
    (λ a. at 1 (λ t. is_some (value_in attribute_id (Constructed t inside)) ≡ false) tag refl (λ b. rw (a, b) refl))

-- where it doesn't begin as an identifier it is none
id_begins : (x : TreeValue) → begins attribute_id (tag_of x) ≡ false → is_attribute_id x ≡ false
id_begins (Primitive tag contents) e =
    let p = or_parts (is_context 0 tag) (is_context 1 tag || false) e in
    let q = or_parts (is_context 1 tag) false p.1 in
    rw (p.0, q.0) refl
id_begins (Constructed tag inside) e = refl

abbrev attribute_parts : TypeParts
attribute_parts = Part (codes "attributeId") attribute_id false None
    (Part (codes "attributeValue") Any false None NoParts)

no_second : (o : Option TypedValue) → is_some (option_and_then (λ v. option_map {T = TypedSlots} (Filled v) None) o) ≡
    false
no_second None = refl
no_second (Some v) = refl

first_of_two : (last : TypedSlots) (o : Option TypedValue)
    → is_some (option_and_then (λ v. option_map (Filled v) (Some last)) o) ≡ is_some o
first_of_two last None = refl
first_of_two last (Some v) = refl

-- the components of an attribute, or of a piece, whose names don't matter
parts_are : (a b : List ℕ) (inside : TreeValues)
    → is_some (parts_in (Part a attribute_id false None (Part b Any false None NoParts)) inside)
    ≡ are_attribute_parts inside
parts_are a b NoTrees = refl
parts_are a b (AndTrees x NoTrees) =
    ⊎_elim
    (λ (e : begins attribute_id (tag_of x) ≡ true). rw e (no_second (denoted false attribute_id x)))
    (λ (e : begins attribute_id (tag_of x) ≡ false). rw e refl)
    (cases_Bool (begins attribute_id (tag_of x)))
parts_are a b (AndTrees x (AndTrees y NoTrees)) =
    ⊎_elim
    (λ (e : begins attribute_id (tag_of x) ≡ true).
    rw e (first_of_two (Filled (Raw (written y)) NoSlots) (denoted false attribute_id x) ∙ id_is x))
    (λ (e : begins attribute_id (tag_of x) ≡ false). rw e (sym (id_begins x e)))
    (cases_Bool (begins attribute_id (tag_of x)))
parts_are a b (AndTrees x (AndTrees y (AndTrees z zs))) =
    ⊎_elim
    (λ (e : begins attribute_id (tag_of x) ≡ true). rw e (no_second (denoted false attribute_id x)))
    (λ (e : begins attribute_id (tag_of x) ≡ false). rw e refl)
    (cases_Bool (begins attribute_id (tag_of x)))

-- ---- pieces

abbrev pieces : TypeSyntax
pieces =
    Choice (one (codes "initial") (implicit 0 piece) (one (codes "any") (implicit 1 piece)
    (one (codes "final") (implicit 2 piece) NoParts)))

abbrev is_piece : TreeValue → Bool
is_piece (Constructed tag inside) =
    ((is_context 0 tag || is_context 1 tag) || is_context 2 tag) && are_attribute_parts inside
is_piece (Primitive tag contents) = false

abbrev piece_in : TreeValues → Option TypedSlots
piece_in inside = parts_in (Part unnamed attribute_id false None (Part unnamed Any false None NoParts)) inside

picked_piece : (k : ℕ) (inside : TreeValues)
    → is_some (option_map (Pick k) (option_map Parts (piece_in inside))) ≡ are_attribute_parts inside
picked_piece k inside =
    mapped (Pick k) (option_map Parts (piece_in inside)) ∙ (mapped Parts (piece_in inside) ∙ parts_are unnamed unnamed
    inside)

abbrev Piece : TreeValues → Tag → Type 0
Piece inside tag = is_some (value_in pieces (Constructed tag inside)) ≡ is_piece (Constructed tag inside)

abbrev NoPiece : List ℕ → Tag → Type 0
NoPiece contents tag = is_some (value_in pieces (Primitive tag contents)) ≡ false

piece_is : (x : TreeValue) → is_some (value_in pieces x) ≡ is_piece x
piece_is (Primitive tag contents) =
    at 0 (NoPiece contents) tag refl (λ a. at 1 (NoPiece contents) tag refl (λ b. at 2 (NoPiece contents) tag refl
    (λ c. rw (a, b, c) refl)))
piece_is (Constructed tag inside) =
    at 0 (Piece inside) tag (picked_piece 0 inside) (λ a. at 1 (Piece inside) tag (picked_piece 1 inside)
    (λ b. at 2 (Piece inside) tag (picked_piece 2 inside) (λ c. rw (a, b, c) refl)))

both_some : (o : Option TypedValue) (r : Option TypedValues)
    → is_some (option_and_then (λ v. option_map (Then v) r) o) ≡ (is_some o && is_some r)
both_some None r = refl
both_some (Some v) None = refl
both_some (Some v) (Some vs) = refl

pieces_are : (inside : TreeValues) → is_some (members_in (denoted false pieces) inside) ≡ are_pieces inside
pieces_are NoTrees = refl
pieces_are (AndTrees (Primitive tag contents) rest) =
    both_some (value_in pieces (Primitive tag contents)) (members_in (denoted false pieces) rest)
    ∙ ap (λ b. b && is_some (members_in (denoted false pieces) rest)) (piece_is (Primitive tag contents))
pieces_are (AndTrees (Constructed tag inside) rest) =
    both_some (value_in pieces (Constructed tag inside)) (members_in (denoted false pieces) rest)
    ∙ (λ i. piece_is (Constructed tag inside) i && pieces_are rest i)

sized : (o : Option TypedValues) → is_some (option_and_then (sized_members []) o) ≡ is_some o
sized None = refl
sized (Some members) = refl

-- ---- items

one_id_is : (inside : TreeValues) → is_some (one_in (denoted false attribute_id) inside) ≡ is_one_attribute_id inside
one_id_is NoTrees = refl
one_id_is (AndTrees x NoTrees) = id_is x
one_id_is (AndTrees x (AndTrees y ys)) = refl

picked_attribute : (k : ℕ) (inside : TreeValues)
    → is_some (option_map (Pick k) (option_map Parts (parts_in attribute_parts inside)))
    ≡ ((are_attribute_parts inside || false) || false)
picked_attribute k inside =
    mapped (Pick k) (option_map Parts (parts_in attribute_parts inside))
    ∙ (mapped Parts (parts_in attribute_parts inside)
    ∙ (parts_are (codes "attributeId") (codes "attributeValue") inside ∙ or_nothing_twice (are_attribute_parts inside)))

abbrev Item : TreeValues → Tag → Type 0
Item inside tag = is_some (value_in filter_item (Constructed tag inside)) ≡ is_item (Constructed tag inside)

abbrev Plain : List ℕ → Tag → Type 0
Plain contents tag = is_some (value_in filter_item (Primitive tag contents)) ≡ false

item_is : (x : TreeValue) → is_some (value_in filter_item x) ≡ is_item x
item_is (Primitive tag contents) =
    at 0 (Plain contents) tag refl (λ a. at 1 (Plain contents) tag refl (λ b. at 2 (Plain contents) tag refl
    (λ c. at 3 (Plain contents) tag refl (λ d. at 4 (Plain contents) tag refl (λ e. at 5 (Plain contents) tag refl
    (λ f. at 6 (Plain contents) tag refl (λ g. at 7 (Plain contents) tag refl
    (λ h. rw (a, b, c, d, e, f, g, h) refl))))))))
item_is (Constructed tag inside) =
    at 0 (Item inside) tag (picked_attribute 0 inside) (λ a. at 1 (Item inside) tag
    (mapped (Pick 1) (option_and_then (sized_members []) (members_in (denoted false pieces) inside))
    ∙ (sized (members_in (denoted false pieces) inside) ∙ (pieces_are inside ∙ or_nothing (are_pieces inside))))
    (λ b. at 2 (Item inside) tag (picked_attribute 2 inside) (λ c. at 3 (Item inside) tag (picked_attribute 3 inside)
    (λ d. at 4 (Item inside) tag (mapped (Pick 4) (one_in (denoted false attribute_id) inside) ∙ one_id_is inside)
    (λ e. at 5 (Item inside) tag (picked_attribute 5 inside) (λ f. at 6 (Item inside) tag (picked_attribute 6 inside)
    (λ g. at 7 (Item inside) tag (picked_attribute 7 inside)
    (λ h. rw (a, b, c, d, e, f, g, h) refl))))))))

one_item_is : (inside : TreeValues) → is_some (one_in (denoted false filter_item) inside) ≡ is_one_item inside
one_item_is NoTrees = refl
one_item_is (AndTrees x NoTrees) = item_is x
one_item_is (AndTrees x (AndTrees y ys)) = refl

-- ---- filters

where_some : (b : Bool) (v : TypedValue) → is_some (where_it b v) ≡ b
where_some true v = refl
where_some false v = refl

filters_are : (inside : TreeValues) → is_some (members_in (denoted false Filter) inside) ≡ are_filters inside
filters_are NoTrees = refl
filters_are (AndTrees x rest) =
    both_some (denoted false Filter x) (members_in (denoted false Filter) rest)
    ∙ (λ i. where_some (is_filter x) (Raw (written x)) i && filters_are rest i)

one_filter_is : (inside : TreeValues) → is_some (one_in (denoted false Filter) inside) ≡ is_one_filter inside
one_filter_is NoTrees = refl
one_filter_is (AndTrees x NoTrees) = where_some (is_filter x) (Raw (written x))
one_filter_is (AndTrees x (AndTrees y ys)) = refl

abbrev set_in : TreeValues → Option TypedValue
set_in inside =
    option_and_then (sized_members []) (option_map (rising_by (der Filter)) (members_in (denoted false Filter) inside))

set_is : (k : ℕ) (inside : TreeValues) → is_some (option_map (Pick k) (set_in inside)) ≡ (are_filters inside || false)
set_is k inside =
    mapped (Pick k) (set_in inside)
    ∙ (sized (option_map (rising_by (der Filter)) (members_in (denoted false Filter) inside))
    ∙ (mapped (rising_by (der Filter)) (members_in (denoted false Filter) inside)
    ∙ (filters_are inside ∙ or_nothing (are_filters inside))))

abbrev Is : TreeValues → Tag → Type 0
Is inside tag = is_some (value_in filter_choice (Constructed tag inside)) ≡ is_filter (Constructed tag inside)

abbrev Not : List ℕ → Tag → Type 0
Not contents tag = is_some (value_in filter_choice (Primitive tag contents)) ≡ false

pub filter_is_choice : (tree : TreeValue) → is_some (value_in filter_choice tree) ≡ is_filter tree
filter_is_choice (Primitive tag contents) =
    at 8 (Not contents) tag refl (λ a. at 9 (Not contents) tag refl (λ b. at 10 (Not contents) tag refl
    (λ c. at 11 (Not contents) tag refl (λ d. rw (a, b, c, d) refl))))
filter_is_choice (Constructed tag inside) =
    at 8 (Is inside) tag (mapped (Pick 0) (one_in (denoted false filter_item) inside)
    ∙ (one_item_is inside ∙ or_nothing_twice (is_one_item inside)))
    (λ a. at 9 (Is inside) tag (set_is 1 inside) (λ b. at 10 (Is inside) tag (set_is 2 inside)
    (λ c. at 11 (Is inside) tag (mapped (Pick 3) (one_in (denoted false Filter) inside) ∙ one_filter_is inside)
    (λ d. rw (a, b, c, d) refl))))
