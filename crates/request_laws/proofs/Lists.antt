-- The last components of arguments, which hold members or parts, are read where they are denoted: X.711, section 7.4.
use Rattle.std.proofs.Common.{◌≡◌, ℕ, ℤ, List, true, false, ◌&&◌, Option, Some, refl, sym, ◌∙◌}
use Rattle.std.proofs.Common.{[]}
use Rattle.std.proofs.lemmas.Bool.{and_right}
use Rattle.std.specs.Prelude.{codes, is_some, option_map, option_and_then}
use Rattle.term_values.specs.Beginnings.{begins}
use Rattle.term_values.specs.CmipTypes.{action_type_id, at_most_one, attribute, attribute_id, explicit, implicit}
use Rattle.term_values.specs.CmipTypes.{number, one, sequence_of, set_of}
use Rattle.term_values.specs.Decoding.{denoted, inside_of, members_in, parts_in, rising_by, sized_members}
use Rattle.term_values.specs.FilterTrees.{is_context}
use Rattle.term_values.specs.PduSyntaxes.{action_information, modification}
use Rattle.term_values.specs.Syntaxes.{TypeParts, TypeSyntax}
use Rattle.term_values.specs.Syntaxes.TypeSyntax.{Any}
use Rattle.term_values.specs.Syntaxes.TypeParts.{NoParts}
use Rattle.term_values.specs.Tag.{context, universal}
use Rattle.term_values.specs.Tree.{TreeValue, TreeValues}
use Rattle.term_values.specs.Tree.TreeValues.{Nothing, Then}
use Rattle.term_values.specs.TreeTags.{tag_of}
use Rattle.term_values.specs.Typed.{TypedValue}
use Rattle.term_values.specs.Typed.TypedValue.{Parts}
use Rattle.term_values.specs.Written.{der}
use Rattle.term_model.specs.declared.schema.AttrRec.{AttrRec}
use Rattle.term_model.specs.declared.actions.ActRec.{ActRec}
use Rattle.term_model.specs.ApduReading.{at_most_one as one_at_most}
use Rattle.term_model.specs.ArgumentRows.{all_in, at_end, at_front, held_under, inside_last}
use Rattle.term_model.specs.Assertions.{attribute_given, given_in, id_in}
use Rattle.term_model.specs.Parts.{inside_under, one as alone}
use Rattle.term_model.specs.ScopedReading.{action_inside, action_with, asked_ids, change_behind, change_in}
use Rattle.term_model.specs.ScopedReading.{change_inside, change_with, changes_of, ids_of, operator_of}
use Rattle.term_model.specs.CreateReading.{attribute_in, givens_of}
use Rattle.request_laws.proofs.Heads.{id_unbegun}
use Rattle.request_laws.proofs.Identifiers.{id_same}
use Rattle.request_laws.proofs.Instances.{sized}
use Rattle.request_laws.proofs.Options.{and_true, and_turned, is_both, is_followed, is_mapped, is_then_same, or_nothing}
use Rattle.request_laws.proofs.Parts.{chained, held_same, members_same, number_same, under_same}
use Rattle.request_laws.proofs.Rows.{first_same, last_same, optional_same}

-- ---- the one component that is left

implicit_unbegun : (number : ℕ) (of : TypeSyntax) (x : TreeValue) → begins (implicit number of) (tag_of x) ≡ false
    → is_some (denoted false (implicit number of) x) ≡ false
implicit_unbegun number of x e =
    let here : is_context number (tag_of x) ≡ false = sym (or_nothing (is_context number (tag_of x))) ∙ e in
    rw here refl

alone_same : {A : Type 0} (read : TreeValue → Option A) (name : List ℕ) (syntax : TypeSyntax)
    → ((x : TreeValue) → begins syntax (tag_of x) ≡ false → is_some (denoted false syntax x) ≡ false)
    → ((x : TreeValue) → is_some (read x) ≡ is_some (denoted false syntax x)) → (xs : TreeValues)
    → is_some (option_and_then read (alone xs)) ≡ is_some (parts_in (one name syntax NoParts) xs)
alone_same read name syntax away law Nothing = refl
alone_same read name syntax away law (Then x Nothing) =
    law x ∙ (and_true (is_some (denoted false syntax x))
    ∙ sym (first_same name syntax NoParts x Nothing (away x)))
alone_same read name syntax away law (Then x (Then y ys)) =
    sym (first_same name syntax NoParts x (Then y ys) (away x)
    ∙ and_right (is_some (denoted false syntax x)) false refl)

-- what the trees in it give
inside_same : {A : Type 0} (read : TreeValues → Option A) (name : List ℕ)
    (of : TypeSyntax) → ((x : TreeValue) → is_some (option_and_then read (inside_under (context 12) x))
    ≡ is_some (denoted false (implicit 12 of) x)) → (xs : TreeValues)
    → is_some (option_and_then read (inside_last 12 xs))
    ≡ is_some (parts_in (one name (implicit 12 of) NoParts) xs)
inside_same read name of law xs =
    (λ i. is_some (chained read (inside_under (context 12)) (alone xs) i))
    ∙ alone_same (λ x. option_and_then read (inside_under (context 12) x)) name (implicit 12 of)
    (implicit_unbegun 12 of) law xs

-- ---- m-Get

ids_same : (x : TreeValue) → is_context 12 (tag_of x) ≡ true
    → is_some (ids_of (Some x)) ≡ is_some (denoted false (implicit 12 (set_of attribute_id)) x)
ids_same x e =
    is_mapped Some (option_and_then (all_in (id_in 0 1)) (inside_of x))
    ∙ rw e (is_then_same (all_in (id_in 0 1)) (λ inside. option_and_then (sized_members [])
    (option_map (rising_by (der attribute_id)) (members_in (denoted false attribute_id) inside))) (inside_of x)
    (λ xs. members_same (id_in 0 1) (denoted false attribute_id) (id_same 0 1) xs
    ∙ sym (sized (option_map (rising_by (der attribute_id)) (members_in (denoted false attribute_id) xs))
    ∙ is_mapped (rising_by (der attribute_id)) (members_in (denoted false attribute_id) xs))))

pub asked_same : (xs : TreeValues) → is_some (asked_ids xs)
    ≡ is_some (parts_in (at_most_one (codes "attributeIdList") (implicit 12 (set_of attribute_id)) NoParts) xs)
asked_same xs =
    last_same (codes "attributeIdList") (implicit 12 (set_of attribute_id)) 12 ids_of
    (λ tag. or_nothing (is_context 12 tag)) refl ids_same xs

-- ---- m-Set

any_last : (name : List ℕ) (xs : TreeValues)
    → is_some (one_at_most xs) ≡ is_some (parts_in (at_most_one name Any NoParts) xs)
any_last name Nothing = refl
any_last name (Then x Nothing) = refl
any_last name (Then x (Then y ys)) = refl

abbrev behind_operator : TypeParts
behind_operator = one (codes "attributeId") attribute_id (at_most_one (codes "attributeValue") Any NoParts)

behind_same : (records : List AttrRec) (operator : ℤ) (xs : TreeValues)
    → is_some (change_behind records operator xs) ≡ is_some (parts_in behind_operator xs)
behind_same records operator Nothing = refl
behind_same records operator (Then id rest) =
    is_both (λ value named. change_with records operator named value) (one_at_most rest) (id_in 0 1 id)
    ∙ (and_turned (is_some (one_at_most rest)) (is_some (id_in 0 1 id))
    ∙ ((λ i. id_same 0 1 id i && any_last (codes "attributeValue") rest i)
    ∙ sym (first_same (codes "attributeId") attribute_id (at_most_one (codes "attributeValue") Any NoParts) id rest
    (id_unbegun 0 1 id))))

abbrev modified : TypeParts
modified = at_most_one (codes "operator") (implicit 2 number) behind_operator

change_inside_same : (records : List AttrRec) (xs : TreeValues)
    → is_some (change_inside records xs) ≡ is_some (option_map Parts (parts_in modified xs))
change_inside_same records xs =
    let operator = at_front (is_context 2) xs in
    is_followed (λ n. change_behind records n operator.1) (is_some (parts_in behind_operator operator.1))
    (operator_of operator.0) (λ n. behind_same records n operator.1)
    ∙ sym (is_mapped Parts (parts_in modified xs)
    ∙ optional_same (codes "operator") (implicit 2 number) behind_operator (is_context 2) operator_of
    (λ tag. or_nothing (is_context 2 tag)) refl (λ x e. number_same (context 2) x) xs)

change_same : (records : List AttrRec) (x : TreeValue)
    → is_some (change_in records x) ≡ is_some (denoted false modification x)
change_same records x =
    under_same (universal 16) (change_inside records) (λ inside. option_map Parts (parts_in modified inside))
    (change_inside_same records) x

abbrev many_in : TypeSyntax → TreeValues → Option TypedValue
many_in member xs = option_and_then (sized_members []) (members_in (denoted false member) xs)

many_same : {A : Type 0} (read : TreeValue → Option A) (member : TypeSyntax)
    → ((x : TreeValue) → is_some (read x) ≡ is_some (denoted false member x)) → (xs : TreeValues)
    → is_some (all_in read xs) ≡ is_some (many_in member xs)
many_same read member law xs =
    members_same read (denoted false member) law xs ∙ sym (sized (members_in (denoted false member) xs))

pub changes_same : (records : List AttrRec) (xs : TreeValues) → is_some (changes_of records xs)
    ≡ is_some (parts_in (one (codes "modificationList") (implicit 12 (sequence_of modification)) NoParts) xs)
changes_same records xs =
    inside_same (all_in (change_in records)) (codes "modificationList")
    (sequence_of modification)
    (under_same (context 12) (all_in (change_in records)) (many_in modification)
    (many_same (change_in records) modification (change_same records))) xs

-- ---- m-Action

abbrev acted : TypeParts
acted = one (codes "actionType") action_type_id (at_most_one (codes "actionInfoArg") (explicit 4 Any) NoParts)

action_inside_same : (records : List ActRec) (xs : TreeValues)
    → is_some (action_inside records xs) ≡ is_some (option_map Parts (parts_in acted xs))
action_inside_same records Nothing = refl
action_inside_same records (Then id rest) =
    is_both (λ value named. action_with records named value)
    (option_and_then (held_under 4) (at_end 4 rest)) (id_in 2 3 id)
    ∙ (and_turned (is_some (option_and_then (held_under 4) (at_end 4 rest))) (is_some (id_in 2 3 id))
    ∙ ((λ i. id_same 2 3 id i && last_same (codes "actionInfoArg") (explicit 4 Any) 4 (held_under 4)
    (λ tag. or_nothing (is_context 4 tag)) refl (λ x e. held_same 4 x) rest i)
    ∙ sym (is_mapped Parts (parts_in acted (Then id rest))
    ∙ first_same (codes "actionType") action_type_id
    (at_most_one (codes "actionInfoArg") (explicit 4 Any) NoParts) id rest (id_unbegun 2 3 id))))

pub action_same : (records : List ActRec) (xs : TreeValues)
    → is_some (option_and_then (action_inside records) (inside_last 12 xs))
    ≡ is_some (parts_in (one (codes "actionInfo") (implicit 12 action_information) NoParts) xs)
action_same records xs =
    inside_same (action_inside records) (codes "actionInfo")
    action_information
    (under_same (context 12) (action_inside records) (λ inside. option_map Parts (parts_in acted inside))
    (action_inside_same records)) xs

-- ---- m-Create

abbrev given_parts : TypeParts
given_parts = one (codes "attributeId") attribute_id (one (codes "attributeValue") Any NoParts)

abbrev value_part : TypeParts
value_part = one (codes "attributeValue") Any NoParts

given_parts_same : (records : List AttrRec) (xs : TreeValues)
    → is_some (given_in records xs) ≡ is_some (option_map Parts (parts_in given_parts xs))
given_parts_same records Nothing = refl
given_parts_same records (Then x Nothing) =
    sym (is_mapped Parts (parts_in given_parts (Then x Nothing))
    ∙ (first_same (codes "attributeId") attribute_id value_part x Nothing (id_unbegun 0 1 x)
    ∙ and_right (is_some (denoted false attribute_id x)) false refl))
given_parts_same records (Then x (Then y Nothing)) =
    is_mapped (λ named. attribute_given records named y) (id_in 0 1 x)
    ∙ (id_same 0 1 x ∙ (and_true (is_some (denoted false attribute_id x))
    ∙ sym (is_mapped Parts (parts_in given_parts (Then x (Then y Nothing)))
    ∙ first_same (codes "attributeId") attribute_id value_part x (Then y Nothing) (id_unbegun 0 1 x))))
given_parts_same records (Then x (Then y (Then z zs))) =
    sym (is_mapped Parts (parts_in given_parts (Then x (Then y (Then z zs))))
    ∙ (first_same (codes "attributeId") attribute_id value_part x (Then y (Then z zs)) (id_unbegun 0 1 x)
    ∙ and_right (is_some (denoted false attribute_id x)) false refl))

attribute_same : (records : List AttrRec) (x : TreeValue)
    → is_some (attribute_in records x) ≡ is_some (denoted false attribute x)
attribute_same records x =
    under_same (universal 16) (given_in records) (λ inside. option_map Parts (parts_in given_parts inside))
    (given_parts_same records) x

givens_there : (records : List AttrRec) (x : TreeValue) → is_context 7 (tag_of x) ≡ true
    → is_some (givens_of records (Some x)) ≡ is_some (denoted false (implicit 7 (sequence_of attribute)) x)
givens_there records x e =
    rw e (is_then_same (all_in (attribute_in records)) (many_in attribute) (inside_of x)
    (many_same (attribute_in records) attribute (attribute_same records)))

pub givens_same : (records : List AttrRec) (xs : TreeValues)
    → is_some (option_and_then (givens_of records) (at_end 7 xs))
    ≡ is_some (parts_in (at_most_one (codes "attributeList") (implicit 7 (sequence_of attribute)) NoParts) xs)
givens_same records xs =
    last_same (codes "attributeList") (implicit 7 (sequence_of attribute)) 7 (givens_of records)
    (λ tag. or_nothing (is_context 7 tag)) refl (givens_there records) xs
