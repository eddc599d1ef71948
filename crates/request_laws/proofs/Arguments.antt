-- A request is read where a value of the argument is: X.711, section 7.
use Rattle.std.proofs.Common.{◌≡◌, ℤ, pos, Bool, true, false, ◌&&◌, Option, None, Some, refl, sym, ap, ◌∙◌, ⊎_elim}
use Rattle.std.proofs.lemmas.Bool.{cases_Bool}
use Rattle.std.specs.Ordering.{int_eq}
use Rattle.std.specs.Prelude.{codes, is_some, option_map, option_and_then}
use Rattle.term_values.specs.Decoding.{parts_in, value_in}
use Rattle.term_values.specs.CmipTypes.{at_most_one, implicit, object_class, object_parts, one, sequence_of, set_of}
use Rattle.term_values.specs.CmipTypes.{attribute_id}
use Rattle.term_values.specs.LeafReading.{no_trees}
use Rattle.term_values.specs.PduSyntaxes.{action_information, modification, scoped_parts}
use Rattle.term_values.specs.Syntaxes.{TypeParts, TypeSyntax}
use Rattle.term_values.specs.Syntaxes.TypeSyntax.{Sequence}
use Rattle.term_values.specs.Syntaxes.TypeParts.{NoParts}
use Rattle.term_values.specs.Tag.{universal}
use Rattle.term_values.specs.Tree.{TreeValue, TreeValues}
use Rattle.term_values.specs.Typed.{TypedValue}
use Rattle.term_values.specs.Typed.TypedValue.{Parts}
use Rattle.term_model.specs.declared.filter_item.Given.{Given}
use Rattle.term_model.specs.declared.request.IdRef.{IdRef}
use Rattle.term_model.specs.declared.request.Request.{Request}
use Rattle.term_model.specs.declared.request.Request.TheVariants as requests
use Rattle.term_model.specs.declared.schema.Set.{Set}
use Rattle.term_model.specs.ArgumentRows.{inside_last}
use Rattle.term_model.specs.Parts.{inside_under}
use Rattle.term_model.specs.RequestHeads.{ScopedTrees, head_of, scoped_in}
use Rattle.term_model.specs.ScopedReading.{action_inside, action_of, asked_ids, changes_of, delete_of, get_of}
use Rattle.term_model.specs.ScopedReading.{set_of as changes_request}
use Rattle.term_model.specs.RequestReading.{request_in, request_inside, scoped_of}
use Rattle.request_laws.specs.ArgumentLaws.{argument_of}
use Rattle.request_laws.proofs.Heads.{scoped_same}
use Rattle.request_laws.proofs.Lists.{action_same, asked_same, changes_same}
use Rattle.request_laws.proofs.Objects.{create_same, from_place, from_time, report_same}
use Rattle.request_laws.proofs.Options.{and_turned, is_both, is_mapped, is_then_same, is_where}
use Rattle.request_laws.proofs.Parts.{end_same, under_same}

-- ---- the operations with a scope

-- the last component and the head
with_head : {A : Type 0} (set : Set) (trees : ScopedTrees) (o : Option A) (rest : TypeParts)
    → is_some o ≡ is_some (parts_in rest trees.rest)
    → (is_some o && is_some (head_of set trees)) ≡ (is_some (head_of set trees) && is_some (parts_in rest trees.rest))
with_head set trees o rest law =
    and_turned (is_some o) (is_some (head_of set trees)) ∙ ap (λ b. is_some (head_of set trees) && b) law

abbrev ids_part : TypeParts
ids_part = at_most_one (codes "attributeIdList") (implicit 12 (set_of attribute_id)) NoParts

get_same : (set : Set) (xs : TreeValues)
    → is_some (option_and_then (get_of set) (scoped_in xs)) ≡ is_some (parts_in (scoped_parts ids_part) xs)
get_same set xs =
    scoped_same set (get_of set) ids_part
    (λ trees. is_both (λ ids head. requests.Get head ids) (asked_ids trees.rest) (head_of set trees)
    ∙ with_head set trees (asked_ids trees.rest) ids_part (asked_same trees.rest)) xs

abbrev changes_part : TypeParts
changes_part = one (codes "modificationList") (implicit 12 (sequence_of modification)) NoParts

set_same : (set : Set) (confirmed : Bool) (xs : TreeValues)
    → is_some (option_and_then (changes_request set confirmed) (scoped_in xs))
    ≡ is_some (parts_in (scoped_parts changes_part) xs)
set_same set confirmed xs =
    scoped_same set (changes_request set confirmed) changes_part
    (λ trees. is_both (λ changes head. requests.Set head changes confirmed)
    (changes_of set.attributes trees.rest) (head_of set trees)
    ∙ with_head set trees (changes_of set.attributes trees.rest) changes_part
    (changes_same set.attributes trees.rest)) xs

abbrev action_part : TypeParts
action_part = one (codes "actionInfo") (implicit 12 action_information) NoParts

act_same : (set : Set) (confirmed : Bool) (xs : TreeValues)
    → is_some (option_and_then (action_of set confirmed) (scoped_in xs))
    ≡ is_some (parts_in (scoped_parts action_part) xs)
act_same set confirmed xs =
    scoped_same set (action_of set confirmed) action_part
    (λ trees. is_both (λ (action : IdRef × Option Given) head. requests.Act head action.0 action.1 confirmed)
    (option_and_then (action_inside set.actions) (inside_last 12 trees.rest)) (head_of set trees)
    ∙ with_head set trees (option_and_then (action_inside set.actions) (inside_last 12 trees.rest)) action_part
    (action_same set.actions trees.rest)) xs

delete_same : (set : Set) (xs : TreeValues)
    → is_some (option_and_then (delete_of set) (scoped_in xs)) ≡ is_some (parts_in (scoped_parts NoParts) xs)
delete_same set xs =
    scoped_same set (delete_of set) NoParts
    (λ trees. is_where (no_trees trees.rest) (option_map requests.Delete (head_of set trees))
    ∙ ((λ i. sym (end_same trees.rest) i && is_mapped requests.Delete (head_of set trees) i)
    ∙ and_turned (is_some (parts_in NoParts trees.rest)) (is_some (head_of set trees)))) xs

none_scoped : {A : Type 0} (o : Option ScopedTrees) (f : ScopedTrees → Option A) → ((x : ScopedTrees) → f x ≡ None)
    → is_some (option_and_then f o) ≡ false
none_scoped None f law = refl
none_scoped (Some x) f law = ap is_some (law x)

-- ---- by the operation

-- a value in the syntax of an argument that there is
abbrev pub argument_in : Option TypeSyntax → TreeValue → Option TypedValue
argument_in None tree = None
argument_in (Some syntax) tree = value_in syntax tree

-- the values in the argument give a request where they are its components
abbrev Inside : Set → ℤ → TypeParts → Type 0
Inside set op parts = (xs : TreeValues) → is_some (request_inside set op xs) ≡ is_some (parts_in parts xs)

argument_same : (set : Set) (op : ℤ) (parts : TypeParts) → Inside set op parts → (tree : TreeValue)
    → is_some (request_in set op tree) ≡ is_some (value_in (Sequence parts) tree)
argument_same set op parts law tree =
    under_same (universal 16) (request_inside set op) (λ inside. option_map Parts (parts_in parts inside))
    (λ xs. law xs ∙ sym (is_mapped Parts (parts_in parts xs))) tree

-- and the operation has that argument
of_argument : (set : Set) (op : ℤ) (tree : TreeValue) (parts : TypeParts) → argument_of op ≡ Some (Sequence parts)
    → Inside set op parts → is_some (request_in set op tree) ≡ is_some (argument_in (argument_of op) tree)
of_argument set op tree parts is law =
    argument_same set op parts law tree ∙ ap (λ s. is_some (argument_in s tree)) (sym is)

-- one with a scope
of_scoped : (set : Set) (op : ℤ) (f : ScopedTrees → Option Request) (rest : TypeParts)
    → ((xs : TreeValues) → request_inside set op xs ≡ option_and_then (scoped_of set op) (scoped_in xs))
    → ((trees : ScopedTrees) → scoped_of set op trees ≡ f trees)
    → ((xs : TreeValues) → is_some (option_and_then f (scoped_in xs)) ≡ is_some (parts_in (scoped_parts rest) xs))
    → Inside set op (scoped_parts rest)
of_scoped set op f rest inside is law xs =
    ap is_some (inside xs)
    ∙ (is_then_same (scoped_of set op) f (scoped_in xs) (λ trees. ap is_some (is trees)) ∙ law xs)

nothing_under : {A : Type 0} (read : TreeValues → Option A) (o : Option TreeValues)
    → ((xs : TreeValues) → is_some (read xs) ≡ false) → is_some (option_and_then read o) ≡ false
nothing_under read None law = refl
nothing_under read (Some xs) law = law xs

by_test : (b : Bool) (G : Type 0) → (b ≡ true → G) → (b ≡ false → G) → G
by_test b G here otherwise = ⊎_elim here otherwise (cases_Bool b)

pub operation_same : (set : Set) (op : ℤ) (tree : TreeValue)
    → is_some (request_in set op tree) ≡ is_some (argument_in (argument_of op) tree)
operation_same set op tree =
    let G = is_some (request_in set op tree) ≡ is_some (argument_in (argument_of op) tree) in
    by_test (int_eq op (pos 0)) G
    (λ a. of_argument set op tree (object_parts from_time) (rw a refl) (λ xs. rw a (report_same set false xs)))
    (λ a. by_test (int_eq op (pos 1)) G
    (λ b. of_argument set op tree (object_parts from_time) (rw (a, b) refl)
    (λ xs. rw (a, b) (report_same set true xs)))
    (λ b. by_test (int_eq op (pos 8)) G
    (λ c. of_argument set op tree (one (codes "objectClass") object_class from_place) (rw (a, b, c) refl)
    (λ xs. rw (a, b, c) (create_same set xs)))
    (λ c. by_test (int_eq op (pos 3)) G
    (λ d. of_argument set op tree (scoped_parts ids_part) (rw (a, b, c, d) refl)
    (of_scoped set op (get_of set) ids_part (λ xs. rw (a, b, c) refl) (λ t. rw d refl) (get_same set)))
    (λ d. by_test (int_eq op (pos 4)) G
    (λ e. of_argument set op tree (scoped_parts changes_part) (rw (a, b, c, d, e) refl)
    (of_scoped set op (changes_request set false) changes_part (λ xs. rw (a, b, c) refl) (λ t. rw (d, e) refl)
    (set_same set false)))
    (λ e. by_test (int_eq op (pos 5)) G
    (λ f. of_argument set op tree (scoped_parts changes_part) (rw (a, b, c, d, e, f) refl)
    (of_scoped set op (changes_request set true) changes_part (λ xs. rw (a, b, c) refl) (λ t. rw (d, e, f) refl)
    (set_same set true)))
    (λ f. by_test (int_eq op (pos 6)) G
    (λ g. of_argument set op tree (scoped_parts action_part) (rw (a, b, c, d, e, f, g) refl)
    (of_scoped set op (action_of set false) action_part (λ xs. rw (a, b, c) refl) (λ t. rw (d, e, f, g) refl)
    (act_same set false)))
    (λ g. by_test (int_eq op (pos 7)) G
    (λ h. of_argument set op tree (scoped_parts action_part) (rw (a, b, c, d, e, f, g, h) refl)
    (of_scoped set op (action_of set true) action_part (λ xs. rw (a, b, c) refl) (λ t. rw (d, e, f, g, h) refl)
    (act_same set true)))
    (λ h. by_test (int_eq op (pos 9)) G
    (λ k. of_argument set op tree (scoped_parts NoParts) (rw (a, b, c, d, e, f, g, h, k) refl)
    (of_scoped set op (delete_of set) NoParts (λ xs. rw (a, b, c) refl) (λ t. rw (d, e, f, g, h, k) refl)
    (delete_same set)))
    (λ k. nothing_under (request_inside set op) (inside_under (universal 16) tree)
    (λ xs. rw (a, b, c) (none_scoped (scoped_in xs) (scoped_of set op) (λ t. rw (d, e, f, g, h, k) refl)))
    ∙ rw (a, b, c, d, e, f, g, h, k) refl)))))))))
