-- What the arguments of operations with a scope give, m-Get, m-Set, m-Action and m-Delete: X.711, section 7.4;
-- docs/PROFILE.md, section 14. The relations are in RequestDenoting and ChangeDenoting of request_laws.
use Rattle.std.specs.Prelude.{ℤ, pos, List, Bool, Option, None, Some, option_and_then, find}
use Rattle.std.specs.Prelude.{if◌then◌else◌}
use Rattle.std.specs.Option.{option_map}
use Rattle.term_values.specs.Decoding.{inside_of}
use Rattle.term_values.specs.FilterTrees.{is_context}
use Rattle.term_values.specs.LeafReading.{no_trees}
use Rattle.term_values.specs.Syntaxes.{TypeSyntax}
use Rattle.term_values.specs.Tag.{context, universal}
use Rattle.term_values.specs.Tree.{TreeValue, TreeValues}
use Rattle.term_values.specs.Tree.TreeValues.{Nothing, Then}
use Rattle.term_model.specs.declared.actions.ActRec.{ActRec}
use Rattle.term_model.specs.declared.filter_item.Given.{Given}
use Rattle.term_model.specs.declared.request.Change.{Change}
use Rattle.term_model.specs.declared.request.IdRef.{IdRef}
use Rattle.term_model.specs.declared.request.IdRef.TheVariants.{Global, Local}
use Rattle.term_model.specs.declared.request.Request.{Request}
use Rattle.term_model.specs.declared.request.Request.TheVariants as requests
use Rattle.term_model.specs.declared.schema.AttrRec.{AttrRec}
use Rattle.term_model.specs.declared.schema.Set.{Set}
use Rattle.term_model.specs.ApduReading.{at_most_one}
use Rattle.term_model.specs.Assertions.{attribute_given, given_of, id_in}
use Rattle.term_model.specs.Comparing.{is_same_oid}
use Rattle.term_model.specs.Parts.{inside_under, integer_under}
use Rattle.term_model.specs.ArgumentRows.{all_in, at_end, at_front, held_under, inside_last}
use Rattle.term_model.specs.RequestHeads.{ScopedTrees, head_of}

-- m-Get

-- attributeIdList [12] of a Get: the identifiers in the order in which they came, or all attributes where it is left
-- out
abbrev pub ids_of : Option TreeValue → Option (Option (List IdRef))
ids_of None = Some None
ids_of (Some tree) = option_map Some (option_and_then (all_in (id_in 0 1)) (inside_of tree))

abbrev pub asked_ids : TreeValues → Option (Option (List IdRef))
asked_ids trees = option_and_then ids_of (at_end 12 trees)

abbrev pub get_of : Set → ScopedTrees → Option Request
get_of set trees =
    option_and_then (λ ids. option_map (λ head. requests.Get head ids) (head_of set trees)) (asked_ids trees.rest)

-- m-Set

-- modifyOperator [2], replace where it is left out
abbrev pub operator_of : Option TreeValue → Option ℤ
operator_of None = Some (pos 0)
operator_of (Some tree) = integer_under (context 2) tree

-- the value behind the attribute of a modification, where one came
abbrev pub change_with : List AttrRec → ℤ → IdRef → Option TreeValue → Change
change_with records operator id value =
    record { operator = operator; id = id; given = option_map (attribute_given records id) value }

abbrev pub change_behind : List AttrRec → ℤ → TreeValues → Option Change
change_behind records operator Nothing = None
change_behind records operator (Then id rest) =
    option_and_then (λ value. option_map (λ named. change_with records operator named value) (id_in 0 1 id))
    (at_most_one rest)

abbrev pub change_inside : List AttrRec → TreeValues → Option Change
change_inside records trees =
    let operator = at_front (is_context 2) trees in
    option_and_then (λ n. change_behind records n operator.1) (operator_of operator.0)

-- a modification
abbrev pub change_in : List AttrRec → TreeValue → Option Change
change_in records tree = option_and_then (change_inside records) (inside_under (universal 16) tree)

-- the modifications in the order in which they came
abbrev pub changes_of : List AttrRec → TreeValues → Option (List Change)
changes_of records trees = option_and_then (all_in (change_in records)) (inside_last 12 trees)

abbrev pub set_of : Set → Bool → ScopedTrees → Option Request
set_of set confirmed trees =
    option_and_then (λ changes. option_map (λ head. requests.Set head changes confirmed) (head_of set trees))
    (changes_of set.attributes trees.rest)

-- m-Action

-- the syntax of the information of the action that is named, where it is known and has one
abbrev pub action_syntax : List ActRec → IdRef → Option TypeSyntax
action_syntax records (Global id) =
    option_and_then (λ (of_action : ActRec). of_action.information)
    (find (λ (of_action : ActRec). is_same_oid of_action.id id) records)
action_syntax records (Local number) = None

-- actionInfo: the action, and its argument [4] EXPLICIT where one came
abbrev pub action_with : List ActRec → IdRef → Option TreeValue → IdRef × Option Given
action_with records id value = (id, option_map (given_of (action_syntax records id) id) value)

abbrev pub action_behind : List ActRec → TreeValue → TreeValues → Option (IdRef × Option Given)
action_behind records id rest =
    option_and_then (λ value. option_map (λ named. action_with records named value) (id_in 2 3 id))
    (option_and_then (held_under 4) (at_end 4 rest))

abbrev pub action_inside : List ActRec → TreeValues → Option (IdRef × Option Given)
action_inside records Nothing = None
action_inside records (Then id rest) = action_behind records id rest

abbrev pub action_of : Set → Bool → ScopedTrees → Option Request
action_of set confirmed trees =
    option_and_then (λ (action : IdRef × Option Given).
    option_map (λ head. requests.Act head action.0 action.1 confirmed) (head_of set trees))
    (option_and_then (action_inside set.actions) (inside_last 12 trees.rest))

-- m-Delete

abbrev pub delete_of : Set → ScopedTrees → Option Request
delete_of set trees = if no_trees trees.rest then option_map requests.Delete (head_of set trees) else None
