-- With what the arguments of m-Get, m-Set, m-Action and m-Delete begin, and what their components give: X.711, section
-- 7.4. Access control is of any type, and has no part in the request.
use Rattle.std.specs.Prelude.{ℕ, ℤ, pos, List, [], ◌∷◌, Bool, true, false, Option, None, Some, option_and_then, is_some}
use Rattle.std.specs.Prelude.{if◌then◌else◌}
use Rattle.std.specs.Option.{option_map}
use Rattle.term_values.specs.FilterTrees.{is_context}
use Rattle.term_values.specs.Octets.{integer_in}
use Rattle.term_values.specs.Tag.{context, is_same_tag, universal}
use Rattle.term_values.specs.Tree.{TreeValue, TreeValues}
use Rattle.term_values.specs.Tree.TreeValue.{Primitive, Constructed}
use Rattle.term_values.specs.Tree.TreeValues.{Nothing, Then}
use Rattle.term_model.specs.declared.filter.Asked.{Asked}
use Rattle.term_model.specs.declared.filter.Asked.TheVariants.{Good}
use Rattle.term_model.specs.declared.request.Head.{Head}
use Rattle.term_model.specs.declared.request.IdRef.{IdRef}
use Rattle.term_model.specs.declared.request.Instance.{Instance}
use Rattle.term_model.specs.declared.schema.Set.{Set}
use Rattle.term_model.specs.declared.scope.Scope.{Scope}
use Rattle.term_model.specs.declared.scope.Scope.TheVariants as scopes
use Rattle.term_model.specs.Assertions.{id_in}
use Rattle.term_model.specs.FilterTrees.FilterTree.{And}
use Rattle.term_model.specs.FilterTrees.FilterTrees.{Nothing as no_filters}
use Rattle.term_model.specs.Parts.{integer_under, one_under}
use Rattle.term_model.specs.ArgumentRows.{at_front, begins_filter, held_under}
use Rattle.term_model.specs.FilterReading.{asked_in}
use Rattle.term_model.specs.InstanceNames.{instance_in}

-- the trees that stand for the components of such an argument, and those that follow
pub record ScopedTrees : Type 0 where
  pub class : TreeValue
  pub base : TreeValue
  pub access : Option TreeValue
  pub sync : Option TreeValue
  pub scope : Option TreeValue
  pub filter : Option TreeValue
  pub rest : TreeValues

abbrev pub options_behind : TreeValue → TreeValue → TreeValues → ScopedTrees
options_behind class base trees =
    let access = at_front (is_context 5) trees in
    let sync = at_front (is_context 6) access.1 in
    let scope = at_front (is_context 7) sync.1 in
    let filter = at_front begins_filter scope.1 in
    record {
      class = class;
      base = base;
      access = access.0;
      sync = sync.0;
      scope = scope.0;
      filter = filter.0;
      rest = filter.1;
    }

abbrev pub scoped_in : TreeValues → Option ScopedTrees
scoped_in Nothing = None
scoped_in (Then class Nothing) = None
scoped_in (Then class (Then base trees)) = Some (options_behind class base trees)

-- synchronization [6], bestEffort where it is left out
abbrev pub sync_of : Option TreeValue → Option ℤ
sync_of None = Some (pos 0)
sync_of (Some tree) = integer_under (context 6) tree

-- INTEGER, or individualLevels [1] or baseToNthLevel [2]
abbrev pub scope_in : TreeValue → Option Scope
scope_in (Primitive tag contents) =
    if is_same_tag (universal 2) tag then option_map scopes.Plain (integer_in contents)
    else (if is_context 1 tag then option_map scopes.Level (integer_in contents)
    else (if is_context 2 tag then option_map scopes.Upto (integer_in contents) else None))
scope_in (Constructed tag inside) = None

-- scope [7] EXPLICIT, baseObject where it is left out
abbrev pub scope_of : Option TreeValue → Option Scope
scope_of None = Some (scopes.Plain (pos 0))
scope_of (Some tree) = option_and_then scope_in (one_under (context 7) tree)

-- access control [5] EXPLICIT is left out, or holds one value
abbrev pub is_controlled : Option TreeValue → Bool
is_controlled tree = is_some (held_under 5 tree)

-- the filter, and the empty `and` where it is left out
abbrev pub filter_of : Set → Option TreeValue → Option Asked
filter_of set None = Some (Good (And no_filters))
filter_of set (Some tree) = asked_in set.attributes tree

-- synchronization and scope, where access control is well-formed
abbrev pub options_of : Option TreeValue → Option TreeValue → Option TreeValue → Option (ℤ × Scope)
options_of access sync scope =
    if is_controlled access
    then option_and_then (λ n. option_map (λ reach. (n, reach)) (scope_of scope)) (sync_of sync)
    else None

-- class and base object
abbrev pub object_of : Set → TreeValue → TreeValue → Option (IdRef × Instance)
object_of set class base =
    option_and_then (λ id. option_map (λ instance. (id, instance)) (instance_in set base)) (id_in 0 1 class)

abbrev pub head_with : Set → TreeValue → TreeValue → Option TreeValue → ℤ × Scope → Option Head
head_with set class base filter options =
    option_and_then (λ (object : IdRef × Instance). option_map (λ asked.
    record { class = object.0; base = object.1; sync = options.0; scope = options.1; filter = asked })
    (filter_of set filter)) (object_of set class base)

abbrev pub head_of : Set → ScopedTrees → Option Head
head_of set trees =
    option_and_then (head_with set trees.class trees.base trees.filter)
    (options_of trees.access trees.sync trees.scope)
