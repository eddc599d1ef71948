-- Which request the argument of m-Get or m-Delete denotes under a schema: X.711, section 7.4. The components denote
-- their syntaxes, and lists stand in the order in which they came. The functions that compute are get_of and delete_of
-- of RequestReading.
use Rattle.std.specs.Prelude.{◌≡◌, ℤ, pos, List, [], ◌∷◌, Option, None, Some}
use Rattle.term_values.specs.CmipTypes.{explicit, implicit, number, object_instance, scope}
use Rattle.term_values.specs.Denotes.{Denotes}
use Rattle.term_values.specs.Der.{written}
use Rattle.term_values.specs.Syntaxes.TypeSyntax.{Any}
use Rattle.term_values.specs.Tag.{context, universal}
use Rattle.term_values.specs.Tree.{TreeValue, TreeValues}
use Rattle.term_values.specs.Tree.TreeValue.{Constructed}
use Rattle.term_values.specs.Tree.TreeValues.{Nothing, Then}
use Rattle.term_values.specs.Typed.{TypedValue}
use Rattle.term_values.specs.Typed.TypedValue.{Int, Pick}
use Rattle.term_model.specs.declared.filter.Asked.{Asked}
use Rattle.term_model.specs.declared.filter.Asked.TheVariants.{Good}
use Rattle.term_model.specs.declared.request.Head.{Head}
use Rattle.term_model.specs.declared.request.IdRef.{IdRef}
use Rattle.term_model.specs.declared.request.Instance.{Instance}
use Rattle.term_model.specs.declared.request.Request.{Request}
use Rattle.term_model.specs.declared.request.Request.TheVariants as requests
use Rattle.term_model.specs.declared.schema.Set.{Set}
use Rattle.term_model.specs.declared.scope.Scope.{Scope}
use Rattle.term_model.specs.declared.scope.Scope.TheVariants as scopes
use Rattle.term_model.specs.Assertions.{IsIdRef}
use Rattle.term_model.specs.FilterDenoting.{DenotesFilter}
use Rattle.term_model.specs.FilterReading.{asked_of}
use Rattle.term_model.specs.FilterTrees.{FilterTree}
use Rattle.term_model.specs.FilterTrees.FilterTree.{And}
use Rattle.term_model.specs.FilterTrees.FilterTrees.{Nothing as no_filters}
use Rattle.term_model.specs.InstanceNames.{named_in}
use Rattle.term_model.specs.RequestHeads.{ScopedTrees}
use Rattle.term_model.specs.RequestReading.{request_in}
use Rattle.filter_laws.specs.DenotingLaws.{AreClear}
use Rattle.typed_laws.specs.TreeOctets.{HasOctets}

-- a component that may be left out, before others
abbrev pub before : Option TreeValue → TreeValues → TreeValues
before None xs = xs
before (Some x) xs = Then x xs

-- the components of an argument with a scope, in their order
abbrev pub row : ScopedTrees → TreeValues
row trees =
    Then trees.class (Then trees.base (before trees.access (before trees.sync (before trees.scope
    (before trees.filter trees.rest)))))

-- access control [5] EXPLICIT is of any type
abbrev pub IsAccess : Option TreeValue → Type 0
IsAccess None = Unit {0}
IsAccess (Some x) = (value : TypedValue) × Denotes (explicit 5 Any) x value

-- synchronization [6], bestEffort where it is left out
abbrev pub IsSync : Option TreeValue → ℤ → Type 0
IsSync None n = n ≡ pos 0
IsSync (Some x) n = Denotes (implicit 6 number) x (Int n)

-- the scope as a value of the CHOICE of its forms
abbrev pub scope_value : Scope → TypedValue
scope_value (scopes.Plain n) = Pick 0 (Int n)
scope_value (scopes.Level n) = Pick 1 (Int n)
scope_value (scopes.Upto n) = Pick 2 (Int n)

-- scope [7] EXPLICIT, baseObject where it is left out
abbrev pub IsScope : Option TreeValue → Scope → Type 0
IsScope None reach = reach ≡ scopes.Plain (pos 0)
IsScope (Some x) reach = Denotes (explicit 7 scope) x (scope_value reach)

-- the filter as it is asked, and the empty `and` where it is left out
abbrev pub IsAsked : Set → Option TreeValue → Asked → Type 0
IsAsked set None asked = asked ≡ Good (And no_filters)
IsAsked set (Some x) asked =
    (filter : FilterTree) × DenotesFilter set.attributes x filter
    × (asked ≡ asked_of set.attributes (written x) filter)

-- the instance: as an ANY is kept and given back, and what it names
abbrev pub IsInstance : Set → TreeValue → Instance → Type 0
IsInstance set x instance =
    ((value : TypedValue) × Denotes object_instance x value) × (instance.raw ≡ written x)
    × (named_in set x ≡ Some instance.named)

pub record IsHead (set : Set) (trees : ScopedTrees) (head : Head) : Type 0 where
  pub class : IsIdRef 0 1 trees.class head.class
  pub base : IsInstance set trees.base head.base
  pub access : IsAccess trees.access
  pub sync : IsSync trees.sync head.sync
  pub reach : IsScope trees.scope head.scope
  pub filter : IsAsked set trees.filter head.filter

-- trees in a row denote identifiers, in their order
abbrev pub AreIds : TreeValues → List IdRef → Type 0
AreIds trees [] = trees ≡ Nothing
AreIds trees (id ∷ ids) =
    (first : TreeValue) × (others : TreeValues) × (trees ≡ Then first others) × IsIdRef 0 1 first id
    × AreIds others ids

-- attributeIdList [12], all attributes where it is left out
abbrev pub AreAsked : Option TreeValue → Option (List IdRef) → Type 0
AreAsked None ids = ids ≡ None
AreAsked (Some x) ids =
    (inside : TreeValues) × (found : List IdRef) × (x ≡ Constructed (context 12) inside) × AreIds inside found
    × (ids ≡ Some found)

-- the argument of m-Get denotes the request
abbrev pub DenotesGet : Set → TreeValue → Request → Type 0
DenotesGet set tree request =
    (trees : ScopedTrees) × (list : Option TreeValue) × (head : Head) × (ids : Option (List IdRef))
    × (tree ≡ Constructed (universal 16) (row trees)) × (trees.rest ≡ before list Nothing) × IsHead set trees head
    × AreAsked list ids × (request ≡ requests.Get head ids)

-- and that of m-Delete
abbrev pub DenotesDelete : Set → TreeValue → Request → Type 0
DenotesDelete set tree request =
    (trees : ScopedTrees) × (head : Head) × (tree ≡ Constructed (universal 16) (row trees))
    × (trees.rest ≡ Nothing) × IsHead set trees head × (request ≡ requests.Delete head)

-- ---- the laws

-- the request that is read of the argument of m-Get is one that the tree denotes
abbrev pub GetIsDenoted : Type 0
GetIsDenoted = (set : Set) (tree : TreeValue) (request : Request) → AreClear set.attributes → HasOctets tree →
    request_in set (pos 3) tree ≡ Some request → DenotesGet set tree request

-- and that of m-Delete
abbrev pub DeleteIsDenoted : Type 0
DeleteIsDenoted = (set : Set) (tree : TreeValue) (request : Request) → AreClear set.attributes → HasOctets tree →
    request_in set (pos 9) tree ≡ Some request → DenotesDelete set tree request
