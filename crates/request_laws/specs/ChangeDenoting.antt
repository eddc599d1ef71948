-- Which request the argument of m-Set or m-Action denotes under a schema: X.711, section 7.4. The functions that
-- compute are set_of and action_of of RequestReading.
use Rattle.std.specs.Prelude.{◌≡◌, ℤ, pos, List, [], ◌∷◌, Bool, false, true, Option, None, Some}
use Rattle.term_values.specs.CmipTypes.{implicit, number}
use Rattle.term_values.specs.Denotes.{Denotes}
use Rattle.term_values.specs.Syntaxes.{TypeSyntax}
use Rattle.term_values.specs.Tag.{context, universal}
use Rattle.term_values.specs.Tree.{TreeValue, TreeValues}
use Rattle.term_values.specs.Tree.TreeValue.{Constructed}
use Rattle.term_values.specs.Tree.TreeValues.{Nothing, Then}
use Rattle.term_values.specs.Typed.TypedValue.{Int}
use Rattle.typed_laws.specs.TreeOctets.{HasOctets}
use Rattle.filter_laws.specs.DenotingLaws.{AreClear, IsClear}
use Rattle.term_model.specs.declared.filter_item.Given.{Given}
use Rattle.term_model.specs.declared.request.Change.{Change}
use Rattle.term_model.specs.declared.request.Head.{Head}
use Rattle.term_model.specs.declared.request.IdRef.{IdRef}
use Rattle.term_model.specs.declared.request.Request.{Request}
use Rattle.term_model.specs.declared.request.Request.TheVariants as requests
use Rattle.term_model.specs.declared.schema.AttrRec.{AttrRec}
use Rattle.term_model.specs.declared.schema.Set.{Set}
use Rattle.term_model.specs.Assertions.{IsGiven, IsIdRef, attribute_syntax}
use Rattle.term_model.specs.RequestHeads.{ScopedTrees}
use Rattle.term_model.specs.ScopedReading.{action_syntax}
use Rattle.term_model.specs.RequestReading.{request_in}
use Rattle.request_laws.specs.RequestDenoting.{IsHead, before, row}

-- modifyOperator [2], replace where it is left out
abbrev pub IsOperator : Option TreeValue → ℤ → Type 0
IsOperator None n = n ≡ pos 0
IsOperator (Some x) n = Denotes (implicit 2 number) x (Int n)

-- a value that may be left out
abbrev pub IsValue : Option TypeSyntax → IdRef → Option TreeValue → Option Given → Type 0
IsValue syntax id None given = given ≡ None
IsValue syntax id (Some x) given = (found : Given) × IsGiven syntax id x found × (given ≡ Some found)

-- a modification
abbrev pub IsChange : List AttrRec → TreeValue → Change → Type 0
IsChange records tree change =
    (operator : Option TreeValue) × (id : TreeValue) × (value : Option TreeValue)
    × (tree ≡ Constructed (universal 16) (before operator (Then id (before value Nothing))))
    × IsOperator operator change.operator × IsIdRef 0 1 id change.id
    × IsValue (attribute_syntax records change.id) change.id value change.given

-- the modifications in the order in which they came
abbrev pub AreChanges : List AttrRec → TreeValues → List Change → Type 0
AreChanges records trees [] = trees ≡ Nothing
AreChanges records trees (change ∷ changes) =
    (first : TreeValue) × (others : TreeValues) × (trees ≡ Then first others) × IsChange records first change
    × AreChanges records others changes

-- the argument of m-Set denotes the request
abbrev pub DenotesSet : Set → Bool → TreeValue → Request → Type 0
DenotesSet set confirmed tree request =
    (trees : ScopedTrees) × (inside : TreeValues) × (head : Head) × (changes : List Change)
    × (tree ≡ Constructed (universal 16) (row trees))
    × (trees.rest ≡ Then (Constructed (context 12) inside) Nothing) × IsHead set trees head
    × AreChanges set.attributes inside changes × (request ≡ requests.Set head changes confirmed)

-- the argument [4] EXPLICIT of an action, which may be left out
abbrev pub IsArgument : Option TypeSyntax → IdRef → Option TreeValue → Option Given → Type 0
IsArgument syntax id None given = given ≡ None
IsArgument syntax id (Some x) given =
    (value : TreeValue) × (found : Given) × (x ≡ Constructed (context 4) (Then value Nothing))
    × IsGiven syntax id value found × (given ≡ Some found)

-- the argument of m-Action denotes the request
abbrev pub DenotesAction : Set → Bool → TreeValue → Request → Type 0
DenotesAction set confirmed tree request =
    (trees : ScopedTrees) × (id : TreeValue) × (value : Option TreeValue) × (head : Head) × (action : IdRef)
    × (argument : Option Given) × (tree ≡ Constructed (universal 16) (row trees))
    × (trees.rest ≡ Then (Constructed (context 12) (Then id (before value Nothing))) Nothing)
    × IsHead set trees head × IsIdRef 2 3 id action
    × IsArgument (action_syntax set.actions action) action value argument
    × (request ≡ requests.Act head action argument confirmed)

-- ---- the laws

-- the request that is read of the argument of m-Set, and of m-Set-Confirmed, is one that the tree denotes
abbrev pub SetIsDenoted : Type 0
SetIsDenoted = (set : Set) (tree : TreeValue) (request : Request) → AreClear set.attributes → HasOctets tree →
    (request_in set (pos 4) tree ≡ Some request → DenotesSet set false tree request)
    × (request_in set (pos 5) tree ≡ Some request → DenotesSet set true tree request)

-- the tags of the information of each action are clear
abbrev pub ActionsAreClear : Set → Type 0
ActionsAreClear set = (id : IdRef) → IsClear (action_syntax set.actions id)

-- and that of m-Action, and of m-Action-Confirmed
abbrev pub ActionIsDenoted : Type 0
ActionIsDenoted = (set : Set) (tree : TreeValue) (request : Request) → AreClear set.attributes → ActionsAreClear set →
    HasOctets tree → (request_in set (pos 6) tree ≡ Some request → DenotesAction set false tree request)
    × (request_in set (pos 7) tree ≡ Some request → DenotesAction set true tree request)
