-- Which tree is which APDU of remote operations: X.229, section 9; docs/PROFILE.md, section 4. The syntaxes are in
-- PduSyntaxes. The function that reads is in ApduReading, what is written in ApduWriting.
use Rattle.std.specs.Prelude.{◌≡◌, ℤ, Option, None, Some}
use Rattle.term_values.specs.Denotes.{Denotes}
use Rattle.term_values.specs.Der.{written}
use Rattle.term_values.specs.PduSyntaxes.{invoke, return_result, return_error, reject}
use Rattle.term_values.specs.Syntaxes.{TypeSyntax}
use Rattle.term_values.specs.Tree.{TreeValue, TreeValues}
use Rattle.term_values.specs.Tree.TreeValue.{Primitive, Constructed}
use Rattle.term_values.specs.Tree.TreeValues.{Nothing, Then}
use Rattle.term_values.specs.Typed.{TypedValue, TypedSlots}
use Rattle.term_values.specs.Typed.TypedValue.{Int, Null, Parts, Pick, Raw}
use Rattle.term_values.specs.Typed.TypedSlots.{NoSlots, Filled, Empty}
use Rattle.term_model.specs.declared.apdu.Apdu.{Apdu}
use Rattle.term_model.specs.declared.apdu.Apdu.TheVariants as apdus

-- a component that is a number or is left out
abbrev pub number_slot : Option ℤ → TypedSlots → TypedSlots
number_slot None rest = Empty rest
number_slot (Some n) rest = Filled (Int n) rest

-- a component of any type, which is kept as it is written, or is left out
abbrev pub any_slot : Option TreeValue → TypedSlots → TypedSlots
any_slot None rest = Empty rest
any_slot (Some tree) rest = Filled (Raw (written tree)) rest

-- the components of a result, where they are there
abbrev pub result_slots : Option ℤ → Option TreeValue → TypedSlots
result_slots (Some op) (Some value) =
    Filled (Parts (Filled (Int op) (Filled (Raw (written value)) NoSlots))) NoSlots
result_slots (Some op) None = Filled (Parts (Filled (Int op) (Empty NoSlots))) NoSlots
result_slots None (Some value) = Filled (Parts (Empty (Filled (Raw (written value)) NoSlots))) NoSlots
result_slots None None = Empty NoSlots

-- the invoke id of what is rejected, or none
abbrev pub rejected : Option ℤ → TypedValue
rejected (Some id) = Pick 0 (Int id)
rejected None = Pick 1 Null

-- the value whose components are the fields of the APDU
abbrev pub apdu_value : Apdu → TypedValue
apdu_value (apdus.Invoke id linked op argument) =
    Parts (Filled (Int id) (number_slot linked (Filled (Int op) (any_slot argument NoSlots))))
apdu_value (apdus.Result id op value) = Parts (Filled (Int id) (result_slots op value))
apdu_value (apdus.Error id error parameter) =
    Parts (Filled (Int id) (Filled (Int error) (any_slot parameter NoSlots)))
apdu_value (apdus.Reject id class problem) =
    Parts (Filled (rejected id) (Filled (Pick class (Int problem)) NoSlots))

abbrev pub apdu_syntax : Apdu → TypeSyntax
apdu_syntax (apdus.Invoke id linked op argument) = invoke
apdu_syntax (apdus.Result id op value) = return_result
apdu_syntax (apdus.Error id error parameter) = return_error
apdu_syntax (apdus.Reject id class problem) = reject

-- what stands last in a tree, and what stands last in that
abbrev pub last_of : TreeValues → Option TreeValue
last_of Nothing = None
last_of (Then x Nothing) = Some x
last_of (Then x (Then y ys)) = last_of (Then y ys)

abbrev pub IsLast : TreeValue → TreeValue → Type 0
IsLast x (Primitive tag contents) = ⊥
IsLast x (Constructed tag inside) = last_of inside ≡ Some x

abbrev pub IsLastOfLast : TreeValue → TreeValue → Type 0
IsLastOfLast x tree = (body : TreeValue) × IsLast body tree × IsLast x body

-- what is of any type is the tree itself
abbrev pub AnyIsLast : Option TreeValue → TreeValue → Type 0
AnyIsLast None tree = Unit {0}
AnyIsLast (Some x) tree = IsLast x tree

abbrev pub HasAny : Apdu → TreeValue → Type 0
HasAny (apdus.Invoke id linked op argument) tree = AnyIsLast argument tree
HasAny (apdus.Result id op None) tree = Unit {0}
HasAny (apdus.Result id op (Some value)) tree = IsLastOfLast value tree
HasAny (apdus.Error id error parameter) tree = AnyIsLast parameter tree
HasAny (apdus.Reject id class problem) tree = Unit {0}

-- the tree is this APDU
pub record IsApdu (tree : TreeValue) (apdu : Apdu) : Type 0 where
  pub denotes : Denotes (apdu_syntax apdu) tree (apdu_value apdu)
  pub any : HasAny apdu tree
