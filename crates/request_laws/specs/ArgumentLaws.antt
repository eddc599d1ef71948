-- What holds between the requests that are read of arguments and the values that arguments denote: X.711, section 7.
-- The PDU syntaxes are in PduSyntaxes of term_values, the reading in RequestReading of term_model.
use Rattle.std.specs.Ordering.{int_eq}
use Rattle.std.specs.Prelude.{◌≡◌, ◌↔◌, ℤ, pos, Option, None, Some, if◌then◌else◌}
use Rattle.term_values.specs.Denotes.{Denotes}
use Rattle.term_values.specs.PduSyntaxes.{action_argument, cancel_argument, create_argument, delete_argument}
use Rattle.term_values.specs.PduSyntaxes.{get_argument, report_argument, set_argument}
use Rattle.term_values.specs.Syntaxes.{TypeSyntax}
use Rattle.term_values.specs.Tree.{TreeValue}
use Rattle.term_values.specs.Typed.{TypedValue}
use Rattle.term_values.specs.Typed.TypedValue.{Int}
use Rattle.term_model.specs.declared.request.Request.{Request}
use Rattle.term_model.specs.declared.schema.Set.{Set}
use Rattle.term_model.specs.RequestReading.{cancelled_in, request_in}
use Rattle.typed_laws.specs.TreeOctets.{HasOctets}

-- the syntax of the argument of an operation, where it is one that gives a request: m-EventReport 0 and 1, m-Get 3,
-- m-Set 4 and 5, m-Action 6 and 7, m-Create 8, m-Delete 9
abbrev pub argument_of : ℤ → Option TypeSyntax
argument_of op =
    if int_eq op (pos 0) then Some report_argument
    else (if int_eq op (pos 1) then Some report_argument
    else (if int_eq op (pos 8) then Some create_argument
    else (if int_eq op (pos 3) then Some get_argument
    else (if int_eq op (pos 4) then Some set_argument
    else (if int_eq op (pos 5) then Some set_argument
    else (if int_eq op (pos 6) then Some action_argument
    else (if int_eq op (pos 7) then Some action_argument
    else (if int_eq op (pos 9) then Some delete_argument else None))))))))

-- the tree denotes the value of a syntax that there is
abbrev pub DenotesIn : Option TypeSyntax → TreeValue → TypedValue → Type 0
DenotesIn None tree value = ⊥
DenotesIn (Some syntax) tree value = Denotes syntax tree value

-- the tree denotes the value as the argument of the operation
abbrev pub DenotesArgument : ℤ → TreeValue → TypedValue → Type 0
DenotesArgument op tree value = DenotesIn (argument_of op) tree value

-- no request is read exactly where the tree denotes no value of the argument
abbrev pub NoRequestIsDenoted : Type 0
NoRequestIsDenoted = (set : Set) (op : ℤ) (tree : TreeValue) → HasOctets tree →
    (request_in set op tree ≡ None) ↔ ((value : TypedValue) → ¬ (DenotesArgument op tree value))

-- where a request is read, the tree denotes a value of the argument
abbrev pub RequestIsDenoted : Type 0
RequestIsDenoted = (set : Set) (op : ℤ) (tree : TreeValue) (request : Request) → HasOctets tree →
    request_in set op tree ≡ Some request → (value : TypedValue) × DenotesArgument op tree value

-- the invoke id that is read is the one that the tree denotes
abbrev pub CancelIsDenoted : Type 0
CancelIsDenoted = (tree : TreeValue) (id : ℤ) → HasOctets tree →
    (cancelled_in tree ≡ Some id) ↔ Denotes cancel_argument tree (Int id)

-- and none is read exactly where none is denoted
abbrev pub NoCancelIsDenoted : Type 0
NoCancelIsDenoted = (tree : TreeValue) → HasOctets tree →
    (cancelled_in tree ≡ None) ↔ ((value : TypedValue) → ¬ (Denotes cancel_argument tree value))
