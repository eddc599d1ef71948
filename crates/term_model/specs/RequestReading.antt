-- The request that the argument of an operation gives under a schema, by the number of the operation: X.711, section 7;
-- docs/PROFILE.md, section 14. The relation is in RequestDenoting of request_laws.
use Rattle.std.specs.Prelude.{ℤ, pos, true, false, Option, None, option_and_then}
use Rattle.std.specs.Prelude.{if◌then◌else◌}
use Rattle.std.specs.Ordering.{int_eq}
use Rattle.term_values.specs.Tag.{universal}
use Rattle.term_values.specs.Tree.{TreeValue, TreeValues}
use Rattle.term_model.specs.declared.request.Request.{Request}
use Rattle.term_model.specs.declared.schema.Set.{Set}
use Rattle.term_model.specs.Parts.{inside_under, integer_under}
use Rattle.term_model.specs.RequestHeads.{ScopedTrees, scoped_in}
use Rattle.term_model.specs.ScopedReading.{action_of, delete_of, get_of, set_of}
use Rattle.term_model.specs.CreateReading.{create_in}
use Rattle.term_model.specs.ReportReading.{report_in}

-- m-Get 3, m-Set 4, m-Set-Confirmed 5, m-Action 6, m-Action-Confirmed 7, m-Delete 9
abbrev pub scoped_of : Set → ℤ → ScopedTrees → Option Request
scoped_of set op trees =
    if int_eq op (pos 3) then get_of set trees
    else (if int_eq op (pos 4) then set_of set false trees
    else (if int_eq op (pos 5) then set_of set true trees
    else (if int_eq op (pos 6) then action_of set false trees
    else (if int_eq op (pos 7) then action_of set true trees
    else (if int_eq op (pos 9) then delete_of set trees else None)))))

-- m-EventReport 0, m-EventReport-Confirmed 1, m-Create 8, and those with a scope
abbrev pub request_inside : Set → ℤ → TreeValues → Option Request
request_inside set op inside =
    if int_eq op (pos 0) then report_in set false inside
    else (if int_eq op (pos 1) then report_in set true inside
    else (if int_eq op (pos 8) then create_in set inside
    else option_and_then (scoped_of set op) (scoped_in inside)))

-- the request that the argument of the operation gives
abbrev pub request_in : Set → ℤ → TreeValue → Option Request
request_in set op tree = option_and_then (request_inside set op) (inside_under (universal 16) tree)

-- the invoke id that the argument of m-Cancel-Get gives
abbrev pub cancelled_in : TreeValue → Option ℤ
cancelled_in tree = integer_under (universal 2) tree
