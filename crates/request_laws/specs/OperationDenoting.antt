-- Which request the argument of an operation denotes under a schema: X.711, section 7.4. The function that
-- computes is request_in of RequestReading.
use Rattle.std.specs.Prelude.{◌≡◌, ◌⊎◌, ℤ, pos, false, true, Some}
use Rattle.term_values.specs.Tree.{TreeValue}
use Rattle.typed_laws.specs.TreeOctets.{HasOctets}
use Rattle.filter_laws.specs.DenotingLaws.{AreClear}
use Rattle.term_model.specs.declared.request.Request.{Request}
use Rattle.term_model.specs.declared.schema.Set.{Set}
use Rattle.term_model.specs.RequestReading.{request_in}
use Rattle.request_laws.specs.ChangeDenoting.{ActionsAreClear, DenotesAction, DenotesSet}
use Rattle.request_laws.specs.CreateDenoting.{DenotesCreate}
use Rattle.request_laws.specs.ObjectDenoting.{DenotesReport, NotificationsAreClear}
use Rattle.request_laws.specs.RequestDenoting.{DenotesDelete, DenotesGet}

-- the tree denotes the request as the argument of the operation: m-EventReport 0 and confirmed 1, m-Get 3, m-Set 4 and
-- confirmed 5, m-Action 6 and confirmed 7, m-Create 8, m-Delete 9
abbrev pub IsRequest : Set → ℤ → TreeValue → Request → Type 0
IsRequest set op tree request =
    ((op ≡ pos 0) × DenotesReport set false tree request) ⊎ (((op ≡ pos 1) × DenotesReport set true tree request)
    ⊎ (((op ≡ pos 3) × DenotesGet set tree request) ⊎ (((op ≡ pos 4) × DenotesSet set false tree request)
    ⊎ (((op ≡ pos 5) × DenotesSet set true tree request) ⊎ (((op ≡ pos 6) × DenotesAction set false tree request)
    ⊎ (((op ≡ pos 7) × DenotesAction set true tree request) ⊎ (((op ≡ pos 8) × DenotesCreate set tree request)
    ⊎ ((op ≡ pos 9) × DenotesDelete set tree request))))))))

-- the request that is read of the argument of an operation is one that the tree denotes
abbrev pub OperationIsDenoted : Type 0
OperationIsDenoted = (set : Set) (op : ℤ) (tree : TreeValue) (request : Request) → AreClear set.attributes →
    ActionsAreClear set → NotificationsAreClear set → HasOctets tree → request_in set op tree ≡ Some request →
    IsRequest set op tree request
