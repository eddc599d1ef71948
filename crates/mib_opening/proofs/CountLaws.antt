-- The sums over the records of a log, as far as its way has come.
use Rattle.std.proofs.Common.{◌≡◌, List, [], ◌∷◌, ◌++◌, sym, ap, ◌∙◌, arith, subst}
use Rattle.std.proofs.lemmas.List.{append-nil, append_assoc}
use Rattle.std.specs.Prelude.{Some}
use Rattle.term_model.specs.declared.name.Rdn.{Rdn}
use Rattle.term_model.specs.declared.objects.NamedObject.{NamedObject}
use Rattle.term_model.specs.declared.schema.Set.{Set}
use Rattle.term_model.specs.Following.{entry_after}
use Rattle.term_model.specs.LogRecords.{records_of}
use Rattle.term_model.specs.NamedObjects.{IsByName}
use Rattle.mib_opening.specs.declared.log_records.RecordSums.{RecordSums}
use Rattle.mib_opening.specs.Counting.{AreSums}
use Rattle.mib_opening.specs.Walks.{IsEnd, behind}
use Rattle.mib_opening.proofs.RecordLaws.{IsFrom, all_behind_log, none_left, records_next}

-- ---- the way

-- the sums are those of the records found, and the others stand behind this name
pub record IsOnWay (schema : Set) (log : List Rdn) (objects : List NamedObject) (here : List Rdn) (sums : RecordSums)
    : Type 0 where
  pub found : List NamedObject
  pub are : AreSums schema found sums
  pub all : records_of schema log objects ≡ found ++ records_of schema log (behind here objects)
  pub from : IsFrom log here

pub begins : (schema : Set) (log : List Rdn) (objects : List NamedObject) (sums : RecordSums) → sums.records ≡ 0
    → sums.octets ≡ 0 → IsFrom log log → IsOnWay schema log objects log sums
begins schema log objects sums none nothing from = record {
  found = [];
  are = (omega (arith, none), omega (arith, nothing));
  all = all_behind_log schema log objects;
  from = from;
}

pub goes_on : (schema : Set) (log : List Rdn) (objects : List NamedObject) (here : List Rdn) (next : NamedObject)
    (old new : RecordSums) → IsByName objects → entry_after objects here ≡ Some next → IsFrom log next.name
    → ((found : List NamedObject) → AreSums schema found old
    → AreSums schema (found ++ records_of schema log (next ∷ [])) new)
    → IsOnWay schema log objects here old → IsOnWay schema log objects next.name new
goes_on schema log objects here next old new sorted e from added on = record {
  found = on.found ++ records_of schema log (next ∷ []);
  are = added on.found on.are;
  all = on.all ∙ ap (λ os. on.found ++ os) (records_next schema log here next objects sorted e)
      ∙ sym (append_assoc on.found (records_of schema log (next ∷ []))
      (records_of schema log (behind next.name objects)));
  from = from;
}

pub ends : (schema : Set) (log : List Rdn) (objects : List NamedObject) (here : List Rdn) (sums : RecordSums)
    → IsByName objects → IsEnd log here objects → IsOnWay schema log objects here sums
    → AreSums schema (records_of schema log objects) sums
ends schema log objects here sums sorted last on =
    subst (λ (os : List NamedObject). AreSums schema os sums)
    (sym (on.all ∙ ap (λ os. on.found ++ os) (none_left schema log here objects sorted on.from last)
    ∙ append-nil on.found)) on.are
