-- What the calls of this crate tell, and what they ask: X.711, section 7.5; docs/PROFILE.md, section 17.
use Rattle.std.specs.Prelude.{◌≡◌, List, Option, None, Some, Result, Ok, Err}
use Rattle.std.specs.Borrow.{Bor}
use Rattle.std.specs.declared.alloc.Global.{Global}
use Rattle.std.specs.declared.vec.Vec.{Vec}
use Rattle.term_model.specs.declared.effect.OneRefusal.{OneRefusal}
use Rattle.term_model.specs.declared.effect.OneRefusal.TheVariants.{Cmis, Memory}
use Rattle.term_model.specs.declared.name.Rdn.{Rdn}
use Rattle.term_model.specs.declared.objects.NamedObject.{NamedObject}
use Rattle.term_model.specs.declared.reply.CmisError.{CmisError}
use Rattle.term_model.specs.declared.request.Head.{Head}
use Rattle.term_model.specs.NamedObjects.{IsByName, names}
use Rattle.scope_select.specs.Subtrees.{referred}
use Rattle.op_engine.specs.declared.outcome.Plan.{Plan}
use Rattle.operation_model.specs.OperationChecks.{Checked, absent_fault, base_name}
use Rattle.operation_model.specs.WholeOperation.{AreChanges, Outcome}

-- one check: nothing is wrong, or its error; of want of memory nothing is said
abbrev pub TellsFault : Option CmisError → Result (Unit {0}) OneRefusal → Type 0
TellsFault fault (Ok unit) = fault ≡ None
TellsFault fault (Err (Cmis error)) = fault ≡ Some error
TellsFault fault (Err Memory) = Unit {0}

-- the base object is there under this name, in a map by rising names
abbrev pub IsBase : List NamedObject → Head → List Rdn → Type 0
IsBase objects head base =
    (absent_fault objects head ≡ None) × (base_name head.base.named ≡ base) × IsByName objects

-- or it isn't there
abbrev pub TellsAbsent : List NamedObject → Head → OneRefusal → Type 0
TellsAbsent objects head (Cmis error) = absent_fault objects head ≡ Some error
TellsAbsent objects head Memory = Unit {0}

-- all checks: the objects that are selected, or the error of the first that fails
abbrev pub TellsChecked : Checked → Result (Vec (Bor NamedObject) Global) OneRefusal → Type 0
TellsChecked told (Ok entries) = told ≡ Ok (names (referred entries.items))
TellsChecked told (Err (Cmis error)) = told ≡ Err error
TellsChecked told (Err Memory) = Unit {0}

-- the plan tells the outcome: its replies, its changes of the map, and what may give notifications
pub record IsPlan (before : List NamedObject) (told : Outcome) (plan : Plan) : Type 0 where
  pub replies : plan.replies ≡ told.replies
  pub sources : plan.sources ≡ told.sources
  pub changes : AreChanges before told.objects plan.changes
