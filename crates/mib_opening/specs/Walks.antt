-- A way through objects by rising name: those behind a name, and where the names end that one begins.
use Rattle.std.specs.Prelude.{Bool, List, MatchOption, filter}
use Rattle.std.specs.Ordering.{is_lt}
use Rattle.term_model.specs.declared.name.Rdn.{Rdn}
use Rattle.term_model.specs.declared.objects.NamedObject.{NamedObject}
use Rattle.term_model.specs.Following.{entry_after}
use Rattle.term_model.specs.NameOrder.{name_cmp}
use Rattle.term_model.specs.Superiors.{BeginsWith}

-- the object stands behind the name
abbrev pub is_behind : List Rdn → NamedObject → Bool
is_behind here entry = is_lt (name_cmp here entry.name)

-- those of the objects that stand behind the name
abbrev pub behind : List Rdn → List NamedObject → List NamedObject
behind here = filter (is_behind here)

-- behind the name stands no other, or one that the base doesn't begin
abbrev pub IsEnd : List Rdn → List Rdn → List NamedObject → Type 0
IsEnd base here objects =
    MatchOption (entry_after objects here) (Unit {0}) (λ (entry : NamedObject). ¬ (BeginsWith entry.name base))
