-- Looking for names among named objects.
use Rattle.std.proofs.Common.{◌≡◌, Bool, true, false, List, [], ◌∷◌, Option, None, Some, is_some, refl, sym, ap, ◌∙◌}
use Rattle.std.proofs.Common.{subst}
use Rattle.std.specs.Prelude.{MatchOption, find}
use Rattle.std.specs.Option.{option_map}
use Rattle.term_model.specs.declared.name.Rdn.{Rdn}
use Rattle.term_model.specs.declared.object.Object.{Object}
use Rattle.term_model.specs.declared.objects.NamedObject.{NamedObject}
use Rattle.term_model.specs.Comparing.{is_same_name}
use Rattle.term_model.specs.NamedObjects.{names, object_at}
use Rattle.term_model.specs.Scope.{level_below}
use Rattle.scope_select.specs.Ranges.{IsLast, follows, next_name}
use Rattle.scope_select.proofs.BaseLaws.{is_there}

abbrev behind_entry : List Rdn → NamedObject → Bool
behind_entry here entry = follows here entry.name

entry_name : NamedObject → List Rdn
entry_name entry = entry.name

pub next_entry : (here : List Rdn) (entries : List NamedObject)
    → next_name here (names entries) ≡ option_map (λ (entry : NamedObject). entry.name)
    (find (λ (entry : NamedObject). follows here entry.name) entries)
next_entry here [] = refl
next_entry here (entry ∷ entries) = by (next_entry here entries) (follows here entry.name) refl
  where
    by : next_name here (names entries) ≡ option_map (λ (e : NamedObject). e.name)
        (find (λ (e : NamedObject). follows here e.name) entries)
        → (b : Bool) → follows here entry.name ≡ b
        → next_name here (names (entry ∷ entries)) ≡ option_map (λ (e : NamedObject). e.name)
        (find (λ (e : NamedObject). follows here e.name) (entry ∷ entries))
    by again true e = rw e refl
    by again false e = rw e again

pub entry_there : (base : List Rdn) (entries : List NamedObject)
    → is_some (object_at entries base) ≡ is_there base (names entries)
entry_there base [] = refl
entry_there base (entry ∷ entries) = by (entry_there base entries) (is_same_name entry.name base) refl
  where
    by : is_some (object_at entries base) ≡ is_there base (names entries)
        → (b : Bool) → is_same_name entry.name base ≡ b
        → is_some (object_at (entry ∷ entries) base) ≡ is_there base (names (entry ∷ entries))
    by again true e = rw e refl
    by again false e = rw e again

pub last_by_none : (base here : List Rdn) (entries : List NamedObject)
    → find (λ (entry : NamedObject). follows here entry.name) entries ≡ None → IsLast base here (names entries)
last_by_none base here entries e =
    subst (λ (o : Option (List Rdn)). MatchOption o (Unit {0}) (λ next. level_below base next ≡ None))
    (sym (next_entry here entries ∙ ap (option_map (λ (entry : NamedObject). entry.name)) e)) tt

pub next_is_name : (here : List Rdn) (entries : List NamedObject) (next : List Rdn) (object : Object)
    → find (λ (entry : NamedObject). follows here entry.name) entries ≡ Some (record { name = next; object = object })
    → next_name here (names entries) ≡ Some next
next_is_name here entries next object e =
    next_entry here entries ∙ ap (option_map (λ (entry : NamedObject). entry.name)) e

pub last_outside : (base here : List Rdn) (entries : List NamedObject) (next : List Rdn) (object : Object)
    → find (λ (entry : NamedObject). follows here entry.name) entries ≡ Some (record { name = next; object = object })
    → level_below base next ≡ None → IsLast base here (names entries)
last_outside base here entries next object e outside =
    subst (λ (o : Option (List Rdn)). MatchOption o (Unit {0}) (λ next. level_below base next ≡ None))
    (sym (next_is_name here entries next object e)) outside
