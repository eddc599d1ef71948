-- Paths and read sets on a small map, computed: the root, an element 5 below it, 6 below that one, and 50 beside 5.
use Rattle.std.specs.Prelude.{◌≡◌, ℕ, pos, List, [], ◌∷◌, true, false, None, Some, refl}
use Rattle.term_model.specs.declared.filter.Asked.TheVariants as filters
use Rattle.term_model.specs.declared.name.Rdn.{Rdn}
use Rattle.term_model.specs.declared.objects.NamedObject.{NamedObject}
use Rattle.term_model.specs.declared.request.Head.{Head}
use Rattle.term_model.specs.declared.request.IdRef.TheVariants as ids
use Rattle.term_model.specs.declared.request.Instance.{Instance}
use Rattle.term_model.specs.declared.request.Named.{Named}
use Rattle.term_model.specs.declared.request.Named.TheVariants as named
use Rattle.term_model.specs.declared.request.Place.TheVariants as place
use Rattle.term_model.specs.declared.request.Request.TheVariants as request
use Rattle.term_model.specs.declared.scope.Scope.{Scope}
use Rattle.term_model.specs.declared.scope.Scope.TheVariants as scopes
use Rattle.term_model.specs.Comparing.{is_same_name}
use Rattle.term_model.proofs.ExampleNetwork.{element, element_oid, id_oid, network}
use Rattle.lock_model.specs.LockPath.{own, tree, way_to}
use Rattle.lock_model.specs.Units.{ended_at, taken_by, walk}
use Rattle.lock_model.specs.ReadSet.{read_set}
use Rattle.lock_model.specs.Holdings.{Holding, barring, may_go}
use Rattle.lock_model.specs.declared.lock_name.Part.TheVariants as extents
use Rattle.lock_model.specs.declared.lock_name.Mode.TheVariants as modes

abbrev part : ℕ → Rdn
part n = record { attribute = id_oid; value = 2 ∷ 1 ∷ n ∷ [] }

abbrev five : List Rdn
five = part 5 ∷ []

abbrev five_six : List Rdn
five_six = part 5 ∷ part 6 ∷ []

abbrev system : List NamedObject
system =
    record { name = []; object = element } ∷ record { name = five; object = element }
    ∷ record { name = five_six; object = element } ∷ record { name = part 50 ∷ []; object = element } ∷ []

abbrev instance_of : Named → Instance
instance_of n = record { raw = []; named = n }

abbrev head_of : Named → Scope → Head
head_of n scope = record {
  class = ids.Global element_oid;
  base = instance_of n;
  sync = pos 0;
  scope = scope;
  filter = filters.Bad [];
}

-- a Set of 5 and a Delete of 5
set_of_five : way_to (taken_by network system (request.Set (head_of (named.Object five) (scopes.Plain
    (pos 0))) [] true))
    ≡ (tree [], modes.IX) ∷ (tree five, modes.IX) ∷ (own five, modes.X) ∷ []
set_of_five = refl

delete_of_five : way_to (taken_by network system (request.Delete (head_of (named.Object five) (scopes.Plain (pos 0)))))
    ≡ (tree [], modes.IX) ∷ (tree five, modes.X) ∷ []
delete_of_five = refl

subtree_of_root : way_to (taken_by network system (request.Set (head_of (named.Object []) (scopes.Plain
    (pos 2))) [] true))
    ≡ (tree [], modes.X) ∷ []
subtree_of_root = refl

get_of_nothing : way_to (taken_by network system (request.Get (head_of named.Nothing (scopes.Plain (pos 2))) None))
    ≡ (tree [], modes.IS) ∷ (own [], modes.S) ∷ []
get_of_nothing = refl

-- a creation of 6 below 5 like 50: they begin with the root's name alone
like_another : way_to (taken_by network system (request.Create (ids.Global element_oid)
    (place.At (instance_of (named.Object five_six))) (Some (instance_of (named.Object (part 50 ∷ [])))) []))
    ≡ (tree [], modes.X) ∷ []
like_another = refl

created : way_to (taken_by network system (request.Create (ids.Global element_oid)
    (place.At (instance_of (named.Object five_six))) None []))
    ≡ (tree [], modes.IX) ∷ (tree five, modes.IX) ∷ (tree five_six, modes.X) ∷ []
created = refl

-- where 5 is a log the way ends there, with the full mode
ends_at_log : way_to (record { unit = ended_at (is_same_name five) (own five_six); writing = false })
    ≡ (tree [], modes.IS) ∷ (tree five, modes.S) ∷ []
ends_at_log = refl

walks_to_log : walk (is_same_name five) [] five_six extents.Own false ≡ (tree [], modes.IS) ∷ (tree five, modes.S) ∷ []
walks_to_log = refl

log_itself : way_to (record { unit = ended_at (is_same_name five) (own five); writing = true })
    ≡ (tree [], modes.IX) ∷ (tree five, modes.X) ∷ []
log_itself = refl

-- the read_set of 6 alone, and of all below 5
read_set_of_six : read_set network (own five_six) system
    ≡ record {
      above = Some element.class ∷ Some element.class ∷ [];
      rules = [];
      held = record { name = five_six; object = element } ∷ [];
    }
read_set_of_six = refl

read_set_of_five : (read_set network (tree five) system).held
    ≡ record { name = five; object = element } ∷ record { name = five_six; object = element } ∷ []
read_set_of_five = refl

-- the row of the table: 1 holds its whole path, 2 the root's Tree, 3 nothing
abbrev one : Holding
one = record { op = 1; path = way_to (record { unit = own five; writing = true }); held = 3 }

abbrev two : Holding
two = record { op = 2; path = way_to (record { unit = tree five; writing = true }); held = 1 }

abbrev three : Holding
three = record { op = 3; path = way_to (record { unit = tree []; writing = true }); held = 0 }

two_is_barred : barring (one ∷ two ∷ three ∷ []) 2 (tree five, modes.X) ≡ Some one
two_is_barred = refl

three_is_barred : barring (one ∷ two ∷ three ∷ []) 3 (tree [], modes.X) ≡ Some one
three_is_barred = refl

two_may_go : may_go (two ∷ three ∷ []) two ≡ true
two_may_go = refl
