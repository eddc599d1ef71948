-- Examples of arguments and of the requests that they give, computed: X.711, section 7.4; docs/PROFILE.md.
use Rattle.std.specs.Prelude.{◌≡◌, ℕ, pos, true, [], ◌∷◌, None, Some, refl}
use Rattle.term_values.specs.Der.{identifier_octets, length_octets}
use Rattle.term_values.specs.Octets.{integer_in}
use Rattle.term_values.specs.Tag.{context, universal}
use Rattle.term_values.specs.Tree.{TreeValue, TreeValues}
use Rattle.term_values.specs.Tree.TreeValue.{Constructed, Primitive}
use Rattle.term_values.specs.Tree.TreeValues.{Nothing, Then}
use Rattle.term_model.specs.declared.filter.Asked.TheVariants.{Good}
use Rattle.term_model.specs.declared.request.Head.{Head}
use Rattle.term_model.specs.declared.request.IdRef.TheVariants.{Local}
use Rattle.term_model.specs.declared.request.Instance.{Instance}
use Rattle.term_model.specs.declared.request.Named.TheVariants as named
use Rattle.term_model.specs.declared.request.Request.TheVariants as requests
use Rattle.term_model.specs.declared.scope.Scope.TheVariants as scopes
use Rattle.term_model.specs.FilterTrees.FilterTree.{And}
use Rattle.term_model.specs.FilterTrees.FilterTrees.{Nothing as no_filters}
use Rattle.term_model.proofs.ExampleNetwork.{network}
use Rattle.term_model.specs.RequestReading.{cancelled_in, request_in}

-- the class [1] 5, and the root's empty localDistinguishedName [4]
abbrev class : TreeValue
class = Primitive (context 1) (5 ∷ [])

abbrev root : TreeValue
root = Constructed (context 4) Nothing

abbrev argument : TreeValues → TreeValue
argument rest = Constructed (universal 16) (Then class (Then root rest))

abbrev root_instance : Instance
root_instance = record { raw = 0xA4 ∷ 0x00 ∷ []; named = named.Object [] }

-- best effort, baseObject and the empty `and` are the defaults
abbrev head : Head
head = record {
  class = Local (pos 5);
  base = root_instance;
  sync = pos 0;
  scope = scopes.Plain (pos 0);
  filter = Good (And no_filters);
}

get_example : request_in network (pos 3) (argument Nothing) ≡ Some (requests.Get head None)
unfolding integer_in identifier_octets length_octets
get_example = refl

-- synchronization [6] 1, scope [7] { [1] 2 }
abbrev reaching : TreeValues
reaching =
    Then (Primitive (context 6) (1 ∷ []))
    (Then (Constructed (context 7) (Then (Primitive (context 1) (2 ∷ [])) Nothing)) Nothing)

delete_example : request_in network (pos 9) (argument reaching)
    ≡ Some (requests.Delete (record head { sync = pos 1; scope = scopes.Level (pos 2) }))
unfolding integer_in identifier_octets length_octets
delete_example = refl

-- a Set lacks its modifications, and no request is that of the operation 10
no_changes : request_in network (pos 4) (argument Nothing) ≡ None
unfolding integer_in identifier_octets length_octets
no_changes = refl

not_asked : request_in network (pos 10) (argument Nothing) ≡ None
not_asked = refl

-- a modification without an operator replaces: [12] { SEQUENCE { [1] 3, INTEGER 7 } }
abbrev changes : TreeValues
changes =
    Then (Constructed (context 12) (Then (Constructed (universal 16) (Then (Primitive (context 1) (3 ∷ []))
    (Then (Primitive (universal 2) (7 ∷ [])) Nothing))) Nothing)) Nothing

set_example : request_in network (pos 5) (argument changes) ≡ Some (requests.Set head (record {
  operator = pos 0;
  id = Local (pos 3);
  given = Some (record { id = Local (pos 3); value = None; raw = 0x02 ∷ 0x01 ∷ 0x07 ∷ [] });
} ∷ []) true)
unfolding integer_in identifier_octets length_octets
set_example = refl

cancel_example : cancelled_in (Primitive (universal 2) (7 ∷ [])) ≡ Some (pos 7)
unfolding integer_in
cancel_example = refl
