-- The object with a name, as far as the objects were gone through.
use Rattle.std.proofs.Common.{◌≡◌, ℕ, ◌+◌, ◌<◌, ◌≤◌, true, false, List, ◌∷◌, length, drop, get_or, Some, None, refl}
use Rattle.std.proofs.Common.{sym, ap, ◌∙◌}
use Rattle.std.proofs.lemmas.List.{drop_more, drop_all}
use Rattle.term_model.specs.declared.name.Rdn.{Rdn}
use Rattle.term_model.specs.declared.objects.NamedObject.{NamedObject}
use Rattle.term_model.specs.Comparing.{is_same_name}
use Rattle.term_model.specs.NamedObjects.{object_at}

object_at_here : (x : NamedObject) (objects : List NamedObject) (name : List Rdn) → is_same_name x.name name ≡ true
    → object_at (x ∷ objects) name ≡ Some x.object
object_at_here x objects name h = rw h refl

object_at_later : (x : NamedObject) (objects : List NamedObject) (name : List Rdn) → is_same_name x.name name ≡ false
    → object_at (x ∷ objects) name ≡ object_at objects name
object_at_later x objects name h = rw h refl

pub found_here : (objects : List NamedObject) (name : List Rdn) (i : ℕ) (x : NamedObject) → i < length objects
    → x ≡ get_or objects i x → is_same_name x.name name ≡ true → object_at (drop i objects) name ≡ Some x.object
found_here objects name i x h is same =
    ap (λ xs. object_at xs name) (drop_more objects i x h ∙ ap (λ y. y ∷ drop (i + 1) objects) (sym is))
    ∙ object_at_here x (drop (i + 1) objects) name same

pub found_later : (objects : List NamedObject) (name : List Rdn) (i : ℕ) (x : NamedObject) → i < length objects
    → x ≡ get_or objects i x → is_same_name x.name name ≡ false
    → object_at (drop i objects) name ≡ object_at (drop (i + 1) objects) name
found_later objects name i x h is other =
    ap (λ xs. object_at xs name) (drop_more objects i x h ∙ ap (λ y. y ∷ drop (i + 1) objects) (sym is))
    ∙ object_at_later x (drop (i + 1) objects) name other

pub found_nowhere : (objects : List NamedObject) (name : List Rdn) (i : ℕ) → length objects ≤ i
    → object_at (drop i objects) name ≡ None
found_nowhere objects name i h = ap (λ xs. object_at xs name) (drop_all i objects h)
