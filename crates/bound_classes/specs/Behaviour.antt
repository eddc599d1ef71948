-- Whether a schema asks more of an agent than objects that hold attributes: some class has an action or a notification,
-- X.722, section 8.4, or the agent acts on its objects as discriminators or logs, X.721, X.734, X.735;
-- docs/PROFILE.md, section 15.
use Rattle.std.specs.Prelude.{ℕ, List, [], ◌∷◌, Bool, true, false, ◌||◌}
use Rattle.std.specs.List.{list_any}
use Rattle.term_model.specs.declared.packages.PackageRec.{PackageRec}
use Rattle.term_model.specs.declared.schema.ClassRec.{ClassRec}
use Rattle.term_model.specs.declared.schema.Set.{Set}
use Rattle.term_model.specs.BoundClasses.{is_bound_discriminator, is_bound_log}

-- there are some of a kind
abbrev pub are_some : List (List ℕ) → Bool
are_some [] = false
are_some (id ∷ ids) = true

-- a package has an action or a notification
unfoldable pub has_members : PackageRec → Bool
has_members of_package = are_some of_package.actions || are_some of_package.notifications

-- one of the packages that a class states, mandatory or conditional, has one
unfoldable pub has_operations : ClassRec → Bool
has_operations of_class = list_any has_members of_class.mandatory || list_any has_members of_class.conditional

-- the agent acts on the objects of a class
unfoldable pub is_bound_class : Set → ClassRec → Bool
is_bound_class schema of_class = is_bound_discriminator schema of_class.id || is_bound_log schema of_class.id

-- one or the other is so of some class
unfoldable pub has_behaviour : Set → Bool
has_behaviour schema = list_any has_operations schema.classes || list_any (is_bound_class schema) schema.classes
