-- Whether the class with a label is one that the agent acts on: X.721, X.734, X.735; docs/PROFILE.md, sections 15 and
-- 19.
use Rattle.std.specs.Prelude.{ℕ, List, Bool, ◌&&◌}
use Rattle.std.specs.List.{list_any}
use Rattle.term_values.specs.Syntaxes.{TypeSyntax}
use Rattle.term_model.specs.declared.schema.ClassRec.{ClassRec}
use Rattle.term_model.specs.declared.schema.Set.{Set}
use Rattle.term_model.specs.BoundClasses.{is_bound_as}
use Rattle.term_model.specs.Comparing.{is_same_octets}

-- the class with a label is one that the agent acts on
abbrev pub is_label_bound : Set → List ℕ → List (List ℕ × TypeSyntax) → Bool
is_label_bound schema label attributes =
    list_any
    (λ (of_class : ClassRec). is_same_octets of_class.label label && is_bound_as schema label attributes of_class.id)
    schema.classes
