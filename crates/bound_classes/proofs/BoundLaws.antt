-- What the mandatory packages of classes have together.
use Rattle.std.proofs.Common.{◌≡◌, ℕ, List, [], ◌∷◌, refl, ap, sym, ◌∙◌}
use Rattle.std.specs.Prelude.{◌||◌, flat_map}
use Rattle.std.specs.List.{list_all}
use Rattle.std.proofs.lemmas.List.Folds.{list_any-append}
use Rattle.term_values.specs.Syntaxes.{TypeSyntax}
use Rattle.term_model.specs.declared.schema.Set.{Set}
use Rattle.term_model.specs.BoundClasses.{have_attribute}
use Rattle.term_model.specs.ControlSyntaxes.{discriminator_attributes}
use Rattle.term_model.specs.PresentPackages.{packages_by}
use Rattle.attribute_rules.specs.MandatoryAttributes.{classes_have}
use Rattle.bound_classes.specs.DiscriminatorAttributes.{have_all_of_discriminator, have_sending, have_states}

-- that some class gives it is that all their packages together have it
each_has : (schema : Set) (label : List ℕ) (syntax : TypeSyntax) (classes : List (List ℕ))
    → classes_have schema classes label syntax
    ≡ have_attribute schema.attributes (flat_map (packages_by schema.classes []) classes) (label, syntax)
unfolding classes_have
each_has schema label syntax [] = refl
each_has schema label syntax (class ∷ classes) =
    ap
    (λ b. have_attribute schema.attributes (packages_by schema.classes [] class) (label, syntax) || b)
    (each_has schema label syntax classes)
    ∙ sym
    (list_any-append _ (packages_by schema.classes [] class) (flat_map (packages_by schema.classes []) classes))

of_discriminator : (schema : Set) (classes : List (List ℕ))
    → have_all_of_discriminator schema classes
    ≡ list_all (λ (wanted : List ℕ × TypeSyntax). classes_have schema classes wanted.0 wanted.1)
    discriminator_attributes
unfolding have_all_of_discriminator have_sending have_states
of_discriminator schema classes = refl

-- the attributes of a discriminator, one behind the other
pub all_of_discriminator : (schema : Set) (classes : List (List ℕ))
    → have_all_of_discriminator schema classes
    ≡ list_all (have_attribute schema.attributes (flat_map (packages_by schema.classes []) classes))
    discriminator_attributes
all_of_discriminator schema classes =
    of_discriminator schema classes
    ∙ (λ i. list_all (λ (wanted : List ℕ × TypeSyntax). each_has schema wanted.0 wanted.1 classes i)
    discriminator_attributes)
