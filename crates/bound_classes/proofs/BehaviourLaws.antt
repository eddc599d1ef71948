-- Where no class has the label of discriminators or of logs, none is bound.
use Rattle.std.proofs.Common.{◌≡◌, ℕ, Bool, true, false, List, [], ◌∷◌, Some, refl, ap, ◌∙◌, true≢false}
use Rattle.std.specs.Prelude.{◌||◌, ◌&&◌, codes, find, if◌then◌else◌}
use Rattle.std.specs.List.{list_all, list_any}
use Rattle.std.specs.Option.{option_map_or}
use Rattle.term_values.specs.Syntaxes.{TypeSyntax}
use Rattle.term_model.specs.declared.schema.ClassRec.{ClassRec}
use Rattle.term_model.specs.declared.schema.Set.{Set}
use Rattle.term_model.specs.BoundClasses.{have_attribute, is_bound_as, is_class_labelled}
use Rattle.term_model.specs.Comparing.{is_same_octets, is_same_oid}
use Rattle.term_model.specs.ControlSyntaxes.{discriminator_attributes, log_attributes}
use Rattle.term_model.specs.PresentPackages.{classes_above, packages_of}
use Rattle.bound_classes.specs.Behaviour.{is_bound_class}
use Rattle.bound_classes.specs.KnownLabels.{is_known}

neither : (b c : Bool) → b || c ≡ false → (b ≡ false) × (c ≡ false)
neither true c e = absurd (true≢false e)
neither false c e = (refl, e)

-- what is so of no member is so of none that is found
none_found : (known labelled : ClassRec → Bool)
    → ((of_class : ClassRec) → known of_class ≡ false → labelled of_class ≡ false) → (p : ClassRec → Bool)
    → (records : List ClassRec) → list_any known records ≡ false → option_map_or labelled (find p records) false ≡ false
none_found known labelled gives p [] e = refl
none_found known labelled gives p (one ∷ others) e =
    let h = neither (known one) (list_any known others) e in
    by (p one) (gives one h.0) (none_found known labelled gives p others h.1)
  where
    by : (b : Bool) → labelled one ≡ false → option_map_or labelled (find p others) false ≡ false
        → option_map_or labelled (if b then Some one else find p others) false ≡ false
    by true first rest = first
    by false first rest = rest

-- a test that each member fails
none_of : {X : Type 0} (p : X → Bool) → ((x : X) → p x ≡ false) → (xs : List X) → list_any p xs ≡ false
none_of p fails [] = refl
none_of p fails (x ∷ xs) = ap (λ b. b || list_any p xs) (fails x) ∙ none_of p fails xs

-- no class is bound by a label that none has
not_bound_as : (schema : Set) (label : List ℕ) (attributes : List (List ℕ × TypeSyntax))
    → ((of_class : ClassRec) → is_known of_class ≡ false → is_same_octets of_class.label label ≡ false)
    → list_any is_known schema.classes ≡ false → (class : List ℕ) → is_bound_as schema label attributes class ≡ false
not_bound_as schema label attributes gives e class =
    ap (λ b. b && list_all (have_attribute schema.attributes (packages_of schema class [])) attributes)
    (none_of (is_class_labelled schema.classes label) (λ above.
    none_found is_known (λ of_class. is_same_octets of_class.label label) gives
    (λ of_class. is_same_oid of_class.id above) schema.classes e) (classes_above schema.classes class))

not_discriminator : (of_class : ClassRec) → is_known of_class ≡ false
    → is_same_octets of_class.label (codes "eventForwardingDiscriminator") ≡ false
unfolding is_known
not_discriminator of_class e = (neither (is_same_octets of_class.label (codes "eventForwardingDiscriminator")) _ e).0

not_log : (of_class : ClassRec) → is_known of_class ≡ false → is_same_octets of_class.label (codes "log") ≡ false
unfolding is_known
not_log of_class e = (neither (is_same_octets of_class.label (codes "eventForwardingDiscriminator")) _ e).1

not_bound : (schema : Set) → list_any is_known schema.classes ≡ false → (of_class : ClassRec)
    → is_bound_class schema of_class ≡ false
unfolding is_bound_class
not_bound schema e of_class =
    ap (λ b. b || is_bound_as schema (codes "log") log_attributes of_class.id)
    (not_bound_as schema (codes "eventForwardingDiscriminator") discriminator_attributes not_discriminator e
    of_class.id)
    ∙ not_bound_as schema (codes "log") log_attributes not_log e of_class.id

pub none_bound : (schema : Set) → list_any is_known schema.classes ≡ false
    → list_any (is_bound_class schema) schema.classes ≡ false
none_bound schema e = none_of (is_bound_class schema) (not_bound schema e) schema.classes
