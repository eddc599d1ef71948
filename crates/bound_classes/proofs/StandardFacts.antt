-- Examples of the definitions, computed: X.721, classes eventForwardingDiscriminator and log; X.722, section 8.4.
use Rattle.std.proofs.Common.{◌≡◌, ℕ, suc, true, false, List, [], ◌∷◌, refl}
use Rattle.std.specs.Prelude.{codes, map}
use Rattle.term_values.specs.Syntaxes.{TypeSyntax}
use Rattle.term_model.specs.declared.packages.PackageRec.{PackageRec}
use Rattle.term_model.specs.declared.schema.AttrRec.{AttrRec}
use Rattle.term_model.specs.declared.schema.Set.{Set}
use Rattle.term_model.specs.ControlSyntaxes.{discriminator_attributes, log_attributes}
use Rattle.term_model.proofs.ExampleNetwork.{element_class, element_oid, element_package, id_property, id_template}
use Rattle.term_model.proofs.ExampleNetwork.{network}
use Rattle.attribute_rules.specs.MandatoryAttributes.{classes_have}
use Rattle.bound_classes.specs.Behaviour.{has_behaviour, has_members, has_operations, is_bound_class}
use Rattle.bound_classes.specs.BoundLabels.{is_label_bound}
use Rattle.bound_classes.specs.DiscriminatorAttributes.{have_all_of_discriminator, have_sending, have_states}
use Rattle.bound_classes.specs.KnownLabels.{is_known}

-- records of attributes of these labels and syntaxes, under the identifiers 2.999.7.n
numbered : ℕ → List (List ℕ × TypeSyntax) → List AttrRec
numbered n [] = []
numbered n (wanted ∷ others) =
    record id_template { id = 2 ∷ 999 ∷ 7 ∷ n ∷ []; label = wanted.0; syntax = wanted.1 } ∷ numbered (suc n) others

-- a package of these attributes
stating : List AttrRec → PackageRec
stating attributes = record element_package {
  attributes =
      map (λ (of_attribute : AttrRec). record id_property { attribute = of_attribute.id }) attributes;
}

-- a schema of one class with this label and these attributes, in a mandatory package or in a conditional one
of_one_class : List ℕ → List AttrRec → List PackageRec → List PackageRec → Set
of_one_class label attributes mandatory conditional = record network {
  attributes = attributes;
  classes = record element_class { label = label; mandatory = mandatory; conditional = conditional } ∷ [];
}

with_mandatory : List ℕ → List (List ℕ × TypeSyntax) → Set
with_mandatory label wanted = of_one_class label (numbered 1 wanted) (stating (numbered 1 wanted) ∷ []) []

with_conditional : List ℕ → List (List ℕ × TypeSyntax) → Set
with_conditional label wanted = of_one_class label (numbered 1 wanted) [] (stating (numbered 1 wanted) ∷ [])

discriminators : Set
discriminators = with_mandatory (codes "eventForwardingDiscriminator") discriminator_attributes

logs : Set
logs = with_mandatory (codes "log") log_attributes

-- ---- discriminators and logs

discriminators_are_bound : is_label_bound discriminators (codes "eventForwardingDiscriminator") discriminator_attributes
    ≡ true
unfolding discriminators with_mandatory of_one_class numbered stating
discriminators_are_bound = refl

logs_are_bound : is_label_bound logs (codes "log") log_attributes ≡ true
unfolding logs with_mandatory of_one_class numbered stating
logs_are_bound = refl

-- a log with the attributes of a discriminator alone isn't
lacking_is_not : is_label_bound (with_mandatory (codes "log") discriminator_attributes) (codes "log") log_attributes
    ≡ false
unfolding with_mandatory of_one_class numbered stating
lacking_is_not = refl

-- nor is one that has them in a conditional package
conditional_is_not : is_label_bound (with_conditional (codes "log") log_attributes) (codes "log") log_attributes ≡ false
unfolding with_conditional of_one_class numbered stating
conditional_is_not = refl

discriminators_have_all : have_all_of_discriminator discriminators (element_oid ∷ []) ≡ true
unfolding classes_have have_all_of_discriminator have_sending have_states discriminators with_mandatory of_one_class
    numbered stating
discriminators_have_all = refl

-- the label is that of the one or of the other
element_is_unknown : is_known element_class ≡ false
unfolding is_known
element_is_unknown = refl

-- ---- behaviour

-- the network of one class with its two attributes
network_has_none : has_behaviour network ≡ false
unfolding has_behaviour has_operations has_members is_bound_class
network_has_none = refl

-- an action in a conditional package
counting : PackageRec
counting = record element_package { actions = (2 ∷ 999 ∷ 9 ∷ 1 ∷ []) ∷ [] }

conditional_counts : has_behaviour (of_one_class (codes "element") [] (element_package ∷ []) (counting ∷ [])) ≡ true
unfolding has_behaviour has_operations has_members of_one_class counting
conditional_counts = refl

-- a notification
telling : PackageRec
telling = record element_package { notifications = (2 ∷ 999 ∷ 10 ∷ 1 ∷ []) ∷ [] }

notifications_count : has_behaviour (of_one_class (codes "element") [] (telling ∷ []) []) ≡ true
unfolding has_behaviour has_operations has_members of_one_class telling
notifications_count = refl

-- a bound class, here without either
logs_count : has_behaviour logs ≡ true
unfolding has_behaviour has_operations has_members is_bound_class logs with_mandatory of_one_class numbered stating
logs_count = refl

unbound_logs_do_not : has_behaviour (with_mandatory (codes "log") discriminator_attributes) ≡ false
unfolding has_behaviour has_operations has_members is_bound_class with_mandatory of_one_class numbered stating
unbound_logs_do_not = refl
