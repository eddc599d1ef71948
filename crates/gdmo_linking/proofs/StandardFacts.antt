-- StandardFacts: examples of the definitions, computed (X.722, section 8; docs/PROFILE.md, section 12).
use Rattle.std.specs.Prelude.{◌≡◌, ℕ, [], ◌∷◌, Bool, None, Some, refl}
use Rattle.token_grammar.specs.declared.token.Token.{Token}
use Rattle.asn1_names.specs.ModuleTerms.{AssignmentTerm}
use Rattle.gdmo_linking.specs.InRoles.{only}
use Rattle.gdmo_linking.specs.LinkedTables.{of_kind}
use Rattle.gdmo_linking.specs.Linkers.{ArePlaces, place_at, place_of}
use Rattle.gdmo_names.specs.Mentions.{mention}
use Rattle.gdmo_names.specs.Mentions.Role.{AddedAttribute, PackageGroup}
use Rattle.gdmo_names.specs.PartTerms.{Placed}
use Rattle.gdmo_names.specs.TemplateTerms.{ReferenceTerm, ReferenceTerms}
use Rattle.gdmo_names.specs.TemplateTerms.TemplateTerm.{Template}
use Rattle.gdmo_names.specs.TemplateTerms.BodyTerm.{ClassBody, GroupBody}

-- of two groups of a package, the first with an attribute, two references are to groups
groups_of_package : (one added more : ReferenceTerm) →
    only PackageGroup (mention PackageGroup one ∷ mention AddedAttribute added ∷ mention PackageGroup more ∷ []) ≡
    mention PackageGroup one ∷ mention PackageGroup more ∷ []
groups_of_package one added more = refl

-- a class, a group and a further class have the places 0, 0 and 1
a_class : ℕ → Token → ReferenceTerms → Placed
a_class document label none = record { document = document; template = Template label None (ClassBody none none none) }

a_group : ℕ → Token → ReferenceTerms → Bool → Placed
a_group document label elements fixed =
    record { document = document; template = Template label None (GroupBody elements fixed) }

three_places : (label : Token) (none : ReferenceTerms) (fixed : Bool) →
    ArePlaces (a_class 0 label none ∷ a_group 0 label none fixed ∷ a_class 1 label none ∷ []) (0 ∷ 0 ∷ 1 ∷ [])
unfolding of_kind a_class a_group
three_places label none fixed = (refl, (refl, (refl, tt)))

-- the place of the second of two numbers, and the places of an assignment
second_place : place_at (4 ∷ 7 ∷ []) (Some 1) ≡ 7
second_place = refl

places_of_assignment : (x : AssignmentTerm) → place_of (record { in_module = 1; place = 2; assignment = x }) ≡ (1, 2)
places_of_assignment x = refl
