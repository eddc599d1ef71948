-- Examples of the definitions of this crate, computed: numbers in a role, the type of an attribute, an attribute that
-- derives from nothing that there is, names that come again or mean nothing, and a notification without fields.
use Rattle.std.specs.Prelude.{◌≡◌, ℕ, List, [], ◌∷◌, Option, None, Some, codes, false, refl}
use Rattle.std.proofs.Common.{arith, inl, inr}
use Rattle.asn1_names.specs.ModuleTerms.{ModuleTerm}
use Rattle.asn1_names.specs.ModuleTerms.AssignedTerm.{AssignsType}
use Rattle.asn1_names.specs.ModuleTerms.PlainTerm.{IntegerTerm}
use Rattle.asn1_names.specs.ModuleTerms.TypeTerm.{Plain}
use Rattle.asn1_names.specs.NameMeaning.{first_module, module_meaning}
use Rattle.gdmo_names.specs.DoubleNames.IsModuleAgain.{standard}
use Rattle.gdmo_names.specs.FirstLabelFault.LabelFault.{LabelDouble, LabelUnknown}
use Rattle.gdmo_names.specs.Mentions.{Mention, mention}
use Rattle.gdmo_names.specs.Mentions.Role.{OfBehaviour, Superclass}
use Rattle.gdmo_names.specs.PartTerms.{PartTerms}
use Rattle.gdmo_names.specs.TemplateTerms.BodyTerm.{BehaviourBody, NotificationBody}
use Rattle.gdmo_names.specs.TemplateTerms.FieldTerms.{NoFields}
use Rattle.gdmo_names.specs.TemplateTerms.ReferenceTerm.{ByLabel}
use Rattle.gdmo_names.specs.TemplateTerms.ReferenceTerms.{NoReferences}
use Rattle.gdmo_names.specs.TemplateTerms.TemplateTerm.{Template}
use Rattle.gdmo_names.proofs.Texts.{of_templates, placed, qualified, word}
use Rattle.gdmo_types.specs.AttributeTypes.{TellsType}
use Rattle.gdmo_types.specs.FieldFaults.{AreFieldsOf, TellsPart}
use Rattle.gdmo_types.specs.ModuleNames.{AssignedTwice, DoubleModuleNames}
use Rattle.gdmo_types.specs.QualifiedFaults.{UnknownName}
use Rattle.gdmo_types.specs.RoleTargets.{AreInRole, IsFirst}
use Rattle.gdmo_types.specs.RoleTargets.AreInRole.{no_more, one, other}
use Rattle.gdmo_types.specs.RoleTargets.IsFirst.{here, later}
use Rattle.gdmo_types.specs.declared.attribute_types.AttributeType.TheVariants.{Missing}
use Rattle.gdmo_types.specs.declared.compared_types.ComparedType.TheVariants as compared

-- ---- numbers in a role

abbrev named : List ℕ → Mention
named label = mention Superclass (ByLabel (word 0 label))

abbrev behaviour : Mention
behaviour = mention OfBehaviour (ByLabel (word 0 (codes "b")))

abbrev numbered_five : Mention → Option ℕ → Type 0
numbered_five x n = n ≡ Some 5

two_of_three : AreInRole numbered_five Superclass (named (codes "a") ∷ behaviour ∷ named (codes "c") ∷ [])
    (Some 5 ∷ Some 5 ∷ [])
two_of_three = one refl refl (other (λ same. absurd (cc)) (one refl refl no_more))

behind_another : IsFirst numbered_five Superclass (behaviour ∷ named (codes "a") ∷ []) (Some 5)
behind_another = later (λ same. absurd (cc)) (here refl refl)

-- ---- types of attributes

abbrev documents : PartTerms
documents = of_templates []

-- a behaviour has none
no_attribute : TellsType documents (placed 1 (Template (word 0 (codes "b")) None BehaviourBody)) Missing
no_attribute = inr (λ same. absurd (cc))

-- ---- names that come again

abbrev twice : ModuleTerm
twice = record {
  document = 2;
  name = word 0 (codes "CMIP-1");
  is_implicit = false;
  imports = [];
  assignments = record {
    name = word 30 (codes "Id");
    assigned = AssignsType (Plain (word 37 (codes "INTEGER"))
        (IntegerTerm []) []);
  }
      ∷ record {
        name = word 50 (codes "Id");
        assigned = AssignsType (Plain (word 57 (codes "INTEGER"))
            (IntegerTerm []) []);
      } ∷ [];
}

assigned_again : AssignedTwice twice LabelDouble 2 50
assigned_again = (
  1,
  _,
  refl,
  (
    record {
      k = 0;
      before = omega arith;
      first = _;
      is_first = refl;
      same = refl;
    },
    refl,
    refl,
    refl,
  ),
)

named_again : DoubleModuleNames (twice ∷ []) LabelDouble 2 0
named_again = (0, twice, refl, inl (standard refl, refl, refl, refl))

-- ---- names that mean nothing

no_such_module : UnknownName [] 1 (qualified (word 10 (codes "Net")) (word 14 (codes "Id"))) LabelUnknown 1 10
unfolding module_meaning first_module
no_such_module = inl (refl, refl, refl, refl)

-- ---- fields

without_fields : AreFieldsOf (NotificationBody NoReferences NoReferences (Some (qualified (word 10 (codes "Net"))
    (word 14 (codes "Info")))) NoFields None) (qualified (word 10 (codes "Net")) (word 14 (codes "Info"))) []
without_fields = record { behaviours = NoReferences; parameters = NoReferences; reply = None; is = refl }

no_such_part : TellsPart [] None compared.Nothing
no_such_part = refl
