-- Examples, computed: the words behind CREATE and DELETE, and the name of a type that requires values; docs/PROFILE.md,
-- section 18.
use Rattle.std.proofs.Common.{◌≡◌, ℕ, false, true, List, [], ◌∷◌, Some, refl}
use Rattle.std.specs.Prelude.{codes}
use Rattle.token_grammar.specs.declared.token.Token.{Token}
use Rattle.asn1_names.specs.ModuleTerms.{ModuleTerm, TypeTerm}
use Rattle.asn1_names.specs.ModuleTerms.AssignedTerm.{AssignsType}
use Rattle.linked_parts.specs.declared.linked.LinkedName.{LinkedName}
use Rattle.linked_parts.specs.declared.linked.NamedMeaning.TheVariants.{Assigned, Standard}
use Rattle.schema_records.specs.ClassRecords.{AreRequiredTypes}
use Rattle.schema_records.specs.MemberRecords.{IsCreate}

abbrev word : List ℕ → Token
word text = record { kind = 0; at = 0; text = text }

abbrev net : TypeTerm → ModuleTerm
net of = record {
  document = 1;
  name = word (codes "Net");
  is_implicit = false;
  imports = [];
  assignments = record { name = word (codes "Low"); assigned = AssignsType of } ∷ [];
}

-- X.722, section 8.4, REQUIRED VALUES: a type is told by its name, whatever stands for it in the template
abbrev low : LinkedName
low = record { name = word (codes "Below"); meaning = Assigned 0 0 }

abbrev identifier_type : LinkedName
identifier_type = record { name = word (codes "AttributeId"); meaning = Standard (word (codes "AttributeId")) }

called_low : (of : TypeTerm) → AreRequiredTypes (net of ∷ []) (Some low) (codes "Net.Low" ∷ [])
called_low of = refl

called_standard : AreRequiredTypes [] (Some identifier_type) (codes "CMIP-1.AttributeId" ∷ [])
called_standard = refl

-- X.722, section 8.6, CREATE with a reference object and without automatic names
with_reference : IsCreate (word (codes "WITH-REFERENCE-OBJECT") ∷ [])
    (record { with_reference_object = true; with_automatic_instance_naming = false })
with_reference = record { by_reference = refl; named_automatically = refl }
