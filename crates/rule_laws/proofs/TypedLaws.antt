-- TypedLaws: types that aren't refuted to be one have syntaxes that are alike: the type of ARGUMENT and that of an
-- attribute, the type of a reply and that of an attribute, and those of ARGUMENT and of a reply (docs/PROFILE.md,
-- section 12).
use Rattle.std.specs.Prelude.{◌≡◌, ℕ, List, Option, None, Some, refl, slice_get}
use Rattle.token_grammar.specs.declared.qualified_name.QualifiedName.{QualifiedName}
use Rattle.term_values.specs.Syntaxes.{TypeSyntax}
use Rattle.term_model.specs.AlikeSyntaxes.{AreAlike}
use Rattle.term_model.specs.WholeSet.{IsTyped}
use Rattle.term_model.specs.declared.schema.Set.{Set}
use Rattle.asn1_names.specs.ModuleTerms.{ModuleTerm}
use Rattle.gdmo_names.specs.PartTerms.{PartTerms, Placed, module_terms_of}
use Rattle.gdmo_names.specs.RuleFaults.{AreOneStatedType, IsOfStatedType}
use Rattle.gdmo_names.specs.TemplateTerms.TemplateKind.{AttributeKind}
use Rattle.gdmo_linking.specs.LinkedNames.{IsOptionalName}
use Rattle.gdmo_linking.specs.LinkedTables.{table}
use Rattle.linked_parts.specs.declared.linked.Linked.{Linked}
use Rattle.linked_parts.specs.declared.linked.LinkedName.{LinkedName}
use Rattle.linked_documents.specs.LinkedParts.{AreLinkedParts}
use Rattle.class_faults.specs.FirstClassFault.{AreFaultless as AreClassesFaultless}
use Rattle.linked_types.specs.PartIdentifiers.{IsAttributeId}
use Rattle.schema_records.specs.MemberRecords.{AreRecords, IsOptionalType}
use Rattle.reference_laws.proofs.ReferenceLaws.{attribute_there}
use Rattle.alike_laws.proofs.AttributeLaws.{attribute_alike_unless}
use Rattle.alike_laws.proofs.TypeLaws.{types_alike_unless}

module _ (parts : PartTerms) (ms : List ModuleTerm) (same : module_terms_of parts ≡ ms) (linked : Linked)
    (classes : AreClassesFaultless ms linked) where
  -- the types of the information and of the reply of an action
  pub both_typed : (information reply : Option QualifiedName) (x y : Option LinkedName)
      (one other : Option TypeSyntax) → IsOptionalName parts information x → IsOptionalName parts reply y →
      IsOptionalType ms linked x one → IsOptionalType ms linked y other →
      ¬ (¬ AreOneStatedType parts information reply) → (syntax : TypeSyntax) × ((its : TypeSyntax)
      × (one ≡ Some syntax) × (other ≡ Some its) × AreAlike syntax its)
  both_typed None reply x y one other is also has its unless = absurd (unless (λ one_type. one_type))
  both_typed (Some name) None x y one other is also has its unless = absurd (unless (λ one_type. one_type))
  both_typed (Some name) (Some second) None y one other is also has its unless = absurd is
  both_typed (Some name) (Some second) (Some x) None one other is also has its unless = absurd also
  both_typed (Some name) (Some second) (Some x) (Some y) None other is also has its unless = absurd has
  both_typed (Some name) (Some second) (Some x) (Some y) (Some syntax) None is also has its unless = absurd its
  both_typed (Some name) (Some second) (Some x) (Some y) (Some syntax) (Some other) is also has its unless = (
    syntax,
    (
      other,
      refl,
      refl,
      types_alike_unless parts ms same linked classes
          name second x y is also unless syntax other has its,
    ),
  )

  -- the type of the information, or of the reply, of an action and that of an attribute
  pub attribute_typed : AreLinkedParts parts linked → (schema : Set) → AreRecords ms linked schema →
      (attribute : Placed) (k : ℕ) (id : List ℕ) → slice_get (table parts AttributeKind) k ≡ Some attribute →
      IsAttributeId linked k id → (stated : Option QualifiedName) (x : Option LinkedName)
      (type : Option TypeSyntax) → IsOptionalName parts stated x → IsOptionalType ms linked x type →
      ¬ (¬ IsOfStatedType parts attribute stated) → IsTyped schema type id
  attribute_typed are_linked schema are attribute k id at named None x type is has unless =
      absurd (unless (λ of. of))
  attribute_typed are_linked schema are attribute k id at named (Some name) None type is has unless = absurd is
  attribute_typed are_linked schema are attribute k id at named (Some name) (Some x) None is has unless = absurd has
  attribute_typed are_linked schema are attribute k id at named (Some name) (Some x) (Some syntax) is has unless =
      let there = attribute_there ms linked schema are k id named in
      let own = there.template.syntax in (
        syntax,
        (
          own,
          refl,
          (there.template, there.known, there.named, refl),
          attribute_alike_unless parts linked are_linked ms same classes attribute k at name x is unless syntax own
              has there.of_place.has,
        ),
      )
