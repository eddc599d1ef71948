-- WholeNumbers: an attribute to which a number is added is INTEGER under any tags (docs/PROFILE.md, sections 9 and 12).
use Rattle.std.specs.Prelude.{◌≡◌, ℕ, List, [], Bool, true, false, Some, refl, slice_get}
use Rattle.std.proofs.Common.{◌∙◌, ap, sym}
use Rattle.std.proofs.Math.Path.{subst}
use Rattle.std.proofs.lemmas.Bool.{false≢true}
use Rattle.token_grammar.specs.declared.qualified_name.QualifiedName.{QualifiedName}
use Rattle.term_values.specs.Syntaxes.{TypeSyntax}
use Rattle.term_values.specs.Syntaxes.TypeSyntax.{Integer, Tagged}
use Rattle.term_model.specs.WholeSet.{IsWholeNumber}
use Rattle.asn1_names.specs.ModuleTerms.{ModuleTerm}
use Rattle.asn1_leaf_values.specs.Arcs.{NamedArcs}
use Rattle.gdmo_names.specs.AttributeSyntaxes.{IsWholeNumber as IsWholeAttribute, is_whole_number}
use Rattle.gdmo_names.specs.PartTerms.{PartTerms, Placed, module_terms_of}
use Rattle.gdmo_names.specs.TemplateTerms.TemplateKind.{AttributeKind}
use Rattle.gdmo_names.specs.TypeMeaning.{TypeHasSyntax, qualified_meaning}
use Rattle.gdmo_linking.specs.LinkedNames.{IsLinkedName}
use Rattle.gdmo_linking.specs.LinkedTables.{table}
use Rattle.linked_parts.specs.declared.linked.Linked.{Linked}
use Rattle.linked_parts.specs.declared.linked.LinkedName.{LinkedName}
use Rattle.linked_documents.specs.LinkedParts.{AreLinkedParts}
use Rattle.filled_syntaxes.specs.FilledSyntaxes.{IsFilled, TextsAt, texts_beside}
use Rattle.filled_syntaxes.specs.LinkedMeanings.{linked_arcs}
use Rattle.class_faults.specs.AttributeSyntaxes.{AttributeHas}
use Rattle.class_faults.specs.FirstClassFault.{AreFaultless as AreClassesFaultless}
use Rattle.class_faults.specs.StatedProperties.{TypeHas}
use Rattle.alike_laws.proofs.AttributeLaws.{named_type}
use Rattle.alike_laws.proofs.TypeLaws.{filled_of, name_said}

-- ---- syntaxes

-- the values of DEFAULTs change nothing of a number or of tags
filled_whole : (names : NamedArcs) (texts : TextsAt) (path : List ℕ) (plain after : TypeSyntax) →
    IsFilled names texts path plain after → is_whole_number plain ≡ true → is_whole_number after ≡ true
filled_whole names texts path (Integer numbers ranges) after is whole = ap is_whole_number is
filled_whole names texts path (Tagged tag explicit of) after is whole =
    ap is_whole_number is.1 ∙ filled_whole names texts path of is.0 is.2 whole
filled_whole names texts path _ after is whole = absurd (cc)

whole_there : (syntax : TypeSyntax) → is_whole_number syntax ≡ true → IsWholeNumber syntax
whole_there (Integer numbers ranges) whole = (numbers, (ranges, refl))
whole_there (Tagged tag explicit of) whole = whole_there of whole
whole_there _ whole = absurd (cc)

-- what is tested holds where it isn't refuted
whole_unless : (syntax : TypeSyntax) → ¬ (¬ (is_whole_number syntax ≡ true)) → IsWholeNumber syntax
whole_unless syntax unless = by (is_whole_number syntax) refl
  where
    by : (test : Bool) → is_whole_number syntax ≡ test → IsWholeNumber syntax
    by true is = whole_there syntax is
    by false is = absurd (unless (λ whole. false≢true (sym is ∙ whole)))

-- ---- attributes

module _ (parts : PartTerms) (ms : List ModuleTerm) (same : module_terms_of parts ≡ ms) (linked : Linked)
    (are : AreLinkedParts parts linked) (classes : AreClassesFaultless ms linked) where
  -- the syntax of a type that is INTEGER under any tags
  type_whole : (name : QualifiedName) (its : LinkedName) (plain own : TypeSyntax) → IsLinkedName parts name its →
      TypeHas ms linked its own → TypeHasSyntax (module_terms_of parts) name plain →
      is_whole_number plain ≡ true → is_whole_number own ≡ true
  type_whole name its plain own told has is whole =
      let here = subst (λ (xs : List ModuleTerm). AreClassesFaultless xs linked) (sym same) classes in
      let own_has = subst (λ (xs : List ModuleTerm). TypeHas xs linked its own) (sym same) has in
      filled_whole (linked_arcs linked)
      (texts_beside (module_terms_of parts) (qualified_meaning (module_terms_of parts) name)) [] plain own
      (filled_of is (name_said parts linked here name its told own own_has)) whole

  -- the linked attribute is a whole number where it isn't refuted that the attribute of the documents is one
  pub number_whole : (attribute : Placed) (k : ℕ) (own : TypeSyntax) →
      slice_get (table parts AttributeKind) k ≡ Some attribute → AttributeHas ms linked k own →
      ¬ (¬ IsWholeAttribute parts attribute) → IsWholeNumber own
  number_whole attribute k own at has unless = whole_unless own (λ other. unless (λ whole.
      let named = named_type parts linked are k at whole.has.of_type ms own has in
      other (type_whole whole.has.name named.0 whole.syntax own named.1 named.2 whole.has.has whole.whole)))
