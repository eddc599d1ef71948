-- RuleLaws: the rules of a schema are whole (X.722, section 8; docs/PROFILE.md, sections 9 and 12).
use Rattle.std.specs.Prelude.{◌≡◌, List, All}
use Rattle.std.proofs.lemmas.List.Elements.{All-contains}
use Rattle.term_values.specs.Soundness.{IsSound}
use Rattle.term_values.specs.Syntaxes.{TypeSyntax}
use Rattle.term_model.specs.WholeSet.{IsWholeRule, IsWholeStep}
use Rattle.term_model.specs.declared.rule.RuleRec.{RuleRec}
use Rattle.term_model.specs.declared.schema.Set.{Set}
use Rattle.asn1_names.specs.ModuleTerms.{ModuleTerm}
use Rattle.asn1_names.specs.TermViews.{module_terms}
use Rattle.gdmo_names.specs.FirstLabelFault.{AreFaultless}
use Rattle.gdmo_names.specs.PartTerms.{PartTerms, module_terms_of}
use Rattle.gdmo_names.specs.PartViews.{part_terms}
use Rattle.gdmo_names.specs.declared.parsed.Parsed.{Parsed}
use Rattle.linked_parts.specs.declared.linked.Linked.{Linked}
use Rattle.linked_parts.specs.declared.linked.LinkedName.{LinkedName}
use Rattle.linked_documents.specs.LinkedParts.{AreLinkedParts}
use Rattle.filled_syntaxes.specs.LinkedMeanings.{linked_arcs}
use Rattle.class_faults.specs.FirstClassFault.{AreFaultless as AreClassesFaultless}
use Rattle.class_faults.specs.StatedProperties.{TypeHas}
use Rattle.section_values.specs.SectionRecords.{IsStep}
use Rattle.schema_records.specs.MemberRecords.{AreRecords}
use Rattle.sound_laws.specs.ShortDefaults.{ValuesFit}
use Rattle.reference_laws.specs.SchemaReferences.{IsRuleThere}
use Rattle.reference_laws.proofs.PlaceLaws.{all_made}
use Rattle.reference_laws.proofs.ReferenceLaws.{rules_there}
use Rattle.alike_laws.proofs.TypeLaws.{modules_same}
use Rattle.rule_laws.specs.RuledSteps.{AreRuled}
use Rattle.rule_laws.specs.ShortRules.{AreShortRules, IsShortRule, IsShortStep}
use Rattle.rule_laws.proofs.StatedSteps.{stated_rule}
use Rattle.rule_laws.proofs.StepLaws.{step_whole}

module _ (parts : PartTerms) (ms : List ModuleTerm) (same : module_terms_of parts ≡ ms) (linked : Linked)
    (schema : Set) (are_linked : AreLinkedParts parts linked) (faultless : AreFaultless parts)
    (classes : AreClassesFaultless ms linked) (are : AreRecords ms linked schema)
    (fit : ValuesFit (linked_arcs linked))
    (sound : (name : LinkedName) (syntax : TypeSyntax) → TypeHas ms linked name syntax → IsSound syntax)
    (short : AreShortRules ms linked) (ruled : AreRuled ms linked schema) where
  rule_whole : (x : RuleRec) → IsRuleThere ms linked schema x → IsWholeRule schema x
  rule_whole x there =
      let stated = stated_rule parts linked are_linked there.stated there.listed in
      let are_short = All-contains (IsShortRule ms linked) linked.rules.items there.stated short there.listed in
      record {
        class = there.class;
        action = there.action;
        known = there.known;
        named = there.named;
        steps = all_made (IsStep ms linked there.stated) (IsWholeStep schema x there.action)
            there.stated.steps.items x.steps
            (λ step y has is. step_whole parts ms same linked schema are_linked faultless classes are fit sound x there
            stated (λ other k id listed. ruled there.stated x other k id there.listed there.is listed) has
            (All-contains (IsShortStep ms linked there.stated) there.stated.steps.items step are_short has) is)
            there.is.steps_are;
      }

  -- with any name for the modules of the parts
  all_whole : All (IsWholeRule schema) schema.rules
  all_whole n d within = rule_whole _ (rules_there ms linked schema are n d within)

-- each rule of the schema is whole
pub rules_whole : (parts : Parsed) (linked : Linked) (schema : Set) → AreLinkedParts (part_terms parts) linked →
    AreFaultless (part_terms parts) → AreClassesFaultless (module_terms parts.modules.items) linked →
    AreRecords (module_terms parts.modules.items) linked schema → ValuesFit (linked_arcs linked) →
    ((name : LinkedName) (syntax : TypeSyntax) →
    TypeHas (module_terms parts.modules.items) linked name syntax → IsSound syntax) →
    AreShortRules (module_terms parts.modules.items) linked →
    AreRuled (module_terms parts.modules.items) linked schema → All (IsWholeRule schema) schema.rules
rules_whole parts linked schema are_linked faultless classes are fit sound short ruled =
    all_whole (part_terms parts) (module_terms parts.modules.items) (modules_same parts) linked schema are_linked
    faultless classes are fit sound short ruled
