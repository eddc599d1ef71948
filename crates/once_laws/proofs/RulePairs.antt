-- RulePairs: no two rules of documents without a fault of labels are for one class and one action (docs/PROFILE.md,
-- sections 9 and 12).
use Rattle.std.specs.Prelude.{◌≡◌, ◌<◌, ℕ, List, Bool, true, false, Some, AllPairs, refl, slice_get}
use Rattle.std.specs.Bool.{Decides}
use Rattle.std.specs.Cmp.Lexicographic.{bytes_decides}
use Rattle.std.proofs.Common.{◌∙◌, ap, arith, inl, inr, sym}
use Rattle.std.proofs.Math.Path.{subst}
use Rattle.std.proofs.lemmas.Bool.{false≢true}
use Rattle.std.proofs.lemmas.Option.{same_Some, slice_get-get_or}
use Rattle.term_model.specs.WholeSet.{AreApart as AreApartRules}
use Rattle.term_model.specs.declared.rule.RuleRec.{RuleRec}
use Rattle.term_model.specs.declared.schema.Set.{Set}
use Rattle.asn1_names.specs.ModuleTerms.{ModuleTerm}
use Rattle.asn1_names.specs.StandardModule.{is_same_name}
use Rattle.gdmo_names.specs.FirstLabelFault.{AreFaultless}
use Rattle.gdmo_names.specs.FirstLabelFault.LabelFault.{KindWrong}
use Rattle.gdmo_names.specs.Mentions.{Role, wanted_kind}
use Rattle.gdmo_names.specs.PartTerms.{PartTerms, RuleTerm}
use Rattle.gdmo_names.specs.RuleWords.{IsOfAction, IsOfClass}
use Rattle.gdmo_names.specs.TemplateTerms.{ReferenceTerm}
use Rattle.gdmo_names.specs.TemplateTerms.TemplateKind.{ActionKind, ClassKind}
use Rattle.gdmo_names.specs.WrongKinds.WrongKindAt.{stated_twice}
use Rattle.gdmo_linking.specs.LinkedTables.{Links, table}
use Rattle.linked_parts.specs.declared.linked.Linked.{Linked}
use Rattle.linked_parts.specs.declared.linked.LinkedAction.{LinkedAction}
use Rattle.linked_parts.specs.declared.linked.LinkedClass.{LinkedClass}
use Rattle.linked_parts.specs.declared.linked.LinkedRule.{LinkedRule}
use Rattle.linked_templates.specs.LinkedMembers.{IsActionOf}
use Rattle.linked_templates.specs.LinkedTemplates.{IsClassOf}
use Rattle.linked_sections.specs.LinkedSections.{IsRule as IsLinkedRule}
use Rattle.linked_documents.specs.LinkedParts.{AreLinkedParts}
use Rattle.section_values.specs.SectionRecords.{IsRule}
use Rattle.schema_records.specs.ApartParts.{AreApart}
use Rattle.schema_records.specs.MemberRecords.{AreRecords}
use Rattle.registered_laws.specs.RegisteredApart.{AreRegisteredApart}
use Rattle.registered_laws.proofs.ApartLaws.{table_apart}
use Rattle.once_laws.proofs.ToldLaws.{told_each, told_pairs}

-- one rule stands before the other
record AreInOrder (rules : List RuleTerm) (one other : RuleTerm) : Type 0 where
  earlier : ℕ
  later : ℕ
  rising : earlier < later
  is_first : slice_get rules earlier ≡ Some one
  is_later : slice_get rules later ≡ Some other

all_in_order : (rules : List RuleTerm) → AllPairs (AreInOrder rules) rules
all_in_order rules i j d less within = record {
  earlier = i;
  later = j;
  rising = less;
  is_first = slice_get-get_or rules i d (omega (arith, less, within));
  is_later = slice_get-get_or rules j d within;
}

-- references that are linked by one number mean one template
same_target : (parts : PartTerms) (role : Role) {d e : ℕ} {x y : ReferenceTerm} {j k : ℕ}
    (one : Links parts d role x j) (other : Links parts e role y k) → k ≡ j → other.to ≡ one.to
same_target parts role one other same = same_Some other.to one.to
    (sym other.at ∙ ap (slice_get (table parts (wanted_kind role))) same ∙ one.at)

module _ (parts : PartTerms) (ms : List ModuleTerm) (linked : Linked) where
  -- a record is that of a rule
  record IsRecordOf (rule : RuleTerm) (x : RuleRec) : Type 0 where
    part : LinkedRule
    told : IsLinkedRule parts rule part
    is : IsRule ms linked part x

  module _ (faultless : AreFaultless parts) (classes : AreApart (λ (l : LinkedClass). l.head) linked.classes.items)
      (actions : AreApart (λ (l : LinkedAction). l.head) linked.actions.items) where
    never_twice : (one other : RuleTerm) (x y : RuleRec) → AreInOrder parts.rules one other → IsRecordOf one x →
        IsRecordOf other y → x.class ≡ y.class → x.action ≡ y.action → ⊥
    never_twice one other x y order first second class action =
        let its_class = second.told.is_class in
        let its_action = second.told.is_action in
        faultless KindWrong other.document other.class.at (stated_twice (record {
          earlier = order.earlier;
          later = order.later;
          rising = order.rising;
          first = one;
          is_first = order.is_first;
          is_later = order.is_later;
          class = its_class.to;
          of_class = its_class.means;
          first_of_class = subst (IsOfClass parts one) (same_target parts _ its_class first.told.is_class
              (classes first.part.class second.part.class y.class (first.is.is_class ∙ ap Some class)
              second.is.is_class)) first.told.is_class.means;
          action = its_action.to;
          of_action = its_action.means;
          first_of_action = subst (IsOfAction parts one) (same_target parts _ its_action first.told.is_action
              (actions first.part.action second.part.action y.action (first.is.is_action ∙ ap Some action)
              second.is.is_action)) first.told.is_action.means;
        }) refl refl)

    apart : (one other : RuleTerm) (x y : RuleRec) → AreInOrder parts.rules one other → IsRecordOf one x →
        IsRecordOf other y → AreApartRules x y
    apart one other x y order first second = by (is_same_name x.class y.class) (bytes_decides x.class y.class)
      where
        by : (b : Bool) → Decides b (x.class ≡ y.class) → AreApartRules x y
        by true decides = inr (λ same. never_twice one other x y order first second (decides.0 refl) same)
        by false decides = inl (λ same. absurd (false≢true (decides.1 same)))

pub rules_differ : (parts : PartTerms) (ms : List ModuleTerm) (linked : Linked) (schema : Set) →
    AreLinkedParts parts linked → AreFaultless parts → AreRegisteredApart parts → AreRecords ms linked schema →
    AllPairs AreApartRules schema.rules
rules_differ parts ms linked schema are faultless registered records =
    told_pairs (IsRecordOf parts ms linked) (AreInOrder parts.rules) AreApartRules
    (apart parts ms linked faultless
    (table_apart parts (λ l. l.head) (IsClassOf parts) faultless registered ClassKind linked.classes.items
    are.tables.classes)
    (table_apart parts (λ l. l.head) (IsActionOf parts) faultless registered ActionKind linked.actions.items
    are.tables.actions))
    (told_each (IsLinkedRule parts) (IsRule ms linked) (IsRecordOf parts ms linked)
    (λ rule part x told is. record { part = part; told = told; is = is }) parts.rules linked.rules.items schema.rules
    are.rules records.rules_are)
    (all_in_order parts.rules)
