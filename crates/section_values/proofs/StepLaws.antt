-- StepLaws: the texts of steps that denote no value, and the records that are told of steps and the values of pairs.
use Rattle.std.proofs.Common.{◌≡◌, ◌∙◌, ℕ, List, Option, None, Some, refl, sym, inl, inr}
use Rattle.std.specs.Prelude.{◌↔◌, option_and_then, option_map, slice_get}
use Rattle.std.proofs.Math.Path.{subst}
use Rattle.std.proofs.lemmas.Option.{same_Some}
use Rattle.asn1_values_syntax.specs.ValueTrees.{value_tree}
use Rattle.asn1_values_syntax.specs.declared.value.ValueText.{ValueText}
use Rattle.asn1_leaf_values.specs.TextValues.{first_place}
use Rattle.term_values.specs.Syntaxes.{TypeSyntax}
use Rattle.term_values.specs.Typed.{TypedValue}
use Rattle.term_model.specs.declared.rule.RuleStep.{RuleStep}
use Rattle.term_model.specs.declared.rule.RuleStep.TheVariants as steps
use Rattle.asn1_names.specs.ModuleTerms.{ModuleTerm}
use Rattle.linked_parts.specs.declared.linked.Linked.{Linked}
use Rattle.linked_parts.specs.declared.linked.LinkedAction.{LinkedAction}
use Rattle.linked_parts.specs.declared.linked.LinkedHead.{LinkedHead}
use Rattle.linked_parts.specs.declared.linked.LinkedName.{LinkedName}
use Rattle.linked_parts.specs.declared.linked.LinkedNotification.{LinkedNotification}
use Rattle.linked_parts.specs.declared.linked.LinkedPair.{LinkedPair}
use Rattle.linked_parts.specs.declared.linked.LinkedRule.{LinkedRule}
use Rattle.linked_parts.specs.declared.linked.LinkedStep.{LinkedStep}
use Rattle.linked_parts.specs.declared.linked.LinkedStep.TheVariants as linked_steps
use Rattle.filled_syntaxes.specs.LinkedMeanings.{linked_arcs}
use Rattle.filled_syntaxes.specs.NotedTexts.{NotesTexts}
use Rattle.filled_syntaxes.specs.SaidTexts.{BadText, DenotesNone, TellsValue}
use Rattle.filled_syntaxes.specs.declared.bad_texts.TextPlace.{TextPlace}
use Rattle.filled_syntaxes.proofs.NotingTexts.{none_noted, noted_by}
use Rattle.class_faults.specs.AttributeSyntaxes.{AttributeHas}
use Rattle.class_faults.specs.BadValues.{IsBadFor, IsBadForAttribute, IsBadStep}
use Rattle.class_faults.specs.BadValues.IsBadStep.{set_value as bad_set_value, emit as bad_emit, reply as bad_reply}
use Rattle.class_faults.specs.StatedProperties.{TypeHas}
use Rattle.linked_types.specs.PartIdentifiers.{IsAttributeId, IsIdentified}
use Rattle.linked_types.specs.PartTypes.{TellsOptionalType}
use Rattle.linked_types.specs.TypeTables.{syntax_at}
use Rattle.linked_types.specs.declared.type_table.TypeTable.{TypeTable}
use Rattle.linked_types.proofs.NamingLaws.{optional_syntax}
use Rattle.section_values.specs.BadSections.{BadInformation}
use Rattle.section_values.specs.BadSections.{BadOfStep, BadReply, InDocument, IsBadIn}
use Rattle.section_values.specs.RegisteredSections.{HasTypeSyntax, IsRegisteredAttribute}
use Rattle.section_values.specs.SectionRecords.{IsStep, IsValueOfType}
use Rattle.section_values.specs.SectionRecords.IsStep.{emit, reply_value}
use Rattle.section_values.specs.SectionRecords.IsStep.{set_value}
use Rattle.section_values.specs.ToldSections.{IsGoodStep, TellsPair}
use Rattle.section_values.specs.ToldSections.{TellsSome, TellsStep}

pub not_there : {X : Type 0} (found : Option X) (x : X) → found ≡ None → found ≡ Some x → ⊥
not_there found x gone there = absurd (cc)

-- ---- texts of a document

pub in_document : (document : ℕ) (One Other : ℕ → Type 0) {before after : Option TextPlace} →
    ((at : ℕ) → One at → Other at) → ((at : ℕ) → Other at → One at) →
    NotesTexts (InDocument document One) before after →
    NotesTexts (InDocument document Other) before after
in_document document One Other to from h = noted_by (InDocument document One) (InDocument document Other)
    (λ place text. (text.0, to place.token text.1)) (λ place text. (text.0, from place.token text.1)) h

pub nowhere : (document : ℕ) (Bad : ℕ → Type 0) (before : Option TextPlace) → ((at : ℕ) → ¬ Bad at) →
    NotesTexts (InDocument document Bad) before before
nowhere document Bad before not_so =
    none_noted (InDocument document Bad) before (λ place text. not_so place.token text.1)

-- one for which there is a syntax
pub in_syntax : (linked : Linked) (found : Option TypeSyntax) (syntax : TypeSyntax) (text : ValueText) (document : ℕ)
    {before after : Option TextPlace} → found ≡ Some syntax →
    NotesTexts (BadText (linked_arcs linked) syntax (value_tree text) document) before after →
    NotesTexts (InDocument document (IsBadIn linked found text)) before after
in_syntax linked found syntax text document is h =
    noted_by (BadText (linked_arcs linked) syntax (value_tree text) document)
    (InDocument document (IsBadIn linked found text))
    (λ place bad. (bad.0, (syntax, is, bad.1)))
    (λ place bad. (
      bad.0,
      subst (λ z. DenotesNone (linked_arcs linked) z (value_tree text) place.token)
          (same_Some bad.1.0 syntax (sym bad.1.1 ∙ is)) bad.1.2,
    )) h

-- a text of a type that is named
pub typed_noted : (ms : List ModuleTerm) (linked : Linked) (table : TypeTable) (type : Option LinkedName)
    (name : LinkedName) (place : Option ℕ) (found : Option TypeSyntax) (text : ValueText) (document : ℕ)
    {before after : Option TextPlace} → type ≡ Some name → found ≡ syntax_at table place →
    TellsOptionalType ms linked table type place →
    NotesTexts (InDocument document (IsBadIn linked found text)) before after →
    NotesTexts (InDocument document (IsBadFor ms linked type text)) before after
typed_noted ms linked table type name place found text document is found_is tells h =
    in_document document (IsBadIn linked found text) (IsBadFor ms linked type text)
    (λ at bad. inr (name, (bad.0, is, (exact name bad.0 is).0 (sym found_is ∙ bad.1), bad.2))) from h
  where
    exact : (its_name : LinkedName) (syntax : TypeSyntax) → type ≡ Some its_name →
        (syntax_at table place ≡ Some syntax) ↔ TypeHas ms linked its_name syntax
    exact its_name syntax e = optional_syntax ms linked table its_name place syntax
        (subst (λ o. TellsOptionalType ms linked table o place) e tells)

    from : (at : ℕ) → IsBadFor ms linked type text at → IsBadIn linked found text at
    from at (inl bad) = absurd (not_there type name bad.0 is)
    from at (inr bad) = (bad.1.0, found_is ∙ (exact bad.0 bad.1.0 bad.1.1).1 bad.1.2, bad.1.3)

-- a text of a notification's information, and of an action's reply
pub information_noted : (ms : List ModuleTerm) (linked : Linked) (k : ℕ) (text : ValueText) (document : ℕ)
    (part : LinkedNotification) {before after : Option TextPlace} → slice_get linked.notifications.items k ≡ Some part →
    NotesTexts (InDocument document (IsBadFor ms linked part.information text)) before after →
    NotesTexts (InDocument document (BadInformation ms linked k text)) before after
information_noted ms linked k text document part at h =
    in_document document (IsBadFor ms linked part.information text) (BadInformation ms linked k text)
    (λ place bad. (part, at, bad))
    (λ place bad. subst (λ (x : LinkedNotification). IsBadFor ms linked x.information text place)
    (same_Some bad.0 part (sym bad.1 ∙ at)) bad.2) h

pub reply_noted : (ms : List ModuleTerm) (linked : Linked) (k : ℕ) (text : ValueText) (document : ℕ)
    (part : LinkedAction) {before after : Option TextPlace} → slice_get linked.actions.items k ≡ Some part →
    NotesTexts (InDocument document (IsBadFor ms linked part.reply text)) before after →
    NotesTexts (InDocument document (BadReply ms linked k text)) before after
reply_noted ms linked k text document part at h =
    in_document document (IsBadFor ms linked part.reply text) (BadReply ms linked k text)
    (λ place bad. (part, at, bad))
    (λ place bad. subst (λ (x : LinkedAction). IsBadFor ms linked x.reply text place)
    (same_Some bad.0 part (sym bad.1 ∙ at)) bad.2) h

pub no_information : (ms : List ModuleTerm) (linked : Linked) (k : ℕ) (text : ValueText) (document : ℕ)
    (before : Option TextPlace) → slice_get linked.notifications.items k ≡ None →
    NotesTexts (InDocument document (BadInformation ms linked k text)) before before
no_information ms linked k text document before gone = nowhere document (BadInformation ms linked k text) before
    (λ at bad. not_there (slice_get linked.notifications.items k) bad.0 gone bad.1)

pub no_reply : (ms : List ModuleTerm) (linked : Linked) (k : ℕ) (text : ValueText) (document : ℕ)
    (before : Option TextPlace) → slice_get linked.actions.items k ≡ None →
    NotesTexts (InDocument document (BadReply ms linked k text)) before before
no_reply ms linked k text document before gone = nowhere document (BadReply ms linked k text) before
    (λ at bad. not_there (slice_get linked.actions.items k) bad.0 gone bad.1)

-- ---- what is told of a step

-- a text of an attribute
pub attribute_told : {ms : List ModuleTerm} {linked : Linked} (pair : LinkedPair) (told : Option TypedValue) →
    ((syntax : TypeSyntax) → AttributeHas ms linked pair.attribute syntax →
    TellsValue (linked_arcs linked) syntax (value_tree pair.value) told) → TellsPair ms linked pair told
attribute_told pair None tells good =
    let has = good.has_syntax in
    let bad = tells has.0 has.1 in
    good.denotes bad.0 (has.0, has.1, bad.1)
attribute_told pair (Some value) tells good =
    let has = good.has_syntax in (has.0, has.1, tells has.0 has.1)

-- a text of a type that may be named
pub type_told : (ms : List ModuleTerm) (linked : Linked) (type : Option LinkedName) (text : ValueText)
    (told : Option TypedValue) → HasTypeSyntax ms linked type → ((at : ℕ) → ¬ IsBadFor ms linked type text at) →
    ((name : LinkedName) (syntax : TypeSyntax) → type ≡ Some name → TypeHas ms linked name syntax →
    TellsValue (linked_arcs linked) syntax (value_tree text) told) → TellsSome (IsValueOfType ms linked type text) told
type_told ms linked None text told has good tells = absurd (good (first_place text) (inl (refl, refl)))
type_told ms linked (Some name) text None has good tells =
    let bad = tells name has.0 refl has.1 in
    absurd (good bad.0 (inr (name, (has.0, refl, has.1, bad.1))))
type_told ms linked (Some name) text (Some value) has good tells = (has.0, has.1, tells name has.0 refl has.1)

-- the template of an identifier
pub identified : {L : Type 0} (head : L → LinkedHead) (xs : List L) (k : ℕ) (id : List ℕ) →
    IsIdentified head xs k id → (x : L) × (slice_get xs k ≡ Some x) × ((head x).identifier ≡ Some id)
identified {L} head xs k id is = by (slice_get xs k) is
  where
    by : (found : Option L) → option_and_then (λ x. (head x).identifier) found ≡ Some id →
        (x : L) × (found ≡ Some x) × ((head x).identifier ≡ Some id)
    by None is = absurd (cc)
    by (Some x) is = (x, refl, is)

-- a step without a value
pub id_told : {ms : List ModuleTerm} {linked : Linked} {rule : LinkedRule} (step : LinkedStep) (k : ℕ)
    (make : List ℕ → RuleStep) (told : Option RuleStep) → IsRegisteredAttribute linked k →
    ((id : List ℕ) → IsAttributeId linked k id → told ≡ Some (make id)) →
    ((id : List ℕ) → IsAttributeId linked k id → IsStep ms linked rule step (make id)) →
    TellsSome (IsStep ms linked rule step) told
id_told {ms} {linked} {rule} step k make told (id, known) made is =
    subst (TellsSome (IsStep ms linked rule step)) (sym (made id known)) (is id known)

-- ---- texts of steps

abbrev pub BadHere : List ModuleTerm → Linked → LinkedRule → LinkedStep → ℕ → Type 0
BadHere ms linked rule (linked_steps.SetArgument k) at = ⊥
BadHere ms linked rule (linked_steps.SetValue k text) at = IsBadForAttribute ms linked k text at
BadHere ms linked rule (linked_steps.Add number k) at = ⊥
BadHere ms linked rule (linked_steps.Emit k None) at = ⊥
BadHere ms linked rule (linked_steps.Emit k (Some text)) at = BadInformation ms linked k text at
BadHere ms linked rule linked_steps.ReplyArgument at = ⊥
BadHere ms linked rule (linked_steps.ReplyAttribute k) at = ⊥
BadHere ms linked rule (linked_steps.ReplyValue text) at = BadReply ms linked rule.action text at

pub bad_is : {ms : List ModuleTerm} {linked : Linked} {rule : LinkedRule} {step : LinkedStep} {at : ℕ} →
    IsBadStep ms linked rule step at → BadHere ms linked rule step at
bad_is (bad_set_value bad) = bad
bad_is (bad_emit {place} {at} {text} {notification} there bad) = (notification, there, bad)
bad_is (bad_reply {at} {text} {action} there bad) = (action, there, bad)

pub is_bad : {ms : List ModuleTerm} {linked : Linked} {rule : LinkedRule} (step : LinkedStep) (at : ℕ) →
    BadHere ms linked rule step at → IsBadStep ms linked rule step at
is_bad (linked_steps.SetArgument k) at bad = absurd bad
is_bad (linked_steps.SetValue k text) at bad = bad_set_value bad
is_bad (linked_steps.Add number k) at bad = absurd bad
is_bad (linked_steps.Emit k None) at bad = absurd bad
is_bad (linked_steps.Emit k (Some text)) at bad = bad_emit bad.1 bad.2
is_bad linked_steps.ReplyArgument at bad = absurd bad
is_bad (linked_steps.ReplyAttribute k) at bad = absurd bad
is_bad (linked_steps.ReplyValue text) at bad = bad_reply bad.1 bad.2

-- the texts of a step are those that are bad here
pub step_noted : (ms : List ModuleTerm) (linked : Linked) (rule : LinkedRule) (step : LinkedStep) (document : ℕ)
    {before after : Option TextPlace} → rule.document ≡ document →
    NotesTexts (InDocument document (BadHere ms linked rule step)) before after →
    NotesTexts (BadOfStep ms linked rule step) before after
step_noted ms linked rule step document {before = before} {after = after} is h =
    subst (λ d. NotesTexts (InDocument d (IsBadStep ms linked rule step)) before after) (sym is)
    (in_document document (BadHere ms linked rule step) (IsBadStep ms linked rule step) (is_bad step)
    (λ at bad. bad_is bad) h)

-- ---- records of steps

pub set_told : (ms : List ModuleTerm) (linked : Linked) (rule : LinkedRule) (k : ℕ) (text : ValueText)
    (value : TypedValue) (told : Option RuleStep) → ((syntax : TypeSyntax) → AttributeHas ms linked k syntax →
    TellsValue (linked_arcs linked) syntax (value_tree text) (Some value)) →
    ((id : List ℕ) → IsAttributeId linked k id → told ≡ Some (steps.SetValue id value)) →
    TellsStep ms linked rule (linked_steps.SetValue k text) told
set_told ms linked rule k text value told tells made good =
    let has = good.has_syntax in
    id_told (linked_steps.SetValue k text) k (λ id. steps.SetValue id value) told good.registered made
    (λ id known. set_value known (has.0, has.1, tells has.0 has.1))

pub set_none : (ms : List ModuleTerm) (linked : Linked) (rule : LinkedRule) (k : ℕ) (text : ValueText) →
    ((syntax : TypeSyntax) → AttributeHas ms linked k syntax →
    TellsValue (linked_arcs linked) syntax (value_tree text) None) →
    TellsStep ms linked rule (linked_steps.SetValue k text) None
set_none ms linked rule k text tells good =
    let has = good.has_syntax in
    let bad = tells has.0 has.1 in good.denotes bad.0 (bad_set_value (has.0, has.1, bad.1))

-- what is told of a value of a notification's information
abbrev pub TellsInformation : List ModuleTerm → Linked → ℕ → ValueText → Option TypedValue → Type 0
TellsInformation ms linked k text told = (part : LinkedNotification) (name : LinkedName) (syntax : TypeSyntax) →
    slice_get linked.notifications.items k ≡ Some part → part.information ≡ Some name → TypeHas ms linked name syntax →
    TellsValue (linked_arcs linked) syntax (value_tree text) told

information_told : (ms : List ModuleTerm) (linked : Linked) (rule : LinkedRule) (k : ℕ) (text : ValueText)
    (told : Option TypedValue) (part : LinkedNotification) → slice_get linked.notifications.items k ≡ Some part →
    TellsInformation ms linked k text told → IsGoodStep ms linked rule (linked_steps.Emit k (Some text)) →
    TellsSome (IsValueOfType ms linked part.information text) told
information_told ms linked rule k text told part at tells good =
    type_told ms linked part.information text told (good.has_syntax part at)
    (λ place bad. good.denotes place (bad_emit at bad))
    (λ name syntax named has. tells part name syntax at named has)

pub emit_told : (ms : List ModuleTerm) (linked : Linked) (rule : LinkedRule) (k : ℕ) (text : ValueText)
    (value : TypedValue) (told : Option RuleStep) → TellsInformation ms linked k text (Some value) →
    ((id : List ℕ) → IsIdentified (λ x. x.head) linked.notifications.items k id →
    told ≡ Some (steps.Emit id (Some value))) → TellsStep ms linked rule (linked_steps.Emit k (Some text)) told
emit_told ms linked rule k text value told tells made good =
    let known = good.registered in
    let part = identified (λ (x : LinkedNotification). x.head) linked.notifications.items k known.0 known.1 in
    subst (TellsSome (IsStep ms linked rule (linked_steps.Emit k (Some text)))) (sym (made known.0 known.1))
    (emit part.1 part.2 (information_told ms linked rule k text (Some value) part.0 part.1 tells good))

pub emit_none : (ms : List ModuleTerm) (linked : Linked) (rule : LinkedRule) (k : ℕ) (text : ValueText) →
    TellsInformation ms linked k text None → TellsStep ms linked rule (linked_steps.Emit k (Some text)) None
emit_none ms linked rule k text tells good =
    let known = good.registered in
    let part = identified (λ (x : LinkedNotification). x.head) linked.notifications.items k known.0 known.1 in
    information_told ms linked rule k text None part.0 part.1 tells good

pub emit_alone : (ms : List ModuleTerm) (linked : Linked) (rule : LinkedRule) (k : ℕ) (told : Option RuleStep) →
    ((id : List ℕ) → IsIdentified (λ x. x.head) linked.notifications.items k id → told ≡ Some (steps.Emit id None)) →
    TellsStep ms linked rule (linked_steps.Emit k None) told
emit_alone ms linked rule k told made good =
    let known = good.registered in
    let part = identified (λ (x : LinkedNotification). x.head) linked.notifications.items k known.0 known.1 in
    subst (TellsSome (IsStep ms linked rule (linked_steps.Emit k None))) (sym (made known.0 known.1))
    (emit part.1 part.2 tt)

-- what is told of a value of an action's reply
abbrev pub TellsReply : List ModuleTerm → Linked → ℕ → ValueText → Option TypedValue → Type 0
TellsReply ms linked k text told = (part : LinkedAction) (name : LinkedName) (syntax : TypeSyntax) →
    slice_get linked.actions.items k ≡ Some part → part.reply ≡ Some name → TypeHas ms linked name syntax →
    TellsValue (linked_arcs linked) syntax (value_tree text) told

-- the record, where there is a value
abbrev pub reply_step : Option TypedValue → Option RuleStep
reply_step value = option_map (λ (x : TypedValue). steps.ReplyValue x) value

pub reply_told : (ms : List ModuleTerm) (linked : Linked) (rule : LinkedRule) (text : ValueText)
    (told : Option TypedValue) → TellsReply ms linked rule.action text told →
    TellsStep ms linked rule (linked_steps.ReplyValue text) (reply_step told)
reply_told ms linked rule text told tells good =
    let known = good.of_action in
    let part = identified (λ (x : LinkedAction). x.head) linked.actions.items rule.action known.0 known.1 in
    by told part.1 (type_told ms linked part.0.reply text told (good.has_syntax part.0 part.1)
    (λ place bad. good.denotes place (bad_reply part.1 bad))
    (λ name syntax named has. tells part.0 name syntax part.1 named has))
  where
    by : {action : LinkedAction} (told : Option TypedValue) → slice_get linked.actions.items rule.action ≡ Some action →
        TellsSome (IsValueOfType ms linked action.reply text) told →
        TellsSome (IsStep ms linked rule (linked_steps.ReplyValue text)) (reply_step told)
    by None at h = absurd h
    by (Some value) at h = reply_value at h
