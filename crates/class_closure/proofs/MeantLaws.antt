-- MeantLaws: what is known of types and values tells those of names that mean some (X.722, section 8; docs/PROFILE.md,
-- section 18).
use Rattle.std.proofs.Common.{◌≡◌, ◌<◌, ◌∙◌, ℕ, List, Option, IfSome, None, Some, arith, get_or, length, refl, sym}
use Rattle.std.specs.BTreeSet.{BTreeSet}
use Rattle.std.specs.Prelude.{All, slice_get}
use Rattle.std.proofs.lemmas.Option.{slice_get-get_or, slice_get_within}
use Rattle.term_values.specs.Syntaxes.{TypeSyntax}
use Rattle.asn1_names.specs.ModuleTerms.{ModuleTerm}
use Rattle.linked_parts.specs.declared.linked.Linked.{Linked}
use Rattle.linked_parts.specs.declared.linked.LinkedAction.{LinkedAction}
use Rattle.linked_parts.specs.declared.linked.LinkedAttribute.{LinkedAttribute}
use Rattle.linked_parts.specs.declared.linked.LinkedName.{LinkedName}
use Rattle.linked_parts.specs.declared.linked.LinkedNotification.{LinkedNotification}
use Rattle.linked_parts.specs.declared.linked.LinkedPackage.{LinkedPackage}
use Rattle.linked_parts.specs.declared.linked.LinkedRule.{LinkedRule}
use Rattle.linked_parts.specs.declared.linked.LinkedStep.{LinkedStep}
use Rattle.linked_parts.specs.declared.linked.LinkedStep.TheVariants as steps
use Rattle.linked_parts.specs.declared.linked.LinkedUse.{LinkedUse}
use Rattle.filled_syntaxes.specs.BadDefaults.{TellsFilled}
use Rattle.filled_syntaxes.specs.LinkedMeanings.{linked_arcs, linked_meaning}
use Rattle.class_faults.specs.AttributeSyntaxes.{AttributeHas}
use Rattle.class_faults.specs.StatedProperties.{TypeHas}
use Rattle.joined_properties.specs.OwnStatements.{Stated}
use Rattle.joined_properties.specs.declared.statement.Statement.{Statement}
use Rattle.joined_statements.specs.JoinedStatements.{Values}
use Rattle.joined_statements.specs.declared.held.Held.{Held}
use Rattle.joined_statements.specs.declared.held.Held.TheVariants.{NoValue, Nothing, One, Unequal}
use Rattle.linked_types.specs.AttributeTypes.{AreAttributeTypes, TellsAttributeType}
use Rattle.linked_types.specs.PartTypes.{AreTold, TellsAction, TellsMember, TellsNotification, TellsOptionalType}
use Rattle.linked_types.specs.TypeTables.{IsTypeAt}
use Rattle.linked_types.specs.declared.closing_parts.ClosingParts.{ClosingParts}
use Rattle.linked_types.specs.declared.member_types.MemberTypes.{MemberTypes}
use Rattle.linked_types.specs.declared.type_table.TypeTable.{TypeTable}
use Rattle.meant_names.specs.MeantNames.{AreMeant, HasSomeValue, HasSyntax, IsMeantUse}
use Rattle.meant_names.specs.MeantNames.{HaveSyntaxes as HaveTypes}
use Rattle.package_statements.specs.PackageStatements.{AreStatementsOf, IsStatementOf, TellsHeld, TellsPlaces}
use Rattle.schema_records.proofs.EachLaws.{all_at, there_of}
use Rattle.schema_records.specs.MeantParts.{HaveSyntaxes, MeanTypes, MeanValues, MeansType, MeansValue}
use Rattle.section_values.proofs.StepLaws.{identified}
use Rattle.section_values.specs.RegisteredSections.{HasStepSyntax, HasTypeSyntax, IsRegisteredAttribute}
use Rattle.section_values.specs.RegisteredSections.{IsRegisteredStep}
use Rattle.section_values.specs.RegisteredSections.{HasSyntax as HasAttributeSyntax}
use Rattle.class_closure.specs.ClosedRecords.{CanHaveRecords}
use Rattle.class_closure.specs.ClosingStates.{AreStatedParts, HaveMeanings}

-- ---- types

-- the type of a name whose place is told
some_syntax : (ms : List ModuleTerm) (linked : Linked) (table : TypeTable) (name : LinkedName) (place : ℕ) →
    IsTypeAt ms linked name.meaning table place → HasSyntax ms linked name →
    (syntax : TypeSyntax) × TypeHas ms linked name syntax
some_syntax ms linked table name place at some = by at.item.syntax at.told.filled
  where
    by : (told : Option TypeSyntax) → TellsFilled ms (linked_arcs linked) (linked_meaning ms name.meaning) told →
        (syntax : TypeSyntax) × TypeHas ms linked name syntax
    by None none_of = absurd (some none_of)
    by (Some syntax) has = (syntax, has)

optional_type : (ms : List ModuleTerm) (linked : Linked) (table : TypeTable) (name : Option LinkedName)
    (place : Option ℕ) → TellsOptionalType ms linked table name place → IfSome name (HasSyntax ms linked) →
    MeansType ms linked name
optional_type ms linked table None place told some = tt
optional_type ms linked table (Some name) None told some = absurd told
optional_type ms linked table (Some name) (Some place) told some = some_syntax ms linked table name place told some

permitted_type : (ms : List ModuleTerm) (linked : Linked) (table : TypeTable) (name : Option LinkedName) (places :
    BTreeSet ℕ) →
    TellsPlaces ms linked table name places → IfSome name (HasSyntax ms linked) → MeansType ms linked name
permitted_type ms linked table None places told some = tt
permitted_type ms linked table (Some name) places told some = some_syntax ms linked table name told.0 told.1 some

-- the syntax of an attribute
attribute_by : (ms : List ModuleTerm) (linked : Linked) (table : TypeTable) (k : ℕ) (place : Option ℕ) →
    TellsAttributeType ms linked table k place → ¬ ((syntax : TypeSyntax) → ¬ AttributeHas ms linked k syntax) →
    (syntax : TypeSyntax) × AttributeHas ms linked k syntax
attribute_by ms linked table k None told some = absurd (some told)
attribute_by ms linked table k (Some place) told some = by told.0.syntax refl
  where
    by : (held : Option TypeSyntax) → told.0.syntax ≡ held → (syntax : TypeSyntax) × AttributeHas ms linked k syntax
    by None is = absurd (some (λ syntax has. nothing syntax (sym is ∙ (told.2 syntax).1 has)))
      where
        nothing : (syntax : TypeSyntax) → None ≡ Some syntax → ⊥
        nothing syntax e = absurd (cc)
    by (Some syntax) is = (syntax, (told.2 syntax).0 is)

attribute_syntax : (ms : List ModuleTerm) (linked : Linked) (table : TypeTable) (types : List (Option ℕ)) →
    AreAttributeTypes ms linked table types → AreMeant ms linked → (k : ℕ) (x : LinkedAttribute) →
    slice_get linked.attributes.items k ≡ Some x → (syntax : TypeSyntax) × AttributeHas ms linked k syntax
attribute_syntax ms linked table types are meant k x at =
    let within : k < length linked.attributes.items = slice_get_within linked.attributes.items k x at in
    let size = are.size in
    let told = there_of types k (omega arith) in
    attribute_by ms linked table k told.0 (are.told k told.0 told.1) (meant.of_attributes k x at)

-- ---- values

some_value : (ms : List ModuleTerm) (linked : Linked) (values : Values) (name : Option LinkedName) (held : Held) →
    TellsHeld ms linked values name held → IfSome name (HasSomeValue ms linked) → MeansValue ms linked name
some_value ms linked values None held told some = tt
some_value ms linked values (Some name) Nothing told some = absurd told
some_value ms linked values (Some name) NoValue told some = absurd (some told)
some_value ms linked values (Some name) (One number) told some = (told.0, told.2)
some_value ms linked values (Some name) Unequal told some = absurd told

-- ---- packages

record MeansUse (ms : List ModuleTerm) (linked : Linked) (stated : LinkedUse) : Type 0 where
  permits : MeansType ms linked stated.permitted
  has_values : MeanValues ms linked stated

use_means : (ms : List ModuleTerm) (linked : Linked) (table : TypeTable) (values : Values) (stated : LinkedUse)
    (statement : Statement) → IsStatementOf ms linked table values stated statement → IsMeantUse ms linked stated →
    MeansUse ms linked stated
use_means ms linked table values stated statement says meant = record {
  permits = permitted_type ms linked table stated.permitted statement.joined.permitted says.permitted
      meant.of_permitted;
  has_values = record {
    of_default = some_value ms linked values stated.default_value statement.joined.default says.default_
        meant.of_default;
    of_initial = some_value ms linked values stated.initial_value statement.joined.initial says.initial_
        meant.of_initial;
  };
}

-- what is told of each element of a list, where what tells it is a list in step
each_told : {X Y : Type 0} (Tells : X → Y → Type 0) (If Then : X → Type 0) (xs : List X) (ys : List Y) →
    AreTold Tells xs ys → ((x : X) (y : Y) → Tells x y → If x → Then x) → All If xs → All Then xs
each_told Tells If Then xs ys told one all k d less =
    let size = told.size in
    let y = there_of ys k (omega arith) in
    one (get_or xs k d) y.0 (told.told k (get_or xs k d) y.0 (slice_get-get_or xs k d less) y.1) (all k d less)

packages_mean : (ms : List ModuleTerm) (parts : ClosingParts) (stated : Stated) → AreStatedParts ms parts stated →
    AreMeant ms parts.linked.now →
    All (λ (part : LinkedPackage). All (MeansUse ms parts.linked.now) part.attributes.items)
    parts.linked.now.packages.items
packages_mean ms parts stated known meant =
    let linked = parts.linked.now in
    let table = parts.table.now in
    let values = parts.values.now in
    each_told (AreStatementsOf ms linked table values)
    (λ (part : LinkedPackage). All (IsMeantUse ms linked) part.attributes.items)
    (λ (part : LinkedPackage). All (MeansUse ms linked) part.attributes.items) linked.packages.items stated
    known.are_stated
    (λ part statements says. each_told (IsStatementOf ms linked table values) (IsMeantUse ms linked)
    (MeansUse ms linked) part.attributes.items statements.items says (use_means ms linked table values))
    meant.of_packages

-- ---- actions and notifications

types_mean : (ms : List ModuleTerm) (linked : Linked) (table : TypeTable) (information reply : Option LinkedName)
    (types : MemberTypes) → TellsMember ms linked table information reply types →
    HaveTypes ms linked information reply → MeanTypes ms linked information reply
types_mean ms linked table information reply types told meant = record {
  of_information = optional_type ms linked table information types.information told.of_information meant.of_information;
  of_reply = optional_type ms linked table reply types.reply told.of_reply meant.of_reply;
}

syntaxes_known : (ms : List ModuleTerm) (parts : ClosingParts) (stated : Stated) → AreStatedParts ms parts stated →
    AreMeant ms parts.linked.now → HaveSyntaxes ms parts.linked.now
syntaxes_known ms parts stated known meant =
    let linked = parts.linked.now in
    let table = parts.table.now in
    let types = known.are_parts.types_are in
    record {
      of_attributes = attribute_syntax ms linked table parts.types.now.attributes.types.items
          types.of_attributes.types_are
          meant;
      of_actions = each_told (TellsAction ms linked table)
          (λ (x : LinkedAction). HaveTypes ms linked x.information x.reply)
          (λ (x : LinkedAction). MeanTypes ms linked x.information x.reply)
          linked.actions.items parts.types.now.actions.items types.of_actions
          (λ x told. types_mean ms linked table x.information x.reply told) meant.of_actions;
      of_notifications = each_told (TellsNotification ms linked table)
          (λ (x : LinkedNotification). HaveTypes ms linked x.information x.reply)
          (λ (x : LinkedNotification). MeanTypes ms linked x.information x.reply)
          linked.notifications.items parts.types.now.notifications.items types.of_notifications
          (λ x told. types_mean ms linked table x.information x.reply told) meant.of_notifications;
      of_packages = λ k part less j use_ within.
          (packages_mean ms parts stated known meant k part less j use_ within).permits;
    }

-- ---- rules and instances

type_of_step : (ms : List ModuleTerm) (linked : Linked) (name : Option LinkedName) → MeansType ms linked name →
    HasTypeSyntax ms linked name
type_of_step ms linked None means = tt
type_of_step ms linked (Some name) means = means

information_known : (ms : List ModuleTerm) (linked : Linked) (k : ℕ) → HaveSyntaxes ms linked →
    (part : LinkedNotification) → slice_get linked.notifications.items k ≡ Some part →
    HasTypeSyntax ms linked part.information
information_known ms linked k have part at = type_of_step ms linked part.information
    (all_at (λ (x : LinkedNotification). MeanTypes ms linked x.information x.reply) linked.notifications.items k part
    have.of_notifications at).of_information

reply_known : (ms : List ModuleTerm) (linked : Linked) (k : ℕ) → HaveSyntaxes ms linked → (part : LinkedAction) →
    slice_get linked.actions.items k ≡ Some part → HasTypeSyntax ms linked part.reply
reply_known ms linked k have part at = type_of_step ms linked part.reply
    (all_at (λ (x : LinkedAction). MeanTypes ms linked x.information x.reply) linked.actions.items k part
    have.of_actions
    at).of_reply

attribute_known : (ms : List ModuleTerm) (linked : Linked) (k : ℕ) → HaveSyntaxes ms linked →
    IsRegisteredAttribute linked k → HasAttributeSyntax ms linked k
attribute_known ms linked k have registered =
    let there = identified (λ (x : LinkedAttribute). x.head) linked.attributes.items k registered.0 registered.1 in
    have.of_attributes k there.0 there.1

step_known : (ms : List ModuleTerm) (linked : Linked) (rule : LinkedRule) (step : LinkedStep) →
    HaveSyntaxes ms linked → IsRegisteredStep linked step → HasStepSyntax ms linked rule step
step_known ms linked rule (steps.SetArgument k) have registered = tt
step_known ms linked rule (steps.SetValue k text) have registered = attribute_known ms linked k have registered
step_known ms linked rule (steps.Add number k) have registered = tt
step_known ms linked rule (steps.Emit k None) have registered = tt
step_known ms linked rule (steps.Emit k (Some text)) have registered = information_known ms linked k have
step_known ms linked rule steps.ReplyArgument have registered = tt
step_known ms linked rule (steps.ReplyAttribute k) have registered = tt
step_known ms linked rule (steps.ReplyValue text) have registered = reply_known ms linked rule.action have

-- ---- all of them

pub meanings_known : (ms : List ModuleTerm) (parts : ClosingParts) (stated : Stated) → AreStatedParts ms parts stated →
    CanHaveRecords ms parts.linked.now → HaveMeanings ms parts.linked.now
meanings_known ms parts stated known can =
    let linked = parts.linked.now in
    let have = syntaxes_known ms parts stated known can.are_meant in
    record {
      have_syntaxes = have;
      have_values = λ k part less j use_ within.
          (packages_mean ms parts stated known can.are_meant k part less j use_ within).has_values;
      rules_have_syntaxes = λ rule step there stands.
          step_known ms linked rule step have ((can.rules_registered rule there).of_steps step stands);
      instances_have_syntaxes = λ instance pair there stands.
          let x = can.instances_there instance pair there stands in have.of_attributes pair.attribute x.0 x.1;
    }
