-- SectionLaws: the texts of all rules and of all instances that denote no value, and the records of rules.
use Rattle.std.proofs.Common.{◌≡◌, ◌⊎◌, ◌∙◌, ℕ, List, Option, Some, refl, sym, inl, inr}
use Rattle.std.specs.Prelude.{Contains, slice_get}
use Rattle.std.proofs.Math.Path.{subst}
use Rattle.term_model.specs.declared.rule.RuleRec.{RuleRec}
use Rattle.term_model.specs.declared.rule.RuleStep.{RuleStep}
use Rattle.asn1_names.specs.ModuleTerms.{ModuleTerm}
use Rattle.linked_parts.specs.declared.linked.Linked.{Linked}
use Rattle.linked_parts.specs.declared.linked.LinkedInstance.{LinkedInstance}
use Rattle.linked_parts.specs.declared.linked.LinkedPair.{LinkedPair}
use Rattle.linked_parts.specs.declared.linked.LinkedRule.{LinkedRule}
use Rattle.filled_syntaxes.specs.NotedTexts.{EachText, NotesTexts}
use Rattle.filled_syntaxes.specs.declared.bad_texts.TextPlace.{TextPlace}
use Rattle.filled_syntaxes.proofs.NotingTexts.{noted_by}
use Rattle.class_faults.specs.BadValues.{IsBadForAttribute}
use Rattle.linked_types.specs.KnownParts.{identifier_at}
use Rattle.linked_types.specs.PartIdentifiers.{AreEach}
use Rattle.section_values.specs.BadSections.{BadOfInstance, BadOfInstances, BadOfRule, BadOfRules}
use Rattle.section_values.specs.RegisteredSections.{AreRegisteredRules, HaveInstanceSyntaxes}
use Rattle.section_values.specs.RegisteredSections.{HaveRuleSyntaxes}
use Rattle.section_values.specs.SectionRecords.{IsRule, IsStep}
use Rattle.section_values.specs.ToldSections.{HoldsOfEach, IsGoodInstance, IsGoodPair, IsGoodRule, IsGoodStep}
use Rattle.section_values.specs.ToldSections.{TellsRule, TellsSome}
use Rattle.section_values.proofs.ReadingLaws.{contained_get, get_contained}

-- ---- rules and instances

pub rule_told : (ms : List ModuleTerm) (linked : Linked) (rule : LinkedRule) (class action : Option (List ℕ))
    (its_steps : List RuleStep) (told : Option RuleRec) →
    class ≡ identifier_at (λ x. x.head) linked.classes.items rule.class →
    action ≡ identifier_at (λ x. x.head) linked.actions.items rule.action →
    (HoldsOfEach (IsGoodStep ms linked rule) rule.steps.items →
    AreEach (IsStep ms linked rule) rule.steps.items its_steps) →
    ((its_class its_action : List ℕ) → class ≡ Some its_class → action ≡ Some its_action →
    told ≡ Some (record { class = its_class; action = its_action; steps = its_steps })) → TellsRule ms linked rule told
rule_told ms linked rule class action its_steps told class_is action_is steps_are made good =
    let known = good.registered in
    subst (TellsSome (IsRule ms linked rule))
    (sym (made known.of_class.0 known.of_action.0 (class_is ∙ known.of_class.1) (action_is ∙ known.of_action.1)))
    (record {
      is_class = known.of_class.1;
      is_action = known.of_action.1;
      steps_are = steps_are good.of_steps;
    })

pub rules_noted : (ms : List ModuleTerm) (linked : Linked) {before after : Option TextPlace} →
    NotesTexts (EachText (λ k. BadOfRule ms linked) linked.rules.items) before after →
    NotesTexts (BadOfRules ms linked) before after
rules_noted ms linked h = noted_by (EachText (λ k. BadOfRule ms linked) linked.rules.items) (BadOfRules ms linked)
    (λ place text. let inner = text.1.2 in record {
      rule = text.1.0;
      there = get_contained linked.rules.items text.0 text.1.0 text.1.1;
      in_document = inner.1.2.0;
      step = inner.1.0;
      says = get_contained text.1.0.steps.items inner.0 inner.1.0 inner.1.1;
      bad = inner.1.2.1;
    })
    (λ place text.
    let one = contained_get linked.rules.items text.rule text.there in
    let other = contained_get text.rule.steps.items text.step text.says in
    (one.0, (text.rule, one.1, (other.0, (text.step, other.1, (text.in_document, text.bad)))))) h

pub instances_noted : (ms : List ModuleTerm) (linked : Linked) {before after : Option TextPlace} →
    NotesTexts (EachText (λ k. BadOfInstance ms linked) linked.instances.items) before after →
    NotesTexts (BadOfInstances ms linked) before after
instances_noted ms linked h =
    noted_by (EachText (λ k. BadOfInstance ms linked) linked.instances.items) (BadOfInstances ms linked)
    (λ place text. to place text.0 text.1.0 text.1.1 text.1.2)
    (λ place text.
    let one = contained_get linked.instances.items text.instance text.there in
    (one.0, (text.instance, one.1, from place text.instance text.pair text.in_document text.bad text.says))) h
  where
    to : (place : TextPlace) (k : ℕ) (x : LinkedInstance) → slice_get linked.instances.items k ≡ Some x →
        BadOfInstance ms linked x place → BadOfInstances ms linked place
    to place k x at (inl text) = record {
      instance = x;
      there = get_contained linked.instances.items k x at;
      in_document = text.1.2.0;
      pair = text.1.0;
      says = inl (get_contained x.name.items text.0 text.1.0 text.1.1);
      bad = text.1.2.1;
    }
    to place k x at (inr text) = record {
      instance = x;
      there = get_contained linked.instances.items k x at;
      in_document = text.1.2.0;
      pair = text.1.0;
      says = inr (get_contained x.given.items text.0 text.1.0 text.1.1);
      bad = text.1.2.1;
    }

    from : (place : TextPlace) (x : LinkedInstance) (pair : LinkedPair) → x.document ≡ place.document →
        IsBadForAttribute ms linked pair.attribute pair.value place.token →
        Contains x.name.items pair ⊎ Contains x.given.items pair → BadOfInstance ms linked x place
    from place x pair here bad (inl says) =
        let at = contained_get x.name.items pair says in inl (at.0, (pair, at.1, (here, bad)))
    from place x pair here bad (inr says) =
        let at = contained_get x.given.items pair says in inr (at.0, (pair, at.1, (here, bad)))

-- what is asked of all rules is asked of each
pub good_rules : (ms : List ModuleTerm) (linked : Linked) → AreRegisteredRules linked → HaveRuleSyntaxes ms linked →
    ((place : TextPlace) → ¬ BadOfRules ms linked place) → HoldsOfEach (IsGoodRule ms linked) linked.rules.items
good_rules ms linked registered have no_bad k rule at =
    let there = get_contained linked.rules.items k rule at in
    let known = registered rule there in record {
      registered = known;
      of_steps = λ j step says.
          let within = get_contained rule.steps.items j step says in record {
            of_action = known.of_action;
            registered = known.of_steps step within;
            has_syntax = have rule step there within;
            denotes = λ token bad. no_bad (record { document = rule.document; token = token }) (record {
              rule = rule;
              there = there;
              in_document = refl;
              step = step;
              says = within;
              bad = bad;
            });
          };
    }

pub good_instances : (ms : List ModuleTerm) (linked : Linked) → HaveInstanceSyntaxes ms linked →
    ((place : TextPlace) → ¬ BadOfInstances ms linked place) →
    HoldsOfEach (IsGoodInstance ms linked) linked.instances.items
good_instances ms linked have no_bad k x at = record {
  of_name = λ j pair says. good pair (inl (get_contained x.name.items j pair says));
  of_given = λ j pair says. good pair (inr (get_contained x.given.items j pair says));
}
  where
    good : (pair : LinkedPair) → Contains x.name.items pair ⊎ Contains x.given.items pair → IsGoodPair ms linked pair
    good pair says =
        let there = get_contained linked.instances.items k x at in record {
          has_syntax = have x pair there says;
          denotes = λ token bad. no_bad (record { document = x.document; token = token }) (record {
            instance = x;
            there = there;
            in_document = refl;
            pair = pair;
            says = says;
            bad = bad;
          });
        }
