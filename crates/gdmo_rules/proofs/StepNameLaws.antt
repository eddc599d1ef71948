-- StepNameLaws: the attributes that steps name and may not, rule by rule and class by class (docs/PROFILE.md, sections
-- 9 and 12).
use Rattle.std.specs.Prelude.{◌≡◌, ◌<◌, ◌≤◌, ◌+◌, ◌⊎◌, ◌↔◌, ℕ, zero, suc, List, [], ◌∷◌, Bool, true, Option, None, Some}
use Rattle.std.specs.Prelude.{length, map, option_map, refl, slice_get, take}
use Rattle.std.specs.Borrow.{Bor}
use Rattle.std.proofs.Common.{ap, arith, get_or, inl, inr, sym, ◌∙◌}
use Rattle.std.proofs.Math.Path.{subst}
use Rattle.std.proofs.lemmas.Bool.{cases_lt}
use Rattle.std.proofs.lemmas.Option.{get_or_from_slice_get, same_Some, slice_get-get_or, slice_get-map}
use Rattle.std.proofs.lemmas.Option.{slice_get_past, slice_get_within}
use Rattle.token_grammar.specs.declared.token.Token.{Token}
use Rattle.link_graphs.specs.Leading.{targets_of}
use Rattle.link_graphs.specs.Marking.{IsTarget}
use Rattle.link_graphs.proofs.PlaceLaws.{nothing_there, same_there}
use Rattle.reached_elements.specs.Linking.{GainsLinks, LinksAll}
use Rattle.gdmo_names.specs.FaultSets.{AnyOf, Either, FaultSet, Notes, OneFault}
use Rattle.gdmo_names.specs.FirstLabelFault.{LabelFault}
use Rattle.gdmo_names.specs.FirstLabelFault.LabelFault.{KindWrong}
use Rattle.gdmo_names.specs.FoundViews.{found_views, numbered}
use Rattle.gdmo_names.specs.InStep.{AreEach}
use Rattle.gdmo_names.specs.LabelMeaning.{Means}
use Rattle.gdmo_names.specs.Mentions.{mention}
use Rattle.gdmo_names.specs.Mentions.Role.{StepAttribute}
use Rattle.gdmo_names.specs.PartTerms.{Placed, PartTerms, RuleTerm}
use Rattle.gdmo_names.specs.TemplateTerms.ReferenceTerm.{ByLabel}
use Rattle.gdmo_names.specs.declared.first_fault.LabelFault.{LabelFault as NotedFault}
use Rattle.gdmo_names.specs.declared.found.Found.{Found}
use Rattle.gdmo_names.proofs.InStepLaws.{map_same}
use Rattle.gdmo_names.proofs.NotingLaws.{both_noted, none_noted, noted_by, noted_end, noted_step, one_not}
use Rattle.gdmo_targets.specs.SectionTables.{IsRuleTargets}
use Rattle.gdmo_targets.specs.StatedRules.{rule_terms, text_term}
use Rattle.gdmo_targets.specs.declared.stated_rules.RuleText.{RuleText}
use Rattle.gdmo_targets.specs.declared.section_references.RuleTargets.{RuleTargets}
use Rattle.gdmo_targets.proofs.PlaceLaws.{beside}
use Rattle.gdmo_types.specs.RoleTargets.{MeansNumber}
use Rattle.gdmo_types.proofs.PlaceFaultLaws.{any_found, any_noted}
use Rattle.gdmo_types.proofs.RoleLaws.{one_meant}
use Rattle.gdmo_types.proofs.StepLaws.{contained_get, get_contained}
use Rattle.class_graphs.specs.ClassGraphs.{MayNotName}
use Rattle.gdmo_rules.specs.AttributeLabels.{TellsAttribute}
use Rattle.gdmo_rules.specs.AttributeLabels.TellsAttribute.{is_label, no_label}
use Rattle.gdmo_rules.specs.NamingFaults.{AllNamingFaults, AreByClass, LabelNamingFaults, NamesForbidden}
use Rattle.gdmo_rules.specs.NamingFaults.{NamingFaultsAt, RuleNamingFaults, TellsIt, TellsNaming}
use Rattle.gdmo_rules.specs.declared.type_faults.Naming.{Naming}
use Rattle.gdmo_rules.proofs.StepTypeLaws.{label_means, means_label}
use Rattle.gdmo_rules.proofs.TypeFaultLaws.{noted_where}

-- ---- the attribute that a step names

pub target_told : (parts : PartTerms) (xs : List Found) (document : ℕ) (label : Bor Token) (n : ℕ) →
    MeansNumber parts xs document (mention StepAttribute (ByLabel label.now)) (Some n) →
    TellsIt parts (found_views xs) document (Some label.now)
    (record { document = document; label = label; attribute = n })
target_told parts xs document label n meant =
    record { is_in = refl; is_label = refl; attribute = meant.0; at = meant.1; means = meant.2 }

pub no_target_told : (parts : PartTerms) (xs : List Found) (document : ℕ) (label : Token) →
    MeansNumber parts xs document (mention StepAttribute (ByLabel label)) None →
    TellsNaming parts (found_views xs) document (Some label) None
no_target_told parts xs document label lost own x same = subst
    (λ l. ¬ Means parts document StepAttribute (ByLabel l) x) (same_Some label own same) (lost x)

pub word_told : (parts : PartTerms) (xs : List Found) (document : ℕ) (word : Bor Token) (n : ℕ) →
    TellsAttribute parts xs word.now (Some n) →
    TellsIt parts (found_views xs) document (Some word.now)
    (record { document = document; label = word; attribute = n })
word_told parts xs document word n (is_label is at) = record {
  is_in = refl;
  is_label = refl;
  attribute = is.attribute;
  at = at;
  means = label_means parts document word.now is;
}

pub no_word_told : (parts : PartTerms) (xs : List Found) (document : ℕ) (word : Token) →
    TellsAttribute parts xs word None → TellsNaming parts (found_views xs) document (Some word) None
no_word_told parts xs document word (no_label none) own x same = λ means. none (means_label parts document word x
    (subst (λ l. Means parts document StepAttribute (ByLabel l) x) (sym (same_Some word own same)) means))

none_is : {P : Type 0} (x : Token) → None ≡ Some x → P
none_is x h = absurd (cc)

pub nothing_named : (parts : PartTerms) (views : List Placed) (document : ℕ) →
    TellsNaming parts views document None None
nothing_named parts views document own x same = none_is own same

-- ---- it may not be named

pub naming_noted : (parts : PartTerms) (views : List Placed) (class : Placed) (document : ℕ) (label : Option Token)
    (naming : Naming) (b : Bool) {before after : Option NotedFault} (told : TellsIt parts views document label naming) →
    (b ≡ true) ↔ MayNotName parts class told.attribute →
    Notes (OneFault (b ≡ true) KindWrong naming.document naming.label.now.at) before after →
    Notes (LabelNamingFaults parts class document label) before after
naming_noted parts views class document label naming b {before} {after} told law noted =
    subst (λ l. Notes (LabelNamingFaults parts class document l) before after) (sym told.is_label)
    (noted_where b document own.at there (subst (λ d. Notes (OneFault (b ≡ true) KindWrong d own.at) before after)
    told.is_in noted))
  where
    own : Token
    own = naming.label.now

    there : (b ≡ true) ↔ NamesForbidden parts class document own
    there = (
      λ e. record { attribute = told.attribute; means = told.means; may_not = law.0 e },
      λ h. law.1 (subst (MayNotName parts class)
          (one_meant parts document StepAttribute (ByLabel own) h.attribute told.attribute h.means told.means)
          h.may_not),
    )

pub no_naming_noted : (parts : PartTerms) (views : List Placed) (class : Placed) (document : ℕ) (label : Option Token)
    (before : Option NotedFault) → TellsNaming parts views document label None →
    Notes (LabelNamingFaults parts class document label) before before
no_naming_noted parts views class document None before told =
    none_noted (LabelNamingFaults parts class document None) before (λ k d t f. f)
no_naming_noted parts views class document (Some label) before told =
    one_not KindWrong document label.at before (λ h. told label h.attribute refl h.means)

-- ---- the rule at a place

pub rule_noted : (parts : PartTerms) (class : Placed) (place : ℕ) (rule : RuleTerm) {before after : Option NotedFault} →
    slice_get parts.rules place ≡ Some rule → Notes (RuleNamingFaults parts class rule) before after →
    Notes (NamingFaultsAt parts class place) before after
rule_noted parts class place rule at noted =
    noted_by (RuleNamingFaults parts class rule) (NamingFaultsAt parts class place)
    (λ k d t f. (rule, at, f))
    (λ k d t f. subst (λ r. RuleNamingFaults parts class r k d t) (same_there parts.rules place f.0 rule f.1 at) f.2)
    noted

none_rule : {P : Type 0} (r : RuleTerm) → None ≡ Some r → P
none_rule r h = absurd (cc)

pub no_rule_noted : (parts : PartTerms) (class : Placed) (place : ℕ) (before : Option NotedFault) →
    slice_get parts.rules place ≡ None → Notes (NamingFaultsAt parts class place) before before
no_rule_noted parts class place before none =
    none_noted (NamingFaultsAt parts class place) before (λ k d t f. none_rule f.0 (sym none ∙ f.1))

pub rule_there : (parts : PartTerms) (rules : List RuleText) (place : ℕ) (rule : RuleText) →
    rule_terms rules ≡ parts.rules → slice_get rules place ≡ Some rule →
    slice_get parts.rules place ≡ Some (text_term rule)
rule_there parts rules place rule are at = subst (λ rs. slice_get rs place ≡ Some (text_term rule)) are
    (slice_get-map text_term rules place ∙ ap (option_map text_term) at)

pub rule_past : (parts : PartTerms) (class : Placed) (rules : List RuleText) (place : ℕ) (before : Option NotedFault) →
    rule_terms rules ≡ parts.rules → length rules ≤ place → Notes (NamingFaultsAt parts class place) before before
rule_past parts class rules place before are past = no_rule_noted parts class place before
    (subst (λ rs. slice_get rs place ≡ None) are
    (slice_get-map text_term rules place ∙ ap (option_map text_term) (slice_get_past rules place past)))

-- what it names
pub own_there : (parts : PartTerms) (xs : List Found) (targets : List RuleTargets) (place : ℕ) (rule : RuleTerm)
    (own : RuleTargets) → AreEach (IsRuleTargets parts xs) parts.rules targets →
    slice_get parts.rules place ≡ Some rule → slice_get targets place ≡ Some own → IsRuleTargets parts xs rule own
own_there parts xs targets place rule own each at its_at =
    let found = beside (IsRuleTargets parts xs) parts.rules targets place rule each at in
    subst (IsRuleTargets parts xs rule) (same_there targets place found.0 own found.1 its_at) found.2

none_own : {P : Type 0} (o : RuleTargets) → None ≡ Some o → P
none_own o h = absurd (cc)

pub own_past : {P : Type 0} (parts : PartTerms) (xs : List Found) (targets : List RuleTargets) (place : ℕ)
    (rule : RuleTerm) → AreEach (IsRuleTargets parts xs) parts.rules targets →
    slice_get parts.rules place ≡ Some rule → length targets ≤ place → P
own_past parts xs targets place rule each at past =
    let found = beside (IsRuleTargets parts xs) parts.rules targets place rule each at in
    none_own found.0 (sym (slice_get_past targets place past) ∙ found.1)

-- those at some places
pub none_at : (Faults : ℕ → FaultSet) (places : List ℕ) (before : Option NotedFault) → length places ≡ 0 →
    Notes (AnyOf Faults places) before before
none_at Faults [] before e = none_noted (AnyOf Faults []) before (λ k d t f. f)
none_at Faults (x ∷ xs) before e = absurd (omega arith)

pub places_step : (Faults : ℕ → FaultSet) (places : List ℕ) (i : ℕ) {one other next : Option NotedFault} →
    i < length places → Notes (AnyOf Faults (map (λ k. k) (take i places))) one other →
    Notes (Faults (get_or places i 0)) other next → Notes (AnyOf Faults (map (λ k. k) (take (i + 1) places))) one next
places_step Faults places i within so_far noted =
    noted_step Faults (λ k. k) places i (get_or places i 0) within (same_got places i within) so_far noted
  where
    same_got : (xs : List ℕ) (j : ℕ) → j < length xs → get_or xs j 0 ≡ get_or xs j (get_or xs j 0)
    same_got xs j less = sym (get_or_from_slice_get xs j (get_or xs j 0) (get_or xs j 0) (slice_get-get_or xs j 0 less))

pub places_end : (Faults : ℕ → FaultSet) (places : List ℕ) (i : ℕ) {one next : Option NotedFault} → length places ≤ i →
    Notes (AnyOf Faults (map (λ k. k) (take i places))) one next → Notes (AnyOf Faults places) one next
places_end Faults places i {one} {next} past h =
    subst (λ xs. Notes (AnyOf Faults xs) one next) (map_same places) (noted_end Faults (λ k. k) places i past h)

-- ---- the rules of each class

-- in the midst: those of the rules before a place
pub record ByClassBefore (targets : List RuleTargets) (lists : List (List ℕ)) (end : ℕ) : Type 0 where
  pub sound : (class place : ℕ) → IsTarget lists class place →
      (own : RuleTargets) × (slice_get targets place ≡ Some own) × (own.class ≡ Some class)
  pub whole : (class place : ℕ) (own : RuleTargets) → place < end → slice_get targets place ≡ Some own →
      own.class ≡ Some class → class < length lists → IsTarget lists class place

one_there : {A : Type 0} {P : Type 0} (o : Option A) (x : A) (k : ℕ) → slice_get (o ∷ []) k ≡ Some (Some x) →
    (o ≡ Some x → P) → P
one_there o x zero is by = by (same_Some o (Some x) is)
one_there o x (suc k) is by = nothing_there k (Some x) is

pub class_begun : (targets : List RuleTargets) (lists : List (List ℕ)) →
    ((class place : ℕ) → ¬ IsTarget lists class place) → ByClassBefore targets lists 0
class_begun targets lists none = record {
  sound = λ class place has. absurd (none class place has);
  whole = λ class place own less. absurd (omega arith);
}

pub class_step : (targets : List RuleTargets) (before after : List (List ℕ)) (end : ℕ) (own : RuleTargets) →
    slice_get targets end ≡ Some own → ByClassBefore targets before end →
    GainsLinks (LinksAll (own.class ∷ []) (Some end ∷ [])) before after → ByClassBefore targets after (end + 1)
class_step targets before after end own at so_far gains = record {
  sound = λ class place has. sound class place (gains.only class place has);
  whole = λ class place its less there is within. whole class place its there is within (cases_lt place end) less;
}
  where
    Told : ℕ → ℕ → Type 0
    Told class place = (its : RuleTargets) × (slice_get targets place ≡ Some its) × (its.class ≡ Some class)

    new : (class place : ℕ) → own.class ≡ Some class → Some end ≡ Some place →
        (its : RuleTargets) × (slice_get targets place ≡ Some its) × (its.class ≡ Some class)
    new class place is same = (own, subst (λ n. slice_get targets n ≡ Some own) (same_Some end place same) at, is)

    sound : (class place : ℕ) → IsTarget before class place ⊎ LinksAll (own.class ∷ []) (Some end ∷ []) class place →
        (its : RuleTargets) × (slice_get targets place ≡ Some its) × (its.class ≡ Some class)
    sound class place (inl h) = so_far.sound class place h
    sound class place (inr h) = one_there own.class class h.0.0 h.0.1
        (λ is. one_there (Some end) place h.1.0 h.1.1 (λ same. new class place is same))

    whole : (class place : ℕ) (its : RuleTargets) → slice_get targets place ≡ Some its → its.class ≡ Some class →
        class < length after → (place < end) ⊎ (end ≤ place) → place < end + 1 → IsTarget after class place
    whole class place its there is within (inl h) less =
        gains.kept class place (so_far.whole class place its h there is (let s = gains.size in omega arith))
    whole class place its there is within (inr h) less =
        let same : place ≡ end = omega arith in
        let mine : its ≡ own = same_there targets end its own
        (subst (λ n. slice_get targets n ≡ Some its) same there) at in
        gains.added class place
        ((0, ap Some (sym (ap (λ (o : RuleTargets). o.class) mine) ∙ is)), (0, ap Some (ap Some (sym same))))
        (let s = gains.size in omega arith)

pub class_all : (targets : List RuleTargets) (lists : List (List ℕ)) (end : ℕ) → length targets ≤ end →
    ByClassBefore targets lists end → AreByClass targets lists
class_all targets lists end past so_far = record {
  sound = so_far.sound;
  whole = λ class place own there is within. so_far.whole class place own
      (let w = slice_get_within targets place own there in omega arith) there is within;
}

-- ---- one class after the other

pub record ClassesBefore (parts : PartTerms) (views : List Placed) (lists : List (List ℕ)) (end : ℕ) (kind : LabelFault)
    (document token : ℕ) : Type 0 where
  pub number : ℕ
  pub class : Placed
  pub within : number < end
  pub at : slice_get views number ≡ Some class
  pub fault : AnyOf (NamingFaultsAt parts class) (targets_of lists number) kind document token

pub classes_none : (parts : PartTerms) (views : List Placed) (lists : List (List ℕ)) (before : Option NotedFault) →
    Notes (ClassesBefore parts views lists 0) before before
classes_none parts views lists before =
    none_noted (ClassesBefore parts views lists 0) before (λ k d t f. (let w = f.within in absurd (omega arith)))

pub classes_step : (parts : PartTerms) (views : List Placed) (lists : List (List ℕ)) (end : ℕ) (class : Placed)
    {one other next : Option NotedFault} → slice_get views end ≡ Some class →
    Notes (ClassesBefore parts views lists end) one other →
    Notes (AnyOf (NamingFaultsAt parts class) (targets_of lists end)) other next →
    Notes (ClassesBefore parts views lists (end + 1)) one next
classes_step parts views lists end class at so_far noted =
    noted_by (Either (ClassesBefore parts views lists end) (AnyOf (NamingFaultsAt parts class) (targets_of lists end)))
    (ClassesBefore parts views lists (end + 1)) there (λ k d t f. back k d t f (cases_lt f.number end))
    (both_noted (ClassesBefore parts views lists end) (AnyOf (NamingFaultsAt parts class) (targets_of lists end)) so_far
    noted)
  where
    there : (k : LabelFault) (d t : ℕ) →
        Either (ClassesBefore parts views lists end) (AnyOf (NamingFaultsAt parts class) (targets_of lists end)) k d t →
        ClassesBefore parts views lists (end + 1) k d t
    there k d t (inl f) = record {
      number = f.number;
      class = f.class;
      within = (let w = f.within in omega arith);
      at = f.at;
      fault = f.fault;
    }
    there k d t (inr f) = record { number = end; class = class; within = omega arith; at = at; fault = f }

    back : (k : LabelFault) (d t : ℕ) (f : ClassesBefore parts views lists (end + 1) k d t) →
        (f.number < end) ⊎ (end ≤ f.number) →
        Either (ClassesBefore parts views lists end) (AnyOf (NamingFaultsAt parts class) (targets_of lists end)) k d t
    back k d t f (inl h) =
        inl (record { number = f.number; class = f.class; within = h; at = f.at; fault = f.fault })
    back k d t f (inr h) =
        let same : f.number ≡ end = (let w = f.within in omega arith) in
        let mine : f.class ≡ class = same_there views end f.class class
        (subst (λ n. slice_get views n ≡ Some f.class) same f.at) at in
        inr (subst (λ c. AnyOf (NamingFaultsAt parts c) (targets_of lists end) k d t) mine
        (subst (λ n. AnyOf (NamingFaultsAt parts f.class) (targets_of lists n) k d t) same f.fault))

number_there : (views : List Placed) (n : Option ℕ) (to : Placed) → numbered views n ≡ Some to →
    (m : ℕ) × (n ≡ Some m) × (slice_get views m ≡ Some to)
number_there views None to is = absurd (cc)
number_there views (Some m) to is = (m, refl, is)

pub names_noted : (parts : PartTerms) (xs : List Found) (targets : List RuleTargets) (lists : List (List ℕ)) (end : ℕ)
    {one next : Option NotedFault} → length lists ≤ end → length lists ≡ length (found_views xs) →
    AreByClass targets lists → AreEach (IsRuleTargets parts xs) parts.rules targets →
    Notes (ClassesBefore parts (found_views xs) lists end) one next → Notes (AllNamingFaults parts) one next
names_noted parts xs targets lists end past size by_class each noted =
    noted_by (ClassesBefore parts (found_views xs) lists end) (AllNamingFaults parts) there back noted
  where
    there : (k : LabelFault) (d t : ℕ) → ClassesBefore parts (found_views xs) lists end k d t →
        AllNamingFaults parts k d t
    there k d t f =
        let found = any_found (NamingFaultsAt parts f.class) (targets_of lists f.number) k d t f.fault in
        let rule = found.2.0 in
        let stands = contained_get (targets_of lists f.number) found.0 found.1 in
        let told = by_class.sound f.number found.0 stands in
        let own = beside (IsRuleTargets parts xs) parts.rules targets found.0 rule each found.2.1 in
        let same : own.0 ≡ told.0 = same_there targets found.0 own.0 told.0 own.1 told.1 in (
          rule,
          f.class,
          get_contained parts.rules found.0 rule found.2.1,
          (own.2.is_class f.class).0
              (ap (numbered (found_views xs)) (ap (λ (o : RuleTargets). o.class) same ∙ told.2) ∙ f.at),
          found.2.2,
        )

    back : (k : LabelFault) (d t : ℕ) → AllNamingFaults parts k d t →
        ClassesBefore parts (found_views xs) lists end k d t
    back k d t f =
        let place = contained_get parts.rules f.0 f.2 in
        let own = beside (IsRuleTargets parts xs) parts.rules targets place.0 f.0 each place.1 in
        let number = number_there (found_views xs) own.0.class f.1 ((own.2.is_class f.1).1 f.3) in
        let within : number.0 < length lists =
        (let w = slice_get_within (found_views xs) number.0 f.1 number.2 in omega arith) in
        let has = by_class.whole number.0 place.0 own.0 own.1 number.1 within in record {
          number = number.0;
          class = f.1;
          within = omega arith;
          at = number.2;
          fault = any_noted (NamingFaultsAt parts f.1) (targets_of lists number.0) place.0 k d t
              (get_contained (targets_of lists number.0) has.0 place.0 has.1) (f.0, place.1, f.4);
        }
