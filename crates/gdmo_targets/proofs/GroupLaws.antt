-- GroupLaws: the groups of a package that are FIXED and added to, by their places in what the package names; and what
-- the sentence says of them.
use Rattle.std.specs.Prelude.{◌≡◌, ◌≢◌, ◌<◌, ◌≤◌, ◌+◌, ◌⊎◌, ◌&&◌, ℕ, zero, suc, List, [], ◌∷◌, ◌++◌, Bool, true, false}
use Rattle.std.specs.Prelude.{Option, None, Some, Contains, length, refl, slice_get}
use Rattle.std.proofs.Common.{ap, arith, get_or, inl, inr, sym, subst, ◌∙◌}
use Rattle.std.proofs.lemmas.Bool.{and_parts, false≢true, true≢false}
use Rattle.std.proofs.lemmas.Option.{same_Some, slice_get_read, slice_get_within}
use Rattle.asn1_names.proofs.NumberLaws.{get_behind, get_front}
use Rattle.gdmo_names.specs.declared.first_fault.LabelFault.{LabelFault as NotedFault}
use Rattle.gdmo_names.specs.declared.found.Found.{Found}
use Rattle.gdmo_names.specs.declared.found.Mention.{Mention as FoundMention}
use Rattle.gdmo_names.specs.DocumentTemplates.{templates}
use Rattle.gdmo_names.specs.FaultSets.{AnyOf, Either, FaultSet, Notes, OneFault, TellsMeant, ThisFault}
use Rattle.gdmo_names.specs.FirstLabelFault.{HasFault, LabelFault}
use Rattle.gdmo_names.specs.FirstLabelFault.LabelFault.{KindWrong}
use Rattle.gdmo_names.specs.FoundViews.{found_views, numbered}
use Rattle.gdmo_names.specs.GroupFaults.{AddsToGroup, FaultsOfAllGroups, FaultsOfGroupAt, FaultsOfGroups, IsFixedGroup}
use Rattle.gdmo_names.specs.GroupFaults.{has_found_role, has_role, is_added_role, is_group_role}
use Rattle.gdmo_names.specs.InStep.{AreAll, AreEach}
use Rattle.gdmo_names.specs.LabelMeaning.{Means, reference_token}
use Rattle.gdmo_names.specs.Mentions.{Role, Mention, mention, mentions, stated_mentions, use_mentions, row_mentions}
use Rattle.gdmo_names.specs.Mentions.{syntax_mentions, life_mentions, field_mentions, body_mentions, template_mentions}
use Rattle.gdmo_names.specs.Mentions.Role.{PackageGroup, AddedAttribute, OfBehaviour, PackageAction, PackageNotification}
use Rattle.gdmo_names.specs.Mentions.Role.{OfParameter, PackageAttribute, DerivationRule, Superclass, MandatoryPackage}
use Rattle.gdmo_names.specs.Mentions.Role.{ConditionalPackage, ParameterAttribute, SubordinateClass, SuperiorClass}
use Rattle.gdmo_names.specs.Mentions.Role.{NamingAttribute, BaseAttribute, GroupElement, FieldAttribute}
use Rattle.gdmo_names.specs.PartTerms.{Placed, PartTerms, body_of}
use Rattle.gdmo_names.specs.Roles.{role_term}
use Rattle.gdmo_names.specs.TargetTables.{IsMention, TellsMention}
use Rattle.gdmo_names.specs.TemplateTerms.{BodyTerm, FieldTerms, LifeTerm, ReferenceTerm, ReferenceTerms, RowTerms}
use Rattle.gdmo_names.specs.TemplateTerms.{StatedTerm, SyntaxTerm, UseTerms}
use Rattle.gdmo_names.specs.TemplateTerms.BodyTerm.{ClassBody, PackageBody, ParameterBody, BindingBody}
use Rattle.gdmo_names.specs.TemplateTerms.BodyTerm.{AttributeBody, GroupBody, BehaviourBody, ActionBody}
use Rattle.gdmo_names.specs.TemplateTerms.BodyTerm.{NotificationBody}
use Rattle.gdmo_names.specs.TemplateTerms.FieldTerms.{NoFields, Field}
use Rattle.gdmo_names.specs.TemplateTerms.LifeTerm.{NoLife, Life}
use Rattle.gdmo_names.specs.TemplateTerms.ReferenceTerms.{NoReferences, Reference}
use Rattle.gdmo_names.specs.TemplateTerms.RowTerms.{NoRows, Row}
use Rattle.gdmo_names.specs.TemplateTerms.StatedTerm.{NotStated, StatedValue, ByRule}
use Rattle.gdmo_names.specs.TemplateTerms.SyntaxTerm.{OfType, OfAttribute}
use Rattle.gdmo_names.specs.TemplateTerms.UseTerms.{NoUses, Use}
use Rattle.gdmo_names.specs.WrongKinds.{AddsToFixed, IsRow, groups_of, is_fixed}
use Rattle.gdmo_names.specs.WrongKinds.IsRow.{first, later}
use Rattle.gdmo_names.specs.WrongKinds.WrongKindAt.{fixed_group}
use Rattle.gdmo_names.proofs.InStepLaws.{all_both}
use Rattle.gdmo_names.proofs.NotingLaws.{both_noted, none_noted, noted_by, one_not, one_there}
use Rattle.gdmo_targets.specs.GroupSteps.{GroupsBefore, IsAddedTo, is_fixed_group}
use Rattle.gdmo_targets.proofs.PlaceLaws.{all_at, at_either, beside}
use Rattle.gdmo_targets.proofs.ReferenceLaws.{any_in, any_out}

-- ---- one mention

-- the test says whether the group is FIXED and added to
pub fixed_so : (parts : PartTerms) (document : ℕ) (x : Mention) (role : Role) (answer : Option Placed) (added : Bool) →
    role ≡ x.role → TellsMeant parts document x.role x.reference answer →
    ((added && is_group_role role) && is_fixed_group answer) ≡ true → IsAddedTo parts document x added
fixed_so parts document x role answer added is tells test =
    let outer = and_parts (added && is_group_role role) (is_fixed_group answer) test in
    let inner = and_parts added (is_group_role role) outer.0 in
    (sym (ap is_group_role is) ∙ inner.1, inner.0, by answer refl outer.1)
  where
    by : (meant : Option Placed) → answer ≡ meant → is_fixed_group meant ≡ true →
        IsFixedGroup parts document x.role x.reference
    by None same fixed = absurd (false≢true fixed)
    by (Some to) same fixed = record { to = to; means = (tells to).0 same; fixed = fixed }

pub fixed_not : (parts : PartTerms) (document : ℕ) (x : Mention) (role : Role) (answer : Option Placed) (added : Bool) →
    role ≡ x.role → TellsMeant parts document x.role x.reference answer →
    ((added && is_group_role role) && is_fixed_group answer) ≡ false → ¬ IsAddedTo parts document x added
fixed_not parts document x role answer added is tells test so = true≢false (sym all ∙ test)
  where
    all : ((added && is_group_role role) && is_fixed_group answer) ≡ true
    all = ap (λ a. (a && is_group_role role) && is_fixed_group answer) so.1
        ∙ ap (λ r. is_group_role r && is_fixed_group answer) is
        ∙ ap (λ g. g && is_fixed_group answer) so.0
        ∙ ap is_fixed_group ((tells so.2.to).1 so.2.means) ∙ so.2.fixed

-- ---- places

pub groups_none : (parts : PartTerms) (its : ℕ) (named : List Mention) (before : Option NotedFault) →
    Notes (GroupsBefore parts its named 0) before before
groups_none parts its named before = none_noted (GroupsBefore parts its named 0) before
    (λ k d t fault. let less = fault.1 in omega (arith, less))

-- the fault of the group at a place
abbrev pub GroupFault : PartTerms → ℕ → Mention → Bool → FaultSet
GroupFault parts its x added =
    OneFault (IsAddedTo parts its x added) KindWrong its (reference_token x.reference).at

nat_cases : (j k : ℕ) → j < k + 1 → (j < k) ⊎ (j ≡ k)
nat_cases j k h = grind arith

at_place : (parts : PartTerms) (its : ℕ) (named : List Mention) (k : ℕ) (x : Mention) (kind : LabelFault)
    (document token : ℕ) → slice_get named k ≡ Some x →
    FaultsOfGroupAt parts its named k kind document token →
    GroupFault parts its x (has_role is_added_role (slice_get named (k + 1))) kind document token
at_place parts its named k x kind document token at fault =
    let same : fault.group ≡ x = same_Some fault.group x (sym fault.is ∙ at) in
    subst (λ y. GroupFault parts its y (has_role is_added_role (slice_get named (k + 1))) kind document token) same
    ((fault.is_group, fault.is_added, fault.fault.0), fault.fault.1, fault.fault.2, fault.fault.3)

group_step : (parts : PartTerms) (its : ℕ) (named : List Mention) (k : ℕ) (x : Mention)
    {one other next : Option NotedFault} → slice_get named k ≡ Some x → Notes (GroupsBefore parts its named k) one other →
    Notes (GroupFault parts its x (has_role is_added_role (slice_get named (k + 1)))) other next →
    Notes (GroupsBefore parts its named (k + 1)) one next
group_step parts its named k x at p q =
    noted_by (Either (GroupsBefore parts its named k)
    (GroupFault parts its x (has_role is_added_role (slice_get named (k + 1))))) (GroupsBefore parts its named (k + 1))
    (λ kind d t fault. elim fault as (λ _. GroupsBefore parts its named (k + 1) kind d t) [
      | inl here ↦ (here.0, (let less = here.1 in omega (arith, less)), here.2)
      | inr here ↦ (
        k,
        omega arith,
        record {
          group = x;
          is = at;
          is_group = here.0.0;
          is_added = here.0.1;
          fault = (here.0.2, here.1, here.2, here.3);
        },
      )
    ])
    (λ kind d t fault. last_of kind d t fault.0 fault.1 fault.2)
    (both_noted (GroupsBefore parts its named k)
    (GroupFault parts its x (has_role is_added_role (slice_get named (k + 1)))) p q)
  where
    last_of : (kind : LabelFault) (document token j : ℕ) → j < k + 1 →
        FaultsOfGroupAt parts its named j kind document token →
        Either (GroupsBefore parts its named k)
        (GroupFault parts its x (has_role is_added_role (slice_get named (k + 1)))) kind document token
    last_of kind document token j below fault = elim (nat_cases j k below) as
        (λ _. Either (GroupsBefore parts its named k)
        (GroupFault parts its x (has_role is_added_role (slice_get named (k + 1)))) kind document token) [
          | inl less ↦ inl (j, less, fault)
          | inr same ↦ inr (at_place parts its named k x kind document token at
              (subst (λ n. FaultsOfGroupAt parts its named n kind document token) same fault))
        ]

-- the role of what was found to be named at a place is that of what is named there
role_beside : (is : Role → Bool) (xs : List Found) (its : ℕ) (found : List FoundMention) (named : List Mention)
    (k : ℕ) → AreEach (IsMention xs its) found named →
    has_found_role is (slice_get found k) ≡ has_role is (slice_get named k)
role_beside is xs its [] [] k each = refl
role_beside is xs its [] (y ∷ ys) k each = absurd each
role_beside is xs its (m ∷ ms) [] k each = absurd each
role_beside is xs its (m ∷ ms) (y ∷ ys) zero each = ap is each.0.in_role
role_beside is xs its (m ∷ ms) (y ∷ ys) (suc k) each = role_beside is xs its ms ys k each.1

-- one more place of a loop
pub place_noted : (parts : PartTerms) (xs : List Found) (its : ℕ) (found : List FoundMention) (named : List Mention)
    (targets : List (Option ℕ)) (k : ℕ) (m : FoundMention) (number : Option ℕ) (added : Bool)
    {one other next : Option NotedFault} → AreEach (IsMention xs its) found named →
    AreEach (TellsMention parts xs its) named targets → k < length found → m ≡ get_or found k m →
    ((n : Option ℕ) → slice_get targets k ≡ Some n → number ≡ n) →
    added ≡ has_found_role is_added_role (slice_get found (k + 1)) →
    Notes (GroupsBefore parts its named k) one other →
    ((x : Mention) → IsMention xs its m x → TellsMention parts xs its x number →
    Notes (GroupFault parts its x added) other next) → Notes (GroupsBefore parts its named (k + 1)) one next
place_noted parts xs its found named targets k m number added {other = other} {next = next} each tells within is
    number_is added_is so_far noted =
    let x = beside (IsMention xs its) found named k m each (slice_get_read found (length found) k m refl within is) in
    let n = beside (TellsMention parts xs its) named targets k x.0 tells x.1 in
    group_step parts its named k x.0 x.1 so_far
    (subst (λ b. Notes (GroupFault parts its x.0 b) other next)
    (added_is ∙ role_beside is_added_role xs its found named (k + 1) each)
    (noted x.0 x.2 (subst (TellsMention parts xs its x.0) (sym (number_is n.0 n.1)) n.2)))

-- ---- a group to which attributes are added stands before one of them

pub record FoundRow (x : Mention) (groups : RowTerms) : Type 0 where
  pub reference : ReferenceTerm
  pub added : ReferenceTerm
  pub others : ReferenceTerms
  pub named : x ≡ mention PackageGroup reference
  pub row : IsRow reference (Reference added others) groups

abbrev IsNoGroup : Mention → Type 0
IsNoGroup x = is_group_role x.role ≡ false

abbrev IsNotAdded : Mention → Type 0
IsNotAdded x = is_added_role x.role ≡ false

further : (one : ReferenceTerm) (behind : ReferenceTerms) (more : RowTerms) (x : Mention) → FoundRow x more →
    FoundRow x (Row one behind more)
further one behind more x h = record {
  reference = h.reference;
  added = h.added;
  others = h.others;
  named = h.named;
  row = later h.row;
}

lacks : (is : Role → Bool) (xs : List Mention) (k : ℕ) → AreAll (λ (x : Mention). is x.role ≡ false) xs →
    has_role is (slice_get xs k) ≡ true → ⊥
lacks is [] k each test = false≢true test
lacks is (x ∷ xs) zero each test = true≢false (sym test ∙ each.0)
lacks is (x ∷ xs) (suc k) each test = lacks is xs k each.1 test

-- no group is added to by what isn't an added attribute
alone : (one : ReferenceTerm) (more : RowTerms) (rest : List Mention) → AreAll IsNotAdded rest →
    has_role is_added_role (slice_get (row_mentions PackageGroup AddedAttribute more ++ rest) 0) ≡ true → ⊥
alone one NoRows rest none_added test = lacks is_added_role rest 0 none_added test
alone one (Row other behind more) rest none_added test = false≢true test

-- past the attributes that are added to another group
past : (behind : ReferenceTerms) (more : RowTerms) (rest : List Mention) (x : Mention) → is_group_role x.role ≡ true →
    ((j : ℕ) → slice_get (row_mentions PackageGroup AddedAttribute more ++ rest) j ≡ Some x →
    has_role is_added_role (slice_get (row_mentions PackageGroup AddedAttribute more ++ rest) (suc j)) ≡ true →
    FoundRow x more) → (j : ℕ) →
    slice_get ((mentions AddedAttribute behind ++ row_mentions PackageGroup AddedAttribute more) ++ rest) j ≡ Some x →
    has_role is_added_role (slice_get ((mentions AddedAttribute behind
    ++ row_mentions PackageGroup AddedAttribute more) ++ rest) (suc j)) ≡ true → FoundRow x more
past NoReferences more rest x is_group again j here next = again j here next
past (Reference r rs) more rest x is_group again zero here next =
    absurd (true≢false (sym is_group ∙ ap (λ (y : Mention). is_group_role y.role)
    (sym (same_Some (mention AddedAttribute r) x here))))
past (Reference r rs) more rest x is_group again (suc j) here next = past rs more rest x is_group again j here next

row_at : (groups : RowTerms) (rest : List Mention) (k : ℕ) (x : Mention) → AreAll IsNoGroup rest →
    AreAll IsNotAdded rest →
    slice_get (row_mentions PackageGroup AddedAttribute groups ++ rest) k ≡ Some x → is_group_role x.role ≡ true →
    has_role is_added_role (slice_get (row_mentions PackageGroup AddedAttribute groups ++ rest) (suc k)) ≡ true →
    FoundRow x groups
row_at NoRows rest k x none_group none_added at is_group added =
    absurd (true≢false (sym is_group ∙ all_at IsNoGroup rest k x none_group at))
row_at (Row one NoReferences more) rest zero x none_group none_added at is_group added =
    absurd (alone one more rest none_added added)
row_at (Row one (Reference r rs) more) rest zero x none_group none_added at is_group added = record {
  reference = one;
  added = r;
  others = rs;
  named = sym (same_Some (mention PackageGroup one) x at);
  row = first;
}
row_at (Row one behind more) rest (suc k) x none_group none_added at is_group added =
    further one behind more x (past behind more rest x is_group
    (λ j here next. row_at more rest j x none_group none_added here is_group next) k at added)

-- ---- where groups are named, and where attributes are added

none_named : (is : Role → Bool) (role : Role) (xs : ReferenceTerms) → is role ≡ false →
    AreAll (λ (x : Mention). is x.role ≡ false) (mentions role xs)
none_named is role NoReferences not_so = tt
none_named is role (Reference x xs) not_so = (not_so, none_named is role xs not_so)

none_in_rows : (is : Role → Bool) (role behind : Role) (rows : RowTerms) → is role ≡ false → is behind ≡ false →
    AreAll (λ (x : Mention). is x.role ≡ false) (row_mentions role behind rows)
none_in_rows is role behind NoRows not_role not_behind = tt
none_in_rows is role behind (Row x xs rows) not_role not_behind = (
  not_role,
  all_both (λ (y : Mention). is y.role ≡ false) (mentions behind xs) (row_mentions role behind rows)
      (none_named is behind xs not_behind) (none_in_rows is role behind rows not_role not_behind),
)

none_stated : (x : StatedTerm) → AreAll IsNoGroup (stated_mentions x)
none_stated NotStated = tt
none_stated (StatedValue name) = tt
none_stated (ByRule rule) = (refl, tt)

none_used : (uses : UseTerms) → AreAll IsNoGroup (use_mentions uses)
none_used NoUses = tt
none_used (Use attribute default initial permitted required words parameters rest) = (
  refl,
  all_both IsNoGroup (stated_mentions default) (stated_mentions initial
      ++ (mentions OfParameter parameters ++ use_mentions rest)) (none_stated default)
      (all_both IsNoGroup (stated_mentions initial) (mentions OfParameter parameters ++ use_mentions rest)
      (none_stated initial) (all_both IsNoGroup (mentions OfParameter parameters) (use_mentions rest)
      (none_named is_group_role OfParameter parameters refl) (none_used rest))),
)

none_in_syntax : (role : Role) (x : SyntaxTerm) → is_group_role role ≡ false → AreAll IsNoGroup (syntax_mentions role x)
none_in_syntax role (OfType name) not_so = tt
none_in_syntax role (OfAttribute attribute) not_so = (not_so, tt)

none_in_life : (x : LifeTerm) → AreAll IsNoGroup (life_mentions x)
none_in_life NoLife = tt
none_in_life (Life words parameters) = none_named is_group_role OfParameter parameters refl

none_in_fields : (fields : FieldTerms) → AreAll IsNoGroup (field_mentions fields)
none_in_fields NoFields = tt
none_in_fields (Field name attribute rest) = (refl, none_in_fields rest)

two : (xs ys : List Mention) → AreAll IsNoGroup xs → AreAll IsNoGroup ys → AreAll IsNoGroup (xs ++ ys)
two xs ys p q = all_both IsNoGroup xs ys p q

none_here : (role : Role) (xs : ReferenceTerms) → is_group_role role ≡ false → AreAll IsNoGroup (mentions role xs)
none_here role xs not_so = none_named is_group_role role xs not_so

no_group_at : (xs : List Mention) (k : ℕ) (x : Mention) → AreAll IsNoGroup xs → slice_get xs k ≡ Some x →
    is_group_role x.role ≡ true → ⊥
no_group_at xs k x none_group at is_group = true≢false (sym is_group ∙ all_at IsNoGroup xs k x none_group at)

-- past what names no group
past_others : (xs ys : List Mention) (k : ℕ) (x : Mention) → AreAll IsNoGroup xs → slice_get (xs ++ ys) k ≡ Some x →
    is_group_role x.role ≡ true → (j : ℕ) × (k ≡ length xs + j) × (slice_get ys j ≡ Some x)
past_others xs ys k x none_group at is_group = elim (at_either xs ys k x at) as
    (λ _. (j : ℕ) × (k ≡ length xs + j) × (slice_get ys j ≡ Some x)) [
      | inl here ↦ absurd (no_group_at xs k x none_group here is_group)
      | inr there ↦ there
    ]

next_behind : (xs ys : List Mention) (k j : ℕ) → k ≡ length xs + j →
    has_role is_added_role (slice_get (xs ++ ys) (suc k)) ≡ true →
    has_role is_added_role (slice_get ys (suc j)) ≡ true
next_behind xs ys k j is test = ap (has_role is_added_role) (sym (get_behind xs ys (suc j)))
    ∙ ap (λ n. has_role is_added_role (slice_get (xs ++ ys) n)) (same_place k j (length xs) is) ∙ test
  where
    same_place : (k j n : ℕ) → k ≡ n + j → n + suc j ≡ suc k
    same_place k j n h = omega (arith, h)

package_at : (behaviours : ReferenceTerms) (uses : UseTerms) (groups actions notifications : RowTerms) (k : ℕ)
    (x : Mention) → slice_get (mentions OfBehaviour behaviours ++ (use_mentions uses
    ++ (row_mentions PackageGroup AddedAttribute groups ++ (row_mentions PackageAction OfParameter actions
    ++ row_mentions PackageNotification OfParameter notifications)))) k ≡ Some x → is_group_role x.role ≡ true →
    has_role is_added_role (slice_get (mentions OfBehaviour behaviours ++ (use_mentions uses
    ++ (row_mentions PackageGroup AddedAttribute groups ++ (row_mentions PackageAction OfParameter actions
    ++ row_mentions PackageNotification OfParameter notifications)))) (suc k)) ≡ true → FoundRow x groups
package_at behaviours uses groups actions notifications k x at is_group added =
    let its_actions = row_mentions PackageAction OfParameter actions in
    let its_notifications = row_mentions PackageNotification OfParameter notifications in
    let rest = its_actions ++ its_notifications in
    let own = row_mentions PackageGroup AddedAttribute groups in
    let behind = past_others (mentions OfBehaviour behaviours) (use_mentions uses ++ (own ++ rest)) k x
    (none_named is_group_role OfBehaviour behaviours refl) at is_group in
    let there = past_others (use_mentions uses) (own ++ rest) behind.0 x (none_used uses) behind.2 is_group in
    row_at groups rest there.0 x
    (all_both IsNoGroup its_actions its_notifications
    (none_in_rows is_group_role PackageAction OfParameter actions refl refl)
    (none_in_rows is_group_role PackageNotification OfParameter notifications refl refl))
    (all_both IsNotAdded its_actions its_notifications
    (none_in_rows is_added_role PackageAction OfParameter actions refl refl)
    (none_in_rows is_added_role PackageNotification OfParameter notifications refl refl)) there.2 is_group
    (next_behind (use_mentions uses) (own ++ rest) behind.0 there.0 there.1
    (next_behind (mentions OfBehaviour behaviours) (use_mentions uses ++ (own ++ rest)) k behind.0 behind.1 added))

body_at : (body : BodyTerm) (k : ℕ) (x : Mention) → slice_get (body_mentions body) k ≡ Some x →
    is_group_role x.role ≡ true → has_role is_added_role (slice_get (body_mentions body) (suc k)) ≡ true →
    (groups : RowTerms) × (groups_of body ≡ Some groups) × FoundRow x groups
body_at (ClassBody superclasses mandatory conditional) k x at is_group added = absurd (no_group_at
    (body_mentions (ClassBody superclasses mandatory conditional)) k x
    (two (mentions Superclass superclasses)
    (mentions MandatoryPackage mandatory ++ mentions ConditionalPackage conditional)
    (none_here Superclass superclasses refl)
    (two (mentions MandatoryPackage mandatory) (mentions ConditionalPackage conditional)
    (none_here MandatoryPackage mandatory refl) (none_here ConditionalPackage conditional refl))) at is_group)
body_at (PackageBody behaviours attributes groups actions notifications) k x at is_group added =
    (groups, refl, package_at behaviours attributes groups actions notifications k x at is_group added)
body_at (ParameterBody syntax behaviours) k x at is_group added = absurd (no_group_at
    (body_mentions (ParameterBody syntax behaviours)) k x
    (two (syntax_mentions ParameterAttribute syntax) (mentions OfBehaviour behaviours)
    (none_in_syntax ParameterAttribute syntax refl) (none_here OfBehaviour behaviours refl)) at is_group)
body_at (BindingBody below below_all above above_all attribute behaviours create delete) k x at is_group added =
    absurd (no_group_at
    (body_mentions (BindingBody below below_all above above_all attribute behaviours create delete)) k x (
      refl,
      (
        refl,
        (
          refl,
          two (mentions OfBehaviour behaviours) (life_mentions create ++ life_mentions delete)
              (none_here OfBehaviour behaviours refl)
              (two (life_mentions create) (life_mentions delete) (none_in_life create) (none_in_life delete)),
        ),
      ),
    ) at is_group)
body_at (AttributeBody syntax rules behaviours parameters) k x at is_group added = absurd (no_group_at
    (body_mentions (AttributeBody syntax rules behaviours parameters)) k x
    (two (syntax_mentions BaseAttribute syntax) (mentions OfBehaviour behaviours ++ mentions OfParameter parameters)
    (none_in_syntax BaseAttribute syntax refl)
    (two (mentions OfBehaviour behaviours) (mentions OfParameter parameters) (none_here OfBehaviour behaviours refl)
    (none_here OfParameter parameters refl))) at is_group)
body_at (GroupBody elements fixed) k x at is_group added = absurd (no_group_at
    (body_mentions (GroupBody elements fixed)) k x (none_here GroupElement elements refl) at is_group)
body_at BehaviourBody k x at is_group added = absurd (cc)
body_at (ActionBody behaviours confirmed parameters information reply) k x at is_group added = absurd (no_group_at
    (body_mentions (ActionBody behaviours confirmed parameters information reply)) k x
    (two (mentions OfBehaviour behaviours) (mentions OfParameter parameters) (none_here OfBehaviour behaviours refl)
    (none_here OfParameter parameters refl)) at is_group)
body_at (NotificationBody behaviours parameters information fields reply) k x at is_group added = absurd (no_group_at
    (body_mentions (NotificationBody behaviours parameters information fields reply)) k x
    (two (mentions OfBehaviour behaviours) (mentions OfParameter parameters ++ field_mentions fields)
    (none_here OfBehaviour behaviours refl)
    (two (mentions OfParameter parameters) (field_mentions fields) (none_here OfParameter parameters refl)
    (none_in_fields fields))) at is_group)

-- ---- and each such group stands at a place

pub record StandsAt (named : List Mention) (k : ℕ) (reference added : ReferenceTerm) : Type 0 where
  pub group : slice_get named k ≡ Some (mention PackageGroup reference)
  pub next : slice_get named (suc k) ≡ Some (mention AddedAttribute added)

in_front : (xs ys : List Mention) (k : ℕ) (reference added : ReferenceTerm) → StandsAt xs k reference added →
    StandsAt (xs ++ ys) k reference added
in_front xs ys k reference added h = record {
  group = get_front xs ys k (mention PackageGroup reference) h.group;
  next = get_front xs ys (suc k) (mention AddedAttribute added) h.next;
}

behind_it : (xs ys : List Mention) (k : ℕ) (reference added : ReferenceTerm) → StandsAt ys k reference added →
    StandsAt (xs ++ ys) (length xs + k) reference added
behind_it xs ys k reference added h = record {
  group = get_behind xs ys k ∙ h.group;
  next = ap (slice_get (xs ++ ys)) (same_place (length xs) k) ∙ get_behind xs ys (suc k) ∙ h.next;
}
  where
    same_place : (n k : ℕ) → suc (n + k) ≡ n + suc k
    same_place n k = omega arith

row_stands : (reference added : ReferenceTerm) (others : ReferenceTerms) (groups : RowTerms) →
    IsRow reference (Reference added others) groups →
    (k : ℕ) × StandsAt (row_mentions PackageGroup AddedAttribute groups) k reference added
row_stands reference added others NoRows h = elim h [ ]
row_stands reference added others (Row one behind more) first = (0, record { group = refl; next = refl })
row_stands reference added others (Row one behind more) (later h) =
    let found = row_stands reference added others more h in
    let there = behind_it (mentions AddedAttribute behind) (row_mentions PackageGroup AddedAttribute more) found.0
    reference added found.1 in
    (suc (length (mentions AddedAttribute behind) + found.0), record { group = there.group; next = there.next })

body_stands : (body : BodyTerm) (groups : RowTerms) (reference added : ReferenceTerm) (others : ReferenceTerms) →
    groups_of body ≡ Some groups → IsRow reference (Reference added others) groups →
    (k : ℕ) × StandsAt (body_mentions body) k reference added
body_stands (PackageBody behaviours attributes its actions notifications) groups reference added others is row =
    let rest = row_mentions PackageAction OfParameter actions
    ++ row_mentions PackageNotification OfParameter notifications in
    let own = row_mentions PackageGroup AddedAttribute its in
    let found = row_stands reference added others its
    (subst (IsRow reference (Reference added others)) (sym (same_Some its groups is)) row) in (
      length (mentions OfBehaviour behaviours) + (length (use_mentions attributes) + found.0),
      behind_it (mentions OfBehaviour behaviours) (use_mentions attributes ++ (own ++ rest))
          (length (use_mentions attributes) + found.0) reference added
          (behind_it (use_mentions attributes) (own ++ rest) found.0 reference added
          (in_front own rest found.0 reference added found.1)),
    )
body_stands (ClassBody superclasses mandatory conditional) groups reference added others is row = absurd (cc)
body_stands (ParameterBody syntax behaviours) groups reference added others is row = absurd (cc)
body_stands (BindingBody below below_all above above_all attribute behaviours create delete) groups reference added
    others is row = absurd (cc)
body_stands (AttributeBody syntax rules behaviours parameters) groups reference added others is row = absurd (cc)
body_stands (GroupBody elements fixed) groups reference added others is row = absurd (cc)
body_stands BehaviourBody groups reference added others is row = absurd (cc)
body_stands (ActionBody behaviours confirmed parameters information reply) groups reference added others is row =
    absurd (cc)
body_stands (NotificationBody behaviours parameters information fields reply) groups reference added others is row =
    absurd (cc)

-- ---- the faults of one template

to_groups : (parts : PartTerms) (by : Placed) (k : ℕ) (kind : LabelFault) (document token : ℕ) →
    FaultsOfGroupAt parts by.document (template_mentions by.template) k kind document token →
    FaultsOfGroups parts by kind document token
to_groups parts by k kind document token fault =
    let found = body_at (body_of by.template) k fault.group fault.is fault.is_group
    (subst (λ n. has_role is_added_role (slice_get (template_mentions by.template) n) ≡ true) (after k) fault.is_added)
    in
    let row = found.2 in record {
      reference = row.reference;
      adds = record { groups = found.0; has = found.1; added = row.added; others = row.others; row = row.row };
      fault = subst (λ (x : Mention). OneFault (IsFixedGroup parts by.document x.role x.reference) KindWrong by.document
          (reference_token x.reference).at kind document token) row.named fault.fault;
    }
  where
    after : (n : ℕ) → n + 1 ≡ suc n
    after n = omega arith

from_groups : (parts : PartTerms) (by : Placed) (kind : LabelFault) (document token : ℕ) →
    FaultsOfGroups parts by kind document token →
    (k : ℕ) × FaultsOfGroupAt parts by.document (template_mentions by.template) k kind document token
from_groups parts by kind document token fault =
    let found = body_stands (body_of by.template) fault.adds.groups fault.reference fault.adds.added fault.adds.others
    fault.adds.has fault.adds.row in (
      found.0,
      record {
        group = mention PackageGroup fault.reference;
        is = found.1.group;
        is_group = refl;
        is_added = ap (λ n. has_role is_added_role (slice_get (template_mentions by.template) n)) (after found.0)
            ∙ ap (has_role is_added_role) found.1.next;
        fault = fault.fault;
      },
    )
  where
    after : (n : ℕ) → n + 1 ≡ suc n
    after n = omega arith

-- the end of a loop over what a template names
pub groups_noted : (parts : PartTerms) (by : Placed) (k : ℕ) {one next : Option NotedFault} →
    length (template_mentions by.template) ≤ k →
    Notes (GroupsBefore parts by.document (template_mentions by.template) k) one next →
    Notes (FaultsOfGroups parts by) one next
groups_noted parts by k past h = noted_by (GroupsBefore parts by.document (template_mentions by.template) k)
    (FaultsOfGroups parts by)
    (λ kind d t fault. to_groups parts by fault.0 kind d t fault.2)
    (λ kind d t fault. let one = from_groups parts by kind d t fault in (
      one.0,
      (let within = slice_get_within (template_mentions by.template) one.0 one.1.group one.1.is in
          omega (arith, within, past)),
      one.1,
    )) h

-- ---- what the sentence says of it

pub group_fault : (parts : PartTerms) (kind : LabelFault) (document token : ℕ) →
    FaultsOfAllGroups parts kind document token → HasFault parts kind document token
group_fault parts kind document token fault =
    let by = any_out (FaultsOfGroups parts) (templates parts) kind document token fault in
    subst (λ k. HasFault parts k document token) by.2.fault.1
    (fixed_group (record {
      by = by.0;
      stands = by.1;
      is_in = by.2.fault.2;
      groups = by.2.adds.groups;
      has = by.2.adds.has;
      added = by.2.adds.added;
      others = by.2.adds.others;
      row = by.2.adds.row;
      to = by.2.fault.0.to;
      means = subst (λ d. Means parts d PackageGroup by.2.reference by.2.fault.0.to) by.2.fault.2 by.2.fault.0.means;
      fixed = by.2.fault.0.fixed;
    }) by.2.fault.3)

pub group_noted : (parts : PartTerms) (document : ℕ) (reference : ReferenceTerm) → AddsToFixed parts document reference →
    FaultsOfAllGroups parts KindWrong document (reference_token reference).at
group_noted parts document reference adds =
    any_in (FaultsOfGroups parts) (templates parts) adds.by adds.stands KindWrong document (reference_token reference).at
    (record {
      reference = reference;
      adds = record {
        groups = adds.groups;
        has = adds.has;
        added = adds.added;
        others = adds.others;
        row = adds.row;
      };
      fault = (
        record {
          to = adds.to;
          means = subst (λ d. Means parts d PackageGroup reference adds.to) (sym adds.is_in) adds.means;
          fixed = adds.fixed;
        },
        refl,
        adds.is_in,
        refl,
      );
    })
