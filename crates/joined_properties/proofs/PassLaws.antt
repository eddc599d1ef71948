-- PassLaws: what a step and a pass over the classes keep: whatever is told is true, and where nothing changes each
-- class tells enough.
use Rattle.std.proofs.Common.{◌≡◌, ◌<◌, ◌≤◌, ℕ, List, Some, None, Bool, true, false, refl, sym, subst}
use Rattle.std.proofs.Common.{◌∙◌, ⊎_elim, inl, inr, length, ap, eq-eqb}
use Rattle.std.proofs.lemmas.Bool.{eqb-true, false≢true, cases_lt}
use Rattle.std.proofs.lemmas.List.Elements.{Contains-push_cases}
use Rattle.std.specs.Prelude.{◌⊎◌, ◌≢◌, ◌||◌, ◌==◌, Contains, slice_get}
use Rattle.std.specs.BTreeMap.{get}
use Rattle.std.specs.Option.{option_and_then}
use Rattle.std.specs.Ordering.{nat_cmp}
use Rattle.joined_statements.specs.JoinedStatements.{Attributes, Values}
use Rattle.linked_parts.specs.declared.linked.LinkedClass.{LinkedClass}
use Rattle.joined_properties.specs.JoiningSteps.{IsPass, IsStep}
use Rattle.joined_properties.specs.JoiningSteps.IsPass.{begin, onward}
use Rattle.joined_properties.specs.OwnStatements.{AreStatements, Stated}
use Rattle.joined_properties.specs.StatementChains.{said_in}
use Rattle.joined_properties.proofs.ChainLaws.{contains_nothing}
use Rattle.joined_properties.proofs.GraphPlaces.{got_none, got_some, got_within}
use Rattle.joined_properties.proofs.LocalLaws.{IsLocal, IsSameSaid, local_next, local_same, same_further, same_said}
use Rattle.joined_properties.proofs.LocalLaws.{same_tables, same_turned}
use Rattle.joined_properties.proofs.SoundLaws.{AreSound, IsSound, sound_next, sound_none}

-- ---- places

apart : (j k : ℕ) → (j ≡ k) ⊎ (j ≢ k)
apart j k = by (j == k) refl
  where
    by : (b : Bool) → (j == k) ≡ b → (j ≡ k) ⊎ (j ≢ k)
    by true e = inl (eqb-true j k e)
    by false e = inr (λ same. false≢true (sym e ∙ eq-eqb j k same))

pub said_at : (known : List Attributes) (attribute k : ℕ) (table : Attributes) → slice_get known k ≡ Some table →
    said_in known attribute k ≡ get nat_cmp table attribute
said_at known attribute k table at = ap (λ o. option_and_then (λ t. get nat_cmp t attribute) o) at

pub said_past : (known : List Attributes) (attribute k : ℕ) → length known ≤ k → said_in known attribute k ≡ None
said_past known attribute k past =
    ap (λ o. option_and_then (λ t. get nat_cmp t attribute) o) (got_none known k past)

pub said_beside : (one other : List Attributes) (attribute k : ℕ) → slice_get one k ≡ slice_get other k →
    said_in one attribute k ≡ said_in other attribute k
said_beside one other attribute k e = ap (λ o. option_and_then (λ t. get nat_cmp t attribute) o) e

or_false : (b c : Bool) → (b || c) ≡ false → (b ≡ false) × (c ≡ false)
or_false false c e = (refl, e)
or_false true c e = absurd (false≢true (sym e))

-- ---- a step

step_sound : (values : Values) (classes : List LinkedClass) (stated : Stated) (place : ℕ)
    (before after : List Attributes) (changed : Bool) → AreStatements stated →
    length before ≡ length classes → AreSound values classes stated before →
    IsStep values classes stated place before after changed → AreSound values classes stated after
step_sound values classes stated place before after changed are size sound step attribute k =
    ⊎_elim
    (λ (same : k ≡ place).
    subst (λ n. IsSound values classes stated attribute n (said_in after attribute n)) (sym same)
    (⊎_elim here gone (cases_lt place (length before))))
    (λ (other : k ≢ place).
    subst (IsSound values classes stated attribute k)
    (said_beside before after attribute k (sym (step.others k other))) (sound attribute k))
    (apart k place)
  where
    here : place < length before → IsSound values classes stated attribute place (said_in after attribute place)
    here within =
        let was = got_some before place within in
        let of = got_some classes place (subst (λ n. place < n) size within) in
        let next = step.replaced of.0 was.0 of.1 was.1 in
        subst (IsSound values classes stated attribute place) (sym (said_at after attribute place next.table next.is))
        (sound_next values classes stated before attribute place of.0 (get nat_cmp next.table attribute) are size sound
        of.1 (next.next attribute))

    gone : length before ≤ place → IsSound values classes stated attribute place (said_in after attribute place)
    gone past =
        subst (IsSound values classes stated attribute place)
        (sym (said_past after attribute place (subst (λ n. n ≤ place) (sym step.size) past)))
        (sound_none values classes stated attribute place)

-- all tables say the same
abbrev pub AreSame : Values → List Attributes → List Attributes → Type 0
AreSame values one other =
    (attribute k : ℕ) → IsSameSaid values (said_in one attribute k) (said_in other attribute k)

step_same : (values : Values) (classes : List LinkedClass) (stated : Stated) (place : ℕ)
    (before after : List Attributes) (changed : Bool) → changed ≡ false → length before ≡ length classes →
    IsStep values classes stated place before after changed → AreSame values before after
step_same values classes stated place before after changed same_ size step attribute k =
    ⊎_elim
    (λ (same : k ≡ place).
    subst (λ n. IsSameSaid values (said_in before attribute n) (said_in after attribute n)) (sym same)
    (⊎_elim here gone (cases_lt place (length before))))
    (λ (other : k ≢ place).
    same_said values (said_in before attribute k) (said_in after attribute k)
    (said_beside before after attribute k (sym (step.others k other))))
    (apart k place)
  where
    here : place < length before → IsSameSaid values (said_in before attribute place) (said_in after attribute place)
    here within =
        let was = got_some before place within in
        let of = got_some classes place (subst (λ n. place < n) size within) in
        let next = step.replaced of.0 was.0 of.1 was.1 in
        subst (λ o. IsSameSaid values o (said_in after attribute place))
        (sym (said_at before attribute place was.0 was.1))
        (subst (IsSameSaid values (get nat_cmp was.0 attribute))
        (sym (said_at after attribute place next.table next.is))
        (same_tables values was.0 next.table (next.same same_) attribute))

    gone : length before ≤ place → IsSameSaid values (said_in before attribute place) (said_in after attribute place)
    gone past =
        same_said values (said_in before attribute place) (said_in after attribute place)
        (said_past before attribute place past
        ∙ sym (said_past after attribute place (subst (λ n. n ≤ place) (sym step.size) past)))

-- the class at a place tells enough, by these tables
abbrev pub IsLocalAt : Values → List LinkedClass → Stated → List Attributes → ℕ → Type 0
IsLocalAt values classes stated known place = (attribute : ℕ) (of_class : LinkedClass) →
    slice_get classes place ≡ Some of_class →
    IsLocal values stated of_class known attribute (said_in known attribute place)

pub step_local : (values : Values) (classes : List LinkedClass) (stated : Stated) (place : ℕ)
    (before after : List Attributes) (changed : Bool) → length before ≡ length classes →
    IsStep values classes stated place before after changed → (attribute : ℕ) (of_class : LinkedClass) →
    slice_get classes place ≡ Some of_class →
    IsLocal values stated of_class before attribute (said_in after attribute place)
step_local values classes stated place before after changed size step attribute of_class at =
    let was = got_some before place (subst (λ n. place < n) (sym size) (got_within classes place of_class at)) in
    let next = step.replaced of_class was.0 at was.1 in
    subst (IsLocal values stated of_class before attribute) (sym (said_at after attribute place next.table next.is))
    (local_next values stated of_class before attribute (get nat_cmp next.table attribute) (next.next attribute))

-- ---- a pass

pub pass_size : {values : Values} {classes : List LinkedClass} {stated : Stated} {before now : List Attributes}
    {places : List ℕ} {changed : Bool} → IsPass values classes stated before places now changed →
    length now ≡ length before
pass_size begin = refl
pass_size (onward place pass step) = step.size ∙ pass_size pass

pub pass_sound : {values : Values} {classes : List LinkedClass} {stated : Stated} {before now : List Attributes}
    {places : List ℕ} {changed : Bool} → AreStatements stated → length before ≡ length classes →
    AreSound values classes stated before → IsPass values classes stated before places now changed →
    AreSound values classes stated now
pass_sound are size sound begin = sound
pass_sound {values} {classes} {stated} are size sound (onward {places} {now} {after} {changed} {anew} place pass step) =
    step_sound values classes stated place now after anew are (pass_size pass ∙ size)
    (pass_sound are size sound pass) step

pub pass_same : {values : Values} {classes : List LinkedClass} {stated : Stated} {before now : List Attributes}
    {places : List ℕ} {changed : Bool} → changed ≡ false → length before ≡ length classes →
    IsPass values classes stated before places now changed → AreSame values before now
pass_same {values} {classes} {stated} {before} e size begin =
    λ attribute k. same_said values (said_in before attribute k) (said_in before attribute k) refl
pass_same {values} {classes} {stated} {before} e size
    (onward {places} {now} {after} {changed} {anew} place pass step) =
    λ attribute k.
    let two = or_false changed anew e in
    same_further values (said_in before attribute k) (said_in now attribute k) (said_in after attribute k)
    (pass_same two.0 size pass attribute k)
    (step_same values classes stated place now after anew two.1 (pass_size pass ∙ size) step attribute k)

pub pass_local : {values : Values} {classes : List LinkedClass} {stated : Stated} {before now : List Attributes}
    {places : List ℕ} {changed : Bool} → changed ≡ false → length before ≡ length classes →
    IsPass values classes stated before places now changed → (place : ℕ) → Contains places place →
    IsLocalAt values classes stated before place
pass_local e size begin place c = absurd (contains_nothing place c)
pass_local {values} {classes} {stated} {before} e size
    (onward {places} {now} {after} {changed} {anew} p pass step) place c =
    let two = or_false changed anew e in
    ⊎_elim
    (λ (d : Contains places place). pass_local two.0 size pass place d)
    (λ (same : p ≡ place).
    subst (IsLocalAt values classes stated before) same
    (λ attribute of_class at.
    let here = step_same values classes stated p now after anew two.1 (pass_size pass ∙ size) step attribute p in
    let front = pass_same two.0 size pass in
    local_same values stated of_class now before attribute (said_in after attribute p) (said_in before attribute p)
    (λ k d. same_turned values (said_in before attribute k) (said_in now attribute k) (front attribute k))
    (same_further values (said_in after attribute p) (said_in now attribute p) (said_in before attribute p)
    (same_turned values (said_in now attribute p) (said_in after attribute p) here)
    (same_turned values (said_in before attribute p) (said_in now attribute p) (front attribute p)))
    (step_local values classes stated p now after anew (pass_size pass ∙ size) step attribute of_class at)))
    (Contains-push_cases places p place c)
