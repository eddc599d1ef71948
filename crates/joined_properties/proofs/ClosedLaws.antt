-- ClosedLaws: where whatever is told is true and each class tells enough, the tables are the properties of the classes.
use Rattle.std.proofs.Common.{◌≡◌, ◌<◌, ℕ, List, Option, Some, None, Bool, true, false, refl, sym, subst, ◌∙◌}
use Rattle.std.proofs.Common.{⊎_elim, length, ap}
use Rattle.std.proofs.lemmas.Bool.{cases_Bool, cases_lt, false≢true}
use Rattle.std.specs.Prelude.{◌≤◌, Contains}
use Rattle.std.specs.BTreeMap.{is_at}
use Rattle.std.specs.Map.{lookup}
use Rattle.std.specs.Ordering.{nat_cmp}
use Rattle.joined_statements.specs.JoinedStatements.{Attributes, Values}
use Rattle.joined_statements.specs.declared.joined.Joined.{Joined}
use Rattle.link_graphs.specs.Cycles.{IsBehindTargets, MarkCycles}
use Rattle.link_graphs.specs.Leading.{LeadsAtOnce, Leads}
use Rattle.link_graphs.specs.Leading.Leads.{at_once, onward}
use Rattle.linked_parts.specs.declared.linked.LinkedClass.{LinkedClass}
use Rattle.class_faults.specs.CyclicFaults.{superclasses_of}
use Rattle.joined_properties.specs.ClassProperties.{AreProperties, ArePropertiesOfAll}
use Rattle.joined_properties.specs.HeldNumbers.{HoldsNumber}
use Rattle.joined_properties.specs.HeldNumbers.HoldsNumber.{own as holds_own, inherited as holds_inherited}
use Rattle.joined_properties.specs.JoiningSteps.{AreJoinedAgain, AreNone, ArePasses}
use Rattle.joined_properties.specs.JoiningSteps.{IsPass}
use Rattle.joined_properties.specs.JoiningSteps.ArePasses.{begin as no_pass, onward as further_pass}
use Rattle.joined_properties.specs.OwnStatements.{AreStatements, Stated}
use Rattle.joined_properties.specs.ReachedStatements.{HasSuch}
use Rattle.joined_properties.specs.StatementChains.{said_in}
use Rattle.joined_properties.proofs.FactLaws.{Fact, Which, held_by, held_of, says}
use Rattle.joined_properties.proofs.FactLaws.Fact.{is_stated, is_such}
use Rattle.joined_properties.proofs.FactLaws.Which.{of_default, of_initial}
use Rattle.joined_properties.proofs.GraphPlaces.{derives_from, got_some, got_within, listed, size_same}
use Rattle.joined_properties.proofs.HeldLaws.{Covers, summary}
use Rattle.joined_properties.proofs.LocalLaws.{local_same}
use Rattle.joined_properties.proofs.OwnLaws.{of_own, own_of}
use Rattle.joined_properties.proofs.PassLaws.{IsLocalAt, pass_local, pass_same, pass_size, pass_sound, said_at}
use Rattle.joined_properties.proofs.PassLaws.{said_past}
use Rattle.joined_properties.proofs.SoundLaws.{AreSound, IsSound, sound_none}
use Rattle.joined_properties.proofs.TurnLaws.{pass_in_turn, turn_of}

abbrev pub AreLocal : Values → List LinkedClass → Stated → List Attributes → Type 0
AreLocal values classes stated known = (place : ℕ) → IsLocalAt values classes stated known place

-- ---- what is stated is told

fact_handed : (values : Values) (classes : List LinkedClass) (stated : Stated) (known : List Attributes)
    (attribute k above : ℕ) (fact : Fact) → AreLocal values classes stated known →
    LeadsAtOnce (superclasses_of classes) k above → says (said_in known attribute above) fact ≡ true →
    says (said_in known attribute k) fact ≡ true
fact_handed values classes stated known attribute k above fact local_ leads e =
    let of = derives_from classes k above leads in
    (local_ k attribute of.of_class of.class_at).facts_above above fact of.from e

fact_reached : (values : Values) (classes : List LinkedClass) (stated : Stated) (known : List Attributes)
    (attribute k : ℕ) {above : ℕ} (fact : Fact) → AreLocal values classes stated known →
    Leads (superclasses_of classes) k above → says (said_in known attribute above) fact ≡ true →
    says (said_in known attribute k) fact ≡ true
fact_reached values classes stated known attribute k fact local_ (at_once {target} one) e =
    fact_handed values classes stated known attribute k target fact local_ one e
fact_reached values classes stated known attribute k fact local_ (onward {between} {target} leads one) e =
    fact_reached values classes stated known attribute k fact local_ leads
    (fact_handed values classes stated known attribute between target fact local_ one e)

fact_told : (values : Values) (classes : List LinkedClass) (stated : Stated) (known : List Attributes) (attribute k : ℕ)
    (fact : Fact) → AreLocal values classes stated known →
    HasSuch classes stated k attribute (λ other. says (Some other) fact ≡ true) →
    says (said_in known attribute k) fact ≡ true
fact_told values classes stated known attribute k fact local_ such =
    let own = such.has.says in
    let above = such.has.above in
    let there : says (said_in known attribute above) fact ≡ true =
    (local_ above attribute own.of_class own.class_at).facts_own such.statement fact
    (of_own classes stated above own.of_class such.statement own.class_at own) such.of_attribute such.such in
    ⊎_elim
    (λ (same : k ≡ above). subst (λ n. says (said_in known attribute n) fact ≡ true) (sym same) there)
    (λ (leads : Leads (superclasses_of classes) k above).
    fact_reached values classes stated known attribute k fact local_ leads there)
    such.has.is_above

number_told : (values : Values) (classes : List LinkedClass) (stated : Stated) (known : List Attributes)
    (attribute : ℕ) (which : Which) {k number : ℕ} → AreLocal values classes stated known →
    HoldsNumber (held_by which) attribute classes stated k number →
    Covers values (held_of which (said_in known attribute k)) number
number_told values classes stated known attribute which local_ (holds_own {k} {number} statement own same e) =
    (local_ k attribute own.of_class own.class_at).held_own which statement number
    (of_own classes stated k own.of_class statement own.class_at own) same e
number_told values classes stated known attribute which local_
    (holds_inherited {k} {above} {number} of_class at silent c holds) =
    (local_ k attribute of_class at).held_above which above number
    (λ statement d same. silent statement (own_of classes stated k of_class statement at d) same) c
    (number_told values classes stated known attribute which local_ holds)

-- ---- the properties of a class

properties_at : (values : Values) (classes : List LinkedClass) (stated : Stated) (attribute k : ℕ)
    (said : Option Joined) → IsSound values classes stated attribute k said →
    ((fact : Fact) → HasSuch classes stated k attribute (λ other. says (Some other) fact ≡ true) →
    says said fact ≡ true) →
    ((which : Which) (number : ℕ) → HoldsNumber (held_by which) attribute classes stated k number →
    Covers values (held_of which said) number) → AreProperties values classes stated k attribute said
properties_at values classes stated attribute k None sound told covered =
    λ such. false≢true (told is_stated
    (record { statement = such.statement; has = such.has; of_attribute = such.of_attribute; such = refl }))
properties_at values classes stated attribute k (Some joined) sound told covered = record {
  is_stated = (let such = sound.facts is_stated refl in
      record { statement = such.statement; has = such.has; of_attribute = such.of_attribute; such = tt });
  properties = λ property. (λ e. sound.facts (is_such property) e, λ such. told (is_such property) such);
  default_ = summary values (HoldsNumber (held_by of_default) attribute classes stated k) joined.default
      (sound.held of_default) (covered of_default);
  initial_ = summary values (HoldsNumber (held_by of_initial) attribute classes stated k) joined.initial
      (sound.held of_initial) (covered of_initial);
}

pub all_properties : (values : Values) (classes : List LinkedClass) (stated : Stated) (known : List Attributes) →
    length known ≡ length classes → AreSound values classes stated known → AreLocal values classes stated known →
    ArePropertiesOfAll values classes stated known
all_properties values classes stated known size sound local_ = record {
  size = size;
  each = λ k table at attribute.
      subst (AreProperties values classes stated k attribute) (said_at known attribute k table at)
      (properties_at values classes stated attribute k (said_in known attribute k) (sound attribute k)
      (λ fact such. fact_told values classes stated known attribute k fact local_ such)
      (λ which number holds. number_told values classes stated known attribute which local_ holds));
}

-- ---- the last pass

none_said : (values : Values) (classes : List LinkedClass) (stated : Stated) (known : List Attributes) →
    AreNone classes known → AreSound values classes stated known
none_said values classes stated known none_ attribute k =
    subst (IsSound values classes stated attribute k) (sym said) (sound_none values classes stated attribute k)
  where
    said : said_in known attribute k ≡ None
    said =
        ⊎_elim
        (λ (within : k < length known).
        let at = got_some known k within in
        said_at known attribute k at.0 at.1 ∙
        ap (λ entries. lookup (is_at (nat_cmp attribute)) entries) (none_.none_ k at.0 at.1))
        (λ (past : length known ≤ k). said_past known attribute k past)
        (cases_lt k (length known))

passes_keep : {values : Values} {classes : List LinkedClass} {stated : Stated} {order : List ℕ}
    {before now : List Attributes} → AreStatements stated → length before ≡ length classes →
    AreSound values classes stated before → ArePasses values classes stated order before now →
    (length now ≡ length classes) × AreSound values classes stated now
passes_keep are size sound no_pass = (size, sound)
passes_keep {values} {classes} {stated} are size sound (further_pass {now} {after} changed passes pass) =
    let so_far = passes_keep are size sound passes in
    (pass_size pass ∙ so_far.0, pass_sound are so_far.0 so_far.1 pass)

-- again and again, until nothing changes
joined_again : (values : Values) (classes : List LinkedClass) (stated : Stated) (order : List ℕ)
    (before after : List Attributes) → AreStatements stated → IsBehindTargets (superclasses_of classes) order →
    length before ≡ length classes → AreSound values classes stated before →
    AreJoinedAgain values classes stated order before after → ArePropertiesOfAll values classes stated after
joined_again values classes stated order before after are behind size sound again =
    let kept = passes_keep are size sound again.passes in
    let same = pass_same refl kept.0 again.last in
    all_properties values classes stated after (pass_size again.last ∙ kept.0)
    (pass_sound are kept.0 kept.1 again.last)
    (λ place attribute of_class at.
    let there = behind.every place
    (subst (λ n. place < n) (sym (size_same classes)) (got_within classes place of_class at)) in
    local_same values stated of_class again.now after attribute (said_in again.now attribute place)
    (said_in after attribute place) (λ k c. same attribute k) (same attribute place)
    (pass_local refl kept.0 again.last place (listed order there.0 place there.1) attribute of_class at))

-- once, in an order in which each class stands behind those from which it derives
joined_once : (values : Values) (classes : List LinkedClass) (stated : Stated) (marks : List Bool) (order : List ℕ)
    (before after : List Attributes) (changed : Bool) → AreStatements stated →
    MarkCycles (superclasses_of classes) marks → IsBehindTargets (superclasses_of classes) order →
    length before ≡ length classes → AreSound values classes stated before → ¬ Contains marks true →
    IsPass values classes stated before order after changed → ArePropertiesOfAll values classes stated after
joined_once values classes stated marks order before after changed are cyclic behind size sound no_mark pass =
    all_properties values classes stated after (pass_size pass ∙ size) (pass_sound are size sound pass)
    (λ place attribute of_class at.
    let there = behind.every place
    (subst (λ n. place < n) (sym (size_same classes)) (got_within classes place of_class at)) in
    pass_in_turn size (turn_of (superclasses_of classes) order behind acyclic) pass place
    (listed order there.0 place there.1) attribute of_class at)
  where
    acyclic : (e : ℕ) → ¬ Leads (superclasses_of classes) e e
    acyclic e leads = no_mark (listed marks e true (cyclic.marked e leads))

pub properties_joined : (values : Values) (classes : List LinkedClass) (stated : Stated) (marks : List Bool)
    (order : List ℕ) (before now after : List Attributes) (changed wanted : Bool) → AreStatements stated →
    MarkCycles (superclasses_of classes) marks → IsBehindTargets (superclasses_of classes) order →
    AreNone classes before → IsPass values classes stated before order now changed →
    (wanted ≡ false → ¬ Contains marks true) →
    (wanted ≡ true → AreJoinedAgain values classes stated order now after) → (wanted ≡ false → after ≡ now) →
    ArePropertiesOfAll values classes stated after
properties_joined values classes stated marks order before now after changed wanted are cyclic behind none_ pass no_mark
    again once =
    let sound = none_said values classes stated before none_ in
    ⊎_elim
    (λ (e : wanted ≡ true).
    joined_again values classes stated order now after are behind (pass_size pass ∙ none_.size)
    (pass_sound are none_.size sound pass) (again e))
    (λ (e : wanted ≡ false).
    subst (ArePropertiesOfAll values classes stated) (sym (once e))
    (joined_once values classes stated marks order before now changed are cyclic behind none_.size sound (no_mark e)
    pass))
    (cases_Bool wanted)
