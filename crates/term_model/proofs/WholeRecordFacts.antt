-- Examples of whole records that the network of WholeFacts hasn't: a rule with each kind of step, its action and its
-- notification, uses of groups, and bounds; X.722, section 8; docs/PROFILE.md, sections 2, 3 and 9.
use Rattle.std.specs.Prelude.{◌≡◌, ◌⊎◌, ◌<◌, ◌≤◌, ◌&&◌, ◌||◌, ℕ, zero, suc, ℤ, pos, negsuc, List, [], ◌∷◌, Bool, true}
use Rattle.std.specs.Prelude.{false, None, Some, All, Contains, codes, leb, length, refl, slice_index_or}
use Rattle.std.proofs.lemmas.Bool.{leb-true}
use Rattle.std.proofs.Common.{◌∙◌, arith, inl, inr, ap, sym, subst, true≢false}
use Rattle.std.proofs.lemmas.List.Elements.{All-from_recursion}
use Rattle.term_values.specs.Bounded.{allowed}
use Rattle.term_values.specs.MatchingKinds.{is_set_of}
use Rattle.term_values.specs.Syntaxes.{Bounds, TypeSyntax}
use Rattle.term_values.specs.Syntaxes.TypeParts.{NoParts, Part}
use Rattle.term_values.specs.Syntaxes.TypeSyntax.{Integer, Sequence, SetOf}
use Rattle.term_values.specs.Typed.TypedSlots.{Filled, NoSlots}
use Rattle.term_values.specs.Typed.TypedValue.{Int, Parts}
use Rattle.term_model.specs.declared.actions.ActRec.{ActRec}
use Rattle.term_model.specs.declared.actions.AttributeField.{AttributeField}
use Rattle.term_model.specs.declared.actions.NoteRec.{NoteRec}
use Rattle.term_model.specs.declared.name_binding.BindRec.{BindRec}
use Rattle.term_model.specs.declared.object.Attribute.{Attribute}
use Rattle.term_model.specs.declared.packages.PackageRec.{PackageRec}
use Rattle.term_model.specs.declared.packages.Property.{Property}
use Rattle.term_model.specs.declared.rule.RuleRec.{RuleRec}
use Rattle.term_model.specs.declared.rule.RuleStep.{RuleStep}
use Rattle.term_model.specs.declared.rule.RuleStep.TheVariants as steps
use Rattle.term_model.specs.declared.schema.ClassRec.{ClassRec}
use Rattle.term_model.specs.declared.schema.GroupRec.{GroupRec}
use Rattle.term_model.specs.declared.schema.Set.{Set}
use Rattle.term_model.specs.AlikeSyntaxes.{AreAlike}
use Rattle.term_model.specs.Inheritance.{HasAttribute}
use Rattle.term_model.specs.Inheritance.IsAbove.{Itself}
use Rattle.term_model.specs.JoinedProperties.{Holds, OwnStates}
use Rattle.term_model.specs.JoinedProperties.Holds.{Inherited, Own}
use Rattle.term_model.specs.WholeRecords.{HasField, IsAttribute, IsNotEmpty, IsSetValued, IsWholeAction, IsWholeField}
use Rattle.term_model.specs.WholeRecords.{IsValueOf, IsWholeNotification, IsWholeUse, IsWithin}
use Rattle.term_model.specs.WholeSet.{AreApart, AreOrdered, CanName, HasSyntax, IsOfRule, IsTyped}
use Rattle.term_model.specs.WholeSet.{IsWholeInstance, IsWholePart, IsWholeRule, IsWholeStep}
use Rattle.term_model.specs.WholeSet.CanName.{AsRoot, ByBinding}
use Rattle.term_model.proofs.CreatingFacts.{element_binding, extra_oid, root_at, topped}
use Rattle.term_model.proofs.ExampleNetwork.{element_class, element_oid, element_package, id_oid, id_property}
use Rattle.term_model.proofs.ExampleNetwork.{id_template, id_value, load_oid, load_property, load_template, load_value}
use Rattle.term_model.proofs.ElementFacts.{both, contains_none, contains_one}
use Rattle.term_model.proofs.ObjectGetFacts.{heavy_class, heavy_network, heavy_oid}
use Rattle.term_model.proofs.WholeFacts.{ids_differ, is_within, one, whole_network}

-- ---- an action that sets the load, and its rule

abbrev number : TypeSyntax
number = Integer [] []

abbrev action_oid : List ℕ
action_oid = 2 ∷ 999 ∷ 9 ∷ 1 ∷ []

abbrev note_oid : List ℕ
note_oid = 2 ∷ 999 ∷ 10 ∷ 1 ∷ []

abbrev set_load : ActRec
set_load = record {
  id = action_oid;
  label = codes "setLoad";
  confirmed = true;
  information = Some number;
  reply = Some number;
}

abbrev load_field : AttributeField
load_field = record { component = codes "load"; attribute = load_oid }

-- SEQUENCE { load INTEGER }
abbrev told : TypeSyntax
told = Sequence (Part (codes "load") number false None NoParts)

abbrev load_changed : NoteRec
load_changed = record {
  id = note_oid;
  label = codes "loadChanged";
  information = Some told;
  fields = load_field ∷ [];
  reply = None;
}

abbrev each_step : List RuleStep
each_step =
    steps.SetArgument load_oid ∷ steps.SetValue load_oid (Int (pos 0)) ∷ steps.Add 3 load_oid
    ∷ steps.Emit note_oid (Some (Parts (Filled (Int (pos 3)) NoSlots))) ∷ steps.Emit note_oid None
    ∷ steps.ReplyArgument ∷ steps.ReplyAttribute load_oid ∷ steps.ReplyValue (Int (pos 7)) ∷ []

abbrev rule : RuleRec
rule = record { class = element_oid; action = action_oid; steps = each_step }

abbrev sizes : GroupRec
sizes = record { id = 2 ∷ 999 ∷ 8 ∷ 1 ∷ []; label = codes "sizes"; members = load_oid ∷ []; fixed = false }

abbrev ruled : Set
ruled = record whole_network {
  groups = sizes ∷ [];
  actions = set_load ∷ [];
  notifications = load_changed ∷ [];
  rules = rule ∷ [];
}

-- ---- which attributes a rule may name

has_load : HasAttribute ruled element_oid [] load_oid
has_load = record {
  of_package = element_package;
  has = record {
    above = element_oid;
    is_above = Itself;
    of_class = element_class;
    record_of = record { known = (0, omega arith, refl); named = refl };
    there = inl (0, omega arith, refl);
  };
  property = load_property;
  stated = (1, omega arith, refl);
  is = refl;
}

-- elements and the root are named by elementId alone
names_nothing : (below : List ℕ) → CanName ruled load_oid below → ⊥
names_nothing below (ByBinding binding known named of_class) =
    ids_differ (ap (λ (b : BindRec). b.attribute) (contains_one known) ∙ named)
names_nothing below (AsRoot instance first class part) = ids_differ part

load_of_rule : IsOfRule ruled element_oid load_oid
load_of_rule = record { has = has_load; plain = λ below above. names_nothing below }

id_names_elements : CanName ruled id_oid element_oid
id_names_elements = ByBinding element_binding (0, omega arith, refl) refl (inl refl)

id_names_root : CanName ruled id_oid element_oid
id_names_root = AsRoot root_at refl refl refl

id_not_of_rule : IsOfRule ruled element_oid id_oid → ⊥
id_not_of_rule h = h.plain element_oid Itself id_names_elements

-- ---- the steps

-- types that differ in the value of a DEFAULT are alike; those of which one has no DEFAULT aren't
abbrev loaded : ℕ → TypeSyntax
loaded n = Sequence (Part (codes "load") number false (Some (Int (pos n))) NoParts)

alike_but_for_values : AreAlike (loaded 3) (loaded 7)
alike_but_for_values = refl

abbrev has_default : TypeSyntax → Bool
has_default (Sequence (Part name syntax optional (Some value) rest)) = true
has_default _ = false

not_alike : AreAlike (loaded 3) told → ⊥
not_alike is = true≢false (ap has_default is)

load_is_number : HasSyntax ruled load_oid number
load_is_number = (load_template, (1, omega arith, refl), refl, refl)

load_typed : IsTyped ruled (Some number) load_oid
load_typed = (number, (number, refl, load_is_number, refl))

abbrev IsStep : RuleStep → Type 0
IsStep = IsWholeStep ruled rule set_load

sets_value : IsStep (steps.SetValue load_oid (Int (pos 0)))
sets_value = (
  load_of_rule,
  record { template = load_template; known = (1, omega arith, refl); named = refl; fits = (omega arith, refl) },
)

adds : IsStep (steps.Add 3 load_oid)
adds = (load_of_rule, (number, load_is_number, ([], ([], refl))))

emits : IsStep (steps.Emit note_oid (Some (Parts (Filled (Int (pos 3)) NoSlots))))
emits = (load_changed, (0, omega arith, refl), refl, (told, refl, ((omega arith, refl), tt)))

emits_nothing_more : IsStep (steps.Emit note_oid None)
emits_nothing_more = (load_changed, (0, omega arith, refl), refl, tt)

sets_argument : IsStep (steps.SetArgument load_oid)
sets_argument = (load_of_rule, load_typed)

replies_argument : IsStep steps.ReplyArgument
replies_argument = (number, (number, refl, refl, refl))

replies_load : IsStep (steps.ReplyAttribute load_oid)
replies_load = (load_of_rule, load_typed)

replies_seven : IsStep (steps.ReplyValue (Int (pos 7)))
replies_seven = (number, refl, (omega arith, refl))

each_is_step : All IsStep each_step
each_is_step =
    All-from_recursion IsStep each_step (
      sets_argument,
      (
        sets_value,
        (
          adds,
          (
            emits,
            (
              emits_nothing_more,
              (
                replies_argument,
                (replies_load, (replies_seven, tt)),
              ),
            ),
          ),
        ),
      ),
    )

rule_whole : IsWholeRule ruled rule
rule_whole = record {
  class = (0, omega arith, refl);
  action = set_load;
  known = (0, omega arith, refl);
  named = refl;
  steps = each_is_step;
}

-- no two rules of one class and action
apart_by_action : AreApart rule (record rule { action = note_oid })
apart_by_action = inr (λ is. let arcs : 9 ≡ 10 = ap (λ (arcs : List ℕ). slice_index_or arcs 2 0) is in
    absurd (omega (arith, arcs)))

not_apart : AreApart rule (record rule { steps = [] }) → ⊥
not_apart (inl differ) = differ refl
not_apart (inr differ) = differ refl

-- ---- actions and notifications

action_whole : IsWholeAction set_load
action_whole = record { information = (refl, tt); reply = (refl, tt) }

told_has_load : HasField told (codes "load") number
told_has_load = inl (refl, refl)

field_whole : IsWholeField ruled told load_field
field_whole = record { template = load_template; known = (1, omega arith, refl); named = refl; there = told_has_load }

note_whole : IsWholeNotification ruled load_changed
note_whole = record {
  information = (refl, (tt, tt, tt));
  reply = tt;
  fields = one
      (λ (field : AttributeField).
      (information : TypeSyntax) × (load_changed.information ≡ Some information)
      × IsWholeField ruled information field) load_field (told, refl, field_whole);
}

-- ---- groups, packages and bounds

-- the use of a group that isn't FIXED may add elementId
use_whole : IsWholeUse ruled (record { group = sizes.id; added = id_oid ∷ [] })
use_whole = record {
  group = sizes;
  known = (0, omega arith, refl);
  named = refl;
  added = one (IsAttribute ruled) id_oid (0, omega arith, refl);
  fixed = λ is. absurd (true≢false (sym is));
}

-- and that of a FIXED one adds nothing
abbrev fixed_sizes : GroupRec
fixed_sizes = record sizes { fixed = true }

fixed_not_added :
    IsWholeUse (record ruled { groups = fixed_sizes ∷ [] }) (record { group = sizes.id; added = id_oid ∷ [] }) → ⊥
fixed_not_added h =
    let fixed = subst (λ (group : GroupRec). group.fixed ≡ true) (contains_one h.known) refl in
    let long : 1 ≡ 0 = ap length (h.fixed fixed) in
    omega (arith, long)

-- an instance may choose any package
abbrev IsGiven : Attribute → Type 0
IsGiven held = IsValueOf topped held.id held.value

choosing_whole : IsWholeInstance topped (record root_at { chosen = extra_oid ∷ [] })
choosing_whole = record {
  class = (0, omega arith, refl);
  name = All-from_recursion (IsWholePart topped) [] tt;
  given = both IsGiven id_value load_value
      (record { template = id_template; known = (0, omega arith, refl); named = refl; fits = (omega arith, refl) })
      (record { template = load_template; known = (1, omega arith, refl); named = refl; fits = (omega arith, refl) });
}

-- ADD and REMOVE need SET OF, under any tags
set_valued : IsSetValued (SetOf number [])
set_valued = (number, ([], refl))

number_not_set_valued : IsSetValued number → ⊥
number_not_set_valued (member, (bounds, is)) = true≢false (sym (ap is_set_of is))

-- 0 to 9 and 5 to 20 have numbers in common, 7 among them
abbrev to_nine : Bounds
to_nine = (pos 0, pos 9) ∷ []

abbrev to_twenty : Bounds
to_twenty = (pos 5, pos 20) ∷ []

seven_in_both : IsNotEmpty (Integer [] to_nine) (Integer [] to_twenty ∷ [])
seven_in_both form bounds is = (
  pos 7,
  omega arith,
  λ other. omega arith,
  is_within to_nine (pos 7) refl form,
  one (IsWithin form (pos 7)) (Integer [] to_twenty) (is_within to_twenty (pos 7) refl form),
)

-- 0 to 1 and 2 to 3 have none
abbrev to_one : Bounds
to_one = (pos 0, pos 1) ∷ []

abbrev to_three : Bounds
to_three = (pos 2, pos 3) ∷ []

below_two : (k : ℕ) → allowed to_one (pos k) ≡ true → k < 2
below_two k low = let least : k ≤ 1 = leb-true k 1 (second (leb 0 k) (leb k 1) low) in omega (arith, least)
  where
    second : (one other : Bool) → (one && other || false) ≡ true → other ≡ true
    second true true is = refl
    second true false is = is
    second false other is = absurd (true≢false (sym is))

in_neither : (n : ℤ) → allowed to_one n ≡ true → allowed to_three n ≡ true → ⊥
in_neither (negsuc k) low high = true≢false (sym low)
in_neither (pos zero) low high = true≢false (sym high)
in_neither (pos (suc zero)) low high = true≢false (sym high)
in_neither (pos (suc (suc k))) low high = omega (arith, below_two (suc (suc k)) low)

none_in_both : IsNotEmpty (Integer [] to_one) (Integer [] to_three ∷ []) → ⊥
none_in_both h =
    let found = h 0 to_one refl in
    in_neither found.0 (found.3 to_one refl) (found.4 0 (Integer [] to_three) (omega arith) to_three refl)

-- ---- a class that derives from itself has no place behind itself

abbrev circular : Set
circular = record whole_network { classes = record element_class { superclasses = element_oid ∷ [] } ∷ [] }

circular_not_ordered : AreOrdered circular → ⊥
circular_not_ordered (place, bounded, rises) =
    let before = rises element_oid element_oid (record {
      of_class = record element_class { superclasses = element_oid ∷ [] };
      has = record { known = (0, omega arith, refl); named = refl };
      from = (0, omega arith, refl);
    }) in
    omega (arith, before)

-- ---- an inherited default: `heavy` states nothing of the load, which its superclass gives the default 2

abbrev default_load : Property
default_load = record load_property { default = Some (Int (pos 2)) }

abbrev default_package : PackageRec
default_package = record element_package { attributes = id_property ∷ default_load ∷ [] }

abbrev default_class : ClassRec
default_class = record element_class { mandatory = default_package ∷ [] }

abbrev with_default : Set
with_default = record heavy_network { classes = default_class ∷ heavy_class ∷ [] }

no_attributes : (of_package : PackageRec) → of_package.attributes ≡ [] → (stated : Property)
    → Contains of_package.attributes stated → ⊥
no_attributes of_package none stated there =
    contains_none (subst (λ (attributes : List Property). Contains attributes stated) none there)

heavy_states_nothing : (stated : Property) → OwnStates heavy_class stated → ⊥
heavy_states_nothing stated own = of_kind own.own
  where
    of_kind : Contains heavy_class.mandatory own.of_package ⊎ Contains heavy_class.conditional own.of_package → ⊥
    of_kind (inl there) = no_attributes own.of_package
        (sym (ap (λ (p : PackageRec). p.attributes) (contains_one there))) stated own.says
    of_kind (inr there) = no_attributes own.of_package
        (sym (ap (λ (p : PackageRec). p.attributes) (contains_one there))) stated own.says

default_is_inherited : Holds with_default (λ (stated : Property). stated.default) load_oid heavy_oid (Int (pos 2))
default_is_inherited =
    Inherited heavy_class (record { known = (1, omega arith, refl); named = refl })
    (λ stated own named. absurd (heavy_states_nothing stated own))
    (record {
      of_class = heavy_class;
      has = record { known = (1, omega arith, refl); named = refl };
      from = (0, omega arith, refl);
    })
    (Own default_class default_load (record { known = (0, omega arith, refl); named = refl })
    (record { of_package = default_package; own = inl (0, omega arith, refl); says = (1, omega arith, refl) })
    refl refl)
