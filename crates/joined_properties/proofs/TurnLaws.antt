-- TurnLaws: in an order in which each class stands behind those from which it derives, one pass is enough.
use Rattle.std.proofs.Common.{◌≡◌, ◌<◌, ◌≤◌, ◌++◌, ◌∷◌, [], ℕ, List, Some, Bool, refl, sym, subst}
use Rattle.std.proofs.Common.{◌∙◌, ⊎_elim, length, arith}
use Rattle.std.proofs.lemmas.Bool.{cases_lt}
use Rattle.std.proofs.lemmas.List.{length_push}
use Rattle.std.proofs.lemmas.List.Elements.{Contains-push_cases}
use Rattle.std.specs.Prelude.{◌≢◌, Contains, slice_get}
use Rattle.joined_statements.specs.JoinedStatements.{Attributes, Values}
use Rattle.link_graphs.specs.Cycles.{IsBehindTargets}
use Rattle.link_graphs.specs.Leading.{LeadsAtOnce, Leads}
use Rattle.link_graphs.proofs.PlaceLaws.{get_before, get_last, get_push}
use Rattle.linked_parts.specs.declared.linked.LinkedClass.{LinkedClass}
use Rattle.class_faults.specs.CyclicFaults.{superclasses_of}
use Rattle.joined_properties.specs.JoiningSteps.{IsPass}
use Rattle.joined_properties.specs.JoiningSteps.IsPass.{begin, onward}
use Rattle.joined_properties.specs.OwnStatements.{Stated}
use Rattle.joined_properties.specs.StatementChains.{said_in}
use Rattle.joined_properties.proofs.ChainLaws.{contains_nothing}
use Rattle.joined_properties.proofs.GraphPlaces.{got_within, leads_above, placed}
use Rattle.joined_properties.proofs.LocalLaws.{IsLocal, local_same, same_said}
use Rattle.joined_properties.proofs.PassLaws.{IsLocalAt, pass_size, said_beside, said_past, step_local}

-- each class once, and behind those from which it derives directly
pub record IsTurn (lists : List (List ℕ)) (places : List ℕ) : Type 0 where
  pub once : (j k e : ℕ) → slice_get places j ≡ Some e → slice_get places k ≡ Some e → j ≡ k
  pub behind : (k e t : ℕ) → slice_get places k ≡ Some e → LeadsAtOnce lists e t →
      (j : ℕ) × (j < k) × (slice_get places j ≡ Some t)

pub turn_of : (lists : List (List ℕ)) (order : List ℕ) → IsBehindTargets lists order →
    ((e : ℕ) → ¬ Leads lists e e) → IsTurn lists order
turn_of lists order are acyclic = record {
  once = are.once;
  behind = λ k e t at leads. are.behind k e t at (acyclic e) leads;
}

turn_front : (lists : List (List ℕ)) (places : List ℕ) (p : ℕ) → IsTurn lists (places ++ p ∷ []) → IsTurn lists places
turn_front lists places p turn = record {
  once = λ j k e one other. turn.once j k e (get_before places (p ∷ []) j e one) (get_before places (p ∷ []) k e other);
  behind = behind;
}
  where
    behind : (k e t : ℕ) → slice_get places k ≡ Some e → LeadsAtOnce lists e t →
        (j : ℕ) × (j < k) × (slice_get places j ≡ Some t)
    behind k e t at leads =
        let front = turn.behind k e t (get_before places (p ∷ []) k e at) leads in (
          front.0,
          front.1,
          ⊎_elim (λ (there : slice_get places front.0 ≡ Some t). there)
              (λ (last : (front.0 ≡ length places) × (p ≡ t)).
              absurd (let within = got_within places k e at in let less = front.1 in let is = last.0 in omega arith))
              (get_push places p front.0 t front.2),
        )

-- what the superclasses of a class tell stays, while the last one is joined
stays : (classes : List LinkedClass) (places : List ℕ) (p : ℕ) (now after : List Attributes) →
    length now ≡ length classes → length after ≡ length now →
    ((k : ℕ) → k ≢ p → slice_get after k ≡ slice_get now k) → IsTurn (superclasses_of classes) (places ++ p ∷ []) →
    (k e : ℕ) (of_class : LinkedClass) → slice_get (places ++ p ∷ []) k ≡ Some e → slice_get classes e ≡ Some of_class →
    (attribute t : ℕ) → Contains of_class.superclasses.items t → said_in now attribute t ≡ said_in after attribute t
stays classes places p now after size same_size others turn k e of_class at class_at attribute t c =
    ⊎_elim
    (λ (within : t < length classes).
    let front = turn.behind k e t at (leads_above classes e t of_class class_at c within) in
    said_beside now after attribute t (sym (others t (λ same. not_last front.0 front.1
    (subst (λ n. slice_get (places ++ p ∷ []) front.0 ≡ Some n) same front.2)))))
    (λ (past : length classes ≤ t).
    said_past now attribute t (omega arith) ∙ sym (said_past after attribute t (omega arith)))
    (cases_lt t (length classes))
  where
    not_last : (j : ℕ) → j < k → slice_get (places ++ p ∷ []) j ≡ Some p → ⊥
    not_last j less there =
        let is : j ≡ length places = turn.once j (length places) p there (get_last places p) in
        let within = got_within (places ++ p ∷ []) k e at in
        let sum = length_push places p in
        omega arith

pub pass_in_turn : {values : Values} {classes : List LinkedClass} {stated : Stated} {before now : List Attributes}
    {places : List ℕ} {changed : Bool} → length before ≡ length classes → IsTurn (superclasses_of classes) places →
    IsPass values classes stated before places now changed → (place : ℕ) → Contains places place →
    IsLocalAt values classes stated now place
pass_in_turn size turn begin place c = absurd (contains_nothing place c)
pass_in_turn {values} {classes} {stated} {before} size turn
    (onward {places} {now} {after} {changed} {anew} p pass step) place c =
    ⊎_elim (earlier (pass_in_turn size (turn_front (superclasses_of classes) places p turn) pass place)) last
    (Contains-push_cases places p place c)
  where
    now_size : length now ≡ length classes
    now_size = pass_size pass ∙ size

    kept : (k e : ℕ) (of_class : LinkedClass) → slice_get (places ++ p ∷ []) k ≡ Some e →
        slice_get classes e ≡ Some of_class → (attribute t : ℕ) → Contains of_class.superclasses.items t →
        said_in now attribute t ≡ said_in after attribute t
    kept = stays classes places p now after now_size step.size step.others turn

    -- a class whose superclasses' tables stay keeps what it tells
    so_kept : (k e : ℕ) (of_class : LinkedClass) → slice_get (places ++ p ∷ []) k ≡ Some e →
        slice_get classes e ≡ Some of_class → (attribute : ℕ) →
        said_in now attribute e ≡ said_in after attribute e →
        IsLocal values stated of_class now attribute (said_in now attribute e) →
        IsLocal values stated of_class after attribute (said_in after attribute e)
    so_kept k e of_class at class_at attribute itself local_ =
        local_same values stated of_class now after attribute (said_in now attribute e) (said_in after attribute e)
        (λ t d. same_said values (said_in now attribute t) (said_in after attribute t)
        (kept k e of_class at class_at attribute t d))
        (same_said values (said_in now attribute e) (said_in after attribute e) itself) local_

    earlier : (Contains places place → IsLocalAt values classes stated now place) → Contains places place →
        IsLocalAt values classes stated after place
    earlier front d attribute of_class at =
        let there = placed places place d in
        let before_ = get_before places (p ∷ []) there.0 place there.1 in
        let other : place ≢ p = λ same.
        let is : there.0 ≡ length places = turn.once there.0 (length places) p
        (subst (λ n. slice_get (places ++ p ∷ []) there.0 ≡ Some n) same before_) (get_last places p) in
        let within = got_within places there.0 place there.1 in
        omega arith in
        so_kept there.0 place of_class before_ at attribute
        (said_beside now after attribute place (sym (step.others place other)))
        (front d attribute of_class at)

    last : p ≡ place → IsLocalAt values classes stated after place
    last same = subst (IsLocalAt values classes stated after) same
        (λ attribute of_class at.
        local_same values stated of_class now after attribute (said_in after attribute p) (said_in after attribute p)
        (λ t d. same_said values (said_in now attribute t) (said_in after attribute t)
        (kept (length places) p of_class (get_last places p) at attribute t d))
        (same_said values (said_in after attribute p) (said_in after attribute p) refl)
        (step_local values classes stated p now after anew now_size step attribute of_class at))
