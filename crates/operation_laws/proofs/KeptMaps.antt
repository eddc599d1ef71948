-- What an operation keeps of the map with each object on which it acts it keeps to its end: for an m-Get the map as it
-- is, for an m-Set that the map is well-formed.
use Rattle.std.proofs.Common.{◌≡◌, ℕ, Bool, true, false, List, [], ◌∷◌, Option, None, Some, Result, Ok, Err, refl}
use Rattle.std.proofs.Common.{ap, ◌∙◌, if◌then◌else◌}
use Rattle.std.proofs.Math.Path.{subst}
use Rattle.std.specs.Prelude.{IfOk, length, nat_le}
use Rattle.std.specs.Option.{option_map_or}
use Rattle.term_model.specs.declared.effect.Effect.{Effect}
use Rattle.term_model.specs.declared.name.Rdn.{Rdn}
use Rattle.term_model.specs.declared.object.Object.{Object}
use Rattle.term_model.specs.declared.objects.NamedObject.{NamedObject}
use Rattle.term_model.specs.declared.reply.CmisError.{CmisError}
use Rattle.term_model.specs.declared.request.Change.{Change}
use Rattle.term_model.specs.declared.request.Head.{Head}
use Rattle.term_model.specs.declared.request.IdRef.{IdRef}
use Rattle.term_model.specs.declared.schema.Set.{Set}
use Rattle.term_model.specs.CmisErrors.{complexity_limitation}
use Rattle.term_model.specs.NamedObjects.{object_at, removed, stored}
use Rattle.term_model.specs.WellFormedObjects.{AreGood}
use Rattle.set_laws.specs.KeptMaps.{with_patches}
use Rattle.set_laws.proofs.KeptMapLaws.{map_stays_good}
use Rattle.operation_model.specs.LinkedReplies.{replies_size}
use Rattle.operation_model.specs.OperationChecks.{Checked, checked}
use Rattle.operation_model.specs.WholeOperation.{Act, Changed, Outcome, Progress, acted, acted_on, acted_on_all}
use Rattle.operation_model.specs.WholeOperation.{all_or_none, answered, begun, getting, granted_at, installed, is_atomic}
use Rattle.operation_model.specs.WholeOperation.{listed, refusal, replies_to, setting, unless_failed, within_size}
use Rattle.op_engine.proofs.OwnLaws.{get_none}
use Rattle.operation_laws.specs.KeptMaps.{GetChangesNothing, SetKeepsMap}

-- change sets are installed in one way
one_way : (objects : List NamedObject) (changes : Changed) → with_patches objects changes ≡ installed objects changes
one_way objects [] = refl
one_way objects ((name, None) ∷ changes) = one_way (removed name objects) changes
one_way objects ((name, Some object) ∷ changes) =
    one_way (stored (record { name = name; object = object }) objects) changes

-- an operation on one object keeps what is said of the map
abbrev pub Keeps : (List NamedObject → Type 0) → Act → Type 0
Keeps P act = (objects : List NamedObject) (name : List Rdn) (object : Object) (effect : Effect)
    → P objects → object_at objects name ≡ Some object → act objects name object ≡ Ok effect
    → P (installed objects effect.changes)

answer_keeps : (P : List NamedObject → Type 0) (act : Act) → Keeps P act → (p : Progress) (name : List Rdn)
    (object : Object) → object_at p.objects name ≡ Some object → (o : Result Effect CmisError)
    → act p.objects name object ≡ o → P p.objects → P (answered p o).objects
answer_keeps P act all p name object there (Ok effect) is good = all p.objects name object effect good there is
answer_keeps P act all p name object there (Err error) is good = good

act_keeps : (P : List NamedObject → Type 0) (act : Act) → Keeps P act → (p : Progress) (name : List Rdn)
    → P p.objects → P (acted_on act p name).objects
act_keeps P act all p name good = by (object_at p.objects name) refl
  where
    by : (o : Option Object) → object_at p.objects name ≡ o
        → P (option_map_or (λ object. answered p (act p.objects name object)) o p).objects
    by None there = good
    by (Some object) there =
        answer_keeps P act all p name object there (act p.objects name object) refl good

acts_keep : (P : List NamedObject → Type 0) (act : Act) → Keeps P act → (p : Progress) (names : List (List Rdn))
    → P p.objects → P (acted_on_all act p names).objects
acts_keep P act all p [] good = good
acts_keep P act all p (name ∷ names) good =
    acts_keep P act all (acted_on act p name) names (act_keeps P act all p name good)

settling_keeps : (P : List NamedObject → Type 0) (atomic : Bool) (objects : List NamedObject) (p : Progress)
    (failures : List CmisError) → P objects → P p.objects → P (unless_failed atomic objects p failures).objects
settling_keeps P false objects p failures before good = good
settling_keeps P true objects p [] before good = good
settling_keeps P true objects p (first ∷ others) before good = before

size_keeps : (P : List NamedObject → Type 0) (objects : List NamedObject) (told : Outcome) → P objects
    → P told.objects → P (within_size objects told).objects
size_keeps P objects told before good = by (nat_le (replies_size told.replies) 4194304)
  where
    by : (b : Bool) → P (if b then told else refusal objects complexity_limitation).objects
    by true = good
    by false = before

pub acted_keeps : (P : List NamedObject → Type 0) (objects : List NamedObject) (head : Head) (number : ℕ) (act : Act)
    → Keeps P act → P objects → (checks : Checked) → P (acted objects head number act checks).objects
acted_keeps P objects head number act all good (Err error) = good
acted_keeps P objects head number act all good (Ok names) =
    let made = acted_on_all act (begun objects) names in
    let left = all_or_none (is_atomic head) objects made in
    size_keeps P objects (record {
      objects = left.objects;
      replies = replies_to head.scope number left.replies;
      sources = left.sources;
    }) good
    (settling_keeps P (is_atomic head) objects made made.failures good (acts_keep P act all (begun objects) names good))

-- ---- m-Get

get_keeps : (schema : Set) (asked : Option (List IdRef)) (time : ℕ) (before : List NamedObject)
    → Keeps (λ objects. objects ≡ before) (getting schema asked time)
get_keeps schema asked time before objects name object effect same there is =
    ap (installed objects) (get_none schema name object asked (granted_at time) effect is) ∙ same

pub gets_change_nothing : GetChangesNothing
gets_change_nothing = λ schema objects head asked time.
    acted_keeps (λ left. left ≡ objects) objects head 0 (getting schema asked time)
    (get_keeps schema asked time objects) refl (checked schema objects head (listed asked))

-- ---- m-Set

set_keeps : (schema : Set) (head : Head) (changes : List Change) (time : ℕ)
    → Keeps (AreGood schema) (setting schema head changes time)
set_keeps schema head changes time objects name object effect good there is =
    subst (AreGood schema) (one_way objects effect.changes)
    (subst (λ (r : Result Effect CmisError). IfOk r (λ e. AreGood schema (with_patches objects e.changes))) is
    (map_stays_good schema objects name object changes (is_atomic head) (granted_at time) good there))

pub sets_keep_maps : SetKeepsMap
sets_keep_maps = λ schema objects head changes time good.
    acted_keeps (AreGood schema) objects head 2 (setting schema head changes time)
    (set_keeps schema head changes time) good (checked schema objects head (length changes))
