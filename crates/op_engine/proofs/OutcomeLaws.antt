-- The plan that is made of what was noted tells the outcome of the definition.
use Rattle.std.proofs.Common.{◌≡◌, ◌≢◌, ◌⊎◌, ℕ, Bool, true, false, List, [], ◌∷◌, ◌++◌, map, Option, None, Some}
use Rattle.std.proofs.Common.{Result, Ok, Err, refl, sym, ap, ◌∙◌, inl, inr, append_assoc, arith, if◌then◌else◌}
use Rattle.std.proofs.Math.Path.{subst}
use Rattle.std.proofs.lemmas.List.{append-nil}
use Rattle.std.specs.Prelude.{IfOk, nat_le}
use Rattle.std.specs.List.{AllByRecursion}
use Rattle.std.specs.List.Sorted.{IsStrictlySortedBy}
use Rattle.std.specs.Option.{option_map_or}
use Rattle.std.specs.declared.cmp.Ordering.TheVariants.{Less}
use Rattle.term_model.specs.declared.effect.Effect.{Effect}
use Rattle.term_model.specs.declared.name.Rdn.{Rdn}
use Rattle.term_model.specs.declared.object.Object.{Object}
use Rattle.term_model.specs.declared.objects.NamedObject.{NamedObject}
use Rattle.term_model.specs.declared.reply.CmisError.{CmisError}
use Rattle.term_model.specs.declared.reply.Reply.TheVariants as reply
use Rattle.term_model.specs.declared.request.Head.{Head}
use Rattle.term_model.specs.declared.scope.Scope.{Scope}
use Rattle.term_model.specs.CmisErrors.{complexity_limitation}
use Rattle.term_model.specs.NameOrder.{name_cmp}
use Rattle.term_model.specs.NamedObjects.{object_at}
use Rattle.op_engine.specs.declared.acting.Acting.{Acting}
use Rattle.op_engine.specs.declared.outcome.Plan.{Plan}
use Rattle.op_engine.specs.Acting.{noted, noted_at, noted_of, nothing_done, settled, settled_with}
use Rattle.operation_model.specs.LinkedReplies.{replies_size}
use Rattle.operation_model.specs.OperationChecks.{Checked}
use Rattle.op_engine.specs.Plans.{IsPlan}
use Rattle.op_engine.specs.Planning.{plan_of, plan_within, refused_plan}
use Rattle.operation_model.specs.WholeOperation.{Act, AreChanges, Changed, Progress, acted, acted_on_all, all_or_none, begun}
use Rattle.operation_model.specs.WholeOperation.{concluded, installed, is_atomic, refusal, replies_to, unless_failed}
use Rattle.op_engine.proofs.MapLaws.{are_changes, changed_names}
use Rattle.op_engine.proofs.PlanLaws.{ChangesOne, IsAlone, IsOwn, Same, goes}

-- ---- the changes

abbrev pub of_result : Result Effect CmisError → Changed
of_result (Ok effect) = effect.changes
of_result (Err error) = []

abbrev pub of_one : Act → List NamedObject → List Rdn → Changed
of_one act objects name = option_map_or (λ object. of_result (act objects name object)) (object_at objects name) []

abbrev pub of_all : Act → List NamedObject → List (List Rdn) → Changed
of_all act objects [] = []
of_all act objects (name ∷ names) = of_one act objects name ++ of_all act objects names

noted_change : (atomic : Bool) (a : Acting) (o : Result Effect CmisError)
    → (noted atomic a o).changes ≡ a.changes ++ of_result o
noted_change atomic a (Ok effect) = refl
noted_change true a (Err error) = sym (append-nil a.changes)
noted_change false a (Err error) = sym (append-nil a.changes)

noted_one : (atomic : Bool) (act : Act) (objects : List NamedObject) (a : Acting) (name : List Rdn)
    → (noted_at atomic act objects a name).changes ≡ a.changes ++ of_one act objects name
noted_one atomic act objects a name = by (object_at objects name)
  where
    by : (o : Option Object)
        → (option_map_or (λ object. noted atomic a (act objects name object)) o a).changes
        ≡ a.changes ++ option_map_or (λ object. of_result (act objects name object)) o []
    by None = sym (append-nil a.changes)
    by (Some object) = noted_change atomic a (act objects name object)

noted_all : (atomic : Bool) (act : Act) (objects : List NamedObject) (a : Acting) (names : List (List Rdn))
    → (noted_of atomic act objects a names).changes ≡ a.changes ++ of_all act objects names
noted_all atomic act objects a [] = sym (append-nil a.changes)
noted_all atomic act objects a (name ∷ names) =
    noted_all atomic act objects (noted_at atomic act objects a name) names
    ∙ ap (λ cs. cs ++ of_all act objects names) (noted_one atomic act objects a name)
    ∙ append_assoc a.changes (of_one act objects name) (of_all act objects names)

-- a change of this name that brings something else, or none
abbrev pub IsOne : List NamedObject → List Rdn → Changed → Type 0
IsOne objects name changes =
    (changes ≡ [])
    ⊎ ((left : Option Object) × (changes ≡ (name, left) ∷ []) × (object_at objects name ≢ left))

one_is : (act : Act) → IsOwn act → (objects : List NamedObject) (name : List Rdn)
    → IsOne objects name (of_one act objects name)
one_is act own objects name = by (object_at objects name) refl
  where
    turned : (object : Object) → object_at objects name ≡ Some object → (changes : Changed)
        → ChangesOne name object changes → IsOne objects name changes
    turned object there changes (inl none) = inl none
    turned object there changes (inr one) =
        inr (Some one.0, one.1, λ same. one.2 (some_same (sym there ∙ same)))
      where
        some_same : Some object ≡ Some one.0 → object ≡ one.0
        some_same e = cc

    of : (object : Object) → object_at objects name ≡ Some object → (o : Result Effect CmisError)
        → act objects name object ≡ o → IsOne objects name (of_result o)
    of object there (Ok effect) is = turned object there effect.changes (own objects name object effect is)
    of object there (Err error) is = inl refl

    by : (o : Option Object) → object_at objects name ≡ o
        → IsOne objects name (option_map_or (λ object. of_result (act objects name object)) o [])
    by None there = inl refl
    by (Some object) there = of object there (act objects name object) refl

all_with : (P : List Rdn → Type 0) (objects : List NamedObject) (name : List Rdn) (xs ys : Changed) → P name
    → IsOne objects name xs → AllByRecursion P (changed_names ys) → AllByRecursion P (changed_names (xs ++ ys))
all_with P objects name xs ys one (inl none) all =
    subst (λ zs. AllByRecursion P (changed_names (zs ++ ys))) (sym none) all
all_with P objects name xs ys one (inr is) all =
    subst (λ zs. AllByRecursion P (changed_names (zs ++ ys))) (sym is.1) (one, all)

all_names : (P : List Rdn → Type 0) (act : Act) → IsOwn act → (objects : List NamedObject) (names : List (List Rdn))
    → AllByRecursion P names → AllByRecursion P (changed_names (of_all act objects names))
all_names P act own objects [] all = tt
all_names P act own objects (name ∷ names) all =
    all_with P objects name (of_one act objects name) (of_all act objects names) all.0 (one_is act own objects name)
    (all_names P act own objects names all.1)

rise_with : (objects : List NamedObject) (name : List Rdn) (xs ys : Changed) → IsOne objects name xs
    → AllByRecursion (λ n. name_cmp name n ≡ Less) (changed_names ys)
    → IsStrictlySortedBy name_cmp (changed_names ys) → IsStrictlySortedBy name_cmp (changed_names (xs ++ ys))
unfolding IsStrictlySortedBy
rise_with objects name xs ys (inl none) below rising =
    subst (λ zs. IsStrictlySortedBy name_cmp (changed_names (zs ++ ys))) (sym none) rising
rise_with objects name xs ys (inr is) below rising =
    subst (λ zs. IsStrictlySortedBy name_cmp (changed_names (zs ++ ys))) (sym is.1) (below, rising)

names_rise : (act : Act) → IsOwn act → (objects : List NamedObject) (names : List (List Rdn))
    → IsStrictlySortedBy name_cmp names → IsStrictlySortedBy name_cmp (changed_names (of_all act objects names))
unfolding IsStrictlySortedBy
names_rise act own objects [] rising = tt
names_rise act own objects (name ∷ names) rising =
    rise_with objects name (of_one act objects name) (of_all act objects names) (one_is act own objects name)
    (all_names (λ n. name_cmp name n ≡ Less) act own objects names rising.0)
    (names_rise act own objects names rising.1)

abbrev BringsOther : List NamedObject → (List Rdn × Option Object) → Type 0
BringsOther objects change = object_at objects change.0 ≢ change.1

others_with : (objects : List NamedObject) (name : List Rdn) (xs ys : Changed) → IsOne objects name xs
    → AllByRecursion (BringsOther objects) ys → AllByRecursion (BringsOther objects) (xs ++ ys)
others_with objects name xs ys (inl none) all =
    subst (λ zs. AllByRecursion (BringsOther objects) (zs ++ ys)) (sym none) all
others_with objects name xs ys (inr is) all =
    subst (λ zs. AllByRecursion (BringsOther objects) (zs ++ ys)) (sym is.1) (is.2, all)

all_others : (act : Act) → IsOwn act → (objects : List NamedObject) (names : List (List Rdn))
    → AllByRecursion (BringsOther objects) (of_all act objects names)
all_others act own objects [] = tt
all_others act own objects (name ∷ names) =
    others_with objects name (of_one act objects name) (of_all act objects names) (one_is act own objects name)
    (all_others act own objects names)

changes_told : (atomic : Bool) (act : Act) → IsOwn act → (objects : List NamedObject) (names : List (List Rdn))
    → IsStrictlySortedBy name_cmp names
    → AreChanges objects (installed objects (noted_of atomic act objects nothing_done names).changes)
    (noted_of atomic act objects nothing_done names).changes
changes_told atomic act own objects names rising =
    subst (λ cs. AreChanges objects (installed objects cs) cs) (sym (noted_all atomic act objects nothing_done names))
    (are_changes objects (of_all act objects names) (names_rise act own objects names rising)
    (all_others act own objects names))

-- ---- the conclusion

pub unchanged : (objects : List NamedObject) → AreChanges objects objects []
unfolding IsStrictlySortedBy
unchanged objects = record {
  rising = tt;
  each = λ change held. absurd (omega (arith, held.1));
  others = λ name none. refl;
}

closing : (objects : List NamedObject) (scope : Scope) (number : ℕ) (p : Progress) (a : Acting)
    → a.replies ≡ p.replies → a.sources ≡ p.sources → AreChanges objects p.objects a.changes
    → IsPlan objects (concluded objects scope number p) (plan_of scope number a)
closing objects scope number p a replies sources changes =
    subst (λ rs. IsPlan objects (concluded objects scope number p) (plan_within (record {
      changes = a.changes;
      replies = replies_to scope number rs;
      sources = a.sources;
    }))) (sym replies) (by (nat_le (replies_size (replies_to scope number p.replies)) 4194304))
  where
    by : (b : Bool) → IsPlan objects (if b then (record {
      objects = p.objects;
      replies = replies_to scope number p.replies;
      sources = p.sources;
    }) else refusal objects complexity_limitation) (if b then (record {
      changes = a.changes;
      replies = replies_to scope number p.replies;
      sources = a.sources;
    }) else refused_plan complexity_limitation)
    by true = record { replies = refl; sources = sources; changes = changes }
    by false = record { replies = refl; sources = refl; changes = unchanged objects }

told_by : (atomic : Bool) (objects : List NamedObject) (scope : Scope) (number : ℕ) (p : Progress) (a : Acting)
    → Same atomic objects p a → AreChanges objects (installed objects a.changes) a.changes
    → IsPlan objects (concluded objects scope number (all_or_none atomic objects p)) (plan_of scope number (settled a))
told_by false objects scope number p a s changes =
    subst (λ fs. IsPlan objects (concluded objects scope number p) (plan_of scope number (settled_with a fs)))
    (sym s.failures)
    (closing objects scope number p a (s.replies (inl refl)) s.sources
    (subst (λ os. AreChanges objects os a.changes) (sym s.left) changes))
told_by true objects scope number p a s changes =
    subst (λ fs. IsPlan objects (concluded objects scope number (all_or_none true objects p))
    (plan_of scope number (settled_with a fs))) (sym s.failures) (by p.failures refl)
  where
    by : (fs : List CmisError) → p.failures ≡ fs
        → IsPlan objects (concluded objects scope number (unless_failed true objects p fs))
        (plan_of scope number (settled_with a (map reply.Error fs)))
    by [] is = closing objects scope number p a (s.replies (inr is)) s.sources
        (subst (λ os. AreChanges objects os a.changes) (sym s.left) changes)
    by (first ∷ others) is =
        closing objects scope number (unless_failed true objects p (first ∷ others))
        (settled_with a (map reply.Error (first ∷ others))) refl refl (unchanged objects)

-- what was noted of an operation tells its outcome
pub plan_told : (atomic : Bool) (act : Act) → IsOwn act → IsAlone act → (objects : List NamedObject) (scope : Scope)
    (number : ℕ)
    (names : List (List Rdn)) → IsStrictlySortedBy name_cmp names
    → IsPlan objects
    (concluded objects scope number (all_or_none atomic objects (acted_on_all act (begun objects) names)))
    (plan_of scope number (settled (noted_of atomic act objects nothing_done names)))
plan_told atomic act own alone objects scope number names rising =
    told_by atomic objects scope number (acted_on_all act (begun objects) names)
    (noted_of atomic act objects nothing_done names)
    (goes atomic act own alone objects (begun objects) nothing_done names rising (same_fresh names) (begun_same atomic))
    (changes_told atomic act own objects names rising)
  where
    same_fresh : (ns : List (List Rdn)) → AllByRecursion (λ n. object_at objects n ≡ object_at objects n) ns
    same_fresh [] = tt
    same_fresh (n ∷ ns) = (refl, same_fresh ns)

    begun_same : (b : Bool) → Same b objects (begun objects) nothing_done
    begun_same true = record { left = refl; sources = refl; failures = refl; replies = λ h. refl }
    begun_same false = record { left = refl; sources = refl; failures = refl; replies = λ h. refl }

-- the same, as the parts of the code tell it
pub planned : (act : Act) → IsOwn act → IsAlone act → (objects : List NamedObject) (head : Head) (number : ℕ)
    (checks : Checked) (names : List (List Rdn)) → checks ≡ Ok names → IsStrictlySortedBy name_cmp names
    → (made left : Acting) → made ≡ noted_of (is_atomic head) act objects nothing_done names → left ≡ settled made
    → (plan : Plan) → plan ≡ plan_of head.scope number left → IsPlan objects (acted objects head number act checks) plan
planned act own alone objects head number checks names told rising made left noted_is settled_is plan plan_is =
    subst (λ p. IsPlan objects (acted objects head number act checks) p)
    (sym (plan_is ∙ ap (plan_of head.scope number) (settled_is ∙ ap settled noted_is)))
    (subst (λ r. IsPlan objects (acted objects head number act r)
    (plan_of head.scope number (settled (noted_of (is_atomic head) act objects nothing_done names)))) (sym told)
    (plan_told (is_atomic head) act own alone objects head.scope number names rising))

pub planned_refusal : (act : Act) (objects : List NamedObject) (head : Head) (number : ℕ) (checks : Checked)
    (error : CmisError) → checks ≡ Err error → (plan : Plan) → plan ≡ refused_plan error
    → IsPlan objects (acted objects head number act checks) plan
planned_refusal act objects head number checks error told plan plan_is =
    subst (λ p. IsPlan objects (acted objects head number act checks) p) (sym plan_is)
    (subst (λ r. IsPlan objects (acted objects head number act r) (refused_plan error)) (sym told)
    (record { replies = refl; sources = refl; changes = unchanged objects }))

pub ok_gives : {A E : Type 0} (P Q : A → Type 0) (r : Result A E) → ((x : A) → P x → Q x) → IfOk r P → IfOk r Q
ok_gives P Q (Ok x) f h = f x h
ok_gives P Q (Err e) f h = tt
