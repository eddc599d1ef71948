-- What an operation checks and selects is told by the objects in its scope alone.
use Rattle.std.proofs.Common.{◌≡◌, ℕ, Bool, true, false, List, [], ◌∷◌, Option, None, Some, length}
use Rattle.std.proofs.Common.{refl, sym, ap, ◌∙◌, subst, if◌then◌else◌}
use Rattle.std.specs.Prelude.{◌&&◌, filter, is_some, nat_le}
use Rattle.std.proofs.lemmas.Bool.{and_parts}
use Rattle.term_model.specs.declared.filter.Asked.{Asked}
use Rattle.term_model.specs.declared.filter.Asked.TheVariants as filters
use Rattle.term_model.specs.declared.name.Rdn.{Rdn}
use Rattle.term_model.specs.declared.object.Object.{Object}
use Rattle.term_model.specs.declared.objects.NamedObject.{NamedObject}
use Rattle.term_model.specs.declared.reply.CmisError.{CmisError}
use Rattle.term_model.specs.declared.request.Head.{Head}
use Rattle.term_model.specs.declared.request.Named.TheVariants as named
use Rattle.term_model.specs.declared.schema.Set.{Set}
use Rattle.term_model.specs.declared.scope.Scope.{Scope}
use Rattle.term_model.specs.CmisErrors.{class_instance_conflict, complexity_limitation, no_such_instance}
use Rattle.term_model.specs.FilterTests.{is_true_of}
use Rattle.term_model.specs.FilterTrees.{FilterTree}
use Rattle.term_model.specs.NamedObjects.{names}
use Rattle.term_model.specs.Scope.{is_within, names_in_scope}
use Rattle.term_model.specs.Selection.{is_selected, selected}
use Rattle.operation_model.specs.OperationChecks.{Checked, base_name, base_object, checked, checked_by}
use Rattle.operation_model.specs.OperationChecks.{class_fault, class_named, faults, filter_fault, first_fault}
use Rattle.operation_model.specs.OperationChecks.{is_of_class}
use Rattle.operation_model.specs.OperationChecks.{form_fault, scope_fault, selected_by, size_fault, sync_fault}
use Rattle.lock_model.proofs.Maps.{Agree, agree_kept, agree_less, by_name, kept, left_out, names_filter}
use Rattle.lock_model.proofs.Folding.{AllPass, ArePassing}

-- two tests one after the other
pub filter_both : {A : Type 0} (p q : A → Bool) (xs : List A)
    → filter (λ x. p x && q x) xs ≡ filter q (filter p xs)
filter_both p q [] = refl
filter_both {A} p q (x ∷ xs) = by (filter_both p q xs) (p x) (q x) refl refl
  where
    by : filter (λ y. p y && q y) xs ≡ filter q (filter p xs) → (b c : Bool) → p x ≡ b → q x ≡ c
        → filter (λ y. p y && q y) (x ∷ xs) ≡ filter q (filter p (x ∷ xs))
    by again true true e f = kept (λ y. p y && q y) x xs (ap (λ b. b && q x) e ∙ f) ∙ ap (λ ys. x ∷ ys) again
        ∙ sym (ap (filter q) (kept p x xs e) ∙ kept q x (filter p xs) f)
    by again true false e f = left_out (λ y. p y && q y) x xs (ap (λ b. b && q x) e ∙ f) ∙ again
        ∙ sym (ap (filter q) (kept p x xs e) ∙ left_out q x (filter p xs) f)
    by again false c e f = left_out (λ y. p y && q y) x xs (ap (λ b. b && q x) e) ∙ again
        ∙ sym (ap (filter q) (left_out p x xs e))

pub names_in_scope_same : (one other : List NamedObject) (base : List Rdn) (scope : Scope)
    → Agree (is_within base scope) one other → names_in_scope one base scope ≡ names_in_scope other base scope
names_in_scope_same one other base scope h =
    sym (names_filter (is_within base scope) one) ∙ ap names (agree_kept (is_within base scope) one other h)
    ∙ names_filter (is_within base scope) other

abbrev passes : Set → FilterTree → NamedObject → Bool
passes schema passed entry = is_true_of schema.attributes entry.object.attrs passed

pub selected_same : (schema : Set) (one other : List NamedObject) (base : List Rdn) (scope : Scope)
    (passed : FilterTree) → Agree (is_within base scope) one other
    → selected schema one base scope passed ≡ selected schema other base scope passed
selected_same schema one other base scope passed h =
    ap names (filter_both (by_name (is_within base scope)) (passes schema passed) one
    ∙ ap (filter (passes schema passed)) (agree_kept (is_within base scope) one other h)
    ∙ sym (filter_both (by_name (is_within base scope)) (passes schema passed) other))

pub selected_by_same : (schema : Set) (one other : List NamedObject) (base : List Rdn) (scope : Scope)
    (asked : Asked) → Agree (is_within base scope) one other
    → selected_by schema one base scope asked ≡ selected_by schema other base scope asked
selected_by_same schema one other base scope (filters.Good passed) h =
    selected_same schema one other base scope passed h
selected_by_same schema one other base scope (filters.Bad octets) h = refl
selected_by_same schema one other base scope filters.Large h = refl

-- the names that are selected are in scope
in_scope_pass : (test more : NamedObject → Bool) (within : List Rdn → Bool)
    → ((entry : NamedObject) → test entry ≡ true → within entry.name ≡ true) → (objects : List NamedObject)
    → AllPass within (names (filter test objects))
in_scope_pass test more within h [] = tt
in_scope_pass test more within h (x ∷ xs) = by (in_scope_pass test more within h xs) (test x) refl
  where
    by : AllPass within (names (filter test xs)) → (b : Bool) → test x ≡ b
        → AllPass within (names (filter test (x ∷ xs)))
    by again true e = subst (λ (ys : List NamedObject). AllPass within (names ys)) (sym (kept test x xs e))
        (h x e, again)
    by again false e = subst (λ (ys : List NamedObject). AllPass within (names ys)) (sym (left_out test x xs e)) again

pub selected_pass : (schema : Set) (objects : List NamedObject) (base : List Rdn) (scope : Scope) (asked : Asked)
    → AllPass (is_within base scope) (selected_by schema objects base scope asked)
selected_pass schema objects base scope (filters.Good passed) =
    in_scope_pass (is_selected schema base scope passed) (is_selected schema base scope passed) (is_within base scope)
    (λ entry h.
    (and_parts (is_within base scope entry.name) (is_true_of schema.attributes entry.object.attrs passed) h).0) objects
selected_pass schema objects base scope (filters.Bad octets) = tt
selected_pass schema objects base scope filters.Large = tt

pub pass_more : (less more : List Rdn → Bool) → ((name : List Rdn) → less name ≡ true → more name ≡ true)
    → (ns : List (List Rdn)) → AllPass less ns → AllPass more ns
pass_more less more h [] all = tt
pass_more less more h (n ∷ ns) all = (h n all.0, pass_more less more h ns all.1)

-- ---- what is tried first

abbrev pub Covers : (List Rdn → Bool) → List Rdn → Scope → Type 0
Covers test base scope = (test base ≡ true) × ((name : List Rdn) → is_within base scope name ≡ true → test name ≡ true)

-- all that is tried, told by the base object, the names in scope and those that are selected
abbrev pub checked_of : Set → Head → ℕ → Option Object → List (List Rdn) → List (List Rdn) → Checked
checked_of schema head listed there in_scope taken =
    checked_by (first_fault (
    class_fault schema head ∷ form_fault head
    ∷ (if is_some there then None else Some (no_such_instance head.base.raw))
    ∷ (if is_of_class (class_named schema head.class) there then None
    else Some (class_instance_conflict head.class head.base.raw))
    ∷ sync_fault head ∷ scope_fault head ∷ size_fault head listed ∷ filter_fault head.filter
    ∷ (if nat_le (length in_scope) 50000 then None else Some complexity_limitation) ∷ []
    )) taken

checked_is : (schema : Set) (objects : List NamedObject) (head : Head) (listed : ℕ)
    → checked schema objects head listed
    ≡ checked_of schema head listed (base_object objects head.base.named)
    (names_in_scope objects (base_name head.base.named) head.scope)
    (selected_by schema objects (base_name head.base.named) head.scope head.filter)
checked_is schema objects head listed = refl

pub checked_same : (schema : Set) (one other : List NamedObject) (head : Head) (listed : ℕ) (test : List Rdn → Bool)
    (base : List Rdn) → head.base.named ≡ named.Object base → Covers test base head.scope → Agree test one other
    → checked schema one head listed ≡ checked schema other head listed
checked_same schema one other head listed test base is covers h =
    let within : Agree (is_within base head.scope) one other =
    agree_less test (is_within base head.scope) one other covers.1 h in
    let there : base_object one head.base.named ≡ base_object other head.base.named =
    ap (base_object one) is ∙ h.same base covers.0 ∙ sym (ap (base_object other) is) in
    let at : base ≡ base_name head.base.named = sym (ap base_name is) in
    let in_scope : names_in_scope one (base_name head.base.named) head.scope
    ≡ names_in_scope other (base_name head.base.named) head.scope =
    subst (λ b. names_in_scope one b head.scope ≡ names_in_scope other b head.scope) at
    (names_in_scope_same one other base head.scope within) in
    let taken : selected_by schema one (base_name head.base.named) head.scope head.filter
    ≡ selected_by schema other (base_name head.base.named) head.scope head.filter =
    subst (λ b. selected_by schema one b head.scope head.filter ≡ selected_by schema other b head.scope head.filter) at
    (selected_by_same schema one other base head.scope head.filter within) in
    checked_is schema one head listed
    ∙ (λ i. checked_of schema head listed (there i) (in_scope i) (taken i))
    ∙ sym (checked_is schema other head listed)

-- where nothing is named, or the base object isn't there, nothing else of the map is asked
refused_first : (class form : Option CmisError) (error : CmisError) (rest others : List (Option CmisError))
    (ns ms : List (List Rdn))
    → checked_by (first_fault (class ∷ form ∷ Some error ∷ rest)) ns
    ≡ checked_by (first_fault (class ∷ form ∷ Some error ∷ others)) ms
refused_first (Some e) form error rest others ns ms = refl
refused_first None (Some e) error rest others ns ms = refl
refused_first None None error rest others ns ms = refl

pub refused_same : (schema : Set) (one other : List NamedObject) (head : Head) (listed : ℕ)
    → base_object one head.base.named ≡ None → base_object other head.base.named ≡ None
    → checked schema one head listed ≡ checked schema other head listed
refused_same schema one other head listed gone away =
    checked_is schema one head listed
    ∙ ap (λ o. checked_of schema head listed o (names_in_scope one (base_name head.base.named) head.scope)
    (selected_by schema one (base_name head.base.named) head.scope head.filter)) gone
    ∙ refused_first (class_fault schema head) (form_fault head) (no_such_instance head.base.raw) _ _
    (selected_by schema one (base_name head.base.named) head.scope head.filter)
    (selected_by schema other (base_name head.base.named) head.scope head.filter)
    ∙ sym (checked_is schema other head listed
    ∙ ap (λ o. checked_of schema head listed o (names_in_scope other (base_name head.base.named) head.scope)
    (selected_by schema other (base_name head.base.named) head.scope head.filter)) away)

-- what is selected is within the test
passing : (test : List Rdn → Bool) (fault : Option CmisError) (ns : List (List Rdn)) → AllPass test ns
    → ArePassing test (checked_by fault ns)
passing test None ns all = all
passing test (Some error) ns all = tt

pub checked_pass : (schema : Set) (objects : List NamedObject) (head : Head) (listed : ℕ) (test : List Rdn → Bool)
    (base : List Rdn) → head.base.named ≡ named.Object base → Covers test base head.scope
    → ArePassing test (checked schema objects head listed)
checked_pass schema objects head listed test base is covers =
    passing test (first_fault (faults schema objects head listed))
    (selected_by schema objects (base_name head.base.named) head.scope head.filter)
    (pass_more (is_within base head.scope) test covers.1
    (selected_by schema objects (base_name head.base.named) head.scope head.filter)
    (subst (λ b. AllPass (is_within base head.scope) (selected_by schema objects b head.scope head.filter))
    (sym (ap base_name is)) (selected_pass schema objects base head.scope head.filter)))
