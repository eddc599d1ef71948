-- What an operation on selected objects does on two maps that agree where it reads.
use Rattle.std.proofs.Common.{◌≡◌, ℕ, Bool, true, false, List, [], ◌∷◌, ◌++◌, Option, None, Some, Result, Ok, Err}
use Rattle.std.proofs.Common.{refl, ap, subst, if◌then◌else◌}
use Rattle.std.specs.Prelude.{nat_le}
use Rattle.std.specs.Option.{option_map_or}
use Rattle.term_model.specs.declared.effect.Effect.{Effect}
use Rattle.term_model.specs.declared.effect.Source.{Source}
use Rattle.term_model.specs.declared.name.Rdn.{Rdn}
use Rattle.term_model.specs.declared.object.Object.{Object}
use Rattle.term_model.specs.declared.objects.NamedObject.{NamedObject}
use Rattle.term_model.specs.declared.reply.CmisError.{CmisError}
use Rattle.term_model.specs.declared.reply.Reply.{Reply}
use Rattle.term_model.specs.declared.reply.Reply.TheVariants as reply
use Rattle.term_model.specs.declared.request.Head.{Head}
use Rattle.term_model.specs.declared.scope.Scope.{Scope}
use Rattle.term_model.specs.CmisErrors.{complexity_limitation}
use Rattle.term_model.specs.NamedObjects.{object_at}
use Rattle.operation_model.specs.LinkedReplies.{replies_size}
use Rattle.operation_model.specs.OperationChecks.{Checked}
use Rattle.operation_model.specs.WholeOperation.{Act, Outcome, Progress, acted, acted_on, acted_on_all}
use Rattle.operation_model.specs.WholeOperation.{all_or_none, answered, begun, concluded, is_atomic, refusal}
use Rattle.operation_model.specs.WholeOperation.{replies_to}
use Rattle.operation_model.specs.WholeOperation.{unless_failed, within_size}
use Rattle.lock_model.proofs.Maps.{Agree, installed_agrees}

-- an operation on one object reads of the map what stands under the names of a test
abbrev pub Reads : (List Rdn → Bool) → Act → Type 0
Reads test act = (one other : List NamedObject) (name : List Rdn) (object : Object) → Agree test one other
    → test name ≡ true → act one name object ≡ act other name object

pub record SameProgress (test : List Rdn → Bool) (p q : Progress) : Type 0 where
  pub objects : Agree test p.objects q.objects
  pub replies : p.replies ≡ q.replies
  pub failures : p.failures ≡ q.failures
  pub sources : p.sources ≡ q.sources

pub answered_same : (test : List Rdn → Bool) (p q : Progress) (r : Result Effect CmisError) → SameProgress test p q
    → SameProgress test (answered p r) (answered q r)
answered_same test p q (Ok effect) h = record {
  objects = installed_agrees test p.objects q.objects effect.changes h.objects;
  replies = ap (λ (rs : List Reply). rs ++ effect.reply ∷ []) h.replies;
  failures = h.failures;
  sources = ap (λ (ss : List Source). ss ++ effect.sources) h.sources;
}
answered_same test p q (Err error) h = record {
  objects = h.objects;
  replies = ap (λ (rs : List Reply). rs ++ reply.Error error ∷ []) h.replies;
  failures = ap (λ (es : List CmisError). es ++ error ∷ []) h.failures;
  sources = h.sources;
}

abbrev step_on : Act → Progress → List Rdn → Option Object → Progress
step_on act p name there = option_map_or (λ object. answered p (act p.objects name object)) there p

pub acted_on_same : (test : List Rdn → Bool) (act : Act) → Reads test act → (p q : Progress) (name : List Rdn)
    → test name ≡ true → SameProgress test p q → SameProgress test (acted_on act p name) (acted_on act q name)
acted_on_same test act reads p q name within h =
    subst (λ (there : Option Object). SameProgress test (acted_on act p name) (step_on act q name there))
    (h.objects.same name within) (by (object_at p.objects name))
  where
    by : (there : Option Object) → SameProgress test (step_on act p name there) (step_on act q name there)
    by None = h
    by (Some object) =
        subst (λ (r : Result Effect CmisError). SameProgress test (answered p (act p.objects name object))
        (answered q r))
        (reads p.objects q.objects name object h.objects within)
        (answered_same test p q (act p.objects name object) h)

-- all names of a list pass
abbrev pub AllPass : (List Rdn → Bool) → List (List Rdn) → Type 0
AllPass test [] = Unit {0}
AllPass test (name ∷ names) = (test name ≡ true) × AllPass test names

pub acted_on_all_same : (test : List Rdn → Bool) (act : Act) → Reads test act → (p q : Progress)
    (names : List (List Rdn)) → AllPass test names → SameProgress test p q
    → SameProgress test (acted_on_all act p names) (acted_on_all act q names)
acted_on_all_same test act reads p q [] all h = h
acted_on_all_same test act reads p q (name ∷ names) all h =
    acted_on_all_same test act reads (acted_on act p name) (acted_on act q name) names all.1
    (acted_on_same test act reads p q name all.0 h)

pub unless_failed_same : (test : List Rdn → Bool) (atomic : Bool) (one other : List NamedObject) (p q : Progress)
    (failures : List CmisError) → Agree test one other → SameProgress test p q
    → SameProgress test (unless_failed atomic one p failures) (unless_failed atomic other q failures)
unless_failed_same test false one other p q failures before h = h
unless_failed_same test true one other p q [] before h = h
unless_failed_same test true one other p q (first ∷ others) before h =
    record { objects = before; replies = refl; failures = refl; sources = refl }

pub all_or_none_same : (test : List Rdn → Bool) (atomic : Bool) (one other : List NamedObject) (p q : Progress)
    → Agree test one other → SameProgress test p q
    → SameProgress test (all_or_none atomic one p) (all_or_none atomic other q)
all_or_none_same test atomic one other p q before h =
    subst (λ (es : List CmisError). SameProgress test (all_or_none atomic one p) (unless_failed atomic other q es))
    h.failures (unless_failed_same test atomic one other p q p.failures before h)

pub record SameOutcome (test : List Rdn → Bool) (o u : Outcome) : Type 0 where
  pub objects : Agree test o.objects u.objects
  pub replies : o.replies ≡ u.replies
  pub sources : o.sources ≡ u.sources

pub within_size_same : (test : List Rdn → Bool) (one other : List NamedObject) (o u : Outcome) → Agree test one other
    → SameOutcome test o u → SameOutcome test (within_size one o) (within_size other u)
within_size_same test one other o u before h =
    subst (λ (rs : List Reply). SameOutcome test (within_size one o)
    (if nat_le (replies_size rs) 4194304 then u else refusal other complexity_limitation)) h.replies
    (by (nat_le (replies_size o.replies) 4194304))
  where
    by : (b : Bool) → SameOutcome test (if b then o else refusal one complexity_limitation)
        (if b then u else refusal other complexity_limitation)
    by true = h
    by false = record { objects = before; replies = refl; sources = refl }

pub concluded_same : (test : List Rdn → Bool) (one other : List NamedObject) (scope : Scope) (number : ℕ)
    (p q : Progress) → Agree test one other → SameProgress test p q
    → SameOutcome test (concluded one scope number p) (concluded other scope number q)
concluded_same test one other scope number p q before h =
    within_size_same test one other
    (record { objects = p.objects; replies = replies_to scope number p.replies; sources = p.sources })
    (record { objects = q.objects; replies = replies_to scope number q.replies; sources = q.sources }) before
    (record { objects = h.objects; replies = ap (replies_to scope number) h.replies; sources = h.sources })

-- the names that are acted on pass
abbrev pub ArePassing : (List Rdn → Bool) → Checked → Type 0
ArePassing test (Ok names) = AllPass test names
ArePassing test (Err error) = Unit {0}

pub acted_same : (test : List Rdn → Bool) (one other : List NamedObject) (head : Head) (number : ℕ) (act : Act)
    → Reads test act → Agree test one other → (checks : Checked) → ArePassing test checks
    → SameOutcome test (acted one head number act checks) (acted other head number act checks)
acted_same test one other head number act reads before (Err error) all =
    record { objects = before; replies = refl; sources = refl }
acted_same test one other head number act reads before (Ok names) all =
    let p : Progress = acted_on_all act (begun one) names in
    let q : Progress = acted_on_all act (begun other) names in
    concluded_same test one other head.scope number (all_or_none (is_atomic head) one p)
    (all_or_none (is_atomic head) other q) before
    (all_or_none_same test (is_atomic head) one other p q before
    (acted_on_all_same test act reads (begun one) (begun other) names all
    (record { objects = before; replies = refl; failures = refl; sources = refl })))
