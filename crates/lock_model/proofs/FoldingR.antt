-- What an operation does on two maps between which a relation holds that equal changes inside keep.
use Rattle.std.proofs.Common.{◌≡◌, ℕ, Bool, true, false, List, [], ◌∷◌, ◌++◌, Option, None, Some, Result, Ok, Err}
use Rattle.std.proofs.Common.{refl, ap, subst, if◌then◌else◌}
use Rattle.std.specs.Prelude.{nat_le}
use Rattle.std.specs.Option.{option_map_or}
use Rattle.term_model.specs.declared.effect.Effect.{Effect}
use Rattle.term_model.specs.declared.effect.Source.{Source}
use Rattle.term_model.specs.declared.name.Rdn.{Rdn}
use Rattle.term_model.specs.declared.object.Object.{Object}
use Rattle.term_model.specs.declared.objects.NamedObject.{NamedObject}
use Rattle.term_model.specs.declared.reply.CmisError.{CmisError}
use Rattle.term_model.specs.declared.reply.Reply.{Reply}
use Rattle.term_model.specs.declared.reply.Reply.TheVariants as reply
use Rattle.term_model.specs.declared.request.Head.{Head}
use Rattle.term_model.specs.CmisErrors.{complexity_limitation}
use Rattle.term_model.specs.NamedObjects.{object_at}
use Rattle.operation_model.specs.LinkedReplies.{replies_size}
use Rattle.operation_model.specs.OperationChecks.{Checked}
use Rattle.operation_model.specs.WholeOperation.{Act, Changed, Outcome, Progress, acted, acted_on, acted_on_all}
use Rattle.operation_model.specs.WholeOperation.{all_or_none, answered, begun, installed, is_atomic, refusal}
use Rattle.operation_model.specs.WholeOperation.{replies_to}
use Rattle.operation_model.specs.WholeOperation.{unless_failed, within_size}
use Rattle.lock_model.proofs.Maps.{AreInside}
use Rattle.lock_model.proofs.Folding.{AllPass, ArePassing}

abbrev pub Relation : Type 1
Relation = List NamedObject → List NamedObject → Type 0

pub record Alike (R : List NamedObject → List NamedObject → Type 0) (p q : Progress) : Type 0 where
  pub objects : R p.objects q.objects
  pub replies : p.replies ≡ q.replies
  pub failures : p.failures ≡ q.failures
  pub sources : p.sources ≡ q.sources

pub record AlikeEnds (R : List NamedObject → List NamedObject → Type 0) (o u : Outcome) : Type 0 where
  pub objects : R o.objects u.objects
  pub replies : o.replies ≡ u.replies
  pub sources : o.sources ≡ u.sources

module _ (test : List Rdn → Bool) (R : List NamedObject → List NamedObject → Type 0)
    (finds : (one other : List NamedObject) → R one other → (name : List Rdn) → test name ≡ true
    → object_at one name ≡ object_at other name)
    (keeps : (one other : List NamedObject) (changes : Changed) → AreInside test changes → R one other
    → R (installed one changes) (installed other changes))
    (act : Act)
    (reads : (one other : List NamedObject) (name : List Rdn) (object : Object) → R one other → test name ≡ true
    → act one name object ≡ act other name object)
    (stays : (one other : List NamedObject) (name : List Rdn) (object : Object) (effect : Effect) → R one other
    → test name ≡ true → act one name object ≡ Ok effect → AreInside test effect.changes) where
  answered_alike : (p q : Progress) (r : Result Effect CmisError)
      → ((effect : Effect) → r ≡ Ok effect → AreInside test effect.changes) → Alike R p q
      → Alike R (answered p r) (answered q r)
  answered_alike p q (Ok effect) within h = record {
    objects = keeps p.objects q.objects effect.changes (within effect refl) h.objects;
    replies = ap (λ (rs : List Reply). rs ++ effect.reply ∷ []) h.replies;
    failures = h.failures;
    sources = ap (λ (ss : List Source). ss ++ effect.sources) h.sources;
  }
  answered_alike p q (Err error) within h = record {
    objects = h.objects;
    replies = ap (λ (rs : List Reply). rs ++ reply.Error error ∷ []) h.replies;
    failures = ap (λ (es : List CmisError). es ++ error ∷ []) h.failures;
    sources = h.sources;
  }

  abbrev stepped : Progress → List Rdn → Option Object → Progress
  stepped p name there = option_map_or (λ object. answered p (act p.objects name object)) there p

  acted_on_alike : (p q : Progress) (name : List Rdn) → test name ≡ true → Alike R p q
      → Alike R (acted_on act p name) (acted_on act q name)
  acted_on_alike p q name within h =
      subst (λ (there : Option Object). Alike R (acted_on act p name) (stepped q name there))
      (finds p.objects q.objects h.objects name within) (by (object_at p.objects name))
    where
      by : (there : Option Object) → Alike R (stepped p name there) (stepped q name there)
      by None = h
      by (Some object) =
          subst (λ (r : Result Effect CmisError). Alike R (answered p (act p.objects name object)) (answered q r))
          (reads p.objects q.objects name object h.objects within)
          (answered_alike p q (act p.objects name object)
          (λ effect is. stays p.objects q.objects name object effect h.objects within is) h)

  acted_on_all_alike : (p q : Progress) (names : List (List Rdn)) → AllPass test names → Alike R p q
      → Alike R (acted_on_all act p names) (acted_on_all act q names)
  acted_on_all_alike p q [] all h = h
  acted_on_all_alike p q (name ∷ names) all h =
      acted_on_all_alike (acted_on act p name) (acted_on act q name) names all.1
      (acted_on_alike p q name all.0 h)

  unless_failed_alike : (atomic : Bool) (one other : List NamedObject) (p q : Progress) (failures : List CmisError)
      → R one other → Alike R p q
      → Alike R (unless_failed atomic one p failures) (unless_failed atomic other q failures)
  unless_failed_alike false one other p q failures before h = h
  unless_failed_alike true one other p q [] before h = h
  unless_failed_alike true one other p q (first ∷ others) before h =
      record { objects = before; replies = refl; failures = refl; sources = refl }

  all_or_none_alike : (atomic : Bool) (one other : List NamedObject) (p q : Progress) → R one other → Alike R p q
      → Alike R (all_or_none atomic one p) (all_or_none atomic other q)
  all_or_none_alike atomic one other p q before h =
      subst (λ (es : List CmisError). Alike R (all_or_none atomic one p) (unless_failed atomic other q es))
      h.failures (unless_failed_alike atomic one other p q p.failures before h)

  within_size_alike : (one other : List NamedObject) (o u : Outcome) → R one other → AlikeEnds R o u
      → AlikeEnds R (within_size one o) (within_size other u)
  within_size_alike one other o u before h =
      subst (λ (rs : List Reply). AlikeEnds R (within_size one o)
      (if nat_le (replies_size rs) 4194304 then u else refusal other complexity_limitation)) h.replies
      (by (nat_le (replies_size o.replies) 4194304))
    where
      by : (b : Bool) → AlikeEnds R (if b then o else refusal one complexity_limitation)
          (if b then u else refusal other complexity_limitation)
      by true = h
      by false = record { objects = before; replies = refl; sources = refl }

  pub acted_alike : (one other : List NamedObject) (head : Head) (number : ℕ) → R one other → (checks : Checked)
      → ArePassing test checks → AlikeEnds R (acted one head number act checks) (acted other head number act checks)
  acted_alike one other head number before (Err error) all =
      record { objects = before; replies = refl; sources = refl }
  acted_alike one other head number before (Ok names) all =
      let p : Progress = all_or_none (is_atomic head) one (acted_on_all act (begun one) names) in
      let q : Progress = all_or_none (is_atomic head) other (acted_on_all act (begun other) names) in
      let h : Alike R p q =
      all_or_none_alike (is_atomic head) one other (acted_on_all act (begun one) names)
      (acted_on_all act (begun other) names) before
      (acted_on_all_alike (begun one) (begun other) names all
      (record { objects = before; replies = refl; failures = refl; sources = refl })) in
      within_size_alike one other
      (record { objects = p.objects; replies = replies_to head.scope number p.replies; sources = p.sources })
      (record { objects = q.objects; replies = replies_to head.scope number q.replies; sources = q.sources }) before
      (record { objects = h.objects; replies = ap (replies_to head.scope number) h.replies; sources = h.sources })
