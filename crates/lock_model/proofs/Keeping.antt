-- What an operation keeps of the map with each object on which it acts it keeps to its end.
use Rattle.std.proofs.Common.{◌≡◌, ℕ, Bool, true, false, List, [], ◌∷◌, Option, None, Some, Result, Ok, Err, refl}
use Rattle.std.proofs.Common.{if◌then◌else◌}
use Rattle.std.specs.Prelude.{nat_le}
use Rattle.std.specs.Option.{option_map_or}
use Rattle.term_model.specs.declared.effect.Effect.{Effect}
use Rattle.term_model.specs.declared.name.Rdn.{Rdn}
use Rattle.term_model.specs.declared.object.Object.{Object}
use Rattle.term_model.specs.declared.objects.NamedObject.{NamedObject}
use Rattle.term_model.specs.declared.reply.CmisError.{CmisError}
use Rattle.term_model.specs.declared.request.Head.{Head}
use Rattle.term_model.specs.CmisErrors.{complexity_limitation}
use Rattle.term_model.specs.NamedObjects.{object_at}
use Rattle.operation_model.specs.LinkedReplies.{replies_size}
use Rattle.operation_model.specs.OperationChecks.{Checked}
use Rattle.operation_model.specs.WholeOperation.{Act, Outcome, Progress, acted, acted_on, acted_on_all}
use Rattle.operation_model.specs.WholeOperation.{all_or_none, answered, begun, installed, is_atomic}
use Rattle.operation_model.specs.WholeOperation.{refusal, replies_to, unless_failed, within_size}
use Rattle.lock_model.proofs.Folding.{AllPass, ArePassing}

abbrev pub KeepsOn : (List Rdn → Bool) → (List NamedObject → Type 0) → Act → Type 0
KeepsOn test P act = (objects : List NamedObject) (name : List Rdn) (object : Object) (effect : Effect)
    → test name ≡ true → P objects → object_at objects name ≡ Some object → act objects name object ≡ Ok effect
    → P (installed objects effect.changes)

module _ (test : List Rdn → Bool) (P : List NamedObject → Type 0) (act : Act) (all : KeepsOn test P act) where
  answer_keeps : (p : Progress) (name : List Rdn) (object : Object) → test name ≡ true
      → object_at p.objects name ≡ Some object → (o : Result Effect CmisError) → act p.objects name object ≡ o
      → P p.objects → P (answered p o).objects
  answer_keeps p name object within there (Ok effect) is good =
      all p.objects name object effect within good there is
  answer_keeps p name object within there (Err error) is good = good

  act_keeps : (p : Progress) (name : List Rdn) → test name ≡ true → P p.objects → P (acted_on act p name).objects
  act_keeps p name within good = by (object_at p.objects name) refl
    where
      by : (o : Option Object) → object_at p.objects name ≡ o
          → P (option_map_or (λ object. answered p (act p.objects name object)) o p).objects
      by None there = good
      by (Some object) there = answer_keeps p name object within there (act p.objects name object) refl good

  acts_keep : (p : Progress) (names : List (List Rdn)) → AllPass test names → P p.objects
      → P (acted_on_all act p names).objects
  acts_keep p [] within good = good
  acts_keep p (name ∷ names) within good =
      acts_keep (acted_on act p name) names within.1 (act_keeps p name within.0 good)

  settling_keeps : (atomic : Bool) (objects : List NamedObject) (p : Progress) (failures : List CmisError)
      → P objects → P p.objects → P (unless_failed atomic objects p failures).objects
  settling_keeps false objects p failures before good = good
  settling_keeps true objects p [] before good = good
  settling_keeps true objects p (first ∷ others) before good = before

  size_keeps : (objects : List NamedObject) (told : Outcome) → P objects → P told.objects
      → P (within_size objects told).objects
  size_keeps objects told before good = by (nat_le (replies_size told.replies) 4194304)
    where
      by : (b : Bool) → P (if b then told else refusal objects complexity_limitation).objects
      by true = good
      by false = before

  pub acted_keeps : (objects : List NamedObject) (head : Head) (number : ℕ) → P objects → (checks : Checked)
      → ArePassing test checks → P (acted objects head number act checks).objects
  acted_keeps objects head number good (Err error) within = good
  acted_keeps objects head number good (Ok names) within =
      let made : Progress = acted_on_all act (begun objects) names in
      let left : Progress = all_or_none (is_atomic head) objects made in
      size_keeps objects (record {
        objects = left.objects;
        replies = replies_to head.scope number left.replies;
        sources = left.sources;
      }) good
      (settling_keeps (is_atomic head) objects made made.failures good (acts_keep (begun objects) names within good))
