-- Names of well-formed maps have at most 32 parts.
use Rattle.std.proofs.Common.{◌≡◌, ◌<◌, ◌⊎◌, List, [], Option, None, Some, length, refl, ap, arith, inl, inr}
use Rattle.std.specs.Prelude.{find}
use Rattle.std.specs.Option.{option_map}
use Rattle.std.proofs.lemmas.List.Elements.{All-contains}
use Rattle.term_model.specs.declared.name.Rdn.{Rdn}
use Rattle.term_model.specs.declared.objects.NamedObject.{NamedObject}
use Rattle.term_model.specs.declared.schema.Set.{Set}
use Rattle.term_model.specs.Comparing.{is_same_name}
use Rattle.term_model.specs.WellFormedObjects.{AreGood, IsGoodName}
use Rattle.term_model.proofs.MapLaws.{name_Decides}
use Rattle.lock_model.specs.OperationLaws.{GoodIsShort}
use Rattle.lock_model.proofs.Standing.{found}

pub good_is_short : GoodIsShort
good_is_short = λ schema objects good name long.
    by schema objects good name long (find (λ (entry : NamedObject). is_same_name entry.name name) objects) refl
  where
    by : (schema : Set) (objects : List NamedObject) → AreGood schema objects → (name : List Rdn) → 32 < length name
        → (o : Option NamedObject) → find (λ (entry : NamedObject). is_same_name entry.name name) objects ≡ o
        → option_map (λ (entry : NamedObject). entry.object) o ≡ None
    by schema objects good name long None e = refl
    by schema objects good name long (Some entry) e =
        let at = found (λ (x : NamedObject). is_same_name x.name name) objects entry e in
        let same = ap length ((name_Decides entry.name name).0 at.1) in
        absurd (elim (All-contains (λ (x : NamedObject). (x.name ≡ []) ⊎ IsGoodName schema objects x) objects entry
        good.below at.0) [
          | inl root ↦ (let none = ap length root in omega arith)
          | inr is ↦ (let deep = is.deep in omega arith)
        ])
