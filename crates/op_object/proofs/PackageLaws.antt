-- The packages that an object has, by the set of those that its creation chose.
use Rattle.std.proofs.Common.{◌≡◌, ℕ, List, [], ◌++◌, false}
use Rattle.std.specs.Prelude.{filter, flat_map}
use Rattle.std.specs.BTreeSet.{BTreeSet}
use Rattle.std.specs.Option.{option_map_or}
use Rattle.term_model.specs.declared.packages.PackageRec.{PackageRec}
use Rattle.term_model.specs.declared.schema.ClassRec.{ClassRec}
use Rattle.term_model.specs.ObjectOperation.{class_record}
use Rattle.term_model.specs.PresentPackages.{is_among, packages_by}
use Rattle.op_object.specs.GroupSets.{packages_stated_by}
use Rattle.op_object.specs.IdSets.{has_id}

pub stated_by_list : (records : List ClassRec) (set : BTreeSet (List ℕ)) (chosen : List (List ℕ))
    (classes : List (List ℕ)) → ((q : List ℕ) → has_id set q ≡ is_among chosen q)
    → flat_map (packages_stated_by records set) classes ≡ flat_map (packages_by records chosen) classes
stated_by_list records set chosen classes same = λ i.
    flat_map
    (λ (class : List ℕ).
    option_map_or
    (λ (of_class : ClassRec).
    of_class.mandatory
    ++ filter
    (λ (of_package : PackageRec). option_map_or (λ (id : List ℕ). same id i) of_package.id false)
    of_class.conditional)
    (class_record records class) [])
    classes
