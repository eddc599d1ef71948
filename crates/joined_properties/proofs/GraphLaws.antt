-- GraphLaws: the targets of one class more.
use Rattle.std.proofs.Common.{◌≡◌, ◌<◌, ◌∙◌, ◌+◌, ◌++◌, ℕ, List, [], ◌∷◌, Vec, Global, ap, get_or, length, map}
use Rattle.std.proofs.Common.{sym, take}
use Rattle.std.proofs.lemmas.List.{map_push}
use Rattle.linked_parts.specs.declared.linked.LinkedClass.{LinkedClass}
use Rattle.class_faults.specs.CyclicFaults.{superclasses_of}
use Rattle.class_faults.proofs.NotingLaws.{map_more}

abbrev pub items : Vec ℕ Global → List ℕ
items v = v.items

pub graph_step : (before after : List (Vec ℕ Global)) (v : Vec ℕ Global) (classes : List LinkedClass) (i : ℕ)
    (x : LinkedClass) → i < length classes → x ≡ get_or classes i x → after ≡ before ++ v ∷ [] →
    map items before ≡ superclasses_of (take i classes) → v.items ≡ x.superclasses.items →
    map items after ≡ superclasses_of (take (i + 1) classes)
graph_step before after v classes i x within is pushed so_far same =
    ap (map items) pushed ∙ map_push items before v ∙ (λ j. so_far j ++ same j ∷ []) ∙
    sym (map_more (λ (y : LinkedClass). y.superclasses.items) classes i x within is)
