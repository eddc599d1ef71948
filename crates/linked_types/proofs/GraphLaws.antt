-- GraphLaws: the targets of one attribute more.
use Rattle.std.proofs.Common.{◌≡◌, ◌<◌, ◌∙◌, ◌+◌, ◌++◌, ℕ, List, [], ◌∷◌, Vec, Global, ap, get_or, length, map, sym}
use Rattle.std.proofs.Common.{take}
use Rattle.std.proofs.lemmas.List.{map_push}
use Rattle.linked_parts.specs.declared.linked.LinkedAttribute.{LinkedAttribute}
use Rattle.class_faults.specs.AttributeSyntaxes.{bases_of}
use Rattle.class_faults.specs.CyclicFaults.{bases_of_each}
use Rattle.class_faults.proofs.NotingLaws.{map_more}

abbrev pub items : Vec ℕ Global → List ℕ
items v = v.items

pub graph_step : (before after : List (Vec ℕ Global)) (v : Vec ℕ Global) (attributes : List LinkedAttribute) (i : ℕ)
    (x : LinkedAttribute) → i < length attributes → x ≡ get_or attributes i x → after ≡ before ++ v ∷ [] →
    map items before ≡ bases_of_each (take i attributes) → v.items ≡ bases_of x.syntax →
    map items after ≡ bases_of_each (take (i + 1) attributes)
graph_step before after v attributes i x within is pushed so_far same =
    ap (map items) pushed ∙ map_push items before v ∙ (λ j. so_far j ++ same j ∷ []) ∙
    sym (map_more (λ (y : LinkedAttribute). bases_of y.syntax) attributes i x within is)
