-- At which places of a way lock names stand.
use Rattle.std.proofs.Common.{◌≡◌, ◌+◌, ℕ, zero, suc, Bool, List, [], ◌∷◌, ◌++◌, length, length-append}
use Rattle.std.proofs.Common.{Some, ap, arith}
use Rattle.std.specs.Prelude.{slice_get}
use Rattle.std.proofs.lemmas.Option.{none-some, same_Some}
use Rattle.term_model.specs.declared.name.Rdn.{Rdn}
use Rattle.lock_model.specs.declared.lock_name.LockName.{LockName}
use Rattle.lock_model.specs.declared.lock_name.Mode.{Mode}
use Rattle.lock_model.specs.declared.lock_name.Part.{Part}
use Rattle.lock_model.specs.LockPath.{depth, at_the_unit, on_the_way, own, tree, way_from}
use Rattle.lock_model.specs.Holdings.{PathsAreWays}
use Rattle.lock_model.specs.declared.lock_name.Part.TheVariants as extents

abbrev Place : Type 0
Place = LockName × Mode

depth_from : (front parts : List Rdn) (part : Part) (writing : Bool) (i : ℕ) (place : Place)
    → slice_get (way_from front parts part writing) i ≡ Some place → length front + i ≡ depth place.0
depth_from front [] extents.Tree writing zero place h =
    let at = ap (λ (p : Place). depth p.0) (same_Some (tree front, at_the_unit writing) place h) in omega arith
depth_from front [] extents.Tree writing (suc i) place h = absurd (none-some place h)
depth_from front [] extents.Own writing zero place h =
    let at = ap (λ (p : Place). depth p.0) (same_Some (tree front, on_the_way writing) place h) in omega arith
depth_from front [] extents.Own writing (suc zero) place h =
    let at = ap (λ (p : Place). depth p.0) (same_Some (own front, at_the_unit writing) place h) in omega arith
depth_from front [] extents.Own writing (suc (suc i)) place h = absurd (none-some place h)
depth_from front (first ∷ others) part writing zero place h =
    let at = ap (λ (p : Place). depth p.0) (same_Some (tree front, on_the_way writing) place h) in omega arith
depth_from front (first ∷ others) part writing (suc i) place h =
    let rest = depth_from (front ++ first ∷ []) others part writing i place h in
    omega (arith, length-append front (first ∷ []))

pub paths_are_ways : PathsAreWays
paths_are_ways = λ wanted i place h.
    let at = depth_from [] wanted.unit.name wanted.unit.part wanted.writing i place h in omega arith
