-- Which modes a way has.
use Rattle.std.proofs.Common.{◌≡◌, suc, Bool, true, List, [], ◌∷◌, ◌++◌, arith}
use Rattle.std.proofs.Common.{refl, sym, ◌∙◌, subst, append_assoc, append-nil}
use Rattle.std.specs.Prelude.{Contains}
use Rattle.term_model.specs.declared.name.Rdn.{Rdn}
use Rattle.lock_model.specs.declared.lock_name.Mode.{Mode}
use Rattle.lock_model.specs.declared.lock_name.Part.{Part}
use Rattle.lock_model.specs.declared.path.Wanted.{Wanted}
use Rattle.lock_model.specs.LockPath.{at_the_unit, begins, on_the_way}
use Rattle.lock_model.specs.LockPath.{own, tree, way_from, way_to}
use Rattle.lock_model.proofs.Names.{begins_is}
use Rattle.lock_model.specs.declared.lock_name.Part.TheVariants as extents

pub has_later : {A : Type 0} (x : A) (xs : List A) (y : A) → Contains xs y → Contains (x ∷ xs) y
has_later x xs y h =
    let within = h.1 in
    (suc h.0, omega arith, h.2)

pub has_first : {A : Type 0} (x : A) (xs : List A) → Contains (x ∷ xs) x
has_first x xs = (0, omega arith, refl)

-- the unit has its full mode
pub unit_from : (front parts : List Rdn) (part : Part) (writing : Bool)
    → Contains (way_from front parts part writing) (record { name = front ++ parts; part = part }, at_the_unit writing)
unit_from front [] extents.Tree writing =
    subst (λ n. Contains (way_from front [] extents.Tree writing)
    (record { name = n; part = extents.Tree }, at_the_unit writing))
    (sym (append-nil front)) (has_first (tree front, at_the_unit writing) [])
unit_from front [] extents.Own writing =
    subst (λ n. Contains (way_from front [] extents.Own writing)
    (record { name = n; part = extents.Own }, at_the_unit writing))
    (sym (append-nil front))
    (has_later (tree front, on_the_way writing) ((own front, at_the_unit writing) ∷ []) (own front, at_the_unit writing)
    (has_first (own front, at_the_unit writing) []))
unit_from front (first ∷ others) part writing =
    has_later (tree front, on_the_way writing) (way_from (front ++ first ∷ []) others part writing)
    (record { name = front ++ first ∷ others; part = part }, at_the_unit writing)
    (subst (λ n. Contains (way_from (front ++ first ∷ []) others part writing)
    (record { name = n; part = part }, at_the_unit writing))
    (append_assoc front (first ∷ []) others) (unit_from (front ++ first ∷ []) others part writing))

-- the Trees above it have the mode of the way
pub above_from : (front parts : List Rdn) (last : Rdn) (rest : List Rdn) (part : Part) (writing : Bool)
    → Contains (way_from front (parts ++ last ∷ rest) part writing) (tree (front ++ parts), on_the_way writing)
above_from front [] last rest part writing =
    subst (λ n. Contains (way_from front (last ∷ rest) part writing) (tree n, on_the_way writing)) (sym
    (append-nil front))
    (has_first (tree front, on_the_way writing) (way_from (front ++ last ∷ []) rest part writing))
above_from front (p ∷ ps) last rest part writing =
    has_later (tree front, on_the_way writing) (way_from (front ++ p ∷ []) (ps ++ last ∷ rest) part writing)
    (tree (front ++ p ∷ ps), on_the_way writing)
    (subst (λ n. Contains (way_from (front ++ p ∷ []) (ps ++ last ∷ rest) part writing) (tree n, on_the_way writing))
    (append_assoc front (p ∷ []) ps) (above_from (front ++ p ∷ []) ps last rest part writing))

-- and so has the Tree of an object alone
pub tree_from : (front parts : List Rdn) (writing : Bool)
    → Contains (way_from front parts extents.Own writing) (tree (front ++ parts), on_the_way writing)
tree_from front [] writing =
    subst (λ n. Contains (way_from front [] extents.Own writing) (tree n, on_the_way writing)) (sym (append-nil front))
    (has_first (tree front, on_the_way writing) ((own front, at_the_unit writing) ∷ []))
tree_from front (first ∷ others) writing =
    has_later (tree front, on_the_way writing) (way_from (front ++ first ∷ []) others extents.Own writing)
    (tree (front ++ first ∷ others), on_the_way writing)
    (subst (λ n. Contains (way_from (front ++ first ∷ []) others extents.Own writing) (tree n, on_the_way writing))
    (append_assoc front (first ∷ []) others) (tree_from (front ++ first ∷ []) others writing))

pub at_unit : (wanted : Wanted) → Contains (way_to wanted) (wanted.unit, at_the_unit wanted.writing)
at_unit wanted = unit_from [] wanted.unit.name wanted.unit.part wanted.writing

-- on each Tree down to the unit's name a mode is held; it is that of the way where the name is a superior's, or the
-- unit is an object alone
pub on_tree : (wanted : Wanted) (name : List Rdn) → begins name wanted.unit.name ≡ true
    → (mode : Mode) × Contains (way_to wanted) (tree name, mode)
on_tree wanted name h = let behind = begins_is name wanted.unit.name h in by behind.0 behind.1
  where
    here : (part : Part) → (mode : Mode) × Contains (way_from [] wanted.unit.name part wanted.writing)
        (tree wanted.unit.name, mode)
    here extents.Tree =
        (at_the_unit wanted.writing, unit_from [] wanted.unit.name extents.Tree wanted.writing)
    here extents.Own = (on_the_way wanted.writing, tree_from [] wanted.unit.name wanted.writing)

    by : (rest : List Rdn) → wanted.unit.name ≡ name ++ rest
        → (mode : Mode) × Contains (way_to wanted) (tree name, mode)
    by [] is =
        let at = here wanted.unit.part in
        (at.0, subst (λ n. Contains (way_to wanted) (tree n, at.0)) (is ∙ append-nil name) at.1)
    by (last ∷ rest) is = (
      on_the_way wanted.writing,
      subst (λ n. Contains (way_from [] n wanted.unit.part wanted.writing) (tree name, on_the_way wanted.writing))
          (sym is) (above_from [] name last rest wanted.unit.part wanted.writing),
    )

pub on_own_tree : (wanted : Wanted) (name : List Rdn) → wanted.unit.part ≡ extents.Own
    → begins name wanted.unit.name ≡ true → Contains (way_to wanted) (tree name, on_the_way wanted.writing)
on_own_tree wanted name alone h = let behind = begins_is name wanted.unit.name h in by behind.0 behind.1
  where
    by : (rest : List Rdn) → wanted.unit.name ≡ name ++ rest
        → Contains (way_to wanted) (tree name, on_the_way wanted.writing)
    by [] is =
        subst (λ n. Contains (way_to wanted) (tree n, on_the_way wanted.writing)) (is ∙ append-nil name)
        (subst (λ (p : Part). Contains (way_from [] wanted.unit.name p wanted.writing)
        (tree wanted.unit.name, on_the_way wanted.writing)) (sym alone)
        (tree_from [] wanted.unit.name wanted.writing))
    by (last ∷ rest) is =
        subst (λ n. Contains (way_from [] n wanted.unit.part wanted.writing) (tree name, on_the_way wanted.writing))
        (sym is) (above_from [] name last rest wanted.unit.part wanted.writing)

pub on_higher_tree : (wanted : Wanted) (name rest : List Rdn) (last : Rdn) → wanted.unit.name ≡ name ++ last ∷ rest
    → Contains (way_to wanted) (tree name, on_the_way wanted.writing)
on_higher_tree wanted name rest last is =
    subst (λ n. Contains (way_from [] n wanted.unit.part wanted.writing) (tree name, on_the_way wanted.writing))
    (sym is) (above_from [] name last rest wanted.unit.part wanted.writing)
