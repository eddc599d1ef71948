-- FactLaws: what is reached in a graph of classes is what the definitions say of a class.
use Rattle.std.proofs.Common.{◌≡◌, ◌<◌, ◌⊎◌, ◌↔◌, ℕ, suc, zero, List, [], ◌∷◌, Bool, true, false, Some, ap}
use Rattle.std.proofs.Common.{arith, inl, inr, length, refl, subst, sym, ◌∙◌}
use Rattle.std.specs.Prelude.{AllPairs, Contains}
use Rattle.std.specs.List.{slice_get}
use Rattle.std.proofs.lemmas.Option.{same_Some, slice_get_within}
use Rattle.link_graphs.specs.Leading.{LeadsAtOnce, target_lists}
use Rattle.link_graphs.specs.Marking.{IsListed, IsMarked, IsTarget}
use Rattle.link_graphs.proofs.PlaceLaws.{nothing_there}
use Rattle.reached_elements.specs.Reaching.{AreReached, AreTargets, IsReached, IsSomeTarget}
use Rattle.reached_elements.specs.Reaching.IsReached.{begun, onward}
use Rattle.gdmo_names.specs.ClassMembers.{CanBeNamedBy, CanName, Derives, HasAttribute, HasUnknownAttributes, IsNamedBy, IsOrDerives}
use Rattle.gdmo_names.specs.ClassMembers.CanName.{subclass, subordinate}
use Rattle.gdmo_names.specs.ClassMembers.Derives.{directly, through}
use Rattle.gdmo_names.specs.ClassMembers.HasUnknownAttributes.{attribute_of, package_of, superclass}
use Rattle.gdmo_names.specs.ClassMembers.IsNamedBy.{as_root, by_binding}
use Rattle.gdmo_names.specs.DocumentTemplates.{templates}
use Rattle.gdmo_names.specs.LabelMeaning.{Leads}
use Rattle.gdmo_names.specs.Mentions.Role.{MandatoryPackage, NamingAttribute, Superclass}
use Rattle.gdmo_names.specs.PartTerms.{Placed, PartTerms}
use Rattle.gdmo_names.specs.TargetTables.{AreTwo}
use Rattle.gdmo_types.proofs.StepLaws.{contained_get, get_contained, there}
use Rattle.class_graphs.proofs.DerivingLaws.{derive, derive_first, leads_by, leads_of, lost_by, lost_of, same_number}
use Rattle.class_graphs.specs.ClassGraphs.{IsGraph, LackSome, TellsHeld, TellsNaming}
use Rattle.class_graphs.specs.ClassGraphs.LackSome.{in_class, in_package, superclass as lost_superclass}
use Rattle.class_graphs.specs.ClassLinks.{NamesBelow, NamesOwn}
use Rattle.class_graphs.specs.NamedLinks.{AreLinks}
use Rattle.class_graphs.specs.declared.class_members.ClassGraph.{ClassGraph}
use Rattle.class_graphs.specs.declared.class_members.Held.{Held}
use Rattle.class_graphs.specs.declared.class_members.Naming.{Naming}

module _ (views : List Placed) (apart : AllPairs AreTwo views) where
  -- from the number of a template a link leads to that of each template that it leads to
  link_of : {Is : Placed → Placed → Type 0} {lists : List (List ℕ)} → AreLinks views Is lists → (n : ℕ) (x y : Placed) →
      slice_get views n ≡ Some x → Is x y → (k : ℕ) × (slice_get views k ≡ Some y) × IsTarget lists n k
  link_of {lists = lists} are n x y at is = let l = are.whole x y is in (
    l.its_number,
    l.other_at,
    subst (λ m. IsTarget lists m l.its_number) (same_number views apart l.number n x l.one_at at) l.links,
  )

  link_to : {Is : Placed → Placed → Type 0} {lists : List (List ℕ)} → AreLinks views Is lists → (n k : ℕ)
      (x y : Placed) → slice_get views n ≡ Some x → slice_get views k ≡ Some y → Is x y → IsTarget lists n k
  link_to {lists = lists} are n k x y at its_at is =
      let l = link_of are n x y at is in
      subst (λ m. IsTarget lists n m) (same_number views apart l.0 k y l.1 its_at) l.2

  within_lists : {Is : Placed → Placed → Type 0} {lists : List (List ℕ)} → AreLinks views Is lists → (k : ℕ)
      (y : Placed) → slice_get views k ≡ Some y → k < length lists
  within_lists are k y at = let w = slice_get_within views k y at in let s = are.size in omega arith

  at_number : {Is : Placed → Placed → Type 0} {lists : List (List ℕ)} → AreLinks views Is lists → (k : ℕ) →
      k < length lists → (y : Placed) × (slice_get views k ≡ Some y)
  at_number are k less = there views k (let s = are.size in omega arith)

  -- what the targets of some elements are
  some_target : {Is : Placed → Placed → Type 0} {lists : List (List ℕ)} → AreLinks views Is lists →
      (elements : List ℕ) (n k : ℕ) (y : Placed) → IsListed elements n → slice_get views k ≡ Some y →
      IsTarget lists n k → IsSomeTarget lists elements k
  some_target are elements n k y listed at has = (within_lists are k y at, (n, listed, has))

  module _ (parts : PartTerms) (graph : ClassGraph) (g : IsGraph parts views graph) where
    abbrev pub upwards : List (List ℕ)
    upwards = target_lists graph.superclasses.links

    abbrev pub downwards : List (List ℕ)
    downwards = target_lists graph.subclasses

    -- a class that is reached upwards is that of some element, or that derives from it
    pub record IsAbove (from : List ℕ) (n : ℕ) : Type 0 where
      pub element : ℕ
      pub listed : IsListed from element
      pub class : Placed
      pub class_at : slice_get views element ≡ Some class
      pub base : Placed
      pub base_at : slice_get views n ≡ Some base
      pub derives : IsOrDerives parts class base

    up_sound : (from : List ℕ) (n : ℕ) → IsReached upwards from n → IsAbove from n
    up_sound from n (begun listed less) = let x = at_number g.superclasses.links n less in record {
      element = n;
      listed = listed;
      class = x.0;
      class_at = x.1;
      base = x.0;
      base_at = x.1;
      derives = inl refl;
    }
    up_sound from n (onward {element = e} r one) =
        let before = up_sound from e r in
        let x = at_number g.superclasses.links n one.within in
        let leads = leads_of (g.superclasses.links.sound e n before.base x.0 before.base_at x.1
        (one.place, one.stands)) in record {
          element = before.element;
          listed = before.listed;
          class = before.class;
          class_at = before.class_at;
          base = x.0;
          base_at = x.1;
          derives = inr (derive before.derives leads);
        }

    leads_at_once : (n k : ℕ) (x y : Placed) → slice_get views n ≡ Some x → slice_get views k ≡ Some y →
        Leads parts x Superclass y → LeadsAtOnce upwards n k
    leads_at_once n k x y at its_at leads =
        let has = link_to g.superclasses.links n k x y at its_at (leads_by n at leads) in
        record { place = has.0; stands = has.1; within = within_lists g.superclasses.links k y its_at }

    -- the number of a class that a class leads to
    base_of : (n : ℕ) (x y : Placed) → slice_get views n ≡ Some x → Leads parts x Superclass y →
        (k : ℕ) × (slice_get views k ≡ Some y) × LeadsAtOnce upwards n k
    base_of n x y at leads =
        let l = link_of g.superclasses.links n x y at (leads_by n at leads) in
        (l.0, l.1, leads_at_once n l.0 x y at l.1 leads)

    up_derived : (from : List ℕ) (n : ℕ) (x y : Placed) → slice_get views n ≡ Some x → IsReached upwards from n →
        Derives parts x y → (k : ℕ) × (slice_get views k ≡ Some y) × IsReached upwards from k
    up_derived from n x y at r (directly leads) =
        let k = base_of n x y at leads in (k.0, k.1, onward r k.2)
    up_derived from n x y at r (through {middle = z} d leads) =
        let m = up_derived from n x z at r d in
        let k = base_of m.0 z y m.1 leads in (k.0, k.1, onward m.2 k.2)

    up_whole : (from : List ℕ) (n : ℕ) (x y : Placed) → IsListed from n → slice_get views n ≡ Some x →
        IsOrDerives parts x y → (k : ℕ) × (slice_get views k ≡ Some y) × IsReached upwards from k
    up_whole from n x y listed at (inl same) =
        (n, at ∙ ap Some same, begun listed (within_lists g.superclasses.links n x at))
    up_whole from n x y listed at (inr d) =
        up_derived from n x y at (begun listed (within_lists g.superclasses.links n x at)) d

    -- a class that is reached downwards is this one, or derives from it
    down_sound : (class : ℕ) (x : Placed) → slice_get views class ≡ Some x → (n : ℕ) →
        IsReached downwards (class ∷ []) n → (y : Placed) × (slice_get views n ≡ Some y) × IsOrDerives parts y x
    down_sound class x at n (begun listed less) = by listed.0 listed.1
      where
        by : (k : ℕ) → slice_get (class ∷ []) k ≡ Some n →
            (y : Placed) × (slice_get views n ≡ Some y) × IsOrDerives parts y x
        by zero is = (x, subst (λ m. slice_get views m ≡ Some x) (same_Some class n is) at, inl refl)
        by (suc k) is = nothing_there k n is
    down_sound class x at n (onward {element = e} r one) =
        let before = down_sound class x at e r in
        let up = (g.subclasses.leads n e).1 one in
        let y = at_number g.superclasses.links n
        (let s = g.subclasses.size in let w = one.within in omega arith) in
        let leads = leads_of (g.superclasses.links.sound n e y.0 before.0 y.1 before.1 (up.place, up.stands)) in
        (y.0, y.1, inr (derive_first leads before.2))

    down_derived : (from : List ℕ) (m : ℕ) (y : Placed) (n : ℕ) (x : Placed) → slice_get views m ≡ Some y →
        slice_get views n ≡ Some x → IsReached downwards from n → Derives parts y x → IsReached downwards from m
    down_derived from m y n x at its_at r (directly leads) =
        onward r ((g.subclasses.leads m n).0 (leads_at_once m n y x at its_at leads))
    down_derived from m y n x at its_at r (through {middle = z} d leads) =
        let k = up_derived (m ∷ []) m y z at
        (begun (0, refl) (within_lists g.superclasses.links m y at)) d in
        down_derived from m y k.0 z at k.1
        (onward r ((g.subclasses.leads k.0 n).0 (leads_at_once k.0 n z x k.1 its_at leads))) d

    down_whole : (class : ℕ) (x y : Placed) → slice_get views class ≡ Some x → (m : ℕ) → slice_get views m ≡ Some y →
        IsOrDerives parts y x → IsReached downwards (class ∷ []) m
    down_whole class x y at m its_at (inl same) =
        subst (λ n. IsReached downwards (class ∷ []) n)
        (same_number views apart class m x at (its_at ∙ ap Some same)) (begun (0, refl) (within class x at))
      where
        within : (n : ℕ) (z : Placed) → slice_get views n ≡ Some z → n < length downwards
        within n z z_at =
            let w : n < length upwards = within_lists g.superclasses.links n z z_at in
            let s : length downwards ≡ length upwards = g.subclasses.size in omega (arith, w, s)
    down_whole class x y at m its_at (inr d) = down_derived (class ∷ []) m y class x its_at at
        (begun (0, refl) (let w : class < length upwards = within_lists g.superclasses.links class x at in
        let s : length downwards ≡ length upwards = g.subclasses.size in omega (arith, w, s))) d

    -- ---- the attributes of a class

    module _ (class : ℕ) (x : Placed) (at : slice_get views class ≡ Some x) (above_marks packages_marks : List Bool)
        (above packages : List ℕ) (is_above : AreReached upwards (class ∷ []) above_marks above)
        (are_packages : AreTargets (target_lists graph.packages.links) above packages_marks packages) where
      -- a class of those above
      above_is : (n : ℕ) → IsListed above n → (y : Placed) × (slice_get views n ≡ Some y) × IsOrDerives parts x y
      above_is n listed =
          let h = up_sound (class ∷ []) n ((is_above.listed_too n).0 listed) in by h h.listed.0 h.listed.1
        where
          by : (h : IsAbove (class ∷ []) n) (k : ℕ) → slice_get (class ∷ []) k ≡ Some h.element →
              (y : Placed) × (slice_get views n ≡ Some y) × IsOrDerives parts x y
          by h zero is = (
            h.base,
            h.base_at,
            subst (λ z. IsOrDerives parts z h.base) (same_Some h.class x (sym h.class_at
                ∙ subst (λ m. slice_get views m ≡ Some x) (same_Some class h.element is) at)) h.derives,
          )
          by h (suc k) is = nothing_there k h.element is

      is_above_it : (y : Placed) → IsOrDerives parts x y → (n : ℕ) × (slice_get views n ≡ Some y) × IsListed above n
      is_above_it y derives =
          let k = up_whole (class ∷ []) class x y (0, refl) at derives in
          (k.0, k.1, (is_above.listed_too k.0).1 k.2)

      package_is : (n : ℕ) → IsListed packages n →
          (base y : Placed) × (slice_get views n ≡ Some y) × IsOrDerives parts x base
          × Leads parts base MandatoryPackage y
      package_is n listed =
          let t = (are_packages.listed_too n).0 listed in
          let base = above_is t.1.0 t.1.1 in
          let y = at_number g.packages.links n t.0 in
          (base.0, y.0, y.1, base.2, leads_of (g.packages.links.sound t.1.0 n base.0 y.0 base.1 y.1 t.1.2))

      is_package : (base y : Placed) → IsOrDerives parts x base → Leads parts base MandatoryPackage y →
          (n : ℕ) × (slice_get views n ≡ Some y) × IsListed packages n
      is_package base y derives leads =
          let b = is_above_it base derives in
          let k = link_of g.packages.links b.0 base y b.1 (leads_by b.0 b.1 leads) in
          (k.0, k.1, (are_packages.listed_too k.0).1 (some_target g.packages.links above b.0 k.0 y b.2 k.1 k.2))

      attribute_of_it : (n : ℕ) (a : Placed) → slice_get views n ≡ Some a →
          IsSomeTarget (target_lists graph.attributes.links) packages n → HasAttribute parts x a
      attribute_of_it n a its_at t = let p = package_is t.1.0 t.1.1 in record {
        base = p.0;
        above = p.3;
        package_of = p.1;
        mandatory = p.4;
        has = leads_of (g.attributes.links.sound t.1.0 n p.1 a p.2 its_at t.1.2);
      }

      its_attribute : (n : ℕ) (a : Placed) → slice_get views n ≡ Some a → HasAttribute parts x a →
          IsSomeTarget (target_lists graph.attributes.links) packages n
      its_attribute n a its_at has =
          let p = is_package has.base has.package_of has.above has.mandatory in
          some_target g.attributes.links packages p.0 n a p.2 its_at
          (link_to g.attributes.links p.0 n has.package_of a p.1 its_at (leads_by p.0 p.1 has.has))

      lack_sound : LackSome graph above packages → HasUnknownAttributes parts x
      lack_sound (lost_superclass {t = t} h) =
          let b = above_is h.1.0 h.1.1 in
          let y = at_number g.superclasses.lost t h.0 in
          superclass b.2 (lost_of (g.superclasses.lost.sound h.1.0 t b.0 y.0 b.1 y.1 h.1.2))
      lack_sound (in_class {t = t} h) =
          let b = above_is h.1.0 h.1.1 in
          let y = at_number g.packages.lost t h.0 in
          package_of b.2 (lost_of (g.packages.lost.sound h.1.0 t b.0 y.0 b.1 y.1 h.1.2))
      lack_sound (in_package {t = t} h) =
          let p = package_is h.1.0 h.1.1 in
          let y = at_number g.attributes.lost t h.0 in
          attribute_of p.3 p.4 (lost_of (g.attributes.lost.sound h.1.0 t p.1 y.0 p.2 y.1 h.1.2))

      lack_whole : HasUnknownAttributes parts x → LackSome graph above packages
      lack_whole (superclass {base = y} derives lost) =
          let b = is_above_it y derives in
          let k = link_of g.superclasses.lost b.0 y y b.1 (lost_by b.0 b.1 lost) in
          lost_superclass (some_target g.superclasses.lost above b.0 k.0 y b.2 k.1 k.2)
      lack_whole (package_of {base = y} derives lost) =
          let b = is_above_it y derives in
          let k = link_of g.packages.lost b.0 y y b.1 (lost_by b.0 b.1 lost) in
          in_class (some_target g.packages.lost above b.0 k.0 y b.2 k.1 k.2)
      lack_whole (attribute_of {base = y} {in_package = z} derives leads lost) =
          let p = is_package y z derives leads in
          let k = link_of g.attributes.lost p.0 z z p.1 (lost_by p.0 p.1 lost) in
          in_package (some_target g.attributes.lost packages p.0 k.0 z p.2 k.1 k.2)

      pub held_told : (held : Held) → AreTargets (target_lists graph.attributes.links) packages
          held.attributes.marks held.attributes.elements.items →
          ((held.has_missing ≡ true) ↔ LackSome graph above packages) → TellsHeld parts views x held
      held_told held are lacks = record {
        attributes = λ n a its_at. (
          (λ h. attribute_of_it n a its_at ((are.marked n).0 h)),
          (λ h. (are.marked n).1 (its_attribute n a its_at h)),
        );
        missing = ((λ h. lack_sound (lacks.0 h)), (λ h. lacks.1 (lack_whole h)));
      }

    -- ---- the attributes by which its objects can be named

    module _ (class : ℕ) (x : Placed) (at : slice_get views class ≡ Some x) (below_marks around_marks : List Bool)
        (below around : List ℕ) (is_below : AreReached downwards (class ∷ []) below_marks below)
        (is_around : AreReached upwards below around_marks around) where
      stands_at : (n : ℕ) (y : Placed) → slice_get views n ≡ Some y → Contains (templates parts) y
      stands_at n y its_at = subst (λ ys. Contains ys y) g.are (get_contained views n y its_at)

      own_named : (y a : Placed) → NamesOwn parts views y a → IsNamedBy parts y a
      own_named y a (inl h) =
          by_binding (stands_at h.place h.by h.at) (subordinate h.is.subordinate) h.is.naming
      own_named y a (inr h) = as_root (get_contained parts.instances h.place h.by h.at) h.is.is_root h.is.is_last
          h.is.of_class h.is.means

      own_sound : (n : ℕ) (a : Placed) → slice_get views n ≡ Some a → IsSomeTarget (target_lists graph.naming) below n →
          CanBeNamedBy parts x a
      own_sound n a its_at t =
          let y = down_sound class x at t.1.0 ((is_below.listed_too t.1.0).0 t.1.1) in record {
            below = y.0;
            stands = stands_at t.1.0 y.0 y.1;
            derives = y.2;
            named = own_named y.0 a (g.naming.sound t.1.0 n y.0 a y.1 its_at t.1.2);
          }

      below_named : (y z a : Placed) → IsOrDerives parts y z → NamesBelow parts views z a → IsNamedBy parts y a
      below_named y z a (inl same) h = by_binding (stands_at h.place h.by h.at)
          (subst (λ w. CanName parts h.by w) (sym same) (subordinate h.is.subordinate)) h.is.naming
      below_named y z a (inr d) h = by_binding (stands_at h.place h.by h.at)
          (subclass h.is.subordinate (h.is.below_too refl) d) h.is.naming

      below_sound : (n : ℕ) (a : Placed) → slice_get views n ≡ Some a →
          IsSomeTarget (target_lists graph.naming_below) around n → CanBeNamedBy parts x a
      below_sound n a its_at t =
          let up = up_sound below t.1.0 ((is_around.listed_too t.1.0).0 t.1.1) in
          let y = down_sound class x at up.element ((is_below.listed_too up.element).0 up.listed) in
          let same = same_Some y.0 up.class (sym y.1 ∙ up.class_at) in record {
            below = up.class;
            stands = stands_at up.element up.class up.class_at;
            derives = subst (λ z. IsOrDerives parts z x) same y.2;
            named = below_named up.class up.base a up.derives
                (g.naming_below.sound t.1.0 n up.base a up.base_at its_at t.1.2);
          }

      module _ (n : ℕ) (a : Placed) (its_at : slice_get views n ≡ Some a) (m : ℕ) (y : Placed)
          (y_at : slice_get views m ≡ Some y) (listed : IsListed below m) where
        own_target : NamesOwn parts views y a → IsSomeTarget (target_lists graph.naming) below n
        own_target names =
            some_target g.naming below m n a listed its_at (link_to g.naming m n y a y_at its_at names)

        below_target : (z : Placed) → Derives parts y z → NamesBelow parts views z a →
            IsSomeTarget (target_lists graph.naming_below) around n
        below_target z d names =
            let k = up_whole below m y z listed y_at (inr d) in
            some_target g.naming_below around k.0 n a ((is_around.listed_too k.0).1 k.2) its_at
            (link_to g.naming_below k.0 n z a k.1 its_at names)

        abbrev Told : Type 0
        Told = IsSomeTarget (target_lists graph.naming) below n
            ⊎ IsSomeTarget (target_lists graph.naming_below) around n

        bound : (by : Placed) (k : ℕ) → slice_get views k ≡ Some by → CanName parts by y →
            Leads parts by NamingAttribute a → Told
        bound by k by_at (subordinate leads) naming = inl (own_target (inl (record {
          place = k;
          by = by;
          at = by_at;
          is = record { below_too = λ e. absurd (false_is e); subordinate = leads; naming = naming };
        })))
          where
            false_is : false ≡ true → ⊥
            false_is e = absurd (cc)
        bound by k by_at (subclass {base = z} leads flag d) naming = inr (below_target z d (record {
          place = k;
          by = by;
          at = by_at;
          is = record { below_too = λ e. flag; subordinate = leads; naming = naming };
        }))

        named_told : IsNamedBy parts y a → Told
        named_told (by_binding {binding = by} stands can naming) =
            let k = contained_get views by (subst (λ ys. Contains ys by) (sym g.are) stands) in
            bound by k.0 k.1 can naming
        named_told (as_root {instance = i} {pair = p} stands root last of_class means) =
            let k = contained_get parts.instances i stands in
            inl (own_target (inr (record {
              place = k.0;
              by = i;
              at = k.1;
              is = record { is_root = root; of_class = of_class; pair = p; is_last = last; means = means };
            })))

      naming_whole : (n : ℕ) (a : Placed) → slice_get views n ≡ Some a → CanBeNamedBy parts x a →
          IsSomeTarget (target_lists graph.naming) below n ⊎ IsSomeTarget (target_lists graph.naming_below) around n
      naming_whole n a its_at names =
          let m = contained_get views names.below (subst (λ ys. Contains ys names.below) (sym g.are) names.stands) in
          named_told n a its_at m.0 names.below m.1
          ((is_below.listed_too m.0).1 (down_whole class x names.below at m.0 m.1 names.derives)) names.named

      pub naming_told : (naming : Naming) →
          AreTargets (target_lists graph.naming) below naming.own.marks naming.own.elements.items →
          AreTargets (target_lists graph.naming_below) around naming.below.marks naming.below.elements.items →
          TellsNaming parts views x naming
      naming_told naming own under n a its_at = (there_to, λ h. back (naming_whole n a its_at h))
        where
          there_to : IsMarked naming.own.marks n ⊎ IsMarked naming.below.marks n → CanBeNamedBy parts x a
          there_to (inl h) = own_sound n a its_at ((own.marked n).0 h)
          there_to (inr h) = below_sound n a its_at ((under.marked n).0 h)

          back : IsSomeTarget (target_lists graph.naming) below n
              ⊎ IsSomeTarget (target_lists graph.naming_below) around n →
              IsMarked naming.own.marks n ⊎ IsMarked naming.below.marks n
          back (inl h) = inl ((own.marked n).1 h)
          back (inr h) = inr ((under.marked n).1 h)
