-- One more instance, and all of them.
use Rattle.std.proofs.Common.{◌≡◌, ◌<◌, ◌≤◌, Some, ap, arith, length, refl, sym, ◌∙◌}
use Rattle.std.proofs.Math.Path.{subst}
use Rattle.std.specs.Prelude.{map}
use Rattle.std.specs.List.{slice_get}
use Rattle.std.proofs.lemmas.Option.{slice_get_read}
use Rattle.gdmo_targets.specs.SectionTables.{IsInstanceTargets}
use Rattle.gdmo_targets.proofs.PlaceLaws.{beside_it, same_number}
use Rattle.class_graphs.specs.ClassLinks.{NamesRoot}
use Rattle.class_graphs.proofs.NamedLaws.{beside_all, beside_none, beside_step}
use Rattle.class_graphs.proofs.RootLaws.{root_at, root_of}
use Rattle.class_graphs.proofs.root_links.add_roots.Goals as goal

pub loop-place-init : goal.loop-place-init
loop-place-init c = λ parts xs are each links. beside_none parts.instances (NamesRoot parts) links

pub loop-place-preserved : goal.loop-place-preserved
loop-place-preserved c = λ parts xs are each links.
    let k = c.loop-place.place in
    let own = c.index-instances-place.result in
    let within : k < length c.args.instances.now = omega (arith, c.loop-place-test.true) in
    let at = slice_get_read c.args.instances.now (length c.args.instances.now) k own refl within
    c.index-instances-place.is in
    let by = beside_it (IsInstanceTargets parts xs) parts.instances c.args.instances.now k own each at in
    let marks = c.as_slice.ensures.value ∙ c.in_ok-roots.ensures ∙ ap (map root_of) (sym are) in
    let root = c.is_root_at-is_root.ensures by.0.is_root
    (subst (λ bs. slice_get bs k ≡ Some by.0.is_root) (sym marks) (root_at parts.instances k by.0 by.1)) in
    beside_step k by.0 by.1 (c.loop-place.invariant parts xs are each links)
    (c.in_ok-add_root.ensures parts xs by.0 by.2 root)

pub returns : goal.returns
returns c = λ parts xs are each links.
    let past : length parts.instances ≤ c.loop-place.place =
    (let n = same_number (IsInstanceTargets parts xs) parts.instances c.args.instances.now each in
    let t = c.loop-place-test.false in omega arith) in
    beside_all c.loop-place.place past (c.loop-place.invariant parts xs are each links)
