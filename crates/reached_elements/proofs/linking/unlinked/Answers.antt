-- One element more.
use Rattle.std.proofs.Common.{◌≡◌, ◌++◌, ◌∷◌, ◌∙◌, ap, [], replicate, arith}
use Rattle.std.specs.Prelude.{map}
use Rattle.std.proofs.lemmas.List.{map_push, replicate_more}
use Rattle.reached_elements.proofs.ReachLaws.{items}
use Rattle.reached_elements.proofs.linking.unlinked.Goals as goal

pub loop-init : goal.loop-init
loop-init c = ap (map items) c.new-targets.ensures.items

pub loop-preserved : goal.loop-preserved
loop-preserved c =
    ap (map items) c.in_ok-push.ensures.items ∙ map_push items c.loop.targets.items c.new.result
    ∙ ap (λ zs. zs ++ c.new.result.items ∷ []) c.loop.invariant
    ∙ ap (λ z. replicate c.loop.counter [] ++ z ∷ []) c.new.ensures.items ∙ replicate_more c.loop.counter []

pub returns : goal.returns
returns c =
    let e : c.loop.counter ≡ c.args.count =
    (let t = c.loop-test.false in let u = c.loop.auto.counter-end in omega arith) in
    c.loop.invariant ∙ ap (λ n. replicate n []) e
