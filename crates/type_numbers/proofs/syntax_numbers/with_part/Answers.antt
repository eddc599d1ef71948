-- A component before others.
use Rattle.std.proofs.Common.{[]}
use Rattle.std.proofs.Math.Path.{subst}
use Rattle.term_values.specs.Sketch.Sketch.{Join, Leaf}
use Rattle.key_numbers.specs.KeyNumbers.{IsSketchNumber, key_sketch, parts_sketch}
use Rattle.key_numbers.proofs.SketchLaws.{sketch_grows}
use Rattle.type_numbers.proofs.syntax_numbers.with_part.Goals as goal

pub returns-clause-is : goal.returns-clause-is
returns-clause-is c = λ key keys of rest.
    let called = subst (λ name. IsSketchNumber c.leaf.new.self (Leaf 0 name []) c.in_ok-called.called)
    c.as_slice.ensures c.in_ok-called.ensures.is in
    let typed = c.in_ok-typed.ensures.is _ _ (sketch_grows c.leaf.ensures.grows of)
    (sketch_grows c.leaf.ensures.grows rest) in
    subst (λ kind. IsSketchNumber c.joined-2.new.self (Join kind (Leaf 0 c.args.part.now.name [])
    (Join 0 (key_sketch key) (parts_sketch keys))) c.in_ok-number.number) c.kind_of_presence-kind.ensures
    (c.in_ok-number.ensures.is _ _ (sketch_grows c.joined.ensures.grows called) typed)
