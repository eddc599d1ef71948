-- No module defines a name.
use Rattle.std.proofs.Common.{rules, ◌≡◌, Some, None, IfOk, IfErr, subst}
use Rattle.std.specs.Prelude.{◌≢◌}
use Rattle.asn1_leaf_values.proofs.NameLaws.{empty_named}
use Rattle.asn1_leaf_values.specs.Arcs.{NamedArcs}
use Rattle.asn1_values.specs.Filters.{value_named}
use Rattle.asn1_leaf_values.specs.TextValues.{first_place, said}
use Rattle.asn1_values.specs.declared.value_refusal.ValueRefusal.TheVariants.{BadValue, Memory}
use Rattle.asn1_values.proofs.value_of.Goals as goal

pub returns-clause-denoted : goal.returns-clause-denoted
returns-clause-denoted c =
    subst (λ (names : NamedArcs). IfOk c.value_with_names.result (λ value.
    value_named names c.args.syntax.now (said c.args.text.now) ≡ Some value))
    (empty_named c.new-names.result c.new-names.ensures.empty) c.value_with_names.ensures.denoted

pub returns-clause-bad : goal.returns-clause-bad
returns-clause-bad c =
    subst (λ (names : NamedArcs). IfErr c.value_with_names.result (λ refusal. refusal ≢ Memory →
    (refusal ≡ BadValue (first_place c.args.text.now))
    × (value_named names c.args.syntax.now (said c.args.text.now) ≡ None)))
    (empty_named c.new-names.result c.new-names.ensures.empty) c.value_with_names.ensures.bad
