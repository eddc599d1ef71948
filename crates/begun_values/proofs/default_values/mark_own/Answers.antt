-- The value that stands there, in the one syntax that its type has.
use Rattle.std.proofs.Common.{◌∙◌, ap, option_map, subst, sym}
use Rattle.asn1_names.specs.TermViews.{presence_term, type_term}
use Rattle.asn1_values_syntax.specs.ValueTrees.{value_tree}
use Rattle.begun_values.specs.DefaultNames.{default_text}
use Rattle.begun_values.specs.MeantSyntaxes.{DenotesThis}
use Rattle.begun_values.proofs.DefaultLaws.{own_marked}
use Rattle.begun_values.proofs.default_values.mark_own.Goals as goal

pub returns-in-Some-syntax : goal.returns-in-Some-syntax
returns-in-Some-syntax c = λ ms m d.
    own_marked ms m (type_term c.args.component.now.of) (default_text (presence_term c.args.component.now.presence))
    (value_tree c.in-Some.value.now) c.in-Some-syntax.syntax.now
    (ap (option_map (λ value. value_tree value.now)) (sym c.in-Some.is) ∙ c.default_of.ensures)
    (subst (λ s. DenotesThis ms m (type_term c.args.component.now.of) (option_map (λ one. one.now) s))
    c.in-Some-syntax.is d) c.mark_names.ensures
