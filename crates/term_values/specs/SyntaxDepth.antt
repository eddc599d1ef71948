-- What stands inside a syntax has fewer nodes than the syntax.
use Rattle.std.specs.Prelude.{◌≤◌, max, List, [], ◌∷◌}
use Rattle.std.proofs.Common.{arith}
use denote.Param.Weighed.{most}
use Rattle.term_values.specs.declared.syntax.SyntaxForm.{SyntaxForm}
use Rattle.term_values.specs.declared.syntax.SyntaxForm.TheVariants as forms
use Rattle.term_values.specs.declared.syntax.Part.{Part}
use Rattle.term_values.specs.declared.syntax.Parts.TheDeep.{deep-SyntaxForm, deep-Part}
use Rattle.term_values.specs.SyntaxSize.{nodes, nodes_parts}
use Rattle.term_values.specs.SyntaxView.{syntax_of}
use Rattle.term_values.specs.PartsView.{parts_listed}

pub depth_below_nodes : (form : SyntaxForm) → max (deep-SyntaxForm form) 0 ≤ nodes (syntax_of form)
depth_below_nodes forms.Bool = omega arith
depth_below_nodes (forms.Int names ranges) = omega arith
depth_below_nodes (forms.Enumerated names) = omega arith
depth_below_nodes (forms.Bits names sizes) = omega arith
depth_below_nodes (forms.Octets sizes) = omega arith
depth_below_nodes forms.Null = omega arith
depth_below_nodes forms.Oid = omega arith
depth_below_nodes (forms.Text charset sizes) = omega arith
depth_below_nodes forms.Time = omega arith
depth_below_nodes (forms.Seq parts) = omega arith
depth_below_nodes (forms.Unordered parts) = omega arith
depth_below_nodes (forms.ListOf member sizes) = omega arith
depth_below_nodes (forms.SetOf member sizes) = omega arith
depth_below_nodes (forms.Choice parts) = omega arith
depth_below_nodes (forms.Tagged tag explicit inner) = omega arith
depth_below_nodes forms.Any = omega arith
depth_below_nodes forms.Filter = omega arith

-- no component has as many nodes as the list
pub most_below_parts : (xs : List Part) → most deep-Part xs ≤ nodes_parts (parts_listed xs)
most_below_parts [] = omega arith
most_below_parts (x ∷ xs) = omega (arith, most_below_parts xs)
