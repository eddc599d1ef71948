-- Laws on attribute and parameter templates: a template in a box, and clauses that are all read.
use Rattle.std.proofs.Common.{◌≡◌, ℕ, Bool, true, false, ◌&&◌, is_some, List, Option, None, Some, option_map, refl, ◌∙◌}
use Rattle.std.proofs.Common.{ap}
use Rattle.std.specs.declared.alloc.Global.{Global}
use Rattle.std.specs.declared.boxed.Box.{Box}
use Rattle.std.specs.declared.vec.Vec.{Vec}
use Rattle.token_grammar.specs.declared.token.Token.{Token}
use Rattle.token_grammar.specs.Form.{Tree, Bare, Pair, Present, Second, Empty, After, AnyOrder, Slots, option_tree}
use Rattle.token_grammar.specs.declared.syntax_refusal.SyntaxRefusal.TheVariants.{Syntax}
use Rattle.gdmo_members.specs.declared.context.Context.{Context}
use Rattle.gdmo_members.specs.declared.parameter.ParameterDraft.{ParameterDraft}
use Rattle.gdmo_members.specs.declared.parameter.ParameterSyntax.{ParameterSyntax}
use Rattle.token_grammar.specs.Turns.{Leads, IsOver}
use Rattle.token_grammar.specs.Outcome.{IsSpelt, Fails}
use Rattle.token_grammar.specs.Parts.{list_tree}
use Rattle.token_grammar.proofs.Clauses.{clauses_done, clauses_missing, needed_some, needed_none, came_tree}
use Rattle.gdmo_members.specs.declared.attribute.AttributeTemplate.{AttributeTemplate, Row_of-ParameterReference}
use Rattle.gdmo_members.specs.declared.attribute.AttributeTemplate.{end_of-ParameterReference}
use Rattle.gdmo_members.specs.declared.attribute.AttributeTemplate.{more_of-ParameterReference}
use Rattle.gdmo_members.specs.declared.attribute.AttributeTemplate.{items-the_row-ParameterReference}
use Rattle.gdmo_members.specs.declared.attribute.AttributeTemplate.{items_hidden-the_row-ParameterReference-0}
use Rattle.gdmo_members.specs.declared.attribute.AttributeTemplate.{back-AttributeTemplate-parameters}
use Rattle.gdmo_members.specs.declared.attribute.AttributeReference.TheBlock.{hidden-the_row-ParameterReference-0}
use Rattle.gdmo_members.specs.declared.attribute.AttributeSyntax.{AttributeSyntax}
use Rattle.gdmo_members.specs.declared.attribute.AttributeReference.TheVariants.{Template as ATemplate}
use Rattle.gdmo_members.specs.declared.attribute.AttributeDraft.{AttributeDraft}
use Rattle.gdmo_members.specs.declared.parameter.ParameterReference.{ParameterReference}
use Rattle.gdmo_members.specs.declared.parameter.ParameterReference.TheVariants.{Template as PTemplate}
use Rattle.gdmo_members.specs.declared.parameter.ParameterTemplate.{ParameterTemplate}
use Rattle.gdmo_members.specs.Trees.{clause_tree, context_tree, ending_tree}
use Rattle.gdmo_members.specs.Templates.{templates, attribute_clauses, parameter_clauses}
use Rattle.gdmo_members.specs.MemberTrees.{attribute_reference_tree, attribute_syntax_tree, attribute_tree}
use Rattle.gdmo_members.specs.MemberTrees.{attribute_parts, attribute_slots, attribute_clauses_tree}
use Rattle.gdmo_members.specs.MemberTrees.{is_attribute_clause, parameter_reference_tree, parameter_syntax_tree}
use Rattle.gdmo_members.specs.MemberTrees.{parameter_tree, parameter_slots, parameter_clauses_tree, parameters_tree}
use Rattle.gdmo_members.specs.MemberTrees.{is_parameter_clause, rules_tree, behaviours_tree, template_tree, row_tree}
use Rattle.gdmo_members.specs.MemberTrees.{held_tree}

-- a row of parameters says what the list of them says
row-list : {n : _} (before : Tree) (row : Row_of-ParameterReference n)
    → row_tree before row ≡ list_tree parameter_reference_tree before (items-the_row-ParameterReference n row)
row-list before end_of-ParameterReference = refl
row-list before (more_of-ParameterReference parameter others) =
    row-list (After before (parameter_reference_tree parameter)) others

-- and so do the parameters of a template in a box
held : (x : Option (Vec ParameterReference Global))
    → held_tree (back-AttributeTemplate-parameters x) ≡ parameters_tree x
held None = refl
held (Some xs) = ap (λ (t : Tree). Present (Pair Bare (Pair t Bare)))
    (row-list Empty (hidden-the_row-ParameterReference-0 xs)
    ∙ ap (λ (ys : List ParameterReference). list_tree parameter_reference_tree Empty ys)
    (items_hidden-the_row-ParameterReference-0 xs))

in_line : (b : Box AttributeTemplate Global) → attribute_reference_tree (ATemplate b) ≡ Second (attribute_tree b.value)
in_line b = ap (λ (t : Tree). Second
    (template_tree b.value.document b.value.label
    (attribute_parts (attribute_syntax_tree b.value.syntax) b.value.rules b.value.behaviour t)
    (ending_tree b.value.registration))) (held b.value.parameters)

pub boxed_attribute : (b : Box AttributeTemplate Global) (x : AttributeTemplate) → b.value ≡ x
    → attribute_reference_tree (ATemplate b) ≡ Second (attribute_tree x)
boxed_attribute b x e = in_line b ∙ ap (λ (y : AttributeTemplate). Second (attribute_tree y)) e

pub boxed_parameter : (b : Box ParameterTemplate Global) (x : ParameterTemplate) → b.value ≡ x
    → parameter_reference_tree (PTemplate b) ≡ Second (parameter_tree x)
boxed_parameter b x e = ap (λ (y : ParameterTemplate). Second (parameter_tree y)) e

-- All clauses of an attribute template were read.
pub attribute_done : {tokens : List Token} (before : Slots) (x : AttributeDraft) (syntax : AttributeSyntax) {i k : ℕ}
    → x.syntax ≡ Some syntax
    → Leads tokens templates is_attribute_clause (AnyOrder attribute_clauses) i (AnyOrder before) k
    → IsOver tokens templates before (attribute_slots x) k
    → IsSpelt tokens templates is_attribute_clause (AnyOrder attribute_clauses) i
    (attribute_clauses_tree (record {
      syntax = syntax;
      rules = x.rules;
      behaviour = x.behaviour;
      parameters =
          x.parameters;
    })) k
attribute_done before x syntax e led none =
    clauses_done before (attribute_slots x) led none (needed_some attribute_syntax_tree x.syntax syntax true e refl)
    (ap (λ (t : Tree). Pair t
    (Pair (rules_tree x.rules) (Pair (behaviours_tree x.behaviour) (Pair (parameters_tree x.parameters) Bare))))
    (came_tree attribute_syntax_tree x.syntax syntax e))

pub attribute_missing : {tokens : List Token} (before : Slots) (x : AttributeDraft) {i k : ℕ} → x.syntax ≡ None
    → Leads tokens templates is_attribute_clause (AnyOrder attribute_clauses) i (AnyOrder before) k
    → IsOver tokens templates before (attribute_slots x) k
    → Fails tokens templates is_attribute_clause (AnyOrder attribute_clauses) i (Syntax k)
attribute_missing before x e led none =
    clauses_missing before (attribute_slots x) led none (needed_none attribute_syntax_tree x.syntax true e)

-- The same of a parameter template.
pub parameter_done : {tokens : List Token} (before : Slots) (x : ParameterDraft) (context : Context)
    (syntax : ParameterSyntax) {i k : ℕ} → x.context ≡ Some context → x.syntax ≡ Some syntax
    → Leads tokens templates is_parameter_clause (AnyOrder parameter_clauses) i (AnyOrder before) k
    → IsOver tokens templates before (parameter_slots x) k
    → IsSpelt tokens templates is_parameter_clause (AnyOrder parameter_clauses) i
    (parameter_clauses_tree (record { context = context; syntax = syntax; behaviour = x.behaviour })) k
parameter_done before x context syntax c e led none =
    clauses_done before (parameter_slots x) led none
    (needed_some (clause_tree context_tree) x.context context
    (is_some (option_map parameter_syntax_tree x.syntax) && true) c
    (needed_some parameter_syntax_tree x.syntax syntax true e refl))
    (ap (λ (t : Tree). Pair t (Pair (Present (parameter_syntax_tree syntax)) (Pair (behaviours_tree x.behaviour) Bare)))
    (came_tree (clause_tree context_tree) x.context context c)
    ∙ ap (λ (t : Tree). Pair (option_tree (option_map (clause_tree context_tree) x.context))
    (Pair t (Pair (behaviours_tree x.behaviour) Bare))) (came_tree parameter_syntax_tree x.syntax syntax e))

pub parameter_missing_context : {tokens : List Token} (before : Slots) (x : ParameterDraft) {i k : ℕ} → x.context ≡ None
    → Leads tokens templates is_parameter_clause (AnyOrder parameter_clauses) i (AnyOrder before) k
    → IsOver tokens templates before (parameter_slots x) k
    → Fails tokens templates is_parameter_clause (AnyOrder parameter_clauses) i (Syntax k)
parameter_missing_context before x e led none =
    clauses_missing before (parameter_slots x) led none
    (needed_none (clause_tree context_tree) x.context (is_some (option_map parameter_syntax_tree x.syntax) && true) e)

pub parameter_missing_syntax : {tokens : List Token} (before : Slots) (x : ParameterDraft) (context : Context) {i k : ℕ}
    → x.context ≡ Some context → x.syntax ≡ None
    → Leads tokens templates is_parameter_clause (AnyOrder parameter_clauses) i (AnyOrder before) k
    → IsOver tokens templates before (parameter_slots x) k
    → Fails tokens templates is_parameter_clause (AnyOrder parameter_clauses) i (Syntax k)
parameter_missing_syntax before x context c e led none =
    clauses_missing before (parameter_slots x) led none
    (both (is_some (option_map (clause_tree context_tree) x.context))
    (is_some (option_map parameter_syntax_tree x.syntax) && true) (needed_none parameter_syntax_tree x.syntax true e))
  where
    both : (a b : Bool) → b ≡ false → (a && b) ≡ false
    both true b e = e
    both false b e = refl
