-- MemberTrees: what attribute and parameter templates say, which may stand in line in one another, and
-- which of their clauses came (X.722, sections 8.5 and 8.7).
use Rattle.std.specs.Prelude.{ℕ, Bool, true, false, [], ◌∷◌, Option, option_map, codes}
use Rattle.std.specs.declared.alloc.Global.{Global}
use Rattle.std.specs.declared.vec.Vec.{Vec}
use Rattle.token_grammar.specs.declared.token.Token.{Token}
use Rattle.token_grammar.specs.Form.{Tree, Bare, Leaf, Pair, First, Second, Absent, Present, Empty, After, Numbered}
use Rattle.token_grammar.specs.Form.{Slots, Slot, NoSlots}
use Rattle.token_grammar.specs.TokenTests.{is_one_of}
use Rattle.token_grammar.specs.Parts.{optional_tree, label_reference_tree, qualified_name_tree, vector_tree}
use Rattle.gdmo_members.specs.declared.behaviour.BehaviourReference.{BehaviourReference}
use Rattle.gdmo_members.specs.declared.attribute.AttributeTemplate.{AttributeTemplate, Row_of-ParameterReference}
use Rattle.gdmo_members.specs.declared.attribute.AttributeTemplate.{end_of-ParameterReference}
use Rattle.gdmo_members.specs.declared.attribute.AttributeTemplate.{more_of-ParameterReference}
use Rattle.gdmo_members.specs.declared.attribute.AttributeTemplate.{Held-AttributeTemplate-parameters, None', Some'}
use Rattle.gdmo_members.specs.declared.attribute.AttributeSyntax.{AttributeSyntax}
use Rattle.gdmo_members.specs.declared.attribute.AttributeSyntax.TheVariants.{TypeReference as AType, Derived}
use Rattle.gdmo_members.specs.declared.attribute.AttributeReference.{AttributeReference}
use Rattle.gdmo_members.specs.declared.attribute.AttributeReference.TheVariants.{Label as ALabel}
use Rattle.gdmo_members.specs.declared.attribute.AttributeReference.TheVariants.{Template' as ATemplate}
use Rattle.gdmo_members.specs.declared.attribute.AttributeDraft.{AttributeDraft}
use Rattle.gdmo_members.specs.declared.attribute.AttributeClauses.{AttributeClauses}
use Rattle.gdmo_members.specs.declared.parameter.ParameterTemplate.{ParameterTemplate}
use Rattle.gdmo_members.specs.declared.parameter.ParameterSyntax.{ParameterSyntax}
use Rattle.gdmo_members.specs.declared.parameter.ParameterSyntax.TheVariants.{TypeReference as PType, Attribute}
use Rattle.gdmo_members.specs.declared.parameter.ParameterReference.{ParameterReference}
use Rattle.gdmo_members.specs.declared.parameter.ParameterReference.TheVariants.{Label as PLabel}
use Rattle.gdmo_members.specs.declared.parameter.ParameterReference.TheVariants.{Template' as PTemplate}
use Rattle.gdmo_members.specs.declared.parameter.ParameterDraft.{ParameterDraft}
use Rattle.gdmo_members.specs.declared.parameter.ParameterClauses.{ParameterClauses}
use Rattle.gdmo_members.specs.declared.context.Context.{Context}
use Rattle.gdmo_members.specs.Clauses.{behaviour_clause, parameters_clause, context, clause}
use Rattle.gdmo_members.specs.Templates.{attribute_syntax, rules_clause, parameter_syntax}
use Rattle.gdmo_members.specs.Trees.{clause_tree, behaviour_list_tree, context_tree, ending_tree}

-- the clauses of matching rules and of behaviours, where they stand
abbrev pub rules_tree : Option (Vec Token Global) → Tree
rules_tree x = optional_tree (clause_tree (vector_tree Leaf)) x

abbrev pub behaviours_tree : Option (Vec BehaviourReference Global) → Tree
behaviours_tree x = optional_tree (clause_tree behaviour_list_tree) x

-- a template: its document, its label, its clauses and its end
abbrev pub template_tree : ℕ → Token → Tree → Tree → Tree
template_tree document label clauses end = Numbered document (Pair (Leaf label) (Pair Bare (Pair clauses end)))

-- an attribute's clauses, and a parameter's
abbrev pub attribute_parts : Tree → Option (Vec Token Global) → Option (Vec BehaviourReference Global) → Tree → Tree
attribute_parts syntax rules behaviour parameters =
    Pair (Present syntax) (Pair (rules_tree rules) (Pair (behaviours_tree behaviour) (Pair parameters Bare)))

abbrev pub parameter_parts : Context → Tree → Option (Vec BehaviourReference Global) → Tree
parameter_parts x syntax behaviour =
    Pair (Present (clause_tree context_tree x)) (Pair (Present syntax) (Pair (behaviours_tree behaviour) Bare))

abbrev mutual
  pub attribute_syntax_tree : AttributeSyntax → Tree
  attribute_syntax_tree (AType name) = First (clause_tree qualified_name_tree name)
  attribute_syntax_tree (Derived base) = Second (Pair Bare (Pair (attribute_reference_tree base) Bare))

  pub attribute_reference_tree : AttributeReference → Tree
  attribute_reference_tree (ALabel label) = First (label_reference_tree label)
  attribute_reference_tree (ATemplate place document label syntax rules behaviour parameters registration) =
      Second (template_tree document label
      (attribute_parts (attribute_syntax_tree syntax) rules behaviour (held_tree parameters))
      (ending_tree registration))

  pub parameter_syntax_tree : ParameterSyntax → Tree
  parameter_syntax_tree (PType name) = First (clause_tree qualified_name_tree name)
  parameter_syntax_tree (Attribute attribute) = Second (Pair Bare (Pair (attribute_reference_tree attribute) Bare))

  pub parameter_reference_tree : ParameterReference → Tree
  parameter_reference_tree (PLabel label) = First (label_reference_tree label)
  parameter_reference_tree (PTemplate place document label context syntax behaviour registration) =
      Second (template_tree document label (parameter_parts context (parameter_syntax_tree syntax) behaviour)
      (ending_tree registration))

  pub row_tree : {n : _} → Tree → Row_of-ParameterReference n → Tree
  row_tree before end_of-ParameterReference = before
  row_tree before (more_of-ParameterReference parameter others) =
      row_tree (After before (parameter_reference_tree parameter)) others

  pub held_tree : Held-AttributeTemplate-parameters → Tree
  held_tree None' = Absent
  held_tree (Some' shape row) = Present (Pair Bare (Pair (row_tree Empty row) Bare))

-- the clause of parameters, where it stands
abbrev pub parameters_tree : Option (Vec ParameterReference Global) → Tree
parameters_tree x = optional_tree (clause_tree (vector_tree parameter_reference_tree)) x

abbrev pub attribute_tree : AttributeTemplate → Tree
attribute_tree x = template_tree x.document x.label
    (attribute_parts (attribute_syntax_tree x.syntax) x.rules x.behaviour (parameters_tree x.parameters))
    (ending_tree x.registration)

abbrev pub parameter_tree : ParameterTemplate → Tree
parameter_tree x = template_tree x.document x.label
    (parameter_parts x.context (parameter_syntax_tree x.syntax) x.behaviour) (ending_tree x.registration)

abbrev pub attribute_clauses_tree : AttributeClauses → Tree
attribute_clauses_tree x =
    attribute_parts (attribute_syntax_tree x.syntax) x.rules x.behaviour (parameters_tree x.parameters)

abbrev pub parameter_clauses_tree : ParameterClauses → Tree
parameter_clauses_tree x = parameter_parts x.context (parameter_syntax_tree x.syntax) x.behaviour

-- the clauses of an attribute template, with what came so far, and the words with which they begin
abbrev pub attribute_slots : AttributeDraft → Slots
attribute_slots x = Slot true attribute_syntax (option_map attribute_syntax_tree x.syntax)
    (Slot false rules_clause (option_map (clause_tree (vector_tree Leaf)) x.rules)
    (Slot false behaviour_clause (option_map (clause_tree behaviour_list_tree) x.behaviour)
    (Slot false parameters_clause
    (option_map (clause_tree (vector_tree parameter_reference_tree)) x.parameters) NoSlots)))

abbrev pub is_attribute_clause : Token → Bool
is_attribute_clause = is_one_of
    (codes "WITH" ∷ codes "DERIVED" ∷ codes "MATCHES" ∷ codes "BEHAVIOUR" ∷ codes "PARAMETERS" ∷ [])

-- the same of a parameter template
abbrev pub parameter_slots : ParameterDraft → Slots
parameter_slots x = Slot true (clause (codes "CONTEXT" ∷ []) context) (option_map (clause_tree context_tree) x.context)
    (Slot true parameter_syntax (option_map parameter_syntax_tree x.syntax)
    (Slot false behaviour_clause (option_map (clause_tree behaviour_list_tree) x.behaviour) NoSlots))

abbrev pub is_parameter_clause : Token → Bool
is_parameter_clause = is_one_of (codes "CONTEXT" ∷ codes "WITH" ∷ codes "ATTRIBUTE" ∷ codes "BEHAVIOUR" ∷ [])
