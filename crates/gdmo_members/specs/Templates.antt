-- Templates: the forms of the nine templates of GDMO, in one table, since each may stand in line in
-- another one (X.722, sections 8.3 to 8.11; docs/PROFILE.md, section 2).
use Rattle.std.specs.Prelude.{ℕ, zero, suc, true, false, List, [], ◌∷◌, None, codes}
use Rattle.token_grammar.specs.Form.{Form, Marks, Keep, Then, Or, Maybe, Listed, AnyOrder, Named, Slots, Slot, NoSlots}
use Rattle.token_grammar.specs.Form.{Empty}
use Rattle.token_grammar.specs.TokenTests.{is_one_of, is_label, is_string, is_name}
use Rattle.token_grammar.specs.Parts.{words, qualified_name}
use Rattle.gdmo_members.specs.Clauses.{behaviours, attributes, parameters, groups, actions, notifications, packages}
use Rattle.gdmo_members.specs.Clauses.{classes, semicolon, comma, clause, flag, word_clause, reference, references}
use Rattle.gdmo_members.specs.Clauses.{reference_row, behaviour_clause, parameters_clause, ending, registered_ending}
use Rattle.gdmo_members.specs.Clauses.{context, matching_rule}

-- Behaviour (X.722, section 8.9):
--   <behaviour-definition-label> BEHAVIOUR DEFINED AS delimited-string ;
-- One semicolon ends the clause and the template.
abbrev pub behaviour_form : Form
behaviour_form = Then (Keep is_label)
    (Then (Marks (words (codes "BEHAVIOUR" ∷ codes "DEFINED" ∷ codes "AS" ∷ []))) (Then (Keep is_string) semicolon))

-- Attribute (X.722, section 8.7):
--   <attribute-label> ATTRIBUTE
--     DERIVED FROM <attribute-label> ; | WITH ATTRIBUTE SYNTAX type-reference ;
--     [MATCHES FOR qualifier [, qualifier]* ;]
--     [BEHAVIOUR <behaviour-definition-label> [, <behaviour-definition-label>]* ;]
--     [PARAMETERS <parameter-label> [, <parameter-label>]* ;]
--   [REGISTERED AS object-identifier] ;
abbrev pub attribute_syntax : Form
attribute_syntax = Or (clause (codes "WITH" ∷ codes "ATTRIBUTE" ∷ codes "SYNTAX" ∷ []) qualified_name)
    (clause (codes "DERIVED" ∷ codes "FROM" ∷ []) (reference attributes))

abbrev pub rules_clause : Form
rules_clause = clause (codes "MATCHES" ∷ codes "FOR" ∷ []) (Listed comma Empty matching_rule)

abbrev pub attribute_clauses : Slots
attribute_clauses = Slot true attribute_syntax None
    (Slot false rules_clause None (Slot false behaviour_clause None (Slot false parameters_clause None NoSlots)))

abbrev pub attribute_form : Form
attribute_form = Then (Keep is_label)
    (Then (Marks (words (codes "ATTRIBUTE" ∷ []))) (Then (AnyOrder attribute_clauses) ending))

-- Parameter (X.722, section 8.5):
--   <parameter-label> PARAMETER
--     CONTEXT context-type ;
--     WITH SYNTAX type-reference ; | ATTRIBUTE <attribute-label> ;
--     [BEHAVIOUR <behaviour-definition-label> [, <behaviour-definition-label>]* ;]
--   [REGISTERED AS object-identifier] ;
abbrev pub parameter_syntax : Form
parameter_syntax = Or (clause (codes "WITH" ∷ codes "SYNTAX" ∷ []) qualified_name)
    (clause (codes "ATTRIBUTE" ∷ []) (reference attributes))

abbrev pub parameter_clauses : Slots
parameter_clauses = Slot true (clause (codes "CONTEXT" ∷ []) context) None
    (Slot true parameter_syntax None (Slot false behaviour_clause None NoSlots))

abbrev pub parameter_form : Form
parameter_form = Then (Keep is_label)
    (Then (Marks (words (codes "PARAMETER" ∷ []))) (Then (AnyOrder parameter_clauses) ending))

-- Attribute group (X.722, section 8.8):
--   <group-label> ATTRIBUTE GROUP
--     [GROUP ELEMENTS <attribute-label> [, <attribute-label>]* ;]
--     [FIXED ;]
--     [DESCRIPTION delimited-string ;]
--   REGISTERED AS object-identifier ;
abbrev pub group_clauses : Slots
group_clauses = Slot false (clause (codes "GROUP" ∷ codes "ELEMENTS" ∷ []) (references attributes)) None
    (Slot false (word_clause (codes "FIXED")) None
    (Slot false (clause (codes "DESCRIPTION" ∷ []) (Keep is_string)) None NoSlots))

abbrev pub group_form : Form
group_form = Then (Keep is_label)
    (Then (Marks (words (codes "ATTRIBUTE" ∷ codes "GROUP" ∷ []))) (Then (AnyOrder group_clauses) registered_ending))

-- Action (X.722, section 8.10):
--   <action-label> ACTION
--     [BEHAVIOUR <behaviour-definition-label> [, <behaviour-definition-label>]* ;]
--     [MODE CONFIRMED ;]
--     [PARAMETERS <parameter-label> [, <parameter-label>]* ;]
--     [WITH INFORMATION SYNTAX type-reference ;]
--     [WITH REPLY SYNTAX type-reference ;]
--   REGISTERED AS object-identifier ;
abbrev pub reply_clause : Form
reply_clause = clause (codes "WITH" ∷ codes "REPLY" ∷ codes "SYNTAX" ∷ []) qualified_name

abbrev pub action_clauses : Slots
action_clauses = Slot false behaviour_clause None
    (Slot false (flag (codes "MODE" ∷ []) (codes "CONFIRMED")) None
    (Slot false parameters_clause None
    (Slot false (clause (codes "WITH" ∷ codes "INFORMATION" ∷ codes "SYNTAX" ∷ []) qualified_name) None
    (Slot false reply_clause None NoSlots))))

abbrev pub action_form : Form
action_form = Then (Keep is_label)
    (Then (Marks (words (codes "ACTION" ∷ []))) (Then (AnyOrder action_clauses) registered_ending))

-- Notification (X.722, section 8.11):
--   <notification-label> NOTIFICATION
--     [BEHAVIOUR <behaviour-definition-label> [, <behaviour-definition-label>]* ;]
--     [PARAMETERS <parameter-label> [, <parameter-label>]* ;]
--     [WITH INFORMATION SYNTAX type-reference
--       [AND ATTRIBUTE IDS <field-name> <attribute-label> [, <field-name> <attribute-label>]*] ;]
--     [WITH REPLY SYNTAX type-reference ;]
--   REGISTERED AS object-identifier ;
abbrev pub field : Form
field = Then (Keep is_name) (reference attributes)

abbrev pub fields : Form
fields = Then (Marks (words (codes "AND" ∷ codes "ATTRIBUTE" ∷ codes "IDS" ∷ []))) (Listed comma Empty field)

abbrev pub information_clause : Form
information_clause = clause (codes "WITH" ∷ codes "INFORMATION" ∷ codes "SYNTAX" ∷ [])
    (Then qualified_name (Maybe fields))

abbrev pub notification_clauses : Slots
notification_clauses = Slot false behaviour_clause None
    (Slot false parameters_clause None (Slot false information_clause None (Slot false reply_clause None NoSlots)))

abbrev pub notification_form : Form
notification_form = Then (Keep is_label)
    (Then (Marks (words (codes "NOTIFICATION" ∷ []))) (Then (AnyOrder notification_clauses) registered_ending))

-- Package (X.722, section 8.4):
--   <package-label> PACKAGE
--     [BEHAVIOUR <behaviour-definition-label> [, <behaviour-definition-label>]* ;]
--     [ATTRIBUTES <attribute-label> propertylist [<parameter-label>]*
--       [, <attribute-label> propertylist [<parameter-label>]*]* ;]
--     [ATTRIBUTE GROUPS <group-label> [<attribute-label>]* [, <group-label> [<attribute-label>]*]* ;]
--     [ACTIONS <action-label> [<parameter-label>]* [, <action-label> [<parameter-label>]*]* ;]
--     [NOTIFICATIONS <notification-label> [<parameter-label>]* [, <notification-label> [<parameter-label>]*]* ;]
--   [REGISTERED AS object-identifier] ;
-- A value is `Module.value`, or a derivation rule.
abbrev pub property_value : Form
property_value = Or qualified_name
    (Then (Marks (words (codes "DERIVATION" ∷ codes "RULE" ∷ []))) (reference behaviours))

abbrev pub valued : List (List ℕ) → Form → Form
valued texts f = Then (Marks (words texts)) f

-- the properties of an attribute, in any order
abbrev pub property_slots : Slots
property_slots = Slot false (Keep (is_one_of (codes "REPLACE-WITH-DEFAULT" ∷ []))) None
    (Slot false (valued (codes "DEFAULT" ∷ codes "VALUE" ∷ []) property_value) None
    (Slot false (valued (codes "INITIAL" ∷ codes "VALUE" ∷ []) property_value) None
    (Slot false (valued (codes "PERMITTED" ∷ codes "VALUES" ∷ []) qualified_name) None
    (Slot false (valued (codes "REQUIRED" ∷ codes "VALUES" ∷ []) qualified_name) None
    (Slot false (Keep (is_one_of (codes "GET" ∷ codes "REPLACE" ∷ codes "GET-REPLACE" ∷ []))) None
    (Slot false (Keep (is_one_of (codes "ADD" ∷ codes "REMOVE" ∷ codes "ADD-REMOVE" ∷ []))) None NoSlots))))))

abbrev pub attribute_use : Form
attribute_use = Then (reference attributes) (Then (AnyOrder property_slots) (reference_row parameters))

-- a template's use with the templates behind it
abbrev pub member_use : ℕ → ℕ → Form
member_use n others = Then (reference n) (reference_row others)

abbrev pub package_clauses : Slots
package_clauses = Slot false behaviour_clause None
    (Slot false (clause (codes "ATTRIBUTES" ∷ []) (Listed comma Empty attribute_use)) None
    (Slot false (clause (codes "ATTRIBUTE" ∷ codes "GROUPS" ∷ [])
    (Listed comma Empty (member_use groups attributes))) None
    (Slot false (clause (codes "ACTIONS" ∷ []) (Listed comma Empty (member_use actions parameters))) None
    (Slot false (clause (codes "NOTIFICATIONS" ∷ []) (Listed comma Empty (member_use notifications parameters)))
    None NoSlots))))

abbrev pub package_form : Form
package_form = Then (Keep is_label)
    (Then (Marks (words (codes "PACKAGE" ∷ []))) (Then (AnyOrder package_clauses) ending))

-- Managed object class (X.722, section 8.3):
--   <class-label> MANAGED OBJECT CLASS
--     [DERIVED FROM <class-label> [, <class-label>]* ;]
--     [CHARACTERIZED BY <package-label> [, <package-label>]* ;]
--     [CONDITIONAL PACKAGES <package-label> PRESENT IF condition-definition
--       [, <package-label> PRESENT IF condition-definition]* ;]
--   REGISTERED AS object-identifier ;
abbrev pub conditional_package : Form
conditional_package = Then (reference packages)
    (Then (Marks (words (codes "PRESENT" ∷ codes "IF" ∷ []))) (Keep is_string))

abbrev pub class_clauses : Slots
class_clauses = Slot false (clause (codes "DERIVED" ∷ codes "FROM" ∷ []) (references classes)) None
    (Slot false (clause (codes "CHARACTERIZED" ∷ codes "BY" ∷ []) (references packages)) None
    (Slot false (clause (codes "CONDITIONAL" ∷ codes "PACKAGES" ∷ []) (Listed comma Empty conditional_package))
    None NoSlots))

abbrev pub class_form : Form
class_form = Then (Keep is_label)
    (Then (Marks (words (codes "MANAGED" ∷ codes "OBJECT" ∷ codes "CLASS" ∷ [])))
    (Then (AnyOrder class_clauses) registered_ending))

-- Name binding (X.722, section 8.6):
--   <name-binding-label> NAME BINDING
--     SUBORDINATE OBJECT CLASS <class-label> [AND SUBCLASSES] ;
--     NAMED BY SUPERIOR OBJECT CLASS <class-label> [AND SUBCLASSES] ;
--     WITH ATTRIBUTE <attribute-label> ;
--     [BEHAVIOUR <behaviour-definition-label> [, <behaviour-definition-label>]* ;]
--     [CREATE [create-modifier [, create-modifier]] [<parameter-label>]* ;]
--     [DELETE [delete-modifier] [<parameter-label>]* ;]
--   REGISTERED AS object-identifier ;
abbrev pub class_with_subclasses : Form
class_with_subclasses = Then (reference classes)
    (Maybe (Then (Marks (words (codes "AND" ∷ []))) (Keep (is_one_of (codes "SUBCLASSES" ∷ [])))))

-- a create modifier, and then the other one, with a comma between them or none
abbrev pub modifier_before : List ℕ → List ℕ → Form
modifier_before one other =
    Then (Keep (is_one_of (one ∷ []))) (Maybe (Then (Maybe (Keep comma)) (Keep (is_one_of (other ∷ [])))))

abbrev pub create_modifiers : Form
create_modifiers = Or (modifier_before (codes "WITH-REFERENCE-OBJECT") (codes "WITH-AUTOMATIC-INSTANCE-NAMING"))
    (modifier_before (codes "WITH-AUTOMATIC-INSTANCE-NAMING") (codes "WITH-REFERENCE-OBJECT"))

abbrev pub delete_modifier : Form
delete_modifier = Keep (is_one_of (codes "ONLY-IF-NO-CONTAINED-OBJECTS" ∷ codes "DELETES-CONTAINED-OBJECTS" ∷ []))

abbrev pub name_binding_clauses : Slots
name_binding_clauses = Slot true
    (clause (codes "SUBORDINATE" ∷ codes "OBJECT" ∷ codes "CLASS" ∷ []) class_with_subclasses) None
    (Slot true (clause (codes "NAMED" ∷ codes "BY" ∷ codes "SUPERIOR" ∷ codes "OBJECT" ∷ codes "CLASS" ∷ [])
    class_with_subclasses) None
    (Slot true (clause (codes "WITH" ∷ codes "ATTRIBUTE" ∷ []) (reference attributes)) None
    (Slot false behaviour_clause None
    (Slot false (clause (codes "CREATE" ∷ []) (Then (Maybe create_modifiers) (reference_row parameters))) None
    (Slot false (clause (codes "DELETE" ∷ []) (Then (Maybe delete_modifier) (reference_row parameters)))
    None NoSlots)))))

abbrev pub name_binding_form : Form
name_binding_form = Then (Keep is_label)
    (Then (Marks (words (codes "NAME" ∷ codes "BINDING" ∷ [])))
    (Then (AnyOrder name_binding_clauses) registered_ending))

-- the form of each template; no token begins a form of another number
abbrev pub templates : ℕ → Form
templates zero = behaviour_form
templates (suc zero) = attribute_form
templates (suc (suc zero)) = parameter_form
templates (suc (suc (suc zero))) = group_form
templates (suc (suc (suc (suc zero)))) = action_form
templates (suc (suc (suc (suc (suc zero))))) = notification_form
templates (suc (suc (suc (suc (suc (suc zero)))))) = package_form
templates (suc (suc (suc (suc (suc (suc (suc zero))))))) = class_form
templates (suc (suc (suc (suc (suc (suc (suc (suc zero)))))))) = name_binding_form
templates (suc (suc (suc (suc (suc (suc (suc (suc (suc n))))))))) = Keep (λ token. false)

-- a template of a package's member
abbrev pub member : Form
member = Or (Named behaviours)
    (Or (Named attributes) (Or (Named parameters) (Or (Named groups) (Or (Named actions) (Named notifications)))))
