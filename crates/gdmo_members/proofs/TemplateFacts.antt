-- Examples of the six templates that a package's members have, computed: X.722, sections 8.5 and 8.7 to 8.11. The texts
-- are after templates of X.721, shortened; the action is this project's own.
use Rattle.std.proofs.Common.{ℕ, List, [], ◌∷◌, refl, codes}
use Rattle.token_grammar.specs.declared.token.Token.{Token}
use Rattle.token_grammar.specs.Kinds.{word_kind, number_kind, string_kind, sign_kind}
use Rattle.token_grammar.specs.Form.{Named, Bare, Leaf, Pair, First, Second, Absent, Present, Empty, After, Numbered}
use Rattle.token_grammar.specs.Spelling.{Spells, no_marks, marks, keep, both, first, second, absent, present, last}
use Rattle.token_grammar.specs.Spelling.{more, no_more, another, enough, clause, named}
use Rattle.token_grammar.proofs.Known.{token_of}
use Rattle.gdmo_members.specs.Clauses.{behaviours, attributes, parameters, groups, actions, notifications}
use Rattle.gdmo_members.specs.Templates.{templates}

abbrev word_at : ℕ → List ℕ → Token
word_at at text = token_of word_kind at text

abbrev number_at : ℕ → List ℕ → Token
number_at at text = token_of number_kind at text

abbrev string_at : ℕ → List ℕ → Token
string_at at text = token_of string_kind at text

abbrev sign_at : ℕ → List ℕ → Token
sign_at at text = token_of sign_kind at text

-- topBehaviour BEHAVIOUR DEFINED AS "..";
-- its label and its text
abbrev behaviour_tokens : List Token
behaviour_tokens =
    word_at 0 (codes "topBehaviour") ∷ word_at 13 (codes "BEHAVIOUR") ∷ word_at 23 (codes "DEFINED") ∷
    word_at 31 (codes "AS") ∷ string_at 34 (codes "\"This is the top level of managed object class hierarchy.\"") ∷
    sign_at 92 (codes ";") ∷ []

behaviour_example : Spells behaviour_tokens templates (Named behaviours) 0 6
    (Numbered 0 (Pair (Leaf (word_at 0 (codes "topBehaviour"))) (Pair Bare (Pair (Leaf
    (string_at 34 (codes "\"This is the top level of managed object class hierarchy.\""))) Bare))))
behaviour_example =
    named (both (keep refl refl refl) (both (marks (record { passed = refl }) (marks (record { passed = refl }) (marks
    (record { passed = refl }) no_marks))) (both (keep refl refl refl) (marks (record { passed = refl }) no_marks))))

-- administrativeState ATTRIBUTE WITH ATTRIBUTE SYNTAX Attribute-ASN1Module.AdministrativeState;
-- MATCHES FOR EQUALITY; BEHAVIOUR administrativeStateBehaviour; REGISTERED AS {smi2AttributeID 31};
-- its label, its syntax, its rule, its behaviour, no parameters, and its identifier
abbrev attribute_tokens : List Token
attribute_tokens =
    word_at 0 (codes "administrativeState") ∷ word_at 20 (codes "ATTRIBUTE") ∷ word_at 30 (codes "WITH") ∷
    word_at 35 (codes "ATTRIBUTE") ∷ word_at 45 (codes "SYNTAX") ∷ word_at 52 (codes "Attribute-ASN1Module") ∷
    sign_at 72 (codes ".") ∷ word_at 73 (codes "AdministrativeState") ∷ sign_at 92 (codes ";") ∷
    word_at 94 (codes "MATCHES") ∷ word_at 102 (codes "FOR") ∷ word_at 106 (codes "EQUALITY") ∷
    sign_at 114 (codes ";") ∷ word_at 116 (codes "BEHAVIOUR") ∷ word_at 126 (codes "administrativeStateBehaviour") ∷
    sign_at 154 (codes ";") ∷ word_at 156 (codes "REGISTERED") ∷ word_at 167 (codes "AS") ∷ sign_at 170 (codes "{") ∷
    word_at 171 (codes "smi2AttributeID") ∷ number_at 187 (codes "31") ∷ sign_at 189 (codes "}") ∷
    sign_at 190 (codes ";") ∷ []

attribute_example : Spells attribute_tokens templates (Named attributes) 0 23
    (Numbered 0 (Pair (Leaf (word_at 0 (codes "administrativeState"))) (Pair Bare (Pair (Pair (Present (First (Pair
    Bare (Pair (Pair (Leaf (word_at 52 (codes "Attribute-ASN1Module"))) (Pair Bare (Leaf
    (word_at 73 (codes "AdministrativeState"))))) Bare)))) (Pair (Present (Pair Bare (Pair (After Empty (Leaf
    (word_at 106 (codes "EQUALITY")))) Bare))) (Pair (Present (Pair Bare (Pair (After Empty (First (Pair Absent (Leaf
    (word_at 126 (codes "administrativeStateBehaviour")))))) Bare))) (Pair Absent Bare)))) (Pair (Present (Pair Bare
    (Pair (Leaf (sign_at 170 (codes "{"))) (Pair (Second (Leaf (word_at 171 (codes "smi2AttributeID")))) (Pair (After
    Empty (First (Leaf (number_at 187 (codes "31"))))) Bare))))) Bare)))))
attribute_example =
    named (both (keep refl refl refl) (both (marks (record { passed = refl }) no_marks) (both (clause 0 refl (first
    (both (marks (record { passed = refl }) (marks (record { passed = refl }) (marks (record { passed = refl })
    no_marks))) (both (both (keep refl refl refl) (both (marks (record { passed = refl }) no_marks)
    (keep refl refl refl))) (marks (record { passed = refl }) no_marks)))) (clause 1 refl (both (marks
    (record { passed = refl }) (marks (record { passed = refl }) no_marks)) (both (last (keep refl refl refl)) (marks
    (record { passed = refl }) no_marks))) (clause 2 refl (both (marks (record { passed = refl }) no_marks) (both
    (last (first (both absent (keep refl refl refl)))) (marks (record { passed = refl }) no_marks))) (enough refl
    refl)))) (both (present (both (marks (record { passed = refl }) (marks (record { passed = refl }) no_marks)) (both
    (keep refl refl refl) (both (second (keep refl refl refl)) (both (another (first (keep refl refl refl)) no_more)
    (marks (record { passed = refl }) no_marks)))))) (marks (record { passed = refl }) no_marks)))))

-- miscellaneousError PARAMETER CONTEXT SPECIFIC-ERROR; WITH SYNTAX Parameter-ASN1Module.MiscellaneousError;
-- BEHAVIOUR miscellaneousErrorBehaviour; REGISTERED AS {smi2Parameter 1};
-- its label, its context of one word, its syntax, its behaviour, and its identifier
abbrev parameter_tokens : List Token
parameter_tokens =
    word_at 0 (codes "miscellaneousError") ∷ word_at 19 (codes "PARAMETER") ∷ word_at 29 (codes "CONTEXT") ∷
    word_at 37 (codes "SPECIFIC-ERROR") ∷ sign_at 51 (codes ";") ∷ word_at 53 (codes "WITH") ∷
    word_at 58 (codes "SYNTAX") ∷ word_at 65 (codes "Parameter-ASN1Module") ∷ sign_at 85 (codes ".") ∷
    word_at 86 (codes "MiscellaneousError") ∷ sign_at 104 (codes ";") ∷ word_at 106 (codes "BEHAVIOUR") ∷
    word_at 116 (codes "miscellaneousErrorBehaviour") ∷ sign_at 143 (codes ";") ∷ word_at 145 (codes "REGISTERED") ∷
    word_at 156 (codes "AS") ∷ sign_at 159 (codes "{") ∷ word_at 160 (codes "smi2Parameter") ∷
    number_at 174 (codes "1") ∷ sign_at 175 (codes "}") ∷ sign_at 176 (codes ";") ∷ []

parameter_example : Spells parameter_tokens templates (Named parameters) 0 21
    (Numbered 0 (Pair (Leaf (word_at 0 (codes "miscellaneousError"))) (Pair Bare (Pair (Pair (Present (Pair Bare (Pair
    (Pair (Leaf (word_at 37 (codes "SPECIFIC-ERROR"))) Empty) Bare))) (Pair (Present (First (Pair Bare (Pair (Pair
    (Leaf (word_at 65 (codes "Parameter-ASN1Module"))) (Pair Bare (Leaf (word_at 86 (codes "MiscellaneousError")))))
    Bare)))) (Pair (Present (Pair Bare (Pair (After Empty (First (Pair Absent (Leaf
    (word_at 116 (codes "miscellaneousErrorBehaviour")))))) Bare))) Bare))) (Pair (Present (Pair Bare (Pair (Leaf
    (sign_at 159 (codes "{"))) (Pair (Second (Leaf (word_at 160 (codes "smi2Parameter")))) (Pair (After Empty (First
    (Leaf (number_at 174 (codes "1"))))) Bare))))) Bare)))))
parameter_example =
    named (both (keep refl refl refl) (both (marks (record { passed = refl }) no_marks) (both (clause 0 refl (both
    (marks (record { passed = refl }) no_marks) (both (both (keep refl refl refl) no_more) (marks
    (record { passed = refl }) no_marks))) (clause 1 refl (first (both (marks (record { passed = refl }) (marks
    (record { passed = refl }) no_marks)) (both (both (keep refl refl refl) (both (marks (record { passed = refl })
    no_marks) (keep refl refl refl))) (marks (record { passed = refl }) no_marks)))) (clause 2 refl (both (marks
    (record { passed = refl }) no_marks) (both (last (first (both absent (keep refl refl refl)))) (marks
    (record { passed = refl }) no_marks))) (enough refl refl)))) (both (present (both (marks
    (record { passed = refl }) (marks (record { passed = refl }) no_marks)) (both (keep refl refl refl) (both (second
    (keep refl refl refl)) (both (another (first (keep refl refl refl)) no_more) (marks (record { passed = refl })
    no_marks)))))) (marks (record { passed = refl }) no_marks)))))

-- state ATTRIBUTE GROUP GROUP ELEMENTS administrativeState, operationalState; REGISTERED AS {smi2AttributeGroup 1};
-- its label, two elements, neither FIXED nor a description, and its identifier
abbrev group_tokens : List Token
group_tokens =
    word_at 0 (codes "state") ∷ word_at 6 (codes "ATTRIBUTE") ∷ word_at 16 (codes "GROUP") ∷
    word_at 22 (codes "GROUP") ∷ word_at 28 (codes "ELEMENTS") ∷ word_at 37 (codes "administrativeState") ∷
    sign_at 56 (codes ",") ∷ word_at 58 (codes "operationalState") ∷ sign_at 74 (codes ";") ∷
    word_at 76 (codes "REGISTERED") ∷ word_at 87 (codes "AS") ∷ sign_at 90 (codes "{") ∷
    word_at 91 (codes "smi2AttributeGroup") ∷ number_at 110 (codes "1") ∷ sign_at 111 (codes "}") ∷
    sign_at 112 (codes ";") ∷ []

group_example : Spells group_tokens templates (Named groups) 0 16
    (Numbered 0 (Pair (Leaf (word_at 0 (codes "state"))) (Pair Bare (Pair (Pair (Present (Pair Bare (Pair (After
    (After Empty (First (Pair Absent (Leaf (word_at 37 (codes "administrativeState")))))) (First (Pair Absent (Leaf
    (word_at 58 (codes "operationalState")))))) Bare))) (Pair Absent (Pair Absent Bare))) (Pair (Pair Bare (Pair (Leaf
    (sign_at 90 (codes "{"))) (Pair (Second (Leaf (word_at 91 (codes "smi2AttributeGroup")))) (Pair (After Empty
    (First (Leaf (number_at 110 (codes "1"))))) Bare)))) Bare)))))
group_example =
    named (both (keep refl refl refl) (both (marks (record { passed = refl }) (marks (record { passed = refl })
    no_marks)) (both (clause 0 refl (both (marks (record { passed = refl }) (marks (record { passed = refl })
    no_marks)) (both (more (first (both absent (keep refl refl refl))) (record { passed = refl }) (last (first (both
    absent (keep refl refl refl))))) (marks (record { passed = refl }) no_marks))) (enough refl refl)) (both (both
    (marks (record { passed = refl }) (marks (record { passed = refl }) no_marks)) (both (keep refl refl refl) (both
    (second (keep refl refl refl)) (both (another (first (keep refl refl refl)) no_more) (marks
    (record { passed = refl }) no_marks))))) (marks (record { passed = refl }) no_marks)))))

-- reset ACTION BEHAVIOUR resetBehaviour; MODE CONFIRMED; WITH REPLY SYNTAX Net.Id; REGISTERED AS {2 999 9 1};
-- its label, its behaviour, that it is confirmed, its reply, and its identifier
abbrev action_tokens : List Token
action_tokens =
    word_at 0 (codes "reset") ∷ word_at 6 (codes "ACTION") ∷ word_at 13 (codes "BEHAVIOUR") ∷
    word_at 23 (codes "resetBehaviour") ∷ sign_at 37 (codes ";") ∷ word_at 39 (codes "MODE") ∷
    word_at 44 (codes "CONFIRMED") ∷ sign_at 53 (codes ";") ∷ word_at 55 (codes "WITH") ∷ word_at 60 (codes "REPLY") ∷
    word_at 66 (codes "SYNTAX") ∷ word_at 73 (codes "Net") ∷ sign_at 76 (codes ".") ∷ word_at 77 (codes "Id") ∷
    sign_at 79 (codes ";") ∷ word_at 81 (codes "REGISTERED") ∷ word_at 92 (codes "AS") ∷ sign_at 95 (codes "{") ∷
    number_at 96 (codes "2") ∷ number_at 98 (codes "999") ∷ number_at 102 (codes "9") ∷ number_at 104 (codes "1") ∷
    sign_at 105 (codes "}") ∷ sign_at 106 (codes ";") ∷ []

action_example : Spells action_tokens templates (Named actions) 0 24
    (Numbered 0 (Pair (Leaf (word_at 0 (codes "reset"))) (Pair Bare (Pair (Pair (Present (Pair Bare (Pair (After Empty
    (First (Pair Absent (Leaf (word_at 23 (codes "resetBehaviour")))))) Bare))) (Pair (Present (Pair Bare (Pair (Leaf
    (word_at 44 (codes "CONFIRMED"))) Bare))) (Pair Absent (Pair Absent (Pair (Present (Pair Bare (Pair (Pair (Leaf
    (word_at 73 (codes "Net"))) (Pair Bare (Leaf (word_at 77 (codes "Id"))))) Bare))) Bare))))) (Pair (Pair Bare (Pair
    (Leaf (sign_at 95 (codes "{"))) (Pair (First (First (Leaf (number_at 96 (codes "2"))))) (Pair (After (After (After
    Empty (First (Leaf (number_at 98 (codes "999"))))) (First (Leaf (number_at 102 (codes "9"))))) (First (Leaf
    (number_at 104 (codes "1"))))) Bare)))) Bare)))))
action_example =
    named (both (keep refl refl refl) (both (marks (record { passed = refl }) no_marks) (both (clause 0 refl (both
    (marks (record { passed = refl }) no_marks) (both (last (first (both absent (keep refl refl refl)))) (marks
    (record { passed = refl }) no_marks))) (clause 1 refl (both (marks (record { passed = refl }) no_marks) (both
    (keep refl refl refl) (marks (record { passed = refl }) no_marks))) (clause 4 refl (both (marks
    (record { passed = refl }) (marks (record { passed = refl }) (marks (record { passed = refl }) no_marks))) (both
    (both (keep refl refl refl) (both (marks (record { passed = refl }) no_marks) (keep refl refl refl))) (marks
    (record { passed = refl }) no_marks))) (enough refl refl)))) (both (both (marks (record { passed = refl }) (marks
    (record { passed = refl }) no_marks)) (both (keep refl refl refl) (both (first (first (keep refl refl refl)))
    (both (another (first (keep refl refl refl)) (another (first (keep refl refl refl)) (another (first
    (keep refl refl refl)) no_more))) (marks (record { passed = refl }) no_marks))))) (marks
    (record { passed = refl }) no_marks)))))

-- objectCreation NOTIFICATION BEHAVIOUR objectCreationBehaviour;
-- WITH INFORMATION SYNTAX Notification-ASN1Module.ObjectInfo AND ATTRIBUTE IDS sourceIndicator sourceIndicator,
-- attributeList attributeList; REGISTERED AS {smi2Notification 6};
-- its label, its behaviour, its information with two components that are attributes, no reply, and its identifier
abbrev notification_tokens : List Token
notification_tokens =
    word_at 0 (codes "objectCreation") ∷ word_at 15 (codes "NOTIFICATION") ∷ word_at 28 (codes "BEHAVIOUR") ∷
    word_at 38 (codes "objectCreationBehaviour") ∷ sign_at 61 (codes ";") ∷ word_at 63 (codes "WITH") ∷
    word_at 68 (codes "INFORMATION") ∷ word_at 80 (codes "SYNTAX") ∷ word_at 87 (codes "Notification-ASN1Module") ∷
    sign_at 110 (codes ".") ∷ word_at 111 (codes "ObjectInfo") ∷ word_at 122 (codes "AND") ∷
    word_at 126 (codes "ATTRIBUTE") ∷ word_at 136 (codes "IDS") ∷ word_at 140 (codes "sourceIndicator") ∷
    word_at 156 (codes "sourceIndicator") ∷ sign_at 171 (codes ",") ∷ word_at 173 (codes "attributeList") ∷
    word_at 187 (codes "attributeList") ∷ sign_at 200 (codes ";") ∷ word_at 202 (codes "REGISTERED") ∷
    word_at 213 (codes "AS") ∷ sign_at 216 (codes "{") ∷ word_at 217 (codes "smi2Notification") ∷
    number_at 234 (codes "6") ∷ sign_at 235 (codes "}") ∷ sign_at 236 (codes ";") ∷ []

notification_example : Spells notification_tokens templates (Named notifications) 0 27
    (Numbered 0 (Pair (Leaf (word_at 0 (codes "objectCreation"))) (Pair Bare (Pair (Pair (Present (Pair Bare (Pair
    (After Empty (First (Pair Absent (Leaf (word_at 38 (codes "objectCreationBehaviour")))))) Bare))) (Pair Absent
    (Pair (Present (Pair Bare (Pair (Pair (Pair (Leaf (word_at 87 (codes "Notification-ASN1Module"))) (Pair Bare (Leaf
    (word_at 111 (codes "ObjectInfo"))))) (Present (Pair Bare (After (After Empty (Pair (Leaf
    (word_at 140 (codes "sourceIndicator"))) (First (Pair Absent (Leaf (word_at 156 (codes "sourceIndicator")))))))
    (Pair (Leaf (word_at 173 (codes "attributeList"))) (First (Pair Absent (Leaf
    (word_at 187 (codes "attributeList")))))))))) Bare))) (Pair Absent Bare)))) (Pair (Pair Bare (Pair (Leaf
    (sign_at 216 (codes "{"))) (Pair (Second (Leaf (word_at 217 (codes "smi2Notification")))) (Pair (After Empty
    (First (Leaf (number_at 234 (codes "6"))))) Bare)))) Bare)))))
notification_example =
    named (both (keep refl refl refl) (both (marks (record { passed = refl }) no_marks) (both (clause 0 refl (both
    (marks (record { passed = refl }) no_marks) (both (last (first (both absent (keep refl refl refl)))) (marks
    (record { passed = refl }) no_marks))) (clause 2 refl (both (marks (record { passed = refl }) (marks
    (record { passed = refl }) (marks (record { passed = refl }) no_marks))) (both (both (both (keep refl refl refl)
    (both (marks (record { passed = refl }) no_marks) (keep refl refl refl))) (present (both (marks
    (record { passed = refl }) (marks (record { passed = refl }) (marks (record { passed = refl }) no_marks))) (more
    (both (keep refl refl refl) (first (both absent (keep refl refl refl)))) (record { passed = refl }) (last (both
    (keep refl refl refl) (first (both absent (keep refl refl refl))))))))) (marks (record { passed = refl })
    no_marks))) (enough refl refl))) (both (both (marks (record { passed = refl }) (marks (record { passed = refl })
    no_marks)) (both (keep refl refl refl) (both (second (keep refl refl refl)) (both (another (first
    (keep refl refl refl)) no_more) (marks (record { passed = refl }) no_marks))))) (marks (record { passed = refl })
    no_marks)))))
