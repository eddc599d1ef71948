-- Examples of the three templates that hold others, computed: X.722, sections 8.3, 8.4 and 8.6. The texts are after
-- templates of X.721, shortened.
use Rattle.std.proofs.Common.{ℕ, List, [], ◌∷◌, refl, codes}
use Rattle.token_grammar.specs.declared.token.Token.{Token}
use Rattle.token_grammar.specs.Kinds.{word_kind, number_kind, string_kind, sign_kind}
use Rattle.token_grammar.specs.Form.{Named, Bare, Leaf, Pair, First, Second, Absent, Present, Empty, After, Numbered}
use Rattle.token_grammar.specs.Spelling.{Spells, no_marks, marks, keep, both, first, second, absent, present, last}
use Rattle.token_grammar.specs.Spelling.{more, no_more, another, enough, clause, named}
use Rattle.token_grammar.proofs.Known.{token_of}
use Rattle.gdmo_members.specs.Clauses.{packages, classes, name_bindings}
use Rattle.gdmo_members.specs.Templates.{templates}

abbrev word_at : ℕ → List ℕ → Token
word_at at text = token_of word_kind at text

abbrev number_at : ℕ → List ℕ → Token
number_at at text = token_of number_kind at text

abbrev string_at : ℕ → List ℕ → Token
string_at at text = token_of string_kind at text

abbrev sign_at : ℕ → List ℕ → Token
sign_at at text = token_of sign_kind at text

-- topPackage PACKAGE BEHAVIOUR topBehaviour; ATTRIBUTES objectClass GET, nameBinding GET;;
-- its label, its behaviour, two attributes that can be read, and no identifier
abbrev package_tokens : List Token
package_tokens =
    word_at 0 (codes "topPackage") ∷ word_at 11 (codes "PACKAGE") ∷ word_at 19 (codes "BEHAVIOUR") ∷
    word_at 29 (codes "topBehaviour") ∷ sign_at 41 (codes ";") ∷ word_at 43 (codes "ATTRIBUTES") ∷
    word_at 54 (codes "objectClass") ∷ word_at 66 (codes "GET") ∷ sign_at 69 (codes ",") ∷
    word_at 71 (codes "nameBinding") ∷ word_at 83 (codes "GET") ∷ sign_at 86 (codes ";") ∷ sign_at 87 (codes ";") ∷ []

package_example : Spells package_tokens templates (Named packages) 0 13
    (Numbered 0 (Pair (Leaf (word_at 0 (codes "topPackage"))) (Pair Bare (Pair (Pair (Present (Pair Bare (Pair (After
    Empty (First (Pair Absent (Leaf (word_at 29 (codes "topBehaviour")))))) Bare))) (Pair (Present (Pair Bare (Pair
    (After (After Empty (Pair (First (Pair Absent (Leaf (word_at 54 (codes "objectClass"))))) (Pair (Pair Absent (Pair
    Absent (Pair Absent (Pair Absent (Pair Absent (Pair (Present (Leaf (word_at 66 (codes "GET")))) (Pair Absent
    Bare))))))) Empty))) (Pair (First (Pair Absent (Leaf (word_at 71 (codes "nameBinding"))))) (Pair (Pair Absent
    (Pair Absent (Pair Absent (Pair Absent (Pair Absent (Pair (Present (Leaf (word_at 83 (codes "GET")))) (Pair Absent
    Bare))))))) Empty))) Bare))) (Pair Absent (Pair Absent (Pair Absent Bare))))) (Pair Absent Bare)))))
package_example =
    named (both (keep refl refl refl) (both (marks (record { passed = refl }) no_marks) (both (clause 0 refl (both
    (marks (record { passed = refl }) no_marks) (both (last (first (both absent (keep refl refl refl)))) (marks
    (record { passed = refl }) no_marks))) (clause 1 refl (both (marks (record { passed = refl }) no_marks) (both
    (more (both (first (both absent (keep refl refl refl))) (both (clause 5 refl (keep refl refl refl) (enough refl
    refl)) no_more)) (record { passed = refl }) (last (both (first (both absent (keep refl refl refl))) (both (clause
    5 refl (keep refl refl refl) (enough refl refl)) no_more)))) (marks (record { passed = refl }) no_marks))) (enough
    refl refl))) (both absent (marks (record { passed = refl }) no_marks)))))

-- top MANAGED OBJECT CLASS CHARACTERIZED BY topPackage;
-- CONDITIONAL PACKAGES allomorphicPackage PRESENT IF ".."; REGISTERED AS {smi2MObjectClass 14};
-- its label, no superclass, a mandatory and a conditional package, and its identifier
abbrev class_tokens : List Token
class_tokens =
    word_at 0 (codes "top") ∷ word_at 4 (codes "MANAGED") ∷ word_at 12 (codes "OBJECT") ∷ word_at 19 (codes "CLASS") ∷
    word_at 25 (codes "CHARACTERIZED") ∷ word_at 39 (codes "BY") ∷ word_at 42 (codes "topPackage") ∷
    sign_at 52 (codes ";") ∷ word_at 54 (codes "CONDITIONAL") ∷ word_at 66 (codes "PACKAGES") ∷
    word_at 75 (codes "allomorphicPackage") ∷ word_at 94 (codes "PRESENT") ∷ word_at 102 (codes "IF") ∷
    string_at 105 (codes "\"if an object supports allomorphism\"") ∷ sign_at 141 (codes ";") ∷
    word_at 143 (codes "REGISTERED") ∷ word_at 154 (codes "AS") ∷ sign_at 157 (codes "{") ∷
    word_at 158 (codes "smi2MObjectClass") ∷ number_at 175 (codes "14") ∷ sign_at 177 (codes "}") ∷
    sign_at 178 (codes ";") ∷ []

class_example : Spells class_tokens templates (Named classes) 0 22
    (Numbered 0 (Pair (Leaf (word_at 0 (codes "top"))) (Pair Bare (Pair (Pair Absent (Pair (Present (Pair Bare (Pair
    (After Empty (First (Pair Absent (Leaf (word_at 42 (codes "topPackage")))))) Bare))) (Pair (Present (Pair Bare
    (Pair (After Empty (Pair (First (Pair Absent (Leaf (word_at 75 (codes "allomorphicPackage"))))) (Pair Bare (Leaf
    (string_at 105 (codes "\"if an object supports allomorphism\"")))))) Bare))) Bare))) (Pair (Pair Bare (Pair (Leaf
    (sign_at 157 (codes "{"))) (Pair (Second (Leaf (word_at 158 (codes "smi2MObjectClass")))) (Pair (After Empty
    (First (Leaf (number_at 175 (codes "14"))))) Bare)))) Bare)))))
class_example =
    named (both (keep refl refl refl) (both (marks (record { passed = refl }) (marks (record { passed = refl }) (marks
    (record { passed = refl }) no_marks))) (both (clause 1 refl (both (marks (record { passed = refl }) (marks
    (record { passed = refl }) no_marks)) (both (last (first (both absent (keep refl refl refl)))) (marks
    (record { passed = refl }) no_marks))) (clause 2 refl (both (marks (record { passed = refl }) (marks
    (record { passed = refl }) no_marks)) (both (last (both (first (both absent (keep refl refl refl))) (both (marks
    (record { passed = refl }) (marks (record { passed = refl }) no_marks)) (keep refl refl refl)))) (marks
    (record { passed = refl }) no_marks))) (enough refl refl))) (both (both (marks (record { passed = refl }) (marks
    (record { passed = refl }) no_marks)) (both (keep refl refl refl) (both (second (keep refl refl refl)) (both
    (another (first (keep refl refl refl)) no_more) (marks (record { passed = refl }) no_marks))))) (marks
    (record { passed = refl }) no_marks)))))

-- logRecord-log NAME BINDING SUBORDINATE OBJECT CLASS logRecord AND SUBCLASSES;
-- NAMED BY SUPERIOR OBJECT CLASS log AND SUBCLASSES; WITH ATTRIBUTE logRecordId;
-- DELETE ONLY-IF-NO-CONTAINED-OBJECTS; REGISTERED AS {smi2NameBinding 3};
-- its label, its two classes and their subclasses, its attribute, no behaviour, no creation, its deletion, and its
-- identifier
abbrev binding_tokens : List Token
binding_tokens =
    word_at 0 (codes "logRecord-log") ∷ word_at 14 (codes "NAME") ∷ word_at 19 (codes "BINDING") ∷
    word_at 27 (codes "SUBORDINATE") ∷ word_at 39 (codes "OBJECT") ∷ word_at 46 (codes "CLASS") ∷
    word_at 52 (codes "logRecord") ∷ word_at 62 (codes "AND") ∷ word_at 66 (codes "SUBCLASSES") ∷
    sign_at 76 (codes ";") ∷ word_at 78 (codes "NAMED") ∷ word_at 84 (codes "BY") ∷ word_at 87 (codes "SUPERIOR") ∷
    word_at 96 (codes "OBJECT") ∷ word_at 103 (codes "CLASS") ∷ word_at 109 (codes "log") ∷ word_at 113 (codes "AND")
    ∷ word_at 117 (codes "SUBCLASSES") ∷ sign_at 127 (codes ";") ∷ word_at 129 (codes "WITH") ∷
    word_at 134 (codes "ATTRIBUTE") ∷ word_at 144 (codes "logRecordId") ∷ sign_at 155 (codes ";") ∷
    word_at 157 (codes "DELETE") ∷ word_at 164 (codes "ONLY-IF-NO-CONTAINED-OBJECTS") ∷ sign_at 192 (codes ";") ∷
    word_at 194 (codes "REGISTERED") ∷ word_at 205 (codes "AS") ∷ sign_at 208 (codes "{") ∷
    word_at 209 (codes "smi2NameBinding") ∷ number_at 225 (codes "3") ∷ sign_at 226 (codes "}") ∷
    sign_at 227 (codes ";") ∷ []

binding_example : Spells binding_tokens templates (Named name_bindings) 0 33
    (Numbered 0 (Pair (Leaf (word_at 0 (codes "logRecord-log"))) (Pair Bare (Pair (Pair (Present (Pair Bare (Pair
    (Pair (First (Pair Absent (Leaf (word_at 52 (codes "logRecord"))))) (Present (Pair Bare (Leaf
    (word_at 66 (codes "SUBCLASSES")))))) Bare))) (Pair (Present (Pair Bare (Pair (Pair (First (Pair Absent (Leaf
    (word_at 109 (codes "log"))))) (Present (Pair Bare (Leaf (word_at 117 (codes "SUBCLASSES")))))) Bare))) (Pair
    (Present (Pair Bare (Pair (First (Pair Absent (Leaf (word_at 144 (codes "logRecordId"))))) Bare))) (Pair Absent
    (Pair Absent (Pair (Present (Pair Bare (Pair (Pair (Present (Leaf
    (word_at 164 (codes "ONLY-IF-NO-CONTAINED-OBJECTS")))) Empty) Bare))) Bare)))))) (Pair (Pair Bare (Pair (Leaf
    (sign_at 208 (codes "{"))) (Pair (Second (Leaf (word_at 209 (codes "smi2NameBinding")))) (Pair (After Empty (First
    (Leaf (number_at 225 (codes "3"))))) Bare)))) Bare)))))
binding_example =
    named (both (keep refl refl refl) (both (marks (record { passed = refl }) (marks (record { passed = refl })
    no_marks)) (both (clause 0 refl (both (marks (record { passed = refl }) (marks (record { passed = refl }) (marks
    (record { passed = refl }) no_marks))) (both (both (first (both absent (keep refl refl refl))) (present (both
    (marks (record { passed = refl }) no_marks) (keep refl refl refl)))) (marks (record { passed = refl }) no_marks)))
    (clause 1 refl (both (marks (record { passed = refl }) (marks (record { passed = refl }) (marks
    (record { passed = refl }) (marks (record { passed = refl }) (marks (record { passed = refl }) no_marks))))) (both
    (both (first (both absent (keep refl refl refl))) (present (both (marks (record { passed = refl }) no_marks)
    (keep refl refl refl)))) (marks (record { passed = refl }) no_marks))) (clause 2 refl (both (marks
    (record { passed = refl }) (marks (record { passed = refl }) no_marks)) (both (first (both absent
    (keep refl refl refl))) (marks (record { passed = refl }) no_marks))) (clause 5 refl (both (marks
    (record { passed = refl }) no_marks) (both (both (present (keep refl refl refl)) no_more) (marks
    (record { passed = refl }) no_marks))) (enough refl refl))))) (both (both (marks (record { passed = refl }) (marks
    (record { passed = refl }) no_marks)) (both (keep refl refl refl) (both (second (keep refl refl refl)) (both
    (another (first (keep refl refl refl)) no_more) (marks (record { passed = refl }) no_marks))))) (marks
    (record { passed = refl }) no_marks)))))
