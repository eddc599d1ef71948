-- Packages are decided by their first two tokens: X.722, section 8.4.
use Rattle.std.proofs.Common.{false, [], ◌∷◌, None, refl, codes}
use Rattle.token_grammar.specs.Form.{Marks, Keep, Then, Listed, AnyOrder, Slots, Slot, NoSlots, Empty}
use Rattle.token_grammar.specs.TokenTests.{is_word_of, is_sign_of, is_one_of, is_name}
use Rattle.token_grammar.specs.Parts.{words, qualified_name}
use Rattle.token_grammar.proofs.Known.{second_so}
use Rattle.grammar_laws.specs.Opening.{front, opening, clauses_opening}
use Rattle.grammar_laws.specs.Decided.{AreAlternatives, AreDecided, IsDecided}
use Rattle.grammar_laws.proofs.GoingOn.{ends_before}
use Rattle.grammar_laws.proofs.TestLaws.{no}
use Rattle.gdmo_members.specs.Clauses.{behaviours, attributes, parameters, groups, actions, notifications, semicolon}
use Rattle.gdmo_members.specs.Clauses.{comma, clause, reference, reference_row, behaviour_clause, ending}
use Rattle.gdmo_members.specs.Templates.{property_value, valued, property_slots, attribute_use, member_use}
use Rattle.gdmo_members.specs.Templates.{package_clauses, package_form}
use Rattle.template_laws.proofs.TemplateTests.Tests.{Never, Word, Words, Sign, Label, AString, Either}
use Rattle.template_laws.proofs.TemplateTests.{refuted, openings, later, all_go_on, not_sign, first_of_clauses}
use Rattle.template_laws.proofs.TemplateTests.{form_first, clauses_first, clauses_apart, ends_before_clauses}
use Rattle.template_laws.proofs.TemplateTests.{going_apart}
use Rattle.template_laws.proofs.PartsDecided.{qualified_name_decided, reference_behaviours, reference_attributes}
use Rattle.template_laws.proofs.PartsDecided.{reference_parameters, reference_groups, reference_actions}
use Rattle.template_laws.proofs.PartsDecided.{reference_notifications, behaviour_clause_decided, parameter_row_decided}
use Rattle.template_laws.proofs.PartsDecided.{ending_decided}

-- `Module.value`, or DERIVATION RULE: the second token tells
value_alternatives : AreAlternatives (opening openings qualified_name)
    (opening openings (Then (Marks (words (codes "DERIVATION" ∷ codes "RULE" ∷ []))) (reference behaviours)))
value_alternatives = record {
  missing = λ e h. no e;
  alone = λ t e h. no e;
  two = λ t u e h. not_sign (codes ".") (is_word_of (codes "RULE")) u
      (second_so (is_name t) (is_sign_of (codes ".") u) e)
      (second_so (is_word_of (codes "DERIVATION") t) (is_word_of (codes "RULE") u) h) (λ at. refl);
}

pub property_value_decided : IsDecided openings property_value
property_value_decided = (qualified_name_decided, (tt, reference_behaviours, (λ t u e h. no e)), value_alternatives)

abbrev pub property_slots_behind_6 : Slots
property_slots_behind_6 =
    Slot false (Keep (is_one_of (codes "ADD" ∷ codes "REMOVE" ∷ codes "ADD-REMOVE" ∷ []))) None NoSlots

pub property_slots_behind_6_decided : AreDecided openings property_slots_behind_6 (front (clauses_opening openings
    property_slots))
property_slots_behind_6_decided =
    (tt, record { full = refl; apart = λ t u e h. no e }, λ t u e h. no (first_of_clauses NoSlots t u h), tt)

abbrev pub property_slots_behind_5 : Slots
property_slots_behind_5 = Slot false (Keep (is_one_of (codes "GET" ∷ codes "REPLACE" ∷ codes "GET-REPLACE" ∷ [])))
    None property_slots_behind_6

pub property_slots_behind_5_decided : AreDecided openings property_slots_behind_5 (front (clauses_opening openings
    property_slots))
property_slots_behind_5_decided = (
  tt,
  record { full = refl; apart = λ t u e h. no e },
  clauses_apart (Keep (is_one_of
      (codes "GET" ∷ codes "REPLACE" ∷ codes "GET-REPLACE" ∷ []))) property_slots_behind_6 (λ t e h. refuted (Words
      (codes "GET" ∷ codes "REPLACE" ∷ codes "GET-REPLACE" ∷ [])) (clauses_first property_slots_behind_6) t (λ at text.
      refl) e h),
  property_slots_behind_6_decided,
)

abbrev pub property_slots_behind_4 : Slots
property_slots_behind_4 =
    Slot false (valued (codes "REQUIRED" ∷ codes "VALUES" ∷ []) qualified_name) None property_slots_behind_5

pub property_slots_behind_4_decided : AreDecided openings property_slots_behind_4 (front (clauses_opening openings
    property_slots))
property_slots_behind_4_decided = (
  (tt, qualified_name_decided, (λ t u e h. no e)),
  record {
    full = refl;
    apart = λ t
        u e h. no e;
  },
  clauses_apart (valued (codes "REQUIRED" ∷ codes "VALUES" ∷ []) qualified_name)
      property_slots_behind_5 (λ t e h. refuted (Word (codes "REQUIRED")) (clauses_first property_slots_behind_5) t (λ
      at text. refl) e h),
  property_slots_behind_5_decided,
)

abbrev pub property_slots_behind_3 : Slots
property_slots_behind_3 =
    Slot false (valued (codes "PERMITTED" ∷ codes "VALUES" ∷ []) qualified_name) None property_slots_behind_4

pub property_slots_behind_3_decided : AreDecided openings property_slots_behind_3 (front (clauses_opening openings
    property_slots))
property_slots_behind_3_decided = (
  (tt, qualified_name_decided, (λ t u e h. no e)),
  record {
    full = refl;
    apart = λ t
        u e h. no e;
  },
  clauses_apart (valued (codes "PERMITTED" ∷ codes "VALUES" ∷ []) qualified_name)
      property_slots_behind_4 (λ t e h. refuted (Word (codes "PERMITTED")) (clauses_first property_slots_behind_4) t (λ
      at text. refl) e h),
  property_slots_behind_4_decided,
)

abbrev pub property_slots_behind_2 : Slots
property_slots_behind_2 =
    Slot false (valued (codes "INITIAL" ∷ codes "VALUE" ∷ []) property_value) None property_slots_behind_3

pub property_slots_behind_2_decided : AreDecided openings property_slots_behind_2 (front (clauses_opening openings
    property_slots))
property_slots_behind_2_decided = (
  (tt, property_value_decided, (λ t u e h. no e)),
  record {
    full = refl;
    apart =
        ends_before_clauses (valued (codes "INITIAL" ∷ codes "VALUE" ∷ []) property_value) property_slots (λ t e h.
        refuted (Word (codes "BEHAVIOUR")) (clauses_first property_slots) t (λ at text. refl) e h);
  },
  clauses_apart
      (valued (codes "INITIAL" ∷ codes "VALUE" ∷ []) property_value) property_slots_behind_3 (λ t e h. refuted (Word
      (codes "INITIAL")) (clauses_first property_slots_behind_3) t (λ at text. refl) e h),
  property_slots_behind_3_decided,
)

abbrev pub property_slots_behind_1 : Slots
property_slots_behind_1 =
    Slot false (valued (codes "DEFAULT" ∷ codes "VALUE" ∷ []) property_value) None property_slots_behind_2

pub property_slots_behind_1_decided : AreDecided openings property_slots_behind_1 (front (clauses_opening openings
    property_slots))
property_slots_behind_1_decided = (
  (tt, property_value_decided, (λ t u e h. no e)),
  record {
    full = refl;
    apart =
        ends_before_clauses (valued (codes "DEFAULT" ∷ codes "VALUE" ∷ []) property_value) property_slots (λ t e h.
        refuted (Word (codes "BEHAVIOUR")) (clauses_first property_slots) t (λ at text. refl) e h);
  },
  clauses_apart
      (valued (codes "DEFAULT" ∷ codes "VALUE" ∷ []) property_value) property_slots_behind_2 (λ t e h. refuted (Word
      (codes "DEFAULT")) (clauses_first property_slots_behind_2) t (λ at text. refl) e h),
  property_slots_behind_2_decided,
)

pub properties_decided : IsDecided openings (AnyOrder property_slots)
properties_decided = (
  tt,
  record { full = refl; apart = λ t u e h. no e },
  clauses_apart (Keep (is_one_of (codes
      "REPLACE-WITH-DEFAULT" ∷ []))) property_slots_behind_1 (λ t e h. refuted (Words (codes "REPLACE-WITH-DEFAULT" ∷
      [])) (clauses_first property_slots_behind_1) t (λ at text. refl) e h),
  property_slots_behind_1_decided,
)

pub attribute_use_decided : IsDecided openings attribute_use
attribute_use_decided = (
  reference_attributes,
  (
    properties_decided,
    parameter_row_decided,
    (ends_before openings later
        all_go_on (AnyOrder property_slots) (reference_row parameters) (λ t e h. refuted (Either (Either (Either (Either
        (Either (Word (codes "BEHAVIOUR")) (Either (Either (Word (codes "BEHAVIOUR")) (Either (Word (codes "VALUES"))
        (Word (codes "VALUES")))) (Word (codes "VALUE")))) (Word (codes "VALUE"))) (Never)) (Words (codes "VALUE" ∷
        codes
        "VALUE" ∷ codes "VALUES" ∷ codes "VALUES" ∷ []))) (Either (Words (codes "REPLACE-WITH-DEFAULT" ∷ [])) (Either
        (Word (codes "DEFAULT")) (Either (Word (codes "INITIAL")) (Either (Word (codes "PERMITTED")) (Either (Word
        (codes
        "REQUIRED")) (Either (Words (codes "GET" ∷ codes "REPLACE" ∷ codes "GET-REPLACE" ∷ [])) (Either (Words (codes
        "ADD" ∷ codes "REMOVE" ∷ codes "ADD-REMOVE" ∷ [])) (Never))))))))) (form_first (reference_row parameters)) t
        (λ at
        text. refl) e h)),
  ),
  (ends_before openings later all_go_on (reference attributes) (Then (AnyOrder property_slots)
      (reference_row parameters)) (λ t e h. refuted (Word (codes "ATTRIBUTE")) (form_first (Then (AnyOrder
      property_slots) (reference_row parameters))) t (λ at text. refl) e h)),
)

pub use_groups : IsDecided openings (member_use groups attributes)
use_groups = (
  reference_groups,
  (
    reference_attributes,
    record {
      full = refl;
      apart = (ends_before openings later
          all_go_on (reference attributes) (reference attributes) (λ t e h. refuted (Word (codes "ATTRIBUTE"))
          (form_first
          (reference attributes)) t (λ at text. refl) e h));
    },
  ),
  (ends_before openings later all_go_on (reference groups)
      (reference_row attributes) (λ t e h. refuted (Word (codes "ATTRIBUTE")) (form_first (reference_row attributes)) t
      (λ at text. refl) e h)),
)

pub use_actions : IsDecided openings (member_use actions parameters)
use_actions = (
  reference_actions,
  (
    reference_parameters,
    record {
      full = refl;
      apart = (ends_before openings later
          all_go_on (reference parameters) (reference parameters) (λ t e h. refuted (Word (codes "PARAMETER"))
          (form_first
          (reference parameters)) t (λ at text. refl) e h));
    },
  ),
  (ends_before openings later all_go_on (reference actions)
      (reference_row parameters) (λ t e h. refuted (Word (codes "ACTION")) (form_first (reference_row parameters)) t (λ
      at text. refl) e h)),
)

pub use_notifications : IsDecided openings (member_use notifications parameters)
use_notifications = (
  reference_notifications,
  (
    reference_parameters,
    record {
      full = refl;
      apart = (ends_before
          openings later all_go_on (reference parameters) (reference parameters) (λ t e h. refuted (Word (codes
          "PARAMETER")) (form_first (reference parameters)) t (λ at text. refl) e h));
    },
  ),
  (ends_before openings later
      all_go_on (reference notifications) (reference_row parameters) (λ t e h. refuted (Word (codes "NOTIFICATION"))
      (form_first (reference_row parameters)) t (λ at text. refl) e h)),
)

abbrev pub package_clauses_behind_4 : Slots
package_clauses_behind_4 = Slot false (clause (codes "NOTIFICATIONS" ∷ []) (Listed comma Empty (member_use
    notifications parameters))) None NoSlots

pub package_clauses_behind_4_decided : AreDecided openings package_clauses_behind_4 (front (clauses_opening openings
    package_clauses))
package_clauses_behind_4_decided = (
  (
    tt,
    (
      (
        use_notifications,
        (λ t u e h. going_apart t u comma (member_use
            notifications parameters) (λ e h. refuted (Either (Either (Word (codes "PARAMETER")) (Either (Either
            (AString)
            (Label)) (Label))) (Word (codes "NOTIFICATION"))) comma t (λ at text. refl) e h) e h),
      ),
      tt,
      (ends_before openings
          later all_go_on (Listed comma Empty (member_use notifications parameters)) semicolon (λ t e h. refuted (Either
          (Sign (codes ",")) (Either (Either (Word (codes "PARAMETER")) (Either (Either (AString) (Label)) (Label)))
          (Word
          (codes "NOTIFICATION")))) (form_first semicolon) t (λ at text. refl) e h)),
    ),
    (λ t u e h. no e),
  ),
  record {
    full =
        refl;
    apart = λ t u e h. no e;
  },
  λ t u e h. no (first_of_clauses NoSlots t u h),
  tt,
)

abbrev pub package_clauses_behind_3 : Slots
package_clauses_behind_3 = Slot false (clause (codes "ACTIONS" ∷ []) (Listed comma Empty (member_use actions
    parameters))) None package_clauses_behind_4

pub package_clauses_behind_3_decided : AreDecided openings package_clauses_behind_3 (front (clauses_opening openings
    package_clauses))
package_clauses_behind_3_decided = (
  (
    tt,
    (
      (
        use_actions,
        (λ t u e h. going_apart t u comma (member_use actions
            parameters) (λ e h. refuted (Either (Either (Word (codes "PARAMETER")) (Either (Either (AString) (Label))
            (Label))) (Word (codes "ACTION"))) comma t (λ at text. refl) e h) e h),
      ),
      tt,
      (ends_before openings later all_go_on
          (Listed comma Empty (member_use actions parameters)) semicolon (λ t e h. refuted (Either (Sign (codes ","))
          (Either (Either (Word (codes "PARAMETER")) (Either (Either (AString) (Label)) (Label))) (Word (codes
          "ACTION"))))
          (form_first semicolon) t (λ at text. refl) e h)),
    ),
    (λ t u e h. no e),
  ),
  record {
    full = refl;
    apart = λ t u e h. no
        e;
  },
  clauses_apart (clause (codes "ACTIONS" ∷ []) (Listed comma Empty (member_use actions parameters)))
      package_clauses_behind_4 (λ t e h. refuted (Word (codes "ACTIONS")) (clauses_first package_clauses_behind_4) t (λ
      at text. refl) e h),
  package_clauses_behind_4_decided,
)

abbrev pub package_clauses_behind_2 : Slots
package_clauses_behind_2 = Slot false (clause (codes "ATTRIBUTE" ∷ codes "GROUPS" ∷ []) (Listed comma Empty
    (member_use groups attributes))) None package_clauses_behind_3

pub package_clauses_behind_2_decided : AreDecided openings package_clauses_behind_2 (front (clauses_opening openings
    package_clauses))
package_clauses_behind_2_decided = (
  (
    tt,
    (
      (
        use_groups,
        (λ t u e h. going_apart t u comma (member_use groups
            attributes) (λ e h. refuted (Either (Either (Word (codes "ATTRIBUTE")) (Either (Either (AString) (Label))
            (Label))) (Word (codes "ATTRIBUTE"))) comma t (λ at text. refl) e h) e h),
      ),
      tt,
      (ends_before openings later
          all_go_on (Listed comma Empty (member_use groups attributes)) semicolon (λ t e h. refuted (Either (Sign (codes
          ",")) (Either (Either (Word (codes "ATTRIBUTE")) (Either (Either (AString) (Label)) (Label))) (Word (codes
          "ATTRIBUTE")))) (form_first semicolon) t (λ at text. refl) e h)),
    ),
    (λ t u e h. no e),
  ),
  record {
    full = refl;
    apart
        = λ t u e h. no e;
  },
  clauses_apart (clause (codes "ATTRIBUTE" ∷ codes "GROUPS" ∷ []) (Listed comma Empty
      (member_use groups attributes))) package_clauses_behind_3 (λ t e h. refuted (Word (codes "ATTRIBUTE"))
      (clauses_first package_clauses_behind_3) t (λ at text. refl) e h),
  package_clauses_behind_3_decided,
)

abbrev pub package_clauses_behind_1 : Slots
package_clauses_behind_1 =
    Slot false (clause (codes "ATTRIBUTES" ∷ []) (Listed comma Empty attribute_use)) None package_clauses_behind_2

pub package_clauses_behind_1_decided : AreDecided openings package_clauses_behind_1 (front (clauses_opening openings
    package_clauses))
package_clauses_behind_1_decided = (
  (
    tt,
    (
      (
        attribute_use_decided,
        (λ t u e h. going_apart t u comma attribute_use (λ e
            h. refuted (Either (Either (Either (Word (codes "PARAMETER")) (Either (Either (AString) (Label)) (Label)))
            (Either
            (Either (Either (Either (Either (Word (codes "BEHAVIOUR")) (Either (Either (Word (codes "BEHAVIOUR"))
            (Either
            (Word (codes "VALUES")) (Word (codes "VALUES")))) (Word (codes "VALUE")))) (Word (codes "VALUE")))
            (Never)) (Words
            (codes "VALUE" ∷ codes "VALUE" ∷ codes "VALUES" ∷ codes "VALUES" ∷ []))) (Either (Words (codes
            "REPLACE-WITH-DEFAULT" ∷ [])) (Either (Word (codes "DEFAULT")) (Either (Word (codes "INITIAL")) (Either
            (Word
            (codes "PERMITTED")) (Either (Word (codes "REQUIRED")) (Either (Words (codes "GET" ∷ codes "REPLACE" ∷ codes
            "GET-REPLACE" ∷ [])) (Either (Words (codes "ADD" ∷ codes "REMOVE" ∷ codes "ADD-REMOVE" ∷ []))
            (Never))))))))))
            (Word (codes "ATTRIBUTE"))) comma t (λ at text. refl) e h) e h),
      ),
      tt,
      (ends_before openings later all_go_on
          (Listed comma Empty attribute_use) semicolon (λ t e h. refuted (Either (Sign (codes ",")) (Either (Either
          (Either
          (Word (codes "PARAMETER")) (Either (Either (AString) (Label)) (Label))) (Either (Either (Either (Either
          (Either
          (Word (codes "BEHAVIOUR")) (Either (Either (Word (codes "BEHAVIOUR")) (Either (Word (codes "VALUES")) (Word
          (codes
          "VALUES")))) (Word (codes "VALUE")))) (Word (codes "VALUE"))) (Never)) (Words (codes "VALUE" ∷ codes "VALUE" ∷
          codes "VALUES" ∷ codes "VALUES" ∷ []))) (Either (Words (codes "REPLACE-WITH-DEFAULT" ∷ [])) (Either (Word
          (codes
          "DEFAULT")) (Either (Word (codes "INITIAL")) (Either (Word (codes "PERMITTED")) (Either (Word (codes
          "REQUIRED"))
          (Either (Words (codes "GET" ∷ codes "REPLACE" ∷ codes "GET-REPLACE" ∷ [])) (Either (Words (codes "ADD" ∷ codes
          "REMOVE" ∷ codes "ADD-REMOVE" ∷ [])) (Never)))))))))) (Word (codes "ATTRIBUTE")))) (form_first semicolon) t
          (λ at
          text. refl) e h)),
    ),
    (λ t u e h. no e),
  ),
  record { full = refl; apart = λ t u e h. no e },
  clauses_apart (clause
      (codes "ATTRIBUTES" ∷ []) (Listed comma Empty attribute_use)) package_clauses_behind_2 (λ t e h. refuted (Word
      (codes "ATTRIBUTES")) (clauses_first package_clauses_behind_2) t (λ at text. refl) e h),
  package_clauses_behind_2_decided,
)

pub package_clauses_decided : IsDecided openings (AnyOrder package_clauses)
package_clauses_decided = (
  behaviour_clause_decided,
  record { full = refl; apart = λ t u e h. no e },
  clauses_apart
      behaviour_clause package_clauses_behind_1 (λ t e h. refuted (Word (codes "BEHAVIOUR")) (clauses_first
      package_clauses_behind_1) t (λ at text. refl) e h),
  package_clauses_behind_1_decided,
)

pub package_decided : IsDecided openings package_form
package_decided = (
  tt,
  (
    tt,
    (
      package_clauses_decided,
      ending_decided,
      (ends_before openings later all_go_on (AnyOrder
          package_clauses) ending (λ t e h. refuted (Words (codes "BEHAVIOUR" ∷ codes "ATTRIBUTES" ∷ codes "ATTRIBUTE" ∷
          codes "ACTIONS" ∷ codes "NOTIFICATIONS" ∷ [])) (form_first ending) t (λ at text. refl) e h)),
    ),
    (λ t u e h. no e),
  ),
  (λ t u e h. no e),
)
