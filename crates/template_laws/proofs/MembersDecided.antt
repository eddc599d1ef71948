-- The six templates that packages have are decided by their first two tokens: X.722, sections 8.5 and 8.7 to 8.11.
use Rattle.std.proofs.Common.{◌≡◌, true, false, ◌&&◌, ◌||◌, [], ◌∷◌, Option, None, Some, refl, codes}
use Rattle.token_grammar.specs.declared.token.Token.{Token}
use Rattle.token_grammar.specs.Form.{Keep, Then, Maybe, Listed, AnyOrder, Slots, Slot, NoSlots, Empty}
use Rattle.token_grammar.specs.Spelling.{passes}
use Rattle.token_grammar.specs.TokenTests.{is_word_of, is_string}
use Rattle.token_grammar.specs.Parts.{qualified_name}
use Rattle.token_grammar.proofs.Known.{second_so}
use Rattle.grammar_laws.specs.Opening.{front, clauses_opening}
use Rattle.grammar_laws.specs.Decided.{AreDecided, IsDecided}
use Rattle.grammar_laws.proofs.GoingOn.{ends_before}
use Rattle.grammar_laws.proofs.TestLaws.{no, or_false}
use Rattle.gdmo_members.specs.Clauses.{attributes, semicolon, comma, clause, flag, word_clause, reference, references}
use Rattle.gdmo_members.specs.Clauses.{behaviour_clause, parameters_clause, ending, registered_ending, context}
use Rattle.gdmo_members.specs.Clauses.{matching_rule}
use Rattle.gdmo_members.specs.Templates.{behaviour_form, attribute_syntax, rules_clause, attribute_clauses}
use Rattle.gdmo_members.specs.Templates.{attribute_form, parameter_syntax, parameter_clauses, parameter_form}
use Rattle.gdmo_members.specs.Templates.{group_clauses, group_form, reply_clause, action_clauses, action_form, field}
use Rattle.gdmo_members.specs.Templates.{fields, information_clause, notification_clauses, notification_form}
use Rattle.template_laws.proofs.TemplateTests.Tests.{Never, Word, Words, Sign, AnyWord, Either}
use Rattle.template_laws.proofs.TemplateTests.{refuted, openings, later, all_go_on, not_word, first_of_clauses}
use Rattle.template_laws.proofs.TemplateTests.{form_first, clauses_first, clauses_apart, going_apart, alternatives}
use Rattle.template_laws.proofs.PartsDecided.{qualified_name_decided, reference_attributes, behaviour_clause_decided}
use Rattle.template_laws.proofs.PartsDecided.{parameters_clause_decided, ending_decided, registered_ending_decided}
use Rattle.template_laws.proofs.PartsDecided.{context_decided}

-- WITH INFORMATION and WITH REPLY: the second token tells
replies_apart : (t : Token) (u : Option Token)
    → passes (λ next. is_word_of (codes "WITH") t && is_word_of (codes "INFORMATION") next) u ≡ true
    → passes (λ next. is_word_of (codes "WITH") t && is_word_of (codes "REPLY") next || false) u ≡ true → ⊥
replies_apart t None e h = no e
replies_apart t (Some u) e h =
    not_word (codes "INFORMATION") (is_word_of (codes "REPLY")) u
    (second_so (is_word_of (codes "WITH") t) (is_word_of (codes "INFORMATION") u) e)
    (second_so (is_word_of (codes "WITH") t) (is_word_of (codes "REPLY") u)
    (or_false (is_word_of (codes "WITH") t && is_word_of (codes "REPLY") u) h)) (λ at. refl)

pub behaviour_decided : IsDecided openings behaviour_form
behaviour_decided = (tt, (tt, (tt, tt, (λ t u e h. no e)), (λ t u e h. no e)), (λ t u e h. no e))

pub attribute_syntax_decided : IsDecided openings attribute_syntax
attribute_syntax_decided = (
  (tt, (qualified_name_decided, tt, (λ t u e h. no e)), (λ t u e h. no e)),
  (
    tt,
    (
      reference_attributes,
      tt,
      (ends_before openings later all_go_on (reference attributes) semicolon (λ t e h.
          refuted (Word (codes "ATTRIBUTE")) (form_first semicolon) t (λ at text. refl) e h)),
    ),
    (λ t u e h. no e),
  ),
  (alternatives (clause (codes "WITH" ∷ codes "ATTRIBUTE" ∷ codes "SYNTAX" ∷ []) qualified_name) (clause (codes
      "DERIVED" ∷ codes "FROM" ∷ []) (reference attributes)) (λ e h. no e) (λ t e h. refuted (Word (codes "WITH"))
      (form_first (clause (codes "DERIVED" ∷ codes "FROM" ∷ []) (reference attributes))) t (λ at text. refl) e h)),
)

pub rules_clause_decided : IsDecided openings rules_clause
rules_clause_decided = (
  tt,
  (
    (tt, (λ t u e h. no e)),
    tt,
    (ends_before openings later all_go_on (Listed comma Empty
        matching_rule) semicolon (λ t e h. refuted (Either (Sign (codes ",")) (Never)) (form_first semicolon) t (λ at
        text. refl) e h)),
  ),
  (λ t u e h. no e),
)

abbrev pub attribute_clauses_behind_3 : Slots
attribute_clauses_behind_3 = Slot false parameters_clause None NoSlots

pub attribute_clauses_behind_3_decided : AreDecided openings attribute_clauses_behind_3 (front (clauses_opening
    openings attribute_clauses))
attribute_clauses_behind_3_decided = (
  parameters_clause_decided,
  record { full = refl; apart = λ t u e h. no e },
  λ t
      u e h. no (first_of_clauses NoSlots t u h),
  tt,
)

abbrev pub attribute_clauses_behind_2 : Slots
attribute_clauses_behind_2 = Slot false behaviour_clause None attribute_clauses_behind_3

pub attribute_clauses_behind_2_decided : AreDecided openings attribute_clauses_behind_2 (front (clauses_opening
    openings attribute_clauses))
attribute_clauses_behind_2_decided = (
  behaviour_clause_decided,
  record { full = refl; apart = λ t u e h. no e },
  clauses_apart behaviour_clause attribute_clauses_behind_3 (λ t e h. refuted (Word (codes "BEHAVIOUR"))
      (clauses_first attribute_clauses_behind_3) t (λ at text. refl) e h),
  attribute_clauses_behind_3_decided,
)

abbrev pub attribute_clauses_behind_1 : Slots
attribute_clauses_behind_1 = Slot false rules_clause None attribute_clauses_behind_2

pub attribute_clauses_behind_1_decided : AreDecided openings attribute_clauses_behind_1 (front (clauses_opening
    openings attribute_clauses))
attribute_clauses_behind_1_decided = (
  rules_clause_decided,
  record { full = refl; apart = λ t u e h. no e },
  clauses_apart rules_clause attribute_clauses_behind_2 (λ t e h. refuted (Word (codes "MATCHES")) (clauses_first
      attribute_clauses_behind_2) t (λ at text. refl) e h),
  attribute_clauses_behind_2_decided,
)

pub attribute_clauses_decided : IsDecided openings (AnyOrder attribute_clauses)
attribute_clauses_decided = (
  attribute_syntax_decided,
  record { full = refl; apart = λ t u e h. no e },
  clauses_apart
      attribute_syntax attribute_clauses_behind_1 (λ t e h. refuted (Either (Word (codes "WITH")) (Word (codes
      "DERIVED"))) (clauses_first attribute_clauses_behind_1) t (λ at text. refl) e h),
  attribute_clauses_behind_1_decided,
)

pub attribute_decided : IsDecided openings attribute_form
attribute_decided = (
  tt,
  (
    tt,
    (
      attribute_clauses_decided,
      ending_decided,
      (ends_before openings later all_go_on
          (AnyOrder attribute_clauses) ending (λ t e h. refuted (Either (Either (Word (codes "WITH")) (Word (codes
          "DERIVED"))) (Words (codes "MATCHES" ∷ codes "BEHAVIOUR" ∷ codes "PARAMETERS" ∷ []))) (form_first ending) t
          (λ at
          text. refl) e h)),
    ),
    (λ t u e h. no e),
  ),
  (λ t u e h. no e),
)

pub parameter_syntax_decided : IsDecided openings parameter_syntax
parameter_syntax_decided = (
  (tt, (qualified_name_decided, tt, (λ t u e h. no e)), (λ t u e h. no e)),
  (
    tt,
    (
      reference_attributes,
      tt,
      (ends_before openings later all_go_on (reference attributes) semicolon (λ t e h.
          refuted (Word (codes "ATTRIBUTE")) (form_first semicolon) t (λ at text. refl) e h)),
    ),
    (λ t u e h. no e),
  ),
  (alternatives (clause (codes "WITH" ∷ codes "SYNTAX" ∷ []) qualified_name) (clause (codes "ATTRIBUTE" ∷ [])
      (reference attributes)) (λ e h. no e) (λ t e h. refuted (Word (codes "WITH")) (form_first (clause (codes
      "ATTRIBUTE" ∷ []) (reference attributes))) t (λ at text. refl) e h)),
)

abbrev pub parameter_clauses_behind_2 : Slots
parameter_clauses_behind_2 = Slot false behaviour_clause None NoSlots

pub parameter_clauses_behind_2_decided : AreDecided openings parameter_clauses_behind_2 (front (clauses_opening
    openings parameter_clauses))
parameter_clauses_behind_2_decided = (
  behaviour_clause_decided,
  record { full = refl; apart = λ t u e h. no e },
  λ t u
      e h. no (first_of_clauses NoSlots t u h),
  tt,
)

abbrev pub parameter_clauses_behind_1 : Slots
parameter_clauses_behind_1 = Slot true parameter_syntax None parameter_clauses_behind_2

pub parameter_clauses_behind_1_decided : AreDecided openings parameter_clauses_behind_1 (front (clauses_opening
    openings parameter_clauses))
parameter_clauses_behind_1_decided = (
  parameter_syntax_decided,
  record { full = refl; apart = λ t u e h. no e },
  clauses_apart parameter_syntax parameter_clauses_behind_2 (λ t e h. refuted (Either (Word (codes "WITH")) (Word
      (codes "ATTRIBUTE"))) (clauses_first parameter_clauses_behind_2) t (λ at text. refl) e h),
  parameter_clauses_behind_2_decided,
)

pub parameter_clauses_decided : IsDecided openings (AnyOrder parameter_clauses)
parameter_clauses_decided = (
  (
    tt,
    (
      context_decided,
      tt,
      (ends_before openings later all_go_on context semicolon (λ t e
          h. refuted (Either (Either (Sign (codes ".")) (AnyWord)) (Never)) (form_first semicolon) t (λ at text. refl) e
          h)),
    ),
    (λ t u e h. no e),
  ),
  record { full = refl; apart = λ t u e h. no e },
  clauses_apart (clause (codes "CONTEXT"
      ∷ []) context) parameter_clauses_behind_1 (λ t e h. refuted (Word (codes "CONTEXT")) (clauses_first
      parameter_clauses_behind_1) t (λ at text. refl) e h),
  parameter_clauses_behind_1_decided,
)

pub parameter_decided : IsDecided openings parameter_form
parameter_decided = (
  tt,
  (
    tt,
    (
      parameter_clauses_decided,
      ending_decided,
      (ends_before openings later all_go_on
          (AnyOrder parameter_clauses) ending (λ t e h. refuted (Either (Word (codes "CONTEXT")) (Either (Either (Word
          (codes "WITH")) (Word (codes "ATTRIBUTE"))) (Words (codes "BEHAVIOUR" ∷ [])))) (form_first ending) t (λ at
          text.
          refl) e h)),
    ),
    (λ t u e h. no e),
  ),
  (λ t u e h. no e),
)

abbrev pub group_clauses_behind_2 : Slots
group_clauses_behind_2 = Slot false (clause (codes "DESCRIPTION" ∷ []) (Keep is_string)) None NoSlots

pub group_clauses_behind_2_decided : AreDecided openings group_clauses_behind_2 (front (clauses_opening openings
    group_clauses))
group_clauses_behind_2_decided = (
  (tt, (tt, tt, (λ t u e h. no e)), (λ t u e h. no e)),
  record {
    full = refl;
    apart =
        λ t u e h. no e;
  },
  λ t u e h. no (first_of_clauses NoSlots t u h),
  tt,
)

abbrev pub group_clauses_behind_1 : Slots
group_clauses_behind_1 = Slot false (word_clause (codes "FIXED")) None group_clauses_behind_2

pub group_clauses_behind_1_decided : AreDecided openings group_clauses_behind_1 (front (clauses_opening openings
    group_clauses))
group_clauses_behind_1_decided = (
  (tt, tt, (λ t u e h. no e)),
  record { full = refl; apart = λ t u e h. no e },
  clauses_apart (word_clause (codes "FIXED")) group_clauses_behind_2 (λ t e h. refuted (Words (codes "FIXED" ∷ []))
      (clauses_first group_clauses_behind_2) t (λ at text. refl) e h),
  group_clauses_behind_2_decided,
)

pub group_clauses_decided : IsDecided openings (AnyOrder group_clauses)
group_clauses_decided = (
  (
    tt,
    (
      (
        reference_attributes,
        (λ t u e h. going_apart t u comma (reference attributes) (λ e h.
            refuted (Word (codes "ATTRIBUTE")) comma t (λ at text. refl) e h) e h),
      ),
      tt,
      (ends_before openings later all_go_on
          (references attributes) semicolon (λ t e h. refuted (Either (Sign (codes ",")) (Word (codes "ATTRIBUTE")))
          (form_first semicolon) t (λ at text. refl) e h)),
    ),
    (λ t u e h. no e),
  ),
  record {
    full = refl;
    apart = λ t u e h. no
        e;
  },
  clauses_apart (clause (codes "GROUP" ∷ codes "ELEMENTS" ∷ []) (references attributes)) group_clauses_behind_1
      (λ t e h. refuted (Word (codes "GROUP")) (clauses_first group_clauses_behind_1) t (λ at text. refl) e h),
  group_clauses_behind_1_decided,
)

pub group_decided : IsDecided openings group_form
group_decided = (
  tt,
  (
    tt,
    (
      group_clauses_decided,
      registered_ending_decided,
      (ends_before openings later all_go_on
          (AnyOrder group_clauses) registered_ending (λ t e h. refuted (Either (Word (codes "GROUP")) (Either (Words
          (codes
          "FIXED" ∷ [])) (Words (codes "DESCRIPTION" ∷ [])))) (form_first registered_ending) t (λ at text. refl) e h)),
    ),
    (λ
        t u e h. no e),
  ),
  (λ t u e h. no e),
)

pub reply_clause_decided : IsDecided openings reply_clause
reply_clause_decided = (tt, (qualified_name_decided, tt, (λ t u e h. no e)), (λ t u e h. no e))

abbrev pub action_clauses_behind_4 : Slots
action_clauses_behind_4 = Slot false reply_clause None NoSlots

pub action_clauses_behind_4_decided : AreDecided openings action_clauses_behind_4 (front (clauses_opening openings
    action_clauses))
action_clauses_behind_4_decided = (
  reply_clause_decided,
  record { full = refl; apart = λ t u e h. no e },
  λ t u e h.
      no (first_of_clauses NoSlots t u h),
  tt,
)

abbrev pub action_clauses_behind_3 : Slots
action_clauses_behind_3 = Slot false (clause (codes "WITH" ∷ codes "INFORMATION" ∷ codes "SYNTAX" ∷ [])
    qualified_name) None action_clauses_behind_4

pub action_clauses_behind_3_decided : AreDecided openings action_clauses_behind_3 (front (clauses_opening openings
    action_clauses))
action_clauses_behind_3_decided = (
  (tt, (qualified_name_decided, tt, (λ t u e h. no e)), (λ t u e h. no e)),
  record {
    full = refl;
    apart = λ t u e h. no e;
  },
  (λ t u e h. replies_apart t u e h),
  action_clauses_behind_4_decided,
)

abbrev pub action_clauses_behind_2 : Slots
action_clauses_behind_2 = Slot false parameters_clause None action_clauses_behind_3

pub action_clauses_behind_2_decided : AreDecided openings action_clauses_behind_2 (front (clauses_opening openings
    action_clauses))
action_clauses_behind_2_decided = (
  parameters_clause_decided,
  record { full = refl; apart = λ t u e h. no e },
  clauses_apart parameters_clause action_clauses_behind_3 (λ t e h. refuted (Word (codes "PARAMETERS"))
      (clauses_first action_clauses_behind_3) t (λ at text. refl) e h),
  action_clauses_behind_3_decided,
)

abbrev pub action_clauses_behind_1 : Slots
action_clauses_behind_1 = Slot false (flag (codes "MODE" ∷ []) (codes "CONFIRMED")) None action_clauses_behind_2

pub action_clauses_behind_1_decided : AreDecided openings action_clauses_behind_1 (front (clauses_opening openings
    action_clauses))
action_clauses_behind_1_decided = (
  (tt, (tt, tt, (λ t u e h. no e)), (λ t u e h. no e)),
  record {
    full = refl;
    apart =
        λ t u e h. no e;
  },
  clauses_apart (flag (codes "MODE" ∷ []) (codes "CONFIRMED")) action_clauses_behind_2 (λ t e h.
      refuted (Word (codes "MODE")) (clauses_first action_clauses_behind_2) t (λ at text. refl) e h),
  action_clauses_behind_2_decided,
)

pub action_clauses_decided : IsDecided openings (AnyOrder action_clauses)
action_clauses_decided = (
  behaviour_clause_decided,
  record { full = refl; apart = λ t u e h. no e },
  clauses_apart
      behaviour_clause action_clauses_behind_1 (λ t e h. refuted (Word (codes "BEHAVIOUR")) (clauses_first
      action_clauses_behind_1) t (λ at text. refl) e h),
  action_clauses_behind_1_decided,
)

pub action_decided : IsDecided openings action_form
action_decided = (
  tt,
  (
    tt,
    (
      action_clauses_decided,
      registered_ending_decided,
      (ends_before openings later all_go_on
          (AnyOrder action_clauses) registered_ending (λ t e h. refuted (Words (codes "BEHAVIOUR" ∷ codes "MODE" ∷ codes
          "PARAMETERS" ∷ codes "WITH" ∷ codes "WITH" ∷ [])) (form_first registered_ending) t (λ at text. refl) e h)),
    ),
    (λ t
        u e h. no e),
  ),
  (λ t u e h. no e),
)

pub field_decided : IsDecided openings field
field_decided = (tt, reference_attributes, (λ t u e h. no e))

pub fields_decided : IsDecided openings fields
fields_decided = (
  tt,
  (
    field_decided,
    (λ t u e h. going_apart t u comma field (λ e h. refuted (Word (codes
        "ATTRIBUTE")) comma t (λ at text. refl) e h) e h),
  ),
  (λ t u e h. no e),
)

pub information_clause_decided : IsDecided openings information_clause
information_clause_decided = (
  tt,
  (
    (qualified_name_decided, (fields_decided, refl), (λ t u e h. no e)),
    tt,
    (ends_before openings later all_go_on (Then qualified_name (Maybe fields)) semicolon (λ t e h. refuted (Either
        (Either (Either (Sign (codes ",")) (Word (codes "ATTRIBUTE"))) (Word (codes "AND"))) (Never)) (form_first
        semicolon) t (λ at text. refl) e h)),
  ),
  (λ t u e h. no e),
)

abbrev pub notification_clauses_behind_3 : Slots
notification_clauses_behind_3 = Slot false reply_clause None NoSlots

pub notification_clauses_behind_3_decided : AreDecided openings notification_clauses_behind_3 (front (clauses_opening
    openings notification_clauses))
notification_clauses_behind_3_decided = (
  reply_clause_decided,
  record { full = refl; apart = λ t u e h. no e },
  λ t u
      e h. no (first_of_clauses NoSlots t u h),
  tt,
)

abbrev pub notification_clauses_behind_2 : Slots
notification_clauses_behind_2 = Slot false information_clause None notification_clauses_behind_3

pub notification_clauses_behind_2_decided : AreDecided openings notification_clauses_behind_2 (front (clauses_opening
    openings notification_clauses))
notification_clauses_behind_2_decided = (
  information_clause_decided,
  record { full = refl; apart = λ t u e h. no e },
  (λ t u e h. replies_apart t u e h),
  notification_clauses_behind_3_decided,
)

abbrev pub notification_clauses_behind_1 : Slots
notification_clauses_behind_1 = Slot false parameters_clause None notification_clauses_behind_2

pub notification_clauses_behind_1_decided : AreDecided openings notification_clauses_behind_1 (front (clauses_opening
    openings notification_clauses))
notification_clauses_behind_1_decided = (
  parameters_clause_decided,
  record { full = refl; apart = λ t u e h. no e },
  clauses_apart parameters_clause notification_clauses_behind_2 (λ t e h. refuted (Word (codes "PARAMETERS"))
      (clauses_first notification_clauses_behind_2) t (λ at text. refl) e h),
  notification_clauses_behind_2_decided,
)

pub notification_clauses_decided : IsDecided openings (AnyOrder notification_clauses)
notification_clauses_decided = (
  behaviour_clause_decided,
  record { full = refl; apart = λ t u e h. no e },
  clauses_apart behaviour_clause notification_clauses_behind_1 (λ t e h. refuted (Word (codes "BEHAVIOUR"))
      (clauses_first notification_clauses_behind_1) t (λ at text. refl) e h),
  notification_clauses_behind_1_decided,
)

pub notification_decided : IsDecided openings notification_form
notification_decided = (
  tt,
  (
    tt,
    (
      notification_clauses_decided,
      registered_ending_decided,
      (ends_before openings later
          all_go_on (AnyOrder notification_clauses) registered_ending (λ t e h. refuted (Words (codes "BEHAVIOUR" ∷
          codes
          "PARAMETERS" ∷ codes "WITH" ∷ codes "WITH" ∷ [])) (form_first registered_ending) t (λ at text. refl) e h)),
    ),
    (λ t
        u e h. no e),
  ),
  (λ t u e h. no e),
)
