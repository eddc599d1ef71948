-- The parts that several templates have are decided by their first two tokens: X.722, section 8.2.
use Rattle.std.proofs.Common.{refl, codes}
use Rattle.token_grammar.specs.Form.{Keep, Then, Maybe, Many, Empty}
use Rattle.token_grammar.specs.TokenTests.{is_word_of, is_sign_of, is_label, is_number, is_word}
use Rattle.token_grammar.specs.Parts.{sign, document_name, label_reference, qualified_name, named_number, arc}
use Rattle.token_grammar.specs.Parts.{first_arc, object_identifier}
use Rattle.grammar_laws.specs.Decided.{IsDecided}
use Rattle.grammar_laws.proofs.GoingOn.{ends_before}
use Rattle.grammar_laws.proofs.TestLaws.{no}
use Rattle.gdmo_members.specs.Clauses.{behaviours, attributes, parameters, groups, actions, notifications, packages}
use Rattle.gdmo_members.specs.Clauses.{classes, name_bindings, semicolon, comma, reference, references, reference_row}
use Rattle.gdmo_members.specs.Clauses.{behaviour_clause, parameters_clause, registration, ending, registered_ending}
use Rattle.gdmo_members.specs.Clauses.{context_word, context}
use Rattle.template_laws.proofs.TemplateTests.Tests.{Never, Word, Sign, Name, Number, AString, Either}
use Rattle.template_laws.proofs.TemplateTests.{refuted, openings, later, all_go_on, form_first, going_apart}
use Rattle.template_laws.proofs.TemplateTests.{alternatives, reference_alternatives, first_arc_alternatives}

pub label_reference_decided : IsDecided openings label_reference
label_reference_decided = (
  ((tt, tt, (λ t u e h. no e)), refl),
  tt,
  (ends_before openings later all_go_on (Maybe
      document_name) (Keep is_label) (λ t e h. refuted (AString) (form_first (Keep is_label)) t (λ at text. refl) e h)),
)

pub qualified_name_decided : IsDecided openings qualified_name
qualified_name_decided = (tt, (tt, tt, (λ t u e h. no e)), (λ t u e h. no e))

pub arc_decided : IsDecided openings arc
arc_decided = (
  tt,
  (tt, (tt, (tt, tt, (λ t u e h. no e)), (λ t u e h. no e)), (λ t u e h. no e)),
  (alternatives (Keep
      is_number) named_number (λ e h. no e) (λ t e h. refuted (Number) (form_first named_number) t (λ at text. refl) e
      h)),
)

pub first_arc_decided : IsDecided openings first_arc
first_arc_decided = (arc_decided, tt, first_arc_alternatives)

pub object_identifier_decided : IsDecided openings object_identifier
object_identifier_decided = (
  tt,
  (
    first_arc_decided,
    (
      (
        arc_decided,
        record {
          full = refl;
          apart = (ends_before
              openings later all_go_on arc arc (λ t e h. refuted (Sign (codes "(")) (form_first arc) t (λ at text.
              refl) e h));
        },
      ),
      tt,
      (ends_before openings later all_go_on (Many Empty arc) (sign (codes "}")) (λ t e h. refuted (Either (Sign
          (codes "(")) (Either (Number) (Name))) (form_first (sign (codes "}"))) t (λ at text. refl) e h)),
    ),
    (ends_before
        openings later all_go_on first_arc (Then (Many Empty arc) (sign (codes "}"))) (λ t e h. refuted (Either (Either
        (Either (Sign (codes "(")) (Never)) (Sign (codes "("))) (Never)) (form_first (Then (Many Empty arc) (sign (codes
        "}")))) t (λ at text. refl) e h)),
  ),
  (λ t u e h. no e),
)

pub reference_behaviours : IsDecided openings (reference behaviours)
reference_behaviours = (label_reference_decided, tt, (reference_alternatives (is_word_of (codes "BEHAVIOUR"))))

pub reference_attributes : IsDecided openings (reference attributes)
reference_attributes = (label_reference_decided, tt, (reference_alternatives (is_word_of (codes "ATTRIBUTE"))))

pub reference_parameters : IsDecided openings (reference parameters)
reference_parameters = (label_reference_decided, tt, (reference_alternatives (is_word_of (codes "PARAMETER"))))

pub reference_groups : IsDecided openings (reference groups)
reference_groups = (label_reference_decided, tt, (reference_alternatives (is_word_of (codes "ATTRIBUTE"))))

pub reference_actions : IsDecided openings (reference actions)
reference_actions = (label_reference_decided, tt, (reference_alternatives (is_word_of (codes "ACTION"))))

pub reference_notifications : IsDecided openings (reference notifications)
reference_notifications = (label_reference_decided, tt, (reference_alternatives (is_word_of (codes "NOTIFICATION"))))

pub reference_packages : IsDecided openings (reference packages)
reference_packages = (label_reference_decided, tt, (reference_alternatives (is_word_of (codes "PACKAGE"))))

pub reference_classes : IsDecided openings (reference classes)
reference_classes = (label_reference_decided, tt, (reference_alternatives (is_word_of (codes "MANAGED"))))

pub reference_name_bindings : IsDecided openings (reference name_bindings)
reference_name_bindings = (label_reference_decided, tt, (reference_alternatives (is_word_of (codes "NAME"))))

pub behaviour_clause_decided : IsDecided openings behaviour_clause
behaviour_clause_decided = (
  tt,
  (
    (
      reference_behaviours,
      (λ t u e h. going_apart t u comma (reference behaviours) (λ e
          h. refuted (Word (codes "BEHAVIOUR")) comma t (λ at text. refl) e h) e h),
    ),
    tt,
    (ends_before openings later
        all_go_on (references behaviours) semicolon (λ t e h. refuted (Either (Sign (codes ",")) (Word (codes
        "BEHAVIOUR"))) (form_first semicolon) t (λ at text. refl) e h)),
  ),
  (λ t u e h. no e),
)

pub parameters_clause_decided : IsDecided openings parameters_clause
parameters_clause_decided = (
  tt,
  (
    (
      reference_parameters,
      (λ t u e h. going_apart t u comma (reference parameters) (λ e
          h. refuted (Word (codes "PARAMETER")) comma t (λ at text. refl) e h) e h),
    ),
    tt,
    (ends_before openings later
        all_go_on (references parameters) semicolon (λ t e h. refuted (Either (Sign (codes ",")) (Word (codes
        "PARAMETER"))) (form_first semicolon) t (λ at text. refl) e h)),
  ),
  (λ t u e h. no e),
)

pub parameter_row_decided : IsDecided openings (reference_row parameters)
parameter_row_decided = (
  reference_parameters,
  record {
    full = refl;
    apart = (ends_before openings later all_go_on
        (reference parameters) (reference parameters) (λ t e h. refuted (Word (codes "PARAMETER")) (form_first
        (reference
        parameters)) t (λ at text. refl) e h));
  },
)

pub registration_decided : IsDecided openings registration
registration_decided = (tt, object_identifier_decided, (λ t u e h. no e))

pub ending_decided : IsDecided openings ending
ending_decided = (
  (registration_decided, refl),
  tt,
  (ends_before openings later all_go_on (Maybe registration)
      semicolon (λ t e h. refuted (Word (codes "REGISTERED")) (form_first semicolon) t (λ at text. refl) e h)),
)

pub registered_ending_decided : IsDecided openings registered_ending
registered_ending_decided = (registration_decided, tt, (λ t u e h. no e))

pub context_word_decided : IsDecided openings context_word
context_word_decided = (
  (tt, refl),
  tt,
  (ends_before openings later all_go_on (Maybe (Keep (is_sign_of (codes "."))))
      (Keep is_word) (λ t e h. refuted (Sign (codes ".")) (form_first (Keep is_word)) t (λ at text. refl) e h)),
)

pub context_decided : IsDecided openings context
context_decided = (tt, (context_word_decided, record { full = refl; apart = (λ t u e h. no e) }), (λ t u e h. no e))
