-- Classes and name bindings are decided by their first two tokens: X.722, sections 8.3 and 8.6.
use Rattle.std.proofs.Common.{true, false, [], ◌∷◌, None, refl, codes}
use Rattle.token_grammar.specs.Form.{Marks, Keep, Then, Maybe, Listed, AnyOrder, Slots, Slot, NoSlots, Empty}
use Rattle.token_grammar.specs.TokenTests.{is_one_of, is_string}
use Rattle.token_grammar.specs.Parts.{words}
use Rattle.grammar_laws.specs.Opening.{front, clauses_opening}
use Rattle.grammar_laws.specs.Decided.{AreDecided, IsDecided}
use Rattle.grammar_laws.proofs.GoingOn.{ends_before}
use Rattle.grammar_laws.proofs.TestLaws.{no}
use Rattle.gdmo_members.specs.Clauses.{attributes, parameters, packages, classes, semicolon, comma, clause, reference}
use Rattle.gdmo_members.specs.Clauses.{references, reference_row, behaviour_clause, registered_ending}
use Rattle.gdmo_members.specs.Templates.{conditional_package, class_clauses, class_form, class_with_subclasses}
use Rattle.gdmo_members.specs.Templates.{modifier_before, create_modifiers, delete_modifier, name_binding_clauses}
use Rattle.gdmo_members.specs.Templates.{name_binding_form}
use Rattle.template_laws.proofs.TemplateTests.Tests.{Never, Word, Words, Sign, Label, AString, Either}
use Rattle.template_laws.proofs.TemplateTests.{refuted, openings, later, all_go_on, first_of_clauses, form_first}
use Rattle.template_laws.proofs.TemplateTests.{clauses_first, clauses_apart, going_apart, alternatives}
use Rattle.template_laws.proofs.PartsDecided.{reference_attributes, reference_packages, reference_classes}
use Rattle.template_laws.proofs.PartsDecided.{behaviour_clause_decided, parameter_row_decided}
use Rattle.template_laws.proofs.PartsDecided.{registered_ending_decided}

pub conditional_package_decided : IsDecided openings conditional_package
conditional_package_decided = (
  reference_packages,
  (tt, tt, (λ t u e h. no e)),
  (ends_before openings later all_go_on
      (reference packages) (Then (Marks (words (codes "PRESENT" ∷ codes "IF" ∷ []))) (Keep is_string)) (λ t e h. refuted
      (Word (codes "PACKAGE")) (form_first (Then (Marks (words (codes "PRESENT" ∷ codes "IF" ∷ []))) (Keep is_string)))
      t (λ at text. refl) e h)),
)

abbrev pub class_clauses_behind_2 : Slots
class_clauses_behind_2 = Slot false (clause (codes "CONDITIONAL" ∷ codes "PACKAGES" ∷ []) (Listed comma Empty
    conditional_package)) None NoSlots

pub class_clauses_behind_2_decided : AreDecided openings class_clauses_behind_2 (front (clauses_opening openings
    class_clauses))
class_clauses_behind_2_decided = (
  (
    tt,
    (
      (conditional_package_decided, (λ t u e h. no e)),
      tt,
      (ends_before openings
          later all_go_on (Listed comma Empty conditional_package) semicolon (λ t e h. refuted (Either (Sign (codes
          ","))
          (Never)) (form_first semicolon) t (λ at text. refl) e h)),
    ),
    (λ t u e h. no e),
  ),
  record {
    full = refl;
    apart = λ t
        u e h. no e;
  },
  λ t u e h. no (first_of_clauses NoSlots t u h),
  tt,
)

abbrev pub class_clauses_behind_1 : Slots
class_clauses_behind_1 =
    Slot false (clause (codes "CHARACTERIZED" ∷ codes "BY" ∷ []) (references packages)) None class_clauses_behind_2

pub class_clauses_behind_1_decided : AreDecided openings class_clauses_behind_1 (front (clauses_opening openings
    class_clauses))
class_clauses_behind_1_decided = (
  (
    tt,
    (
      (
        reference_packages,
        (λ t u e h. going_apart t u comma (reference packages) (λ
            e h. refuted (Word (codes "PACKAGE")) comma t (λ at text. refl) e h) e h),
      ),
      tt,
      (ends_before openings later
          all_go_on (references packages) semicolon (λ t e h. refuted (Either (Sign (codes ",")) (Word (codes
          "PACKAGE")))
          (form_first semicolon) t (λ at text. refl) e h)),
    ),
    (λ t u e h. no e),
  ),
  record {
    full = refl;
    apart = λ t u e h. no
        e;
  },
  clauses_apart (clause (codes "CHARACTERIZED" ∷ codes "BY" ∷ []) (references packages)) class_clauses_behind_2
      (λ t e h. refuted (Word (codes "CHARACTERIZED")) (clauses_first class_clauses_behind_2) t (λ at text. refl) e h),
  class_clauses_behind_2_decided,
)

pub class_clauses_decided : IsDecided openings (AnyOrder class_clauses)
class_clauses_decided = (
  (
    tt,
    (
      (
        reference_classes,
        (λ t u e h. going_apart t u comma (reference classes) (λ e h.
            refuted (Word (codes "MANAGED")) comma t (λ at text. refl) e h) e h),
      ),
      tt,
      (ends_before openings later all_go_on
          (references classes) semicolon (λ t e h. refuted (Either (Sign (codes ",")) (Word (codes "MANAGED")))
          (form_first
          semicolon) t (λ at text. refl) e h)),
    ),
    (λ t u e h. no e),
  ),
  record { full = refl; apart = λ t u e h. no e },
  clauses_apart (clause (codes "DERIVED" ∷ codes "FROM" ∷ []) (references classes)) class_clauses_behind_1 (λ t e h.
      refuted (Word (codes "DERIVED")) (clauses_first class_clauses_behind_1) t (λ at text. refl) e h),
  class_clauses_behind_1_decided,
)

pub class_decided : IsDecided openings class_form
class_decided = (
  tt,
  (
    tt,
    (
      class_clauses_decided,
      registered_ending_decided,
      (ends_before openings later all_go_on
          (AnyOrder class_clauses) registered_ending (λ t e h. refuted (Words (codes "DERIVED" ∷ codes "CHARACTERIZED" ∷
          codes "CONDITIONAL" ∷ [])) (form_first registered_ending) t (λ at text. refl) e h)),
    ),
    (λ t u e h. no e),
  ),
  (λ t u e
      h. no e),
)

pub class_with_subclasses_decided : IsDecided openings class_with_subclasses
class_with_subclasses_decided = (
  reference_classes,
  ((tt, tt, (λ t u e h. no e)), refl),
  (ends_before openings later
      all_go_on (reference classes) (Maybe (Then (Marks (words (codes "AND" ∷ []))) (Keep (is_one_of (codes "SUBCLASSES"
      ∷ []))))) (λ t e h. refuted (Word (codes "MANAGED")) (form_first (Maybe (Then (Marks (words (codes "AND" ∷ [])))
      (Keep (is_one_of (codes "SUBCLASSES" ∷ [])))))) t (λ at text. refl) e h)),
)

pub create_modifiers_decided : IsDecided openings create_modifiers
create_modifiers_decided = (
  (
    tt,
    (
      (
        (tt, refl),
        tt,
        (ends_before openings later all_go_on (Maybe (Keep comma)) (Keep
            (is_one_of (codes "WITH-AUTOMATIC-INSTANCE-NAMING" ∷ []))) (λ t e h. refuted (Sign (codes ","))
            (form_first (Keep
            (is_one_of (codes "WITH-AUTOMATIC-INSTANCE-NAMING" ∷ [])))) t (λ at text. refl) e h)),
      ),
      refl,
    ),
    (λ t u e h. no e),
  ),
  (
    tt,
    (
      (
        (tt, refl),
        tt,
        (ends_before openings later all_go_on (Maybe (Keep comma)) (Keep (is_one_of (codes
            "WITH-REFERENCE-OBJECT" ∷ []))) (λ t e h. refuted (Sign (codes ",")) (form_first (Keep (is_one_of (codes
            "WITH-REFERENCE-OBJECT" ∷ [])))) t (λ at text. refl) e h)),
      ),
      refl,
    ),
    (λ t u e h. no e),
  ),
  (alternatives
      (modifier_before (codes "WITH-REFERENCE-OBJECT") (codes "WITH-AUTOMATIC-INSTANCE-NAMING")) (modifier_before (codes
      "WITH-AUTOMATIC-INSTANCE-NAMING") (codes "WITH-REFERENCE-OBJECT")) (λ e h. no e) (λ t e h. refuted (Words (codes
      "WITH-REFERENCE-OBJECT" ∷ [])) (form_first (modifier_before (codes "WITH-AUTOMATIC-INSTANCE-NAMING") (codes
      "WITH-REFERENCE-OBJECT"))) t (λ at text. refl) e h)),
)

abbrev pub name_binding_clauses_behind_5 : Slots
name_binding_clauses_behind_5 =
    Slot false (clause (codes "DELETE" ∷ []) (Then (Maybe delete_modifier) (reference_row parameters))) None NoSlots

pub name_binding_clauses_behind_5_decided : AreDecided openings name_binding_clauses_behind_5 (front (clauses_opening
    openings name_binding_clauses))
name_binding_clauses_behind_5_decided = (
  (
    tt,
    (
      (
        (tt, refl),
        parameter_row_decided,
        (ends_before openings later
            all_go_on (Maybe delete_modifier) (reference_row parameters) (λ t e h. refuted (Words (codes
            "ONLY-IF-NO-CONTAINED-OBJECTS" ∷ codes "DELETES-CONTAINED-OBJECTS" ∷ [])) (form_first (reference_row
            parameters))
            t (λ at text. refl) e h)),
      ),
      tt,
      (ends_before openings later all_go_on (Then (Maybe delete_modifier) (reference_row
          parameters)) semicolon (λ t e h. refuted (Either (Either (Word (codes "PARAMETER")) (Either (Either (AString)
          (Label)) (Label))) (Words (codes "ONLY-IF-NO-CONTAINED-OBJECTS" ∷ codes "DELETES-CONTAINED-OBJECTS" ∷ [])))
          (form_first semicolon) t (λ at text. refl) e h)),
    ),
    (λ t u e h. no e),
  ),
  record {
    full = refl;
    apart = λ t u e h. no
        e;
  },
  λ t u e h. no (first_of_clauses NoSlots t u h),
  tt,
)

abbrev pub name_binding_clauses_behind_4 : Slots
name_binding_clauses_behind_4 = Slot false (clause (codes "CREATE" ∷ []) (Then (Maybe create_modifiers) (reference_row
    parameters))) None name_binding_clauses_behind_5

pub name_binding_clauses_behind_4_decided : AreDecided openings name_binding_clauses_behind_4 (front (clauses_opening
    openings name_binding_clauses))
name_binding_clauses_behind_4_decided = (
  (
    tt,
    (
      (
        (create_modifiers_decided, refl),
        parameter_row_decided,
        (ends_before
            openings later all_go_on (Maybe create_modifiers) (reference_row parameters) (λ t e h. refuted (Either
            (Either
            (Either (Either (Either (Either (Sign (codes ",")) (Words (codes "WITH-AUTOMATIC-INSTANCE-NAMING" ∷ [])))
            (Never))
            (Either (Either (Sign (codes ",")) (Words (codes "WITH-REFERENCE-OBJECT" ∷ []))) (Never))) (Either (Sign
            (codes
            ",")) (Words (codes "WITH-AUTOMATIC-INSTANCE-NAMING" ∷ [])))) (Either (Sign (codes ",")) (Words (codes
            "WITH-REFERENCE-OBJECT" ∷ [])))) (Either (Words (codes "WITH-REFERENCE-OBJECT" ∷ [])) (Words (codes
            "WITH-AUTOMATIC-INSTANCE-NAMING" ∷ [])))) (form_first (reference_row parameters)) t (λ at text. refl) e h)),
      ),
      tt,
      (ends_before openings later all_go_on (Then (Maybe create_modifiers) (reference_row parameters)) semicolon (λ t e
          h. refuted (Either (Either (Word (codes "PARAMETER")) (Either (Either (AString) (Label)) (Label))) (Either
          (Either
          (Either (Either (Either (Either (Sign (codes ",")) (Words (codes "WITH-AUTOMATIC-INSTANCE-NAMING" ∷ [])))
          (Never))
          (Either (Either (Sign (codes ",")) (Words (codes "WITH-REFERENCE-OBJECT" ∷ []))) (Never))) (Either (Sign
          (codes
          ",")) (Words (codes "WITH-AUTOMATIC-INSTANCE-NAMING" ∷ [])))) (Either (Sign (codes ",")) (Words (codes
          "WITH-REFERENCE-OBJECT" ∷ [])))) (Either (Words (codes "WITH-REFERENCE-OBJECT" ∷ [])) (Words (codes
          "WITH-AUTOMATIC-INSTANCE-NAMING" ∷ []))))) (form_first semicolon) t (λ at text. refl) e h)),
    ),
    (λ t u e h. no e),
  ),
  record { full = refl; apart = λ t u e h. no e },
  clauses_apart (clause (codes "CREATE" ∷ []) (Then (Maybe
      create_modifiers) (reference_row parameters))) name_binding_clauses_behind_5 (λ t e h. refuted (Word (codes
      "CREATE")) (clauses_first name_binding_clauses_behind_5) t (λ at text. refl) e h),
  name_binding_clauses_behind_5_decided,
)

abbrev pub name_binding_clauses_behind_3 : Slots
name_binding_clauses_behind_3 = Slot false behaviour_clause None name_binding_clauses_behind_4

pub name_binding_clauses_behind_3_decided : AreDecided openings name_binding_clauses_behind_3 (front (clauses_opening
    openings name_binding_clauses))
name_binding_clauses_behind_3_decided = (
  behaviour_clause_decided,
  record { full = refl; apart = λ t u e h. no e },
  clauses_apart behaviour_clause name_binding_clauses_behind_4 (λ t e h. refuted (Word (codes "BEHAVIOUR"))
      (clauses_first name_binding_clauses_behind_4) t (λ at text. refl) e h),
  name_binding_clauses_behind_4_decided,
)

abbrev pub name_binding_clauses_behind_2 : Slots
name_binding_clauses_behind_2 =
    Slot true (clause (codes "WITH" ∷ codes "ATTRIBUTE" ∷ []) (reference attributes)) None name_binding_clauses_behind_3

pub name_binding_clauses_behind_2_decided : AreDecided openings name_binding_clauses_behind_2 (front (clauses_opening
    openings name_binding_clauses))
name_binding_clauses_behind_2_decided = (
  (
    tt,
    (
      reference_attributes,
      tt,
      (ends_before openings later all_go_on
          (reference attributes) semicolon (λ t e h. refuted (Word (codes "ATTRIBUTE")) (form_first semicolon) t (λ at
          text.
          refl) e h)),
    ),
    (λ t u e h. no e),
  ),
  record { full = refl; apart = λ t u e h. no e },
  clauses_apart (clause (codes
      "WITH" ∷ codes "ATTRIBUTE" ∷ []) (reference attributes)) name_binding_clauses_behind_3 (λ t e h. refuted (Word
      (codes "WITH")) (clauses_first name_binding_clauses_behind_3) t (λ at text. refl) e h),
  name_binding_clauses_behind_3_decided,
)

abbrev pub name_binding_clauses_behind_1 : Slots
name_binding_clauses_behind_1 = Slot true (clause (codes "NAMED" ∷ codes "BY" ∷ codes "SUPERIOR" ∷ codes "OBJECT" ∷
    codes "CLASS" ∷ []) class_with_subclasses) None name_binding_clauses_behind_2

pub name_binding_clauses_behind_1_decided : AreDecided openings name_binding_clauses_behind_1 (front (clauses_opening
    openings name_binding_clauses))
name_binding_clauses_behind_1_decided = (
  (
    tt,
    (
      class_with_subclasses_decided,
      tt,
      (ends_before openings later
          all_go_on class_with_subclasses semicolon (λ t e h. refuted (Either (Word (codes "AND")) (Word (codes
          "MANAGED")))
          (form_first semicolon) t (λ at text. refl) e h)),
    ),
    (λ t u e h. no e),
  ),
  record {
    full = refl;
    apart = λ t u e h. no
        e;
  },
  clauses_apart (clause (codes "NAMED" ∷ codes "BY" ∷ codes "SUPERIOR" ∷ codes "OBJECT" ∷ codes "CLASS" ∷ [])
      class_with_subclasses) name_binding_clauses_behind_2 (λ t e h. refuted (Word (codes "NAMED")) (clauses_first
      name_binding_clauses_behind_2) t (λ at text. refl) e h),
  name_binding_clauses_behind_2_decided,
)

pub name_binding_clauses_decided : IsDecided openings (AnyOrder name_binding_clauses)
name_binding_clauses_decided = (
  (
    tt,
    (
      class_with_subclasses_decided,
      tt,
      (ends_before openings later all_go_on
          class_with_subclasses semicolon (λ t e h. refuted (Either (Word (codes "AND")) (Word (codes "MANAGED")))
          (form_first semicolon) t (λ at text. refl) e h)),
    ),
    (λ t u e h. no e),
  ),
  record {
    full = refl;
    apart = λ t u e h. no
        e;
  },
  clauses_apart (clause (codes "SUBORDINATE" ∷ codes "OBJECT" ∷ codes "CLASS" ∷ []) class_with_subclasses)
      name_binding_clauses_behind_1 (λ t e h. refuted (Word (codes "SUBORDINATE")) (clauses_first
      name_binding_clauses_behind_1) t (λ at text. refl) e h),
  name_binding_clauses_behind_1_decided,
)

pub name_binding_decided : IsDecided openings name_binding_form
name_binding_decided = (
  tt,
  (
    tt,
    (
      name_binding_clauses_decided,
      registered_ending_decided,
      (ends_before openings later
          all_go_on (AnyOrder name_binding_clauses) registered_ending (λ t e h. refuted (Words (codes "SUBORDINATE" ∷
          codes
          "NAMED" ∷ codes "WITH" ∷ codes "BEHAVIOUR" ∷ codes "CREATE" ∷ codes "DELETE" ∷ [])) (form_first
          registered_ending)
          t (λ at text. refl) e h)),
    ),
    (λ t u e h. no e),
  ),
  (λ t u e h. no e),
)
