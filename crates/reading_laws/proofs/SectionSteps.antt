-- SectionSteps: in rules that tokens spell the number of ADD is a number of 64 bits, and a word alone behind REPLY isn't
-- ARGUMENT.
use Rattle.std.proofs.Common.{◌≡◌, ◌∙◌, ℕ, ◌+◌, List, [], ◌∷◌, Bool, true, false, ap, map, refl, subst, sym}
use Rattle.std.specs.Cmp.Lexicographic.{same_text}
use Rattle.std.specs.Prelude.{◌==◌, All, codes, flat_map, if◌then◌else◌, not}
use Rattle.std.specs.List.{AllByRecursion}
use Rattle.std.specs.Global.{Vec}
use Rattle.std.proofs.lemmas.Bool.{and_parts, eqb-true, true≢false}
use Rattle.std.proofs.lemmas.Grind.{flat_map-append}
use Rattle.std.proofs.lemmas.List.Elements.{All-append, All-cons, All-nil}
use Rattle.token_grammar.specs.Form.{Empty}
use Rattle.token_grammar.specs.Kinds.{number_kind, word_kind}
use Rattle.token_grammar.specs.TokenTests.{is_label, is_name, is_word_of}
use Rattle.token_grammar.specs.declared.token.Token.{Token}
use Rattle.extra_syntax.specs.SectionForms.{is_reserved_label, rule, section, sections, step}
use Rattle.extra_syntax.specs.SectionTrees.{rule_tree, section_tree, step_tree}
use Rattle.extra_syntax.specs.declared.rule.Rule.{Rule}
use Rattle.extra_syntax.specs.declared.section.Section.{Section}
use Rattle.extra_syntax.specs.declared.section.Section.TheVariants.{Rules, Instances}
use Rattle.extra_syntax.specs.declared.step.Reply.TheVariants.{Value as ReplyValue, Label as ReplyLabel}
use Rattle.extra_syntax.specs.declared.step.Step.{Step}
use Rattle.extra_syntax.specs.declared.step.Step.TheVariants.{Set as SetStep, Add, Emit, Reply as ReplyStep}
use Rattle.asn1_values_syntax.specs.declared.value.NamedValue.TheVariants.{Name, Choice' as Chosen}
use Rattle.asn1_values_syntax.specs.declared.value.ValueText.{ValueText}
use Rattle.asn1_values_syntax.specs.declared.value.ValueText.TheVariants.{Braces, Literal, Named, Number}
use Rattle.asn1_names.specs.StandardModule.{is_same_name}
use Rattle.document_units.specs.DocumentForms.{SpellsUnits}
use Rattle.document_units.specs.DocumentForms.SpellsUnits.{at_end, semicolon, unit}
use Rattle.document_units.specs.UnitForms.{SpellsUnit, UnitTerm}
use Rattle.document_units.specs.UnitForms.SpellsUnit.{of_class, of_member, of_module, of_section}
use Rattle.document_units.specs.UnitForms.UnitTerm.{ClassUnit, MemberUnit, ModuleUnit, SectionUnit}
use Rattle.document_units.specs.UnitOutcome.{unit_term}
use Rattle.document_units.specs.declared.unit.DocumentUnit.{DocumentUnit}
use Rattle.document_units.specs.declared.unit.DocumentUnit.TheVariants as units
use Rattle.document_parts.specs.declared.documents.Doc.{Doc}
use Rattle.document_parts.specs.DocumentParts.{AreParts, in_documents, numbered_section, sections_in}
use Rattle.document_parts.specs.ReadDocuments.{AreLexed, AreRead}
use Rattle.document_parts.specs.ReadDocuments.AreLexed.{no_document as lexed_end, document as lexed_document}
use Rattle.document_parts.specs.ReadDocuments.AreRead.{no_document as read_end, document as read_document}
use Rattle.gdmo_first_names.specs.ReadModules.{IsWhole}
use Rattle.gdmo_names.specs.declared.parsed.Parsed.{Parsed}
use Rattle.gdmo_names.specs.PartTerms.{RuleTerm, StepTerm, TakenTerm}
use Rattle.gdmo_names.specs.PartTerms.StepTerm.{AddTo, EmitOf, ReplyWith, SetTo}
use Rattle.gdmo_names.specs.PartTerms.TakenTerm.{OneWord, OtherValue, TheArgument}
use Rattle.gdmo_names.specs.PartViews.{part_terms, rule_term, section_rules, step_term, taken_term, word_taken}
use Rattle.arc_laws.proofs.Identifiers.{number_whole}
use Rattle.arc_laws.proofs.NumberTokens.{numbers_whole}
use Rattle.arc_laws.proofs.Saying.{Spelt, each_said, either_said, keep_said, listed_said, many_said, named_said}
use Rattle.arc_laws.proofs.Saying.{pair_said}

-- ---- steps

-- the word isn't ARGUMENT
abbrev IsNoArgument : Token → Type 0
IsNoArgument word = is_word_of (codes "ARGUMENT") word ≡ false

-- what is said of a step
abbrev pub IsReadTaken : TakenTerm → Type 0
IsReadTaken (OneWord word) = IsNoArgument word
IsReadTaken (TheArgument word) = Unit {0}
IsReadTaken (OtherValue value) = Unit {0}

abbrev pub IsReadStep : StepTerm → Type 0
IsReadStep (SetTo label taken) = Unit {0}
IsReadStep (AddTo number label) = IsWhole number
IsReadStep (EmitOf label value) = Unit {0}
IsReadStep (ReplyWith taken) = IsReadTaken taken

pub record IsReadRule (x : RuleTerm) : Type 0 where
  pub steps : All IsReadStep x.steps

word_read : (word : Token) → IsReadTaken (word_taken word)
word_read word = by (is_word_of (codes "ARGUMENT") word) refl
  where
    by : (test : Bool) → is_word_of (codes "ARGUMENT") word ≡ test →
        IsReadTaken (if test then TheArgument word else OneWord word)
    by true is = tt
    by false is = is

value_read : (value : ValueText) → IsReadTaken (taken_term value)
value_read (Named (Name word)) = word_read word
value_read (Named (Chosen name colon value)) = tt
value_read (Literal token) = tt
value_read (Number number) = tt
value_read (Braces opened content) = tt

-- ARGUMENT is a name, and a label that stands behind REPLY as one is none
argument_text : (word : Token) → is_word_of (codes "ARGUMENT") word ≡ true →
    (word.kind ≡ word_kind) × (word.text ≡ codes "ARGUMENT")
argument_text word is =
    let both = and_parts (word.kind == word_kind) (is_same_name word.text (codes "ARGUMENT")) is in
    (eqb-true word.kind word_kind both.0, same_text word.text (codes "ARGUMENT") (sym both.1))

argument_named : (word : Token) → is_word_of (codes "ARGUMENT") word ≡ true → is_name word ≡ true
argument_named word is =
    let text = argument_text word is in
    ap (λ (w : Token). is_name w)
    (λ i. record { kind = text.0 i; at = word.at; text = text.1 i })

label_read : (word : Token) → is_reserved_label word ≡ true → IsNoArgument word
label_read word reserved = by (is_word_of (codes "ARGUMENT") word) refl
  where
    by : (test : Bool) → is_word_of (codes "ARGUMENT") word ≡ test → test ≡ false
    by true is = absurd (true≢false (sym (and_parts (is_label word) (not (is_name word)) reserved).1
        ∙ ap not (argument_named word is)))
    by false is = refl

-- ---- what tokens spell

module _ (tokens : List Token) (whole : All (λ x. x.kind ≡ number_kind → IsWhole x) tokens) where
  step_read : (x : Step) → Spelt tokens sections step (step_tree x) → IsReadStep (step_term x)
  step_read (SetStep x) said = tt
  step_read (Add x) said =
      let add = either_said tokens sections (either_said tokens sections said) in
      let behind = pair_said tokens sections (pair_said tokens sections add).1 in
      number_whole tokens sections whole behind.0
  step_read (Emit x) said = tt
  step_read (ReplyStep (ReplyValue value)) said = value_read value
  step_read (ReplyStep (ReplyLabel label)) said =
      let reply = either_said tokens sections (either_said tokens sections (either_said tokens sections said)) in
      let own = either_said tokens sections (pair_said tokens sections reply).1 in
      label_read label (keep_said tokens sections own).passed

  all_steps : (xs : List Step) → AllByRecursion (λ x. IsReadStep (step_term x)) xs → All IsReadStep (map step_term xs)
  all_steps [] all = All-nil IsReadStep
  all_steps (x ∷ xs) all =
      All-cons IsReadStep (step_term x) (map step_term xs) all.0 (all_steps xs all.1)

  rule_read : (n : ℕ) (x : Rule) → Spelt tokens sections rule (rule_tree x) → IsReadRule (rule_term n x)
  rule_read n x said =
      let behind = pair_said tokens sections (pair_said tokens sections said).1 in record {
        steps = all_steps x.steps.items (each_said tokens sections step step_tree (λ y. IsReadStep (step_term y)) Empty
            x.steps.items step_read (listed_said tokens sections behind.0)).1;
      }

  all_rules : (n : ℕ) (xs : List Rule) → AllByRecursion (λ x. IsReadRule (rule_term n x)) xs →
      All IsReadRule (map (rule_term n) xs)
  all_rules n [] all = All-nil IsReadRule
  all_rules n (x ∷ xs) all =
      All-cons IsReadRule (rule_term n x) (map (rule_term n) xs) all.0 (all_rules n xs all.1)

  -- ---- sections

  section_read : (n : ℕ) (x : Section) → Spelt tokens sections section (section_tree x) →
      All IsReadRule (section_rules (numbered_section n x))
  section_read n (Rules x) said =
      let own = named_said tokens sections (either_said tokens sections said) in
      let behind = pair_said tokens sections (pair_said tokens sections own).1 in
      all_rules n x.rules.items (each_said tokens sections rule rule_tree (λ y. IsReadRule (rule_term n y)) Empty
      x.rules.items (rule_read n) (many_said tokens sections behind.0)).1
  section_read n (Instances x) said = All-nil IsReadRule

  -- the tokens spell a unit that may have rules
  abbrev IsSectionSpelt : UnitTerm → Type 0
  IsSectionSpelt (ClassUnit a) = Unit {0}
  IsSectionSpelt (MemberUnit a) = Unit {0}
  IsSectionSpelt (ModuleUnit a) = Unit {0}
  IsSectionSpelt (SectionUnit a) = Spelt tokens sections section a

  abbrev AreSectionsSpelt : List UnitTerm → Type 0
  AreSectionsSpelt [] = Unit {0}
  AreSectionsSpelt (u ∷ us) = IsSectionSpelt u × AreSectionsSpelt us

  unit_spelt : {i k : ℕ} {u : UnitTerm} → SpellsUnit tokens i k u → IsSectionSpelt u
  unit_spelt (of_class one) = tt
  unit_spelt (of_member one) = tt
  unit_spelt (of_module other one) = tt
  unit_spelt (of_section one) = record { start = _; end = _; spelt = one }

  units_spelt : {i : ℕ} {us : List UnitTerm} → SpellsUnits tokens i us → AreSectionsSpelt us
  units_spelt (at_end past) = tt
  units_spelt (semicolon here rest) = units_spelt rest
  units_spelt (unit {u = u} one rest) = (unit_spelt {u = u} one, units_spelt rest)

  units_read : (n : ℕ) (us : List DocumentUnit) → AreSectionsSpelt (map unit_term us) →
      All IsReadRule (flat_map section_rules (flat_map (sections_in n) us))
  units_read n [] spelt = All-nil IsReadRule
  units_read n (units.Class x ∷ us) spelt = units_read n us spelt.1
  units_read n (units.Member x ∷ us) spelt = units_read n us spelt.1
  units_read n (units.Module x ∷ us) spelt = units_read n us spelt.1
  units_read n (units.Section x ∷ us) spelt =
      All-append IsReadRule _ _ (section_read n x spelt.0) (units_read n us spelt.1)

documents_read : (n : ℕ) {docs : List Doc} {lists : List (Vec Token)} {all : List (List DocumentUnit)} →
    AreLexed docs lists → AreRead lists all → All IsReadRule (flat_map section_rules (in_documents sections_in n all))
documents_read n lexed_end read_end = All-nil IsReadRule
documents_read n (lexed_document {tokens = tokens} lexed lists) (read_document {us = us} {documents = all} read others) =
    subst (All IsReadRule) (sym (flat_map-append section_rules (flat_map (sections_in n) us)
    (in_documents sections_in (n + 1) all)))
    (All-append IsReadRule _ _
    (units_read tokens.items (numbers_whole lexed) n us (units_spelt tokens.items (numbers_whole lexed) read.spelt))
    (documents_read (n + 1) lists others))

-- the rules of documents that were read
pub rules_read : (docs : List Doc) (lists : List (Vec Token)) (documents : List (List DocumentUnit)) (parts : Parsed) →
    AreLexed docs lists → AreRead lists documents → AreParts documents parts →
    All IsReadRule (part_terms parts).rules
rules_read docs lists documents parts lexed read gathered =
    subst (λ xs. All IsReadRule (flat_map section_rules xs)) (sym gathered.sections) (documents_read 1 lexed read)
