-- UnitForms: the units of a document: templates, modules and sections (X.722, section 8.2; docs/PROFILE.md, section 2).
-- Templates, modules and sections have their tables of forms. RULES and INSTANCES begin sections, and no modules.
use Rattle.std.specs.Prelude.{◌≡◌, ℕ, Bool, false, List, [], ◌∷◌, ◌||◌, ◌&&◌, ◌+◌, codes, not, slice_get}
use Rattle.token_grammar.specs.declared.token.Token.{Token}
use Rattle.token_grammar.specs.Beginning.{Begins}
use Rattle.token_grammar.specs.Form.{Tree, Named}
use Rattle.token_grammar.specs.Spelling.{Spells, passes}
use Rattle.token_grammar.specs.TokenTests.{is_label, is_name, is_one_of, is_sign_of, is_word_of}
use Rattle.asn1_values_syntax.specs.Asn1.{asn1}
use Rattle.asn1_values_syntax.specs.ValueForms.{modules}
use Rattle.extra_syntax.specs.SectionForms.{section, sections}
use Rattle.gdmo_classes.specs.ClassForms.{class_level}
use Rattle.gdmo_members.specs.Templates.{member, templates}

-- the words with which sections begin
abbrev pub is_section_word : Token → Bool
is_section_word = is_one_of (codes "RULES" ∷ codes "INSTANCES" ∷ [])

-- what a unit says
pub data UnitTerm : Type 0 where
  -- a template of a managed object class, a package or a name binding
  ClassUnit : Tree → UnitTerm
  -- a template of one of the other six kinds
  MemberUnit : Tree → UnitTerm
  ModuleUnit : Tree → UnitTerm
  SectionUnit : Tree → UnitTerm

-- the tokens from one place to another spell a unit, and this is what they say
pub data SpellsUnit (tokens : List Token) : ℕ → ℕ → UnitTerm → Type 0 where
  of_class : {i k : ℕ} {a : Tree} → Spells tokens templates class_level i k a → SpellsUnit tokens i k (ClassUnit a)
  of_member : {i k : ℕ} {a : Tree} → Spells tokens templates member i k a → SpellsUnit tokens i k (MemberUnit a)
  of_module : {i k : ℕ} {a : Tree} → passes is_section_word (slice_get tokens i) ≡ false →
      Spells tokens asn1 (Named modules) i k a → SpellsUnit tokens i k (ModuleUnit a)
  of_section : {i k : ℕ} {a : Tree} → Spells tokens sections section i k a → SpellsUnit tokens i k (SectionUnit a)

-- the tokens from one place to another begin a unit
pub data BeginsUnit (tokens : List Token) : ℕ → ℕ → Type 0 where
  a_class : {i k : ℕ} → Begins tokens templates class_level i k → BeginsUnit tokens i k
  a_member : {i k : ℕ} → Begins tokens templates member i k → BeginsUnit tokens i k
  a_module : {i k : ℕ} → passes is_section_word (slice_get tokens i) ≡ false →
      Begins tokens asn1 (Named modules) i k → BeginsUnit tokens i k
  a_section : {i k : ℕ} → Begins tokens sections section i k → BeginsUnit tokens i k

-- by which tokens the units are told apart: the word behind the label of a managed object class, a package or a name
-- binding, and what stands behind the name of a module
abbrev pub is_class_word : Token → Bool
is_class_word = is_one_of (codes "MANAGED" ∷ codes "PACKAGE" ∷ codes "NAME" ∷ [])

abbrev pub is_behind_name : Token → Bool
is_behind_name token = is_word_of (codes "DEFINITIONS") token || is_sign_of (codes "{") token

-- a module begins here, or no label stands here
abbrev pub has_no_template : List Token → ℕ → Bool
has_no_template tokens i = (passes is_name (slice_get tokens i) && passes is_behind_name (slice_get tokens (i + 1)))
    || not (passes is_label (slice_get tokens i))
