-- UnitTerms: units of one tree agree, and units that agree say one thing, where their documents have one number (X.722,
-- section 8.2; docs/PROFILE.md, section 2).
use Rattle.std.specs.Prelude.{flat_map}
use Rattle.std.proofs.Common.{◌≡◌, ℕ, List, [], ◌∷◌, ◌++◌, refl, map}
use Rattle.token_grammar.specs.Form.{Tree}
use Rattle.token_grammar.specs.PartLaws.{ListsAgree}
use Rattle.asn1_syntax.specs.declared.module.Module.{Module as ModuleText}
use Rattle.asn1_syntax.specs.ModuleAgreement.{ModulesAgree}
use Rattle.asn1_syntax.proofs.ModuleValues.{modules_agree}
use Rattle.extra_syntax.specs.declared.section.Section.{Section as SectionText}
use Rattle.extra_syntax.specs.Agreement.{SectionsAgree}
use Rattle.extra_syntax.proofs.OneSection.{sections_agree}
use Rattle.gdmo_classes.specs.declared.template.ClassTemplate.{ClassTemplate}
use Rattle.gdmo_classes.specs.Agreement.{TemplatesAgree}
use Rattle.gdmo_classes.proofs.TemplateValues.{one_template}
use Rattle.gdmo_members.specs.declared.member.MemberTemplate.{MemberTemplate}
use Rattle.gdmo_members.specs.Agreement.{MembersAgree}
use Rattle.gdmo_members.proofs.FurtherValues.{one_member}
use Rattle.document_units.specs.declared.unit.DocumentUnit.{DocumentUnit}
use Rattle.document_units.specs.declared.unit.DocumentUnit.TheVariants.{Class, Member, Module, Section}
use Rattle.document_units.specs.UnitForms.UnitTerm.{ClassUnit, MemberUnit, ModuleUnit, SectionUnit}
use Rattle.document_units.specs.UnitOutcome.{unit_term}
use Rattle.gdmo_names.specs.PartViews.{class_placed, member_placed, module_part, section_instances, section_rules}
use Rattle.document_parts.specs.DocumentParts.{classes_in, members_in, modules_in, sections_in}
use Rattle.accepted_laws.proofs.ClassTerms.{classes_say}
use Rattle.accepted_laws.proofs.ListTerms.{SayOne}
use Rattle.accepted_laws.proofs.MemberTerms.{members_say}
use Rattle.accepted_laws.proofs.ModuleLaws.{modules_say}
use Rattle.accepted_laws.proofs.SectionTerms.{instance_sections_say, rule_sections_say}

-- two units of one kind that agree
pub data UnitsAgree : DocumentUnit → DocumentUnit → Type 0 where
  two_classes : {x y : ClassTemplate} → TemplatesAgree x y → UnitsAgree (Class x) (Class y)
  two_members : {x y : MemberTemplate} → MembersAgree x y → UnitsAgree (Member x) (Member y)
  two_modules : {x y : ModuleText} → ModulesAgree x y → UnitsAgree (Module x) (Module y)
  two_sections : {x y : SectionText} → SectionsAgree x y → UnitsAgree (Section x) (Section y)

-- ---- units of one tree agree

class_same : {a b : Tree} → ClassUnit a ≡ ClassUnit b → a ≡ b
class_same e = cc

member_same : {a b : Tree} → MemberUnit a ≡ MemberUnit b → a ≡ b
member_same e = cc

module_same : {a b : Tree} → ModuleUnit a ≡ ModuleUnit b → a ≡ b
module_same e = cc

section_same : {a b : Tree} → SectionUnit a ≡ SectionUnit b → a ≡ b
section_same e = cc

units_agree : (x y : DocumentUnit) → unit_term x ≡ unit_term y → UnitsAgree x y
units_agree (Class x) (Class y) e = two_classes (one_template x y (class_same e))
units_agree (Class _) (Member _) e = absurd (cc e)
units_agree (Class _) (Module _) e = absurd (cc e)
units_agree (Class _) (Section _) e = absurd (cc e)
units_agree (Member _) (Class _) e = absurd (cc e)
units_agree (Member x) (Member y) e = two_members (one_member x y (member_same e))
units_agree (Member _) (Module _) e = absurd (cc e)
units_agree (Member _) (Section _) e = absurd (cc e)
units_agree (Module _) (Class _) e = absurd (cc e)
units_agree (Module _) (Member _) e = absurd (cc e)
units_agree (Module x) (Module y) e = two_modules (modules_agree x y (module_same e))
units_agree (Module _) (Section _) e = absurd (cc e)
units_agree (Section _) (Class _) e = absurd (cc e)
units_agree (Section _) (Member _) e = absurd (cc e)
units_agree (Section _) (Module _) e = absurd (cc e)
units_agree (Section x) (Section y) e = two_sections (sections_agree x y (section_same e))

pub unit_lists_agree : (us vs : List DocumentUnit) → map unit_term us ≡ map unit_term vs → ListsAgree UnitsAgree us vs
unit_lists_agree [] [] e = tt
unit_lists_agree [] (v ∷ vs) e = absurd (cc e)
unit_lists_agree (u ∷ us) [] e = absurd (cc e)
unit_lists_agree (u ∷ us) (v ∷ vs) e = (units_agree u v (cc e), unit_lists_agree us vs (cc e))

-- ---- units that agree say one thing

module_units_in_turn : (n : ℕ) {x y : DocumentUnit} → UnitsAgree x y →
    map module_part (modules_in n x) ≡ map module_part (modules_in n y)
module_units_in_turn n (two_classes a) = refl
module_units_in_turn n (two_members a) = refl
module_units_in_turn n (two_modules {x} {y} a) = let same = modules_say n x y a in λ i. same i ∷ []
module_units_in_turn n (two_sections a) = refl

class_units_in_turn : (n : ℕ) {x y : DocumentUnit} → UnitsAgree x y →
    map class_placed (classes_in n x) ≡ map class_placed (classes_in n y)
class_units_in_turn n (two_classes {x} {y} a) = let same = classes_say n x y a in λ i. same i ∷ []
class_units_in_turn n (two_members a) = refl
class_units_in_turn n (two_modules a) = refl
class_units_in_turn n (two_sections a) = refl

member_units_in_turn : (n : ℕ) {x y : DocumentUnit} → UnitsAgree x y →
    map member_placed (members_in n x) ≡ map member_placed (members_in n y)
member_units_in_turn n (two_classes a) = refl
member_units_in_turn n (two_members {x} {y} a) = let same = members_say n x y a in λ i. same i ∷ []
member_units_in_turn n (two_modules a) = refl
member_units_in_turn n (two_sections a) = refl

rule_units_in_turn : (n : ℕ) {x y : DocumentUnit} → UnitsAgree x y →
    flat_map section_rules (sections_in n x) ≡ flat_map section_rules (sections_in n y)
rule_units_in_turn n (two_classes a) = refl
rule_units_in_turn n (two_members a) = refl
rule_units_in_turn n (two_modules a) = refl
rule_units_in_turn n (two_sections {x} {y} a) = let same = rule_sections_say n x y a in λ i. same i ++ []

instance_units_in_turn : (n : ℕ) {x y : DocumentUnit} → UnitsAgree x y →
    flat_map section_instances (sections_in n x) ≡ flat_map section_instances (sections_in n y)
instance_units_in_turn n (two_classes a) = refl
instance_units_in_turn n (two_members a) = refl
instance_units_in_turn n (two_modules a) = refl
instance_units_in_turn n (two_sections {x} {y} a) = let same = instance_sections_say n x y a in λ i. same i ++ []

pub module_units_say : (n : ℕ) → SayOne UnitsAgree (λ x. map module_part (modules_in n x))
module_units_say n x y a = module_units_in_turn n a

pub class_units_say : (n : ℕ) → SayOne UnitsAgree (λ x. map class_placed (classes_in n x))
class_units_say n x y a = class_units_in_turn n a

pub member_units_say : (n : ℕ) → SayOne UnitsAgree (λ x. map member_placed (members_in n x))
member_units_say n x y a = member_units_in_turn n a

pub rule_units_say : (n : ℕ) → SayOne UnitsAgree (λ x. flat_map section_rules (sections_in n x))
rule_units_say n x y a = rule_units_in_turn n a

pub instance_units_say : (n : ℕ) → SayOne UnitsAgree (λ x. flat_map section_instances (sections_in n x))
instance_units_say n x y a = instance_units_in_turn n a
