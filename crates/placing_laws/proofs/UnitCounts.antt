-- UnitCounts: the units of a document have no more tokens at a place than stand there in the document, at most one.
use Rattle.std.proofs.Common.{◌≡◌, ℕ, zero, suc, ◌+◌, ◌≤◌, List, [], ◌∷◌, refl, arith}
use Rattle.token_grammar.specs.declared.token.Token.{Token}
use Rattle.token_grammar.specs.Form.{Named}
use Rattle.text_lex.specs.Lexed.{AreTokensOf}
use Rattle.asn1_values_syntax.specs.Asn1.{asn1}
use Rattle.asn1_values_syntax.specs.ValueForms.{modules}
use Rattle.extra_syntax.specs.SectionForms.{section, sections}
use Rattle.gdmo_classes.specs.ClassForms.{class_level}
use Rattle.gdmo_members.specs.Templates.{member, templates}
use Rattle.document_units.specs.DocumentForms.{AreUnits, SpellsUnits}
use Rattle.document_units.specs.DocumentForms.SpellsUnits.{at_end, semicolon, unit}
use Rattle.document_units.specs.UnitForms.{SpellsUnit, UnitTerm}
use Rattle.document_units.specs.UnitForms.SpellsUnit.{of_class, of_member, of_module, of_section}
use Rattle.document_units.specs.UnitForms.UnitTerm.{ClassUnit, MemberUnit, ModuleUnit, SectionUnit}
use Rattle.placing_laws.proofs.PlaceCounts.{count_rises, leaves, up_to}
use Rattle.placing_laws.proofs.SpellingCounts.{counted, whole}
use Rattle.placing_laws.proofs.TokenPlaces.{one_there, tokens_rise}

templates_clear : (p n : ℕ) → whole p (templates n) ≡ 0
templates_clear p zero = refl
templates_clear p (suc zero) = refl
templates_clear p (suc (suc zero)) = refl
templates_clear p (suc (suc (suc zero))) = refl
templates_clear p (suc (suc (suc (suc zero)))) = refl
templates_clear p (suc (suc (suc (suc (suc zero))))) = refl
templates_clear p (suc (suc (suc (suc (suc (suc zero)))))) = refl
templates_clear p (suc (suc (suc (suc (suc (suc (suc zero))))))) = refl
templates_clear p (suc (suc (suc (suc (suc (suc (suc (suc zero)))))))) = refl
templates_clear p (suc (suc (suc (suc (suc (suc (suc (suc (suc n))))))))) = refl

asn1_clear : (p n : ℕ) → whole p (asn1 n) ≡ 0
asn1_clear p zero = refl
asn1_clear p (suc zero) = refl
asn1_clear p (suc (suc zero)) = refl
asn1_clear p (suc (suc (suc n))) = refl

sections_clear : (p n : ℕ) → whole p (sections n) ≡ 0
sections_clear p zero = refl
sections_clear p (suc zero) = refl
sections_clear p (suc (suc zero)) = refl
sections_clear p (suc (suc (suc zero))) = refl
sections_clear p (suc (suc (suc (suc zero)))) = refl
sections_clear p (suc (suc (suc (suc (suc n))))) = refl

-- the tokens of a unit, and of units
abbrev pub unit_leaves : ℕ → UnitTerm → ℕ
unit_leaves p (ClassUnit a) = leaves p a
unit_leaves p (MemberUnit a) = leaves p a
unit_leaves p (ModuleUnit a) = leaves p a
unit_leaves p (SectionUnit a) = leaves p a

abbrev pub all_leaves : ℕ → List UnitTerm → ℕ
all_leaves p [] = 0
all_leaves p (u ∷ us) = unit_leaves p u + all_leaves p us

unit_counted : (p : ℕ) {tokens : List Token} {i k : ℕ} {u : UnitTerm} → SpellsUnit tokens i k u →
    unit_leaves p u + up_to p tokens i ≤ up_to p tokens k
unit_counted p {tokens} (of_class one) =
    let all = counted p tokens templates (templates_clear p) {f = class_level} refl one in omega arith
unit_counted p {tokens} (of_member one) =
    let all = counted p tokens templates (templates_clear p) {f = member} refl one in omega arith
unit_counted p {tokens} (of_module other one) =
    let all = counted p tokens asn1 (asn1_clear p) {f = Named modules} refl one in omega arith
unit_counted p {tokens} (of_section one) =
    let all = counted p tokens sections (sections_clear p) {f = section} refl one in omega arith

units_counted : (p : ℕ) (tokens : List Token) (most : (k : ℕ) → up_to p tokens k ≤ 1) {i : ℕ} {us : List UnitTerm} →
    SpellsUnits tokens i us → all_leaves p us + up_to p tokens i ≤ 1
units_counted p tokens most {i = i} (at_end past) = let all = most i in omega arith
units_counted p tokens most {i = i} (semicolon here rest) =
    let rises = count_rises p tokens i in
    let all = units_counted p tokens most rest in
    omega arith
units_counted p tokens most (unit {u = u} one rest) =
    let first = unit_counted p {u = u} one in
    let all = units_counted p tokens most rest in
    omega arith

-- the units of a document, of which these are the tokens
pub at_most_one : (p : ℕ) {text : List ℕ} {tokens : List Token} {us : List UnitTerm} → AreTokensOf text tokens →
    AreUnits tokens us → all_leaves p us ≤ 1
at_most_one p {tokens = tokens} lexed units =
    let all = units_counted p tokens (λ k. one_there p 0 tokens k (tokens_rise lexed)) units.spelt in omega arith
