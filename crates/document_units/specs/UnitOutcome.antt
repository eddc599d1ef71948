-- UnitOutcome: what a reader of one unit answers: the unit, or the one place of the fault (docs/PROFILE.md, section 2).
use Rattle.std.specs.Prelude.{◌≡◌, ℕ, ◌≤◌, List, Result, Ok, Err}
use Rattle.token_grammar.specs.declared.syntax_refusal.SyntaxRefusal.{SyntaxRefusal}
use Rattle.token_grammar.specs.declared.syntax_refusal.SyntaxRefusal.TheVariants.{Syntax}
use Rattle.token_grammar.specs.declared.token.Token.{Token}
use Rattle.asn1_syntax.specs.ModuleTrees.{module_tree}
use Rattle.extra_syntax.specs.SectionTrees.{section_tree}
use Rattle.gdmo_classes.specs.TemplateTree.{class_template_tree}
use Rattle.gdmo_members.specs.MemberTree.{member_tree}
use Rattle.document_units.specs.declared.unit.DocumentUnit.{DocumentUnit}
use Rattle.document_units.specs.declared.unit.DocumentUnit.TheVariants.{Class, Member, Module, Section}
use Rattle.document_units.specs.UnitForms.{BeginsUnit, SpellsUnit, UnitTerm}
use Rattle.document_units.specs.UnitForms.UnitTerm.{ClassUnit, MemberUnit, ModuleUnit, SectionUnit}

-- what a unit says that was read
abbrev pub unit_term : DocumentUnit → UnitTerm
unit_term (Class x) = ClassUnit (class_template_tree x)
unit_term (Member x) = MemberUnit (member_tree x)
unit_term (Module x) = ModuleUnit (module_tree x)
unit_term (Section x) = SectionUnit (section_tree x)

-- the tokens from i to k spell this unit and no other, and no unit goes on past k
pub record IsUnit (tokens : List Token) (i : ℕ) (u : UnitTerm) (k : ℕ) : Type 0 where
  pub spelt : SpellsUnit tokens i k u
  pub only : (j : ℕ) (v : UnitTerm) → SpellsUnit tokens i j v → (j ≡ k) × (v ≡ u)
  pub furthest : (j : ℕ) → BeginsUnit tokens i j → j ≤ k

-- the tokens from i up to k begin a unit, none goes on with the token at k, and none is spelt
pub record IsUnitFault (tokens : List Token) (i k : ℕ) : Type 0 where
  pub begun : BeginsUnit tokens i k
  pub unspelt : (j : ℕ) (u : UnitTerm) → ¬ SpellsUnit tokens i j u
  pub furthest : (j : ℕ) → BeginsUnit tokens i j → j ≤ k

abbrev pub ReadsUnit : List Token → ℕ → Result (DocumentUnit × ℕ) SyntaxRefusal → Type 0
ReadsUnit tokens i (Ok x) = IsUnit tokens i (unit_term x.0) x.1
ReadsUnit tokens i (Err e) = (k : ℕ) → e ≡ Syntax k → IsUnitFault tokens i k
