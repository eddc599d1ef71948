-- DocumentForms: a document is a row of units, with empty semicolons before, between and behind them (X.722, section
-- 8.2; docs/PROFILE.md, section 2).
use Rattle.std.specs.Prelude.{◌≡◌, ℕ, ◌+◌, ◌≤◌, List, [], ◌∷◌, ◌++◌, Result, Ok, Err, codes, length, map}
use Rattle.std.specs.Global.{Vec}
use Rattle.token_grammar.specs.declared.syntax_refusal.SyntaxRefusal.{SyntaxRefusal}
use Rattle.token_grammar.specs.declared.syntax_refusal.SyntaxRefusal.TheVariants.{Syntax}
use Rattle.token_grammar.specs.declared.token.Token.{Token}
use Rattle.token_grammar.specs.Spelling.{At}
use Rattle.token_grammar.specs.TokenTests.{is_sign_of}
use Rattle.document_units.specs.declared.unit.DocumentUnit.{DocumentUnit}
use Rattle.document_units.specs.UnitForms.{BeginsUnit, SpellsUnit, UnitTerm}
use Rattle.document_units.specs.UnitOutcome.{IsUnit, IsUnitFault, unit_term}

-- the tokens from a place to their end, behind which none stands, are these units
pub data SpellsUnits (tokens : List Token) : ℕ → List UnitTerm → Type 0 where
  at_end : {i : ℕ} → length tokens ≤ i → SpellsUnits tokens i []
  semicolon : {i : ℕ} {us : List UnitTerm} → At tokens i (is_sign_of (codes ";")) → SpellsUnits tokens (i + 1) us →
      SpellsUnits tokens i us
  unit : {i k : ℕ} {u : UnitTerm} {us : List UnitTerm} → SpellsUnit tokens i k u → SpellsUnits tokens k us →
      SpellsUnits tokens i (u ∷ us)

-- the tokens from one place to another begin the rest of a document
pub data BeginsUnits (tokens : List Token) : ℕ → ℕ → Type 0 where
  no_tokens : {i : ℕ} → BeginsUnits tokens i i
  semicolon : {i k : ℕ} → At tokens i (is_sign_of (codes ";")) → BeginsUnits tokens (i + 1) k → BeginsUnits tokens i k
  front : {i k : ℕ} → BeginsUnit tokens i k → BeginsUnits tokens i k
  rest : {i j k : ℕ} {u : UnitTerm} → SpellsUnit tokens i j u → BeginsUnits tokens j k → BeginsUnits tokens i k

-- the tokens are these units, and no others
pub record AreUnits (tokens : List Token) (us : List UnitTerm) : Type 0 where
  pub spelt : SpellsUnits tokens 0 us
  pub only : (vs : List UnitTerm) → SpellsUnits tokens 0 vs → vs ≡ us

-- the tokens up to k begin a document, none goes on with the token at k, and they are none
pub record IsDocumentFault (tokens : List Token) (k : ℕ) : Type 0 where
  pub begun : BeginsUnits tokens 0 k
  pub unspelt : (us : List UnitTerm) → ¬ SpellsUnits tokens 0 us
  pub furthest : (j : ℕ) → BeginsUnits tokens 0 j → j ≤ k

abbrev pub ReadsUnits : List Token → Result (Vec DocumentUnit) SyntaxRefusal → Type 0
ReadsUnits tokens (Ok xs) = AreUnits tokens (map unit_term xs.items)
ReadsUnits tokens (Err e) = (k : ℕ) → e ≡ Syntax k → IsDocumentFault tokens k

-- one step of a reader: an empty semicolon, or one unit more
pub data IsStep (tokens : List Token) (i : ℕ) (before after : List DocumentUnit) (k : ℕ) : Type 0 where
  skipped : At tokens i (is_sign_of (codes ";")) → k ≡ i + 1 → after ≡ before → IsStep tokens i before after k
  added : (x : DocumentUnit) → ¬ At tokens i (is_sign_of (codes ";")) → IsUnit tokens i (unit_term x) k →
      after ≡ before ++ x ∷ [] → IsStep tokens i before after k

-- no unit begins here as far as it would have to
pub record IsFaultHere (tokens : List Token) (i k : ℕ) : Type 0 where
  pub other : ¬ At tokens i (is_sign_of (codes ";"))
  pub fault : IsUnitFault tokens i k

abbrev pub ReadsNext : List Token → ℕ → Vec DocumentUnit → Vec DocumentUnit → Result ℕ SyntaxRefusal →
    Type 0
ReadsNext tokens i before after (Ok k) = IsStep tokens i before.items after.items k
ReadsNext tokens i before after (Err e) = (k : ℕ) → e ≡ Syntax k → IsFaultHere tokens i k
