-- IntegerDocuments: documents whose attributes are all of INTEGER, without tags, DEFAULTs and rules (X.680, section 19;
-- X.722, section 8.7; docs/PROFILE.md, sections 2, 9 and 11).
use Rattle.std.specs.Prelude.{◌≡◌, ℕ, List, []}
use Rattle.token_grammar.specs.Form.{Tree}
use Rattle.term_values.specs.Syntaxes.{Bounds, Named, TypeSyntax}
use Rattle.term_values.specs.Syntaxes.TypeSyntax.{Integer}
use Rattle.asn1_names.specs.ModuleTerms.{ModuleTerm}
use Rattle.asn1_names.specs.ResolvedTypes.{HasDefaultText}
use Rattle.linked_parts.specs.declared.linked.Linked.{Linked}
use Rattle.class_faults.specs.AttributeSyntaxes.{AttributeHas}
use Rattle.filled_syntaxes.specs.LinkedMeanings.{assignment_meaning}

-- INTEGER without a tag, whatever its named numbers and its ranges are
pub data IsInteger : TypeSyntax → Type 0 where
  integer : {names : Named} {ranges : Bounds} → IsInteger (Integer names ranges)

-- no type that the modules assign, or of which they assign a value, has a component with DEFAULT
abbrev pub HaveNoDefaults : List ModuleTerm → Type 0
HaveNoDefaults ms =
    (m i v : ℕ) (path : List ℕ) (text : Tree) → ¬ HasDefaultText ms (assignment_meaning ms m i) path v text

pub record AreIntegerDocuments (ms : List ModuleTerm) (linked : Linked) : Type 0 where
  pub attributes : (k : ℕ) (syntax : TypeSyntax) → AttributeHas ms linked k syntax → IsInteger syntax
  pub no_defaults : HaveNoDefaults ms
  pub no_rules : linked.rules.items ≡ []
