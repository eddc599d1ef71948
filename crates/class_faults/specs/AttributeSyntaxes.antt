-- AttributeSyntaxes: the syntax of an attribute, which one that is derived has from its base, and the rules by which its
-- values match, which one that is derived has from the whole chain (X.722, section 8.7).
use Rattle.std.specs.Prelude.{◌≡◌, ℕ, List, [], ◌∷◌, true, Some, map, slice_get}
use Rattle.std.specs.List.{list_any}
use Rattle.token_grammar.specs.TokenTests.{is_word_of}
use Rattle.term_values.specs.Syntaxes.{TypeSyntax}
use Rattle.asn1_names.specs.ModuleTerms.{ModuleTerm}
use Rattle.linked_parts.specs.declared.linked.Linked.{Linked}
use Rattle.linked_parts.specs.declared.linked.LinkedAttribute.{LinkedAttribute}
use Rattle.linked_parts.specs.declared.linked.LinkedName.{LinkedName}
use Rattle.linked_parts.specs.declared.linked.LinkedSyntax.{LinkedSyntax}
use Rattle.linked_parts.specs.declared.linked.LinkedSyntax.TheVariants.{OfType, OfAttribute}
use Rattle.filled_syntaxes.specs.FilledSyntaxes.{HasFilled}
use Rattle.filled_syntaxes.specs.LinkedMeanings.{linked_arcs, linked_meaning}

-- the attributes from which each derives directly
abbrev pub bases_of : LinkedSyntax → List ℕ
bases_of (OfType name) = []
bases_of (OfAttribute base) = base ∷ []

abbrev pub attribute_bases : Linked → List (List ℕ)
attribute_bases linked = map (λ (x : LinkedAttribute). bases_of x.syntax) linked.attributes.items

-- the attribute at the place k has this syntax: that of its type, or that of the attribute from which it derives. One
-- that derives from itself has none.
pub data AttributeHas (ms : List ModuleTerm) (linked : Linked) : ℕ → TypeSyntax → Type 0 where
  of_type : {k : ℕ} {x : LinkedAttribute} {name : LinkedName} {syntax : TypeSyntax} →
      slice_get linked.attributes.items k ≡ Some x → x.syntax ≡ OfType name →
      HasFilled ms (linked_arcs linked) (linked_meaning ms name.meaning) syntax → AttributeHas ms linked k syntax
  of_base : {k base : ℕ} {x : LinkedAttribute} {syntax : TypeSyntax} →
      slice_get linked.attributes.items k ≡ Some x → x.syntax ≡ OfAttribute base →
      AttributeHas ms linked base syntax → AttributeHas ms linked k syntax

-- the attribute at the place k has the rule with this name: its own MATCHES FOR has it, or its base has it
pub data HasRuleCalled (linked : Linked) (rule : List ℕ) : ℕ → Type 0 where
  own : {k : ℕ} {x : LinkedAttribute} → slice_get linked.attributes.items k ≡ Some x →
      list_any (is_word_of rule) x.rules.items ≡ true → HasRuleCalled linked rule k
  of_base : {k base : ℕ} {x : LinkedAttribute} → slice_get linked.attributes.items k ≡ Some x →
      x.syntax ≡ OfAttribute base → HasRuleCalled linked rule base → HasRuleCalled linked rule k
