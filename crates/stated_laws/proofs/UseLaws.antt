-- UseLaws: what a package states of an attribute fits its syntax where nothing is wrong with the classes: a default, or
-- an initial value, is one of its values, and ADD and REMOVE stand where it is SET OF (X.722, section 8.4).
use Rattle.std.specs.Prelude.{◌≡◌, ◌⊎◌, ℕ, List, Option, None, Some, true, Contains, is_some, refl, slice_get}
use Rattle.std.proofs.Common.{inl, inr}
use Rattle.token_grammar.specs.declared.token.Token.{Token}
use Rattle.term_values.specs.Fits.{Fits}
use Rattle.term_values.specs.Syntaxes.{TypeSyntax}
use Rattle.term_values.specs.Typed.{TypedValue}
use Rattle.term_model.specs.WholeRecords.{IsSetValued}
use Rattle.asn1_names.specs.ModuleTerms.{ModuleTerm}
use Rattle.linked_parts.specs.declared.linked.Linked.{Linked}
use Rattle.linked_parts.specs.declared.linked.LinkedName.{LinkedName}
use Rattle.linked_parts.specs.declared.linked.LinkedPackage.{LinkedPackage}
use Rattle.linked_parts.specs.declared.linked.LinkedUse.{LinkedUse}
use Rattle.class_faults.specs.AttributeSyntaxes.{AttributeHas}
use Rattle.class_faults.specs.BadValues.BadValueAt.{of_package as stated_bad}
use Rattle.class_faults.specs.FirstClassFault.{AreFaultless}
use Rattle.class_faults.specs.FirstClassFault.ClassFault.{SetMissing, ValueBad}
use Rattle.class_faults.specs.StatedProperties.{HasValue}
use Rattle.stated_laws.proofs.DecidingLaws.{fits_unless, set_unless}

-- a word that stands
word_of : (word : Option Token) → is_some word ≡ true → (own : Token) × (word ≡ Some own)
word_of None stands = absurd (cc)
word_of (Some own) stands = (own, refl)

module _ (ms : List ModuleTerm) (linked : Linked) (faultless : AreFaultless ms linked) (place : ℕ)
    (part : LinkedPackage) (stands : slice_get linked.packages.items place ≡ Some part) (stated : LinkedUse)
    (says : Contains part.attributes.items stated) (syntax : TypeSyntax)
    (has : AttributeHas ms linked stated.attribute syntax) where
  -- a default, or an initial value, fits the syntax of the attribute
  pub stated_fits : (name : LinkedName) (value : TypedValue) →
      (stated.default_value ≡ Some name) ⊎ (stated.initial_value ≡ Some name) → HasValue ms linked name value →
      Fits syntax value
  stated_fits name value is_stated has_value = fits_unless syntax value (λ misfit.
      faultless ValueBad part.head.document name.name.at (stated_bad (record {
        place = place;
        of_package = part;
        stands = stands;
        in_document = refl;
        stated = stated;
        says = says;
        name = name;
        is_stated = is_stated;
        at_token = refl;
        value = value;
        has_value = has_value;
        syntax = syntax;
        has = has;
        misfit = misfit;
      })))

  set_by_word : (word : Token) → (stated.add ≡ Some word) ⊎ (stated.remove ≡ Some word) → IsSetValued syntax
  set_by_word word is_word = set_unless syntax (λ no_set.
      faultless SetMissing part.head.document word.at (record {
        stated = stated;
        is_word = record {
          place = place;
          of_package = part;
          stands = stands;
          says = says;
          in_document = refl;
          word = word;
          is_word = is_word;
          at_token = refl;
        };
        syntax = syntax;
        has = has;
        no_set = no_set;
      }))

  -- an attribute that has ADD, or REMOVE, is SET OF
  pub added_is_set : is_some stated.add ≡ true → IsSetValued syntax
  added_is_set there = let word = word_of stated.add there in set_by_word word.0 (inl word.1)

  pub removed_is_set : is_some stated.remove ≡ true → IsSetValued syntax
  removed_is_set there = let word = word_of stated.remove there in set_by_word word.0 (inr word.1)
