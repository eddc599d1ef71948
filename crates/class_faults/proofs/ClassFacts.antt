-- Examples, computed: which of two faults is told, and what is a set; docs/PROFILE.md, section 18.
use Rattle.std.proofs.Common.{◌≡◌, ℕ, true, false, List, [], ◌∷◌, None, Some, refl, arith}
use Rattle.std.specs.Prelude.{codes}
use Rattle.token_grammar.specs.declared.token.Token.{Token}
use Rattle.term_values.specs.Syntaxes.{TypeSyntax}
use Rattle.term_values.specs.Syntaxes.TypeSyntax.{Integer, SequenceOf, SetOf, Tagged}
use Rattle.term_values.specs.Tag.{context}
use Rattle.term_model.specs.WholeRecords.{IsSetValued}
use Rattle.linked_parts.specs.declared.linked.LinkedName.{LinkedName}
use Rattle.linked_parts.specs.declared.linked.LinkedSyntax.TheVariants.{OfType, OfAttribute}
use Rattle.linked_parts.specs.declared.linked.NamedMeaning.TheVariants.{Assigned}
use Rattle.class_faults.specs.AttributeSyntaxes.{bases_of}
use Rattle.class_faults.specs.FirstClassFault.{IsNoLater}
use Rattle.class_faults.specs.FirstClassFault.ClassFault.{ClassCyclic, ValueBad, SetMissing}
use Rattle.class_faults.specs.FirstClassFault.IsNoLater.{at_one_token, earlier_document, earlier_token}

-- the earlier document goes first, then the earlier token, then the order of the faults
by_document : IsNoLater ValueBad 1 90 ClassCyclic 2 7
by_document = earlier_document (omega arith)

by_token : IsNoLater ValueBad 1 7 ClassCyclic 1 90
by_token = earlier_token refl (omega arith)

by_kind : IsNoLater ClassCyclic 1 7 ValueBad 1 7
by_kind = at_one_token refl refl (omega arith)

abbrev word : List ℕ → Token
word text = record { kind = 0; at = 0; text = text }

abbrev low : LinkedName
low = record { name = word (codes "Low"); meaning = Assigned 0 3 }

-- an attribute that has a type derives from none
no_base : bases_of (OfType low) ≡ []
no_base = refl

one_base : bases_of (OfAttribute 4) ≡ 4 ∷ []
one_base = refl

-- SET OF under a tag is a set
tagged_set : IsSetValued (Tagged (context 1) true (SetOf (Integer [] []) []))
tagged_set = (Integer [] [], ([], refl))
