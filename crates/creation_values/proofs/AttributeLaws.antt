-- Whether an attribute has a label and a syntax, by its record.
use Rattle.std.proofs.Common.{◌≡◌, ℕ, List, false, ap, ◌∙◌, sym}
use Rattle.std.specs.Prelude.{Option, Some, ◌&&◌}
use Rattle.std.specs.Option.{option_map_or}
use Rattle.term_values.specs.SameSyntax.{same_syntax}
use Rattle.term_values.specs.Syntaxes.{TypeSyntax}
use Rattle.term_model.specs.declared.schema.AttrRec.{AttrRec}
use Rattle.term_model.specs.BoundClasses.{is_attribute}
use Rattle.term_model.specs.Comparing.{is_same_octets}
use Rattle.term_model.specs.ObjectOperation.{attribute_record}

-- its label is another one
pub other_label : (records : List AttrRec) (label : List ℕ) (syntax : TypeSyntax) (id : List ℕ) (template : AttrRec)
    → Some template ≡ attribute_record records id → is_same_octets template.label label ≡ false
    → false ≡ is_attribute records (label, syntax) id
other_label records label syntax id template found other =
    ap (λ same. same && same_syntax template.syntax syntax) (sym other)
    ∙ ap (λ (record_of : Option AttrRec).
    option_map_or
    (λ (of_attribute : AttrRec). is_same_octets of_attribute.label label && same_syntax of_attribute.syntax syntax)
    record_of false) found
