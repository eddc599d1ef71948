-- StandardTags: the types that are one word, and those of CMIP-1, begin with some tag and have clear tags (X.680,
-- sections 8.4, 18, 24, 41 and 46; X.711, section 7.5).
use Rattle.std.proofs.Common.{◌≡◌, ℕ, List, [], Bool, true, false, Option, Some, refl, subst, codes}
use Rattle.std.specs.Prelude.{if◌then◌else◌}
use Rattle.std.proofs.lemmas.Option.{none-some, same_Some}
use Rattle.term_values.specs.Beginnings.{first_tags}
use Rattle.term_values.specs.CmipTypes.{object_class, attribute_id, action_type_id, event_type_id, object_instance}
use Rattle.term_values.specs.CmipTypes.{rdn_sequence, attribute}
use Rattle.term_values.specs.Soundness.{has_clear_tags}
use Rattle.term_values.specs.Syntaxes.{TypeSyntax}
use Rattle.term_values.specs.Syntaxes.TypeSyntax.{Boolean, NullType, TextString, GeneralizedTime, Filter}
use Rattle.term_values.specs.Tag.{context}
use Rattle.term_values.specs.UniversalTags.{boolean, null, generalized_time, sequence, text_tag}
use Rattle.term_values.specs.declared.charset.Charset.TheVariants as charsets
use Rattle.asn1_names.specs.StandardModule.{is_same_name, standard_type}
use Rattle.asn1_names.specs.TypeWords.{one_word_type}
use Rattle.sound_laws.proofs.TagLists.{HasSome}

-- it begins with some tag, and has clear tags
pub record IsClear (syntax : TypeSyntax) : Type 0 where
  pub some : HasSome (first_tags syntax)
  pub clear : has_clear_tags syntax ≡ true

-- what is told of the first name that matches holds of each that is found
by_name : (Is : TypeSyntax → Type 0) (b : Bool) (own syntax : TypeSyntax) (others : Option TypeSyntax) → Is own →
    (others ≡ Some syntax → Is syntax) → (if b then Some own else others) ≡ Some syntax → Is syntax
by_name Is true own syntax others known rest e = subst Is (same_Some own syntax e) known
by_name Is false own syntax others known rest e = rest e

pub word_clear : (word : List ℕ) (syntax : TypeSyntax) → one_word_type word ≡ Some syntax → IsClear syntax
word_clear word syntax =
    by_name IsClear (is_same_name word (codes "BOOLEAN")) Boolean syntax _
    (record { some = (boolean, refl); clear = refl })
    (by_name IsClear (is_same_name word (codes "NULL")) NullType syntax _
    (record { some = (null, refl); clear = refl })
    (by_name IsClear (is_same_name word (codes "NumericString")) (TextString charsets.Numeric []) syntax _
    (record { some = (text_tag charsets.Numeric, refl); clear = refl })
    (by_name IsClear (is_same_name word (codes "PrintableString")) (TextString charsets.Printable []) syntax _
    (record { some = (text_tag charsets.Printable, refl); clear = refl })
    (by_name IsClear (is_same_name word (codes "IA5String")) (TextString charsets.Ia5 []) syntax _
    (record { some = (text_tag charsets.Ia5, refl); clear = refl })
    (by_name IsClear (is_same_name word (codes "VisibleString")) (TextString charsets.Visible []) syntax _
    (record { some = (text_tag charsets.Visible, refl); clear = refl })
    (by_name IsClear (is_same_name word (codes "GraphicString")) (TextString charsets.Graphic []) syntax _
    (record { some = (text_tag charsets.Graphic, refl); clear = refl })
    (by_name IsClear (is_same_name word (codes "GeneralizedTime")) GeneralizedTime syntax _
    (record { some = (generalized_time, refl); clear = refl }) (λ e. absurd (none-some _ e)))))))))

-- what holds of each type of CMIP-1
each_standard : (Is : TypeSyntax → Type 0) → Is object_class → Is attribute_id → Is action_type_id →
    Is event_type_id → Is object_instance → Is rdn_sequence → Is attribute → Is Filter → (name : List ℕ)
    (syntax : TypeSyntax) → standard_type name ≡ Some syntax → Is syntax
each_standard Is a b c d e f g h name syntax =
    by_name Is (is_same_name name (codes "ObjectClass")) object_class syntax _ a
    (by_name Is (is_same_name name (codes "AttributeId")) attribute_id syntax _ b
    (by_name Is (is_same_name name (codes "ActionTypeId")) action_type_id syntax _ c
    (by_name Is (is_same_name name (codes "EventTypeId")) event_type_id syntax _ d
    (by_name Is (is_same_name name (codes "ObjectInstance")) object_instance syntax _ e
    (by_name Is (is_same_name name (codes "RDNSequence")) rdn_sequence syntax _ f
    (by_name Is (is_same_name name (codes "Attribute")) attribute syntax _ g
    (by_name Is (is_same_name name (codes "CMISFilter")) Filter syntax _ h
    (λ is. absurd (none-some _ is)))))))))

pub standard_clear : (name : List ℕ) (syntax : TypeSyntax) → standard_type name ≡ Some syntax → IsClear syntax
standard_clear = each_standard IsClear (record { some = (context 0, refl); clear = refl })
    (record { some = (context 0, refl); clear = refl }) (record { some = (context 2, refl); clear = refl })
    (record { some = (context 6, refl); clear = refl }) (record { some = (context 2, refl); clear = refl })
    (record { some = (sequence, refl); clear = refl }) (record { some = (sequence, refl); clear = refl })
    (record { some = (context 8, refl); clear = refl })
