-- WordViews: the syntaxes of the types of one word and of those of CMIP-1, as the code tells them.
use Rattle.std.specs.Prelude.{[]}
use Rattle.term_values.specs.CmipTypes.{object_class, attribute_id, action_type_id, event_type_id, object_instance}
use Rattle.term_values.specs.CmipTypes.{rdn_sequence, attribute}
use Rattle.term_values.specs.Syntaxes.{TypeSyntax}
use Rattle.term_values.specs.Syntaxes.TypeSyntax.{Boolean, NullType, TextString, GeneralizedTime, Filter}
use Rattle.asn1_names.specs.declared.standard_module.StandardType.{StandardType}
use Rattle.asn1_names.specs.declared.standard_module.StandardType.TheVariants as standard
use Rattle.asn1_names.specs.declared.type_words.WordType.{WordType}
use Rattle.asn1_names.specs.declared.type_words.WordType.TheVariants as words

abbrev pub word_syntax : WordType → TypeSyntax
word_syntax words.Boolean = Boolean
word_syntax words.Null = NullType
word_syntax (words.Text charset) = TextString charset []
word_syntax words.Time = GeneralizedTime

abbrev pub standard_syntax_of : StandardType → TypeSyntax
standard_syntax_of standard.ObjectClass = object_class
standard_syntax_of standard.AttributeId = attribute_id
standard_syntax_of standard.ActionTypeId = action_type_id
standard_syntax_of standard.EventTypeId = event_type_id
standard_syntax_of standard.ObjectInstance = object_instance
standard_syntax_of standard.RdnSequence = rdn_sequence
standard_syntax_of standard.Attribute = attribute
standard_syntax_of standard.Filter = Filter
