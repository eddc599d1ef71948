-- How a syntax of the program is seen.
use Rattle.term_values.specs.declared.syntax.SyntaxForm.{SyntaxForm}
use Rattle.term_values.specs.declared.syntax.SyntaxForm.TheVariants as forms
use Rattle.term_values.specs.Syntaxes.{TypeSyntax}
use Rattle.term_values.specs.Syntaxes.TypeSyntax.{Boolean, Integer, Enumerated, BitString, OctetString, NullType}
use Rattle.term_values.specs.Syntaxes.TypeSyntax.{ObjectIdentifier, TextString, GeneralizedTime, Sequence, SetType}
use Rattle.term_values.specs.Syntaxes.TypeSyntax.{SequenceOf, SetOf, Choice, Tagged, Any, Filter}

abbrev pub syntax_of : SyntaxForm → TypeSyntax
syntax_of forms.Bool = Boolean
syntax_of (forms.Int names ranges) = Integer names ranges
syntax_of (forms.Enumerated names) = Enumerated names
syntax_of (forms.Bits names sizes) = BitString names sizes
syntax_of (forms.Octets sizes) = OctetString sizes
syntax_of forms.Null = NullType
syntax_of forms.Oid = ObjectIdentifier
syntax_of (forms.Text charset sizes) = TextString charset sizes
syntax_of forms.Time = GeneralizedTime
syntax_of (forms.Seq parts) = Sequence parts
syntax_of (forms.Unordered parts) = SetType parts
syntax_of (forms.ListOf member sizes) = SequenceOf member.value sizes
syntax_of (forms.SetOf member sizes) = SetOf member.value sizes
syntax_of (forms.Choice parts) = Choice parts
syntax_of (forms.Tagged tag explicit inner) = Tagged tag explicit inner.value
syntax_of forms.Any = Any
syntax_of forms.Filter = Filter
