-- IdentifierTypes: OBJECT IDENTIFIER as the text of a type, and as what is left of one (X.680, section 32).
use Rattle.std.specs.Prelude.{◌≡◌, Bool, true, false}
use Rattle.asn1_names.specs.declared.numbers.Base.{Base as CodeBase}
use Rattle.asn1_names.specs.declared.numbers.Base.TheVariants as code
use Rattle.asn1_syntax.specs.declared.plain_type.PlainType.{PlainType}
use Rattle.asn1_syntax.specs.declared.plain_type.PlainType.TheVariants as plain
use Rattle.asn1_syntax.specs.declared.type_text.TypeText.{TypeText}
use Rattle.asn1_syntax.specs.declared.type_text.TypeText.TheVariants.{Plain as APlain}

abbrev pub is_identifier_word : PlainType → Bool
is_identifier_word (plain.ObjectIdentifier word) = true
is_identifier_word _ = false

abbrev pub is_identifier_text : TypeText → Bool
is_identifier_text (APlain of constraints) = is_identifier_word of
is_identifier_text _ = false

abbrev pub IsIdentifierBase : CodeBase → Type 0
IsIdentifierBase (code.Written home top holder) = is_identifier_text top.now ≡ true
IsIdentifierBase _ = ⊥
