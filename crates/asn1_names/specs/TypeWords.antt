-- TypeWords: the types that are one word (X.680, sections 18, 24, 41 and 46), and the words of ASN.1 for types that
-- documents may not use (X.680, sections 12.38, 41 and 45 to 48; docs/PROFILE.md, section 11).
use Rattle.std.specs.Prelude.{ℕ, List, [], ◌∷◌, Bool, Option, None, Some, codes, if◌then◌else◌}
use Rattle.std.specs.List.{list_any}
use Rattle.term_values.specs.Syntaxes.{TypeSyntax}
use Rattle.term_values.specs.Syntaxes.TypeSyntax.{Boolean, NullType, TextString, GeneralizedTime}
use Rattle.term_values.specs.declared.charset.Charset.TheVariants as charsets
use Rattle.asn1_names.specs.StandardModule.{is_same_name}

abbrev pub one_word_type : List ℕ → Option TypeSyntax
one_word_type word =
    if is_same_name word (codes "BOOLEAN") then Some Boolean
    else if is_same_name word (codes "NULL") then Some NullType
    else if is_same_name word (codes "NumericString") then Some (TextString charsets.Numeric [])
    else if is_same_name word (codes "PrintableString") then Some (TextString charsets.Printable [])
    else if is_same_name word (codes "IA5String") then Some (TextString charsets.Ia5 [])
    else if is_same_name word (codes "VisibleString") then Some (TextString charsets.Visible [])
    else if is_same_name word (codes "GraphicString") then Some (TextString charsets.Graphic [])
    else if is_same_name word (codes "GeneralizedTime") then Some GeneralizedTime
    else None

-- the words with which ASN.1's other types begin
abbrev pub other_type_words : List (List ℕ)
other_type_words = codes "REAL" ∷ codes "EXTERNAL" ∷ codes "UTCTime" ∷ codes "ObjectDescriptor" ∷ codes "UTF8String"
    ∷ codes "TeletexString" ∷ codes "T61String" ∷ codes "VideotexString" ∷ codes "GeneralString"
    ∷ codes "UniversalString" ∷ codes "BMPString" ∷ codes "ISO646String" ∷ codes "EMBEDDED" ∷ codes "CHARACTER"
    ∷ codes "INSTANCE" ∷ codes "RELATIVE-OID" ∷ codes "OID-IRI" ∷ codes "RELATIVE-OID-IRI" ∷ codes "TIME"
    ∷ codes "DATE" ∷ codes "TIME-OF-DAY" ∷ codes "DATE-TIME" ∷ codes "DURATION" ∷ []

unfoldable pub is_other_type_word : List ℕ → Bool
is_other_type_word word = list_any (is_same_name word) other_type_words
