-- The tags of the universal class: X.680, section 8.4, table 1.
use Rattle.std.specs.Prelude.{ℕ}
use Rattle.term_values.specs.declared.charset.Charset.{Charset}
use Rattle.term_values.specs.declared.charset.Charset.TheVariants as charsets
use Rattle.term_values.specs.declared.tag.Tag.{Tag}

abbrev pub universal : ℕ → Tag
universal number = record { class = 0; number = number }

abbrev pub boolean : Tag
boolean = universal 1

abbrev pub integer : Tag
integer = universal 2

abbrev pub bit_string : Tag
bit_string = universal 3

abbrev pub octet_string : Tag
octet_string = universal 4

abbrev pub null : Tag
null = universal 5

abbrev pub object_identifier : Tag
object_identifier = universal 6

abbrev pub enumerated : Tag
enumerated = universal 10

-- SEQUENCE and SEQUENCE OF
abbrev pub sequence : Tag
sequence = universal 16

-- SET and SET OF
abbrev pub set : Tag
set = universal 17

abbrev pub generalized_time : Tag
generalized_time = universal 24

-- the tag of a string type
abbrev pub text_tag : Charset → Tag
text_tag charsets.Numeric = universal 18
text_tag charsets.Printable = universal 19
text_tag charsets.Ia5 = universal 22
text_tag charsets.Graphic = universal 25
text_tag charsets.Visible = universal 26
