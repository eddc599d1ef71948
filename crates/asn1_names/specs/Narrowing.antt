-- Narrowing: which syntaxes have a place for sizes, and which for ranges of values (X.680, sections 49 to 51).
use Rattle.std.specs.Prelude.{Bool, false, not}
use Rattle.term_values.specs.Syntaxes.{TypeSyntax}
use Rattle.term_values.specs.Syntaxes.TypeSyntax.{Integer, BitString, OctetString, TextString, SequenceOf, SetOf}
use Rattle.term_values.specs.Syntaxes.TypeSyntax.{Tagged}

-- of sizes, or else of ranges of values
abbrev pub can_narrow : Bool → TypeSyntax → Bool
can_narrow is_size (Integer names before) = not is_size
can_narrow is_size (BitString names before) = is_size
can_narrow is_size (OctetString before) = is_size
can_narrow is_size (TextString charset before) = is_size
can_narrow is_size (SequenceOf element before) = is_size
can_narrow is_size (SetOf element before) = is_size
can_narrow is_size (Tagged tag explicit of) = can_narrow is_size of
can_narrow is_size _ = false
