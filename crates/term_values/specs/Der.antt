-- The one form in which a tree is written: X.690, sections 8.1.2, 8.1.3 and 10.1.
use Rattle.std.specs.Prelude.{ℕ, ◌+◌, ◌*◌, ◌%◌, List, [], ◌∷◌, ◌++◌, Bool, true, false, nat_lt, length, if◌then◌else◌}
use Rattle.term_values.specs.declared.tag.Tag.{Tag}
use Rattle.term_values.specs.Oid.{subidentifier}
use Rattle.term_values.specs.Octets.{octets, count_unsigned}
use Rattle.term_values.specs.Tree.{TreeValue, TreeValues}
use Rattle.term_values.specs.Tree.TreeValue.{Primitive, Constructed}
use Rattle.term_values.specs.Tree.TreeValues.{Nothing, Then}

-- class and form, which begin the first identifier octet, the class in two bits: X.690, section 8.1.2.2
abbrev pub leading_bits : Bool → Tag → ℕ
leading_bits constructed tag = tag.class % 4 * 64 + (if constructed then 32 else 0)

-- the identifier octets: one octet for a number below 31, else the high form
unfoldable pub identifier_octets : Bool → Tag → List ℕ
identifier_octets constructed tag =
    if nat_lt tag.number 31 then (leading_bits constructed tag + tag.number) ∷ []
    else (leading_bits constructed tag + 31) ∷ subidentifier tag.number

-- the length octets: the short form where it holds the length, else the long form with as few octets as hold it
unfoldable pub length_octets : ℕ → List ℕ
length_octets n = if nat_lt n 128 then n ∷ [] else (128 + count_unsigned n) ∷ octets (count_unsigned n) n

-- a value of this form and tag with these contents octets
abbrev pub encoded : Bool → Tag → List ℕ → List ℕ
encoded constructed tag contents = identifier_octets constructed tag ++ (length_octets (length contents) ++ contents)

abbrev mutual
  pub written : TreeValue → List ℕ
  written (Primitive tag contents) = identifier_octets false tag ++ (length_octets (length contents) ++ contents)
  written (Constructed tag inside) =
      identifier_octets true tag ++ (length_octets (length (written_all inside)) ++ written_all inside)

  pub written_all : TreeValues → List ℕ
  written_all Nothing = []
  written_all (Then x xs) = written x ++ written_all xs
