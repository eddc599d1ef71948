-- No tree has more constructed values inside one another than octets: X.690, section 8.1.
use Rattle.std.proofs.Common.{◌<◌, ◌≤◌, Bool, true, false, [], ◌∷◌, ◌++◌, arith, length, length-append}
use Rattle.std.specs.Prelude.{◌+◌, if◌then◌else◌, nat_lt}
use Rattle.term_values.specs.Der.{identifier_octets, leading_bits, length_octets, written, written_all}
use Rattle.term_values.specs.Oid.{subidentifier}
use Rattle.term_values.specs.Tree.{TreeValue, TreeValues}
use Rattle.term_values.specs.Tree.TreeValue.{Constructed, Primitive}
use Rattle.term_values.specs.Tree.TreeValues.{Nothing, Then}
use Rattle.term_values.specs.declared.tag.Tag.{Tag}
use Rattle.typed_laws.specs.Nesting.{nesting, nesting_inside}

identifier_some : (tag : Tag) → 0 < length (identifier_octets true tag)
unfolding identifier_octets
identifier_some tag = by (nat_lt tag.number 31)
  where
    by : (b : Bool)
        → 0 < length (if b then (leading_bits true tag + tag.number) ∷ []
        else (leading_bits true tag + 31) ∷ subidentifier tag.number)
    by true = omega arith
    by false = omega arith

mutual
  pub nests : (tree : TreeValue) → nesting tree ≤ length (written tree)
  nests (Primitive tag contents) = omega arith
  nests (Constructed tag inside) =
      let some = identifier_some tag in
      let within = all_nest inside in
      let e = length-append (identifier_octets true tag)
      (length_octets (length (written_all inside)) ++ written_all inside) in
      let f = length-append (length_octets (length (written_all inside))) (written_all inside) in
      omega arith

  all_nest : (trees : TreeValues) → nesting_inside trees ≤ length (written_all trees)
  all_nest Nothing = omega arith
  all_nest (Then x xs) =
      let first = nests x in
      let others = all_nest xs in
      let e = length-append (written x) (written_all xs) in
      omega arith
