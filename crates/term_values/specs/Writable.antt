-- Which trees are read back as they are written: X.690, sections 8.1.2 and 8.1.3; docs/PROFILE.md, section 3.
use Rattle.std.specs.Prelude.{ℕ, zero, suc, ◌+◌, ◌^◌, ◌<◌, length}
use Rattle.term_values.specs.declared.tag.Tag.{Tag}
use Rattle.term_values.specs.Der.{written_all}
use Rattle.term_values.specs.Tree.{TreeValue, TreeValues}
use Rattle.term_values.specs.Tree.TreeValue.{Primitive, Constructed}
use Rattle.term_values.specs.Tree.TreeValues.{Nothing, Then}

-- one of the four classes and a number of 32 bits, but universal 0, which stands for the end of contents
pub record IsTag (tag : Tag) : Type 0 where
  pub class : tag.class < 4
  pub small : tag.number < 2 ^ 32
  pub used : 0 < tag.class + tag.number

abbrev mutual
  -- such tags, lengths of 32 bits, and at most so many constructed values inside one another
  pub IsWritable : ℕ → TreeValue → Type 0
  IsWritable depth (Primitive tag contents) = IsTag tag × (length contents < 2 ^ 32)
  IsWritable zero (Constructed tag inside) = ⊥
  IsWritable (suc depth) (Constructed tag inside) =
      IsTag tag × (length (written_all inside) < 2 ^ 32) × AreWritable depth inside

  pub AreWritable : ℕ → TreeValues → Type 0
  AreWritable depth Nothing = Unit {0}
  AreWritable depth (Then x xs) = IsWritable depth x × AreWritable depth xs
