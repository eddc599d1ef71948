-- Tags: X.690, section 8.1.2.
use Rattle.std.specs.Prelude.{ℕ, Bool, ◌==◌, ◌&&◌}
use Rattle.term_values.specs.declared.tag.Tag.{Tag}

-- the context-specific tag with this number
abbrev pub context : ℕ → Tag
context number = record { class = 2; number = number }

abbrev pub is_same_tag : Tag → Tag → Bool
is_same_tag a b = a.class == b.class && a.number == b.number

-- the universal tag with this number: X.680, section 8.4
abbrev pub universal : ℕ → Tag
universal number = record { class = 0; number = number }
