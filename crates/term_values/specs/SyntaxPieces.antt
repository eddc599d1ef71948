-- Codes of what stands in a syntax: names, character sets, defaults, tags and bounds.
use Rattle.std.specs.Prelude.{◌≡◌, ℕ, zero, suc, [], ◌∷◌, Bool, true, false, Option, None, Some, refl}
use Rattle.std.proofs.Common.{ap}
use Rattle.term_values.specs.Sketch.{Sketch}
use Rattle.term_values.specs.Sketch.Sketch.{Leaf, Join}
use Rattle.term_values.specs.Syntaxes.{Named, Bounds}
use Rattle.term_values.specs.Typed.{TypedValue, value_sketch, value_back, value_again}
use Rattle.term_values.specs.declared.charset.Charset.{Charset}
use Rattle.term_values.specs.declared.charset.Charset.TheVariants as charsets
use Rattle.term_values.specs.declared.tag.Tag.{Tag}

abbrev pub named_sketch : Named → Sketch
named_sketch [] = Leaf 0 [] []
named_sketch (x ∷ xs) = Join 0 (Leaf 0 x.0 ((x.1, x.1) ∷ [])) (named_sketch xs)

abbrev pub named_back : Sketch → Named
named_back (Join kind (Leaf k name ((n, m) ∷ pairs)) rest) = (name, n) ∷ named_back rest
named_back _ = []

pub named_again : (xs : Named) → named_back (named_sketch xs) ≡ xs
named_again [] = refl
named_again (x ∷ xs) = ap (λ ys. x ∷ ys) (named_again xs)

abbrev pub charset_sketch : Charset → Sketch
charset_sketch charsets.Numeric = Leaf 0 [] []
charset_sketch charsets.Printable = Leaf 1 [] []
charset_sketch charsets.Ia5 = Leaf 2 [] []
charset_sketch charsets.Visible = Leaf 3 [] []
charset_sketch charsets.Graphic = Leaf 4 [] []

abbrev pub charset_back : Sketch → Charset
charset_back (Leaf zero xs pairs) = charsets.Numeric
charset_back (Leaf (suc zero) xs pairs) = charsets.Printable
charset_back (Leaf (suc (suc zero)) xs pairs) = charsets.Ia5
charset_back (Leaf (suc (suc (suc zero))) xs pairs) = charsets.Visible
charset_back _ = charsets.Graphic

pub charset_again : (x : Charset) → charset_back (charset_sketch x) ≡ x
charset_again charsets.Numeric = refl
charset_again charsets.Printable = refl
charset_again charsets.Ia5 = refl
charset_again charsets.Visible = refl
charset_again charsets.Graphic = refl

abbrev pub default_sketch : Option TypedValue → Sketch
default_sketch None = Leaf 0 [] []
default_sketch (Some x) = Join 0 (Leaf 0 [] []) (value_sketch x)

abbrev pub default_back : Sketch → Option TypedValue
default_back (Leaf kind xs pairs) = None
default_back (Join kind x y) = Some (value_back y)

pub default_again : (x : Option TypedValue) → default_back (default_sketch x) ≡ x
default_again None = refl
default_again (Some x) = ap Some (value_again x)

abbrev pub mark : Bool → ℕ
mark true = 1
mark false = 0

abbrev pub mark_back : ℕ → Bool
mark_back zero = false
mark_back (suc k) = true

pub mark_again : (b : Bool) → mark_back (mark b) ≡ b
mark_again true = refl
mark_again false = refl

abbrev pub tag_sketch : Tag → Bool → Sketch
tag_sketch tag explicit = Leaf (mark explicit) (tag.class ∷ (tag.number ∷ [])) []

abbrev pub tag_back : Sketch → Tag
tag_back (Leaf kind (class ∷ (number ∷ xs)) pairs) = record { class = class; number = number }
tag_back _ = record { class = 0; number = 0 }

abbrev pub kind_back : Sketch → ℕ
kind_back (Leaf kind xs pairs) = kind
kind_back (Join kind x y) = kind

abbrev pub bounds_back : Sketch → Bounds
bounds_back (Leaf kind xs pairs) = pairs
bounds_back (Join kind x y) = []
