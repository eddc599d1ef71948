-- With which tags alternatives begin, one by one.
use Rattle.std.proofs.Common.{◌≡◌, Bool, true, false, List, [], ◌∷◌, ◌++◌, Option, None, Some, refl, ap, sym, ◌∙◌}
use Rattle.std.specs.Prelude.{◌||◌}
use Rattle.term_values.specs.Beginnings.{begins, either_tags, first_tags, has_tag, is_one_of, parts_tags}
use Rattle.term_values.specs.PartsView.{parts_listed}
use Rattle.term_values.specs.Tag.{is_same_tag}
use Rattle.term_values.specs.declared.syntax.Part.{Part}
use Rattle.term_values.specs.declared.tag.Tag.{Tag}

or_assoc : (a b c : Bool) → a || (b || c) ≡ (a || b) || c
or_assoc true b c = refl
or_assoc false b c = refl

or_true : (b : Bool) → true ≡ b || true
or_true true = refl
or_true false = refl

one_of_two : (xs ys : List Tag) (tag : Tag) → is_one_of (xs ++ ys) tag ≡ is_one_of xs tag || is_one_of ys tag
one_of_two [] ys tag = refl
one_of_two (x ∷ xs) ys tag =
    ap (λ b. is_same_tag x tag || b) (one_of_two xs ys tag)
    ∙ or_assoc (is_same_tag x tag) (is_one_of xs tag) (is_one_of ys tag)

has_either : (a b : Option (List Tag)) (tag : Tag) → has_tag (either_tags a b) tag ≡ has_tag a tag || has_tag b tag
has_either (Some xs) (Some ys) tag = one_of_two xs ys tag
has_either (Some xs) None tag = or_true (is_one_of xs tag)
has_either None (Some ys) tag = refl
has_either None None tag = refl

one_more : (x : Part) (rest : List Part) (tag : Tag)
    → has_tag (parts_tags (parts_listed (x ∷ rest))) tag
    ≡ begins x.syntax tag || has_tag (parts_tags (parts_listed rest)) tag
one_more x rest tag = has_either (first_tags x.syntax) (parts_tags (parts_listed rest)) tag

pub part_begins : (x : Part) (left rest : List Part) (tag : Tag) → left ≡ x ∷ rest → begins x.syntax tag ≡ true
    → has_tag (parts_tags (parts_listed left)) tag ≡ true
part_begins x left rest tag e is =
    rw e (one_more x rest tag ∙ ap (λ b. b || has_tag (parts_tags (parts_listed rest)) tag) is)

pub part_passes : (x : Part) (left rest : List Part) (tag : Tag) → left ≡ x ∷ rest → begins x.syntax tag ≡ false
    → has_tag (parts_tags (parts_listed left)) tag ≡ has_tag (parts_tags (parts_listed rest)) tag
part_passes x left rest tag e is =
    rw e (one_more x rest tag ∙ ap (λ b. b || has_tag (parts_tags (parts_listed rest)) tag) is)
