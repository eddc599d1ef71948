-- What an answer that was found says of its parts.
use Rattle.std.proofs.Common.{◌≡◌, Bool, true, false, Option, Some, None, refl, ap, sym, ◌∙◌, ◌==◌}
use Rattle.std.specs.Prelude.{option_map, option_and_then, if◌then◌else◌, is_some}
use Rattle.std.proofs.lemmas.Bool.{and_parts, eqb-true, eq-eqb}
use Rattle.std.proofs.lemmas.Option.{none-some, same_Some}
use Rattle.term_values.specs.Decoding.{is_due, under}
use Rattle.term_values.specs.Tag.{is_same_tag}
use Rattle.term_values.specs.Tree.{TreeValue}
use Rattle.term_values.specs.TreeTags.{tag_of, due}
use Rattle.term_values.specs.Typed.{TypedValue}
use Rattle.term_values.specs.declared.tag.Tag.{Tag}

pub map_some : {A B : Type 0} (f : A → B) (o : Option A) (y : B) → option_map f o ≡ Some y
    → (x : A) × (o ≡ Some x) × (f x ≡ y)
map_some f None y e = absurd (none-some _ e)
map_some f (Some x) y e = (x, refl, same_Some (f x) y e)

pub then_some : {A B : Type 0} (f : A → Option B) (o : Option A) (y : B) → option_and_then f o ≡ Some y
    → (x : A) × (o ≡ Some x) × (f x ≡ Some y)
then_some f None y e = absurd (none-some _ e)
then_some f (Some x) y e = (x, refl, e)

pub if_some : {A : Type 0} (b : Bool) (o : Option A) (y : A) → (if b then o else None) ≡ Some y
    → (b ≡ true) × (o ≡ Some y)
if_some true o y e = (refl, e)
if_some false o y e = absurd (none-some _ e)

-- the tag of a tree is the one that is due
pub same_tag : (a b : Tag) → is_same_tag a b ≡ true → a ≡ b
same_tag a b e =
    let p = and_parts (a.class == b.class) (a.number == b.number) e in
    let c = eqb-true a.class b.class p.0 in
    let n = eqb-true a.number b.number p.1 in
    λ i. record { class = c i; number = n i }

pub same_itself : (a : Tag) → is_same_tag a a ≡ true
same_itself a = rw (eq-eqb a.class a.class refl, eq-eqb a.number a.number refl) refl

-- an implicit tag is that of the tree
abbrev pub Meets : Option Tag → TreeValue → Type 0
Meets None tree = Unit {0}
Meets (Some tag) tree = tag_of tree ≡ tag

pub due_tag : (tag : Option Tag) (own : Tag) (tree : TreeValue) → Meets tag tree
    → is_due (is_some tag) own tree ≡ true → tag_of tree ≡ due tag own
due_tag None own tree m e = sym (same_tag own (tag_of tree) e)
due_tag (Some tag) own tree m e = m

pub due_is : (tag : Option Tag) (own : Tag) (tree : TreeValue) → tag_of tree ≡ due tag own
    → is_due (is_some tag) own tree ≡ true
due_is None own tree e = ap (is_same_tag own) e ∙ same_itself own
due_is (Some tag) own tree e = refl

pub under_parts : (tag : Option Tag) (own : Tag) (value : TreeValue → Option TypedValue) (tree : TreeValue)
    (v : TypedValue) → Meets tag tree → under (is_some tag) own value tree ≡ Some v
    → (tag_of tree ≡ due tag own) × (value tree ≡ Some v)
under_parts tag own value tree v m e =
    let p = if_some (is_due (is_some tag) own tree) (value tree) v e in
    (due_tag tag own tree m p.0, p.1)

pub under_is : (tag : Option Tag) (own : Tag) (value : TreeValue → Option TypedValue) (tree : TreeValue)
    (v : TypedValue) → tag_of tree ≡ due tag own → value tree ≡ Some v
    → under (is_some tag) own value tree ≡ Some v
under_is tag own value tree v t e = rw (due_is tag own tree t) e
