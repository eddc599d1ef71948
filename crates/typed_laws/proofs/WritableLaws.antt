-- Trees that can be written, at depths and in lists: X.690, sections 8.1.2 and 8.1.3.
use Rattle.std.proofs.Common.{◌≡◌, refl, ap, sym, ◌∙◌, subst, ℕ, suc, zero, ◌<◌, ◌≤◌, List, [], ◌∷◌, ◌++◌, length, map}
use Rattle.std.proofs.Common.{Option, Some, None, arith, inl, inr, Bool, true, false, cond, length-append}
use Rattle.term_values.specs.Der.{written, written_all}
use Rattle.term_values.specs.Rearranged.{IsAmong, IsRearrangement, joined, inserted, rising, may_precede}
use Rattle.term_values.specs.Tree.{TreeValue, TreeValues, listed as trees_listed}
use Rattle.term_values.specs.Tree.TreeValue.{Primitive, Constructed}
use Rattle.term_values.specs.Tree.TreeValues.{Nothing as NoTrees, Then as AndTrees}
use Rattle.term_values.specs.Writable.{IsTag, IsWritable, AreWritable}
use Rattle.term_values.specs.declared.charset.Charset.{Charset}
use Rattle.term_values.specs.declared.charset.Charset.TheVariants as charsets
use Rattle.term_values.specs.declared.tag.Tag.{Tag}
use Rattle.term_values.specs.TreeTags.{due}
use Rattle.term_values.specs.UniversalTags.{universal, text_tag}
use Rattle.typed_laws.proofs.AnyOrderRead.{Each}

mutual
  pub writable_deeper : (d e : ℕ) (tree : TreeValue) → d ≤ e → IsWritable d tree → IsWritable e tree
  writable_deeper d e (Primitive tag contents) h w = w
  writable_deeper zero e (Constructed tag inside) h w = absurd w
  writable_deeper (suc d) zero (Constructed tag inside) h w = absurd (omega arith)
  writable_deeper (suc d) (suc e) (Constructed tag inside) h w = (w.0, w.1, all_deeper d e inside (omega arith) w.2)

  pub all_deeper : (d e : ℕ) (trees : TreeValues) → d ≤ e → AreWritable d trees → AreWritable e trees
  all_deeper d e NoTrees h w = tt
  all_deeper d e (AndTrees x xs) h w = (writable_deeper d e x h w.0, all_deeper d e xs h w.1)

-- ---- lists of trees

pub each_writable : (depth : ℕ) (trees : List TreeValue) → AreWritable depth (trees_listed trees)
    → Each (IsWritable depth) trees
each_writable depth [] w = tt
each_writable depth (x ∷ xs) w = (w.0, each_writable depth xs w.1)

pub all_writable : (depth : ℕ) (trees : List TreeValue) → Each (IsWritable depth) trees
    → AreWritable depth (trees_listed trees)
all_writable depth [] w = tt
all_writable depth (x ∷ xs) w = (w.0, all_writable depth xs w.1)

pub joined_written : (trees : List TreeValue) → joined (map written trees) ≡ written_all (trees_listed trees)
joined_written [] = refl
joined_written (x ∷ xs) = ap (λ ys. written x ++ ys) (joined_written xs)

-- ---- the rising order of trees by what is written

abbrev pub tree_inserted : TreeValue → List TreeValue → List TreeValue
tree_inserted x [] = x ∷ []
tree_inserted x (y ∷ ys) = cond (may_precede (written x) (written y)) (x ∷ (y ∷ ys)) (y ∷ tree_inserted x ys)

abbrev pub trees_rising : List TreeValue → List TreeValue
trees_rising [] = []
trees_rising (x ∷ xs) = tree_inserted x (trees_rising xs)

inserted_written : (x : TreeValue) (ys : List TreeValue)
    → map written (tree_inserted x ys) ≡ inserted (written x) (map written ys)
inserted_written x [] = refl
inserted_written x (y ∷ ys) = either (may_precede (written x) (written y)) (inserted_written x ys)
  where
    either : (c : Bool) → map written (tree_inserted x ys) ≡ inserted (written x) (map written ys)
        → map written (cond c (x ∷ (y ∷ ys)) (y ∷ tree_inserted x ys))
        ≡ cond c (written x ∷ (written y ∷ map written ys)) (written y ∷ inserted (written x) (map written ys))
    either true later = refl
    either false later = ap (λ zs. written y ∷ zs) later

pub rising_written : (trees : List TreeValue) → map written (trees_rising trees) ≡ rising (map written trees)
rising_written [] = refl
rising_written (x ∷ xs) = inserted_written x (trees_rising xs) ∙ ap (inserted (written x)) (rising_written xs)

put_back : {A : Type 0} (x : A) (others xs ys : List A) → IsAmong x others ys → IsRearrangement others xs
    → IsRearrangement ys (x ∷ xs)
put_back x others xs [] a r = absurd a
put_back {A} x others xs (y ∷ ys) a r = go a (λ rest o p q. put_back x rest o ys p q)
  where
    go : IsAmong x others (y ∷ ys)
        → ((rest o : List A) → IsAmong x rest ys → IsRearrangement rest o → IsRearrangement ys (x ∷ o))
        → IsRearrangement (y ∷ ys) (x ∷ xs)
    go (inl p) later = (xs, inl (sym p.0, refl), subst (λ zs. IsRearrangement zs xs) (sym p.1) r)
    go (inr p) later =
        let q = subst (λ zs. IsRearrangement zs xs) p.1 r in
        (x ∷ q.0, inr (q.0, refl, q.1), later p.0 q.0 p.2 q.2)

tree_among : (x : TreeValue) (ys : List TreeValue) → IsAmong x ys (tree_inserted x ys)
tree_among x [] = inl (refl, refl)
tree_among x (y ∷ ys) = either (may_precede (written x) (written y)) (tree_among x ys)
  where
    either : (c : Bool) → IsAmong x ys (tree_inserted x ys)
        → IsAmong x (y ∷ ys) (cond c (x ∷ (y ∷ ys)) (y ∷ tree_inserted x ys))
    either true later = inl (refl, refl)
    either false later = inr (ys, refl, later)

pub rising_trees_rearrange : (trees : List TreeValue) → IsRearrangement (trees_rising trees) trees
rising_trees_rearrange [] = refl
rising_trees_rearrange (x ∷ xs) =
    put_back x (trees_rising xs) xs (tree_inserted x (trees_rising xs)) (tree_among x (trees_rising xs))
    (rising_trees_rearrange xs)

-- ---- tags that can be written

pub universal_can : (n : ℕ) → 0 < n → n < 4294967296 → IsTag (universal n)
universal_can n h t = record { class = omega arith; small = t; used = omega arith }

pub text_can : (charset : Charset) → IsTag (text_tag charset)
text_can charsets.Numeric = universal_can 18 (omega arith) (omega arith)
text_can charsets.Printable = universal_can 19 (omega arith) (omega arith)
text_can charsets.Ia5 = universal_can 22 (omega arith) (omega arith)
text_can charsets.Graphic = universal_can 25 (omega arith) (omega arith)
text_can charsets.Visible = universal_can 26 (omega arith) (omega arith)

abbrev pub TagCan : Option Tag → Type 0
TagCan None = Unit {0}
TagCan (Some tag) = IsTag tag

pub due_can : (tag : Option Tag) (own : Tag) → TagCan tag → IsTag own → IsTag (due tag own)
due_can None own t o = o
due_can (Some tag) own t o = t

-- what stands behind the header is no longer than the whole
pub contents_within : (a b c : List ℕ) (most : ℕ) → length (a ++ (b ++ c)) < most → length c < most
contents_within a b c most h =
    let e = length-append a (b ++ c) in
    let f = length-append b c in
    omega arith

pub front_within : (a b : List ℕ) (most : ℕ) → length (a ++ b) < most → length a < most
front_within a b most h = let e = length-append a b in omega arith

pub back_within : (a b : List ℕ) (most : ℕ) → length (a ++ b) < most → length b < most
back_within a b most h = let e = length-append a b in omega arith
