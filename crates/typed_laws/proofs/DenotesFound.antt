-- A tree that denotes a value of a syntax whose tags are clear is read as one: X.690, section 8.
use Rattle.std.proofs.Common.{◌≡◌, Bool, true, false, not, ◌==◌, Option, Some, None, refl, ap, sym, ◌∙◌, subst, ℕ, suc}
use Rattle.std.proofs.Common.{zero, ◌+◌, ◌&&◌, ◌||◌, List, [], ◌∷◌, length, map, arith, inl, inr, ℤ}
use Rattle.std.specs.List.{list_all}
use Rattle.std.specs.Prelude.{option_map, option_and_then, is_some}
use Rattle.std.proofs.lemmas.Bool.{and_parts, and_from}
use Rattle.term_values.proofs.OidLaws.{oid_read}
use Rattle.term_values.specs.Beginnings.{begins, first_tags, has_tag, parts_tags}
use Rattle.term_values.specs.Bounded.{allowed, allowed_size, bit_count, is_named, has_character}
use Rattle.term_values.specs.Decoding.{denoted, parts_in, unordered_in, members_in, rising_by, one_in, within}
use Rattle.term_values.specs.Decoding.{sized_members}
use Rattle.term_values.specs.Denotes.{DenotesAs, PartsDenote, PickDenotes, AllDenote, IsWhole, Holds}
use Rattle.term_values.specs.Der.{written}
use Rattle.term_values.specs.FilterTrees.{is_filter, is_context, is_one_item, are_filters, is_one_filter}
use Rattle.term_values.specs.Fits.{count}
use Rattle.term_values.specs.LeafReading.{where_it, contents_in, truth_in, null_in, whole_in, named_in, bit_string_in}
use Rattle.term_values.specs.LeafReading.{octet_string_in, identifier_in, text_in, time_in}
use Rattle.term_values.specs.Octets.{integer_in}
use Rattle.term_values.specs.Rearranged.{IsRearrangement, IsRising}
use Rattle.term_values.specs.Soundness.{has_clear_tags, have_clear_tags, are_all_apart, are_runs_apart, has_own_tag}
use Rattle.term_values.specs.Syntaxes.{Bounds, TypeSyntax, TypeParts}
use Rattle.term_values.specs.Syntaxes.TypeSyntax.{Boolean, Integer, Enumerated, BitString, OctetString, NullType}
use Rattle.term_values.specs.Syntaxes.TypeSyntax.{ObjectIdentifier, TextString, GeneralizedTime, Sequence, SetType}
use Rattle.term_values.specs.Syntaxes.TypeSyntax.{SequenceOf, SetOf, Choice, Tagged, Any, Filter}
use Rattle.term_values.specs.Syntaxes.TypeParts.{NoParts, Part}
use Rattle.term_values.specs.Times.{is_time}
use Rattle.term_values.specs.Tree.{TreeValue, TreeValues, listed as trees_listed}
use Rattle.term_values.specs.Tree.TreeValue.{Primitive, Constructed}
use Rattle.term_values.specs.TreeTags.{tag_of, due}
use Rattle.term_values.specs.Typed.{TypedValue, TypedSlots, TypedValues, listed}
use Rattle.term_values.specs.Typed.TypedValue.{Truth, Int, Bits, Octets, Null, Identifier, Text, Time, Parts, Many}
use Rattle.term_values.specs.Typed.TypedValue.{Pick, Raw}
use Rattle.term_values.specs.Typed.TypedSlots.{NoSlots, Filled, Empty}
use Rattle.term_values.specs.Typed.TypedValues.{Nothing, Then}
use Rattle.term_values.specs.UniversalTags.{boolean, integer, bit_string, octet_string, null, object_identifier}
use Rattle.term_values.specs.UniversalTags.{enumerated}
use Rattle.term_values.specs.UniversalTags.{sequence, set, generalized_time, text_tag}
use Rattle.term_values.specs.Written.{der}
use Rattle.term_values.specs.declared.tag.Tag.{Tag}
use Rattle.typed_laws.specs.Distinct.{IsDistinct, AreDistinct, PickDistinct}
use Rattle.typed_laws.proofs.Choosing.{under_is}
use Rattle.term_values.proofs.IntegerLaws.{whole_read}
use Rattle.typed_laws.proofs.ListsTold.{rising_counts, rearranged_counts}
use Rattle.typed_laws.proofs.PartsRead.{PartsRead, PickRead, parts_read}
use Rattle.typed_laws.proofs.AnyOrderRead.{Each, each_rearranged, unordered_read, picked_read}
use Rattle.typed_laws.proofs.RisingOnce.{each_of, rising_once}
use Rattle.typed_laws.proofs.StringsTold.{octets_read, bits_read}
use Rattle.typed_laws.proofs.TagsApart.{only_tag, left_has, right_has}

-- ---- the tag that a tree has

tag_same : (a b : TreeValue) (tag : Tag) → a ≡ b → tag_of b ≡ tag → tag_of a ≡ tag
tag_same a b tag e t = ap tag_of e ∙ t

pub tag_told : (syntax : TypeSyntax) (tag : Tag) (tree : TreeValue) (v : TypedValue)
    → DenotesAs (Some tag) syntax tree v → tag_of tree ≡ tag
tag_told Boolean tag tree v d = ap tag_of d.1
tag_told (Integer names ranges) tag tree v d = ap tag_of d.1.0
tag_told (Enumerated names) tag tree v d = ap tag_of d.1.0
tag_told (BitString names sizes) tag tree v d = d.2
tag_told (OctetString sizes) tag tree v d = d.1.0
tag_told NullType tag tree v d = ap tag_of d.0
tag_told ObjectIdentifier tag tree v d = ap tag_of d.1.0
tag_told (TextString charset sizes) tag tree v d = d.1.0
tag_told GeneralizedTime tag tree v d = d.1.0
tag_told (Sequence parts) tag tree v d = ap tag_of d.2
tag_told (SetType parts) tag tree v d = ap tag_of d.3
tag_told (SequenceOf member sizes) tag tree v d = ap tag_of d.2
tag_told (SetOf member sizes) tag tree v d = ap tag_of d.3
tag_told (Choice parts) tag tree v d = absurd d
tag_told (Tagged own true of) tag tree v d = ap tag_of d.1
tag_told (Tagged own false of) tag tree v d = tag_told of tag tree v d
tag_told Any tag tree v d = absurd d
tag_told Filter tag tree v d = absurd d

-- a filter begins with one of its four tags
any_of_four : (a b c d p q r : Bool) → ((a && p || (b || c) && q) || d && r) ≡ true
    → (a || (b || (c || (d || false)))) ≡ true
any_of_four true b c d p q r e = refl
any_of_four false true c d p q r e = refl
any_of_four false false true d p q r e = refl
any_of_four false false false true p q r e = refl
any_of_four false false false false p q r e = e

pub filter_begins : (tree : TreeValue) → is_filter tree ≡ true → begins Filter (tag_of tree) ≡ true
filter_begins (Primitive tag contents) e = absurd (cc)
filter_begins (Constructed tag inside) e =
    any_of_four (is_context 8 tag) (is_context 9 tag) (is_context 10 tag) (is_context 11 tag) (is_one_item inside)
    (are_filters inside) (is_one_filter inside) e

-- ---- the tag is one with which a value of the syntax may begin

pub begins_by_tag : (syntax : TypeSyntax) (own : Tag) (tree : TreeValue) → first_tags syntax ≡ Some (own ∷ [])
    → tag_of tree ≡ own → begins syntax (tag_of tree) ≡ true
begins_by_tag syntax own tree e t = ap (λ tags. has_tag tags (tag_of tree)) e ∙ only_tag own (tag_of tree) t

mutual
  pub begins_told : (syntax : TypeSyntax) (tree : TreeValue) (v : TypedValue) → DenotesAs None syntax tree v
      → begins syntax (tag_of tree) ≡ true
  begins_told Boolean tree v d = begins_by_tag Boolean boolean tree refl (ap tag_of d.1)
  begins_told (Integer names ranges) tree v d = begins_by_tag (Integer names ranges) integer tree refl (ap tag_of d.1.0)
  begins_told (Enumerated names) tree v d = begins_by_tag (Enumerated names) enumerated tree refl (ap tag_of d.1.0)
  begins_told (BitString names sizes) tree v d = begins_by_tag (BitString names sizes) bit_string tree refl d.2
  begins_told (OctetString sizes) tree v d = begins_by_tag (OctetString sizes) octet_string tree refl d.1.0
  begins_told NullType tree v d = begins_by_tag NullType null tree refl (ap tag_of d.0)
  begins_told ObjectIdentifier tree v d = begins_by_tag ObjectIdentifier object_identifier tree refl (ap tag_of d.1.0)
  begins_told (TextString charset sizes) tree v d =
      begins_by_tag (TextString charset sizes) (text_tag charset) tree refl d.1.0
  begins_told GeneralizedTime tree v d = begins_by_tag GeneralizedTime generalized_time tree refl d.1.0
  begins_told (Sequence parts) tree v d = begins_by_tag (Sequence parts) sequence tree refl (ap tag_of d.2)
  begins_told (SetType parts) tree v d = begins_by_tag (SetType parts) set tree refl (ap tag_of d.3)
  begins_told (SequenceOf member sizes) tree v d =
      begins_by_tag (SequenceOf member sizes) sequence tree refl (ap tag_of d.2)
  begins_told (SetOf member sizes) tree v d = begins_by_tag (SetOf member sizes) set tree refl (ap tag_of d.3)
  begins_told (Choice parts) tree v d = pick_begins parts d.0 tree d.1 d.2
  begins_told (Tagged own true of) tree v d = begins_by_tag (Tagged own true of) own tree refl (ap tag_of d.1)
  begins_told (Tagged own false of) tree v d =
      begins_by_tag (Tagged own false of) own tree refl (tag_told of own tree v d)
  begins_told Any tree v d = refl
  begins_told Filter tree v d = filter_begins tree d.0

  pick_begins : (parts : TypeParts) (index : ℕ) (tree : TreeValue) (v : TypedValue) → PickDenotes parts index tree v
      → has_tag (parts_tags parts) (tag_of tree) ≡ true
  pick_begins NoParts index tree v d = absurd d
  pick_begins (Part name syntax optional default rest) zero tree v d =
      left_has (first_tags syntax) (parts_tags rest) (tag_of tree) (begins_told syntax tree v d)
  pick_begins (Part name syntax optional default rest) (suc index) tree v d =
      right_has (first_tags syntax) (parts_tags rest) (tag_of tree) (pick_begins rest index tree v d)

-- ---- what is read

-- a value is read, and it is the one that the tree denotes, where no two members of a SET OF in it have one encoding
pub record IsFound (tag : Option Tag) (syntax : TypeSyntax) (tree : TreeValue) (value : TypedValue) : Type 0 where
  pub read : TypedValue
  pub found : denoted (is_some tag) syntax tree ≡ Some read
  pub same : IsDistinct syntax value → read ≡ value

by : (tag : Option Tag) (syntax : TypeSyntax) (tree : TreeValue) (value v : TypedValue) → value ≡ v
    → denoted (is_some tag) syntax tree ≡ Some v → IsFound tag syntax tree value
by tag syntax tree value v s e = record { read = v; found = e; same = λ _. sym s }

pub where_holds : (b : Bool) (x : TypedValue) → b ≡ true → where_it b x ≡ Some x
where_holds b x e = rw e refl

pub whole_found : (tag : Tag) (test : ℤ → Bool) (tree : TreeValue) (n : ℤ) → IsWhole tag tree n → test n ≡ true
    → option_and_then (λ n. where_it (test n) (Int n)) (option_and_then integer_in (contents_in tree)) ≡ Some (Int n)
whole_found tag test tree n is e =
    ap (λ t. option_and_then (λ n. where_it (test n) (Int n)) (option_and_then integer_in (contents_in t))) is.0
    ∙ (rw (whole_read n is.1) (where_holds (test n) (Int n) e))

pub inside_found : (tag : Tag) (f : TreeValues → Option TypedValue) (tree : TreeValue) (inside : List TreeValue)
    (v : TypedValue) → Holds tag tree inside → f (trees_listed inside) ≡ Some v → within f tree ≡ Some v
inside_found tag f tree inside v h e = ap (within f) h ∙ e

record AreFound (member : TypeSyntax) (trees : List TreeValue) (vs : List TypedValue) : Type 0 where
  values : TypedValues
  found : members_in (denoted false member) (trees_listed trees) ≡ Some values
  many : count values ≡ length vs
  same : Each (IsDistinct member) vs → values ≡ listed vs

members_found : (member : TypeSyntax)
    → ((x : TreeValue) (v : TypedValue) → DenotesAs None member x v → IsFound None member x v)
    → (trees : List TreeValue) (vs : List TypedValue) → AllDenote (DenotesAs None member) trees vs
    → AreFound member trees vs
members_found member each [] [] a = record { values = Nothing; found = refl; many = refl; same = λ _. refl }
members_found member each [] (v ∷ vs) a = absurd a
members_found member each (x ∷ xs) [] a = absurd a
members_found member each (x ∷ xs) (v ∷ vs) a =
    let w = each x v a.0 in
    let r = members_found member each xs vs a.1 in
    record {
      values = Then w.read r.values;
      found = rw (w.found, r.found) refl;
      many = ap suc r.many;
      same = λ h i. Then (w.same h.0 i) (r.same h.1 i);
    }

sized_found : (sizes : Bounds) (members : TypedValues) (size : ℕ) → count members ≡ size
    → allowed_size sizes size ≡ true → sized_members sizes members ≡ Some (Many members)
sized_found sizes members size e a =
    where_holds (allowed_size sizes (count members)) (Many members) (ap (allowed_size sizes) e ∙ a)

-- members of a SET OF
set_same : (member : TypeSyntax) (sizes : Bounds) (as_they_came members : List TypedValue) (values : TypedValues)
    (v : TypedValue) → IsRearrangement as_they_came members → IsRising (map (der member) members)
    → v ≡ Many (listed members) → (Each (IsDistinct member) as_they_came → values ≡ listed as_they_came)
    → IsDistinct (SetOf member sizes) v → Many (rising_by (der member) values) ≡ v
set_same member sizes as_they_came members values v r up e same h =
    let d = subst (IsDistinct (SetOf member sizes)) e h in
    let one = same (each_rearranged (IsDistinct member) as_they_came members r
    (each_of (IsDistinct member) members d.0)) in
    ap (λ xs. Many (rising_by (der member) xs)) one
    ∙ ap Many (rising_once (der member) as_they_came members r up d.1) ∙ sym e

mutual
  pub found : (syntax : TypeSyntax) (tag : Option Tag) (tree : TreeValue) (v : TypedValue)
      → has_clear_tags syntax ≡ true → DenotesAs tag syntax tree v → IsFound tag syntax tree v
  found Boolean tag tree v c d =
      by tag Boolean tree v (Truth (not (d.0 == 0))) d.2 (under_is tag boolean truth_in tree (Truth (not (d.0 == 0)))
      (ap tag_of d.1) (ap truth_in d.1))
  found (Integer names ranges) tag tree v c d =
      by tag (Integer names ranges) tree v (Int d.0) d.3 (under_is tag integer (whole_in ranges) tree (Int d.0)
      (ap tag_of d.1.0)
      (whole_found (due tag integer) (allowed ranges) tree d.0 d.1 d.2))
  found (Enumerated names) tag tree v c d =
      by tag (Enumerated names) tree v (Int d.0) d.3 (under_is tag enumerated (named_in names) tree (Int d.0)
      (ap tag_of d.1.0)
      (whole_found (due tag enumerated) (is_named names) tree d.0 d.1 d.2))
  found (BitString names sizes) tag tree v c d =
      by tag (BitString names sizes) tree v (Bits d.0 d.1) d.5
      (under_is tag bit_string (bit_string_in sizes) tree (Bits d.0 d.1) d.2
      (rw (bits_read tree d.0 d.1 d.3) (where_holds (allowed_size sizes (bit_count d.0 d.1)) (Bits d.0 d.1) d.4)))
  found (OctetString sizes) tag tree v c d =
      by tag (OctetString sizes) tree v (Octets d.0) d.3 (under_is tag octet_string (octet_string_in sizes) tree
      (Octets d.0) d.1.0
      (rw (octets_read tree d.0 d.1.1) (where_holds (allowed_size sizes (length d.0)) (Octets d.0) d.2)))
  found NullType tag tree v c d =
      by tag NullType tree v Null d.1 (under_is tag null null_in tree Null (ap tag_of d.0) (ap null_in d.0))
  found ObjectIdentifier tag tree v c d =
      by tag ObjectIdentifier tree v (Identifier d.0) d.2 (under_is tag object_identifier identifier_in tree
      (Identifier d.0) (ap tag_of d.1.0)
      (ap identifier_in d.1.0 ∙ (rw (oid_read d.0 d.1.1 d.1.2) refl)))
  found (TextString charset sizes) tag tree v c d =
      by tag (TextString charset sizes) tree v (Text d.0) d.4
      (under_is tag (text_tag charset) (text_in charset sizes) tree (Text d.0) d.1.0
      (rw (octets_read tree d.0 d.1.1) (where_holds (list_all (has_character charset) d.0 && allowed_size sizes
      (length d.0)) (Text d.0)
      (and_from (list_all (has_character charset) d.0) (allowed_size sizes (length d.0)) d.2 d.3))))
  found GeneralizedTime tag tree v c d =
      by tag GeneralizedTime tree v (Time d.0) d.3 (under_is tag generalized_time time_in tree (Time d.0) d.1.0
      (rw (octets_read tree d.0 d.1.1) (where_holds (is_time d.0) (Time d.0) d.2)))
  found (Sequence parts) tag tree v c d =
      let p = and_parts (are_runs_apart parts) (have_clear_tags parts) c in
      let r = parts_found parts d.0 d.1 p.1 d.3 in
      record {
        read = Parts r.0;
        found = under_is tag sequence (within (λ inside. option_map Parts (parts_in parts inside))) tree (Parts r.0)
            (ap tag_of d.2)
            (inside_found (due tag sequence) (λ inside. option_map Parts (parts_in parts inside)) tree d.0 (Parts r.0)
            d.2
            (ap (option_map Parts) (parts_read parts d.0 r.0 p.0 r.1)));
        same = λ h. ap Parts (r.2 (subst (IsDistinct (Sequence parts)) d.4 h)) ∙ sym d.4;
      }
  found (SetType parts) tag tree v c d =
      let p = and_parts (are_all_apart parts) (have_clear_tags parts) c in
      let r = parts_found parts d.1 d.2 p.1 d.5 in
      record {
        read = Parts r.0;
        found = under_is tag set (within (λ inside. option_map Parts (unordered_in parts inside))) tree (Parts r.0)
            (ap tag_of d.3)
            (inside_found (due tag set) (λ inside. option_map Parts (unordered_in parts inside)) tree d.0 (Parts r.0)
            d.3
            (ap (option_map Parts) (unordered_read parts d.0 d.1 r.0 p.0 d.4 r.1)));
        same = λ h. ap Parts (r.2 (subst (IsDistinct (SetType parts)) d.6 h)) ∙ sym d.6;
      }
  found (SequenceOf member sizes) tag tree v c d =
      let r = members_found member (λ x w h. found member None x w c h) d.0 d.1 d.3 in
      record {
        read = Many r.values;
        found = under_is tag sequence (within (λ inside. option_and_then (sized_members sizes)
            (members_in (denoted false member) inside))) tree (Many r.values) (ap tag_of d.2)
            (inside_found (due tag sequence) (λ inside. option_and_then (sized_members sizes)
            (members_in (denoted false member) inside)) tree d.0 (Many r.values) d.2
            (rw r.found (sized_found sizes r.values (length d.1) r.many d.4)));
        same = λ h. ap Many (r.same (each_of (IsDistinct member) d.1
            (subst (IsDistinct (SequenceOf member sizes)) d.5 h)))
            ∙ sym d.5;
      }
  found (SetOf member sizes) tag tree v c d =
      let r = members_found member (λ x w h. found member None x w c h) d.0 d.1 d.4 in
      let m = rising_by (der member) r.values in
      let size : count m ≡ length d.2 = rising_counts (der member) r.values ∙ (r.many ∙ rearranged_counts d.1 d.2 d.5)
      in
      record {
        read = Many m;
        found = under_is tag set (within (λ inside. option_and_then (sized_members sizes)
            (option_map (rising_by (der member)) (members_in (denoted false member) inside)))) tree (Many m)
            (ap tag_of d.3)
            (inside_found (due tag set) (λ inside. option_and_then (sized_members sizes)
            (option_map (rising_by (der member)) (members_in (denoted false member) inside))) tree d.0 (Many m) d.3
            (rw r.found (sized_found sizes m (length d.2) size d.7)));
        same = λ h. set_same member sizes d.1 d.2 r.values v d.5 d.6 d.8 r.same h;
      }
  found (Choice parts) None tree v c d =
      let p = and_parts (are_all_apart parts) (have_clear_tags parts) c in
      let r = pick_found parts d.0 tree d.1 p.1 d.2 in
      let plain : zero + d.0 ≡ d.0 = omega arith in
      record {
        read = Pick d.0 r.0;
        found = picked_read parts zero d.0 tree r.0 p.0 r.1 ∙ ap (λ n. Some (Pick n r.0)) plain;
        same = λ h. ap (Pick d.0) (r.2 (subst (IsDistinct (Choice parts)) d.3 h)) ∙ sym d.3;
      }
  found (Choice parts) (Some tag) tree v c d = absurd d
  found (Tagged own true of) tag tree v c d =
      let f = found of None d.0 v c d.2 in
      record {
        read = f.read;
        found = under_is tag own (within (one_in (denoted false of))) tree f.read (ap tag_of d.1)
            (ap (within (one_in (denoted false of))) d.1 ∙ f.found);
        same = f.same;
      }
  found (Tagged own false of) tag tree v c d =
      let p = and_parts (has_own_tag of) (has_clear_tags of) c in
      let f = found of (Some (due tag own)) tree v p.1 d in
      record {
        read = f.read;
        found = under_is tag own (denoted true of) tree f.read
            (tag_told of (due tag own) tree v d) f.found;
        same = f.same;
      }
  found Any None tree v c d = by None Any tree v (Raw (written tree)) d refl
  found Any (Some tag) tree v c d = absurd d
  found Filter None tree v c d = by None Filter tree v (Raw (written tree)) d.1
      (where_holds (is_filter tree) (Raw (written tree)) d.0)
  found Filter (Some tag) tree v c d = absurd d

  parts_found : (parts : TypeParts) (trees : List TreeValue) (slots : TypedSlots) → have_clear_tags parts ≡ true
      → PartsDenote parts trees slots → (others : TypedSlots) × PartsRead parts trees others
      × (AreDistinct parts slots → others ≡ slots)
  parts_found NoParts trees slots c d = (NoSlots, (d.0, refl), λ _. sym d.1)
  parts_found (Part name syntax optional default rest) [] slots c (inl d) = absurd d
  parts_found (Part name syntax optional default rest) (x ∷ xs) NoSlots c (inl d) = absurd d
  parts_found (Part name syntax optional default rest) (x ∷ xs) (Empty slots) c (inl d) = absurd d
  parts_found (Part name syntax optional default rest) (x ∷ xs) (Filled v slots) c (inl d) =
      let p = and_parts (has_clear_tags syntax) (have_clear_tags rest) c in
      let f = found syntax None x v p.0 d.0 in
      let r = parts_found rest xs slots p.1 d.1 in (
        Filled f.read r.0,
        inl (record { begun = begins_told syntax x v d.0; found = f.found }, r.1),
        λ h i. Filled (f.same h.0 i) (r.2 h.1 i),
      )
  parts_found (Part name syntax optional (Some default) rest) trees (Filled v slots) c (inr d) =
      let r = parts_found rest trees slots (and_parts (has_clear_tags syntax) (have_clear_tags rest) c).1 d.1 in
      (Filled v r.0, inr (d.0, r.1), λ h. ap (Filled v) (r.2 h.1))
  parts_found (Part name syntax optional (Some default) rest) trees NoSlots c (inr d) = absurd d
  parts_found (Part name syntax optional (Some default) rest) trees (Empty slots) c (inr d) = absurd d
  parts_found (Part name syntax true None rest) trees (Empty slots) c (inr d) =
      let r = parts_found rest trees slots (and_parts (has_clear_tags syntax) (have_clear_tags rest) c).1 d in
      (Empty r.0, inr r.1, λ h. ap Empty (r.2 h))
  parts_found (Part name syntax true None rest) trees NoSlots c (inr d) = absurd d
  parts_found (Part name syntax true None rest) trees (Filled v slots) c (inr d) = absurd d
  parts_found (Part name syntax false None rest) trees slots c (inr d) = absurd d

  pick_found : (parts : TypeParts) (index : ℕ) (tree : TreeValue) (v : TypedValue) → have_clear_tags parts ≡ true
      → PickDenotes parts index tree v → (w : TypedValue) × PickRead parts index tree w
      × (PickDistinct parts index v → w ≡ v)
  pick_found NoParts index tree v c d = absurd d
  pick_found (Part name syntax optional default rest) zero tree v c d =
      let f = found syntax None tree v (and_parts (has_clear_tags syntax) (have_clear_tags rest) c).0 d in
      (f.read, record { begun = begins_told syntax tree v d; found = f.found }, f.same)
  pick_found (Part name syntax optional default rest) (suc index) tree v c d =
      pick_found rest index tree v (and_parts (has_clear_tags syntax) (have_clear_tags rest) c).1 d
