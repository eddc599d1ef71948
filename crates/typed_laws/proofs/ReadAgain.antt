-- What is written for a value that fits its syntax is read again: X.690, sections 8, 10 and 11.
use Rattle.std.proofs.Common.{◌≡◌, Bool, true, false, cond, Option, Some, None, refl, ap, sym, ◌∙◌, subst, ℕ, suc, zero}
use Rattle.std.proofs.Common.{◌+◌, ◌<◌, List, [], ◌∷◌, length, map, arith, inl, inr}
use Rattle.std.specs.Prelude.{option_map, option_and_then, is_some}
use Rattle.std.proofs.lemmas.Bool.{and_parts, and_from}
use Rattle.std.proofs.lemmas.List.{append-nil}
use Rattle.term_values.proofs.OidLaws.{oid_read}
use Rattle.term_values.specs.Beginnings.{begins, first_tags, has_tag, parts_tags}
use Rattle.term_values.specs.Bounded.{allowed, allowed_size, bit_count, is_named}
use Rattle.term_values.specs.Decoding.{denoted, parts_in, unordered_in, members_in, inserted_by, rising_by, one_in}
use Rattle.term_values.specs.Decoding.{within, sized_members, under}
use Rattle.term_values.specs.Der.{written, written_all, encoded, identifier_octets, length_octets}
use Rattle.term_values.specs.FilterTrees.{is_filter}
use Rattle.term_values.specs.Fits.{Fits, AllFit, PartsFit, PickFits, count}
use Rattle.term_values.specs.LeafReading.{truth_in, null_in, whole_in, named_in, bit_string_in, octet_string_in}
use Rattle.term_values.specs.LeafReading.{identifier_in, text_in, time_in}
use Rattle.term_values.specs.Octets.{integer_contents}
use Rattle.term_values.specs.Oid.{oid_contents}
use Rattle.term_values.specs.Rearranged.{IsRising, joined, rising}
use Rattle.term_values.specs.SameValue.{same_value}
use Rattle.term_values.specs.Soundness.{has_clear_tags, have_clear_tags, are_all_apart, are_runs_apart, has_own_tag}
use Rattle.term_values.specs.Syntaxes.{Bounds, TypeSyntax, TypeParts}
use Rattle.term_values.specs.Syntaxes.TypeSyntax.{Boolean, Integer, Enumerated, BitString, OctetString, NullType}
use Rattle.term_values.specs.Syntaxes.TypeSyntax.{ObjectIdentifier, TextString, GeneralizedTime, Sequence, SetType}
use Rattle.term_values.specs.Syntaxes.TypeSyntax.{SequenceOf, SetOf, Choice, Tagged, Any, Filter}
use Rattle.term_values.specs.Syntaxes.TypeParts.{NoParts, Part}
use Rattle.term_values.specs.Times.{is_time}
use Rattle.term_values.specs.Tree.{TreeValue, TreeValues, listed as trees_listed}
use Rattle.term_values.specs.Tree.TreeValue.{Primitive, Constructed}
use Rattle.term_values.specs.Tree.TreeValues.{Nothing as NoTrees, Then as AndTrees}
use Rattle.term_values.specs.TreeTags.{tag_of, due}
use Rattle.term_values.specs.Typed.{TypedValue, TypedSlots, TypedValues}
use Rattle.term_values.specs.Typed.TypedValue.{Truth, Int, Bits, Octets, Null, Identifier, Text, Time, Parts, Many}
use Rattle.term_values.specs.Typed.TypedValue.{Pick, Raw}
use Rattle.term_values.specs.Typed.TypedSlots.{NoSlots, Filled, Empty}
use Rattle.term_values.specs.Typed.TypedValues.{Nothing, Then}
use Rattle.term_values.specs.UniversalTags.{boolean, integer, bit_string, octet_string, null, object_identifier}
use Rattle.term_values.specs.UniversalTags.{enumerated}
use Rattle.term_values.specs.UniversalTags.{sequence, set, generalized_time, text_tag}
use Rattle.term_values.specs.ValueContents.{member_encodings}
use Rattle.term_values.specs.Writable.{IsTag, IsWritable, AreWritable}
use Rattle.term_values.specs.Written.{der, der_as, part_encodings, pick_encoding, unless_default}
use Rattle.term_values.specs.declared.tag.Tag.{Tag}
use Rattle.typed_laws.proofs.TagsCan.{HasTags, HaveTags}
use Rattle.typed_laws.proofs.AnyOrderRead.{each_rearranged, unordered_read, picked_read}
use Rattle.typed_laws.proofs.Choosing.{under_is}
use Rattle.typed_laws.proofs.DenotesFound.{where_holds, filter_begins, begins_by_tag}
use Rattle.term_values.proofs.IntegerLaws.{whole_read}
use Rattle.term_values.proofs.LengthCounts.{length_rising}
use Rattle.typed_laws.proofs.PartsRead.{PartsRead, PickRead, parts_read}
use Rattle.typed_laws.proofs.SameIs.{same_is}
use Rattle.typed_laws.proofs.StringsTold.{bits_contents_read}
use Rattle.typed_laws.proofs.TagsApart.{left_has, right_has}
use Rattle.typed_laws.proofs.WritableLaws.{writable_deeper, all_deeper, each_writable, all_writable, joined_written}
use Rattle.typed_laws.proofs.WritableLaws.{trees_rising, rising_written, rising_trees_rearrange, universal_can}
use Rattle.typed_laws.proofs.WritableLaws.{text_can, TagCan, due_can, contents_within, front_within, back_within}

-- the tree has the tag that is due
abbrev Bears : Option Tag → TypeSyntax → TreeValue → Type 0
Bears None syntax tree = begins syntax (tag_of tree) ≡ true
Bears (Some tag) syntax tree = tag_of tree ≡ tag

bears : (tag : Option Tag) (syntax : TypeSyntax) (own : Tag) (tree : TreeValue)
    → first_tags syntax ≡ Some (own ∷ []) → tag_of tree ≡ due tag own → Bears tag syntax tree
bears None syntax own tree e t = begins_by_tag syntax own tree e t
bears (Some tag) syntax own tree e t = t

pub record IsAgain (tag : Option Tag) (syntax : TypeSyntax) (value : TypedValue) : Type 0 where
  pub depth : ℕ
  pub tree : TreeValue
  pub writable : IsWritable depth tree
  pub whole : der_as tag syntax value ≡ written tree
  pub read : denoted (is_some tag) syntax tree ≡ Some value
  pub bears : Bears tag syntax tree

encoded_within : (constructed : Bool) (tag : Tag) (contents : List ℕ)
    → length (encoded constructed tag contents) < 4294967296 → length contents < 4294967296
encoded_within constructed tag contents h =
    contents_within (identifier_octets constructed tag) (length_octets (length contents)) contents 4294967296 h

-- a primitive value
leaf : (tag : Option Tag) (syntax : TypeSyntax) (own : Tag) (contents : List ℕ) (value : TypedValue)
    (reads : TreeValue → Option TypedValue) → first_tags syntax ≡ Some (own ∷ []) → IsTag (due tag own)
    → length (encoded false (due tag own) contents) < 4294967296
    → der_as tag syntax value ≡ encoded false (due tag own) contents
    → denoted (is_some tag) syntax (Primitive (due tag own) contents)
    ≡ under (is_some tag) own reads (Primitive (due tag own) contents)
    → reads (Primitive (due tag own) contents) ≡ Some value → IsAgain tag syntax value
leaf tag syntax own contents value reads first can short spelt is e = record {
  depth = 0;
  tree = Primitive (due tag own) contents;
  writable = (can, encoded_within false (due tag own) contents short);
  whole = spelt;
  read = is ∙ under_is tag own reads (Primitive (due tag own) contents) value refl e;
  bears = bears tag syntax own (Primitive (due tag own) contents) first refl;
}

-- a value that holds others
built : (tag : Option Tag) (syntax : TypeSyntax) (own : Tag) (depth : ℕ) (inside : TreeValues) (contents : List ℕ)
    (value : TypedValue) (reads : TreeValues → Option TypedValue) → first_tags syntax ≡ Some (own ∷ [])
    → IsTag (due tag own) → AreWritable depth inside → contents ≡ written_all inside
    → length (encoded true (due tag own) contents) < 4294967296
    → der_as tag syntax value ≡ encoded true (due tag own) contents
    → denoted (is_some tag) syntax (Constructed (due tag own) inside)
    ≡ under (is_some tag) own (within reads) (Constructed (due tag own) inside)
    → reads inside ≡ Some value → IsAgain tag syntax value
built tag syntax own depth inside contents value reads first can writable same short spelt is e = record {
  depth = suc depth;
  tree = Constructed (due tag own) inside;
  writable = (
    can,
    subst (λ cs. length cs < 4294967296) same (encoded_within true (due tag own) contents short),
    writable,
  );
  whole = spelt ∙ ap (encoded true (due tag own)) same;
  read = is ∙ under_is tag own (within reads) (Constructed (due tag own) inside) value refl e;
  bears = bears tag syntax own (Constructed (due tag own) inside) first refl;
}

-- ---- members

record AreAgain (member : TypeSyntax) (values : TypedValues) : Type 0 where
  depth : ℕ
  trees : List TreeValue
  writable : AreWritable depth (trees_listed trees)
  whole : member_encodings (der member) values ≡ map written trees
  read : members_in (denoted false member) (trees_listed trees) ≡ Some values

members_again : (member : TypeSyntax)
    → ((v : TypedValue) → Fits member v → length (der member v) < 4294967296 → IsAgain None member v)
    → (values : TypedValues) → AllFit (Fits member) values
    → length (joined (member_encodings (der member) values)) < 4294967296 → AreAgain member values
members_again member each Nothing f short =
    record { depth = 0; trees = []; writable = tt; whole = refl; read = refl }
members_again member each (Then x xs) f short =
    let a = each x f.0 (front_within _ _ 4294967296 short) in
    let r = members_again member each xs f.1 (back_within (der member x) _ 4294967296 short) in
    record {
      depth = a.depth + r.depth;
      trees = a.tree ∷ r.trees;
      writable = (
        writable_deeper a.depth (a.depth + r.depth) a.tree (omega arith) a.writable,
        all_deeper r.depth (a.depth + r.depth) (trees_listed r.trees) (omega arith) r.writable,
      );
      whole = λ i. a.whole i ∷ r.whole i;
      read = rw (a.read, r.read) refl;
    }

rising_stays : (encoding : TypedValue → List ℕ) (xs : TypedValues) → IsRising (member_encodings encoding xs)
    → rising_by encoding xs ≡ xs
rising_stays encoding Nothing r = refl
rising_stays encoding (Then x Nothing) r = refl
rising_stays encoding (Then x (Then y ys)) r =
    ap (inserted_by encoding x) (rising_stays encoding (Then y ys) r.1) ∙ (rw r.0 refl)

-- ---- components

record PartsAgain (parts : TypeParts) (slots : TypedSlots) : Type 0 where
  depth : ℕ
  trees : List TreeValue
  writable : AreWritable depth (trees_listed trees)
  whole : part_encodings parts slots ≡ map written trees
  read : PartsRead parts trees slots

filled : (name : List ℕ) (syntax : TypeSyntax) (optional : Bool) (default : Option TypedValue) (rest : TypeParts)
    (value : TypedValue) (slots : TypedSlots) → IsAgain None syntax value → PartsAgain rest slots
    → part_encodings (Part name syntax optional default rest) (Filled value slots)
    ≡ der syntax value ∷ part_encodings rest slots
    → PartsAgain (Part name syntax optional default rest) (Filled value slots)
filled name syntax optional default rest value slots a r e = record {
  depth = a.depth + r.depth;
  trees = a.tree ∷ r.trees;
  writable = (
    writable_deeper a.depth (a.depth + r.depth) a.tree (omega arith) a.writable,
    all_deeper r.depth (a.depth + r.depth) (trees_listed r.trees) (omega arith) r.writable,
  );
  whole = e ∙ (λ i. a.whole i ∷ r.whole i);
  read = inl (record { begun = a.bears; found = a.read }, r.read);
}

by_default : (name : List ℕ) (syntax : TypeSyntax) (optional : Bool) (default : Option TypedValue) (rest : TypeParts)
    (value : TypedValue) (slots : TypedSlots)
    → (length (der syntax value) < 4294967296 → IsAgain None syntax value)
    → (length (joined (part_encodings rest slots)) < 4294967296 → PartsAgain rest slots)
    → length (joined (unless_default default value (der syntax value) (part_encodings rest slots))) < 4294967296
    → PartsAgain (Part name syntax optional default rest) (Filled value slots)
by_default name syntax optional None rest value slots here later short =
    filled name syntax optional None rest value slots (here (front_within _ _ 4294967296 short))
    (later (back_within (der syntax value) _ 4294967296 short)) refl
by_default name syntax optional (Some default) rest value slots here later short =
    either (same_value value default) refl short
  where
    either : (b : Bool) → same_value value default ≡ b
        → length (joined (cond b (part_encodings rest slots) (der syntax value ∷ part_encodings rest slots))) <
        4294967296
        → PartsAgain (Part name syntax optional (Some default) rest) (Filled value slots)
    either true e short =
        let r = later short in
        record {
          depth = r.depth;
          trees = r.trees;
          writable = r.writable;
          whole = (rw e refl) ∙ r.whole;
          read = inr (same_is value default e, r.read);
        }
    either false e short =
        filled name syntax optional (Some default) rest value slots (here (front_within _ _ 4294967296 short))
        (later (back_within (der syntax value) _ 4294967296 short)) (rw e refl)

pub record PickAgain (parts : TypeParts) (index : ℕ) (value : TypedValue) : Type 0 where
  pub depth : ℕ
  pub tree : TreeValue
  pub writable : IsWritable depth tree
  pub whole : pick_encoding parts index value ≡ written tree
  pub read : PickRead parts index tree value
  pub begun : has_tag (parts_tags parts) (tag_of tree) ≡ true

joined_rising_within : (xs : List (List ℕ)) (most : ℕ) → length (joined (rising xs)) < most
    → length (joined xs) < most
joined_rising_within xs most h = let e = length_rising xs in omega arith

sized_again : (sizes : Bounds) (values : TypedValues) → allowed_size sizes (count values) ≡ true
    → sized_members sizes values ≡ Some (Many values)
sized_again sizes values e = where_holds (allowed_size sizes (count values)) (Many values) e

mutual
  pub again : (syntax : TypeSyntax) (tag : Option Tag) (value : TypedValue) → has_clear_tags syntax ≡ true
      → (is_some tag ≡ true → has_own_tag syntax ≡ true) → TagCan tag → HasTags syntax → Fits syntax value
      → length (der_as tag syntax value) < 4294967296 → IsAgain tag syntax value
  again Boolean tag (Truth true) c o t h f short =
      leaf tag Boolean boolean (255 ∷ []) (Truth true) truth_in refl
      (due_can tag boolean t (universal_can 1 (omega arith) (omega arith))) short refl refl refl
  again Boolean tag (Truth false) c o t h f short =
      leaf tag Boolean boolean (0 ∷ []) (Truth false) truth_in refl
      (due_can tag boolean t (universal_can 1 (omega arith) (omega arith))) short refl refl refl
  again (Integer names ranges) tag (Int n) c o t h f short =
      leaf tag (Integer names ranges) integer (integer_contents n) (Int n) (whole_in ranges) refl
      (due_can tag integer t (universal_can 2 (omega arith) (omega arith))) short refl refl
      (rw (whole_read n f.0) (where_holds (allowed ranges n) (Int n) f.1))
  again (Enumerated names) tag (Int n) c o t h f short =
      leaf tag (Enumerated names) enumerated (integer_contents n) (Int n) (named_in names) refl
      (due_can tag enumerated t (universal_can 10 (omega arith) (omega arith))) short refl refl
      (rw (whole_read n f.0) (where_holds (is_named names n) (Int n) f.1))
  again (BitString names sizes) tag (Bits octets unused) c o t h f short =
      leaf tag (BitString names sizes) bit_string (unused ∷ octets) (Bits octets unused) (bit_string_in sizes) refl
      (due_can tag bit_string t (universal_can 3 (omega arith) (omega arith))) short refl refl
      (rw (bits_contents_read (unused ∷ octets) octets unused (octets, refl, f.0.0, f.0.1, f.0.2))
      (where_holds (allowed_size sizes (bit_count octets unused)) (Bits octets unused) f.1))
  again (OctetString sizes) tag (Octets octets) c o t h f short =
      leaf tag (OctetString sizes) octet_string octets (Octets octets) (octet_string_in sizes) refl
      (due_can tag octet_string t (universal_can 4 (omega arith) (omega arith))) short refl refl
      (where_holds (allowed_size sizes (length octets)) (Octets octets) f)
  again NullType tag Null c o t h f short =
      leaf tag NullType null [] Null null_in refl
      (due_can tag null t (universal_can 5 (omega arith) (omega arith))) short refl refl refl
  again ObjectIdentifier tag (Identifier arcs) c o t h f short =
      leaf tag ObjectIdentifier object_identifier (oid_contents arcs) (Identifier arcs) identifier_in refl
      (due_can tag object_identifier t (universal_can 6 (omega arith) (omega arith))) short refl refl
      (rw (oid_read arcs f.0 f.1) refl)
  again (TextString charset sizes) tag (Text octets) c o t h f short =
      leaf tag (TextString charset sizes) (text_tag charset) octets (Text octets) (text_in charset sizes) refl
      (due_can tag (text_tag charset) t (text_can charset)) short refl refl
      (where_holds _ (Text octets) (and_from _ _ f.0 f.1))
  again GeneralizedTime tag (Time octets) c o t h f short =
      leaf tag GeneralizedTime generalized_time octets (Time octets) time_in refl
      (due_can tag generalized_time t (universal_can 24 (omega arith) (omega arith))) short refl refl
      (where_holds (is_time octets) (Time octets) f)
  again (Sequence parts) tag (Parts slots) c o t h f short =
      let p = and_parts (are_runs_apart parts) (have_clear_tags parts) c in
      let r = parts_again parts slots p.1 h f (encoded_within true (due tag sequence)
      (joined (part_encodings parts slots)) short) in
      built tag (Sequence parts) sequence r.depth (trees_listed r.trees) (joined (part_encodings parts slots))
      (Parts slots)
      (λ inside. option_map Parts (parts_in parts inside)) refl
      (due_can tag sequence t (universal_can 16 (omega arith) (omega arith))) r.writable
      (ap joined r.whole ∙ joined_written r.trees) short refl refl
      (ap (option_map Parts) (parts_read parts r.trees slots p.0 r.read))
  again (SetType parts) tag (Parts slots) c o t h f short =
      let p = and_parts (are_all_apart parts) (have_clear_tags parts) c in
      let r = parts_again parts slots p.1 h f (joined_rising_within (part_encodings parts slots) 4294967296
      (encoded_within true (due tag set) (joined (rising (part_encodings parts slots))) short)) in
      built tag (SetType parts) set r.depth (trees_listed (trees_rising r.trees))
      (joined (rising (part_encodings parts slots))) (Parts slots)
      (λ inside. option_map Parts (unordered_in parts inside)) refl
      (due_can tag set t (universal_can 17 (omega arith) (omega arith)))
      (all_writable r.depth (trees_rising r.trees) (each_rearranged (IsWritable r.depth) (trees_rising r.trees) r.trees
      (rising_trees_rearrange r.trees) (each_writable r.depth r.trees r.writable)))
      (ap (λ es. joined (rising es)) r.whole ∙ ap joined (sym (rising_written r.trees)) ∙ joined_written
      (trees_rising r.trees))
      short refl refl
      (ap (option_map Parts) (unordered_read parts (trees_rising r.trees) r.trees slots p.0
      (rising_trees_rearrange r.trees) r.read))
  again (SequenceOf member sizes) tag (Many values) c o t h f short =
      let r = members_again member (λ v g s. again member None v c (λ e. absurd (cc)) tt h g s) values f.0
      (encoded_within true (due tag sequence) (joined (member_encodings (der member) values)) short) in
      built tag (SequenceOf member sizes) sequence r.depth (trees_listed r.trees)
      (joined (member_encodings (der member) values)) (Many values)
      (λ inside. option_and_then (sized_members sizes) (members_in (denoted false member) inside)) refl
      (due_can tag sequence t (universal_can 16 (omega arith) (omega arith))) r.writable
      (ap joined r.whole ∙ joined_written r.trees) short refl refl
      (rw r.read (sized_again sizes values f.1))
  again (SetOf member sizes) tag (Many values) c o t h f short =
      let r = members_again member (λ v g s. again member None v c (λ e. absurd (cc)) tt h g s) values f.0
      (encoded_within true (due tag set) (joined (member_encodings (der member) values)) short) in
      built tag (SetOf member sizes) set r.depth (trees_listed r.trees)
      (joined (member_encodings (der member) values)) (Many values)
      (λ inside. option_and_then (sized_members sizes) (option_map (rising_by (der member))
      (members_in (denoted false member) inside))) refl
      (due_can tag set t (universal_can 17 (omega arith) (omega arith))) r.writable
      (ap joined r.whole ∙ joined_written r.trees) short refl refl
      (rw (r.read, rising_stays (der member) values f.2) (sized_again sizes values f.1))
  again (Choice parts) None (Pick index value) c o t h f short =
      let p = and_parts (are_all_apart parts) (have_clear_tags parts) c in
      let r = pick_again parts index value p.1 h f short in
      let plain : zero + index ≡ index = omega arith in
      record {
        depth = r.depth;
        tree = r.tree;
        writable = r.writable;
        whole = r.whole;
        read = picked_read parts zero index r.tree value p.0 r.read ∙ ap (λ n. Some (Pick n value)) plain;
        bears = r.begun;
      }
  again (Choice parts) (Some tag) value c o t h f short = absurd (let e = o refl in cc)
  again (Tagged own true of) tag value c o t h f short =
      let r = again of None value c (λ e. absurd (cc)) tt h.1 f
      (encoded_within true (due tag own) (der of value) short) in
      built tag (Tagged own true of) own r.depth (AndTrees r.tree NoTrees) (der of value) value
      (one_in (denoted false of)) refl
      (due_can tag own t h.0) (r.writable, tt) (r.whole ∙ sym (append-nil (written r.tree))) short refl refl r.read
  again (Tagged own false of) tag value c o t h f short =
      let p = and_parts (has_own_tag of) (has_clear_tags of) c in
      let r = again of (Some (due tag own)) value p.1 (λ e. p.0) (due_can tag own t h.0) h.1 f short in
      record {
        depth = r.depth;
        tree = r.tree;
        writable = r.writable;
        whole = r.whole;
        read = under_is tag own (denoted true of) r.tree value r.bears r.read;
        bears = bears tag (Tagged own false of) own r.tree refl r.bears;
      }
  again Any None (Raw octets) c o t h f short = record {
    depth = f.depth;
    tree = f.tree;
    writable = f.writable;
    whole = f.whole;
    read = ap (λ xs. Some (Raw xs)) (sym f.whole);
    bears = refl;
  }
  again Any (Some tag) value c o t h f short = absurd (let e = o refl in cc)
  again Filter None (Raw octets) c o t h f short = record {
    depth = f.depth;
    tree = f.tree;
    writable = f.writable;
    whole = f.whole;
    read = where_holds (is_filter f.tree) (Raw (written f.tree)) f.such ∙ ap (λ xs. Some (Raw xs)) (sym f.whole);
    bears = filter_begins f.tree f.such;
  }
  again Filter (Some tag) value c o t h f short = absurd (let e = o refl in cc)
  again _ _ _ c o t h f short = absurd f

  parts_again : (parts : TypeParts) (slots : TypedSlots) → have_clear_tags parts ≡ true → HaveTags parts
      → PartsFit parts slots → length (joined (part_encodings parts slots)) < 4294967296 → PartsAgain parts slots
  parts_again NoParts NoSlots c h f short =
      record { depth = 0; trees = []; writable = tt; whole = refl; read = (refl, refl) }
  parts_again (Part name syntax optional default rest) (Filled value slots) c h f short =
      let p = and_parts (has_clear_tags syntax) (have_clear_tags rest) c in
      by_default name syntax optional default rest value slots
      (λ s. again syntax None value p.0 (λ e. absurd (cc)) tt h.0 f.0 s)
      (λ s. parts_again rest slots p.1 h.1 f.1 s) short
  parts_again (Part name syntax true None rest) (Empty slots) c h f short =
      let p = and_parts (has_clear_tags syntax) (have_clear_tags rest) c in
      let r = parts_again rest slots p.1 h.1 f short in
      record { depth = r.depth; trees = r.trees; writable = r.writable; whole = r.whole; read = inr r.read }
  parts_again _ _ c h f short = absurd f

  pick_again : (parts : TypeParts) (index : ℕ) (value : TypedValue) → have_clear_tags parts ≡ true → HaveTags parts
      → PickFits parts index value → length (pick_encoding parts index value) < 4294967296
      → PickAgain parts index value
  pick_again NoParts index value c h f short = absurd f
  pick_again (Part name syntax optional default rest) zero value c h f short =
      let p = and_parts (has_clear_tags syntax) (have_clear_tags rest) c in
      let a = again syntax None value p.0 (λ e. absurd (cc)) tt h.0 f short in
      record {
        depth = a.depth;
        tree = a.tree;
        writable = a.writable;
        whole = a.whole;
        read = record { begun = a.bears; found = a.read };
        begun = left_has (first_tags syntax) (parts_tags rest) (tag_of a.tree) a.bears;
      }
  pick_again (Part name syntax optional default rest) (suc index) value c h f short =
      let p = and_parts (has_clear_tags syntax) (have_clear_tags rest) c in
      let r = pick_again rest index value p.1 h.1 f short in
      record {
        depth = r.depth;
        tree = r.tree;
        writable = r.writable;
        whole = r.whole;
        read = r.read;
        begun = right_has (first_tags syntax) (parts_tags rest) (tag_of r.tree) r.begun;
      }
