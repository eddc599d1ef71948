-- The value that a text denotes in a syntax fits it, where each DEFAULT in the syntax fits and the value is written in
-- fewer than 2 ^ 32 octets: X.680, sections 18 to 46.
use Rattle.std.proofs.Common.{◌≡◌, ◌<◌, ◌+◌, ℕ, zero, suc, Bool, true, false, List, [], ◌∷◌, Option, None}
use Rattle.std.proofs.Common.{Some, refl, ap, sym, ◌∙◌, subst, arith, length, rules}
use Rattle.std.specs.Prelude.{if◌then◌else◌, option_and_then, option_map, is_some}
use Rattle.std.proofs.lemmas.Option.{none-some, same_Some}
use Rattle.term_values.specs.Bounded.{allowed_size}
use Rattle.term_values.specs.CmipTypes.{filter_item, filter_choice}
use Rattle.term_values.specs.Decoding.{left_out, rising_by, sized_members}
use Rattle.term_values.specs.Der.{encoded, identifier_octets, length_octets}
use Rattle.term_values.specs.Fits.{Fits, AllFit, PartsFit, PickFits, count}
use Rattle.term_values.specs.Rearranged.{joined, rising}
use Rattle.term_values.specs.Soundness.{HasFittingDefaults, HaveFittingDefaults}
use Rattle.term_values.specs.Syntaxes.{TypeSyntax, TypeParts}
use Rattle.term_values.specs.Syntaxes.TypeSyntax.{Boolean, Integer, Enumerated, BitString, OctetString, NullType}
use Rattle.term_values.specs.Syntaxes.TypeSyntax.{ObjectIdentifier, TextString, GeneralizedTime, Sequence, SetType}
use Rattle.term_values.specs.Syntaxes.TypeSyntax.{SequenceOf, SetOf, Choice, Tagged, Any, Filter}
use Rattle.term_values.specs.Syntaxes.TypeParts.{NoParts, Part}
use Rattle.term_values.specs.Tag.{context}
use Rattle.term_values.specs.TreeTags.{due}
use Rattle.term_values.specs.Typed.{TypedValue, TypedSlots, TypedValues}
use Rattle.term_values.specs.Typed.TypedValue.{Parts, Many, Pick, Raw}
use Rattle.term_values.specs.Typed.TypedSlots.{NoSlots, Filled}
use Rattle.term_values.specs.Typed.TypedValues.{Nothing, Then}
use Rattle.term_values.specs.UniversalTags.{sequence, set}
use Rattle.term_values.specs.ValueContents.{member_encodings, of_pick}
use Rattle.term_values.specs.Written.{der, der_as, part_encodings, pick_encoding}
use Rattle.term_values.specs.declared.tag.Tag.{Tag}
use Rattle.typed_laws.proofs.Choosing.{map_some, then_some}
use Rattle.typed_laws.proofs.FilterChoice.{filter_is_choice}
use Rattle.typed_laws.proofs.LeavesTold.{where_is}
use Rattle.typed_laws.proofs.WritableLaws.{contents_within}
use Rattle.typed_laws.proofs.WritingStatements.{written_is_read_again_holds}
use Rattle.typed_laws.specs.Nesting.{nesting}
use Rattle.asn1_values.specs.Denoted.{Reading, denoted, components_said, unordered_said, picked_said, chosen_by}
use Rattle.asn1_values.specs.Denoted.{members_said, reading_of, taken_out, where_taken}
use Rattle.asn1_values.specs.Filters.{filter_said, filters_said, each_said, item_said, no_filter, alternative}
use Rattle.asn1_leaf_values.specs.Arcs.{NamedArcs}
use Rattle.asn1_values.specs.Filters.{rising_filters, where_unnamed, value_named}
use Rattle.asn1_leaf_values.specs.Literals.{same_name}
use Rattle.asn1_leaf_values.specs.TextValues.{TextValue, TextParts, parts_of}
use Rattle.asn1_leaf_values.specs.TextValues.TextValue.{Literal, Number, Name, Chosen, InBraces, InArcs}
use Rattle.asn1_leaf_values.specs.TextValues.TextParts.{NoTexts, AndText}
use Rattle.asn1_leaf_values.proofs.FittingAny.{any_fits}
use Rattle.asn1_leaf_values.proofs.FittingLeaves.{truth_fits, null_fits, whole_fits, enumerated_fits, bit_string_fits}
use Rattle.asn1_leaf_values.proofs.FittingLeaves.{octet_string_fits, text_fits, time_fits, identifier_fits}
use Rattle.asn1_values.proofs.FittingParts.{Few, IsFitting, AreFitting, there_fits, absent_fits, rising_few}
use Rattle.asn1_values.proofs.FittingParts.{members_fit, all_few, all_rising, rising_rises}

contents_few : (constructed : Bool) (tag : Tag) (contents : List ℕ) → Few (encoded constructed tag contents)
    → Few contents
contents_few constructed tag contents h =
    contents_within (identifier_octets constructed tag) (length_octets (length contents)) contents 4294967296 h

-- what a CMISFilter's text denotes fits
abbrev FiltersFit : Reading → Type 0
FiltersFit reading = (text : TextValue) (v : TypedValue) → reading.filter text ≡ Some v → IsFitting Filter v

-- the alternative that is picked, counted from the first of these, of which so many stand before
record IsPicked (k : ℕ) (parts : TypeParts) (v : TypedValue) : Type 0 where
  index : ℕ
  value : TypedValue
  is : v ≡ Pick (k + index) value
  fits : Few (pick_encoding parts index value) → PickFits parts index value

here_picked : (k : ℕ) (name : List ℕ) (syntax : TypeSyntax) (optional : Bool) (default : Option TypedValue)
    (rest : TypeParts) (v x : TypedValue) → Pick k x ≡ v → IsFitting syntax x
    → IsPicked k (Part name syntax optional default rest) v
here_picked k name syntax optional default rest v x e f = record {
  index = 0;
  value = x;
  is = sym e ∙ ap (λ n. Pick n x) (plain k);
  fits = f;
}
  where
    plain : (k : ℕ) → k ≡ k + 0
    plain k = omega arith

later_picked : (k : ℕ) (name : List ℕ) (syntax : TypeSyntax) (optional : Bool) (default : Option TypedValue)
    (rest : TypeParts) (v : TypedValue) → IsPicked (k + 1) rest v
    → IsPicked k (Part name syntax optional default rest) v
later_picked k name syntax optional default rest v p = record {
  index = suc p.index;
  value = p.value;
  is = p.is ∙ ap (λ n. Pick n p.value) (next k p.index);
  fits = p.fits;
}
  where
    next : (k i : ℕ) → k + 1 + i ≡ k + suc i
    next k i = omega arith

picked_fits : (parts : TypeParts) (v : TypedValue) → IsPicked 0 parts v → Few (of_pick (pick_encoding parts) v)
    → Fits (Choice parts) v
picked_fits parts v p short =
    let plain : 0 + p.index ≡ p.index = omega arith in
    let is : v ≡ Pick p.index p.value = p.is ∙ ap (λ n. Pick n p.value) plain in
    let few : Few (pick_encoding parts p.index p.value) =
    subst (λ (x : TypedValue). Few (of_pick (pick_encoding parts) x)) is short in
    subst (Fits (Choice parts)) (sym is) (p.fits few)

chosen_fits : (parts : TypeParts) (pick : List ℕ → TextValue → Option TypedValue)
    → ((name : List ℕ) (text : TextValue) (v : TypedValue) → pick name text ≡ Some v → IsPicked 0 parts v)
    → (text : TextValue) (v : TypedValue) → chosen_by pick text ≡ Some v → Few (of_pick (pick_encoding parts) v)
    → Fits (Choice parts) v
chosen_fits parts pick each (Chosen name text) v e short = picked_fits parts v (each name text v e) short
chosen_fits parts pick each (Literal token) v e short = absurd (none-some _ e)
chosen_fits parts pick each (Number minus digits) v e short = absurd (none-some _ e)
chosen_fits parts pick each (Name name) v e short = absurd (none-some _ e)
chosen_fits parts pick each (InBraces inside) v e short = absurd (none-some _ e)
chosen_fits parts pick each (InArcs name digits) v e short = absurd (none-some _ e)

-- a component that the texts give where a test holds, and else leave out
either_fits : (b : Bool) (parts : TypeParts) (there absent : Option TypedSlots) → AreFitting parts there
    → AreFitting parts absent → AreFitting parts (if b then there else absent)
either_fits true parts there absent t a = t
either_fits false parts there absent t a = a

taken_fits : (parts : TypeParts) (taken : Option (TextValue × TextParts))
    (found : TextValue → TextParts → Option TypedSlots) (absent : Option TypedSlots)
    → ((text : TextValue) (others : TextParts) → AreFitting parts (found text others)) → AreFitting parts absent
    → AreFitting parts (where_taken taken found absent)
taken_fits parts (Some taken) found absent f a = f taken.0 taken.1
taken_fits parts None found absent f a = a

none_fit : (slots : TypedSlots) → Some NoSlots ≡ Some slots → PartsFit NoParts slots
none_fit slots e = subst (PartsFit NoParts) (same_Some NoSlots slots e) tt

mutual
  pub said_fits : (filter : Reading) → FiltersFit filter → (syntax : TypeSyntax)
      (tag : Option Tag) (text : TextValue) (v : TypedValue) → denoted filter syntax text ≡ Some v
      → HasFittingDefaults syntax → Few (der_as tag syntax v) → Fits syntax v
  said_fits filter f Boolean tag text v e d short = truth_fits text v e
  said_fits filter f (Integer names ranges) tag text v e d short = whole_fits names ranges text v e
  said_fits filter f (Enumerated names) tag text v e d short = enumerated_fits names text v e
  said_fits filter f (BitString names sizes) tag text v e d short = bit_string_fits names sizes text v e
  said_fits filter f (OctetString sizes) tag text v e d short = octet_string_fits sizes text v e
  said_fits filter f NullType tag text v e d short = null_fits text v e
  said_fits filter f ObjectIdentifier tag text v e d short = identifier_fits filter.names text v e
  said_fits filter f (TextString charset sizes) tag text v e d short = text_fits charset sizes text v e
  said_fits filter f GeneralizedTime tag text v e d short = time_fits text v e
  said_fits filter f (Sequence parts) tag text v e d short =
      let m = map_some Parts (option_and_then (components_said filter parts) (parts_of text)) v e in
      let t = then_some (components_said filter parts) (parts_of text) m.0 m.1 in
      let few = subst (λ (x : TypedValue). Few (der_as tag (Sequence parts) x)) (sym m.2) short in
      subst (Fits (Sequence parts)) m.2
      (parts_fit filter f parts t.0 d m.0 t.2
      (contents_few true (due tag sequence) (joined (part_encodings parts m.0)) few))
  said_fits filter f (SetType parts) tag text v e d short =
      let m = map_some Parts (option_and_then (unordered_said filter parts) (parts_of text)) v e in
      let t = then_some (unordered_said filter parts) (parts_of text) m.0 m.1 in
      let few = subst (λ (x : TypedValue). Few (der_as tag (SetType parts) x)) (sym m.2) short in
      subst (Fits (SetType parts)) m.2
      (unordered_fit filter f parts t.0 d m.0 t.2
      (rising_few (part_encodings parts m.0)
      (contents_few true (due tag set) (joined (rising (part_encodings parts m.0))) few)))
  said_fits filter f (SequenceOf member sizes) tag text v e d short =
      let s = then_some (sized_members sizes)
      (option_and_then (members_said (denoted filter member)) (parts_of text)) v e in
      let t = then_some (members_said (denoted filter member)) (parts_of text) s.0 s.1 in
      let w = where_is (allowed_size sizes (count s.0)) (Many s.0) v s.2 in
      let few = subst (λ (x : TypedValue). Few (der_as tag (SequenceOf member sizes) x)) w.1 short in
      let all = members_fit (IsFitting member) (denoted filter member)
      (λ inner x g. λ h. said_fits filter f member None inner x g d h) t.0 s.0 t.2 in
      subst (Fits (SequenceOf member sizes)) (sym w.1) (
        all_few member s.0 all
            (contents_few true (due tag sequence) (joined (member_encodings (der member) s.0)) few),
        w.0,
      )
  said_fits filter f (SetOf member sizes) tag text v e d short =
      let s = then_some (sized_members sizes)
      (option_map (rising_by (der member)) (option_and_then (members_said (denoted filter member)) (parts_of text)))
      v e in
      let m = map_some (rising_by (der member))
      (option_and_then (members_said (denoted filter member)) (parts_of text)) s.0 s.1 in
      let t = then_some (members_said (denoted filter member)) (parts_of text) m.0 m.1 in
      let w = where_is (allowed_size sizes (count s.0)) (Many s.0) v s.2 in
      let is : v ≡ Many (rising_by (der member) m.0) = w.1 ∙ ap Many (sym m.2) in
      let few = subst (λ (x : TypedValue). Few (der_as tag (SetOf member sizes) x)) is short in
      let all = members_fit (IsFitting member) (denoted filter member)
      (λ inner x g. λ h. said_fits filter f member None inner x g d h) t.0 m.0 t.2 in
      let sized : allowed_size sizes (count (rising_by (der member) m.0)) ≡ true =
      subst (λ (xs : TypedValues). allowed_size sizes (count xs) ≡ true) (sym m.2) w.0 in
      subst (Fits (SetOf member sizes)) (sym is) (
        all_few member (rising_by (der member) m.0) (all_rising (IsFitting member) (der member) m.0 all)
            (contents_few true (due tag set) (joined (member_encodings (der member) (rising_by (der member) m.0)))
            few),
        sized,
        rising_rises (der member) m.0,
      )
  said_fits filter f (Choice parts) tag text v e d short =
      chosen_fits parts (picked_said filter zero parts)
      (λ name inner x g. pick_fits filter f parts zero name inner x g d) text v e short
  said_fits filter f (Tagged own true of) tag text v e d short =
      said_fits filter f of None text v e d (contents_few true (due tag own) (der of v) short)
  said_fits filter f (Tagged own false of) tag text v e d short =
      said_fits filter f of (Some (due tag own)) text v e d short
  said_fits filter f Any tag text v e d short = any_fits text v e short
  said_fits filter f Filter tag text v e d short = f text v e short

  parts_fit : (filter : Reading) → FiltersFit filter → (parts : TypeParts) (texts : TextParts)
      → HaveFittingDefaults parts → AreFitting parts (components_said filter parts texts)
  parts_fit filter f NoParts NoTexts d = λ slots e short. none_fit slots e
  parts_fit filter f NoParts (AndText own text others) d = λ slots e short. absurd (none-some _ e)
  parts_fit filter f (Part name syntax optional default rest) NoTexts d =
      absent_fits name syntax optional default rest (components_said filter rest NoTexts) d.0
      (parts_fit filter f rest NoTexts d.2)
  parts_fit filter f (Part name syntax optional default rest) (AndText own text others) d =
      either_fits (same_name name own) (Part name syntax optional default rest)
      (option_and_then (λ v. option_map (Filled v) (components_said filter rest others)) (denoted filter syntax text))
      (left_out optional default (components_said filter rest (AndText own text others)))
      (there_fits name syntax optional default rest (denoted filter syntax text) (components_said filter rest others)
      d.0 (λ v g. λ h. said_fits filter f syntax None text v g d.1 h) (parts_fit filter f rest others d.2))
      (absent_fits name syntax optional default rest (components_said filter rest (AndText own text others)) d.0
      (parts_fit filter f rest (AndText own text others) d.2))

  unordered_fit : (filter : Reading) → FiltersFit filter → (parts : TypeParts) (texts : TextParts)
      → HaveFittingDefaults parts → AreFitting parts (unordered_said filter parts texts)
  unordered_fit filter f NoParts NoTexts d = λ slots e short. none_fit slots e
  unordered_fit filter f NoParts (AndText own text others) d = λ slots e short. absurd (none-some _ e)
  unordered_fit filter f (Part name syntax optional default rest) texts d =
      taken_fits (Part name syntax optional default rest) (taken_out name texts)
      (λ text others. option_and_then (λ v. option_map (Filled v) (unordered_said filter rest others))
      (denoted filter syntax text))
      (left_out optional default (unordered_said filter rest texts))
      (λ text others. there_fits name syntax optional default rest (denoted filter syntax text)
      (unordered_said filter rest others) d.0 (λ v g. λ h. said_fits filter f syntax None text v g d.1 h)
      (unordered_fit filter f rest others d.2))
      (absent_fits name syntax optional default rest (unordered_said filter rest texts) d.0
      (unordered_fit filter f rest texts d.2))

  pick_fits : (filter : Reading) → FiltersFit filter → (parts : TypeParts) (k : ℕ)
      (name : List ℕ) (text : TextValue) (v : TypedValue) → picked_said filter k parts name text ≡ Some v
      → HaveFittingDefaults parts → IsPicked k parts v
  pick_fits filter f NoParts k name text v e d = absurd (none-some _ e)
  pick_fits filter f (Part own syntax optional default rest) k name text v e d =
      either (same_name own name) e (λ x g. λ h. said_fits filter f syntax None text x g d.1 h)
      (λ g. pick_fits filter f rest (k + 1) name text v g d.2)
    where
      either : (b : Bool)
          → (if b then option_map (Pick k) (denoted filter syntax text)
          else picked_said filter (k + 1) rest name text) ≡ Some v
          → ((x : TypedValue) → denoted filter syntax text ≡ Some x → IsFitting syntax x)
          → (picked_said filter (k + 1) rest name text ≡ Some v → IsPicked (k + 1) rest v)
          → IsPicked k (Part own syntax optional default rest) v
      either true e here later =
          let m = map_some (Pick k) (denoted filter syntax text) v e in
          here_picked k own syntax optional default rest v m.0 m.2 (here m.0 m.1)
      either false e here later = later_picked k own syntax optional default rest v (later e)

-- ---- filters

item_fits : (names : NamedArcs) (text : TextValue) (v : TypedValue) → item_said names text ≡ Some v → IsFitting filter_item v
item_fits names text v e short = said_fits (reading_of no_filter names) (λ inner x g. absurd (none-some _ g)) filter_item None text v e
    no_defaults short
  where
    no_defaults : HasFittingDefaults filter_item
    no_defaults = search rules

-- the encoding of a value of the CHOICE is that of a filter
kept_fits : (value : TypedValue) → Fits filter_choice value → Few (der filter_choice value)
    → Fits Filter (Raw (der filter_choice value))
kept_fits value fits short =
    let a = written_is_read_again_holds filter_choice value
    (record { clear = refl; tags = refl; fits = fits; short = short }) in
    record {
      depth = nesting a.0;
      tree = a.0;
      writable = a.1.writable;
      such = sym (filter_is_choice a.0) ∙ ap is_some a.1.read;
      whole = a.1.whole;
    }

set_fits : (number : ℕ) (xs : TypedValues) → AllFit (IsFitting Filter) xs
    → Few (encoded true (context number) (joined (member_encodings (der Filter) (rising_by (der Filter) xs))))
    → Fits (SetOf Filter []) (rising_filters xs)
set_fits number xs all short = (
  all_few Filter (rising_by (der Filter) xs) (all_rising (IsFitting Filter) (der Filter) xs all)
      (contents_few true (context number)
      (joined (member_encodings (der Filter) (rising_by (der Filter) xs))) short),
  refl,
  rising_rises (der Filter) xs,
)

alternative_fits : (name : List ℕ) (item : Option TypedValue) (members : Option TypedValues)
    (negated : Option TypedValue) (value : TypedValue) → alternative name item members negated ≡ Some value
    → ((x : TypedValue) → item ≡ Some x → IsFitting filter_item x)
    → ((xs : TypedValues) → members ≡ Some xs → AllFit (IsFitting Filter) xs)
    → ((x : TypedValue) → negated ≡ Some x → IsFitting Filter x)
    → Few (der filter_choice value) → Fits filter_choice value
alternative_fits name item members negated value e here each inside short = either _ _ _ _ e
  where
    of_set : (index number : ℕ)
        → option_map (Pick index) (option_map rising_filters members) ≡ Some value
        → ((xs : TypedValues) → der filter_choice (Pick index (rising_filters xs))
        ≡ encoded true (context number) (joined (member_encodings (der Filter) (rising_by (der Filter) xs))))
        → ((xs : TypedValues) → Fits (SetOf Filter []) (rising_filters xs)
        → Fits filter_choice (Pick index (rising_filters xs)))
        → Fits filter_choice value
    of_set index number e spelt wraps =
        let m = map_some (Pick index) (option_map rising_filters members) value e in
        let n = map_some rising_filters members m.0 m.1 in
        let is : Pick index (rising_filters n.0) ≡ value = ap (Pick index) n.2 ∙ m.2 in
        let few = subst Few (spelt n.0)
        (subst (λ (x : TypedValue). Few (der filter_choice x)) (sym is) short) in
        subst (Fits filter_choice) is (wraps n.0 (set_fits number n.0 (each n.0 n.1) few))

    either : (a b c d : Bool) →
        (if a then option_map (Pick 0) item
        else (if b then option_map (Pick 1) (option_map rising_filters members)
        else (if c then option_map (Pick 2) (option_map rising_filters members)
        else (if d then option_map (Pick 3) negated else None)))) ≡ Some value → Fits filter_choice value
    either true b c d e =
        let m = map_some (Pick 0) item value e in
        let few = subst (λ (x : TypedValue). Few (der filter_choice x)) (sym m.2) short in
        subst (Fits filter_choice) m.2
        (here m.0 m.1 (contents_few true (context 8) (der filter_item m.0) few))
    either false true c d e = of_set 1 9 e (λ xs. refl) (λ xs f. f)
    either false false true d e = of_set 2 10 e (λ xs. refl) (λ xs f. f)
    either false false false true e =
        let m = map_some (Pick 3) negated value e in
        let few = subst (λ (x : TypedValue). Few (der filter_choice x)) (sym m.2) short in
        subst (Fits filter_choice) m.2 (inside m.0 m.1 (contents_few true (context 11) (der Filter m.0) few))
    either false false false false e = absurd (none-some _ e)

unnamed_is : (name : List ℕ) (found : Option TypedValue) (v : TypedValue) → where_unnamed name found ≡ Some v
    → found ≡ Some v
unnamed_is [] found v e = e
unnamed_is (first ∷ more) found v e = absurd (none-some _ e)

mutual
  filter_fits : (names : NamedArcs) (text : TextValue) (v : TypedValue) → filter_said names text ≡ Some v → IsFitting Filter v
  filter_fits names (Chosen name text) v e short =
      let m = map_some (λ value. Raw (der filter_choice value))
      (alternative name (item_said names text) (filters_said names text) (filter_said names text)) v e in
      let few = subst (λ (x : TypedValue). Few (der Filter x)) (sym m.2) short in
      subst (Fits Filter) m.2
      (kept_fits m.0
      (alternative_fits name (item_said names text) (filters_said names text) (filter_said names text) m.0 m.1
      (item_fits names text) (filters_fit names text) (filter_fits names text) few) few)
  filter_fits names (Literal token) v e short = absurd (none-some _ e)
  filter_fits names (Number minus digits) v e short = absurd (none-some _ e)
  filter_fits names (Name name) v e short = absurd (none-some _ e)
  filter_fits names (InBraces parts) v e short = absurd (none-some _ e)
  filter_fits names (InArcs name digits) v e short = absurd (none-some _ e)

  filters_fit : (names : NamedArcs) (text : TextValue) (xs : TypedValues) → filters_said names text ≡ Some xs → AllFit (IsFitting Filter) xs
  filters_fit names (InBraces parts) xs e = each_fit names parts xs e
  filters_fit names (Literal token) xs e = absurd (none-some _ e)
  filters_fit names (Number minus digits) xs e = absurd (none-some _ e)
  filters_fit names (Name name) xs e = absurd (none-some _ e)
  filters_fit names (Chosen name text) xs e = absurd (none-some _ e)
  filters_fit names (InArcs name digits) xs e = absurd (none-some _ e)

  each_fit : (names : NamedArcs) (texts : TextParts) (xs : TypedValues) → each_said names texts ≡ Some xs → AllFit (IsFitting Filter) xs
  each_fit names NoTexts xs e =
      subst (AllFit (IsFitting Filter)) (same_Some Nothing xs e) tt
  each_fit names (AndText name text others) xs e =
      let f = then_some (λ v. option_map (Then v) (each_said names others)) (where_unnamed name (filter_said names text)) xs e in
      let m = map_some (Then f.0) (each_said names others) xs f.2 in
      subst (AllFit (IsFitting Filter)) m.2
      (filter_fits names text f.0 (unnamed_is name (filter_said names text) f.0 f.1), each_fit names others m.0 m.1)

-- the value that a text denotes in a syntax fits it
pub value_fits : (names : NamedArcs) (syntax : TypeSyntax) (text : TextValue) (v : TypedValue)
    → value_named names syntax text ≡ Some v → HasFittingDefaults syntax → length (der syntax v) < 4294967296
    → Fits syntax v
value_fits names syntax text v e d short =
    said_fits (reading_of filter_said names) (filter_fits names) syntax None text v e d short
