-- One segment of a string more has been read.
use Rattle.std.proofs.Common.{◌≡◌, ◌≤◌, ◌<◌, ◌+◌, ◌*◌, ◌/◌, ◌^◌, ℕ, zero, suc, Bool, true, false, cond, length, drop}
use Rattle.std.proofs.Common.{get_or, arith, List, [], ◌∷◌, ◌++◌, Option, None, Some, refl, ap, sym, ◌∙◌, append_assoc}
use Rattle.std.proofs.lemmas.Bool.{eq-eqb, ne_eqb}
use Rattle.std.proofs.lemmas.List.{append-nil}
use Rattle.std.proofs.lemmas.Option.{some_pair_parts}
use Rattle.std.specs.Prelude.{option_map, option_and_then, ◌==◌}
use Rattle.ber_values.specs.Appending.{appended, kept_where, bits_appended, bits_kept, bits_go_on}
use Rattle.term_values.specs.LeafReading.{octets_in, segments_in, bits_in, bit_segments_in, no_trees, with_more}
use Rattle.term_values.specs.Tag.{is_same_tag}
use Rattle.term_values.specs.Tree.{TreeValue, TreeValues, listed}
use Rattle.term_values.specs.Tree.TreeValues.{Nothing, Then}
use Rattle.term_values.specs.TreeTags.{tag_of}
use Rattle.term_values.specs.UniversalTags.{octet_string, bit_string}

-- ---- strings of octets

goes_on : (into new : List ℕ) (o r : Option (List ℕ)) → appended into o ≡ Some new
    → appended into (option_and_then (λ front. option_map (λ back. front ++ back) r) o) ≡ appended new r
goes_on into new None r e = absurd (cc)
goes_on into new (Some front) None e = refl
goes_on into new (Some front) (Some back) e =
    let same : into ++ front ≡ new = cc in
    ap Some (sym (append_assoc into front back) ∙ ap (λ xs. xs ++ back) same)

pub segment_read : (into new : List ℕ) (left : List TreeValue) (x : TreeValue) (rest : List TreeValue) → left ≡ x ∷ rest
    → is_same_tag (tag_of x) octet_string ≡ true → appended into (octets_in x) ≡ Some new
    → appended into (segments_in (listed left)) ≡ appended new (segments_in (listed rest))
segment_read into new left x rest e tag is =
    rw e (rw tag (goes_on into new (octets_in x) (segments_in (listed rest)) is))

pub segment_tag : (into : List ℕ) (left : List TreeValue) (x : TreeValue) (rest : List TreeValue) → left ≡ x ∷ rest
    → is_same_tag (tag_of x) octet_string ≡ false → appended into (segments_in (listed left)) ≡ None
segment_tag into left x rest e tag = rw e (rw tag refl)

ends : (into : List ℕ) (o r : Option (List ℕ)) → appended into o ≡ None
    → appended into (option_and_then (λ front. option_map (λ back. front ++ back) r) o) ≡ None
ends into None r e = refl
ends into (Some front) r e = absurd (cc)

pub segment_bad : (into : List ℕ) (left : List TreeValue) (x : TreeValue) (rest : List TreeValue) → left ≡ x ∷ rest
    → is_same_tag (tag_of x) octet_string ≡ true → appended into (octets_in x) ≡ None
    → appended into (segments_in (listed left)) ≡ None
segment_bad into left x rest e tag is = rw e (rw tag (ends into (octets_in x) (segments_in (listed rest)) is))

pub none_more : (into : List ℕ) → appended into (segments_in Nothing) ≡ Some into
none_more into = ap Some (append-nil into)

-- ---- BIT STRINGs

abbrev front_and : TreeValues → List ℕ × ℕ → Option (List ℕ × ℕ)
front_and rest front =
    cond (no_trees rest) (Some front) (cond (front.1 == 0) (with_more front (bit_segments_in rest)) None)

pub begins_with_none : (trees : TreeValues) → bits_go_on 0 trees ≡ bit_segments_in trees
begins_with_none Nothing = refl
begins_with_none (Then x xs) = refl

more_bits : (into new : List ℕ) (front : List ℕ) (n : ℕ) (r : Option (List ℕ × ℕ)) → into ++ front ≡ new
    → bits_appended into (with_more (front, n) r) ≡ bits_appended new r
more_bits into new front n None e = refl
more_bits into new front n (Some rest) e =
    ap (λ xs. Some (xs, rest.1)) (sym (append_assoc into front rest.0) ∙ ap (λ xs. xs ++ rest.0) e)

one_front : (into new front : List ℕ) (n : ℕ) (rest : TreeValues) → into ++ front ≡ new
    → bits_appended into (front_and rest (front, n)) ≡ bits_appended new (bits_go_on n rest)
one_front into new front n Nothing e = ap (λ xs. Some (xs, n)) (e ∙ sym (append-nil new))
one_front into new front n (Then y ys) e = either (n == 0)
  where
    either : (b : Bool)
        → bits_appended into (cond b (with_more (front, n) (bit_segments_in (Then y ys))) None)
        ≡ bits_appended new (cond b (bit_segments_in (Then y ys)) None)
    either true = more_bits into new front n (bit_segments_in (Then y ys)) e
    either false = refl

bits_next : (into new : List ℕ) (n : ℕ) (o : Option (List ℕ × ℕ)) (rest : TreeValues)
    → bits_appended into o ≡ bits_kept new (Some n)
    → bits_appended into (option_and_then (front_and rest) o) ≡ bits_appended new (bits_go_on n rest)
bits_next into new n None rest e = absurd (cc)
bits_next into new n (Some front) rest e =
    let same = some_pair_parts (into ++ front.0) new front.1 n e in
    one_front into new front.0 front.1 rest same.0 ∙ ap (λ k. bits_appended new (bits_go_on k rest)) same.1

pub bit_segment_read : (into new : List ℕ) (unused n : ℕ) (left : List TreeValue) (x : TreeValue)
    (rest : List TreeValue)
    → left ≡ x ∷ rest → unused ≡ 0 → is_same_tag (tag_of x) bit_string ≡ true
    → bits_appended into (bits_in x) ≡ bits_kept new (Some n)
    → bits_appended into (bits_go_on unused (listed left)) ≡ bits_appended new (bits_go_on n (listed rest))
bit_segment_read into new unused n left x rest e zeros tag is =
    rw (e, zeros) (rw tag (bits_next into new n (bits_in x) (listed rest) is))

pub bit_segment_not_last : (into : List ℕ) (unused : ℕ) (left : List TreeValue) (x : TreeValue) (rest : List TreeValue)
    → left ≡ x ∷ rest → (unused ≡ 0 → ⊥) → bits_appended into (bits_go_on unused (listed left)) ≡ None
bit_segment_not_last into unused left x rest e some = rw e (rw (ne_eqb unused 0 some) refl)

pub bit_segment_tag : (into : List ℕ) (unused : ℕ) (left : List TreeValue) (x : TreeValue) (rest : List TreeValue)
    → left ≡ x ∷ rest → is_same_tag (tag_of x) bit_string ≡ false
    → bits_appended into (bits_go_on unused (listed left)) ≡ None
bit_segment_tag into unused left x rest e tag = rw e (rw tag (either (unused == 0)))
  where
    either : (b : Bool) → bits_appended into (cond b None None) ≡ None
    either true = refl
    either false = refl

bits_end : (into new : List ℕ) (o : Option (List ℕ × ℕ)) (rest : TreeValues) → bits_appended into o ≡ bits_kept new None
    → bits_appended into (option_and_then (front_and rest) o) ≡ None
bits_end into new None rest e = refl
bits_end into new (Some front) rest e = absurd (cc)

pub bit_segment_bad : (into new : List ℕ) (unused : ℕ) (left : List TreeValue) (x : TreeValue) (rest : List TreeValue)
    → left ≡ x ∷ rest → unused ≡ 0 → is_same_tag (tag_of x) bit_string ≡ true
    → bits_appended into (bits_in x) ≡ bits_kept new None
    → bits_appended into (bits_go_on unused (listed left)) ≡ None
bit_segment_bad into new unused left x rest e zeros tag is =
    rw (e, zeros) (rw tag (bits_end into new (bits_in x) (listed rest) is))

pub all_bits : (into : List ℕ) (unused : ℕ) → bits_appended into (bits_go_on unused Nothing)
    ≡ bits_kept into (Some unused)
all_bits into unused = ap (λ xs. Some (xs, unused)) (append-nil into)
