-- What is read from the front of octets spells a tree, or has the fault: X.690, section 8.1.
use Rattle.std.proofs.Common.{◌≡◌, ◌⊎◌, ℕ, zero, suc, ◌+◌, ◌<◌, ◌≤◌, ◌&&◌, Bool, true, false, List, [], ◌∷◌, ◌++◌}
use Rattle.std.proofs.Common.{length, get_or, take, drop, Option, Some, None, nat_le, sym, ap, ◌∙◌, refl, inl, inr}
use Rattle.std.proofs.Common.{⊎_elim, arith, append_assoc, length-append}
use Rattle.std.specs.Prelude.{Result, Ok, Err}
use Rattle.std.proofs.lemmas.Bool.{cases_Bool, leb-true, leb-false, false≢true}
use Rattle.std.proofs.lemmas.List.{length-take-le, take-append-drop, get_or_append_left, get_or-append-add}
use Rattle.term_values.specs.declared.ber_kind.BerKind.{BerKind}
use Rattle.term_values.specs.declared.ber_kind.BerKind.TheVariants.{Truncated}
use Rattle.term_values.specs.declared.tag.Tag.{Tag}
use Rattle.term_values.specs.Der.{leading_bits}
use Rattle.term_values.specs.Ber.{IsIdentifier, IsExtent, Parts, Spells, SpellsAll}
use Rattle.term_values.specs.FirstFault.{place_of, OwnFault, HasFault}
use Rattle.term_values.specs.BerReading.{Fault, Front, AllRead, result_then, sized, behind_tag, identifier_of}
use Rattle.term_values.specs.BerReading.{length_at, front_of, or_more, members, primitive_value, reading}
use Rattle.term_values.specs.SpellingLaws.{AreOctets, Spelling}
use Rattle.term_values.specs.Tree.{TreeValue, TreeValues}
use Rattle.term_values.specs.Tree.TreeValue.{Primitive, Constructed}
use Rattle.term_values.specs.Tree.TreeValues.{Nothing, Then}
use Rattle.term_values.proofs.LengthLaws.{IsWithin, LengthTold, length_told}
use Rattle.term_values.proofs.TagLaws.{TagSplit, TagTold, tag_told}

pub octets_back : (xs ys zs : List ℕ) → xs ≡ ys ++ zs → AreOctets xs → AreOctets zs
octets_back xs ys zs e h = λ k d i.
    let l = length-append ys zs in
    let n = ap length e in
    let at : get_or xs (length ys + k) d ≡ get_or zs k d = ap (λ ws. get_or ws (length ys + k) d) e
    ∙ get_or-append-add ys zs k d in
    let small = h (length ys + k) d (omega arith) in
    omega arith

pub octets_front : (xs ys zs : List ℕ) → xs ≡ ys ++ zs → AreOctets xs → AreOctets ys
octets_front xs ys zs e h = λ k d i.
    let l = length-append ys zs in
    let n = ap length e in
    let at : get_or xs k d ≡ get_or ys k d = ap (λ ws. get_or ws k d) e ∙ get_or_append_left ys zs d k i in
    let small = h k d (omega arith) in
    omega arith

pub appended : (a b c d : List ℕ) → a ++ (b ++ (c ++ d)) ≡ (a ++ (b ++ c)) ++ d
appended a b c d = ap (λ xs. a ++ xs) (sym (append_assoc b c d)) ∙ sym (append_assoc a (b ++ c) d)

-- the identifier and the length octets of a value, and what stands behind them
pub record FrontSplit (full : Bool) (behind : Option ℕ) (octets : List ℕ) (front : Front) : Type 0 where
  pub identifier : List ℕ
  pub size : List ℕ
  pub whole : octets ≡ identifier ++ (size ++ front.rest)
  pub is_identifier : IsIdentifier front.constructed front.tag identifier
  pub has_room : full && front.constructed ≡ false
  pub is_extent : IsExtent front.constructed front.extent size
  pub within : IsWithin behind front.extent front.rest

abbrev pub FrontTold : Bool → Option ℕ → List ℕ → Result Front BerKind → Type 0
FrontTold full behind octets (Ok front) = FrontSplit full behind octets front
FrontTold full behind octets (Err kind) = OwnFault full behind octets kind

sized_told : (full : Bool) (behind : Option ℕ) (octets : List ℕ) (constructed : Bool) (tag : Tag) (rest : List ℕ)
    (r : Result (Option ℕ × List ℕ) BerKind) → TagSplit full octets constructed tag rest →
    LengthTold constructed behind rest r → FrontTold full behind octets (result_then (sized (constructed, tag)) r)
sized_told full behind octets constructed tag rest (Ok (extent, back)) t l = record {
  identifier = t.identifier;
  size = l.size;
  whole = t.whole ∙ ap (λ xs. t.identifier ++ xs) l.whole;
  is_identifier = t.is_identifier;
  has_room = t.has_room;
  is_extent = l.is_extent;
  within = l.within;
}
sized_told full behind octets constructed tag rest (Err kind) t l =
    OwnFault.of_length constructed tag t.identifier rest t.whole t.is_identifier t.has_room l

behind_told : (full : Bool) (behind : Option ℕ) (octets : List ℕ) (r : Result ((Bool × Tag) × List ℕ) BerKind) →
    AreOctets octets → TagTold full behind octets r → FrontTold full behind octets (result_then (behind_tag behind) r)
behind_told full behind octets (Ok ((constructed, tag), rest)) h t =
    sized_told full behind octets constructed tag rest (length_at constructed behind rest) t
    (length_told constructed behind rest (octets_back octets t.identifier rest t.whole h))
behind_told full behind octets (Err kind) h t = OwnFault.of_tag t

pub front_told : (full : Bool) (behind : Option ℕ) (octets : List ℕ) → AreOctets octets →
    FrontTold full behind octets (front_of full behind octets)
unfolding front_of
front_told full behind octets h =
    behind_told full behind octets (identifier_of full behind octets) h (tag_told full behind octets h)

abbrev pub is_full : ℕ → Bool
is_full zero = true
is_full (suc depth) = false

abbrev pub ReadingTold : ℕ → Option ℕ → ℕ → List ℕ → Result (TreeValue × List ℕ) Fault → Type 0
ReadingTold depth behind end octets (Ok p) = Spelling depth octets p.0 p.1
ReadingTold depth behind end octets (Err f) = HasFault depth behind octets end f.0 f.1

-- a fault of the value's own
pub own : (depth : ℕ) (behind : Option ℕ) (octets : List ℕ) (end : ℕ) (kind : BerKind) →
    OwnFault (is_full depth) behind octets kind → HasFault depth behind octets end (place_of kind octets end) kind
own zero behind octets end kind f = (f, refl)
own (suc depth) behind octets end kind f = inl (f, refl)

pub primitive_told : (depth : ℕ) (behind : Option ℕ) (end : ℕ) (octets : List ℕ) (tag : Tag) (extent : Option ℕ)
    (rest : List ℕ) →
    FrontSplit (is_full depth) behind octets (record {
      constructed = false;
      tag = tag;
      extent = extent;
      rest =
          rest;
    }) → ReadingTold depth behind end octets (primitive_value end tag extent rest)
primitive_told depth behind end octets tag None rest s = absurd (false≢true s.is_extent.0)
primitive_told depth behind end octets tag (Some n) rest s =
    ⊎_elim
    (λ (t : nat_le n (length rest) ≡ true).
    let enough = leb-true n (length rest) t in
    rw t (record {
      front = s.identifier ++ (s.size ++ take n rest);
      whole = s.whole
          ∙ (ap (λ xs. s.identifier ++ (s.size ++ xs)) (sym (take-append-drop n rest))
          ∙ appended s.identifier s.size (take n rest) (drop n rest));
      spells = record {
        identifier = s.identifier;
        size = s.size;
        rest = take n rest;
        extent = Some n;
        is_identifier = s.is_identifier;
        is_extent = s.is_extent;
        encloses = (sym (length-take-le n rest enough), refl);
        whole = refl;
      };
    }))
    (λ (f : nat_le n (length rest) ≡ false).
    let short = leb-false n (length rest) f in
    rw f (own depth behind octets end Truncated
    (OwnFault.of_contents tag n s.identifier s.size rest s.whole s.is_identifier s.is_extent s.within short
    refl)))
    (cases_Bool (nat_le n (length rest)))

abbrev pub Stop : Type 0
Stop = List ℕ → Option (Result (List ℕ) Fault)

-- values up to a place where none begins, and that place
pub record AllSplit (depth : ℕ) (stop : Stop) (octets : List ℕ) (inside : TreeValues) (rest : List ℕ) : Type 0 where
  pub front : List ℕ
  pub tail : List ℕ
  pub whole : octets ≡ front ++ tail
  pub spells : SpellsAll depth front inside
  pub stopped : stop tail ≡ Some (Ok rest)

pub record AllFaulty (depth : ℕ) (behind : Option ℕ) (end : ℕ) (stop : Stop) (octets : List ℕ) (fault : Fault) : Type
    0 where
  pub front : List ℕ
  pub others : List ℕ
  pub inside : TreeValues
  pub whole : octets ≡ front ++ others
  pub spells : SpellsAll depth front inside
  pub which : (stop others ≡ Some (Err fault))
      ⊎ ((stop others ≡ None) × HasFault depth behind others end fault.0 fault.1)

abbrev pub AllTold : ℕ → Option ℕ → ℕ → Stop → List ℕ → AllRead → Type 0
AllTold depth behind end stop octets (Ok p) = AllSplit depth stop octets p.0 p.1
AllTold depth behind end stop octets (Err f) = AllFaulty depth behind end stop octets f

stopped_told : (depth : ℕ) (behind : Option ℕ) (end : ℕ) (stop : Stop) (octets : List ℕ)
    (s : Option (Result (List ℕ) Fault)) (more : AllRead) → stop octets ≡ s →
    (s ≡ None → AllTold depth behind end stop octets more) → AllTold depth behind end stop octets (or_more s more)
stopped_told depth behind end stop octets None more e h = h refl
stopped_told depth behind end stop octets (Some (Ok rest)) more e h =
    record { front = []; tail = octets; whole = refl; spells = refl; stopped = e }
stopped_told depth behind end stop octets (Some (Err f)) more e h =
    record { front = []; others = octets; inside = Nothing; whole = refl; spells = refl; which = inl e }

-- one value, and then others
then_told : (depth : ℕ) (behind : Option ℕ) (end : ℕ) (stop : Stop) (octets : List ℕ) (tree : TreeValue)
    (rest : List ℕ) (r : AllRead) → Spelling depth octets tree rest → AllTold depth behind end stop rest r →
    AllTold depth behind end stop octets (result_then (λ others. Ok (Then tree others.0, others.1)) r)
then_told depth behind end stop octets tree rest (Ok (others, back)) s t = record {
  front = s.front ++ t.front;
  tail = t.tail;
  whole = s.whole ∙ (ap (λ xs. s.front ++ xs) t.whole ∙ sym (append_assoc s.front t.front t.tail));
  spells = (s.front, t.front, refl, s.spells, t.spells);
  stopped = t.stopped;
}
then_told depth behind end stop octets tree rest (Err f) s t = record {
  front = s.front ++ t.front;
  others = t.others;
  inside = Then tree t.inside;
  whole = s.whole ∙ (ap (λ xs. s.front ++ xs) t.whole ∙ sym (append_assoc s.front t.front t.others));
  spells = (s.front, t.front, refl, s.spells, t.spells);
  which = t.which;
}

first_told : (depth : ℕ) (behind : Option ℕ) (end : ℕ) (stop : Stop) (octets : List ℕ) (next : List ℕ →
    AllRead) (r : Result (TreeValue × List ℕ) Fault) → stop octets ≡ None → ReadingTold depth behind end octets r →
    ((tree : TreeValue) (rest : List ℕ) → Spelling depth octets tree rest →
    AllTold depth behind end stop rest (next rest)) →
    AllTold depth behind end stop octets
    (result_then (λ first. result_then (λ others. Ok (Then first.0 others.0, others.1)) (next first.1)) r)
first_told depth behind end stop octets next (Ok (tree, rest)) e t h =
    then_told depth behind end stop octets tree rest (next rest) t (h tree rest t)
first_told depth behind end stop octets next (Err f) e t h =
    record { front = []; others = octets; inside = Nothing; whole = refl; spells = refl; which = inr (e, t) }

-- the first octet of a value, which is none of an end of contents
pub record Begun (bytes : List ℕ) : Type 0 where
  pub first : ℕ
  pub others : List ℕ
  pub whole : bytes ≡ first ∷ others
  pub used : 0 < first

pub parts_begin : (constructed : Bool) (tag : Tag) (contents bytes : List ℕ) → Parts constructed tag contents bytes →
    Begun bytes
parts_begin constructed tag contents bytes p =
    let class = p.is_identifier.class in
    let used = p.is_identifier.used in
    elim p.is_identifier.spelt [
      | inl s ↦ record {
        first = leading_bits constructed tag + tag.number;
        others = p.size ++ p.rest;
        whole = p.whole
            ∙ ap (λ xs. xs ++ (p.size ++ p.rest)) s.1;
        used = omega arith;
      }
      | inr s ↦
          record {
            first = leading_bits constructed tag + 31;
            others = s.0 ++ (p.size ++ p.rest);
            whole = p.whole
                ∙ ap (λ xs. xs ++ (p.size ++ p.rest)) s.2;
            used = omega arith;
          }
    ]

pub spelling_begins : (depth : ℕ) (bytes : List ℕ) (tree : TreeValue) → Spells depth bytes tree → Begun bytes
spelling_begins depth bytes (Primitive tag contents) s = parts_begin false tag contents bytes s
spelling_begins zero bytes (Constructed tag inside) s = absurd s
spelling_begins (suc depth) bytes (Constructed tag inside) s = parts_begin true tag s.0 bytes s.1

-- what is left is less
pub left_less : (depth : ℕ) (octets : List ℕ) (tree : TreeValue) (rest : List ℕ) → Spelling depth octets tree rest →
    length rest < length octets
left_less depth octets tree rest s =
    let b = spelling_begins depth s.front tree s.spells in
    let f = ap length b.whole in
    let e = ap length s.whole in
    let l = length-append s.front rest in
    omega arith

abbrev pub Told : ℕ → Option ℕ → ℕ → Type 0
Told depth behind end = (octets : List ℕ) → AreOctets octets →
    ReadingTold depth behind end octets (reading depth behind end octets)

pub members_told : (depth : ℕ) (behind : Option ℕ) (end : ℕ) (stop : Stop) → Told depth behind end →
    (stop [] ≡ None → ⊥) → (n : ℕ) (octets : List ℕ) → AreOctets octets → length octets ≤ n →
    AllTold depth behind end stop octets (members (reading depth behind end) stop n octets)
members_told depth behind end stop told ends zero [] h l =
    stopped_told depth behind end stop [] (stop []) (Err (0, Truncated)) refl (λ e. absurd (ends e))
members_told depth behind end stop told ends zero (octet ∷ octets) h l = absurd (omega arith)
members_told depth behind end stop told ends (suc n) octets h l =
    stopped_told depth behind end stop octets (stop octets)
    (result_then
    (λ first.
    result_then (λ others. Ok (Then first.0 others.0, others.1))
    (members (reading depth behind end) stop n first.1)) (reading depth behind end octets))
    refl
    (λ e. first_told depth behind end stop octets (members (reading depth behind end) stop n)
    (reading depth behind end octets) e (told octets h) (λ tree rest s.
    let less = left_less depth octets tree rest s in
    members_told depth behind end stop told ends n rest (octets_back octets s.front rest s.whole h) (omega arith)))
