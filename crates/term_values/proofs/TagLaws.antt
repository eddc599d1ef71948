-- Identifier octets that are read are those that spell a tag, or have the fault: X.690, section 8.1.2.
use Rattle.std.proofs.Common.{◌≡◌, ◌⊎◌, ℕ, ◌+◌, ◌*◌, ◌/◌, ◌%◌, ◌<◌, ◌≤◌, ◌==◌, ◌&&◌, ◌||◌, Bool, true, false}
use Rattle.std.proofs.Common.{if◌then◌else◌, List, [], ◌∷◌, ◌++◌, Option, nat_lt, nat_le, sym, ap, ◌∙◌, refl, inl, inr}
use Rattle.std.proofs.Common.{⊎_elim, arith, append_assoc}
use Rattle.std.specs.Prelude.{Result, Ok, Err}
use Rattle.std.proofs.lemmas.Bool.{cases_Bool, cases_lt, lt-ltb, le-ltb, ltb-true, ltb-false, leb-true, leb-false}
use Rattle.std.proofs.lemmas.Bool.{le-leb, lt-leb, eqb-true, eqb-false, eq-eqb, ne_eqb, or_from, or_parts, and_parts}
use Rattle.std.proofs.lemmas.Bool.{and_left, and_right}
use Rattle.term_values.specs.declared.ber_kind.BerKind.{BerKind}
use Rattle.term_values.specs.declared.ber_kind.BerKind.TheVariants.{BadTag}
use Rattle.term_values.specs.declared.tag.Tag.{Tag}
use Rattle.term_values.specs.Der.{leading_bits}
use Rattle.term_values.specs.Ber.{IsContinued, Continues, IsHighNumber, IsIdentifier}
use Rattle.term_values.specs.FirstFault.{when_cut, is_constructed, NumberFault, TagFault}
use Rattle.term_values.specs.BerReading.{result_then, number_at, tagged, identifier_of}
use Rattle.term_values.specs.SpellingLaws.{AreOctets}

-- octets that end a number, and what stands behind them
pub record NumberSplit (begun : ℕ) (octets : List ℕ) (found : ℕ) (rest : List ℕ) : Type 0 where
  pub front : List ℕ
  pub reached : ℕ
  pub last : ℕ
  pub whole : octets ≡ front ++ (last ∷ rest)
  pub continues : Continues begun front reached
  pub ended : last < 128
  pub number_is : found ≡ reached * 128 + last
  pub high : 31 ≤ found
  pub small : found < 4294967296

pub record NumberFaulty (behind : Option ℕ) (begun : ℕ) (octets : List ℕ) (kind : BerKind) : Type 0 where
  pub front : List ℕ
  pub others : List ℕ
  pub reached : ℕ
  pub whole : octets ≡ front ++ others
  pub continues : Continues begun front reached
  pub fault : NumberFault behind reached others kind

abbrev NumberTold : Option ℕ → ℕ → List ℕ → Result (ℕ × List ℕ) BerKind → Type 0
NumberTold behind begun octets (Ok p) = NumberSplit begun octets p.0 p.1
NumberTold behind begun octets (Err kind) = NumberFaulty behind begun octets kind

-- a fault at the octet in hand
number_here : (behind : Option ℕ) (begun : ℕ) (octets : List ℕ) (kind : BerKind) →
    NumberFault behind begun octets kind → NumberFaulty behind begun octets kind
number_here behind begun octets kind fault =
    record { front = []; others = octets; reached = begun; whole = refl; continues = refl; fault = fault }

one_more : (behind : Option ℕ) (begun octet : ℕ) (octets : List ℕ) (r : Result (ℕ × List ℕ) BerKind) →
    IsContinued begun octet → NumberTold behind (begun * 128 + octet % 128) octets r →
    NumberTold behind begun (octet ∷ octets) r
one_more behind begun octet octets (Ok p) is t = record {
  front = octet ∷ t.front;
  reached = t.reached;
  last = t.last;
  whole = ap (λ xs. octet ∷ xs) t.whole;
  continues = (is, t.continues);
  ended = t.ended;
  number_is = t.number_is;
  high = t.high;
  small = t.small;
}
one_more behind begun octet octets (Err kind) is t = record {
  front = octet ∷ t.front;
  others = t.others;
  reached = t.reached;
  whole = ap (λ xs. octet ∷ xs) t.whole;
  continues = (is, t.continues);
  fault = t.fault;
}

-- the octet is bad
bad_octet : (behind : Option ℕ) (begun octet : ℕ) (octets : List ℕ) →
    (begun == 0 && octet == 128 || nat_le 4294967296 (begun * 128 + octet % 128)) ≡ true →
    NumberFault behind begun (octet ∷ octets) BadTag
bad_octet behind begun octet octets t =
    ⊎_elim
    (λ (p : (begun == 0 && octet == 128) ≡ true).
    let parts = and_parts (begun == 0) (octet == 128) p in
    NumberFault.padded octets (ap (λ o. o ∷ octets) (eqb-true octet 128 parts.1)) (eqb-true begun 0 parts.0) refl)
    (λ (p : (begun == 0 && octet == 128) ≡ false).
    NumberFault.number_past octet octets refl (leb-true 4294967296 (begun * 128 + octet % 128) (rw p at t)) refl)
    (cases_Bool (begun == 0 && octet == 128))

continued : (begun octet : ℕ) →
    (begun == 0 && octet == 128 || nat_le 4294967296 (begun * 128 + octet % 128)) ≡ false → nat_lt octet 128 ≡ false →
    IsContinued begun octet
continued begun octet f s =
    let parts = or_parts (begun == 0 && octet == 128) (nat_le 4294967296 (begun * 128 + octet % 128)) f in
    let high = ltb-false octet 128 s in
    let small = leb-false 4294967296 (begun * 128 + octet % 128) parts.1 in
    record {
      more = high;
      needed = ⊎_elim
          (λ (z : (begun == 0) ≡ true). let n = eqb-false octet 128 (rw z at parts.0) in omega arith)
          (λ (z : (begun == 0) ≡ false). let n = eqb-false begun 0 z in omega arith)
          (cases_Bool (begun == 0));
      small = small;
    }

pub number_told : (behind : Option ℕ) (begun : ℕ) (octets : List ℕ) →
    NumberTold behind begun octets (number_at behind begun octets)
number_told behind begun [] = number_here behind begun [] (when_cut behind) (NumberFault.number_cut refl refl)
number_told behind begun (octet ∷ octets) =
    let found = begun * 128 + octet % 128 in
    ⊎_elim
    (λ (t : (begun == 0 && octet == 128 || nat_le 4294967296 found) ≡ true).
    rw t (number_here behind begun (octet ∷ octets) BadTag (bad_octet behind begun octet octets t)))
    (λ (f : (begun == 0 && octet == 128 || nat_le 4294967296 found) ≡ false). ⊎_elim
    (λ (s : nat_lt octet 128 ≡ true).
    let ended = ltb-true octet 128 s in
    let parts = or_parts (begun == 0 && octet == 128) (nat_le 4294967296 found) f in
    let small = leb-false 4294967296 found parts.1 in
    ⊎_elim
    (λ (l : nat_lt found 31 ≡ true).
    let low = ltb-true found 31 l in
    rw (f, s, l)
    (number_here behind begun (octet ∷ octets) BadTag
    (NumberFault.low octet octets refl ended (omega arith) refl)))
    (λ (h : nat_lt found 31 ≡ false).
    let high = ltb-false found 31 h in
    rw (f, s, h) (record {
      front = [];
      reached = begun;
      last = octet;
      whole = refl;
      continues = refl;
      ended =
          ended;
      number_is = omega arith;
      high = high;
      small = small;
    }))
    (cases_Bool (nat_lt found 31)))
    (λ (m : nat_lt octet 128 ≡ false).
    rw (f, m)
    (one_more behind begun octet octets (number_at behind found octets) (continued begun octet f m)
    (number_told behind found octets)))
    (cases_Bool (nat_lt octet 128)))
    (cases_Bool (begun == 0 && octet == 128 || nat_le 4294967296 found))

-- an octet that goes on is read so
one_continued : (behind : Option ℕ) (begun octet : ℕ) (octets : List ℕ) → IsContinued begun octet →
    number_at behind begun (octet ∷ octets) ≡ number_at behind (begun * 128 + octet % 128) octets
one_continued behind begun octet octets is =
    let more = is.more in
    let needed = is.needed in
    let small = is.small in
    let f : (begun == 0 && octet == 128 || nat_le 4294967296 (begun * 128 + octet % 128)) ≡ false = or_from _ _ (⊎_elim
    (λ (z : (begun == 0) ≡ true). let n = eqb-true begun 0 z in and_right _ _ (ne_eqb octet 128 (λ e. omega arith)))
    (λ (z : (begun == 0) ≡ false). and_left _ _ z)
    (cases_Bool (begun == 0))) (lt-leb 4294967296 (begun * 128 + octet % 128) small) in
    rw (f, le-ltb octet 128 more) refl

pub continues_read : (behind : Option ℕ) (begun reached : ℕ) (front rest : List ℕ) → Continues begun front reached →
    number_at behind begun (front ++ rest) ≡ number_at behind reached rest
continues_read behind begun reached [] rest c = ap (λ n. number_at behind n rest) c
continues_read behind begun reached (octet ∷ front) rest c = one_continued behind begun octet (front ++ rest) c.0
    ∙ continues_read behind (begun * 128 + octet % 128) reached front rest c.1

-- the last octet of a number
last_read : (behind : Option ℕ) (begun last found : ℕ) (rest : List ℕ) → last < 128 → found ≡ begun * 128 + last →
    31 ≤ found → found < 4294967296 → number_at behind begun (last ∷ rest) ≡ Ok (found, rest)
last_read behind begun last found rest ended is high small =
    let e : begun * 128 + last % 128 ≡ found = omega arith in
    let f : (begun == 0 && last == 128 || nat_le 4294967296 found) ≡ false =
    or_from _ _ (and_right _ _ (ne_eqb last 128 (λ e. omega arith))) (lt-leb 4294967296 found small) in
    rw (e, f, lt-ltb last 128 ended, le-ltb found 31 high) refl

pub high_read : (behind : Option ℕ) (found : ℕ) (octets rest : List ℕ) → IsHighNumber found octets →
    number_at behind 0 (octets ++ rest) ≡ Ok (found, rest)
high_read behind found octets rest h =
    let whole : octets ++ rest ≡ h.front ++ (h.last ∷ rest) = ap (λ xs. xs ++ rest) h.whole
    ∙ append_assoc h.front (h.last ∷ []) rest in
    ap (number_at behind 0) whole
    ∙ (continues_read behind 0 h.begun h.front (h.last ∷ rest) h.continues
    ∙ last_read behind h.begun h.last found rest h.ended h.number_is h.high h.small)

pub number_faulty : (behind : Option ℕ) (begun : ℕ) (octets : List ℕ) (kind : BerKind) →
    NumberFault behind begun octets kind → number_at behind begun octets ≡ Err kind
number_faulty behind begun octets kind (NumberFault.number_cut e k) = ap (number_at behind begun) e ∙ ap Err (sym k)
number_faulty behind begun octets kind (NumberFault.padded others e z k) =
    let t : (begun == 0 && 128 == 128) ≡ true = rw z refl in
    ap (number_at behind begun) e ∙ (rw t (ap Err (sym k)))
number_faulty behind begun octets kind (NumberFault.number_past octet others e past k) =
    let t : (begun == 0 && octet == 128 || nat_le 4294967296 (begun * 128 + octet % 128)) ≡ true = ⊎_elim
    (λ (z : (begun == 0 && octet == 128) ≡ true). rw z refl)
    (λ (z : (begun == 0 && octet == 128) ≡ false). rw z (le-leb 4294967296 (begun * 128 + octet % 128) past))
    (cases_Bool (begun == 0 && octet == 128)) in
    ap (number_at behind begun) e ∙ (rw t (ap Err (sym k)))
number_faulty behind begun octets kind (NumberFault.low octet others e ended low k) =
    let f : (begun == 0 && octet == 128 || nat_le 4294967296 (begun * 128 + octet % 128)) ≡ false =
    or_from _ _ (and_right _ _ (ne_eqb octet 128 (λ e. omega arith)))
    (lt-leb 4294967296 (begun * 128 + octet % 128) (omega arith)) in
    ap (number_at behind begun) e
    ∙ (rw (f, lt-ltb octet 128 ended, lt-ltb (begun * 128 + octet % 128) 31 (omega arith)) (ap Err (sym k)))

-- the parts of an identifier octet
form_read : (constructed : Bool) (class number octet : ℕ) → class < 4 → number < 32 →
    octet ≡ class % 4 * 64 + (if constructed then 32 else 0) + number → (is_constructed octet ≡ constructed)
    × (octet / 64 ≡ class) × (octet % 32 ≡ number)
form_read true class number octet h l e = (eq-eqb (octet / 32 % 2) 1 (omega arith), omega arith, omega arith)
form_read false class number octet h l e = (ne_eqb (octet / 32 % 2) 1 (λ f. omega arith), omega arith, omega arith)

form_given : (octet : ℕ) → octet < 256 →
    octet ≡ octet / 64 % 4 * 64 + (if is_constructed octet then 32 else 0) + octet % 32
form_given octet h =
    ⊎_elim
    (λ (t : is_constructed octet ≡ true). let e = eqb-true (octet / 32 % 2) 1 t in rw t (omega arith))
    (λ (f : is_constructed octet ≡ false). let e = eqb-false (octet / 32 % 2) 1 f in rw f (omega arith))
    (cases_Bool (is_constructed octet))

-- octets of an identifier, and what stands behind them
pub record TagSplit (full : Bool) (octets : List ℕ) (constructed : Bool) (tag : Tag) (rest : List ℕ) : Type 0 where
  pub identifier : List ℕ
  pub whole : octets ≡ identifier ++ rest
  pub is_identifier : IsIdentifier constructed tag identifier
  pub has_room : full && constructed ≡ false

abbrev pub TagTold : Bool → Option ℕ → List ℕ → Result ((Bool × Tag) × List ℕ) BerKind → Type 0
TagTold full behind octets (Ok p) = TagSplit full octets p.0.0 p.0.1 p.1
TagTold full behind octets (Err kind) = TagFault full behind octets kind

high_told : (full : Bool) (behind : Option ℕ) (first : ℕ) (octets : List ℕ) (r : Result (ℕ × List ℕ) BerKind) →
    first < 256 → full && is_constructed first ≡ false → first % 32 ≡ 31 → NumberTold behind 0 octets r →
    TagTold full behind (first ∷ octets) (result_then (tagged (is_constructed first) (first / 64)) r)
high_told full behind first octets (Ok (found, rest)) h room e t =
    let high = t.high in
    let further = t.front ++ (t.last ∷ []) in
    let lead : first ≡ leading_bits (is_constructed first) (record { class = first / 64; number = found }) + 31 =
    form_given first h ∙ ap (λ n. first / 64 % 4 * 64 + (if is_constructed first then 32 else 0) + n) e in
    record {
      identifier = first ∷ further;
      whole = ap (λ xs. first ∷ xs) (t.whole ∙ sym (append_assoc t.front (t.last ∷ []) rest));
      is_identifier = record {
        class = omega arith;
        used = omega arith;
        spelt = inr (
          further,
          record {
            front = t.front;
            begun = t.reached;
            last = t.last;
            whole = refl;
            continues =
                t.continues;
            ended = t.ended;
            number_is = t.number_is;
            high = t.high;
            small =
                t.small;
          },
          ap (λ o. o ∷ further) lead,
        );
      };
      has_room = room;
    }
high_told full behind first octets (Err kind) h room e t =
    TagFault.number_fault first t.reached t.front t.others (ap (λ xs. first ∷ xs) t.whole) room e t.continues t.fault

pub tag_told : (full : Bool) (behind : Option ℕ) (octets : List ℕ) → AreOctets octets →
    TagTold full behind octets (identifier_of full behind octets)
unfolding identifier_of
tag_told full behind [] h = TagFault.tag_cut refl refl
tag_told full behind (first ∷ octets) h =
    let top : first < 256 = h 0 0 (omega arith) in
    ⊎_elim
    (λ (t : (full && is_constructed first) ≡ true). rw t (TagFault.too_deep first octets refl t refl))
    (λ (room : (full && is_constructed first) ≡ false). ⊎_elim
    (λ (z : (first / 64 + first % 32 == 0) ≡ true).
    let n = eqb-true (first / 64 + first % 32) 0 z in
    let which : (first ≡ 0) ⊎ (first ≡ 32) =
    ⊎_elim (λ (l : first < 1). inl (omega arith)) (λ (g : 1 ≤ first). inr (omega arith)) (cases_lt first 1) in
    rw (room, z) (TagFault.universal_zero first octets refl room which refl))
    (λ (u : (first / 64 + first % 32 == 0) ≡ false).
    let used = eqb-false (first / 64 + first % 32) 0 u in
    ⊎_elim
    (λ (t : (first % 32 == 31) ≡ true).
    rw (room, u, t)
    (high_told full behind first octets (number_at behind 0 octets) top room (eqb-true (first % 32) 31 t)
    (number_told behind 0 octets)))
    (λ (f : (first % 32 == 31) ≡ false).
    let low = eqb-false (first % 32) 31 f in
    rw (room, u, f) (record {
      identifier = first ∷ [];
      whole = refl;
      is_identifier =
          record {
            class = omega arith;
            used = omega arith;
            spelt =
                inl (omega arith, ap (λ o. o ∷ []) (form_given first top));
          };
      has_room = room;
    }))
    (cases_Bool (first % 32 == 31)))
    (cases_Bool (first / 64 + first % 32 == 0)))
    (cases_Bool (full && is_constructed first))

pub tag_read : (full constructed : Bool) (behind : Option ℕ) (tag : Tag) (identifier rest : List ℕ) →
    IsIdentifier constructed tag identifier → full && constructed ≡ false →
    identifier_of full behind (identifier ++ rest) ≡ Ok ((constructed, tag), rest)
unfolding identifier_of
tag_read full constructed behind tag identifier rest i room =
    let class = i.class in
    let used = i.used in
    elim i.spelt [
      | inl s ↦
          let low = s.0 in
          let octet = leading_bits constructed tag + tag.number in
          let f = form_read constructed tag.class tag.number octet class (omega arith) refl in
          let room' : full && is_constructed octet ≡ false = ap (λ b. full && b) f.0 ∙ room in
          let class_is = f.1 in
          let number_is = f.2 in
          ap (λ xs. identifier_of full behind (xs ++ rest)) s.1
          ∙ rw (
            room',
            ne_eqb (octet / 64 + octet % 32) 0 (λ e. omega arith),
            ne_eqb (octet % 32) 31
                (λ e. omega arith),
            f.0,
            class_is,
            number_is,
          ) refl
      | inr s ↦
          let octet = leading_bits constructed tag + 31 in
          let f = form_read constructed tag.class 31 octet class (omega arith) refl in
          let room' : full && is_constructed octet ≡ false = ap (λ b. full && b) f.0 ∙ room in
          let class_is = f.1 in
          let number_is = f.2 in
          ap (λ xs. identifier_of full behind (xs ++ rest)) s.2
          ∙ rw (
            room',
            ne_eqb (octet / 64 + octet % 32) 0 (λ e. omega arith),
            eq-eqb (octet % 32) 31 number_is,
            high_read behind tag.number s.0 rest s.1,
            f.0,
            class_is,
          ) refl
    ]

pub tag_faulty : (full : Bool) (behind : Option ℕ) (octets : List ℕ) (kind : BerKind) →
    TagFault full behind octets kind → identifier_of full behind octets ≡ Err kind
unfolding identifier_of
tag_faulty full behind octets kind (TagFault.tag_cut e k) = ap (identifier_of full behind) e ∙ ap Err (sym k)
tag_faulty full behind octets kind (TagFault.too_deep first others e t k) = ap (identifier_of full behind) e
    ∙ rw t (ap Err (sym k))
tag_faulty full behind octets kind (TagFault.universal_zero first others e room which k) =
    let z : first / 64 + first % 32 ≡ 0 =
    ⊎_elim (λ (l : first ≡ 0). omega arith) (λ (g : first ≡ 32). omega arith) which in
    ap (identifier_of full behind) e ∙ rw (room, eq-eqb (first / 64 + first % 32) 0 z) (ap Err (sym k))
tag_faulty full behind octets kind (TagFault.number_fault first begun front others e room high c fault) =
    let faulty : number_at behind 0 (front ++ others) ≡ Err kind = continues_read behind 0 begun front others c
    ∙ number_faulty behind begun others kind fault in
    ap (identifier_of full behind) e
    ∙ rw (room, ne_eqb (first / 64 + first % 32) 0 (λ e. omega arith), eq-eqb (first % 32) 31 high, faulty) refl
