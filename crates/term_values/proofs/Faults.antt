-- Octets that have a fault are found to have it: X.690, sections 8.1.2 to 8.1.5.
use Rattle.std.proofs.Common.{◌≡◌, ◌⊎◌, ℕ, zero, suc, ◌-◌, ◌<◌, ◌≤◌, Bool, true, false, List, [], ◌∷◌, ◌++◌, length}
use Rattle.std.proofs.Common.{take, drop, Option, Some, None, sym, ap, ◌∙◌, refl, inl, inr, arith, length-take}
use Rattle.std.specs.Prelude.{Result, Ok, Err}
use Rattle.std.proofs.lemmas.Bool.{lt-leb, and_right}
use Rattle.std.proofs.lemmas.List.{append-nil}
use Rattle.term_values.specs.declared.ber_kind.BerKind.{BerKind}
use Rattle.term_values.specs.declared.ber_kind.BerKind.TheVariants.{Truncated, BadLength}
use Rattle.term_values.specs.declared.tag.Tag.{Tag}
use Rattle.term_values.specs.FirstFault.{place_of, OwnFault, EndFault, InDefinite, InIndefinite, BeginsValue, HasFault}
use Rattle.term_values.specs.BerReading.{Fault, result_then, sized, behind_tag, identifier_of, length_at, front_of}
use Rattle.term_values.specs.BerReading.{stop_at, members, primitive_value, reading}
use Rattle.term_values.specs.Tree.{TreeValue}
use Rattle.term_values.proofs.ContentsLaws.{error_same}
use Rattle.term_values.proofs.LengthLaws.{length_faulty}
use Rattle.term_values.proofs.TagLaws.{tag_read, tag_faulty}
use Rattle.term_values.proofs.ReadingLaws.{is_full}
use Rattle.term_values.proofs.Spelled.{front_read, before_fault, breaks, fails, definite_goes, indefinite_goes}
use Rattle.term_values.proofs.Spelled.{all_read, spelling_read}

-- a fault of the identifier or of the length octets, or contents octets that aren't there
tag_found : (full : Bool) (behind : Option ℕ) (octets : List ℕ) (kind : BerKind) →
    identifier_of full behind octets ≡ Err kind → front_of full behind octets ≡ Err kind
unfolding front_of
tag_found full behind octets kind e = ap (result_then (behind_tag behind)) e

length_found : (full constructed : Bool) (behind : Option ℕ) (tag : Tag) (octets others : List ℕ) (kind : BerKind) →
    identifier_of full behind octets ≡ Ok ((constructed, tag), others) →
    length_at constructed behind others ≡ Err kind → front_of full behind octets ≡ Err kind
unfolding front_of
length_found full constructed behind tag octets others kind e f = ap (result_then (behind_tag behind)) e
    ∙ ap (result_then (sized (constructed, tag))) f

placed_fault : (depth : ℕ) (behind : Option ℕ) (end : ℕ) (octets : List ℕ) (kind : BerKind) →
    front_of (is_full depth) behind octets ≡ Err kind →
    reading depth behind end octets ≡ Err (place_of kind octets end, kind)
placed_fault zero behind end octets kind e = rw e refl
placed_fault (suc depth) behind end octets kind e = rw e refl

placed_primitive : (depth : ℕ) (behind : Option ℕ) (end : ℕ) (octets : List ℕ) (tag : Tag) (extent : Option ℕ)
    (rest : List ℕ) →
    front_of (is_full depth) behind octets ≡ Ok (record {
      constructed = false;
      tag = tag;
      extent = extent;
      rest =
          rest;
    }) → reading depth behind end octets ≡ primitive_value end tag extent rest
placed_primitive zero behind end octets tag extent rest e = rw e refl
placed_primitive (suc depth) behind end octets tag extent rest e = rw e refl

own_found : (depth : ℕ) (behind : Option ℕ) (end : ℕ) (octets : List ℕ) (kind : BerKind) →
    OwnFault (is_full depth) behind octets kind →
    reading depth behind end octets ≡ Err (place_of kind octets end, kind)
own_found depth behind end octets kind (OwnFault.of_tag f) =
    placed_fault depth behind end octets kind
    (tag_found (is_full depth) behind octets kind (tag_faulty (is_full depth) behind octets kind f))
own_found depth behind end octets kind (OwnFault.of_length constructed tag identifier others e i room f) =
    let read : identifier_of (is_full depth) behind octets ≡ Ok ((constructed, tag), others) =
    ap (identifier_of (is_full depth) behind) e
    ∙ tag_read (is_full depth) constructed behind tag identifier others i room in
    placed_fault depth behind end octets kind
    (length_found (is_full depth) constructed behind tag octets others kind read
    (length_faulty constructed behind others kind f))
own_found depth behind end octets kind (OwnFault.of_contents tag n identifier size others e i l within short k) =
    let front : front_of (is_full depth) behind octets ≡ Ok (record {
      constructed = false;
      tag = tag;
      extent =
          Some n;
      rest = others;
    }) =
    front_read (is_full depth) behind octets _ (record {
      identifier = identifier;
      size = size;
      whole =
          e;
      is_identifier = i;
      has_room = and_right (is_full depth) false refl;
      is_extent = l;
      within = within;
    }) in
    placed_primitive depth behind end octets tag (Some n) others front
    ∙ (rw (lt-leb n (length others) short) refl ∙ ap (λ (q : BerKind). Err (place_of q octets end, q)) (sym k))

-- nothing is left, and a definite value round it isn't filled
nothing_left : (depth missing end : ℕ) → 0 < missing → reading depth (Some missing) end [] ≡ Err (end, Truncated)
unfolding front_of identifier_of
nothing_left zero zero end h = absurd (omega arith)
nothing_left (suc depth) zero end h = absurd (omega arith)
nothing_left zero (suc n) end h = refl
nothing_left (suc depth) (suc n) end h = refl

abbrev Found : ℕ → Type 0
Found depth = (behind : Option ℕ) (octets : List ℕ) (end place : ℕ) (kind : BerKind) →
    HasFault depth behind octets end place kind → reading depth behind end octets ≡ Err (place, kind)

-- the fault of a value inside a definite one
inside_definite : (depth missing stop : ℕ) (others : List ℕ) (place : ℕ) (kind : BerKind) (m : ℕ) → Found depth →
    HasFault depth (Some missing) others stop place kind → (others ≡ [] → 0 < missing) → length others ≤ m →
    members (reading depth (Some missing) stop) (stop_at None (Some missing) stop) m others ≡ Err (place, kind)
inside_definite depth missing stop [] place kind m found f some few =
    let p = some refl in
    let same : ◌≡◌ {A = Result (TreeValue × List ℕ) Fault} (Err (stop, Truncated)) (Err (place, kind)) =
    sym (nothing_left depth missing stop p) ∙ found (Some missing) [] stop place kind f in
    cut missing p ∙ ap (λ (g : Fault). Err g) (error_same (stop, Truncated) (place, kind) same)
  where
    cut : (k : ℕ) → 0 < k →
        members (reading depth (Some k) stop) (stop_at None (Some k) stop) m [] ≡ Err (stop, Truncated)
    cut zero h = absurd (omega arith)
    cut (suc k) h =
        breaks (reading depth (Some (suc k)) stop) (stop_at None (Some (suc k)) stop) [] (stop, Truncated) m refl
inside_definite depth missing stop (octet ∷ octets) place kind m found f some few =
    fails (reading depth (Some missing) stop) (stop_at None (Some missing) stop) (octet ∷ octets) (place, kind) m refl
    (found (Some missing) (octet ∷ octets) stop place kind f) (omega arith) few

definite_found : (depth : ℕ) (behind : Option ℕ) (octets : List ℕ) (end place : ℕ) (kind : BerKind) (n : ℕ)
    (rest others : List ℕ) → Found depth → InDefinite depth behind octets n rest others →
    HasFault depth (Some (n - length rest)) others (end - length (drop n rest)) place kind →
    reading (suc depth) behind end octets ≡ Err (place, kind)
definite_found depth behind octets end place kind n rest others found d f =
    let front : front_of false behind octets ≡ Ok (record {
      constructed = true;
      tag = d.tag;
      extent = Some n;
      rest =
          rest;
    }) =
    front_read false behind octets _ (record {
      identifier = d.identifier;
      size = d.size;
      whole =
          d.whole;
      is_identifier = d.is_identifier;
      has_room = refl;
      is_extent = d.is_length;
      within = d.within;
    }) in
    let missing = n - length rest in
    let stop = end - length (drop n rest) in
    let unfilled = d.unfilled in
    let some : others ≡ [] → 0 < missing = λ e.
    (let all : take n rest ≡ d.front = d.contents ∙ (ap (λ xs. d.front ++ xs) e ∙ append-nil d.front) in
    let l = ap length all in
    omega (arith, length-take n rest)) in
    let all : members (reading depth (Some missing) stop) (stop_at None (Some missing) stop) (length (take n rest))
    (take n rest) ≡ Err (place, kind) =
    ap (members (reading depth (Some missing) stop) (stop_at None (Some missing) stop) (length (take n rest)))
    d.contents
    ∙ (all_read depth (spelling_read depth) (Some missing) stop (stop_at None (Some missing) stop)
    (definite_goes (Some missing) stop) (length (take n rest)) d.front others d.inside (Err (place, kind))
    d.spells (λ m few. inside_definite depth missing stop others place kind m found f some few) (let l =
    ap length d.contents in omega arith)
    ∙ before_fault d.inside (place, kind)) in
    rw (front, all) refl

pair : {p q : ℕ} {k l : BerKind} → p ≡ q → k ≡ l → ◌≡◌ {A = Fault} (p, k) (q, l)
pair {p} {q} {k} {l} e f =
    let first : ◌≡◌ {A = Fault} (p, k) (q, k) = ap (λ (n : ℕ). (n, k)) e in
    let second : ◌≡◌ {A = Fault} (q, k) (q, l) = ap (λ (b : BerKind). (q, b)) f in
    first ∙ second

-- the end of an indefinite value, or a value inside it
end_found : (behind : Option ℕ) (value others : List ℕ) (end place : ℕ) (kind : BerKind) →
    EndFault behind value others end place kind →
    stop_at (Some (end - length value)) behind end others ≡ Some (Err (place, kind))
end_found behind value others end place kind (EndFault.no_end e p k) =
    ap (stop_at (Some (end - length value)) behind end) e ∙ ap (λ (f : Fault). Some (Err f)) (pair (sym p) (sym k))
end_found behind value others end place kind (EndFault.end_cut e p k) =
    ap (stop_at (Some (end - length value)) behind end) e
    ∙ ap (λ (f : Fault). Some (Err f)) (pair (ap (λ (q : BerKind). place_of q (0 ∷ []) end) (sym k)
    ∙ (ap (λ xs. place_of kind xs end) (sym e) ∙ sym p)) (sym k))
end_found behind value others end place kind (EndFault.end_broken zero more e some p k) = absurd (omega arith)
end_found behind value others end place kind (EndFault.end_broken (suc n) more e some p k) =
    ap (stop_at (Some (end - length value)) behind end) e
    ∙ ap (λ (f : Fault). Some (Err f)) (pair (ap (λ xs. place_of BadLength xs end) (sym e) ∙ sym p) (sym k))

begun : (value end : ℕ) (behind : Option ℕ) (others : List ℕ) → BeginsValue others →
    (stop_at (Some value) behind end others ≡ None) × (0 < length others)
begun value end behind [] b = absurd b
begun value end behind (first ∷ others) b = (indefinite_goes value behind end first others b, omega arith)

inside_indefinite : (depth : ℕ) (behind : Option ℕ) (octets others : List ℕ) (end place : ℕ) (kind : BerKind)
    (m : ℕ) → Found depth → EndFault behind octets others end place kind
    ⊎ (BeginsValue others × HasFault depth behind others end place kind) → length others ≤ m →
    members (reading depth behind end) (stop_at (Some (end - length octets)) behind end) m others ≡ Err (place, kind)
inside_indefinite depth behind octets others end place kind m found which few =
    elim which [
      | inl f ↦
          breaks (reading depth behind end) (stop_at (Some (end - length octets)) behind end) others (place, kind) m
          (end_found behind octets others end place kind f)
      | inr f ↦
          let b = begun (end - length octets) end behind others f.0 in
          fails (reading depth behind end) (stop_at (Some (end - length octets)) behind end) others (place, kind) m
          b.0 (found behind others end place kind f.1) b.1 few
    ]

indefinite_found : (depth : ℕ) (behind : Option ℕ) (octets : List ℕ) (end place : ℕ) (kind : BerKind)
    (others : List ℕ) → Found depth → InIndefinite depth octets others → EndFault behind octets others end place kind
    ⊎ (BeginsValue others × HasFault depth behind others end place kind) →
    reading (suc depth) behind end octets ≡ Err (place, kind)
indefinite_found depth behind octets end place kind others found d which =
    let rest = d.front ++ others in
    let front : front_of false behind octets ≡ Ok (record {
      constructed = true;
      tag = d.tag;
      extent = None;
      rest =
          rest;
    }) =
    front_read false behind octets _ (record {
      identifier = d.identifier;
      size = 128 ∷ [];
      whole =
          d.whole;
      is_identifier = d.is_identifier;
      has_room = refl;
      is_extent = (refl, refl);
      within = tt;
    }) in
    let stop = stop_at (Some (end - length octets)) behind end in
    let all : members (reading depth behind end) stop (length rest) rest ≡ Err (place, kind) =
    all_read depth (spelling_read depth) behind end stop (indefinite_goes (end - length octets) behind end)
    (length rest) d.front others d.inside (Err (place, kind)) d.spells
    (λ m few. inside_indefinite depth behind octets others end place kind m found which few) (omega arith)
    ∙ before_fault d.inside (place, kind) in
    rw (front, all) refl

pub fault_found : (depth : ℕ) → Found depth
fault_found zero behind octets end place kind f = own_found zero behind end octets kind f.0
    ∙ ap (λ (p : ℕ). Err (p, kind)) (sym f.1)
fault_found (suc depth) behind octets end place kind f =
    elim f [
      | inl o ↦ own_found (suc depth) behind end octets kind o.0 ∙ ap (λ (p : ℕ). Err (p, kind)) (sym o.1)
      | inr g ↦ elim g [
        | inl d ↦ definite_found depth behind octets end place kind d.0 d.1 d.2 (fault_found depth) d.3 d.4
        | inr i ↦ indefinite_found depth behind octets end place kind i.0 (fault_found depth) i.1 i.2
      ]
    ]
