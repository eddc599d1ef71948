-- Whole streams: that they are cut in one way, and what each piece adds.
use Rattle.std.proofs.Common.{◌≡◌, ◌⊎◌, inl, inr, ℕ, zero, suc, ◌+◌, ◌-◌, ◌^◌, ◌<◌, ◌≤◌, Bool, true, false, ◌&&◌, List}
use Rattle.std.proofs.Common.{[], ◌∷◌, ◌++◌, length, take, drop, get_or, All, flat_map, Some, None, refl, sym, ap, ◌∙◌}
use Rattle.std.proofs.Common.{subst, arith, append_assoc, take-append-drop, length-append}
use Rattle.std.proofs.lemmas.Bool.{le-ltb, lt-leb, cases_lt}
use Rattle.std.proofs.Math.Dec.{ltb, leb}
use Rattle.std.proofs.Math.Seq.{take-length}
use Rattle.std.proofs.lemmas.Grind.{flat_map-append}
use Rattle.std.proofs.lemmas.List.{append-nil, drop_at, take_at, take-take, take_min, take_more, take-append-le}
use Rattle.std.proofs.lemmas.List.Elements.{All-append}
use Rattle.term_values.proofs.NumberLaws.{number-octets_all}
use Rattle.term_values.specs.Octets.{number, octets}
use Rattle.term_model.specs.RemoteOperation.{frame}
use Rattle.rose_frames.specs.Cutting.{Begins, IsCut, IsFramed, OneCut, joined, place_after}
use Rattle.rose_frames.specs.declared.frame_refusal.FrameRefusal.{FrameRefusal}
use Rattle.rose_frames.specs.declared.frame_refusal.FrameRefusal.TheVariants.{Memory}
use Rattle.rose_frames.specs.Framing.{Framing, announced, fault_of, fault_in, frame_size, in_hand, is_size, is_whole}
use Rattle.rose_frames.specs.Framing.{place_behind}
use Rattle.rose_frames.proofs.CuttingLaws.{IsRefusedAt, all_none, is_held}
use Rattle.rose_frames.proofs.FramingLaws.{IsSame, announced_is, fault_short, faulty_size, hand_long, true_not_false}

-- a whole frame in front
whole_frame : (apdu rest : List ℕ) → IsFramed apdu →
    (in_hand (frame apdu ++ rest) ≡ frame apdu) × (is_whole (frame apdu) ≡ true)
whole_frame apdu rest framed =
    let head = octets 4 (length apdu) in
    let size : number head ≡ length apdu = number-octets_all 4 (length apdu) (omega (arith, framed.1)) in
    let hand : in_hand (frame apdu ++ rest) ≡ head ++ take (number head - 0) (apdu ++ rest) =
    ap in_hand (append_assoc head apdu rest) ∙ hand_long head [] (apdu ++ rest) refl (omega arith) in
    let taken : take (number head - 0) (apdu ++ rest) ≡ apdu =
    take_at apdu rest (number head - 0) (omega (arith, size)) in (
      hand ∙ ap (λ xs. head ++ xs) taken,
      is_held (frame apdu) (length apdu) (announced_is head apdu refl ∙ size) (length-append head apdu)
          framed.0 framed.1,
    )

same_apdu : (apdu other : List ℕ) → frame apdu ≡ frame other → apdu ≡ other
same_apdu apdu other e = ap (drop 4) e

each_first : (apdu : List ℕ) (apdus : List (List ℕ)) → All IsFramed (apdu ∷ apdus) → IsFramed apdu
each_first apdu apdus h = h zero apdu (omega arith)

each_other : (apdu : List ℕ) (apdus : List (List ℕ)) → All IsFramed (apdu ∷ apdus) → All IsFramed apdus
each_other apdu apdus h = λ k d i. h (suc k) d (omega (arith, i))

-- no frame begins what is left
not_left : (bytes rest others apdu : List ℕ) (apdus : List (List ℕ)) → bytes ≡ rest → is_whole (in_hand rest) ≡ false →
    Begins bytes (apdu ∷ apdus) others → ⊥
not_left bytes rest others apdu apdus left stops b =
    let w = whole_frame apdu (flat_map frame apdus ++ others) (each_first apdu apdus b.each) in
    let is : rest ≡ frame apdu ++ (flat_map frame apdus ++ others) =
    sym left ∙ (b.whole ∙ append_assoc (frame apdu) (flat_map frame apdus) others) in
    true_not_false (sym (ap is_whole (ap in_hand is ∙ w.0) ∙ w.1) ∙ stops)

pub one_way : OneCut
one_way bytes rest others [] [] c d = (refl, sym c.begins.whole ∙ d.begins.whole)
one_way bytes rest others [] (b ∷ further_b) c d =
    absurd (not_left bytes rest others b further_b c.begins.whole c.stops d.begins)
one_way bytes rest others (a ∷ further_a) [] c d =
    absurd (not_left bytes others rest a further_a d.begins.whole d.stops c.begins)
one_way bytes rest others (a ∷ further_a) (b ∷ further_b) c d =
    let x = flat_map frame further_a ++ rest in
    let y = flat_map frame further_b ++ others in
    let one : bytes ≡ frame a ++ x = c.begins.whole ∙ append_assoc (frame a) (flat_map frame further_a) rest in
    let two : bytes ≡ frame b ++ y = d.begins.whole ∙ append_assoc (frame b) (flat_map frame further_b) others in
    let v = whole_frame a x (each_first a further_a c.begins.each) in
    let w = whole_frame b y (each_first b further_b d.begins.each) in
    let same : frame a ≡ frame b = sym (ap in_hand one ∙ v.0) ∙ (ap in_hand two ∙ w.0) in
    let left : x ≡ y =
    sym (drop_at (frame a) x (length (frame a)) refl)
    ∙ (ap (λ xs. drop (length (frame a)) xs) (sym one ∙ two)
    ∙ drop_at (frame b) y (length (frame a)) (ap length (sym same))) in
    let further = one_way x rest others further_a further_b
    (record { begins = record { whole = refl; each = each_other a further_a c.begins.each }; stops = c.stops })
    (record { begins = record { whole = left; each = each_other b further_b d.begins.each }; stops = d.stops }) in
    (λ i. same_apdu a b same i ∷ further.0 i, further.1)

-- a length that is wrong stops a stream, whatever follows
and_false : (p : Bool) → (p && false) ≡ false
and_false true = refl
and_false false = refl

not_size : (size : ℕ) → (size ≡ 0) ⊎ (1048576 < size) → is_size size ≡ false
not_size size (inl e) = rw e refl
not_size size (inr large) = rw (lt-leb size 1048576 large) (and_false (ltb 0 size))

stops_by : (octets : List ℕ) → is_size (announced octets) ≡ false → is_whole octets ≡ false
stops_by octets e = rw e (and_false (leb 4 (length octets)))

pub faulty_stops : (place : ℕ) (rest more : List ℕ) (refusal : FrameRefusal) → fault_in place rest ≡ Some refusal →
    (is_whole (in_hand (rest ++ more)) ≡ false) × (fault_in place (rest ++ more) ≡ Some refusal)
faulty_stops place rest more refusal fault =
    elim (cases_lt (length rest) 4) [
      | inl short ↦ let never : None ≡ Some refusal = sym (fault_short place rest short) ∙ fault in absurd (cc)
      | inr there ↦
          let whole = rest ++ more in
          let long : 4 ≤ length whole = omega (arith, length-append rest more, there) in
          let same : announced whole ≡ announced rest = ap number (take-append-le 4 rest more there) in
          let wrong : fault_of place (announced rest) ≡ Some refusal = rw (le-ltb (length rest) 4 there) at fault in
          let size : frame_size whole ≡ 4 + announced rest = rw (le-ltb (length whole) 4 long, same) refl in
          let hand : announced (in_hand whole) ≡ announced rest =
          ap number (ap (λ n. take 4 (take n whole)) size
          ∙ take-take 4 (4 + announced rest) whole (omega arith)) ∙ same in (
            stops_by (in_hand whole)
                (ap is_size hand ∙ not_size (announced rest) (faulty_size place (announced rest) refusal wrong)),
            rw (le-ltb (length whole) 4 long, same) wrong,
          )
    ]

-- what an answer says of a stream, where it was refused
abbrev pub IsRefusedIn : List (List ℕ) → List (List ℕ) → List (List ℕ) → FrameRefusal → Type 0
IsRefusedIn pieces old new refusal =
    (refusal ≡ Memory) ⊎ ((found : List (List ℕ)) × (rest : List ℕ) × (new ≡ old ++ found)
    × IsCut (joined pieces) found rest × (fault_in (place_after found) rest ≡ Some refusal))

-- So many pieces were fed, and these frames were handed out.
pub record Cutting (pieces : List (List ℕ)) (i : ℕ) (now : Framing) (old new : List (List ℕ)) : Type 0 where
  pub found : List (List ℕ)
  pub apdus : new ≡ old ++ found
  pub begins : Begins (joined (take i pieces)) found now.octets
  pub again : in_hand now.octets ≡ now.octets
  pub partial : is_whole now.octets ≡ false
  pub sound : fault_in 0 now.octets ≡ None
  pub placed : now.place ≡ place_after found

pub cutting_start : (pieces : List (List ℕ)) (now : Framing) (old : List (List ℕ)) →
    IsSame now (record { place = 0; octets = [] }) → Cutting pieces 0 now old old
cutting_start pieces now old e =
    record {
      found = [];
      apdus = sym (append-nil old);
      begins = record { whole = ap (λ (v : Framing). v.octets) (sym e); each = all_none };
      again = ap (λ (v : Framing). in_hand v.octets) e ∙ ap (λ (v : Framing). v.octets) (sym e);
      partial = ap (λ (v : Framing). is_whole v.octets) e;
      sound = ap (λ (v : Framing). fault_in 0 v.octets) e;
      placed = ap (λ (v : Framing). v.place) e;
    }

begins_on : (bytes piece held rest : List ℕ) (apdus more : List (List ℕ)) → Begins bytes apdus held →
    Begins (held ++ piece) more rest → Begins (bytes ++ piece) (apdus ++ more) rest
begins_on bytes piece held rest apdus more b c =
    record {
      whole = ap (λ xs. xs ++ piece) b.whole ∙ (append_assoc (flat_map frame apdus) held piece
          ∙ (ap (λ xs. flat_map frame apdus ++ xs) c.whole
          ∙ (sym (append_assoc (flat_map frame apdus) (flat_map frame more) rest)
          ∙ ap (λ xs. xs ++ rest) (sym (flat_map-append frame apdus more)))));
      each = All-append IsFramed apdus more b.each c.each;
    }

one_more : (pieces : List (List ℕ)) (i : ℕ) (d : List ℕ) → i < length pieces →
    joined (take (i + 1) pieces) ≡ joined (take i pieces) ++ get_or pieces i d
one_more pieces i d within =
    ap joined (take_more pieces i d within) ∙ (flat_map-append (λ piece. piece) (take i pieces) (get_or pieces i d ∷ [])
    ∙ ap (λ xs. joined (take i pieces) ++ xs) (append-nil (get_or pieces i d)))

places_on : (apdus more : List (List ℕ)) →
    place_behind (place_after apdus) (length (flat_map frame more)) ≡ place_after (apdus ++ more)
places_on apdus more =
    let size : length (flat_map frame (apdus ++ more)) ≡ length (flat_map frame apdus) + length (flat_map frame more) =
    ap length (flat_map-append frame apdus more) ∙ length-append (flat_map frame apdus) (flat_map frame more) in
    omega (arith, size)

pub cutting_on : (pieces : List (List ℕ)) (i : ℕ) (now later : Framing) (old new further : List (List ℕ))
    (piece : List ℕ)
    (d : List ℕ) → i < length pieces → piece ≡ get_or pieces i d → Cutting pieces i now old new →
    (found : List (List ℕ)) × (further ≡ new ++ found) × Begins (now.octets ++ piece) found later.octets
    × (later.place ≡ place_behind now.place (length (flat_map frame found))) →
    (in_hand later.octets ≡ later.octets) × (is_whole later.octets ≡ false) × (fault_in 0 later.octets ≡ None) →
    Cutting pieces (i + 1) later old further
cutting_on pieces i now later old new further piece d within is c more stops =
    record {
      found = c.found ++ more.0;
      apdus = more.1 ∙ (ap (λ xs. xs ++ more.0) c.apdus ∙ append_assoc old c.found more.0);
      begins = subst (λ bytes. Begins bytes (c.found ++ more.0) later.octets)
          (ap (λ xs. joined (take i pieces) ++ xs) is ∙ sym (one_more pieces i d within))
          (begins_on (joined (take i pieces)) piece now.octets later.octets c.found more.0 c.begins more.2);
      again = stops.0;
      partial = stops.1;
      sound = stops.2;
      placed = more.3 ∙ (ap (λ p. place_behind p (length (flat_map frame more.0))) c.placed ∙ places_on c.found more.0);
    }

pub small_place : (pieces : List (List ℕ)) (i : ℕ) (now : Framing) (old new : List (List ℕ))
    → Cutting pieces i now old new →
    now.place < 2 ^ 64
small_place pieces i now old new c = omega (arith, c.placed)

-- the pieces behind a refusal don't matter
joined_apart : (pieces : List (List ℕ)) (i : ℕ) → joined pieces ≡ joined (take i pieces) ++ joined (drop i pieces)
joined_apart pieces i =
    ap joined (sym (take-append-drop i pieces)) ∙ flat_map-append (λ piece. piece) (take i pieces) (drop i pieces)

pub refused_in : (pieces : List (List ℕ)) (i : ℕ) (now : Framing) (old new further : List (List ℕ)) (piece d : List ℕ)
    (refusal : FrameRefusal) → i < length pieces → piece ≡ get_or pieces i d → Cutting pieces i now old new →
    IsRefusedAt now piece new further refusal → IsRefusedIn pieces old further refusal
refused_in pieces i now old new further piece d refusal within is c (inl memory) = inl memory
refused_in pieces i now old new further piece d refusal within is c (inr r) =
    let more = joined (drop (i + 1) pieces) in
    let fault : fault_in (place_after (c.found ++ r.0)) r.1 ≡ Some refusal =
    ap (λ p. fault_in p r.1)
    (sym (ap (λ p. place_behind p (length (flat_map frame r.0))) c.placed ∙ places_on c.found r.0)) ∙ r.4 in
    let stop = faulty_stops (place_after (c.found ++ r.0)) r.1 more refusal fault in
    let b = begins_on (joined (take i pieces)) piece now.octets r.1 c.found r.0 c.begins r.3 in
    let whole : joined pieces ≡ (joined (take i pieces) ++ piece) ++ more =
    joined_apart pieces (i + 1) ∙ ap (λ xs. xs ++ more)
    (one_more pieces i d within ∙ ap (λ xs. joined (take i pieces) ++ xs) (sym is)) in
    inr (
      c.found ++ r.0,
      r.1 ++ more,
      r.2 ∙ (ap (λ xs. xs ++ r.0) c.apdus ∙ append_assoc old c.found r.0),
      record {
        begins = record {
          whole = whole ∙ (ap (λ xs. xs ++ more) b.whole ∙ append_assoc (flat_map frame (c.found ++ r.0)) r.1 more);
          each = b.each;
        };
        stops = stop.0;
      },
      stop.1,
    )

pub all_cut : (pieces : List (List ℕ)) (i : ℕ) (now : Framing) (old new : List (List ℕ)) → length pieces ≤ i →
    Cutting pieces i now old new →
    (found : List (List ℕ)) × (new ≡ old ++ found) × IsCut (joined pieces) found now.octets
    × (fault_in 0 now.octets ≡ None) × (now.place ≡ place_after found)
all_cut pieces i now old new past c =
    let all : take i pieces ≡ pieces = sym (take_min i pieces)
    ∙ (ap (λ n. take n pieces) (omega (arith, past)) ∙ take-length pieces) in (
      c.found,
      c.apdus,
      record {
        begins = subst (λ ps. Begins (joined ps) c.found now.octets) all c.begins;
        stops = ap is_whole c.again ∙ c.partial;
      },
      c.sound,
      c.placed,
    )
