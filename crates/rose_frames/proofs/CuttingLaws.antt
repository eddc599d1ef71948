-- Octets that are fed in pieces, as frames one after another.
use Rattle.std.proofs.Common.{◌≡◌, ◌⊎◌, ℕ, zero, suc, ◌+◌, ◌-◌, ◌^◌, ◌<◌, ◌≤◌, true, false, ◌&&◌, ◌==◌, inl, inr, List}
use Rattle.std.proofs.Common.{[], ◌∷◌, ◌++◌, length, take, drop, get_or, min, All, flat_map, Some, None, refl, sym, ap}
use Rattle.std.proofs.Common.{◌∙◌, arith, append_assoc, take-append-drop, length-append, length-take, length-drop}
use Rattle.std.proofs.Math.Dec.{ltb, leb}
use Rattle.std.proofs.Math.Seq.{take-append-add}
use Rattle.std.proofs.lemmas.Bool.{le-ltb, lt-ltb, le-leb, eq-eqb, cases_lt}
use Rattle.std.proofs.lemmas.Grind.{flat_map-append}
use Rattle.std.proofs.lemmas.List.{append-nil, take-take, take_min, length-take-le}
use Rattle.std.proofs.lemmas.List.Elements.{All-append}
use Rattle.term_values.specs.Octets.{number}
use Rattle.term_model.specs.RemoteOperation.{frame}
use Rattle.rose_frames.specs.Cutting.{Begins, IsFramed}
use Rattle.rose_frames.specs.declared.frame_refusal.FrameRefusal.{FrameRefusal}
use Rattle.rose_frames.specs.declared.frame_refusal.FrameRefusal.TheVariants.{Memory}
use Rattle.rose_frames.specs.Framing.{Framing, announced, fault_of, fault_in, frame_size, in_hand, is_size, is_whole}
use Rattle.rose_frames.specs.Framing.{place_behind}
use Rattle.rose_frames.proofs.FramingLaws.{IsSame, both, hand_short, sound_size, take_all, true_not_false}

-- what is taken of a piece stands behind what was held
hand_grows : (held rest : List ℕ) (n : ℕ) → length held + n ≡ length (in_hand (held ++ rest)) →
    (in_hand (held ++ rest) ≡ held ++ take n rest) × (n ≤ length rest)
hand_grows held rest n e =
    let k = frame_size (held ++ rest) in
    let size : length (in_hand (held ++ rest)) ≡ min k (length (held ++ rest)) = length-take k (held ++ rest) in
    let both_size = length-append held rest in (
      sym (take_min k (held ++ rest))
          ∙ (ap (λ m. take m (held ++ rest)) (sym size ∙ sym e) ∙ take-append-add held rest n),
      omega (arith, size, both_size, e),
    )

pub is_held : (octets : List ℕ) (size : ℕ) → announced octets ≡ size → length octets ≡ 4 + size → 0 < size
    → size ≤ 1048576 →
    is_whole octets ≡ true
is_held octets size given long some few =
    both (leb 4 (length octets)) (is_size (announced octets) && length octets == 4 + announced octets)
    (le-leb 4 (length octets) (omega (arith, long)))
    (both (is_size (announced octets)) (length octets == 4 + announced octets)
    (both (ltb 0 (announced octets)) (leb (announced octets) 1048576)
    (lt-ltb 0 (announced octets) (omega (arith, given, some)))
    (le-leb (announced octets) 1048576 (omega (arith, given, few))))
    (eq-eqb (length octets) (4 + announced octets) (omega (arith, given, long))))

-- octets that begin no whole frame, and whose length is not wrong, are all in hand
pub not_whole_all : (place : ℕ) (octets : List ℕ) → fault_in place octets ≡ None → is_whole (in_hand octets) ≡ false →
    in_hand octets ≡ octets
not_whole_all place octets sound partial =
    elim (cases_lt (length octets) 4) [
      | inl short ↦ hand_short octets short
      | inr there ↦
          elim (cases_lt (length octets) (4 + announced octets)) [
            | inl less ↦
                take_all octets (frame_size octets) (rw (le-ltb (length octets) 4 there) (omega (arith, less)))
            | inr enough ↦
                let size : frame_size octets ≡ 4 + announced octets = rw (le-ltb (length octets) 4 there) refl in
                let right : fault_of place (announced octets) ≡ None = rw (le-ltb (length octets) 4 there) at sound in
                let s = sound_size place (announced octets) right in
                let long : length (in_hand octets) ≡ 4 + announced octets =
                ap (λ n. length (take n octets)) size ∙ length-take-le (4 + announced octets) octets enough in
                let same : announced (in_hand octets) ≡ announced octets =
                ap number (ap (λ n. take 4 (take n octets)) size
                ∙ take-take 4 (4 + announced octets) octets (omega arith)) in
                absurd (true_not_false (sym (is_held (in_hand octets) (announced octets) same long s.0 s.1) ∙ partial))
          ]
    ]

pub hand_again : (octets : List ℕ) → in_hand octets ≡ octets → in_hand (in_hand octets) ≡ in_hand octets
hand_again octets e = ap in_hand e

sound_fault : (place size : ℕ) → (0 < size) × (size ≤ 1048576) → fault_of place size ≡ None
sound_fault place size s = grind (arith, s)

pub sound_anywhere : (place other : ℕ) (octets : List ℕ) → fault_in place octets ≡ None → fault_in other octets ≡ None
sound_anywhere place other octets sound =
    elim (cases_lt (length octets) 4) [
      | inl short ↦ rw (lt-ltb (length octets) 4 short) refl
      | inr there ↦
          let right : fault_of place (announced octets) ≡ None = rw (le-ltb (length octets) 4 there) at sound in
          rw (le-ltb (length octets) 4 there)
          (sound_fault other (announced octets) (sound_size place (announced octets) right))
    ]

-- So much of a piece was fed, and these frames were handed out since.
pub record Feeding (start now : Framing) (piece : List ℕ) (at : ℕ) (old new : List (List ℕ)) : Type 0 where
  pub found : List (List ℕ)
  pub apdus : new ≡ old ++ found
  pub begins : Begins (start.octets ++ piece) found (now.octets ++ drop at piece)
  pub placed : now.place ≡ place_behind start.place (length (flat_map frame found))
  pub within : at ≤ length piece

pub all_none : All IsFramed []
all_none = λ k d i. absurd (omega (arith, i))

pub feeding_start : (start : Framing) (piece : List ℕ) (old : List (List ℕ)) → start.place < 2 ^ 64 →
    Feeding start start piece 0 old old
feeding_start start piece old small =
    record {
      found = [];
      apdus = sym (append-nil old);
      begins = record { whole = refl; each = all_none };
      placed = omega (arith, small);
      within = omega arith;
    }

drop_none : (n : ℕ) → drop {A = ℕ} n [] ≡ []
drop_none zero = refl
drop_none (suc n) = refl

dropped : (n at : ℕ) (piece : List ℕ) → drop n (drop at piece) ≡ drop (at + n) piece
dropped n zero piece = ap (λ k. drop k piece) (omega arith)
dropped n (suc at) [] = drop_none n ∙ sym (drop_none (suc at + n))
dropped n (suc at) (x ∷ xs) =
    let e : suc (at + n) ≡ suc at + n = omega arith in
    dropped n at xs ∙ ap (λ k. drop k (x ∷ xs)) e

pub fed_on : (start now later : Framing) (piece part : List ℕ) (at n : ℕ) (old new : List (List ℕ)) →
    Feeding start now piece at old new → part ≡ drop at piece →
    IsSame later (record { place = now.place; octets = in_hand (now.octets ++ part) }) →
    length now.octets + n ≡ length later.octets → Feeding start later piece (at + n) old new
fed_on start now later piece part at n old new f rest taken count =
    let octets_are : later.octets ≡ in_hand (now.octets ++ part) = ap (λ (v : Framing). v.octets) taken in
    let g = hand_grows now.octets part n (count ∙ ap length octets_are) in
    let size : length part ≡ length piece - at = ap length rest ∙ length-drop at piece in
    let whole : now.octets ++ part ≡ later.octets ++ drop (at + n) piece =
    ap (λ xs. now.octets ++ xs) (sym (take-append-drop n part))
    ∙ (sym (append_assoc now.octets (take n part) (drop n part))
    ∙ (ap (λ xs. xs ++ drop n part) (sym (octets_are ∙ g.0))
    ∙ ap (λ xs. later.octets ++ xs) (ap (drop n) rest ∙ dropped n at piece))) in
    record {
      found = f.found;
      apdus = f.apdus;
      begins = record {
        whole = f.begins.whole ∙ ap (λ xs. flat_map frame f.found ++ xs)
            (ap (λ xs. now.octets ++ xs) (sym rest) ∙ whole);
        each = f.begins.each;
      };
      placed = ap (λ (v : Framing). v.place) taken ∙ f.placed;
      within = omega (arith, g.1, size, f.within);
    }

pub place_on : (start one more : ℕ) → place_behind (place_behind start one) more ≡ place_behind start (one + more)
place_on start one more = omega arith

front_framed : (apdu : List ℕ) → IsFramed apdu → (k : ℕ) (d : List ℕ) → k < length (apdu ∷ []) →
    IsFramed (get_or (apdu ∷ []) k d)
front_framed apdu framed zero d i = framed
front_framed apdu framed (suc k) d i = absurd (omega (arith, i))

one_framed : (apdu : List ℕ) → IsFramed apdu → All IsFramed (apdu ∷ [])
one_framed apdu framed = λ k d i. front_framed apdu framed k d i

pub handed_on : (start now later : Framing) (piece apdu : List ℕ) (at : ℕ) (old new further : List (List ℕ)) →
    Feeding start now piece at old new → now.octets ≡ frame apdu → IsFramed apdu →
    IsSame later (record { place = place_behind now.place (length now.octets); octets = [] }) →
    further ≡ new ++ apdu ∷ [] → Feeding start later piece at old further
handed_on start now later piece apdu at old new further f is framed after more =
    let front : flat_map frame (f.found ++ apdu ∷ []) ≡ flat_map frame f.found ++ now.octets =
    flat_map-append frame f.found (apdu ∷ [])
    ∙ ap (λ xs. flat_map frame f.found ++ xs) (append-nil (frame apdu) ∙ sym is) in
    let size : length (flat_map frame (f.found ++ apdu ∷ [])) ≡ length (flat_map frame f.found) + length now.octets =
    ap length front ∙ length-append (flat_map frame f.found) now.octets in
    record {
      found = f.found ++ apdu ∷ [];
      apdus = more ∙ (ap (λ xs. xs ++ apdu ∷ []) f.apdus ∙ append_assoc old f.found (apdu ∷ []));
      begins = record {
        whole = f.begins.whole ∙ (sym (append_assoc (flat_map frame f.found) now.octets (drop at piece))
            ∙ (ap (λ xs. xs ++ drop at piece) (sym front)
            ∙ ap (λ (v : Framing). flat_map frame (f.found ++ apdu ∷ []) ++ (v.octets ++ drop at piece)) (sym after)));
        each = All-append IsFramed f.found (apdu ∷ []) f.begins.each (one_framed apdu framed);
      };
      placed = ap (λ (v : Framing). v.place) after
          ∙ (ap (λ p. place_behind p (length now.octets)) f.placed
          ∙ (place_on start.place (length (flat_map frame f.found)) (length now.octets)
          ∙ ap (λ n. place_behind start.place n) (sym size)));
      within = f.within;
    }

-- a piece is at its end where no frame is held
pub record Ended (now later : Framing) (piece : List ℕ) (at : ℕ) : Type 0 where
  pub all : now.octets ++ drop at piece ≡ later.octets
  pub again : in_hand later.octets ≡ later.octets
  pub sound : fault_in 0 later.octets ≡ None

pub ended : (now later : Framing) (piece part : List ℕ) (at : ℕ) → part ≡ drop at piece →
    IsSame later (record { place = now.place; octets = in_hand (now.octets ++ part) }) →
    fault_in now.place (now.octets ++ part) ≡ None → is_whole later.octets ≡ false → Ended now later piece at
ended now later piece part at rest taken sound partial =
    let octets_are : later.octets ≡ in_hand (now.octets ++ part) = ap (λ (v : Framing). v.octets) taken in
    let all : in_hand (now.octets ++ part) ≡ now.octets ++ part =
    not_whole_all now.place (now.octets ++ part) sound (sym (ap is_whole octets_are) ∙ partial) in
    let same : later.octets ≡ now.octets ++ part = octets_are ∙ all in
    record {
      all = ap (λ xs. now.octets ++ xs) (sym rest) ∙ sym same;
      again = ap in_hand same ∙ (all ∙ sym same);
      sound = ap (fault_in 0) same ∙ sound_anywhere now.place 0 (now.octets ++ part) sound;
    }

pub frame_some : (now : Framing) (apdu : List ℕ) → now.octets ≡ frame apdu → 0 < length now.octets
frame_some now apdu e = let size : length now.octets ≡ 4 + length apdu =
    ap length e ∙ omega arith in omega (arith, size)

-- what an answer says of a piece, where it was refused
abbrev pub IsRefusedAt : Framing → List ℕ → List (List ℕ) → List (List ℕ) → FrameRefusal → Type 0
IsRefusedAt start piece old new refusal =
    (refusal ≡ Memory) ⊎ ((found : List (List ℕ)) × (rest : List ℕ) × (new ≡ old ++ found)
    × Begins (start.octets ++ piece) found rest
    × (fault_in (place_behind start.place (length (flat_map frame found))) rest ≡ Some refusal))

pub refusal_of : (start now : Framing) (piece part : List ℕ) (at : ℕ) (old new : List (List ℕ))
    (refusal : FrameRefusal) →
    Feeding start now piece at old new → part ≡ drop at piece →
    (refusal ≡ Memory) ⊎ (fault_in now.place (now.octets ++ part) ≡ Some refusal) →
    IsRefusedAt start piece old new refusal
refusal_of start now piece part at old new refusal f rest (inl memory) = inl memory
refusal_of start now piece part at old new refusal f rest (inr fault) =
    inr (
      f.found,
      now.octets ++ drop at piece,
      f.apdus,
      f.begins,
      ap (λ p. fault_in p (now.octets ++ drop at piece)) (sym f.placed)
          ∙ (ap (λ xs. fault_in now.place (now.octets ++ xs)) (sym rest) ∙ fault),
    )
