-- What is held of a stream, by the four octets of the length and what stands behind them.
use Rattle.std.proofs.Common.{◌≡◌, ◌⊎◌, inl, inr, ℕ, ◌+◌, ◌-◌, ◌<◌, ◌≤◌, Bool, true, false, not, All, ◌&&◌, ◌==◌, List}
use Rattle.std.proofs.Common.{[], ◌∷◌, ◌++◌, length, take, drop, min, Some, None, refl, sym, ap, ◌∙◌, subst, arith}
use Rattle.std.proofs.Common.{zero, suc, append_assoc, take-append-drop, length-append, length-take}
use Rattle.std.proofs.Math.Dec.{ltb, leb}
use Rattle.std.proofs.Math.Seq.{take-length, take-append-add}
use Rattle.std.proofs.lemmas.Bool.{le-ltb, lt-ltb, ltb-true, le-leb, lt-leb, leb-true, eqb-true, eq-eqb, cases_lt}
use Rattle.std.proofs.lemmas.Bool.{and_parts}
use Rattle.std.proofs.lemmas.List.{append-nil, take_at, take_min, take_rest, length-take-le}
use Rattle.term_values.proofs.NumberLaws.{octets-number}
use Rattle.term_values.specs.Octets.{number, octets}
use Rattle.term_model.specs.RemoteOperation.{frame}
use Rattle.rose_frames.specs.Cutting.{IsFramed}
use Rattle.rose_frames.specs.declared.frame_refusal.FrameRefusal.{FrameRefusal}
use Rattle.rose_frames.specs.Framing.{Framing, announced, fault_of, fault_in, frame_size, in_hand, is_begun, is_size}
use Rattle.rose_frames.specs.Framing.{is_whole, place_inside}

pub true_not_false : true ≡ false → ⊥
true_not_false e = absurd (cc)

pub both : (p q : Bool) → p ≡ true → q ≡ true → (p && q) ≡ true
both p q e f = rw (e, f) refl

pub take_all : (xs : List ℕ) (n : ℕ) → length xs ≤ n → take n xs ≡ xs
take_all xs n h = sym (take_min n xs) ∙ (ap (λ k. take k xs) (omega arith) ∙ take-length xs)

longer : (head rest : List ℕ) → length head ≡ 4 → 4 ≤ length (head ++ rest)
longer head rest four = omega (arith, length-append head rest)

pub announced_is : (head rest : List ℕ) → length head ≡ 4 → announced (head ++ rest) ≡ number head
announced_is head rest four = ap number (take_at head rest 4 four)

-- the length is there
pub fault_long : (place : ℕ) (head rest : List ℕ) → length head ≡ 4
    → fault_in place (head ++ rest) ≡ fault_of place (number head)
fault_long place head rest four =
    rw (le-ltb (length (head ++ rest)) 4 (longer head rest four), announced_is head rest four) refl

size_long : (head rest : List ℕ) → length head ≡ 4 → frame_size (head ++ rest) ≡ 4 + number head
size_long head rest four =
    rw (le-ltb (length (head ++ rest)) 4 (longer head rest four), announced_is head rest four) refl

pub hand_long : (head begun more : List ℕ) → length head ≡ 4 → length begun ≤ number head →
    in_hand (head ++ (begun ++ more)) ≡ head ++ (begun ++ take (number head - length begun) more)
hand_long head begun more four within =
    let size : frame_size (head ++ (begun ++ more)) ≡ length head + (length begun + (number head - length begun)) =
    size_long head (begun ++ more) four ∙ omega (arith, four, within) in
    ap (λ n. take n (head ++ (begun ++ more))) size
    ∙ (take-append-add head (begun ++ more) (length begun + (number head - length begun))
    ∙ ap (λ xs. head ++ xs) (take-append-add begun more (number head - length begun)))

pub whole_long : (head rest : List ℕ) → length head ≡ 4 →
    is_whole (head ++ rest) ≡ (is_size (number head) && length (head ++ rest) == 4 + number head)
whole_long head rest four =
    rw (le-leb 4 (length (head ++ rest)) (longer head rest four), announced_is head rest four) refl

-- the length is not yet there
pub fault_short : (place : ℕ) (octets : List ℕ) → length octets < 4 → fault_in place octets ≡ None
fault_short place octets short = rw (lt-ltb (length octets) 4 short) refl

pub hand_short : (octets : List ℕ) → length octets < 4 → in_hand octets ≡ octets
hand_short octets short = rw (lt-ltb (length octets) 4 short) (take_all octets 4 (omega arith))

pub whole_short : (octets : List ℕ) → length octets < 4 → is_whole octets ≡ false
whole_short octets short = rw (lt-leb 4 (length octets) short) refl

-- The fields of a framer: how many octets of the length there are, those and others behind them, and what is begun of
-- the APDU.
pub record Fields (filled : ℕ) (size apdu : List ℕ) : Type 0 where
  pub four : length size ≡ 4
  pub within : filled ≤ 4
  pub none_yet : filled < 4 → apdu ≡ []
  pub some : (apdu ≡ []) ⊎ ((length apdu ≤ number size) × (number size ≤ 1048576))

abbrev pub held_octets : ℕ → List ℕ → List ℕ → List ℕ
held_octets filled size apdu = take filled size ++ apdu

length_filled : (filled : ℕ) (size apdu : List ℕ) → Fields filled size apdu → length (take filled size) ≡ filled
length_filled filled size apdu f = length-take-le filled size (omega (arith, f.four, f.within))

-- a length that is not yet whole
pub still_short : (filled more : ℕ) (size apdu piece size-2 : List ℕ) → Fields filled size apdu → filled + more < 4 →
    take (filled + more) size-2 ≡ take filled size ++ take more piece → more ≡ min (length piece) (4 - filled) →
    (held_octets filled size apdu ++ piece ≡ take (filled + more) size-2)
    × (length (held_octets filled size apdu) ≡ filled)
    × (length piece ≡ more)
still_short filled more size apdu piece size-2 f short is count =
    let nothing : apdu ≡ [] = f.none_yet (omega arith) in
    let all : length piece ≡ more = omega (arith, f.within) in
    let front : held_octets filled size apdu ≡ take filled size =
    ap (λ xs. take filled size ++ xs) nothing ∙ append-nil (take filled size) in (
      ap (λ xs. xs ++ piece) front
          ∙ (ap (λ xs. take filled size ++ xs) (sym (take_all piece more (omega arith))) ∙ sym is),
      ap length front ∙ length_filled filled size apdu f,
      all,
    )

abbrev pub IsSame : Framing → Framing → Type 0
IsSame one other = one ≡ other

-- a length that is whole, with more octets of a piece
pub record Long (now : Framing) (place filled more : ℕ) (size apdu piece full : List ℕ) : Type 0 where
  pub fields : Fields filled size apdu
  pub view : IsSame (record { place = place; octets = held_octets filled size apdu }) now
  pub whole : 4 ≤ filled + more
  pub four : length full ≡ 4
  pub is : take (filled + more) full ≡ take filled size ++ take more piece
  pub count : more ≡ min (length piece) (4 - filled)

exactly : {now : Framing} {place filled more : ℕ} {size apdu piece full : List ℕ}
    → Long now place filled more size apdu piece full →
    filled + more ≡ 4
exactly l = let within = l.fields.within in omega (arith, l.whole, l.count)

front : {now : Framing} {place filled more : ℕ} {size apdu piece full : List ℕ}
    → Long now place filled more size apdu piece full →
    full ≡ take filled size ++ take more piece
front {filled = filled} {more = more} {full = full} l =
    let four = l.four in
    sym (take_all full (filled + more) (omega (arith, exactly l))) ∙ l.is

split : (filled more : ℕ) (size apdu piece : List ℕ) → Fields filled size apdu → filled + more ≡ 4 →
    held_octets filled size apdu ++ piece ≡ (take filled size ++ take more piece) ++ (apdu ++ drop more piece)
split filled zero size apdu piece f e =
    ap (λ xs. xs ++ piece) (ap (λ xs. xs ++ apdu) (sym (append-nil (take filled size))))
    ∙ append_assoc (take filled size ++ []) apdu piece
split filled (suc more) size apdu piece f e =
    let nothing : apdu ≡ [] = f.none_yet (omega arith) in
    ap (λ xs. (take filled size ++ xs) ++ piece) nothing
    ∙ (ap (λ xs. xs ++ piece) (append-nil (take filled size))
    ∙ (ap (λ xs. take filled size ++ xs) (sym (take-append-drop (suc more) piece))
    ∙ (sym (append_assoc (take filled size) (take (suc more) piece) (drop (suc more) piece))
    ∙ ap (λ xs. (take filled size ++ take (suc more) piece) ++ (xs ++ drop (suc more) piece)) (sym nothing))))

pub joined : {now : Framing} {place filled more : ℕ} {size apdu piece full : List ℕ}
    → Long now place filled more size apdu piece full →
    now.octets ++ piece ≡ full ++ (apdu ++ drop more piece)
joined {filled = filled} {more = more} {size = size} {apdu = apdu} {piece = piece} l =
    ap (λ (v : Framing). v.octets ++ piece) (sym l.view)
    ∙ (split filled more size apdu piece l.fields (exactly l)
    ∙ ap (λ xs. xs ++ (apdu ++ drop more piece)) (sym (front l)))

pub placed : {now : Framing} {place filled more : ℕ} {size apdu piece full : List ℕ}
    → Long now place filled more size apdu piece full →
    now.place ≡ place
placed l = ap (λ (v : Framing). v.place) (sym l.view)

pub fault_now : {now : Framing} {place filled more : ℕ} {size apdu piece full : List ℕ}
    → Long now place filled more size apdu piece full →
    fault_in now.place (now.octets ++ piece) ≡ fault_of place (number full)
fault_now {now = now} {place = place} {more = more} {apdu = apdu} {piece = piece} {full = full} l =
    ap (λ p. fault_in p (now.octets ++ piece)) (placed l)
    ∙ (ap (fault_in place) (joined l) ∙ fault_long place full (apdu ++ drop more piece) l.four)

pub length_now : {now : Framing} {place filled more : ℕ} {size apdu piece full : List ℕ}
    → Long now place filled more size apdu piece full →
    take 4 (now.octets ++ piece) ≡ full
length_now {more = more} {apdu = apdu} {piece = piece} {full = full} l =
    ap (take 4) (joined l) ∙ take_at full (apdu ++ drop more piece) 4 l.four

pub hand_now : {now : Framing} {place filled more : ℕ} {size apdu piece full : List ℕ}
    → Long now place filled more size apdu piece full →
    length apdu ≤ number full →
    in_hand (now.octets ++ piece) ≡ full ++ (apdu ++ take (number full - length apdu) (drop more piece))
hand_now {more = more} {apdu = apdu} {piece = piece} {full = full} l within =
    ap in_hand (joined l) ∙ hand_long full apdu (drop more piece) l.four within

-- the length was whole before
same_length : {now : Framing} {place filled more : ℕ} {size apdu piece full : List ℕ}
    → Long now place filled more size apdu piece full →
    4 ≤ filled → (more ≡ 0) × (full ≡ size)
same_length {filled = filled} {more = more} {size = size} {piece = piece} l there =
    let nothing : more ≡ 0 = omega (arith, exactly l) in
    let four = l.fields.four in (
      nothing,
      front l ∙ (ap (λ n. take filled size ++ take n piece) nothing
          ∙ (append-nil (take filled size) ∙ take_all size filled (omega (arith, four, there)))),
    )

held_length : {now : Framing} {place filled more : ℕ} {size apdu piece full : List ℕ}
    → Long now place filled more size apdu piece full →
    filled < 4 → length now.octets < 4
held_length {filled = filled} {size = size} {apdu = apdu} l short =
    let nothing : apdu ≡ [] = l.fields.none_yet short in
    let is : length (held_octets filled size apdu) ≡ filled =
    ap (λ xs. length (take filled size ++ xs)) nothing
    ∙ (ap length (append-nil (take filled size)) ∙ length_filled filled size apdu l.fields) in
    subst (λ (v : Framing). length v.octets < 4) l.view (omega (arith, is, short))

held_long : {now : Framing} {place filled more : ℕ} {size apdu piece full : List ℕ}
    → Long now place filled more size apdu piece full →
    4 ≤ filled → now.octets ≡ full ++ apdu
held_long {filled = filled} {size = size} {apdu = apdu} {full = full} l there =
    let four = l.fields.four in
    ap (λ (v : Framing). v.octets) (sym l.view)
    ∙ ap (λ xs. xs ++ apdu) (take_all size filled (omega (arith, four, there)) ∙ sym (same_length l there).1)

-- what was wrong before is wrong now
pub fault_before : {now : Framing} {place filled more : ℕ} {size apdu piece full : List ℕ}
    → Long now place filled more size apdu piece full →
    (fault_in now.place now.octets ≡ None)
    ⊎ ((4 ≤ filled) × (fault_in now.place now.octets ≡ fault_of place (number full)))
fault_before {now = now} {place = place} {filled = filled} {apdu = apdu} {full = full} l =
    elim (cases_lt filled 4) [
      | inr there ↦ inr (
        there,
        ap (λ p. fault_in p now.octets) (placed l)
            ∙ (ap (fault_in place) (held_long l there) ∙ fault_long place full apdu l.four),
      )
      | inl short ↦ inl (fault_short now.place now.octets (held_length l short))
    ]

-- a length that is wrong
pub faulty_size : (place size : ℕ) (refusal : FrameRefusal) → fault_of place size ≡ Some refusal → (size ≡ 0)
    ⊎ (1048576 < size)
faulty_size place size refusal e = grind (arith, e)

pub sound_size : (place size : ℕ) → fault_of place size ≡ None → (0 < size) × (size ≤ 1048576)
sound_size place size e = grind (arith, e)

none_left : (xs : List ℕ) → length xs ≡ 0 → xs ≡ []
none_left [] e = refl
none_left (x ∷ xs) e = absurd (omega (arith, e))

pub faulty_empty : {now : Framing} {place filled more : ℕ} {size apdu piece full : List ℕ}
    → Long now place filled more size apdu piece full →
    (refusal : FrameRefusal) → fault_of place (number full) ≡ Some refusal → apdu ≡ []
faulty_empty {place = place} {filled = filled} {apdu = apdu} {full = full} l refusal e =
    elim (cases_lt filled 4) [
      | inl short ↦ l.fields.none_yet short
      | inr there ↦ elim l.fields.some [
        | inl empty ↦ empty
        | inr few ↦ none_left apdu (elim (faulty_size place (number full) refusal e) [
          | inl zero_size ↦ omega (arith, few.0, ap number (same_length l there).1, zero_size)
          | inr large ↦ absurd (omega (arith, few.1, ap number (same_length l there).1, large))
        ])
      ]
    ]

-- as much of the length as there is has an APDU that is at most as long
pub due_within : {now : Framing} {place filled more : ℕ} {size apdu piece full : List ℕ}
    → Long now place filled more size apdu piece full →
    length apdu ≤ number full
due_within {filled = filled} {apdu = apdu} {full = full} l =
    elim (cases_lt filled 4) [
      | inl short ↦ omega (arith, ap length (l.fields.none_yet short))
      | inr there ↦ elim l.fields.some [
        | inl empty ↦ omega (arith, ap length empty)
        | inr few ↦ omega (arith, few.0, ap number (same_length l there).1)
      ]
    ]

due_taken : (n due : ℕ) (xs : List ℕ) → due ≡ min (length xs) n → take due xs ≡ take n xs
due_taken n due xs e = ap (λ k. take k xs) (e ∙ omega arith) ∙ take_min n xs

held_size : {now : Framing} {place filled more : ℕ} {size apdu piece full : List ℕ}
    → Long now place filled more size apdu piece full →
    length now.octets ≡ filled + length apdu
held_size {filled = filled} {size = size} {apdu = apdu} l =
    ap (λ (v : Framing). length v.octets) (sym l.view)
    ∙ (length-append (take filled size) apdu ∙ ap (λ n. n + length apdu) (length_filled filled size apdu l.fields))

-- what is taken of a piece
pub fed : {now : Framing} {place filled more : ℕ} {size apdu piece full : List ℕ}
    → Long now place filled more size apdu piece full →
    (due : ℕ) (grown : List ℕ) → due ≡ min (length (drop more piece)) (number full - length apdu) →
    grown ≡ apdu ++ take due (drop more piece) →
    IsSame (record { place = place; octets = take 4 full ++ grown })
    (record { place = now.place; octets = in_hand (now.octets ++ piece) })
    × (length now.octets + (more + due) ≡ length (take 4 full ++ grown))
fed {now = now} {place = place} {filled = filled} {more = more} {apdu = apdu} {piece = piece} {full = full} l due
    grown is grows =
    let whole : take 4 full ≡ full = take_all full 4 (omega (arith, l.four)) in
    let hand : take 4 full ++ grown ≡ in_hand (now.octets ++ piece) =
    ap (λ xs. xs ++ grown) whole
    ∙ (ap (λ xs. full ++ xs)
    (grows ∙ ap (λ xs. apdu ++ xs) (due_taken (number full - length apdu) due (drop more piece) is))
    ∙ sym (hand_now l (due_within l))) in
    let few : due ≤ length (drop more piece) = omega (arith, is) in
    let grown_size : length grown ≡ length apdu + due =
    ap length grows ∙ (length-append apdu (take due (drop more piece))
    ∙ ap (λ n. length apdu + n) (length-take-le due (drop more piece) few)) in
    let whole_size : length (take 4 full ++ grown) ≡ 4 + length grown =
    length-append (take 4 full) grown ∙ ap (λ xs. length xs + length grown) whole
    ∙ ap (λ n. n + length grown) l.four in (
      λ i. record { place = sym (placed l) i; octets = hand i },
      omega (arith, whole_size, grown_size, held_size l, exactly l),
    )

-- the tests of a whole frame
same_test : (p q : Bool) → (p ≡ true → q ≡ true) → (q ≡ true → p ≡ true) → p ≡ q
same_test true q f g = sym (f refl)
same_test false true f g = g refl
same_test false false f g = refl

shifted : (n m k : ℕ) → n ≡ 4 + m → (n == 4 + k) ≡ (m == k)
shifted n m k e =
    same_test (n == 4 + k) (m == k) (λ h. eq-eqb m k (omega (arith, eqb-true n (4 + k) h, e)))
    (λ h. eq-eqb n (4 + k) (omega (arith, eqb-true m k h, e)))

pub whole_fields : (now : Framing) (place filled : ℕ) (size apdu : List ℕ) → Fields filled size apdu →
    IsSame (record { place = place; octets = held_octets filled size apdu }) now → 4 ≤ filled →
    (now.octets ≡ size ++ apdu) × (is_whole now.octets ≡ (is_size (number size) && length apdu == number size))
whole_fields now place filled size apdu f view there =
    let four = f.four in
    let is : now.octets ≡ size ++ apdu =
    ap (λ (v : Framing). v.octets) (sym view)
    ∙ ap (λ xs. xs ++ apdu) (take_all size filled (omega (arith, four, there))) in
    let long : length (size ++ apdu) ≡ 4 + length apdu = length-append size apdu ∙ ap (λ n. n + length apdu) f.four in (
      is,
      ap is_whole is ∙ (whole_long size apdu f.four
          ∙ ap (λ b. is_size (number size) && b) (shifted (length (size ++ apdu)) (length apdu) (number size) long)),
    )

-- nothing is taken exactly where a frame is held or nothing comes
pub nothing_taken : {now : Framing} {place filled more : ℕ} {size apdu piece full : List ℕ}
    → Long now place filled more size apdu piece full →
    (is_whole now.octets ≡ true) ⊎ (piece ≡ []) →
    (more ≡ 0) × (min (length (drop more piece)) (number full - length apdu) ≡ 0)
nothing_taken {now = now} {place = place} {filled = filled} {more = more} {size = size} {apdu = apdu} {piece = piece}
    {full = full} l (inr empty) =
    let none_more : more ≡ 0 = omega (arith, l.count, ap length empty) in
    (none_more, omega (arith, ap (λ n. length (drop n piece)) none_more, ap length empty))
nothing_taken {now = now} {place = place} {filled = filled} {more = more} {size = size} {apdu = apdu} {piece = piece}
    {full = full} l (inl whole) =
    elim (cases_lt filled 4) [
      | inl short ↦ absurd (true_not_false (sym whole ∙ whole_short now.octets (held_length l short)))
      | inr there ↦
          let w = whole_fields now place filled size apdu l.fields l.view there in
          let equal : length apdu ≡ number size =
          eqb-true (length apdu) (number size)
          (and_parts (is_size (number size)) (length apdu == number size) (sym w.1 ∙ whole)).1 in
          ((same_length l there).0, omega (arith, equal, ap number (same_length l there).1))
    ]

pub none_taken : {now : Framing} {place filled more : ℕ} {size apdu piece full : List ℕ}
    → Long now place filled more size apdu piece full →
    more + min (length (drop more piece)) (number full - length apdu) ≡ 0 → fault_of place (number full) ≡ None →
    (is_whole now.octets ≡ true) ⊎ (piece ≡ [])
none_taken {now = now} {place = place} {filled = filled} {more = more} {size = size} {apdu = apdu} {piece = piece}
    {full = full} l none_now sound =
    let there : 4 ≤ filled = omega (arith, exactly l, none_now) in
    let s = sound_size place (number full) sound in
    let w = whole_fields now place filled size apdu l.fields l.view there in
    let same : number full ≡ number size = ap number (same_length l there).1 in
    let none_more : length (drop more piece) ≡ length piece = ap (λ n. length (drop n piece)) (same_length l there).0 in
    elim (cases_lt 0 (length piece)) [
      | inr empty ↦ inr (none_left piece (omega (arith, empty)))
      | inl some ↦
          let equal : length apdu ≡ number size = omega (arith, none_now, some, none_more, same, due_within l) in
          inl (w.1 ∙ both (is_size (number size)) (length apdu == number size)
          (both (ltb 0 (number size)) (leb (number size) 1048576) (lt-ltb 0 (number size) (omega (arith, s.0, same)))
          (le-leb (number size) 1048576 (omega (arith, s.1, same))))
          (eq-eqb (length apdu) (number size) equal))
    ]

-- what is wrong now was right before, where nothing is wrong now
pub sound_before : {now : Framing} {place filled more : ℕ} {size apdu piece full : List ℕ}
    → Long now place filled more size apdu piece full →
    fault_of place (number full) ≡ None → fault_in now.place now.octets ≡ None
sound_before l sound = elim (fault_before l) [ inl right ↦ right | inr same ↦ same.1 ∙ sound ]

-- as much as is due of what a piece has behind the length
pub due_is : (piece apdu full : List ℕ) (more due size begun : ℕ) →
    due ≡ min (length (take (length piece - more) (drop more piece))) (size - begun) → size ≡ number full →
    begun ≡ length apdu → due ≡ min (length (drop more piece)) (number full - length apdu)
due_is piece apdu full more due size begun e sized length_is =
    e ∙ (ap (λ xs. min (length xs) (size - begun)) (take_rest piece more)
    ∙ (ap (λ n. min (length (drop more piece)) (n - begun)) sized
    ∙ ap (λ n. min (length (drop more piece)) (number full - n)) length_is))

-- what is left of a frame whose length is wrong
pub refused : {now : Framing} {place filled more : ℕ} {size apdu piece full : List ℕ}
    → Long now place filled more size apdu piece full →
    (refusal : FrameRefusal) → fault_of place (number full) ≡ Some refusal →
    IsSame (record { place = place; octets = take 4 full ++ apdu })
    (record { place = now.place; octets = take 4 (now.octets ++ piece) })
refused {full = full} l refusal e =
    let hand = ap (λ xs. take 4 full ++ xs) (faulty_empty l refusal e)
    ∙ (append-nil (take 4 full) ∙ (take_all full 4 (omega (arith, l.four)) ∙ sym (length_now l))) in
    λ i. record { place = sym (placed l) i; octets = hand i }

pub no_fewer : (due : ℕ) (xs : List ℕ) → due ≡ 0 → 0 < length (take due xs) → ⊥
no_fewer due xs e some = omega (arith, length-take due xs, e, some)

pub fields_size : (now : Framing) (place filled : ℕ) (size apdu : List ℕ) → Fields filled size apdu →
    IsSame (record { place = place; octets = held_octets filled size apdu }) now
    → length now.octets ≡ filled + length apdu
fields_size now place filled size apdu f view =
    ap (λ (v : Framing). length v.octets) (sym view)
    ∙ (length-append (take filled size) apdu ∙ ap (λ n. n + length apdu) (length_filled filled size apdu f))

begins : (octets : List ℕ) → 0 < length octets → is_whole octets ≡ false → is_begun octets ≡ true
begins [] some e = absurd (omega (arith, some))
begins (octet ∷ octets) some e = ap not e

-- the place of a frame that is begun and not held
pub begun_some : (now : Framing) (place : ℕ) → place ≡ now.place → 0 < length now.octets → is_whole now.octets ≡ false →
    Some place ≡ place_inside now
begun_some now place is some e = rw (begins now.octets some e) (ap Some is)

-- a frame that is held is one by its form
pub framed : (now : Framing) (place filled : ℕ) (size apdu : List ℕ) → Fields filled size apdu →
    IsSame (record { place = place; octets = held_octets filled size apdu }) now → is_whole now.octets ≡ true →
    All (λ x. x < 256) size → (now.octets ≡ frame apdu) × IsFramed apdu × (length now.octets ≡ 4 + length apdu)
framed now place filled size apdu f view whole each =
    elim (cases_lt filled 4) [
      | inl short ↦
          let none_yet = ap length (f.none_yet short) in
          let few : length now.octets < 4 =
          omega (arith, fields_size now place filled size apdu f view, none_yet, short) in
          absurd (true_not_false (sym whole ∙ whole_short now.octets few))
      | inr there ↦
          let w = whole_fields now place filled size apdu f view there in
          let parts = and_parts (is_size (number size)) (length apdu == number size) (sym w.1 ∙ whole) in
          let equal : length apdu ≡ number size = eqb-true (length apdu) (number size) parts.1 in
          let bounds = and_parts (ltb 0 (number size)) (leb (number size) 1048576) parts.0 in
          let head : octets 4 (length apdu) ≡ size =
          ap (octets 4) equal ∙ (ap (λ n. octets n (number size)) (sym f.four) ∙ octets-number size each) in (
            w.0 ∙ ap (λ xs. xs ++ apdu) (sym head),
            (
              omega (arith, ltb-true 0 (number size) bounds.0, equal),
              omega (arith, leb-true (number size) 1048576 bounds.1, equal),
            ),
            ap length w.0 ∙ (length-append size apdu ∙ ap (λ n. n + length apdu) f.four),
          )
    ]
