-- What is read of a constructed value spells it, or has the fault: X.690, sections 8.1.3.6 and 8.1.5.
use Rattle.std.proofs.Common.{◌≡◌, ℕ, zero, suc, ◌-◌, ◌<◌, ◌≤◌, Bool, true, false, List, [], ◌∷◌, ◌++◌, length, take}
use Rattle.std.proofs.Common.{drop, Option, Some, None, sym, ap, ◌∙◌, refl, subst, inl, inr, arith, append_assoc}
use Rattle.std.proofs.Common.{length-append, length-take}
use Rattle.std.specs.Prelude.{Result, Ok, Err}
use Rattle.std.proofs.lemmas.List.{length-take-le, take-append-drop, append-nil}
use Rattle.std.proofs.lemmas.Option.{none-some, same_Some}
use Rattle.term_values.specs.declared.ber_kind.BerKind.{BerKind}
use Rattle.term_values.specs.declared.ber_kind.BerKind.TheVariants.{Truncated, BadLength, NoEnd}
use Rattle.term_values.specs.declared.tag.Tag.{Tag}
use Rattle.term_values.specs.Ber.{Parts, SpellsAll}
use Rattle.term_values.specs.FirstFault.{when_cut, place_of, TagFault, OwnFault, EndFault, InIndefinite, BeginsValue}
use Rattle.term_values.specs.FirstFault.{HasFault}
use Rattle.term_values.specs.BerReading.{Fault, Front, AllRead, result_then, front_of, stop_at, members}
use Rattle.term_values.specs.BerReading.{primitive_value, constructed_value, either, placed, reading}
use Rattle.term_values.specs.SpellingLaws.{AreOctets}
use Rattle.term_values.specs.Tree.TreeValue.{Constructed}
use Rattle.term_values.proofs.ReadingLaws.{FrontSplit, FrontTold, front_told, ReadingTold, own, primitive_told, AllTold}
use Rattle.term_values.proofs.ReadingLaws.{Told, members_told, octets_back, octets_front, appended}

pub error_same : {T E : Type 0} (e f : E) → ◌≡◌ {A = Result T E} (Err e) (Err f) → e ≡ f
error_same {T} {E} e f p = ap which p
  where
    which : Result T E → E
    which (Ok x) = e
    which (Err g) = g

pub value_same : {T E : Type 0} (x y : T) → ◌≡◌ {A = Result T E} (Ok x) (Ok y) → x ≡ y
value_same {T} {E} x y p = ap which p
  where
    which : Result T E → T
    which (Ok z) = z
    which (Err g) = x

-- the end of a definite value whose length is filled
definite_stop : (missing end : ℕ) (tail rest : List ℕ) → stop_at None (Some missing) end tail ≡ Some (Ok rest) →
    (tail ≡ []) × (missing ≡ 0)
definite_stop zero end [] rest e = (refl, refl)
definite_stop (suc n) end [] rest e = absurd (cc)
definite_stop missing end (octet ∷ octets) rest e = absurd (none-some _ e)

-- or of one that isn't
definite_fault : (depth missing end : ℕ) (others : List ℕ) (f : Fault) →
    stop_at None (Some missing) end others ≡ Some (Err f) → (others ≡ []) × (0 < missing)
    × HasFault depth (Some missing) others end f.0 f.1
definite_fault depth zero end [] f e = absurd (cc)
definite_fault depth (suc n) end [] f e =
    let here : HasFault depth (Some (suc n)) [] end end Truncated =
    own depth (Some (suc n)) [] end Truncated (OwnFault.of_tag (TagFault.tag_cut refl refl)) in
    let same : (end, Truncated) ≡ f = error_same (end, Truncated) f (same_Some _ _ e) in
    (refl, omega arith, subst (λ (g : Fault). HasFault depth (Some (suc n)) [] end g.0 g.1) same here)
definite_fault depth missing end (octet ∷ octets) f e = absurd (none-some _ e)

goes_on : (behind : Option ℕ) (end : ℕ) (others : List ℕ) → stop_at None behind end others ≡ None → 0 < length others
goes_on behind end [] e = absurd (none-some _ (sym e))
goes_on behind end (octet ∷ octets) e = omega arith

definite_told : (depth : ℕ) (behind : Option ℕ) (end : ℕ) (octets : List ℕ) (tag : Tag) (n : ℕ) (rest : List ℕ)
    (r : AllRead) →
    FrontSplit false behind octets (record { constructed = true; tag = tag; extent = Some n; rest = rest }) →
    AllTold depth (Some (n - length rest)) (end - length (drop n rest))
    (stop_at None (Some (n - length rest)) (end - length (drop n rest))) (take n rest) r →
    ReadingTold (suc depth) behind end octets (result_then (λ inside. Ok (Constructed tag inside.0, drop n rest)) r)
definite_told depth behind end octets tag n rest (Ok (inside, back)) s t =
    let stopped = definite_stop (n - length rest) (end - length (drop n rest)) t.tail back t.stopped in
    let filled = stopped.1 in
    let enough : n ≤ length rest = omega arith in
    let all : t.front ≡ take n rest = sym (append-nil t.front)
    ∙ (ap (λ xs. t.front ++ xs) (sym stopped.0) ∙ sym t.whole) in
    let parts : Parts true tag (take n rest) (s.identifier ++ (s.size ++ take n rest)) = record {
      identifier = s.identifier;
      size = s.size;
      rest = take n rest;
      extent = Some n;
      is_identifier = s.is_identifier;
      is_extent = s.is_extent;
      encloses = (sym (length-take-le n rest enough), refl);
      whole = refl;
    } in
    record {
      front = s.identifier ++ (s.size ++ take n rest);
      whole = s.whole
          ∙ (ap (λ xs. s.identifier ++ (s.size ++ xs)) (sym (take-append-drop n rest))
          ∙ appended s.identifier s.size (take n rest) (drop n rest));
      spells = (take n rest, parts, subst (λ xs. SpellsAll depth xs inside) all t.spells);
    }
definite_told depth behind end octets tag n rest (Err f) s t =
    let l = ap length t.whole in
    let k = length-append t.front t.others in
    let m = length-take n rest in
    elim t.which [
      | inl e ↦
          let cut = definite_fault depth (n - length rest) (end - length (drop n rest)) t.others f e in
          let missing = cut.1 in
          let short : length t.front < n = omega arith in
          inr (inl (
            n,
            rest,
            t.others,
            record {
              tag = tag;
              identifier = s.identifier;
              size = s.size;
              front =
                  t.front;
              inside = t.inside;
              whole = s.whole;
              is_identifier = s.is_identifier;
              is_length =
                  s.is_extent;
              within = s.within;
              contents = t.whole;
              spells = t.spells;
              unfilled = short;
            },
            cut.2,
          ))
      | inr e ↦
          let some = goes_on (Some (n - length rest)) (end - length (drop n rest)) t.others e.0 in
          let short : length t.front < n = omega arith in
          inr (inl (
            n,
            rest,
            t.others,
            record {
              tag = tag;
              identifier = s.identifier;
              size = s.size;
              front =
                  t.front;
              inside = t.inside;
              whole = s.whole;
              is_identifier = s.is_identifier;
              is_length =
                  s.is_extent;
              within = s.within;
              contents = t.whole;
              spells = t.spells;
              unfilled = short;
            },
            e.1,
          ))
    ]

-- the end of an indefinite value
indefinite_stop : (value end : ℕ) (behind : Option ℕ) (tail rest : List ℕ) →
    stop_at (Some value) behind end tail ≡ Some (Ok rest) → tail ≡ 0 ∷ 0 ∷ rest
indefinite_stop value end behind [] rest e = absurd (cc)
indefinite_stop value end behind (zero ∷ []) rest e = absurd (cc)
indefinite_stop value end behind (zero ∷ zero ∷ octets) rest e =
    ap (λ xs. 0 ∷ 0 ∷ xs) (value_same octets rest (same_Some _ _ e))
indefinite_stop value end behind (zero ∷ suc n ∷ octets) rest e = absurd (cc)
indefinite_stop value end behind (suc n ∷ octets) rest e = absurd (none-some _ e)

indefinite_fault : (end : ℕ) (behind : Option ℕ) (value others : List ℕ) (f : Fault) →
    stop_at (Some (end - length value)) behind end others ≡ Some (Err f) → EndFault behind value others end f.0 f.1
indefinite_fault end behind value [] f e =
    subst (λ (g : Fault). EndFault behind value [] end g.0 g.1)
    (error_same (end - length value, NoEnd) f (same_Some _ _ e)) (EndFault.no_end refl refl refl)
indefinite_fault end behind value (zero ∷ []) f e =
    subst (λ (g : Fault). EndFault behind value (0 ∷ []) end g.0 g.1)
    (error_same (place_of (when_cut behind) (0 ∷ []) end, when_cut behind) f (same_Some _ _ e))
    (EndFault.end_cut refl refl refl)
indefinite_fault end behind value (zero ∷ zero ∷ octets) f e = absurd (cc)
indefinite_fault end behind value (zero ∷ suc n ∷ octets) f e =
    subst (λ (g : Fault). EndFault behind value (0 ∷ suc n ∷ octets) end g.0 g.1)
    (error_same (place_of BadLength (0 ∷ suc n ∷ octets) end, BadLength) f (same_Some _ _ e))
    (EndFault.end_broken (suc n) octets refl (omega arith) refl refl)
indefinite_fault end behind value (suc n ∷ octets) f e = absurd (none-some _ e)

begins : (value end : ℕ) (behind : Option ℕ) (others : List ℕ) → stop_at (Some value) behind end others ≡ None →
    BeginsValue others
begins value end behind [] e = absurd (none-some _ (sym e))
begins value end behind (zero ∷ []) e = absurd (none-some _ (sym e))
begins value end behind (zero ∷ zero ∷ octets) e = absurd (none-some _ (sym e))
begins value end behind (zero ∷ suc n ∷ octets) e = absurd (none-some _ (sym e))
begins value end behind (suc n ∷ octets) e = omega arith

indefinite_told : (depth : ℕ) (behind : Option ℕ) (end : ℕ) (octets : List ℕ) (tag : Tag) (rest : List ℕ)
    (r : AllRead) →
    FrontSplit false behind octets (record { constructed = true; tag = tag; extent = None; rest = rest }) →
    AllTold depth behind end (stop_at (Some (end - length octets)) behind end) rest r →
    ReadingTold (suc depth) behind end octets (result_then (λ inside. Ok (Constructed tag inside.0, inside.1)) r)
indefinite_told depth behind end octets tag rest (Ok (inside, back)) s t =
    let stopped = indefinite_stop (end - length octets) end behind t.tail back t.stopped in
    let closed = t.front ++ (0 ∷ 0 ∷ []) in
    let all : rest ≡ closed ++ back = t.whole
    ∙ (ap (λ xs. t.front ++ xs) stopped ∙ sym (append_assoc t.front (0 ∷ 0 ∷ []) back)) in
    let parts : Parts true tag t.front (s.identifier ++ (s.size ++ closed)) = record {
      identifier = s.identifier;
      size = s.size;
      rest = closed;
      extent = None;
      is_identifier = s.is_identifier;
      is_extent = s.is_extent;
      encloses = refl;
      whole = refl;
    } in
    record {
      front = s.identifier ++ (s.size ++ closed);
      whole = s.whole ∙ (ap (λ xs. s.identifier ++ (s.size ++ xs)) all ∙ appended s.identifier s.size closed back);
      spells = (t.front, parts, t.spells);
    }
indefinite_told depth behind end octets tag rest (Err f) s t =
    let whole : octets ≡ s.identifier ++ (128 ∷ (t.front ++ t.others)) = s.whole
    ∙ (ap (λ xs. s.identifier ++ (xs ++ rest)) s.is_extent.1 ∙ ap (λ xs. s.identifier ++ (128 ∷ xs)) t.whole) in
    let here : InIndefinite depth octets t.others =
    record {
      tag = tag;
      identifier = s.identifier;
      front = t.front;
      inside = t.inside;
      whole =
          whole;
      is_identifier = s.is_identifier;
      spells = t.spells;
    } in
    elim t.which [
      | inl e ↦ inr (inr (t.others, here, inl (indefinite_fault end behind octets t.others f e)))
      | inr e ↦ inr (inr (t.others, here, inr (begins (end - length octets) end behind t.others e.0, e.1)))
    ]

definite_ends : (missing end : ℕ) → stop_at None (Some missing) end [] ≡ None → ⊥
definite_ends missing end e = none-some _ (sym e)

indefinite_ends : (value end : ℕ) (behind : Option ℕ) → stop_at (Some value) behind end [] ≡ None → ⊥
indefinite_ends value end behind e = none-some _ (sym e)

value_told : (depth : ℕ) (behind : Option ℕ) (end : ℕ) (octets : List ℕ) (constructed : Bool) (tag : Tag)
    (extent : Option ℕ) (rest : List ℕ) → AreOctets octets → ((b : Option ℕ) (e : ℕ) → Told depth b e) →
    FrontSplit false behind octets (record { constructed = constructed; tag = tag; extent = extent; rest = rest }) →
    ReadingTold (suc depth) behind end octets
    (either constructed (constructed_value (reading depth) behind end (end - length octets) tag extent)
    (primitive_value end tag extent) rest)
value_told depth behind end octets false tag extent rest h told s =
    primitive_told (suc depth) behind end octets tag extent rest s
value_told depth behind end octets true tag (Some n) rest h told s =
    let missing = Some (n - length rest) in
    let stop = end - length (drop n rest) in
    let there =
    octets_back octets (s.identifier ++ s.size) rest (s.whole ∙ sym (append_assoc s.identifier s.size rest)) h in
    let inside = octets_front rest (take n rest) (drop n rest) (sym (take-append-drop n rest)) there in
    definite_told depth behind end octets tag n rest
    (members (reading depth missing stop) (stop_at None missing stop) (length (take n rest)) (take n rest)) s
    (members_told depth missing stop (stop_at None missing stop) (told missing stop)
    (definite_ends (n - length rest) stop) (length (take n rest)) (take n rest) inside (omega arith))
value_told depth behind end octets true tag None rest h told s =
    let value = end - length octets in
    let there =
    octets_back octets (s.identifier ++ s.size) rest (s.whole ∙ sym (append_assoc s.identifier s.size rest)) h in
    indefinite_told depth behind end octets tag rest
    (members (reading depth behind end) (stop_at (Some value) behind end) (length rest) rest) s
    (members_told depth behind end (stop_at (Some value) behind end) (told behind end)
    (indefinite_ends value end behind) (length rest) rest there (omega arith))

outer_told : (behind : Option ℕ) (end : ℕ) (octets : List ℕ) (r : Result Front BerKind) →
    FrontTold true behind octets r →
    ReadingTold zero behind end octets
    (placed end octets (λ front. primitive_value end front.tag front.extent front.rest) r)
outer_told behind end octets (Ok front) s =
    primitive_told zero behind end octets front.tag front.extent front.rest (primitive_only front s.has_room s)
  where
    primitive_only : (front : Front) → front.constructed ≡ false → FrontSplit true behind octets front →
        FrontSplit true behind octets (record {
          constructed = false;
          tag = front.tag;
          extent = front.extent;
          rest =
              front.rest;
        })
    primitive_only front e s =
        subst (λ b.
        FrontSplit true behind octets (record {
          constructed = b;
          tag = front.tag;
          extent = front.extent;
          rest =
              front.rest;
        })) e s
outer_told behind end octets (Err kind) f = own zero behind octets end kind f

inner_told : (depth : ℕ) (behind : Option ℕ) (end : ℕ) (octets : List ℕ) (r : Result Front BerKind) →
    AreOctets octets → ((b : Option ℕ) (e : ℕ) → Told depth b e) → FrontTold false behind octets r →
    ReadingTold (suc depth) behind end octets
    (placed end octets
    (λ front.
    either front.constructed
    (constructed_value (reading depth) behind end (end - length octets) front.tag front.extent)
    (primitive_value end front.tag front.extent) front.rest) r)
inner_told depth behind end octets (Ok front) h told s =
    value_told depth behind end octets front.constructed front.tag front.extent front.rest h told s
inner_told depth behind end octets (Err kind) h told f = own (suc depth) behind octets end kind f

-- what is read spells, and what is found is the fault
pub reading_told : (depth : ℕ) (behind : Option ℕ) (end : ℕ) → Told depth behind end
reading_told zero behind end octets h =
    outer_told behind end octets (front_of true behind octets) (front_told true behind octets h)
reading_told (suc depth) behind end octets h =
    inner_told depth behind end octets (front_of false behind octets) h (λ b e. reading_told depth b e)
    (front_told false behind octets h)
