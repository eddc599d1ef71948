-- PlaceLaws: the places of the records of attributes, one attribute more.
use Rattle.std.proofs.Common.{◌≡◌, ◌<◌, ◌≤◌, ◌∙◌, ◌+◌, ◌++◌, ◌∷◌, [], ℕ, suc, zero, List, Option, None, Some, ap, arith}
use Rattle.std.proofs.Common.{◌⊎◌, drop, inl, inr, length, refl, sym}
use Rattle.std.specs.Prelude.{IfSome, option_and_then, slice_get}
use Rattle.std.proofs.Math.Path.{subst}
use Rattle.std.proofs.lemmas.List.{length-append}
use Rattle.std.proofs.lemmas.Option.{none-some, same_Some, slice_get_within}
use Rattle.term_model.specs.declared.schema.AttrRec.{AttrRec}
use Rattle.asn1_names.specs.ModuleTerms.{ModuleTerm}
use Rattle.linked_parts.specs.declared.linked.Linked.{Linked}
use Rattle.linked_parts.specs.declared.linked.LinkedAttribute.{LinkedAttribute}
use Rattle.schema_records.specs.MemberRecords.{AreAttributes, IsAttribute}
use Rattle.schema_records.specs.MemberRecords.AreAttributes.{no_more, one, unregistered}
use Rattle.instance_records.specs.KnownRecords.{ArePlaces, TellsPlace, TellsRecord, place_behind, record_at}

same_tail : {A : Type 0} (x y : A) (xs ys : List A) → x ∷ xs ≡ y ∷ ys → xs ≡ ys
same_tail x y xs ys e = cc

same_head : {A : Type 0} (x y : A) (xs ys : List A) → x ∷ xs ≡ y ∷ ys → x ≡ y
same_head x y xs ys e = cc

-- what stands first behind the place n
first_at : {A : Type 0} (xs : List A) (n : ℕ) (x : A) (rest : List A) → x ∷ rest ≡ drop n xs →
    (slice_get xs n ≡ Some x) × (rest ≡ drop (suc n) xs)
first_at [] zero x rest e = absurd (cc)
first_at [] (suc n) x rest e = absurd (cc)
first_at (y ∷ ys) zero x rest e = (ap Some (sym (same_head x y rest ys e)), same_tail x y rest ys e)
first_at (y ∷ ys) (suc n) x rest e = first_at ys n x rest e

drop_first : {A : Type 0} (xs : List A) (n : ℕ) (x : A) → slice_get xs n ≡ Some x → drop n xs ≡ x ∷ drop (suc n) xs
drop_first [] n x at = absurd (cc)
drop_first (y ∷ ys) zero x at = ap (λ z. z ∷ ys) (same_Some y x at)
drop_first (y ∷ ys) (suc n) x at = drop_first ys n x at

pushed_at : {A : Type 0} (xs : List A) (x : A) (k : ℕ) (y : A) → slice_get (xs ++ x ∷ []) k ≡ Some y →
    (slice_get xs k ≡ Some y) ⊎ ((k ≡ length xs) × (x ≡ y))
pushed_at [] x zero y at = inr (refl, same_Some x y at)
pushed_at [] x (suc k) y at = absurd (cc)
pushed_at (z ∷ xs) x zero y at = inl at
pushed_at (z ∷ xs) x (suc k) y at = further (pushed_at xs x k y at)
  where
    further : (slice_get xs k ≡ Some y) ⊎ ((k ≡ length xs) × (x ≡ y)) →
        (slice_get xs k ≡ Some y) ⊎ ((suc k ≡ length (z ∷ xs)) × (x ≡ y))
    further (inl here) = inl here
    further (inr last) = inr (ap suc last.0, last.1)

none_past : {A : Type 0} (xs : List A) (k : ℕ) → slice_get xs k ≡ None → length xs ≤ k
none_past [] k at = omega arith
none_past (x ∷ xs) zero at = absurd (none-some x (sym at))
none_past (x ∷ xs) (suc k) at = let further = none_past xs k at in omega (arith, further)

-- a place that is told is within the records
within_records : (part : LinkedAttribute) (records : List AttrRec) (next : ℕ) (place : Option ℕ) →
    TellsPlace part records next place → IfSome place (λ found. next < length records)
within_records part records next None told = tt
within_records part records next (Some place) told = slice_get_within records next told.1 told.2

module _ (ms : List ModuleTerm) (linked : Linked) (records : List AttrRec) where
  -- what follows from the place of one attribute
  record IsPlaced (k next : ℕ) (parts : List LinkedAttribute) (place : Option ℕ) : Type 0 where
    pub told : TellsRecord ms linked k (record_at records place)
    pub rest : AreAttributes ms linked (suc k) parts (drop (place_behind next place) records)

  has_record : {k : ℕ} {xs : List LinkedAttribute} (next : ℕ) (part : LinkedAttribute)
      (parts : List LinkedAttribute) (place : Option ℕ) (x : AttrRec) (rest : List AttrRec) → xs ≡ parts →
      x ∷ rest ≡ drop next records → slice_get linked.attributes.items k ≡ Some part → IsAttribute ms linked k x →
      AreAttributes ms linked (suc k) xs rest → TellsPlace part records next place → IsPlaced k next parts place
  has_record next part parts None x rest same behind at is more told =
      let first = first_at records next x rest behind in
      let own = same_Some is.part part (sym is.stands ∙ at) in
      absurd (told x first.0 (sym (ap (λ (y : LinkedAttribute). y.head.identifier) own) ∙ is.registered.is_id))
  has_record {k = k} {xs = xs} next part parts (Some place) x rest same behind at is more told =
      let first = first_at records next x rest behind in record {
        told = subst (TellsRecord ms linked k) (sym (ap (slice_get records) told.0 ∙ first.0)) is;
        rest = subst (λ ws. AreAttributes ms linked (suc k) ws (drop (suc next) records)) same
            (subst (AreAttributes ms linked (suc k) xs) first.1 more);
      }

  has_none : {k : ℕ} (next : ℕ) (part : LinkedAttribute) (parts : List LinkedAttribute) (place : Option ℕ) →
      slice_get linked.attributes.items k ≡ Some part → part.head.identifier ≡ None →
      AreAttributes ms linked (suc k) parts (drop next records) → TellsPlace part records next place →
      IsPlaced k next parts place
  has_none next part parts None at gone more told = record {
    told = ap (option_and_then (λ (x : LinkedAttribute). x.head.identifier)) at ∙ gone;
    rest = more;
  }
  has_none next part parts (Some place) at gone more told = absurd (none-some told.1.id (sym gone ∙ told.3))

  is_placed : {k : ℕ} {xs : List LinkedAttribute} {ys : List AttrRec} (next : ℕ) (part : LinkedAttribute)
      (parts : List LinkedAttribute) (place : Option ℕ) → AreAttributes ms linked k xs ys → xs ≡ part ∷ parts →
      ys ≡ drop next records → slice_get linked.attributes.items k ≡ Some part → TellsPlace part records next place →
      IsPlaced k next parts place
  is_placed next part parts place no_more same behind at told = absurd (cc)
  is_placed next part parts place (one {part = y} {parts = ys} {x = x} {xs = rest} is more) same behind at told =
      has_record next part parts place x rest (same_tail y part ys parts same) behind at is more told
  is_placed {k = k} next part parts place (unregistered {part = y} {parts = ys} {xs = rest} gone more) same
      behind at told =
      has_none next part parts place at
      (sym (ap (λ (x : LinkedAttribute). x.head.identifier) (same_head y part ys parts same)) ∙ gone)
      (subst (AreAttributes ms linked (suc k) parts) behind
      (subst (λ ws. AreAttributes ms linked (suc k) ws rest) (same_tail y part ys parts same) more)) told

  -- the places of the attributes before the place i, where the records from the place next on are those of the others
  pub record ArePlacesBefore (places : List (Option ℕ)) (i next : ℕ) : Type 0 where
    pub size : length places ≡ i
    pub told : (k : ℕ) (place : Option ℕ) → slice_get places k ≡ Some place →
        TellsRecord ms linked k (record_at records place)
    pub rest : AreAttributes ms linked i (drop i linked.attributes.items) (drop next records)

  pub places_none : (places : List (Option ℕ)) → places ≡ [] →
      AreAttributes ms linked 0 linked.attributes.items records → ArePlacesBefore places 0 0
  places_none places is attributes = record {
    size = ap length is;
    told = λ k place at. absurd (none-some place (sym (ap (λ xs. slice_get xs k) is) ∙ at));
    rest = attributes;
  }

  pub places_added : (places after : List (Option ℕ)) (i next further : ℕ) (part : LinkedAttribute)
      (place : Option ℕ) → ArePlacesBefore places i next → slice_get linked.attributes.items i ≡ Some part →
      TellsPlace part records next place → after ≡ places ++ place ∷ [] →
      (IfSome place (λ found. next < length records) → further ≡ place_behind next place) →
      ArePlacesBefore after (i + 1) further
  places_added places after i next further part place before at told pushed moves =
      let attributes = linked.attributes.items in
      let placed = is_placed next part (drop (suc i) attributes) place before.rest (drop_first attributes i part at)
      refl at told in
      let moved = moves (within_records part records next place told) in
      let one_more : suc i ≡ i + 1 = omega arith in record {
        size = ap length pushed ∙ length-append places (place ∷ []) ∙ ap (λ n. n + 1) before.size;
        told = λ k found stands. by k found (pushed_at places place k found
            (sym (ap (λ xs. slice_get xs k) pushed) ∙ stands)) placed.told;
        rest = subst (λ n. AreAttributes ms linked (i + 1) (drop (i + 1) attributes) (drop n records)) (sym moved)
            (subst (λ n. AreAttributes ms linked n (drop n attributes) (drop (place_behind next place) records))
            one_more
            placed.rest);
      }
    where
      by : (k : ℕ) (found : Option ℕ) → (slice_get places k ≡ Some found) ⊎ ((k ≡ length places) × (place ≡ found)) →
          TellsRecord ms linked i (record_at records place) → TellsRecord ms linked k (record_at records found)
      by k found (inl here) last = before.told k found here
      by k found (inr here) last =
          subst (λ n. TellsRecord ms linked n (record_at records found)) (sym (here.0 ∙ before.size))
          (subst (λ o. TellsRecord ms linked i (record_at records o)) here.1 last)

  pub places_whole : (places : List (Option ℕ)) (i next : ℕ) → length linked.attributes.items ≤ i →
      ArePlacesBefore places i next → ArePlaces ms linked records places
  places_whole places i next past before = record {
    size = let size = before.size in omega (arith, size, past);
    told = before.told;
  }
