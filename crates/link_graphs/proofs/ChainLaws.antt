-- The ends of chains, by the order in which a search in depth finishes their elements.
use Rattle.std.proofs.Common.{◌≡◌, ℕ, suc, zero, ◌+◌, ◌<◌, ◌≤◌, ◌⊎◌, List, [], ◌∷◌, Option, None, Some}
use Rattle.std.proofs.Common.{length, set, replicate, refl, sym, ap, ◌∙◌, inl, inr, subst, arith}
use Rattle.std.specs.Prelude.{map}
use Rattle.std.specs.List.{slice_get}
use Rattle.std.specs.Option.{option_and_then}
use Rattle.std.proofs.lemmas.Bool.{cases_lt}
use Rattle.std.proofs.lemmas.List.{length-map, length-replicate, length-set}
use Rattle.std.proofs.lemmas.Option.{slice_get_within, same_Some}
use Rattle.link_graphs.specs.declared.chains.Link.{Link}
use Rattle.link_graphs.specs.declared.chains.Link.TheVariants.{End, Next, Stop}
use Rattle.link_graphs.specs.ChainEnds.{AreEnds, EndsAt, end_now, link_targets}
use Rattle.link_graphs.specs.ChainEnds.EndsAt.{itself, onward}
use Rattle.link_graphs.specs.Leading.{LeadsAtOnce, Leads, targets_of}
use Rattle.link_graphs.specs.Leading.Leads.{at_once}
use Rattle.link_graphs.specs.Finishing.{IsFinishing}
use Rattle.link_graphs.proofs.PlaceLaws.{same_there}
use Rattle.link_graphs.proofs.OrderLaws.{leads_back}

-- ---- the graph of links

abbrev pub link_lists : List Link → List (List ℕ)
link_lists links = map link_targets links

pub targets_there : (links : List Link) (e : ℕ) (link : Link) → slice_get links e ≡ Some link
    → targets_of (link_lists links) e ≡ link_targets link
targets_there [] e link h = absurd (cc)
targets_there (x ∷ links) zero link h = ap link_targets (same_Some x link h)
targets_there (x ∷ links) (suc e) link h = targets_there links e link h

next_leads : (links : List Link) (e next : ℕ) → slice_get links e ≡ Some (Next next) → next < length links
    → LeadsAtOnce (link_lists links) e next
next_leads links e next h within = record {
  place = 0;
  stands = subst (λ xs. slice_get xs 0 ≡ Some next) (sym (targets_there links e (Next next) h)) refl;
  within = let l = length-map links link_targets in omega arith;
}

-- ---- an element that leads back to itself has no end

size : {links : List Link} {e z : ℕ} → EndsAt links e z → ℕ
size (itself h) = 0
size (onward h d) = suc (size d)

-- a shorter way to the same end
abbrev Shorter : (links : List Link) (y z n : ℕ) → Type 0
Shorter links y z n = (d : EndsAt links y z) × (size d < n)

only_next : (k next y : ℕ) → slice_get (next ∷ []) k ≡ Some y → next ≡ y
only_next zero next y h = same_Some next y h
only_next (suc k) next y h = absurd (cc)

one_shorter : {links : List Link} {e z : ℕ} (d : EndsAt links e z) (y : ℕ) → LeadsAtOnce (link_lists links) e y
    → Shorter links y z (size d)
unfolding size
one_shorter {links} {e} (itself h) y one =
    absurd (no_place one.place (subst (λ xs. slice_get xs one.place ≡ Some y) (targets_there links e End h) one.stands))
  where
    no_place : (k : ℕ) → slice_get [] k ≡ Some y → ⊥
    no_place k i = absurd (cc)
one_shorter {links} {e} {z} (onward {next = next} h d) y one =
    let same = only_next one.place next y
    (subst (λ xs. slice_get xs one.place ≡ Some y) (targets_there links e (Next next) h) one.stands) in
    subst (λ x. Shorter links x z (suc (size d))) same (d, omega arith)

shorter : {links : List Link} {e z : ℕ} (d : EndsAt links e z) (y : ℕ) → Leads (link_lists links) e y
    → Shorter links y z (size d)
shorter d y (at_once one) = one_shorter d y one
shorter {links} {e} {z} d y (Leads.onward {between = b} f one) =
    let s = shorter d b f in
    let t = one_shorter s.0 y one in
    (t.0, (let a = s.1 in let c = t.1 in omega arith))

no_descent : {links : List Link} {e z : ℕ} (n : ℕ) (d : EndsAt links e z) → size d < n
    → Leads (link_lists links) e e → ⊥
no_descent zero d less f = omega arith
no_descent {links} {e} {z} (suc n) d less f =
    let s = shorter d e f in
    no_descent n s.0 (let a = s.1 in omega arith) f

pub no_end : (links : List Link) (e z : ℕ) → Leads (link_lists links) e e → EndsAt links e z → ⊥
no_end links e z f d = no_descent (suc (size d)) d (omega arith) f

-- ---- one element after the other

get_same : {A : Type 0} (xs : List A) (i : ℕ) (y : A) → i < length xs → slice_get (set xs i y) i ≡ Some y
get_same [] i y h = absurd (omega arith)
get_same (x ∷ xs) zero y h = refl
get_same (x ∷ xs) (suc i) y h = get_same xs i y (omega arith)

get_other : {A : Type 0} (xs : List A) (i j : ℕ) (y : A) → (j ≡ i → ⊥) → slice_get (set xs i y) j ≡ slice_get xs j
get_other [] i j y h = refl
get_other (x ∷ xs) zero zero y h = absurd (h refl)
get_other (x ∷ xs) zero (suc j) y h = refl
get_other (x ∷ xs) (suc i) zero y h = refl
get_other (x ∷ xs) (suc i) (suc j) y h = get_other xs i j y (λ e. h (ap suc e))

get_replicate : {A : Type 0} (n i : ℕ) (y : A) → i < n → slice_get (replicate n y) i ≡ Some y
get_replicate zero i y h = absurd (omega arith)
get_replicate (suc n) zero y h = refl
get_replicate (suc n) (suc i) y h = get_replicate n i y (omega arith)

-- an end is told exactly
pub record IsTold (links : List Link) (e : ℕ) (end : Option ℕ) : Type 0 where
  pub leads : (z : ℕ) → end ≡ Some z → EndsAt links e z
  pub told : (z : ℕ) → EndsAt links e z → end ≡ Some z

-- the ends of the elements before a place of the order are told, and the others have none yet
pub record ToldBefore (links : List Link) (order : List ℕ) (place : ℕ) (ends : List (Option ℕ)) : Type 0 where
  pub size : length ends ≡ length links
  pub before : (k e : ℕ) (end : Option ℕ) → k < place → slice_get order k ≡ Some e → slice_get ends e ≡ Some end →
      IsTold links e end
  pub others : (k e : ℕ) → place ≤ k → slice_get order k ≡ Some e → slice_get ends e ≡ Some None

pub none_told : (links : List Link) (order : List ℕ) → IsFinishing (link_lists links) order
    → ToldBefore links order 0 (replicate (length links) None)
none_told links order w = record {
  size = length-replicate (length links) None;
  before = λ k e end less. absurd (omega arith);
  others = λ k e low at. get_replicate (length links) e None
      (let i = w.elements k e at in let l = length-map links link_targets in omega arith);
}

same_link : (links : List Link) (e : ℕ) (x y : Link) → slice_get links e ≡ Some x → slice_get links e ≡ Some y → x ≡ y
same_link links e x y h i = same_there links e x y h i

-- an element that is an end, or leads nowhere
told_end : (links : List Link) (e : ℕ) → slice_get links e ≡ Some End → IsTold links e (Some e)
told_end links e h = record {
  leads = λ z s. subst (λ x. EndsAt links e x) (same_Some e z s) (itself h);
  told = λ z d. ends_here z d;
}
  where
    ends_here : (z : ℕ) → EndsAt links e z → Some e ≡ Some z
    ends_here z (itself i) = refl
    ends_here z (onward {next = next} i d) = absurd (cc (same_link links e End (Next next) h i))

told_stop : (links : List Link) (e : ℕ) → slice_get links e ≡ Some Stop → IsTold links e None
told_stop links e h = record {
  leads = λ z s. absurd (cc);
  told = λ z d. absurd (none_here z d);
}
  where
    none_here : (z : ℕ) → EndsAt links e z → ⊥
    none_here z (itself i) = absurd (cc (same_link links e Stop End h i))
    none_here z (onward {next = next} i d) = absurd (cc (same_link links e Stop (Next next) h i))

next_end : (links : List Link) (e next z : ℕ) → slice_get links e ≡ Some (Next next) → EndsAt links e z
    → EndsAt links next z
next_end links e next z h (itself i) = absurd (cc (same_link links e (Next next) End h i))
next_end links e next z h (onward {next = other} i d) =
    subst (λ x. EndsAt links x z) (other_is (same_link links e (Next other) (Next next) i h)) d
  where
    other_is : Next other ≡ Next next → other ≡ next
    other_is s = cc

told_next : (links : List Link) (e next : ℕ) (end : Option ℕ) → slice_get links e ≡ Some (Next next)
    → IsTold links next end → IsTold links e end
told_next links e next end h t = record {
  leads = λ z s. onward h (t.leads z s);
  told = λ z d. t.told z (next_end links e next z h d);
}

told_none : (links : List Link) (e : ℕ) → ((z : ℕ) → EndsAt links e z → ⊥) → IsTold links e None
told_none links e not = record { leads = λ z s. absurd (cc); told = λ z d. absurd (not z d) }

-- an end stands in the list
end_within : (links : List Link) (e z : ℕ) → EndsAt links e z → e < length links
end_within links e z (itself h) = slice_get_within links e End h
end_within links e z (onward {next = next} h d) = slice_get_within links e (Next next) h

module _ (links : List Link) (order : List ℕ) (w : IsFinishing (link_lists links) order) (place e : ℕ)
    (at : slice_get order place ≡ Some e) (ends : List (Option ℕ)) (t : ToldBefore links order place ends) where
  -- what is known of the next element
  of_next : (next : ℕ) → slice_get links e ≡ Some (Next next) → (o : Option (Option ℕ)) → slice_get ends next ≡ o
      → IsTold links e (option_and_then (λ end. end) o)
  of_next next h None none =
      told_none links e (λ z d.
      let i = end_within links next z (next_end links e next z h d) in
      let s = t.size in
      not_there ends next (omega arith) none)
    where
      not_there : (xs : List (Option ℕ)) (k : ℕ) → k < length xs → slice_get xs k ≡ None → ⊥
      not_there [] k less g = omega arith
      not_there (x ∷ xs) zero less g = absurd (cc)
      not_there (x ∷ xs) (suc k) less g = not_there xs k (omega arith) g
  of_next next h (Some end) known = by (cases_lt stood.0 place)
    where
      inside : next < length links
      inside = let i = slice_get_within ends next end known in let s = t.size in omega arith

      stood : (k : ℕ) × (slice_get order k ≡ Some next)
      stood = w.every next (let i = inside in let l = length-map links link_targets in omega arith)

      by : (stood.0 < place) ⊎ (place ≤ stood.0) → IsTold links e end
      by (inl less) = told_next links e next end h (t.before stood.0 next end less stood.1 known)
      by (inr more) =
          let none : None ≡ end = same_there ends next None end (t.others stood.0 next more stood.1) known in
          let back = leads_back (link_lists links) order w place e at next (at_once (next_leads links e next h inside))
          stood.0 stood.1 more in
          subst (λ x. IsTold links e x) none (told_none links e (λ z d. no_end links e z back d))

  told_link : (link : Link) → slice_get links e ≡ Some link → IsTold links e (end_now link e ends)
  told_link End h = told_end links e h
  told_link (Next next) h = of_next next h (slice_get ends next) refl
  told_link Stop h = told_stop links e h

  pub one_told : (link : Link) → slice_get links e ≡ Some link
      → ToldBefore links order (place + 1) (set ends e (end_now link e ends))
  one_told link h = record {
    size = length-set ends e (end_now link e ends) ∙ t.size;
    before = λ k f end less there known. before k f end less there known (cases_lt k place);
    others = λ k f low there. others k f low there;
  }
    where
      here : slice_get (set ends e (end_now link e ends)) e ≡ Some (end_now link e ends)
      here =
          get_same ends e (end_now link e ends)
          (let i = slice_get_within links e link h in let s = t.size in omega arith)

      apart : (k f : ℕ) → slice_get order k ≡ Some f → (k ≡ place → ⊥)
          → slice_get (set ends e (end_now link e ends)) f ≡ slice_get ends f
      apart k f there other =
          get_other ends e f (end_now link e ends)
          (λ s. other (w.once k place e (subst (λ x. slice_get order k ≡ Some x) s there) at))

      others : (k f : ℕ) → place + 1 ≤ k → slice_get order k ≡ Some f
          → slice_get (set ends e (end_now link e ends)) f ≡ Some None
      others k f low there = apart k f there (λ s. omega arith) ∙ t.others k f (omega arith) there

      before : (k f : ℕ) (end : Option ℕ) → k < place + 1 → slice_get order k ≡ Some f
          → slice_get (set ends e (end_now link e ends)) f ≡ Some end → (k < place) ⊎ (place ≤ k)
          → IsTold links f end
      before k f end less there known (inl l) =
          t.before k f end l there (sym (apart k f there (λ s. omega arith)) ∙ known)
      before k f end less there known (inr m) =
          let same : place ≡ k = omega arith in
          let it : e ≡ f = same_there order k e f (subst (λ n. slice_get order n ≡ Some e) same at) there in
          let is : end_now link e ends ≡ end = same_there (set ends e (end_now link e ends)) e (end_now link e ends) end
          here (subst (λ x. slice_get (set ends e (end_now link e ends)) x ≡ Some end) (sym it) known) in
          subst (λ x. IsTold links x end) it (subst (λ x. IsTold links e x) is (told_link link h))

there_of : {A : Type 0} (xs : List A) (k : ℕ) → k < length xs → (x : A) × (slice_get xs k ≡ Some x)
there_of [] k h = absurd (omega arith)
there_of (x ∷ xs) zero h = (x, refl)
there_of (x ∷ xs) (suc k) h = there_of xs k (omega arith)

pub all_told : (links : List Link) (order : List ℕ) (place : ℕ) (ends : List (Option ℕ))
    → IsFinishing (link_lists links) order → length order ≤ place → ToldBefore links order place ends
    → AreEnds links ends
all_told links order place ends w all t = record {
  size = t.size;
  leads = λ e z h.
      let stood = w.every e (let i = slice_get_within ends e (Some z) h in let s = t.size in
      let l = length-map links link_targets in omega arith) in
      (t.before stood.0 e (Some z) (let i = slice_get_within order stood.0 e stood.1 in omega arith) stood.1 h).leads z
      refl;
  told = λ e z d.
      let inside = end_within links e z d in
      let stood = w.every e (let l = length-map links link_targets in omega arith) in
      let end = there_of ends e (let s = t.size in omega arith) in
      let is = (t.before stood.0 e end.0 (let i = slice_get_within order stood.0 e stood.1 in omega arith) stood.1
      end.1).told z d in
      end.1 ∙ ap Some is;
}
