-- NamedLaws: links between numbers of templates, added for one template after the other.
use Rattle.std.proofs.Common.{◌≡◌, ◌<◌, ◌≤◌, ◌+◌, ◌⊎◌, ℕ, suc, zero, List, [], ◌∷◌, Bool, true, false, Option}
use Rattle.std.proofs.Common.{Some, ap, arith, inl, inr}
use Rattle.std.proofs.Common.{length, refl, replicate, subst, sym, ◌∙◌}
use Rattle.std.specs.List.{slice_get}
use Rattle.std.specs.Prelude.{option_map}
use Rattle.std.proofs.lemmas.Bool.{cases_lt}
use Rattle.std.proofs.lemmas.List.{get_or-replicate, get_or_past, length-replicate}
use Rattle.std.proofs.lemmas.Option.{same_Some, slice_get-map, slice_get_within}
use Rattle.link_graphs.specs.Leading.{targets_of}
use Rattle.link_graphs.specs.Marking.{IsTarget}
use Rattle.link_graphs.proofs.PlaceLaws.{nothing_there, same_there}
use Rattle.reached_elements.specs.Linking.{GainsLinks, LinksAll}
use Rattle.gdmo_names.specs.ClassMembers.{names_subclasses}
use Rattle.gdmo_names.specs.FoundViews.{found_view, found_views}
use Rattle.gdmo_names.specs.LabelMeaning.{Leads}
use Rattle.gdmo_names.specs.Mentions.{Role}
use Rattle.gdmo_names.specs.Mentions.Role.{NamingAttribute, SubordinateClass}
use Rattle.gdmo_names.specs.PartTerms.{Placed, PartTerms, body_of}
use Rattle.gdmo_names.specs.declared.found.Found.{Found}
use Rattle.gdmo_types.specs.RoleTargets.{ListsNone, TellsLeads}
use Rattle.class_graphs.specs.ClassLinks.{LeadsBy, LostBy, NamesBy}
use Rattle.class_graphs.specs.NamedLinks.{AddsLinks, AreLinked, AreLinks, AreNumbersOf, ByAny, ByBefore}

-- ---- numbers that are listed

pub one_number : (views : List Placed) (number : ℕ) (x : Placed) → slice_get views number ≡ Some x →
    AreNumbersOf views (λ y. x ≡ y) (Some number ∷ [])
one_number views number x at = record {
  sound = λ n y there is. sound n y there is.0 is.1;
  whole = λ y same. (number, at ∙ ap Some same, (0, refl));
}
  where
    sound : (n : ℕ) (y : Placed) → slice_get views n ≡ Some y → (k : ℕ) →
        slice_get (Some number ∷ []) k ≡ Some (Some n) → x ≡ y
    sound n y there zero is =
        let same : number ≡ n = same_Some number n (same_Some (Some number) (Some n) is) in
        same_Some x y (sym at ∙ subst (λ m. slice_get views m ≡ Some y) (sym same) there)
    sound n y there (suc k) is = nothing_there k (Some n) is

pub role_numbers : (parts : PartTerms) (xs : List Found) (x : Placed) (role : Role) (numbers : List (Option ℕ)) →
    TellsLeads parts xs x role numbers → AreNumbersOf (found_views xs) (λ y. Leads parts x role y) numbers
role_numbers parts xs x role numbers tells = record {
  sound = λ n y at is. (tells.leads y).1 (record { place = is.0; number = n; listed = is.1; is = at });
  whole = λ y leads. let one = (tells.leads y).0 leads in (one.number, one.is, (one.place, one.listed));
}

-- what was found at a number, and where it leads in a role
pub found_at : (xs : List Found) (n : ℕ) (x : Placed) → slice_get (found_views xs) n ≡ Some x →
    (found : Found) × (slice_get xs n ≡ Some found) × (found_view found ≡ x)
found_at [] n x at = absurd (cc)
found_at (y ∷ xs) zero x at = (y, refl, same_Some (found_view y) x at)
found_at (y ∷ xs) (suc n) x at = found_at xs n x at

pub same_found : (xs : List Found) (n : ℕ) (x : Placed) (found : Found) → slice_get (found_views xs) n ≡ Some x →
    slice_get xs n ≡ Some found → found_view found ≡ x
same_found xs n x found at its_at = same_Some (found_view found) x
    (sym (slice_get-map found_view xs n ∙ ap (option_map found_view) its_at) ∙ at)

pub role_told : (parts : PartTerms) (xs : List Found) (n : ℕ) (x : Placed) (role : Role) (numbers : List (Option ℕ)) →
    slice_get (found_views xs) n ≡ Some x →
    ((found : Found) → slice_get xs n ≡ Some found → TellsLeads parts xs (found_view found) role numbers) →
    TellsLeads parts xs x role numbers
role_told parts xs n x role numbers at tells =
    let found = found_at xs n x at in
    subst (λ y. TellsLeads parts xs y role numbers) found.2 (tells found.0 found.1)

-- ---- links that are added

pub links_added : {P Q : Placed → Type 0} {views : List Placed} {elements targets : List (Option ℕ)}
    {before after : List (List ℕ)} → AreNumbersOf views P elements → AreNumbersOf views Q targets →
    GainsLinks (LinksAll elements targets) before after → AddsLinks views (λ x y. P x × Q y) before after
links_added {P} {Q} {views} {elements} {targets} {before} {after} p q gains = record {
  size = gains.size;
  kept = gains.kept;
  only = λ n k x y at its_at has. only n k x y at its_at (gains.only n k has);
  whole = λ size x y is.
      let one = p.whole x is.0 in
      let other = q.whole y is.1 in record {
        number = one.0;
        its_number = other.0;
        one_at = one.1;
        other_at = other.1;
        links = gains.added one.0 other.0 (one.2, other.2)
            (let w = slice_get_within views one.0 x one.1 in omega arith);
      };
}
  where
    only : (n k : ℕ) (x y : Placed) → slice_get views n ≡ Some x → slice_get views k ≡ Some y →
        IsTarget before n k ⊎ LinksAll elements targets n k → IsTarget before n k ⊎ (P x × Q y)
    only n k x y at its_at (inl h) = inl h
    only n k x y at its_at (inr h) = inr (p.sound n x at h.0, q.sound k y its_at h.1)

pub none_added : {views : List Placed} {lists : List (List ℕ)} (Is : Placed → Placed → Type 0) →
    ((x y : Placed) → ¬ Is x y) → AddsLinks views Is lists lists
none_added Is never = record {
  size = refl;
  kept = λ n k h. h;
  only = λ n k x y at its_at h. inl h;
  whole = λ size x y is. absurd (never x y is);
}

pub added_by : {P R : Placed → Placed → Type 0} {views : List Placed} {before after : List (List ℕ)} →
    ((x y : Placed) → P x y → R x y) → ((x y : Placed) → R x y → P x y) → AddsLinks views P before after →
    AddsLinks views R before after
added_by {P} {R} {views} {before} {after} there back m = record {
  size = m.size;
  kept = m.kept;
  only = λ n k x y at its_at has. only n k x y (m.only n k x y at its_at has);
  whole = λ size x y is. m.whole size x y (back x y is);
}
  where
    only : (n k : ℕ) (x y : Placed) → IsTarget before n k ⊎ P x y → IsTarget before n k ⊎ R x y
    only n k x y (inl h) = inl h
    only n k x y (inr h) = inr (there x y h)

-- from a template to those that it names in a role, and to itself where one isn't there
pub role_added : (parts : PartTerms) (xs : List Found) (n : ℕ) (by : Placed) (role : Role) (numbers : List (Option ℕ))
    {before after : List (List ℕ)} → slice_get (found_views xs) n ≡ Some by → TellsLeads parts xs by role numbers →
    GainsLinks (LinksAll (Some n ∷ []) numbers) before after →
    AddsLinks (found_views xs) (LeadsBy parts role by) before after
role_added parts xs n by role numbers at tells gains =
    links_added (one_number (found_views xs) n by at) (role_numbers parts xs by role numbers tells) gains

pub itself_added : {P : Type 0} (views : List Placed) (n : ℕ) (by : Placed) {before after : List (List ℕ)} →
    slice_get views n ≡ Some by → P → GainsLinks (LinksAll (Some n ∷ []) (Some n ∷ [])) before after →
    AddsLinks views (λ x y. (by ≡ x) × (by ≡ y) × P) before after
itself_added views n by at p gains = added_by (λ x y h. (h.0, h.1, p)) (λ x y h. (h.0, h.1))
    (links_added (one_number views n by at) (one_number views n by at) gains)

pub nothing_lost : {P : Type 0} (views : List Placed) (by : Placed) (lists : List (List ℕ)) → ¬ P →
    AddsLinks views (λ x y. (by ≡ x) × (by ≡ y) × P) lists lists
nothing_lost {P} views by lists never =
    none_added (λ x y. (by ≡ x) × (by ≡ y) × P) (λ x y h. never h.2)

pub lost_added : (parts : PartTerms) (xs : List Found) (by : Placed) (role : Role) (numbers : List (Option ℕ))
    {before after : List (List ℕ)} → TellsLeads parts xs by role numbers →
    AddsLinks (found_views xs) (λ x y. (by ≡ x) × (by ≡ y) × ListsNone numbers) before after →
    AddsLinks (found_views xs) (LostBy parts role by) before after
lost_added parts xs by role numbers tells m =
    added_by (λ x y h. (h.0, h.1, tells.nowhere.1 h.2)) (λ x y h. (h.0, h.1, tells.nowhere.0 h.2)) m

-- from the subordinate class of a name binding to its attribute
no_flag : {P : Type 0} → false ≡ true → P
no_flag e = absurd (cc)

pub classes_added : (parts : PartTerms) (xs : List Found) (by : Placed) (classes attributes : List (Option ℕ))
    {before after : List (List ℕ)} → TellsLeads parts xs by SubordinateClass classes →
    TellsLeads parts xs by NamingAttribute attributes → GainsLinks (LinksAll classes attributes) before after →
    AddsLinks (found_views xs) (NamesBy parts false by) before after
classes_added parts xs by classes attributes one other gains = added_by
    (λ x y h. record { below_too = λ e. no_flag e; subordinate = h.0; naming = h.1 })
    (λ x y h. (h.subordinate, h.naming))
    (links_added (role_numbers parts xs by SubordinateClass classes one)
    (role_numbers parts xs by NamingAttribute attributes other) gains)

pub wanted_added : (parts : PartTerms) (views : List Placed) (by : Placed) (flag : Bool)
    {before after : List (List ℕ)} → (flag ≡ true → names_subclasses (body_of by.template) ≡ true) →
    AddsLinks views (NamesBy parts false by) before after → AddsLinks views (NamesBy parts flag by) before after
wanted_added parts views by flag wanted m = added_by
    (λ x y h. record { below_too = wanted; subordinate = h.subordinate; naming = h.naming })
    (λ x y h. record { below_too = λ e. no_flag e; subordinate = h.subordinate; naming = h.naming }) m

pub unwanted_added : (parts : PartTerms) (views : List Placed) (by : Placed) (flag : Bool) (lists : List (List ℕ)) →
    ¬ (flag ≡ true → names_subclasses (body_of by.template) ≡ true) →
    AddsLinks views (NamesBy parts flag by) lists lists
unwanted_added parts views by flag lists never = none_added (NamesBy parts flag by) (λ x y h. never h.below_too)

-- ---- links that there are

pub none_linked : {P : Type 0} (count n k : ℕ) → IsTarget (replicate count []) n k → P
none_linked count n k has =
    nothing_there has.0 k (subst (λ xs. slice_get xs has.0 ≡ Some k) (by (cases_lt n count)) has.1)
  where
    by : (n < count) ⊎ (count ≤ n) → targets_of (replicate count []) n ≡ []
    by (inl h) = get_or-replicate count n [] [] h
    by (inr h) = get_or_past (replicate count []) n []
        (let l = length-replicate {A = List ℕ} count [] in omega arith)

pub links_none : (views : List Placed) (lists : List (List ℕ)) (count : ℕ) (Is : Placed → Placed → Type 0) →
    lists ≡ replicate count [] → count ≡ length views → ((x y : Placed) → ¬ Is x y) → AreLinks views Is lists
links_none views lists count Is are is_count never = record {
  size = ap length are ∙ length-replicate count [] ∙ is_count;
  sound = λ n k x y at its_at has. none_linked count n k (subst (λ xs. IsTarget xs n k) are has);
  whole = λ x y is. absurd (never x y is);
}

pub links_more : {P Q R : Placed → Placed → Type 0} {views : List Placed} {before after : List (List ℕ)} →
    ((x y : Placed) → R x y → P x y ⊎ Q x y) → ((x y : Placed) → P x y → R x y) → ((x y : Placed) → Q x y → R x y) →
    AreLinks views P before → AddsLinks views Q before after → AreLinks views R after
links_more {P} {Q} {R} {views} {before} {after} all one two are m = record {
  size = m.size ∙ are.size;
  sound = λ n k x y at its_at has. sound n k x y at its_at (m.only n k x y at its_at has);
  whole = λ x y is. whole x y (all x y is);
}
  where
    sound : (n k : ℕ) (x y : Placed) → slice_get views n ≡ Some x → slice_get views k ≡ Some y →
        IsTarget before n k ⊎ Q x y → R x y
    sound n k x y at its_at (inl h) = one x y (are.sound n k x y at its_at h)
    sound n k x y at its_at (inr h) = two x y h

    whole : (x y : Placed) → P x y ⊎ Q x y → AreLinked views after x y
    whole x y (inl h) = let l = are.whole x y h in record {
      number = l.number;
      its_number = l.its_number;
      one_at = l.one_at;
      other_at = l.other_at;
      links = m.kept l.number l.its_number l.links;
    }
    whole x y (inr h) = m.whole are.size x y h

pub links_by : {P R : Placed → Placed → Type 0} {views : List Placed} {lists : List (List ℕ)} →
    ((x y : Placed) → P x y → R x y) → ((x y : Placed) → R x y → P x y) → AreLinks views P lists →
    AreLinks views R lists
links_by there back are = record {
  size = are.size;
  sound = λ n k x y at its_at has. there x y (are.sound n k x y at its_at has);
  whole = λ x y is. are.whole x y (back x y is);
}

-- ---- one element after the other

pub before_none : {B : Type 0} (bs : List B) (Is : B → Placed → Placed → Type 0) (x y : Placed) →
    ¬ ByBefore bs Is 0 x y
before_none bs Is x y h = let w = h.within in absurd (omega arith)

before_or_it : {B : Type 0} (bs : List B) (Is : B → Placed → Placed → Type 0) (end : ℕ) (b : B) →
    slice_get bs end ≡ Some b → (x y : Placed) → ByBefore bs Is (end + 1) x y → ByBefore bs Is end x y ⊎ Is b x y
before_or_it bs Is end b at x y h = by (cases_lt h.place end)
  where
    by : (h.place < end) ⊎ (end ≤ h.place) → ByBefore bs Is end x y ⊎ Is b x y
    by (inl i) = inl (record { place = h.place; by = h.by; within = i; at = h.at; is = h.is })
    by (inr i) =
        let same : h.place ≡ end = (let w = h.within in omega arith) in
        inr (subst (λ c. Is c x y)
        (same_there bs end h.by b (subst (λ k. slice_get bs k ≡ Some h.by) same h.at) at) h.is)

still_before : {B : Type 0} (bs : List B) (Is : B → Placed → Placed → Type 0) (end : ℕ) (x y : Placed) →
    ByBefore bs Is end x y → ByBefore bs Is (end + 1) x y
still_before bs Is end x y h =
    record { place = h.place; by = h.by; within = (let w = h.within in omega arith); at = h.at; is = h.is }

pub links_step : {B : Type 0} {bs : List B} {Is : B → Placed → Placed → Type 0} {views : List Placed}
    {before after : List (List ℕ)} (end : ℕ) (b : B) → slice_get bs end ≡ Some b →
    AreLinks views (ByBefore bs Is end) before → AddsLinks views (Is b) before after →
    AreLinks views (ByBefore bs Is (end + 1)) after
links_step {bs = bs} {Is = Is} end b at are m = links_more (before_or_it bs Is end b at) (still_before bs Is end)
    (λ x y h. record { place = end; by = b; within = omega arith; at = at; is = h }) are m

by_any : {B : Type 0} (bs : List B) (Is : B → Placed → Placed → Type 0) (end : ℕ) (x y : Placed) →
    ByBefore bs Is end x y → ByAny bs Is x y
by_any bs Is end x y h = record { place = h.place; by = h.by; at = h.at; is = h.is }

by_before : {B : Type 0} (bs : List B) (Is : B → Placed → Placed → Type 0) (end : ℕ) → length bs ≤ end →
    (x y : Placed) → ByAny bs Is x y → ByBefore bs Is end x y
by_before bs Is end past x y h = record {
  place = h.place;
  by = h.by;
  within = (let w = slice_get_within bs h.place h.by h.at in omega arith);
  at = h.at;
  is = h.is;
}

pub links_all : {B : Type 0} {bs : List B} {Is : B → Placed → Placed → Type 0} {views : List Placed}
    {lists : List (List ℕ)} (end : ℕ) → length bs ≤ end → AreLinks views (ByBefore bs Is end) lists →
    AreLinks views (ByAny bs Is) lists
links_all {bs = bs} {Is = Is} end past are = links_by (by_any bs Is end) (by_before bs Is end past) are

-- the same beside links that there were
pub beside_none : {B : Type 0} {P : Placed → Placed → Type 0} {views : List Placed} {lists : List (List ℕ)}
    (bs : List B) (Is : B → Placed → Placed → Type 0) → AreLinks views P lists →
    AreLinks views (λ x y. P x y ⊎ ByBefore bs Is 0 x y) lists
beside_none {B} {P} {views} {lists} bs Is are = links_by (λ x y h. inl h) back are
  where
    back : (x y : Placed) → P x y ⊎ ByBefore bs Is 0 x y → P x y
    back x y (inl h) = h
    back x y (inr h) = absurd (before_none bs Is x y h)

pub beside_step : {B : Type 0} {P : Placed → Placed → Type 0} {bs : List B} {Is : B → Placed → Placed → Type 0}
    {views : List Placed} {before after : List (List ℕ)} (end : ℕ) (b : B) → slice_get bs end ≡ Some b →
    AreLinks views (λ x y. P x y ⊎ ByBefore bs Is end x y) before → AddsLinks views (Is b) before after →
    AreLinks views (λ x y. P x y ⊎ ByBefore bs Is (end + 1) x y) after
beside_step {B} {P} {bs} {Is} end b at are m = links_more all one
    (λ x y h. inr (record { place = end; by = b; within = omega arith; at = at; is = h })) are m
  where
    parted : (x y : Placed) → ByBefore bs Is end x y ⊎ Is b x y → (P x y ⊎ ByBefore bs Is end x y) ⊎ Is b x y
    parted x y (inl h) = inl (inr h)
    parted x y (inr h) = inr h

    all : (x y : Placed) → P x y ⊎ ByBefore bs Is (end + 1) x y → (P x y ⊎ ByBefore bs Is end x y) ⊎ Is b x y
    all x y (inl h) = inl (inl h)
    all x y (inr h) = parted x y (before_or_it bs Is end b at x y h)

    one : (x y : Placed) → P x y ⊎ ByBefore bs Is end x y → P x y ⊎ ByBefore bs Is (end + 1) x y
    one x y (inl h) = inl h
    one x y (inr h) = inr (still_before bs Is end x y h)

pub beside_all : {B : Type 0} {P : Placed → Placed → Type 0} {bs : List B} {Is : B → Placed → Placed → Type 0}
    {views : List Placed} {lists : List (List ℕ)} (end : ℕ) → length bs ≤ end →
    AreLinks views (λ x y. P x y ⊎ ByBefore bs Is end x y) lists →
    AreLinks views (λ x y. P x y ⊎ ByAny bs Is x y) lists
beside_all {B} {P} {bs} {Is} end past are = links_by there back are
  where
    there : (x y : Placed) → P x y ⊎ ByBefore bs Is end x y → P x y ⊎ ByAny bs Is x y
    there x y (inl h) = inl h
    there x y (inr h) = inr (by_any bs Is end x y h)

    back : (x y : Placed) → P x y ⊎ ByAny bs Is x y → P x y ⊎ ByBefore bs Is end x y
    back x y (inl h) = inl h
    back x y (inr h) = inr (by_before bs Is end past x y h)
