-- RoleLaws: the numbers of the templates that a template names in a role, and where it leads.
use Rattle.std.specs.Prelude.{◌≡◌, ◌≢◌, ◌<◌, ◌≤◌, ◌⊎◌, ℕ, zero, suc, List, [], ◌∷◌, ◌++◌, Option, None, Some}
use Rattle.std.specs.Prelude.{Contains, ◌+◌, drop, length, option_map, refl, slice_get, take}
use Rattle.std.proofs.Common.{ap, arith, inl, inr, sym, subst, ◌∙◌}
use Rattle.std.proofs.lemmas.List.{drop_more, take_all}
use Rattle.std.proofs.lemmas.Option.{get_or_from_slice_get, same_Some, slice_get-map, slice_get_past}
use Rattle.std.proofs.lemmas.Option.{slice_get_within}
use Rattle.std.specs.declared.alloc.Global.{Global}
use Rattle.std.specs.declared.vec.Vec.{Vec}
use Rattle.gdmo_names.specs.FoundViews.{found_term, found_view, found_views}
use Rattle.gdmo_names.specs.InStep.{AreEach}
use Rattle.gdmo_names.specs.LabelMeaning.{Leads, LeadsNowhere, Means}
use Rattle.gdmo_names.specs.Mentions.{Role, Mention, mention, template_mentions}
use Rattle.gdmo_names.specs.PartTerms.{Placed, PartTerms}
use Rattle.gdmo_names.specs.Roles.{role_term}
use Rattle.gdmo_names.specs.TargetTables.{AreFound, AreTargets, HasMentions, IsMention, TellsMention, TellsTargets}
use Rattle.gdmo_names.specs.declared.found.Found.{Found}
use Rattle.gdmo_names.specs.declared.found.Mention.{Mention as FoundMention}
use Rattle.gdmo_types.specs.RoleTargets.{AreInRole, AreRoleTargets, IsFirst, Lists, ListsNone, MeansNumber}
use Rattle.gdmo_types.specs.RoleTargets.{TellsLeads}
use Rattle.gdmo_types.specs.RoleTargets.IsFirst.{here, later, nowhere}
use Rattle.gdmo_types.specs.RoleTargets.AreInRole.{no_more, one, other}
use Rattle.gdmo_types.proofs.StepLaws.{beside, contained_get, get_contained, pair_at, same_number, taken, there}

-- ---- a mention more

pub role_pushed : {Is : Mention → Option ℕ → Type 0} {role : Role} {xs : List Mention} {numbers : List (Option ℕ)}
    {x : Mention} {n : Option ℕ} → AreInRole Is role xs numbers → x.role ≡ role → Is x n →
    AreInRole Is role (xs ++ x ∷ []) (numbers ++ n ∷ [])
role_pushed no_more same is = one same is no_more
role_pushed (one its fact rest) same is = one its fact (role_pushed rest same is)
role_pushed (other its rest) same is = other its (role_pushed rest same is)

pub role_left : {Is : Mention → Option ℕ → Type 0} {role : Role} {xs : List Mention} {numbers : List (Option ℕ)}
    (x : Mention) → AreInRole Is role xs numbers → x.role ≢ role → AreInRole Is role (xs ++ x ∷ []) numbers
role_left x no_more not_same = other not_same no_more
role_left x (one its fact rest) not_same = one its fact (role_left x rest not_same)
role_left x (other its rest) not_same = other its (role_left x rest not_same)

-- ---- each mention in the role is listed, and each that is listed is one

pub listed_of : {Is : Mention → Option ℕ → Type 0} {role : Role} {xs : List Mention} {numbers : List (Option ℕ)} →
    AreInRole Is role xs numbers → (k : ℕ) (x : Mention) → slice_get xs k ≡ Some x → x.role ≡ role →
    (j : ℕ) × (n : Option ℕ) × (slice_get numbers j ≡ Some n) × Is x n
listed_of no_more k x at same = absurd (cc)
listed_of {Is = Is} (one {x = y} {n = n} its fact rest) zero x at same =
    (0, n, refl, subst (λ z. Is z n) (same_Some y x at) fact)
listed_of (one its fact rest) (suc k) x at same =
    let found = listed_of rest k x at same in (suc found.0, found.1, found.2, found.3)
listed_of {role = role} (other {x = y} its rest) zero x at same =
    absurd (its (ap (λ (z : Mention). z.role) (same_Some y x at) ∙ same))
listed_of (other its rest) (suc k) x at same = listed_of rest k x at same

pub mention_of : {Is : Mention → Option ℕ → Type 0} {role : Role} {xs : List Mention} {numbers : List (Option ℕ)} →
    AreInRole Is role xs numbers → (j : ℕ) (n : Option ℕ) → slice_get numbers j ≡ Some n →
    (x : Mention) × Contains xs x × (x.role ≡ role) × Is x n
mention_of no_more j n at = absurd (cc)
mention_of {Is = Is} (one {x = x} {xs = xs} {n = m} its fact rest) zero n at =
    (x, get_contained (x ∷ xs) 0 x refl, its, subst (Is x) (same_Some m n at) fact)
mention_of (one {x = x} {xs = xs} its fact rest) (suc j) n at =
    let found = mention_of rest j n at in
    let place = contained_get xs found.0 found.1 in
    (found.0, get_contained (x ∷ xs) (suc place.0) found.0 place.1, found.2, found.3)
mention_of (other {x = x} {xs = xs} its rest) j n at =
    let found = mention_of rest j n at in
    let place = contained_get xs found.0 found.1 in
    (found.0, get_contained (x ∷ xs) (suc place.0) found.0 place.1, found.2, found.3)

behind : {X : Type 0} (x : X) (xs : List X) (y : X) → Contains xs y → Contains (x ∷ xs) y
behind x xs y has = let place = contained_get xs y has in get_contained (x ∷ xs) (suc place.0) y place.1

-- ---- where a template leads

pub one_meant : (parts : PartTerms) (document : ℕ) (role : Role) (x : _) (a b : Placed) →
    Means parts document role x a → Means parts document role x b → a ≡ b
one_meant parts document role x a b is also = same_Some a b (sym is.is_target ∙ also.is_target)

leads_listed : (parts : PartTerms) (xs : List Found) (x : Found) (role : Role) (numbers : List (Option ℕ)) →
    AreRoleTargets parts xs x role numbers → (to : Placed) → Leads parts (found_view x) role to → Lists xs numbers to
leads_listed parts xs x role numbers are to leads =
    let place = contained_get (template_mentions (found_term x)) (mention role leads.reference) leads.names in
    let found = listed_of are place.0 (mention role leads.reference) place.1 refl in by found.0 found.1 found.2 found.3
  where
    by : (j : ℕ) (n : Option ℕ) → slice_get numbers j ≡ Some n →
        MeansNumber parts xs x.document (mention role leads.reference) n → Lists xs numbers to
    by j None at lost = absurd (lost to leads.means)
    by j (Some n) at meant = record {
      place = j;
      number = n;
      listed = at;
      is = meant.1 ∙ ap Some (one_meant parts x.document role leads.reference meant.0 to meant.2 leads.means);
    }

listed_leads : (parts : PartTerms) (xs : List Found) (x : Found) (role : Role) (numbers : List (Option ℕ)) →
    AreRoleTargets parts xs x role numbers → (to : Placed) → Lists xs numbers to → Leads parts (found_view x) role to
listed_leads parts xs x role numbers are to lists =
    let found = mention_of are lists.place (Some lists.number) lists.listed in
    let meant = found.3 in record {
      reference = found.0.reference;
      names = subst (λ r. Contains (template_mentions (found_term x)) (mention r found.0.reference)) found.2 found.1;
      means = subst (λ y. Means parts x.document role found.0.reference y)
          (same_Some meant.0 to (sym meant.1 ∙ lists.is))
          (subst (λ r. Means parts x.document r found.0.reference meant.0) found.2 meant.2);
    }

nowhere_listed : (parts : PartTerms) (xs : List Found) (x : Found) (role : Role) (numbers : List (Option ℕ)) →
    AreRoleTargets parts xs x role numbers → LeadsNowhere parts (found_view x) role → ListsNone numbers
nowhere_listed parts xs x role numbers are leads =
    let place = contained_get (template_mentions (found_term x)) (mention role leads.reference) leads.names in
    let found = listed_of are place.0 (mention role leads.reference) place.1 refl in by found.0 found.1 found.2 found.3
  where
    by : (j : ℕ) (n : Option ℕ) → slice_get numbers j ≡ Some n →
        MeansNumber parts xs x.document (mention role leads.reference) n → ListsNone numbers
    by j None at lost = (j, at)
    by j (Some n) at meant = absurd (leads.lost meant.0 meant.2)

listed_nowhere : (parts : PartTerms) (xs : List Found) (x : Found) (role : Role) (numbers : List (Option ℕ)) →
    AreRoleTargets parts xs x role numbers → ListsNone numbers → LeadsNowhere parts (found_view x) role
listed_nowhere parts xs x role numbers are lists =
    let found = mention_of are lists.0 None lists.1 in record {
      reference = found.0.reference;
      names = subst (λ r. Contains (template_mentions (found_term x)) (mention r found.0.reference)) found.2 found.1;
      lost = subst (λ r. (to : Placed) → ¬ Means parts x.document r found.0.reference to) found.2 found.3;
    }

-- a template leads in a role to those whose numbers are listed, and nowhere where one is none
pub tells_leads : (parts : PartTerms) (xs : List Found) (x : Found) (role : Role) (numbers : List (Option ℕ)) →
    AreRoleTargets parts xs x role numbers → TellsLeads parts xs (found_view x) role numbers
tells_leads parts xs x role numbers are = record {
  leads = λ to. (leads_listed parts xs x role numbers are to, listed_leads parts xs x role numbers are to);
  nowhere = (nowhere_listed parts xs x role numbers are, listed_nowhere parts xs x role numbers are);
}

-- ---- the number of a mention

none_some : {X : Type 0} (x : X) → None ≡ Some x → ⊥
none_some x h = absurd (cc)

pub none_meant : (parts : PartTerms) (xs : List Found) (document : ℕ) (x : Mention) →
    TellsMention parts xs document x None → MeansNumber parts xs document x None
none_meant parts xs document x tells = λ to means. none_some to ((tells to).1 means)

pub past_meant : (parts : PartTerms) (xs : List Found) (document : ℕ) (x : Mention) (n : ℕ) → length xs ≤ n →
    TellsMention parts xs document x (Some n) → MeansNumber parts xs document x None
past_meant parts xs document x n past tells = λ to means. none_some to
    (sym (slice_get-map found_view xs n ∙ ap (option_map found_view) (slice_get_past xs n past)) ∙ (tells to).1 means)

pub number_meant : (parts : PartTerms) (xs : List Found) (document : ℕ) (x : Mention) (n : ℕ) → n < length xs →
    TellsMention parts xs document x (Some n) → MeansNumber parts xs document x (Some n)
number_meant parts xs document x n within tells =
    let found = there xs n within in
    let at : slice_get (found_views xs) n ≡ Some (found_view found.0) =
    slice_get-map found_view xs n ∙ ap (option_map found_view) found.1 in
    (found_view found.0, at, (tells (found_view found.0)).0 at)

-- ---- the first mention in a role

-- whatever is the first from a place on is the first of all
abbrev pub FirstFrom : (Mention → Option ℕ → Type 0) → Role → List Mention → ℕ → Type 0
FirstFrom Is role xs k = (n : Option ℕ) → IsFirst Is role (drop k xs) n → IsFirst Is role xs n

dropped : {X : Type 0} (xs : List X) (k : ℕ) (x : X) → slice_get xs k ≡ Some x → drop k xs ≡ x ∷ drop (k + 1) xs
dropped xs k x at = drop_more xs k x (slice_get_within xs k x at) ∙
    ap (λ z. z ∷ drop (k + 1) xs) (get_or_from_slice_get xs k x x at)

pub first_on : (Is : Mention → Option ℕ → Type 0) (role : Role) (xs : List Mention) (k : ℕ) (x : Mention) →
    slice_get xs k ≡ Some x → x.role ≢ role → FirstFrom Is role xs k → FirstFrom Is role xs (k + 1)
first_on Is role xs k x at not_same so_far = λ n first.
    so_far n (subst (λ ys. IsFirst Is role ys n) (sym (dropped xs k x at)) (later not_same first))

pub first_here : (Is : Mention → Option ℕ → Type 0) (role : Role) (xs : List Mention) (k : ℕ) (x : Mention)
    (n : Option ℕ) → slice_get xs k ≡ Some x → x.role ≡ role → Is x n → FirstFrom Is role xs k → IsFirst Is role xs n
first_here Is role xs k x n at same is so_far =
    so_far n (subst (λ ys. IsFirst Is role ys n) (sym (dropped xs k x at)) (here same is))

pub first_nowhere : (Is : Mention → Option ℕ → Type 0) (role : Role) (xs : List Mention) (k : ℕ) → length xs ≤ k →
    FirstFrom Is role xs k → IsFirst Is role xs None
first_nowhere Is role xs k past so_far =
    so_far None (subst (λ ys. IsFirst Is role ys None) (sym (gone xs k past)) nowhere)
  where
    gone : (ys : List Mention) (j : ℕ) → length ys ≤ j → drop j ys ≡ []
    gone [] zero h = refl
    gone [] (suc j) h = refl
    gone (y ∷ ys) zero h = absurd (omega (arith, h))
    gone (y ∷ ys) (suc j) h = gone ys j (omega (arith, h))

-- some mention in the role has the first number, where there is one
pub first_is : {Is : Mention → Option ℕ → Type 0} {role : Role} {xs : List Mention} {n : Option ℕ} →
    IsFirst Is role xs n → (n ≡ None) ⊎ ((y : Mention) × Contains xs y × (y.role ≡ role) × Is y n)
first_is nowhere = inl refl
first_is (here {x = x} {xs = xs} same is) = inr (x, get_contained (x ∷ xs) 0 x refl, same, is)
first_is {Is = Is} {role = role} (later {x = x} {xs = xs} {n = n} its rest) =
    elim (first_is rest) as
    (λ _. (n ≡ None) ⊎ ((y : Mention) × Contains (x ∷ xs) y × (y.role ≡ role) × Is y n)) [
      | inl gone ↦ inl gone
      | inr found ↦ inr (found.0, behind x xs found.0 found.1, found.2, found.3)
    ]

pub first_mention : {Is : Mention → Option ℕ → Type 0} {role : Role} {xs : List Mention} {n : Option ℕ} →
    IsFirst Is role xs n → (k : ℕ) (x : Mention) → slice_get xs k ≡ Some x → x.role ≡ role →
    (y : Mention) × Contains xs y × (y.role ≡ role) × Is y n
first_mention nowhere k x at same = absurd (cc)
first_mention (here {x = y} {xs = xs} its is) k x at same = (y, get_contained (y ∷ xs) 0 y refl, its, is)
first_mention (later {x = y} its rest) zero x at same =
    absurd (its (ap (λ (z : Mention). z.role) (same_Some y x at) ∙ same))
first_mention (later {x = y} {xs = xs} its rest) (suc k) x at same =
    let found = first_mention rest k x at same in (found.0, behind y xs found.0 found.1, found.2, found.3)

-- ---- loops over the mentions of a template

-- the numbers of the first k mentions
abbrev pub InRoleSoFar : PartTerms → List Found → ℕ → Role → List FoundMention → List (Option ℕ) → ℕ →
    List (Option ℕ) → Type 0
InRoleSoFar parts xs document role found numbers k own = (terms : List Mention) →
    AreEach (IsMention xs document) found terms → AreEach (TellsMention parts xs document) terms numbers →
    AreInRole (MeansNumber parts xs document) role (take k terms) own

-- a step keeps or leaves out the number of a mention
abbrev pub KeepsNumber : PartTerms → List Found → ℕ → Role → FoundMention → Option ℕ → List (Option ℕ) →
    List (Option ℕ) → Type 0
KeepsNumber parts xs document role found number own after = (so_far : List Mention) (x : Mention) →
    IsMention xs document found x → TellsMention parts xs document x number →
    AreInRole (MeansNumber parts xs document) role so_far own →
    AreInRole (MeansNumber parts xs document) role (so_far ++ x ∷ []) after

pub role_begun : (parts : PartTerms) (xs : List Found) (document : ℕ) (role : Role) (found : List FoundMention)
    (numbers own : List (Option ℕ)) → own ≡ [] → InRoleSoFar parts xs document role found numbers 0 own
role_begun parts xs document role found numbers own empty = λ terms are tell.
    subst (AreInRole (MeansNumber parts xs document) role []) (sym empty) no_more

pub role_step : (parts : PartTerms) (xs : List Found) (document : ℕ) (role : Role) (found : List FoundMention)
    (numbers : List (Option ℕ)) (k : ℕ) (m : FoundMention) (number : Option ℕ) (own after : List (Option ℕ)) →
    slice_get found k ≡ Some m → ((n : Option ℕ) → slice_get numbers k ≡ Some n → number ≡ n) →
    InRoleSoFar parts xs document role found numbers k own →
    KeepsNumber parts xs document role m number own after →
    InRoleSoFar parts xs document role found numbers (k + 1) after
role_step parts xs document role found numbers k m number own after at held so_far keeps = λ terms are tell.
    let term = beside (IsMention xs document) found terms k m are at in
    let told = beside (TellsMention parts xs document) terms numbers k term.0 tell term.1 in
    subst (λ ys. AreInRole (MeansNumber parts xs document) role ys after) (sym (taken terms k term.0 term.1))
    (keeps (take k terms) term.0 term.2
    (subst (TellsMention parts xs document term.0) (sym (held told.0 told.1)) told.2) (so_far terms are tell))

pub role_end : (parts : PartTerms) (xs : List Found) (document : ℕ) (role : Role) (found : List FoundMention)
    (numbers : List (Option ℕ)) (k : ℕ) (own : List (Option ℕ)) → length found ≤ k →
    InRoleSoFar parts xs document role found numbers k own → (terms : List Mention) →
    AreEach (IsMention xs document) found terms → AreEach (TellsMention parts xs document) terms numbers →
    AreInRole (MeansNumber parts xs document) role terms own
role_end parts xs document role found numbers k own past so_far terms are tell =
    let same = same_number (IsMention xs document) found terms are in
    subst (λ ys. AreInRole (MeansNumber parts xs document) role ys own)
    (take_all k terms (omega (arith, past, same))) (so_far terms are tell)

-- none of the first k mentions is in the role
abbrev pub NoneSoFar : PartTerms → List Found → ℕ → Role → List FoundMention → List (Option ℕ) → ℕ → Type 0
NoneSoFar parts xs document role found numbers k = (terms : List Mention) →
    AreEach (IsMention xs document) found terms → AreEach (TellsMention parts xs document) terms numbers →
    FirstFrom (MeansNumber parts xs document) role terms k

pub none_begun : (parts : PartTerms) (xs : List Found) (document : ℕ) (role : Role) (found : List FoundMention)
    (numbers : List (Option ℕ)) → NoneSoFar parts xs document role found numbers 0
none_begun parts xs document role found numbers = λ terms are tell n first. first

pub none_step : (parts : PartTerms) (xs : List Found) (document : ℕ) (role : Role) (found : List FoundMention)
    (numbers : List (Option ℕ)) (k : ℕ) (m : FoundMention) → slice_get found k ≡ Some m →
    role_term m.role ≢ role → NoneSoFar parts xs document role found numbers k →
    NoneSoFar parts xs document role found numbers (k + 1)
none_step parts xs document role found numbers k m at not_same so_far = λ terms are tell.
    let term = beside (IsMention xs document) found terms k m are at in
    first_on (MeansNumber parts xs document) role terms k term.0 term.1 (λ same. not_same (term.2.in_role ∙ same))
    (so_far terms are tell)

pub first_of_all : (parts : PartTerms) (xs : List Found) (document : ℕ) (role : Role) (found : List FoundMention)
    (numbers : List (Option ℕ)) (k : ℕ) (m : FoundMention) (number result : Option ℕ) → slice_get found k ≡ Some m →
    role_term m.role ≡ role → ((n : Option ℕ) → slice_get numbers k ≡ Some n → number ≡ n) →
    ((x : Mention) → TellsMention parts xs document x number → MeansNumber parts xs document x result) →
    NoneSoFar parts xs document role found numbers k → (terms : List Mention) →
    AreEach (IsMention xs document) found terms → AreEach (TellsMention parts xs document) terms numbers →
    IsFirst (MeansNumber parts xs document) role terms result
first_of_all parts xs document role found numbers k m number result at same held means so_far terms are tell =
    let term = beside (IsMention xs document) found terms k m are at in
    let told = beside (TellsMention parts xs document) terms numbers k term.0 tell term.1 in
    first_here (MeansNumber parts xs document) role terms k term.0 result term.1 (sym term.2.in_role ∙ same)
    (means term.0 (subst (TellsMention parts xs document term.0) (sym (held told.0 told.1)) told.2))
    (so_far terms are tell)

pub first_end : (parts : PartTerms) (xs : List Found) (document : ℕ) (role : Role) (found : List FoundMention)
    (numbers : List (Option ℕ)) (k : ℕ) → length found ≤ k → NoneSoFar parts xs document role found numbers k →
    (terms : List Mention) → AreEach (IsMention xs document) found terms →
    AreEach (TellsMention parts xs document) terms numbers → IsFirst (MeansNumber parts xs document) role terms None
first_end parts xs document role found numbers k past so_far terms are tell =
    let same = same_number (IsMention xs document) found terms are in
    first_nowhere (MeansNumber parts xs document) role terms k (omega (arith, past, same)) (so_far terms are tell)

-- ---- what is known of the template that has a number

-- its mentions, and their numbers
pub own_mentions : (parts : PartTerms) (xs : List Found) (k : ℕ) (x : Found) → AreFound parts xs →
    slice_get xs k ≡ Some x → HasMentions xs x
own_mentions parts xs k x are at =
    subst (HasMentions xs) (get_or_from_slice_get xs k x x at) (are.mentions k x (slice_get_within xs k x at))

pub own_numbers : (parts : PartTerms) (xs : List Found) (targets : List (Vec (Option ℕ) Global)) (k : ℕ) (x : Found)
    (own : Vec (Option ℕ) Global) → AreTargets parts xs targets → slice_get xs k ≡ Some x →
    slice_get targets k ≡ Some own → TellsTargets parts xs x own
own_numbers parts xs targets k x own tell at there = pair_at (TellsTargets parts xs) xs targets k x own tell at there

pub own_missing : (parts : PartTerms) (xs : List Found) (targets : List (Vec (Option ℕ) Global)) (k : ℕ) (x : Found) →
    AreTargets parts xs targets → slice_get xs k ≡ Some x → slice_get targets k ≡ None → ⊥
own_missing parts xs targets k x tell at gone =
    let found = beside (TellsTargets parts xs) xs targets k x tell at in none_some found.0 (sym gone ∙ found.1)

-- what a call tells of the mentions and numbers that were found it tells of the template
pub told_of : (P : ℕ → List Mention → Type 0) (parts : PartTerms) (xs : List Found)
    (targets : List (Vec (Option ℕ) Global)) (k : ℕ) (x found : Found) (own : Vec (Option ℕ) Global)
    (mentions : List FoundMention) (numbers : List (Option ℕ)) → AreFound parts xs → AreTargets parts xs targets →
    slice_get xs k ≡ Some x → slice_get xs k ≡ Some found → slice_get targets k ≡ Some own →
    mentions ≡ found.mentions.items → numbers ≡ own.items →
    ((document : ℕ) (terms : List Mention) → AreEach (IsMention xs document) mentions terms →
    AreEach (TellsMention parts xs document) terms numbers → P document terms) →
    P x.document (template_mentions (found_term x))
told_of P parts xs targets k x found own mentions numbers are tell at also there mentions_are numbers_are has =
    has x.document (template_mentions (found_term x))
    (subst (λ ms. AreEach (IsMention xs x.document) ms (template_mentions (found_term x)))
    (ap (λ (f : Found). f.mentions.items) (same_Some x found (sym at ∙ also)) ∙ sym mentions_are)
    (own_mentions parts xs k x are at))
    (subst (AreEach (TellsMention parts xs x.document) (template_mentions (found_term x))) (sym numbers_are)
    (own_numbers parts xs targets k x own tell at there))
