-- RootLaws: which instances are ROOTs, and the attributes of the last parts of their names.
use Rattle.std.proofs.Common.{◌≡◌, ◌<◌, ◌≤◌, ◌+◌, ℕ, suc, zero, List, [], ◌∷◌, ◌++◌, Bool, true, false}
use Rattle.std.proofs.Common.{Option, None, Some}
use Rattle.std.proofs.Common.{ap, arith, get_or, length, refl, subst, sym, ◌∙◌}
use Rattle.std.specs.Prelude.{flat_map, map, take}
use Rattle.std.specs.List.{slice_get}
use Rattle.std.proofs.lemmas.List.{append_assoc, map-append, take_all}
use Rattle.std.proofs.lemmas.Option.{same_Some}
use Rattle.link_graphs.proofs.PlaceLaws.{nothing_there}
use Rattle.reached_elements.specs.Linking.{GainsLinks, LinksAll}
use Rattle.extra_syntax.specs.declared.instance.Instance.{Instance}
use Rattle.extra_syntax.specs.declared.section.Section.{Section}
use Rattle.gdmo_names.specs.ClassMembers.{last_pair}
use Rattle.gdmo_names.specs.FoundViews.{found_views, numbered}
use Rattle.gdmo_names.specs.InStep.{AreEach}
use Rattle.gdmo_names.specs.LabelMeaning.{Means}
use Rattle.gdmo_names.specs.Mentions.Role.{InstanceClass, NameAttribute}
use Rattle.gdmo_names.specs.PartTerms.{InstanceTerm, PairTerm, Placed, PartTerms}
use Rattle.gdmo_names.specs.PartViews.{instance_term, is_root_kind, section_instances}
use Rattle.gdmo_names.specs.TemplateTerms.ReferenceTerm.{ByLabel}
use Rattle.gdmo_names.specs.declared.found.Found.{Found}
use Rattle.gdmo_names.proofs.NotingLaws.{map_more}
use Rattle.gdmo_targets.specs.SectionTables.{IsInstanceTargets, TellsPair}
use Rattle.gdmo_targets.specs.declared.section_references.InstanceTargets.{InstanceTargets}
use Rattle.gdmo_targets.proofs.SectionLaws.{flat_more}
use Rattle.class_graphs.specs.ClassLinks.{NamesRoot, last_number}
use Rattle.class_graphs.specs.NamedLinks.{AddsLinks, AreNumbersOf}
use Rattle.class_graphs.proofs.NamedLaws.{added_by, links_added, none_added}

-- ---- which instances are ROOTs

abbrev pub root_of : InstanceTerm → Bool
root_of x = x.is_root

pub marks_step : (front : List Bool) (document : ℕ) (xs : List Instance) (i : ℕ) (x : Instance) (now next : List Bool)
    (b : Bool) → i < length xs → x ≡ get_or xs i x → b ≡ is_root_kind x.kind → next ≡ now ++ b ∷ [] →
    now ≡ front ++ map root_of (map (instance_term document) (take i xs)) →
    next ≡ front ++ map root_of (map (instance_term document) (take (i + 1) xs))
marks_step front document xs i x now next b within is mark pushed so_far =
    pushed ∙ ap (λ (ys : List Bool). ys ++ b ∷ []) so_far
    ∙ append_assoc front (map root_of (map (instance_term document) (take i xs))) (b ∷ [])
    ∙ ap (λ (c : Bool). front ++ (map root_of (map (instance_term document) (take i xs)) ++ c ∷ [])) mark
    ∙ ap (λ ys. front ++ ys) (sym (ap (map root_of) (map_more (instance_term document) xs i x within is)
    ∙ map-append root_of (map (instance_term document) (take i xs)) (instance_term document x ∷ [])))

pub marks_end : (front : List Bool) (document : ℕ) (xs : List Instance) (i : ℕ) (now : List Bool) → length xs ≤ i →
    now ≡ front ++ map root_of (map (instance_term document) (take i xs)) →
    now ≡ front ++ map root_of (map (instance_term document) xs)
marks_end front document xs i now past so_far =
    so_far ∙ ap (λ ys. front ++ map root_of (map (instance_term document) ys)) (take_all i xs past)

pub roots_step : (sections : List Section) (i : ℕ) (x : Section) (now next : List Bool) → i < length sections →
    x ≡ get_or sections i x → next ≡ now ++ map root_of (section_instances x) →
    now ≡ map root_of (flat_map section_instances (take i sections)) →
    next ≡ map root_of (flat_map section_instances (take (i + 1) sections))
roots_step sections i x now next within is pushed so_far =
    pushed ∙ ap (λ ys. ys ++ map root_of (section_instances x)) so_far
    ∙ sym (ap (map root_of) (flat_more section_instances sections i x within is)
    ∙ map-append root_of (flat_map section_instances (take i sections)) (section_instances x))

pub roots_end : (sections : List Section) (i : ℕ) (now : List Bool) → length sections ≤ i →
    now ≡ map root_of (flat_map section_instances (take i sections)) →
    now ≡ map root_of (flat_map section_instances sections)
roots_end sections i now past so_far =
    so_far ∙ ap (λ xs. map root_of (flat_map section_instances xs)) (take_all i sections past)

pub root_at : (xs : List InstanceTerm) (k : ℕ) (x : InstanceTerm) → slice_get xs k ≡ Some x →
    slice_get (map root_of xs) k ≡ Some x.is_root
root_at [] k x at = absurd (cc)
root_at (y ∷ xs) zero x at = ap Some (ap root_of (same_Some y x at))
root_at (y ∷ xs) (suc k) x at = root_at xs k x at

-- ---- the last of some numbers

pub last_got : (xs : List (Option ℕ)) (k : ℕ) → suc k ≡ length xs → get_or xs k None ≡ last_number xs
last_got [] k e = absurd (omega arith)
last_got (x ∷ []) zero e = refl
last_got (x ∷ []) (suc k) e = absurd (omega arith)
last_got (x ∷ y ∷ xs) zero e = absurd (omega arith)
last_got (x ∷ y ∷ xs) (suc k) e = last_got (y ∷ xs) k (omega arith)

pub none_last : (xs : List (Option ℕ)) → length xs ≡ 0 → None ≡ last_number xs
none_last [] e = refl
none_last (x ∷ xs) e = absurd (omega arith)

last_told : (Is : PairTerm → Option ℕ → Type 0) (ps : List PairTerm) (ns : List (Option ℕ)) → AreEach Is ps ns →
    (p : PairTerm) → last_pair ps ≡ Some p → Is p (last_number ns)
last_told Is [] ns each p is = absurd (cc)
last_told Is (q ∷ []) [] each p is = absurd each
last_told Is (q ∷ []) (n ∷ []) each p is = subst (λ r. Is r n) (same_Some q p is) each.0
last_told Is (q ∷ []) (n ∷ m ∷ ns) each p is = absurd each.1
last_told Is (q ∷ r ∷ ps) [] each p is = absurd each
last_told Is (q ∷ r ∷ ps) (n ∷ []) each p is = absurd each.1
last_told Is (q ∷ r ∷ ps) (n ∷ m ∷ ns) each p is = last_told Is (r ∷ ps) (m ∷ ns) each.1 p is

last_some : (Is : PairTerm → Option ℕ → Type 0) (ps : List PairTerm) (ns : List (Option ℕ)) → AreEach Is ps ns →
    (n : ℕ) → last_number ns ≡ Some n → (p : PairTerm) × (last_pair ps ≡ Some p) × Is p (last_number ns)
last_some Is ps [] each n is = absurd (cc)
last_some Is [] (m ∷ ns) each n is = absurd each
last_some Is (q ∷ []) (m ∷ []) each n is = (q, refl, each.0)
last_some Is (q ∷ []) (m ∷ k ∷ ns) each n is = absurd each.1
last_some Is (q ∷ r ∷ ps) (m ∷ []) each n is = absurd each.1
last_some Is (q ∷ r ∷ ps) (m ∷ k ∷ ns) each n is = last_some Is (r ∷ ps) (k ∷ ns) each.1 n is

-- ---- what a ROOT tells

number_there : (views : List Placed) (n : Option ℕ) (to : Placed) → numbered views n ≡ Some to →
    (m : ℕ) × (slice_get views m ≡ Some to) × (n ≡ Some m)
number_there views None to is = absurd (cc)
number_there views (Some m) to is = (m, is, refl)

one_listed : {P : Type 0} (o : Option ℕ) (n k : ℕ) → slice_get (o ∷ []) k ≡ Some (Some n) → (o ≡ Some n → P) → P
one_listed o n zero is by = by (same_Some o (Some n) is)
one_listed o n (suc k) is by = nothing_there k (Some n) is

class_numbers : (parts : PartTerms) (xs : List Found) (by : InstanceTerm) (own : InstanceTargets) →
    IsInstanceTargets parts xs by own →
    AreNumbersOf (found_views xs) (λ x. Means parts by.document InstanceClass (ByLabel by.class) x) (own.class ∷ [])
class_numbers parts xs by own is = record {
  sound = λ n x at listed. one_listed own.class n listed.0 listed.1
      (λ same. (is.is_class x).0 (ap (numbered (found_views xs)) same ∙ at));
  whole = λ x means.
      let m = number_there (found_views xs) own.class x ((is.is_class x).1 means) in
      (m.0, m.1, (0, ap Some m.2));
}

abbrev IsLastNamed : PartTerms → InstanceTerm → Placed → Type 0
IsLastNamed parts by y = (p : PairTerm) × (last_pair by.name ≡ Some p)
    × Means parts by.document NameAttribute (ByLabel p.attribute) y

last_numbers : (parts : PartTerms) (xs : List Found) (by : InstanceTerm) (own : InstanceTargets) →
    IsInstanceTargets parts xs by own →
    AreNumbersOf (found_views xs) (IsLastNamed parts by) (last_number own.name.items ∷ [])
last_numbers parts xs by own is = record {
  sound = λ n y at listed. one_listed (last_number own.name.items) n listed.0 listed.1 (λ same.
      let last = last_some (TellsPair parts xs by.document NameAttribute) by.name own.name.items is.are_name n same in
      (last.0, last.1, (last.2 y).0 (ap (numbered (found_views xs)) same ∙ at)));
  whole = λ y named.
      let told = last_told (TellsPair parts xs by.document NameAttribute) by.name own.name.items is.are_name named.0
      named.1 in
      let m = number_there (found_views xs) (last_number own.name.items) y ((told y).1 named.2) in
      (m.0, m.1, (0, ap Some m.2));
}

pub root_added : (parts : PartTerms) (xs : List Found) (by : InstanceTerm) (own : InstanceTargets)
    {before after : List (List ℕ)} → IsInstanceTargets parts xs by own → by.is_root ≡ true →
    GainsLinks (LinksAll (own.class ∷ []) (last_number own.name.items ∷ [])) before after →
    AddsLinks (found_views xs) (NamesRoot parts by) before after
root_added parts xs by own is root gains = added_by
    (λ x y h. record { is_root = root; of_class = h.0; pair = h.1.0; is_last = h.1.1; means = h.1.2 })
    (λ x y h. (h.of_class, (h.pair, h.is_last, h.means)))
    (links_added (class_numbers parts xs by own is) (last_numbers parts xs by own is) gains)

pub no_root_added : (parts : PartTerms) (views : List Placed) (by : InstanceTerm) (lists : List (List ℕ)) →
    by.is_root ≡ false → AddsLinks views (NamesRoot parts by) lists lists
no_root_added parts views by lists none =
    none_added (NamesRoot parts by) (λ x y h. not_both (sym h.is_root ∙ none))
  where
    not_both : true ≡ false → ⊥
    not_both e = absurd (cc)
