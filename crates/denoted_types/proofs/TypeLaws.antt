-- TypeLaws: in modules without a fault each type denotes a syntax (X.680, sections 16 to 51; docs/PROFILE.md, section
-- 11).
use Rattle.std.proofs.Common.{◌≡◌, ℕ, List, map, Some, Contains, option_map, refl, sym, ap, ◌∙◌, subst}
use Rattle.std.proofs.Common.{slice_get, arith}
use Rattle.std.proofs.lemmas.Option.{get_or_from_slice_get, slice_get-map, slice_get_within}
use Rattle.asn1_names.specs.AssignmentNumbers.{Numbered, all_numbered, numbered_at}
use Rattle.asn1_names.specs.ModuleTerms.{TypeTerm, ModuleTerm}
use Rattle.asn1_names.specs.Containment.{ContainsType, Names}
use Rattle.asn1_names.specs.Containment.ContainsType.{directly, through}
use Rattle.asn1_names.specs.Containment.Within.{itself}
use Rattle.asn1_names.specs.FirstModuleFault.{AreFaultless}
use Rattle.asn1_names.specs.NameMeaning.{type_at}
use Rattle.asn1_names.specs.Occurrences.{Assigns, type_assigned}
use Rattle.asn1_names.proofs.PassingLaws.{acyclic}
use Rattle.asn1_numbers.proofs.MeantLaws.{assigns_type, numbered_type, placed_number, reference_type}
use Rattle.asn1_numbers.proofs.StandingLaws.{stands_at}
use Rattle.denoted_types.specs.DenotedTypes.{EachTypeDenotes}
use Rattle.denoted_types.proofs.FiniteInduction.{finite_induction}
use Rattle.denoted_types.proofs.TermLaws.{DenotesAt, term_denotes}

-- ---- an element that is got from a list stands in it

got : {X : Type 0} (xs : List X) (k : ℕ) (x : X) → slice_get xs k ≡ Some x → Contains xs x
got xs k x h = (k, slice_get_within xs k x h, get_or_from_slice_get xs k x x h)

-- ---- the places of types

-- the places of all assignments
abbrev places : List ModuleTerm → List (ℕ × ℕ)
places ms = map (λ (x : Numbered). (x.in_module, x.place)) (all_numbered 0 ms)

placed : (ms : List ModuleTerm) (v j : ℕ) (of : TypeTerm) → type_at ms v j ≡ Some of → Contains (places ms) (v, j)
unfolding numbered_at
placed ms v j of h =
    let number = placed_number ms v j of h in
    let home = number.3 in
    let place = number.4 in
    let same : (number.1.in_module, number.1.place) ≡ (v, j) = (λ i. (home i, place i)) in
    subst (Contains (places ms)) same (got (places ms) number.0 (number.1.in_module, number.1.place)
    (slice_get-map (λ (x : Numbered). (x.in_module, x.place)) (all_numbered 0 ms) number.0 ∙
    ap (option_map (λ (x : Numbered). (x.in_module, x.place))) number.2))

-- what stands at a place is assigned
assigned_at : (ms : List ModuleTerm) (v j : ℕ) (of : TypeTerm) → type_at ms v j ≡ Some of →
    (document : ℕ) × Assigns ms document v of
assigned_at ms v j of h =
    let number = placed_number ms v j of h in
    let x = number.1 in
    let home = number.3 in
    let place = number.4 in
    let stands = stands_at ms number.0 x number.2 in
    let its : stands.d ≡ v = (let from = stands.module_is in omega (arith, from, home)) in
    let type = sym (numbered_type ms number.0 x number.2) ∙ (λ i. type_at ms (home i) (place i)) ∙ h in (
      stands.home.document,
      record {
        in_module = stands.home;
        is_in = record {
          module_at = subst (λ m. slice_get ms m ≡ Some stands.home) its stands.home_at;
          numbered = refl;
        };
        assignment = x.assignment;
        stands = got stands.home.assignments x.place x.assignment stands.stands;
        is_of = ap type_assigned (assigns_type x.assignment of type);
      },
    )

-- ---- which types name which

abbrev NamesAt : List ModuleTerm → ℕ × ℕ → ℕ × ℕ → Type 0
NamesAt ms x y = (of : TypeTerm) × (type_at ms x.0 x.1 ≡ Some of) × Names ms x.0 of y.0 y.1

abbrev Leads : List ModuleTerm → ℕ × ℕ → ℕ × ℕ → Type 0
Leads ms x y = ContainsType ms x.0 x.1 y.0 y.1

onward : (ms : List ModuleTerm) {m i w k v j : ℕ} → NamesAt ms (m, i) (w, k) → ContainsType ms w k v j →
    ContainsType ms m i v j
onward ms at (directly is names) = through (directly at.1 at.2) is names
onward ms at (through further is names) = through (onward ms at further) is names

named_place : (ms : List ModuleTerm) {m v j : ℕ} {of : TypeTerm} → Names ms m of v j → Contains (places ms) (v, j)
named_place ms {m = m} {v = v} {j = j} names =
    let stands = reference_type ms m v j names.module_name names.name names.named names.means in
    placed ms v j names.named stands

listed : (ms : List ModuleTerm) {m i v j : ℕ} → ContainsType ms m i v j → Contains (places ms) (v, j)
listed ms (directly is names) = named_place ms names
listed ms (through further is names) = named_place ms names

-- ---- each type denotes a syntax

denotes_at : (ms : List ModuleTerm) → AreFaultless ms → (v j : ℕ) → DenotesAt ms v j
denotes_at ms sound v j =
    finite_induction (NamesAt ms) (Leads ms) (λ x. DenotesAt ms x.0 x.1) (λ x y at. directly at.1 at.2)
    (λ x y z at far. onward ms at far)
    (λ x inner of is.
    term_denotes (record {
      sound = sound;
      assigned = (assigned_at ms x.0 x.1 of is).1;
      names = λ w k names. inner (w, k) (of, is, names);
    }) of itself)
    (places ms) (v, j) (λ y far. acyclic ms y.0 y.1 sound) (λ y far. listed ms far)

pub each_type_denotes : EachTypeDenotes
each_type_denotes ms sound document m of assigned =
    term_denotes (record {
      sound = sound;
      assigned = assigned;
      names = λ v j names. denotes_at ms sound v j;
    }) of itself
