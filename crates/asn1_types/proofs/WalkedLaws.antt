-- WalkedLaws: on a way by names through modules without faults no assignment comes twice, so it is no longer than there
-- are assignments (X.680, section 16).
use Rattle.std.proofs.Common.{◌≡◌, ◌<◌, ◌≤◌, ◌||◌, ℕ, List, [], ◌∷◌, Bool, true, false, Some, eqb, length, refl, sym}
use Rattle.std.proofs.Common.{ap, ◌∙◌, true≢false}
use Rattle.std.proofs.Math.Path.{subst}
use Rattle.std.proofs.lemmas.Bool.{eqb-true}
use Rattle.std.proofs.lemmas.Map.Steps.{length-le_from_distinct_below}
use Rattle.std.specs.List.{AllByRecursion, IsDistinct, list_any}
use Rattle.asn1_names.specs.AssignmentNumbers.{Numbered, assignment_count, numbered_at}
use Rattle.asn1_names.specs.Containment.{ContainsType, Names, Within}
use Rattle.asn1_names.specs.Containment.ContainsType.{directly, through}
use Rattle.asn1_names.specs.Containment.Within.{itself}
use Rattle.asn1_names.specs.FirstModuleFault.{AreFaultless}
use Rattle.asn1_names.specs.ModuleTerms.{ModuleTerm, TypeTerm}
use Rattle.asn1_names.specs.ModuleTerms.TypeTerm.{Reference}
use Rattle.asn1_names.specs.NameMeaning.{reference_meaning, type_at}
use Rattle.asn1_names.proofs.PassingLaws.{acyclic}
use Rattle.asn1_names.proofs.TableAnswers.{some_is}
use Rattle.asn1_types.specs.FollowedNames.{NamesNext}
use Rattle.asn1_types.proofs.NumberedLaws.{number_below, type_placed}

-- a way by names from a type of the module at the place m, with the numbers of what was named, the latest first
pub data Walks (ms : List ModuleTerm) (m : ℕ) (of : TypeTerm) : List ℕ → ℕ → TypeTerm → Type 0 where
  start : Walks ms m of [] m of
  step : {seen : List ℕ} {v w : ℕ} {at named : TypeTerm} → Walks ms m of seen v at →
      (next : NamesNext ms v at w named) → Walks ms m of (next.number ∷ seen) w named

-- ---- what is named in the type of an assignment

named_by : {ms : List ModuleTerm} {m v : ℕ} {of named : TypeTerm} (home : ℕ) → home ≡ m →
    (next : NamesNext ms m of v named) → Names ms home of next.numbered.in_module next.numbered.place
named_by {ms = ms} {of = of} {named = named} home is next = record {
  module_name = next.module_name;
  name = next.name;
  limits = next.limits;
  stands = subst (λ t. Within (Reference next.module_name next.name next.limits) t) (sym next.is) itself;
  named = named;
  means = ap (λ h. reference_meaning ms h next.module_name next.name) is ∙ next.means;
}

either : (one other : Bool) {P : Type 0} → (one ≡ true → P) → (other ≡ true → P) → (one || other) ≡ true → P
either true other left right is = left refl
either false other left right is = right is

-- each assignment that was named contains the next one
pub reaches : {ms : List ModuleTerm} {m : ℕ} {of : TypeTerm} {seen : List ℕ} {v w : ℕ} {at named : TypeTerm} →
    Walks ms m of seen v at → (next : NamesNext ms v at w named) → (q : ℕ) → list_any (eqb q) seen ≡ true →
    (y : Numbered) → numbered_at ms q ≡ Some y →
    ContainsType ms y.in_module y.place next.numbered.in_module next.numbered.place
reaches start next q is y at = absurd (true≢false (sym is))
reaches {ms = ms} {at = here} (step {seen = seen} before last) next q is y at =
    either (eqb q last.number) (list_any (eqb q) seen) direct (λ h. through (reaches before last q h y at) placed
    names) is
  where
    placed : type_at ms last.numbered.in_module last.numbered.place ≡ Some here
    placed = type_placed ms last.number last.numbered here last.at last.assigns

    names : Names ms last.numbered.in_module here next.numbered.in_module next.numbered.place
    names = named_by last.numbered.in_module last.in_module next

    direct : eqb q last.number ≡ true →
        ContainsType ms y.in_module y.place next.numbered.in_module next.numbered.place
    direct same =
        subst (λ z. ContainsType ms z.in_module z.place next.numbered.in_module next.numbered.place)
        (some_is last.numbered y (sym last.at ∙ ap (numbered_at ms) (sym (eqb-true q last.number same)) ∙ at))
        (directly placed names)

-- ---- no assignment comes twice

none_passes : {X : Type 0} (test : X → Bool) (xs : List X) → ¬ (list_any test xs ≡ true) →
    AllByRecursion (λ x. test x ≡ false) xs
none_passes test [] none = tt
none_passes test (x ∷ xs) none = by (test x) refl (none_passes test xs)
  where
    by : (b : Bool) → test x ≡ b → (¬ (list_any test xs ≡ true) → AllByRecursion (λ z. test z ≡ false) xs) →
        AllByRecursion (λ z. test z ≡ false) (x ∷ xs)
    by true e others = absurd (none (ap (λ b. b || list_any test xs) e))
    by false e others = (e, others (λ h. none (ap (λ b. b || list_any test xs) e ∙ h)))

pub are_distinct : {ms : List ModuleTerm} {m : ℕ} {of : TypeTerm} {seen : List ℕ} {v : ℕ} {at : TypeTerm} →
    AreFaultless ms → Walks ms m of seen v at → IsDistinct eqb seen
unfolding IsDistinct
are_distinct sound start = tt
are_distinct {ms = ms} sound (step {seen = seen} before next) = (
  none_passes (eqb next.number) seen (λ twice. acyclic ms next.numbered.in_module next.numbered.place sound
      (reaches before next next.number twice next.numbered next.at)),
  are_distinct sound before,
)

below : {ms : List ModuleTerm} {m : ℕ} {of : TypeTerm} {seen : List ℕ} {v : ℕ} {at : TypeTerm} →
    Walks ms m of seen v at → (q : ℕ) → list_any (eqb q) seen ≡ true → q < assignment_count ms
below start q is = absurd (true≢false (sym is))
below {ms = ms} (step {seen = seen} before next) q is =
    either (eqb q next.number) (list_any (eqb q) seen)
    (λ same. subst (λ n. n < assignment_count ms) (sym (eqb-true q next.number same))
    (number_below ms next.number next.numbered next.at)) (below before q) is

pub way_is_short : {ms : List ModuleTerm} {m : ℕ} {of : TypeTerm} {v : ℕ} {at : TypeTerm} (seen : List ℕ) →
    AreFaultless ms → Walks ms m of seen v at → length seen ≤ assignment_count ms
way_is_short {ms = ms} seen sound walks =
    length-le_from_distinct_below seen (assignment_count ms) (are_distinct sound walks) (below walks)
