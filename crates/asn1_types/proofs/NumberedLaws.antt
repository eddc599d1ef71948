-- NumberedLaws: an assignment that has a number stands in its module (X.680, section 13.1).
use Rattle.std.proofs.Common.{◌≡◌, ◌<◌, ◌+◌, ◌⊎◌, ℕ, zero, suc, List, [], ◌∷◌, ◌++◌, Option, None, Some, refl}
use Rattle.std.proofs.Common.{ap, arith, sym, ◌∙◌, inl, inr}
use Rattle.std.proofs.lemmas.Option.{get_or_from_slice_get, slice_get_within}
use Rattle.std.specs.Prelude.{slice_get}
use Rattle.asn1_names.specs.AssignmentNumbers.{Numbered, all_numbered, assignment_count, numbered_at, numbered_from}
use Rattle.asn1_names.specs.Containment.Within.{itself}
use Rattle.asn1_names.specs.ModuleTerms.{AssignmentTerm, ModuleTerm, TypeTerm}
use Rattle.asn1_names.specs.ModuleTerms.AssignedTerm.{AssignsType, AssignsValue}
use Rattle.asn1_names.specs.NameMeaning.{assigned_type, type_at}
use Rattle.asn1_names.specs.Occurrences.{Assigns, Stands, type_assigned}
use Rattle.asn1_names.proofs.TableAnswers.{some_is}

-- ---- among all assignments

record OwnPlace (m i : ℕ) (own : List AssignmentTerm) (y : Numbered) : Type 0 where
  in_module : y.in_module ≡ m
  behind : ℕ
  place : y.place ≡ i + behind
  at : slice_get own behind ≡ Some y.assignment

placed_in : (m i : ℕ) (own : List AssignmentTerm) (rest : List Numbered) (k : ℕ) (y : Numbered) →
    slice_get (numbered_from m i own ++ rest) k ≡ Some y →
    OwnPlace m i own y ⊎ ((j : ℕ) × (slice_get rest j ≡ Some y))
placed_in m i [] rest k y e = inr (k, e)
placed_in m i (a ∷ own) rest zero y e =
    let is = some_is _ y e in inl (record {
      in_module = sym (ap (λ z. z.in_module) is);
      behind = 0;
      place = sym (ap (λ z. z.place) is) ∙ omega arith;
      at = ap (λ z. Some z.assignment) is;
    })
placed_in m i (a ∷ own) rest (suc k) y e = by (placed_in m (i + 1) own rest k y e)
  where
    by : OwnPlace m (i + 1) own y ⊎ ((j : ℕ) × (slice_get rest j ≡ Some y)) →
        OwnPlace m i (a ∷ own) y ⊎ ((j : ℕ) × (slice_get rest j ≡ Some y))
    by (inl it) = inl (record {
      in_module = it.in_module;
      behind = suc it.behind;
      place = it.place ∙ omega arith;
      at = it.at;
    })
    by (inr other) = inr other

pub record Place (m : ℕ) (ms : List ModuleTerm) (y : Numbered) : Type 0 where
  pub behind : ℕ
  pub in_module : y.in_module ≡ m + behind
  pub text : ModuleTerm
  pub module_at : slice_get ms behind ≡ Some text
  pub at : slice_get text.assignments y.place ≡ Some y.assignment

placed : (m : ℕ) (ms : List ModuleTerm) (k : ℕ) (y : Numbered) → slice_get (all_numbered m ms) k ≡ Some y → Place m ms y
placed m [] k y e = absurd (cc)
placed m (x ∷ xs) k y e =
    by (λ j f. placed (m + 1) xs j y f) (placed_in m 0 x.assignments (all_numbered (m + 1) xs) k y e)
  where
    by : ((j : ℕ) → slice_get (all_numbered (m + 1) xs) j ≡ Some y → Place (m + 1) xs y) →
        OwnPlace m 0 x.assignments y ⊎ ((j : ℕ) × (slice_get (all_numbered (m + 1) xs) j ≡ Some y)) →
        Place m (x ∷ xs) y
    by again (inl it) = record {
      behind = 0;
      in_module = it.in_module ∙ omega arith;
      text = x;
      module_at = refl;
      at = ap (slice_get x.assignments) (it.place ∙ omega arith) ∙ it.at;
    }
    by again (inr (j, f)) =
        let further = again j f in record {
          behind = suc further.behind;
          in_module = further.in_module ∙ omega arith;
          text = further.text;
          module_at = further.module_at;
          at = further.at;
        }

-- ---- the assignment with a number

pub record Home (ms : List ModuleTerm) (y : Numbered) : Type 0 where
  pub text : ModuleTerm
  pub module_at : slice_get ms y.in_module ≡ Some text
  pub at : slice_get text.assignments y.place ≡ Some y.assignment

pub home_of : (ms : List ModuleTerm) (k : ℕ) (y : Numbered) → numbered_at ms k ≡ Some y → Home ms y
unfolding numbered_at
home_of ms k y e =
    let found = placed 0 ms k y e in record {
      text = found.text;
      module_at = ap (slice_get ms) (found.in_module ∙ omega arith) ∙ found.module_at;
      at = found.at;
    }

pub number_below : (ms : List ModuleTerm) (k : ℕ) (y : Numbered) → numbered_at ms k ≡ Some y → k < assignment_count ms
unfolding numbered_at assignment_count
number_below ms k y e = slice_get_within (all_numbered 0 ms) k y e

-- an assigned type is the one at its place
type_at_home : (ms : List ModuleTerm) (y : Numbered) (of : TypeTerm) → Home ms y →
    y.assignment.assigned ≡ AssignsType of → type_at ms y.in_module y.place ≡ Some of
unfolding type_at
type_at_home ms y of home assigns =
    ap (λ f. elim f as (λ _. Option TypeTerm) [
      | None ↦ None
      | Some x ↦ assigned_type (slice_get x.assignments y.place)
    ]) home.module_at ∙ ap assigned_type home.at ∙
    ap (λ a. elim a as (λ _. Option TypeTerm) [
      | AssignsType t ↦ Some t
      | AssignsValue t number text ↦ None
    ]) assigns

pub type_placed : (ms : List ModuleTerm) (k : ℕ) (y : Numbered) (of : TypeTerm) → numbered_at ms k ≡ Some y →
    y.assignment.assigned ≡ AssignsType of → type_at ms y.in_module y.place ≡ Some of
type_placed ms k y of e assigns = type_at_home ms y of (home_of ms k y e) assigns

-- the type of an assignment stands in its module
pub type_is_assigned : (ms : List ModuleTerm) (k : ℕ) (y : Numbered) (of : TypeTerm) → numbered_at ms k ≡ Some y →
    type_assigned y.assignment.assigned ≡ of → (document : ℕ) × Assigns ms document y.in_module of
type_is_assigned ms k y of e is =
    let home = home_of ms k y e in (
      home.text.document,
      record {
        in_module = home.text;
        is_in = record { module_at = home.module_at; numbered = refl };
        assignment = y.assignment;
        stands = (
          y.place,
          slice_get_within home.text.assignments y.place y.assignment home.at,
          get_or_from_slice_get home.text.assignments y.place y.assignment y.assignment home.at,
        );
        is_of = is;
      },
    )

pub type_stands : (ms : List ModuleTerm) (k : ℕ) (y : Numbered) (of : TypeTerm) → numbered_at ms k ≡ Some y →
    type_assigned y.assignment.assigned ≡ of → (document : ℕ) × Stands ms document y.in_module of
type_stands ms k y of e is =
    let assigns = type_is_assigned ms k y of e is in
    (assigns.0, record { of = of; assigned = assigns.1; within = itself })
