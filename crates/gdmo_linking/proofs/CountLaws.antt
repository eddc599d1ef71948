-- CountLaws: how many templates of each kind were counted.
use Rattle.std.specs.Prelude.{◌≡◌, ◌==◌, ◌≢◌, ◌<◌, ◌≤◌, ◌^◌, ℕ, ◌+◌, List, [], ◌∷◌, ◌++◌, Bool, true, false}
use Rattle.std.specs.Prelude.{get_or, length, refl, set}
use Rattle.std.proofs.Common.{ap, arith, sym, take, ◌∙◌}
use Rattle.std.proofs.lemmas.List.{get_or-set_other, get_or-set_same, length-set, length-take-le}
use Rattle.std.proofs.lemmas.Bool.{eqb-true}
use Rattle.gdmo_linking.specs.LinkedTables.{is_kind, kind_number, of_kind}
use Rattle.gdmo_linking.proofs.KindLaws.{kind_count, kind_less, kind_more, length_push, number_same}
use Rattle.gdmo_names.specs.PartTerms.{Placed, kind_of}
use Rattle.gdmo_names.specs.TemplateTerms.{TemplateKind}
use Rattle.gdmo_names.specs.TemplateTerms.TemplateKind.{ClassKind, PackageKind, ParameterKind, BindingKind}
use Rattle.gdmo_names.specs.TemplateTerms.TemplateKind.{AttributeKind, GroupKind, BehaviourKind, ActionKind}
use Rattle.gdmo_names.specs.TemplateTerms.TemplateKind.{NotificationKind}

pub kind_below : (kind : TemplateKind) → kind_number kind < 9
kind_below ClassKind = omega arith
kind_below PackageKind = omega arith
kind_below ParameterKind = omega arith
kind_below BindingKind = omega arith
kind_below AttributeKind = omega arith
kind_below GroupKind = omega arith
kind_below BehaviourKind = omega arith
kind_below ActionKind = omega arith
kind_below NotificationKind = omega arith

pub same_number : (m n : ℕ) → (m == n) ≡ true → m ≡ n
same_number m n is = eqb-true m n is

other_number : (m n : ℕ) → (m == n) ≡ false → n ≢ m
other_number m n is same = absurd (let at = sym (number_same m) ∙ ap (λ k. m == k) (sym same) ∙ is in cc)

pub record AreCounts (xs : List Placed) (counts : List ℕ) : Type 0 where
  pub size : length counts ≡ 9
  pub each : (kind : TemplateKind) → get_or counts (kind_number kind) 0 ≡ length (of_kind kind xs)

pub counts_more : (xs : List Placed) (x : Placed) (counts after : List ℕ) → AreCounts xs counts →
    after ≡ set counts (kind_number (kind_of x.template)) (get_or counts (kind_number (kind_of x.template)) 0 + 1) →
    AreCounts (xs ++ x ∷ []) after
counts_more xs x counts after are is = record {
  size = ap length is ∙ length-set counts own _ ∙ are.size;
  each = λ kind. ap (λ ys. get_or ys (kind_number kind) 0) is ∙ by kind (is_kind kind x) refl;
}
  where
    own : ℕ
    own = kind_number (kind_of x.template)

    by : (kind : TemplateKind) (b : Bool) → is_kind kind x ≡ b →
        get_or (set counts own (get_or counts own 0 + 1)) (kind_number kind) 0 ≡ length (of_kind kind (xs ++ x ∷ []))
    by kind true same =
        let here : own ≡ kind_number kind = same_number own (kind_number kind) same in
        ap (λ k. get_or (set counts own (get_or counts own 0 + 1)) k 0) (sym here) ∙
        get_or-set_same counts own (get_or counts own 0 + 1) 0
        (let less = kind_below (kind_of x.template) in let size = are.size in omega (arith, less, size)) ∙
        ap (λ k. get_or counts k 0 + 1) here ∙ ap (λ n. n + 1) (are.each kind) ∙
        sym (ap length (kind_more kind xs x same) ∙ length_push (of_kind kind xs) x)
    by kind false same =
        get_or-set_other counts own (kind_number kind) (get_or counts own 0 + 1) 0
        (other_number own (kind_number kind) same) ∙ are.each kind ∙ sym (ap length (kind_less kind xs x same))

-- none yet
abbrev pub no_counts : List ℕ
no_counts = 0 ∷ 0 ∷ 0 ∷ 0 ∷ 0 ∷ 0 ∷ 0 ∷ 0 ∷ 0 ∷ []

pub none_counted : AreCounts [] no_counts
unfolding of_kind
none_counted = record { size = refl; each = each }
  where
    each : (kind : TemplateKind) → get_or no_counts (kind_number kind) 0 ≡ length (of_kind kind [])
    each ClassKind = refl
    each PackageKind = refl
    each ParameterKind = refl
    each BindingKind = refl
    each AttributeKind = refl
    each GroupKind = refl
    each BehaviourKind = refl
    each ActionKind = refl
    each NotificationKind = refl

-- a place is less than the number of templates so far
pub place_below : (xs : List Placed) (counts : List ℕ) (kind : TemplateKind) → AreCounts xs counts →
    get_or counts (kind_number kind) 0 ≤ length xs
place_below xs counts kind are =
    let count = are.each kind in let most = kind_count kind xs in omega (arith, count, most)

pub place_fits : (xs : List Placed) (counts : List ℕ) (kind : TemplateKind) (i : ℕ) → i < length xs →
    length xs < 2 ^ 64 → AreCounts (take i xs) counts → get_or counts (kind_number kind) 0 + 1 < 2 ^ 64
place_fits xs counts kind i less small are =
    let below = place_below (take i xs) counts kind are in
    let size = length-take-le i xs (omega (arith, less)) in
    omega (arith, below, size, less, small)
