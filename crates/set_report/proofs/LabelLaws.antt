-- Laws of labels that are found by identifier.
use Rattle.std.proofs.Common.{◌≡◌, ℕ, Bool, true, false, List, [], ◌∷◌, ◌++◌, Option, None, Some, cond}
use Rattle.std.proofs.Common.{refl, sym, ap, ◌∙◌, subst, append_assoc}
use Rattle.std.specs.Prelude.{find}
use Rattle.std.specs.BTreeMap.{BTreeMap, get, is_at}
use Rattle.std.specs.Cmp.Lexicographic.{slice_cmp}
use Rattle.std.specs.Map.{lookup}
use Rattle.std.specs.Option.{is_some, option_map}
use Rattle.std.specs.Ordering.{is_eq, nat_cmp}
use Rattle.std.proofs.lemmas.List.{append-nil}
use Rattle.std.proofs.lemmas.Map.Text.{is_eq-slice_cmp}
use Rattle.std.proofs.lemmas.Slice.Eq.{bytes_eq-Decides}
use Rattle.term_model.specs.Comparing.{is_same_oid}
use Rattle.set_report.specs.Labels.{AddsLabels, HasLabels, label_among}

-- the label of an identifier once another label stands behind the others
abbrev label_with : List ℕ → List ℕ → List ℕ → Option (List ℕ) → Option (List ℕ)
label_with id label q (Some former) = Some former
label_with id label q None = cond (is_same_oid id q) (Some label) None

one_more : (named : List (List ℕ × List ℕ)) (id label q : List ℕ)
    → label_among (named ++ (id, label) ∷ []) q ≡ label_with id label q (label_among named q)
one_more [] id label q = by (is_same_oid id q)
  where
    by : (b : Bool) → option_map (λ (one : List ℕ × List ℕ). one.1) (cond b (Some (id, label)) None)
        ≡ cond b (Some label) None
    by true = refl
    by false = refl
one_more (first ∷ named) id label q = by (is_same_oid first.0 q) (one_more named id label q)
  where
    by : (b : Bool) → label_among (named ++ (id, label) ∷ []) q ≡ label_with id label q (label_among named q)
        → option_map (λ (one : List ℕ × List ℕ). one.1)
        (cond b (Some first) (find (λ (one : List ℕ × List ℕ). is_same_oid one.0 q) (named ++ (id, label) ∷ [])))
        ≡ label_with id label q (option_map (λ (one : List ℕ × List ℕ). one.1)
        (cond b (Some first) (find (λ (one : List ℕ × List ℕ). is_same_oid one.0 q) named)))
    by true e = refl
    by false e = e

-- no labels
pub no_labels : (labels : BTreeMap (List ℕ) (List ℕ)) → labels.entries ≡ [] → HasLabels labels []
no_labels labels empty = λ q. ap (lookup (is_at (slice_cmp nat_cmp q))) empty

added : (before after : BTreeMap (List ℕ) (List ℕ)) (id label : List ℕ)
    → ((q : List ℕ) → get (slice_cmp nat_cmp) after q ≡ label_with id label q (get (slice_cmp nat_cmp) before q))
    → AddsLabels before after ((id, label) ∷ [])
added before after id label step = λ named has. λ q.
    step q ∙ ap (label_with id label q) (has q) ∙ sym (one_more named id label q)

-- ---- what adds a label

none_is : (o : Option (List ℕ)) → is_some o ≡ false → o ≡ None
none_is None e = refl
none_is (Some x) e = absurd (cc e)

some_stays : (id q label : List ℕ) (o : Option (List ℕ)) → is_some o ≡ true → o ≡ label_with id label q o
some_stays id q label None e = absurd (cc e)
some_stays id q label (Some former) e = refl

other_stays : (id q label : List ℕ) (o : Option (List ℕ)) → is_same_oid id q ≡ false → o ≡ label_with id label q o
other_stays id q label None e = rw e refl
other_stays id q label (Some former) e = refl

-- an identifier that has no label yet gets this one
pub label_inserted : (before after : BTreeMap (List ℕ) (List ℕ)) (id label : List ℕ)
    → is_some (get (slice_cmp nat_cmp) before id) ≡ false
    → ((q : List ℕ) → get (slice_cmp nat_cmp) after q ≡ cond (is_eq (slice_cmp nat_cmp id q)) (Some label)
    (get (slice_cmp nat_cmp) before q))
    → AddsLabels before after ((id, label) ∷ [])
label_inserted before after id label absent updates = added before after id label (λ q.
    updates q ∙ ap (λ b. cond b (Some label) (get (slice_cmp nat_cmp) before q)) (is_eq-slice_cmp id q)
    ∙ by q (is_same_oid id q) refl)
  where
    by : (q : List ℕ) (b : Bool) → is_same_oid id q ≡ b
        → cond b (Some label) (get (slice_cmp nat_cmp) before q) ≡ label_with id label q
        (get (slice_cmp nat_cmp) before q)
    by q true e =
        let same : id ≡ q = (bytes_eq-Decides id q).0 e in
        let there : get (slice_cmp nat_cmp) before q ≡ None = ap (λ k. get (slice_cmp nat_cmp) before k) (sym same)
        ∙ none_is (get (slice_cmp nat_cmp) before id) absent in
        sym (ap (label_with id label q) there ∙ ap (λ b. cond b (Some label) None) e)
    by q false e = other_stays id q label (get (slice_cmp nat_cmp) before q) e

-- where an identifier has a label, it keeps it
pub label_stays : (labels : BTreeMap (List ℕ) (List ℕ)) (id label : List ℕ)
    → is_some (get (slice_cmp nat_cmp) labels id) ≡ true → AddsLabels labels labels ((id, label) ∷ [])
label_stays labels id label there = added labels labels id label (λ q. by q (is_same_oid id q) refl)
  where
    by : (q : List ℕ) (b : Bool) → is_same_oid id q ≡ b
        → get (slice_cmp nat_cmp) labels q ≡ label_with id label q (get (slice_cmp nat_cmp) labels q)
    by q true e =
        let same : id ≡ q = (bytes_eq-Decides id q).0 e in
        some_stays id q label (get (slice_cmp nat_cmp) labels q)
        (ap (λ k. is_some (get (slice_cmp nat_cmp) labels k)) (sym same) ∙ there)
    by q false e = other_stays id q label (get (slice_cmp nat_cmp) labels q) e

-- ---- labels that are added one after the other

pub adds_none : (labels : BTreeMap (List ℕ) (List ℕ)) → AddsLabels labels labels []
adds_none labels = λ named has. subst (HasLabels labels) (sym (append-nil named)) has

pub adds_both : (a b c : BTreeMap (List ℕ) (List ℕ)) (x y : List (List ℕ × List ℕ)) → AddsLabels a b x
    → AddsLabels b c y → AddsLabels a c (x ++ y)
adds_both a b c x y first second = λ named has.
    subst (HasLabels c) (append_assoc named x y) (second (named ++ x) (first named has))
