-- The order of names is total, and names stand at one place of it exactly where they are the same.
use Rattle.std.proofs.Common.{◌≡◌, ℕ, suc, Bool, true, false, List, [], ◌∷◌, length, refl, sym, ap, ◌∙◌, ⊎_elim}
use Rattle.std.specs.Prelude.{◌==◌, ◌&&◌}
use Rattle.std.specs.Cmp.{IsTotalOrder, both_tied, nat_cmp_total, on_total, then_total, tied_then}
use Rattle.std.specs.Cmp.Lexicographic.{pointwise, slice_cmp, lists_ties, lists_total, nat_list_cmp_total, texts_ties}
use Rattle.std.specs.Ordering.{nat_cmp, ordering_reverse, ordering_then, is_eq}
use Rattle.std.specs.declared.cmp.Ordering.{Ordering}
use Rattle.std.specs.declared.cmp.Ordering.TheVariants.{Less, Equal, Greater}
use Rattle.std.proofs.lemmas.Bool.{cases_Bool, and_parts}
use Rattle.term_model.specs.declared.name.Rdn.{Rdn}
use Rattle.term_model.specs.Comparing.{is_same_rdn, is_same_name}
use Rattle.term_model.specs.NameOrder.{rdn_cmp, name_cmp}

reversed : (o : Ordering) → o ≡ ordering_reverse o → o ≡ Equal
reversed Less h = absurd cc
reversed Equal h = refl
reversed Greater h = absurd cc

-- octets that are the same are equally many
same_count : (xs ys : List ℕ) → pointwise ◌==◌ xs ys ≡ true → length xs ≡ length ys
same_count [] [] h = refl
same_count [] (y ∷ ys) h = absurd cc
same_count (x ∷ xs) [] h = absurd cc
same_count (x ∷ xs) (y ∷ ys) h = ap suc (same_count xs ys (and_parts (x == y) (pointwise ◌==◌ xs ys) h).1)

same_length : (xs ys : List ℕ) → pointwise ◌==◌ xs ys ≡ true → nat_cmp (length xs) (length ys) ≡ Equal
same_length xs ys h =
    ap (λ n. nat_cmp (length xs) n) (sym (same_count xs ys h))
    ∙ reversed (nat_cmp (length xs) (length xs)) (nat_cmp_total.antisymm (length xs) (length xs))

and_false : (b : Bool) → false ≡ (b && false)
and_false true = refl
and_false false = refl

value_ties : (xs ys : List ℕ)
    → pointwise ◌==◌ xs ys ≡ is_eq (ordering_then (nat_cmp (length xs) (length ys)) (slice_cmp nat_cmp xs ys))
value_ties xs ys =
    ⊎_elim
    (λ (e : pointwise ◌==◌ xs ys ≡ true).
    texts_ties xs ys ∙ sym (ap (λ o. is_eq (ordering_then o (slice_cmp nat_cmp xs ys))) (same_length xs ys e)))
    (λ (e : pointwise ◌==◌ xs ys ≡ false).
    e ∙ (and_false (is_eq (nat_cmp (length xs) (length ys)))
    ∙ (ap (λ b. is_eq (nat_cmp (length xs) (length ys)) && b) (sym e ∙ texts_ties xs ys)
    ∙ tied_then (nat_cmp (length xs) (length ys)) (slice_cmp nat_cmp xs ys))))
    (cases_Bool (pointwise ◌==◌ xs ys))

pub rdn_ties : (x y : Rdn) → is_same_rdn x y ≡ is_eq (rdn_cmp x y)
rdn_ties x y = both_tied _ _ _ _ (texts_ties x.attribute y.attribute) (value_ties x.value y.value)

pub name_ties : (xs ys : List Rdn) → is_same_name xs ys ≡ is_eq (name_cmp xs ys)
name_ties = lists_ties rdn_cmp rdn_ties

pub rdn_total : IsTotalOrder rdn_cmp
rdn_total =
    then_total (on_total (λ (rdn : Rdn). rdn.attribute) nat_list_cmp_total)
    (then_total (on_total (λ (rdn : Rdn). length rdn.value) nat_cmp_total)
    (on_total (λ (rdn : Rdn). rdn.value) nat_list_cmp_total))

pub name_total : IsTotalOrder name_cmp
name_total = lists_total rdn_total
