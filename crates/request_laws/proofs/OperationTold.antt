-- The request that is read of the argument of an operation is one that the tree denotes: X.711, section 7.4.
use Rattle.std.proofs.Common.{◌≡◌, ℤ, pos, true, false, None, Some, refl, subst, inl, inr}
use Rattle.std.proofs.Common.{⊎_elim}
use Rattle.std.proofs.lemmas.Bool.Decides.{Decides-int_eq}
use Rattle.std.proofs.lemmas.Bool.{cases_Bool}
use Rattle.std.specs.Ordering.{int_eq}
use Rattle.std.specs.Prelude.{◌⊎◌}
use Rattle.term_values.specs.Tree.{TreeValue}
use Rattle.typed_laws.specs.TreeOctets.{HasOctets}
use Rattle.term_model.specs.declared.request.Request.{Request}
use Rattle.term_model.specs.declared.schema.Set.{Set}
use Rattle.term_model.specs.RequestReading.{request_in}
use Rattle.request_laws.specs.ArgumentLaws.{DenotesIn, argument_of}
use Rattle.request_laws.specs.OperationDenoting.{OperationIsDenoted}
use Rattle.request_laws.specs.RequestDenoting.{DenotesDelete}
use Rattle.request_laws.proofs.ChangesTold.{action_is_denoted, set_is_denoted}
use Rattle.request_laws.proofs.CreateTold.{create_is_denoted}
use Rattle.request_laws.proofs.ReportTold.{report_is_denoted}
use Rattle.request_laws.proofs.Requests.{request_is_denoted}
use Rattle.request_laws.proofs.ScopedTold.{delete_is_denoted, get_is_denoted}

-- it is the operation, or the rest holds where it is another
one_of : (op n : ℤ) (D G : Type 0) → (op ≡ n → D) → (int_eq op n ≡ false → G) → ((op ≡ n) × D) ⊎ G
one_of op n D G here otherwise =
    ⊎_elim (λ (e : int_eq op n ≡ true). let is = (Decides-int_eq op n).0 e in inl (is, here is))
    (λ (e : int_eq op n ≡ false). inr (otherwise e)) (cases_Bool (int_eq op n))

-- m-Delete, as no other operation is left that has an argument
last_of : (set : Set) (op : ℤ) (tree : TreeValue) (request : Request) → request_in set op tree ≡ Some request
    → HasOctets tree → (request_in set (pos 9) tree ≡ Some request → DenotesDelete set tree request)
    → (int_eq op (pos 9) ≡ false → argument_of op ≡ None) → (op ≡ pos 9) × DenotesDelete set tree request
last_of set op tree request e octets deleted none =
    ⊎_elim (λ (t : int_eq op (pos 9) ≡ true).
    let is = (Decides-int_eq op (pos 9)).0 t in
    (is, deleted (subst (λ m. request_in set m tree ≡ Some request) is e)))
    (λ (t : int_eq op (pos 9) ≡ false).
    let v = request_is_denoted set op tree request octets e in
    absurd (subst (λ syntax. DenotesIn syntax tree v.0) (none t) v.1))
    (cases_Bool (int_eq op (pos 9)))

pub operation_is_denoted : OperationIsDenoted
operation_is_denoted set op tree request clear actions notes octets e =
    let at : (n : ℤ) → op ≡ n → request_in set n tree ≡ Some request =
    λ n is. subst (λ m. request_in set m tree ≡ Some request) is e in
    one_of op (pos 0) _ _ (λ is. (report_is_denoted set tree request notes octets).0 (at (pos 0) is))
    (λ a. one_of op (pos 1) _ _ (λ is. (report_is_denoted set tree request notes octets).1 (at (pos 1) is))
    (λ b. one_of op (pos 3) _ _ (λ is. get_is_denoted set tree request clear octets (at (pos 3) is))
    (λ c. one_of op (pos 4) _ _ (λ is. (set_is_denoted set tree request clear octets).0 (at (pos 4) is))
    (λ d. one_of op (pos 5) _ _ (λ is. (set_is_denoted set tree request clear octets).1 (at (pos 5) is))
    (λ f. one_of op (pos 6) _ _ (λ is. (action_is_denoted set tree request clear actions octets).0 (at (pos 6) is))
    (λ g. one_of op (pos 7) _ _ (λ is. (action_is_denoted set tree request clear actions octets).1 (at (pos 7) is))
    (λ h. one_of op (pos 8) _ _ (λ is. create_is_denoted set tree request clear octets (at (pos 8) is))
    (λ i. last_of set op tree request e octets (delete_is_denoted set tree request clear octets)
    (λ j. rw (a, b, i, c, d, f, g, h, j) refl)))))))))
