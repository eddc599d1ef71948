-- The laws of specs/ArgumentLaws, proved.
use Rattle.std.proofs.Common.{◌≡◌, ℤ, pos, Bool, true, false, Option, None, Some, refl, sym, ⊎_elim}
use Rattle.std.proofs.lemmas.Bool.{cases_Bool}
use Rattle.std.proofs.lemmas.Option.{none-some}
use Rattle.std.specs.Ordering.{int_eq}
use Rattle.term_values.specs.Soundness.{has_clear_tags}
use Rattle.term_values.specs.Syntaxes.{TypeSyntax}
use Rattle.term_values.specs.Tree.{TreeValue}
use Rattle.term_values.specs.Typed.{TypedValue}
use Rattle.typed_laws.proofs.ReadingStatements.{none_is_denoted_holds, reading_denotes_holds}
use Rattle.typed_laws.specs.TreeOctets.{HasOctets}
use Rattle.term_model.specs.RequestReading.{request_in}
use Rattle.request_laws.specs.ArgumentLaws.{DenotesIn, NoRequestIsDenoted, RequestIsDenoted, argument_of}
use Rattle.request_laws.proofs.Arguments.{argument_in, operation_same}
use Rattle.request_laws.proofs.Options.{none_there, some_there}

-- the tags of a syntax that there is are clear
abbrev IsClear : Option TypeSyntax → Type 0
IsClear None = Unit {0}
IsClear (Some syntax) = has_clear_tags syntax ≡ true

abbrev IsClearAt : ℤ → Type 0
IsClearAt op = IsClear (argument_of op)

by_test : (b : Bool) (G : Type 0) → (b ≡ true → G) → (b ≡ false → G) → G
by_test b G here otherwise = ⊎_elim here otherwise (cases_Bool b)

argument_clear : (op : ℤ) → IsClear (argument_of op)
argument_clear op =
    by_test (int_eq op (pos 0)) (IsClearAt op) (λ a. rw a refl)
    (λ a. by_test (int_eq op (pos 1)) (IsClearAt op) (λ b. rw (a, b) refl)
    (λ b. by_test (int_eq op (pos 8)) (IsClearAt op) (λ c. rw (a, b, c) refl)
    (λ c. by_test (int_eq op (pos 3)) (IsClearAt op) (λ d. rw (a, b, c, d) refl)
    (λ d. by_test (int_eq op (pos 4)) (IsClearAt op) (λ e. rw (a, b, c, d, e) refl)
    (λ e. by_test (int_eq op (pos 5)) (IsClearAt op) (λ f. rw (a, b, c, d, e, f) refl)
    (λ f. by_test (int_eq op (pos 6)) (IsClearAt op) (λ g. rw (a, b, c, d, e, f, g) refl)
    (λ g. by_test (int_eq op (pos 7)) (IsClearAt op) (λ h. rw (a, b, c, d, e, f, g, h) refl)
    (λ h. by_test (int_eq op (pos 9)) (IsClearAt op) (λ k. rw (a, b, c, d, e, f, g, h, k) refl)
    (λ k. rw (a, b, c, d, e, f, g, h, k) tt)))))))))

never_in : (syntax : Option TypeSyntax) (tree : TreeValue) → IsClear syntax → HasOctets tree
    → argument_in syntax tree ≡ None → (value : TypedValue) → ¬ (DenotesIn syntax tree value)
never_in None tree clear octets e value d = d
never_in (Some syntax) tree clear octets e value d = (none_is_denoted_holds syntax tree clear octets).0 e value d

none_in : (syntax : Option TypeSyntax) (tree : TreeValue) → IsClear syntax → HasOctets tree
    → ((value : TypedValue) → ¬ (DenotesIn syntax tree value)) → argument_in syntax tree ≡ None
none_in None tree clear octets never = refl
none_in (Some syntax) tree clear octets never = (none_is_denoted_holds syntax tree clear octets).1 never

told_in : (syntax : Option TypeSyntax) (tree : TreeValue) (value : TypedValue) → HasOctets tree
    → argument_in syntax tree ≡ Some value → DenotesIn syntax tree value
told_in None tree value octets e = none-some _ e
told_in (Some syntax) tree value octets e = reading_denotes_holds syntax tree value octets e

pub no_request_is_denoted : NoRequestIsDenoted
no_request_is_denoted set op tree octets = (
  λ e. never_in (argument_of op) tree (argument_clear op) octets
      (none_there (request_in set op tree) (argument_in (argument_of op) tree) (operation_same set op tree) e),
  λ never. none_there (argument_in (argument_of op) tree) (request_in set op tree) (sym (operation_same set op tree))
      (none_in (argument_of op) tree (argument_clear op) octets never),
)

pub request_is_denoted : RequestIsDenoted
request_is_denoted set op tree request octets e =
    let v = some_there (request_in set op tree) (argument_in (argument_of op) tree) request
    (operation_same set op tree) e in
    (v.0, told_in (argument_of op) tree v.0 octets v.1)
