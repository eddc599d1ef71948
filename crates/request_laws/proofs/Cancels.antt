-- The invoke id of m-Cancel-Get: X.711, section 7.4.
use Rattle.std.proofs.Common.{◌≡◌, ℤ, pos, true, false, Some, refl, sym, ap, ◌∙◌, ⊎_elim}
use Rattle.std.proofs.lemmas.Bool.{cases_Bool}
use Rattle.std.proofs.lemmas.Option.{none-some, same_Some}
use Rattle.std.specs.Prelude.{is_some}
use Rattle.term_values.proofs.IntegerLaws.{whole_read}
use Rattle.term_values.specs.Decoding.{value_in}
use Rattle.term_values.specs.Denotes.{Denotes}
use Rattle.term_values.specs.Octets.{integer_in}
use Rattle.term_values.specs.PduSyntaxes.{cancel_argument}
use Rattle.term_values.specs.Tag.{is_same_tag, universal}
use Rattle.term_values.specs.Tree.{TreeValue}
use Rattle.term_values.specs.Tree.TreeValue.{Primitive, Constructed}
use Rattle.term_values.specs.Typed.{TypedValue}
use Rattle.term_values.specs.Typed.TypedValue.{Int}
use Rattle.typed_laws.proofs.Choosing.{same_tag, then_some, if_some}
use Rattle.typed_laws.proofs.LeavesTold.{whole_of}
use Rattle.typed_laws.proofs.ReadingStatements.{none_is_denoted_holds}
use Rattle.typed_laws.specs.TreeOctets.{HasOctets}
use Rattle.term_model.specs.Parts.{contents_under}
use Rattle.term_model.specs.RequestReading.{cancelled_in}
use Rattle.request_laws.specs.ArgumentLaws.{CancelIsDenoted, NoCancelIsDenoted}
use Rattle.request_laws.proofs.Options.{is_same_back, is_then, none_there}

cancel_same : (tree : TreeValue) → is_some (cancelled_in tree) ≡ is_some (value_in cancel_argument tree)
cancel_same (Constructed own inside) =
    ⊎_elim (λ (e : is_same_tag (universal 2) own ≡ true). rw e refl)
    (λ (e : is_same_tag (universal 2) own ≡ false). rw e refl) (cases_Bool (is_same_tag (universal 2) own))
cancel_same (Primitive own contents) =
    ⊎_elim
    (λ (e : is_same_tag (universal 2) own ≡ true).
    rw (e, is_same_back own (universal 2) ∙ e) (sym (is_then Int (integer_in contents))))
    (λ (e : is_same_tag (universal 2) own ≡ false). rw (e, is_same_back own (universal 2) ∙ e) refl)
    (cases_Bool (is_same_tag (universal 2) own))

cancel_told : (tree : TreeValue) (id : ℤ) → HasOctets tree → cancelled_in tree ≡ Some id
    → Denotes cancel_argument tree (Int id)
cancel_told (Constructed own inside) id octets e = absurd (none-some _ e)
cancel_told (Primitive own contents) id octets e =
    let f = then_some integer_in (contents_under (universal 2) (Primitive own contents)) id e in
    let t = if_some (is_same_tag own (universal 2)) (Some contents) f.0 f.1 in
    let read : integer_in contents ≡ Some id = ap integer_in (same_Some contents f.0 t.1) ∙ f.2 in
    let w = whole_of contents id octets read in
    let own_is = same_tag own (universal 2) t.0 in
    let contents_are = w.0 in
    (id, ((λ i. Primitive (own_is i) (contents_are i)), w.1), refl, refl)

abbrev number_back : TypedValue → ℤ
number_back (Int n) = n
number_back _ = pos 0

cancel_read : (tree : TreeValue) (id : ℤ) → Denotes cancel_argument tree (Int id) → cancelled_in tree ≡ Some id
cancel_read tree id d =
    ap cancelled_in d.1.0 ∙ (whole_read d.0 d.1.1 ∙ ap Some (sym (ap number_back d.3)))

pub cancel_is_denoted : CancelIsDenoted
cancel_is_denoted tree id octets = (cancel_told tree id octets, cancel_read tree id)

pub no_cancel_is_denoted : NoCancelIsDenoted
no_cancel_is_denoted tree octets = (
  λ e. (none_is_denoted_holds cancel_argument tree refl octets).0
      (none_there (cancelled_in tree) (value_in cancel_argument tree) (cancel_same tree) e),
  λ never. none_there (value_in cancel_argument tree) (cancelled_in tree) (sym (cancel_same tree))
      ((none_is_denoted_holds cancel_argument tree refl octets).1 never),
)
