-- What is asked by the filter of a tree, once its limits and its form are known.
use Rattle.std.proofs.Common.{◌≡◌, List, true, false, Option, None, Some, refl, ap, sym, ◌∙◌}
use Rattle.std.specs.Prelude.{is_some, option_map}
use Rattle.std.proofs.lemmas.Bool.{false≢true, true≢false, not-false, not-true}
use Rattle.term_values.specs.Der.{written}
use Rattle.term_values.specs.FilterTrees.{is_filter}
use Rattle.term_values.specs.Tree.{TreeValue}
use Rattle.term_model.specs.declared.filter.Asked.{Asked}
use Rattle.term_model.specs.declared.filter.Asked.TheVariants.{Large}
use Rattle.term_model.specs.declared.schema.AttrRec.{AttrRec}
use Rattle.term_model.specs.FilterLimits.{is_within_limits}
use Rattle.term_model.specs.FilterReading.{asked_in, asked_of, filter_in, valid_of}
use Rattle.term_model.specs.FilterTrees.{FilterTree}
use Rattle.cmis_filter.specs.TreeLimits.{is_large}
use Rattle.cmis_filter.proofs.FormLaws.{filter_form}
use Rattle.cmis_filter.proofs.LimitLaws.{large_is}

there : {A : Type 0} (o : Option A) → is_some o ≡ true → (x : A) × (o ≡ Some x)
there None e = absurd (false≢true e)
there (Some x) e = (x, refl)

nothing : {A : Type 0} (o : Option A) → is_some o ≡ false → o ≡ None
nothing None e = refl
nothing (Some x) e = absurd (true≢false e)

none_mapped : {A B : Type 0} (f : A → B) (o : Option A) → option_map f o ≡ None → is_some o ≡ false
none_mapped f None e = refl
none_mapped f (Some x) e = absurd (true≢false (ap is_some e))

-- a filter that passes the limits
pub large_asked : (records : List AttrRec) (tree : TreeValue) → is_large tree ≡ true → is_filter tree ≡ true
    → Some Large ≡ asked_in records tree
large_asked records tree large form =
    let found = there (filter_in records tree) (filter_form records tree ∙ form) in
    let passed : is_within_limits found.0 ≡ false =
    not-true (is_within_limits found.0) (sym (large_is records tree found.0 found.1) ∙ large) in
    let is : asked_of records (written tree) found.0 ≡ Large = rw passed refl in
    sym (ap (option_map (asked_of records (written tree))) found.1 ∙ ap Some is)

-- a filter within the limits
pub small_asked : (records : List AttrRec) (tree : TreeValue) (filter : FilterTree) (asked : Asked)
    → is_large tree ≡ false → filter_in records tree ≡ Some filter → asked ≡ valid_of records (written tree) filter
    → Some asked ≡ asked_in records tree
small_asked records tree filter asked small found is =
    let within : is_within_limits filter ≡ true =
    not-false (is_within_limits filter) (sym (large_is records tree filter found) ∙ small) in
    let of : asked_of records (written tree) filter ≡ valid_of records (written tree) filter = rw within refl in
    ap Some (is ∙ sym of) ∙ sym (ap (option_map (asked_of records (written tree))) found)

-- a tree that is no filter
pub none_asked : (records : List AttrRec) (tree : TreeValue) → is_filter tree ≡ false → None ≡ asked_in records tree
none_asked records tree form =
    sym (ap (option_map (asked_of records (written tree)))
    (nothing (filter_in records tree) (filter_form records tree ∙ form)))

pub none_found : (records : List AttrRec) (tree : TreeValue) → filter_in records tree ≡ None
    → None ≡ asked_in records tree
none_found records tree found = sym (ap (option_map (asked_of records (written tree))) found)

pub no_form : (records : List AttrRec) (tree : TreeValue) → asked_in records tree ≡ None → is_filter tree ≡ false
no_form records tree none =
    sym (filter_form records tree) ∙ none_mapped (asked_of records (written tree)) (filter_in records tree) none
