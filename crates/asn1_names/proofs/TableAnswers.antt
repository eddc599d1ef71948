-- TableAnswers: what the lookups of tables tell, as the functions that make them see it.
use Rattle.std.specs.Prelude.{◌≡◌, ℕ, IfSome, List, Option, None, Some, is_some, length, option_map, refl, slice_get, unwrap_or}
use Rattle.std.specs.Borrow.{Bor}
use Rattle.std.specs.Option.{option_copied}
use Rattle.std.proofs.Common.{ap, get_or, sym, ◌∙◌}
use Rattle.std.proofs.Math.Path.{subst}
use Rattle.std.proofs.Math.Dec.{ltb}
use Rattle.std.proofs.lemmas.Bool.{ltb-true, ltb-false}
use Rattle.std.proofs.lemmas.Option.{slice_get_past, slice_get_read}
use Rattle.indexmap.specs.IndexMap.{IndexMap}
use Rattle.asn1_syntax.specs.declared.module.Module.{Module}
use Rattle.asn1_names.specs.declared.name_tables.ModuleNames.{ModuleNames}
use Rattle.asn1_names.specs.declared.name_tables.NumberedAssignment.{NumberedAssignment}
use Rattle.token_grammar.specs.Form.{Tree}
use Rattle.asn1_names.specs.AssignmentNumbers.{Numbered, numbered_at}
use Rattle.asn1_names.specs.CodeMeanings.{IsTypeNumber, IsValueNumber, Means, TellsNumber}
use Rattle.asn1_names.specs.declared.name_tables.Meaning.{Meaning as CodeMeaning}
use Rattle.asn1_names.specs.ModuleTables.{AreTables, numbered_view}
use Rattle.asn1_names.specs.ModuleTerms.{ModuleTerm, NumberTerm, TypeTerm}
use Rattle.asn1_names.specs.ModuleTerms.AssignedTerm.{AssignsType, AssignsValue}
use Rattle.asn1_names.specs.NameMeaning.{Meaning, assigned_meaning}
use Rattle.asn1_names.specs.TermViews.{module_terms}
use Rattle.asn1_names.proofs.TableLaws.{TellsMeaning, assignment_told, own_meaning}

pub some_is : {X : Type 0} (x y : X) → Some x ≡ Some y → x ≡ y
some_is x y is = ap (λ z. unwrap_or z x) is

-- what `get` gives of a list
pub item_is : {X : Type 0} (xs : List X) (i : ℕ) (r : Option (Bor X)) → is_some r ≡ ltb i (length xs) →
    IfSome r (λ x. x.now ≡ get_or xs i x.now) → option_copied r ≡ slice_get xs i
item_is xs i None e is = sym (slice_get_past xs i (ltb-false i (length xs) (sym e)))
item_is xs i (Some x) e is = sym (slice_get_read xs (length xs) i x.now refl (ltb-true i (length xs) (sym e)) is)

-- what is told of a name in the module at the place home, of which the names were looked up
pub told_at : {S : Type 0} (modules value : List Module) (by_name : IndexMap (Bor (List ℕ)) ℕ S)
    (names : List ModuleNames) (assignments : List NumberedAssignment) → modules ≡ value →
    AreTables modules by_name names assignments → (home : ℕ) (name : List ℕ) (got : Option (Bor ModuleNames)) →
    option_copied got ≡ slice_get names home → TellsMeaning (module_terms value) home name (option_copied got)
told_at modules value by_name names assignments view tables home name got is =
    subst (λ v. TellsMeaning (module_terms v) home name (option_copied got)) view
    (subst (λ o. TellsMeaning (module_terms modules) home name o) (sym is)
    (own_meaning modules by_name names assignments tables home name))

-- the assignment with a number, which was looked up
pub assignment_at : {S : Type 0} (modules value : List Module) (by_name : IndexMap (Bor (List ℕ)) ℕ S)
    (names : List ModuleNames) (assignments : List NumberedAssignment) → modules ≡ value →
    AreTables modules by_name names assignments → (number : ℕ) (got : Option (Bor NumberedAssignment)) →
    option_copied got ≡ slice_get assignments number →
    numbered_at (module_terms value) number ≡ option_map numbered_view (option_copied got)
assignment_at modules value by_name names assignments view tables number got is =
    ap (λ v. numbered_at (module_terms v) number) (sym view) ∙
    sym (assignment_told modules by_name names assignments tables number) ∙ ap (option_map numbered_view) (sym is)

-- what the assignment with a number means
pub type_meant : (ms : List ModuleTerm) (k : ℕ) (a : NumberedAssignment) (of : TypeTerm) →
    numbered_at ms k ≡ Some (numbered_view a) → (numbered_view a).assignment.assigned ≡ AssignsType of →
    IfSome (numbered_at ms k)
    (λ x. IsTypeNumber ms k (assigned_meaning x.in_module x.place x.assignment.assigned))
type_meant ms k a of at assigns =
    subst (λ o. IfSome o (λ x. IsTypeNumber ms k (assigned_meaning x.in_module x.place x.assignment.assigned)))
    (sym at) (record {
      numbered = numbered_view a;
      at = at;
      of = of;
      assigns = assigns;
      is = ap (assigned_meaning a.module a.place) assigns;
    })

pub value_meant : (ms : List ModuleTerm) (k : ℕ) (a : NumberedAssignment) (of : TypeTerm) (stated : Option NumberTerm)
    (text : Tree) → numbered_at ms k ≡ Some (numbered_view a) →
    (numbered_view a).assignment.assigned ≡ AssignsValue of stated text → IfSome (numbered_at ms k)
    (λ x. IsValueNumber ms k (assigned_meaning x.in_module x.place x.assignment.assigned))
value_meant ms k a of stated text at assigns =
    subst (λ o. IfSome o (λ x. IsValueNumber ms k (assigned_meaning x.in_module x.place x.assignment.assigned)))
    (sym at) (record {
      numbered = numbered_view a;
      at = at;
      of = of;
      stated = stated;
      text = text;
      assigns = assigns;
      is = ap (assigned_meaning a.module a.place) assigns;
    })

pub none_meant : (ms : List ModuleTerm) (k : ℕ) (P : Numbered → Type 0) → numbered_at ms k ≡ None →
    IfSome (numbered_at ms k) P
none_meant ms k P at = subst (λ o. IfSome o P) (sym at) tt

pub meaning_told : (ms : List ModuleTerm) (meaning : Meaning) (k : ℕ) (told : CodeMeaning) →
    TellsNumber ms meaning (Some k) → IfSome (numbered_at ms k)
    (λ x. Means ms told (assigned_meaning x.in_module x.place x.assignment.assigned)) → Means ms told meaning
meaning_told ms meaning k told number means =
    subst (λ m. Means ms told m) (sym number.2)
    (subst (λ o. IfSome o (λ x. Means ms told (assigned_meaning x.in_module x.place x.assignment.assigned)))
    number.1 means)
