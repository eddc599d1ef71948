-- TableLaws: what tables of names tell agrees with what names mean.
use Rattle.std.specs.Prelude.{◌≡◌, ℕ, zero, suc, ◌+◌, List, [], ◌∷◌, Bool, true, false, Option, None, Some}
use Rattle.std.specs.Prelude.{is_some, length, map, option_map, refl, slice_get, unwrap_or, if◌then◌else◌}
use Rattle.std.specs.Borrow.{Bor}
use Rattle.std.proofs.Common.{ap, arith, sym, ◌∙◌}
use Rattle.std.proofs.Math.Path.{subst}
use Rattle.std.proofs.lemmas.List.{length-map}
use Rattle.std.proofs.lemmas.Option.{slice_get-map}
use Rattle.token_grammar.specs.declared.token.Token.{Token}
use Rattle.indexmap.specs.IndexMap.{IndexMap}
use Rattle.asn1_syntax.specs.declared.module.Module.{Module}
use Rattle.asn1_names.specs.declared.name_tables.ModuleMeaning.{ModuleMeaning as CodeModuleMeaning}
use Rattle.asn1_names.specs.declared.name_tables.ModuleNames.{ModuleNames}
use Rattle.asn1_names.specs.declared.name_tables.NumberedAssignment.{NumberedAssignment}
use Rattle.asn1_names.specs.AssignmentNumbers.{Numbered, all_numbered, first_at, first_number, first_place}
use Rattle.asn1_names.specs.AssignmentNumbers.{assignment_count, numbered_at, numbered_from}
use Rattle.asn1_names.specs.CodeMeanings.{Means, TellsNumber, named_module, named_type}
use Rattle.asn1_names.specs.declared.name_tables.Meaning.{Meaning as CodeMeaning}
use Rattle.asn1_names.specs.declared.name_tables.Meaning.TheVariants as code
use Rattle.asn1_syntax.specs.declared.plain_type.TypeName.{TypeName}
use Rattle.asn1_names.specs.FirstNames.{found, sources}
use Rattle.asn1_names.specs.ModuleTables.{AreTables, TellsNames, numbered_view}
use Rattle.asn1_names.specs.ModuleTerms.{AssignmentTerm, ModuleTerm}
use Rattle.asn1_names.specs.NameMeaning.{Meaning, ModuleMeaning, assigned_in, assigned_meaning, first_assignment}
use Rattle.asn1_names.specs.NameMeaning.{first_module, import_of, imported_from, is_called, module_meaning}
use Rattle.asn1_names.specs.NameMeaning.{imported_meaning, meaning_within, name_meaning, own_or_imported}
use Rattle.asn1_names.specs.NameMeaning.{reference_meaning, standard_meaning}
use Rattle.asn1_names.specs.NameMeaning.Meaning.{Nothing}
use Rattle.asn1_names.specs.NameMeaning.ModuleMeaning.{ModuleAt, NoModule, Standard}
use Rattle.asn1_names.specs.StandardModule.{is_same_name, standard_module_name, standard_type}
use Rattle.asn1_names.specs.TermViews.{assignment_term, module_terms}
use Rattle.asn1_names.proofs.NumberLaws.{TellsFirst, TellsOwn, number_tells, own_told}

-- ---- modules

abbrev pub module_at : Option ℕ → ModuleMeaning
module_at None = NoModule
module_at (Some m) = ModuleAt m

pub first_is_at : (name : List ℕ) (m : ℕ) (xs : List ModuleTerm) →
    module_at (first_place name m xs) ≡ first_module name m xs
unfolding first_at first_module
first_is_at name m [] = refl
first_is_at name m (x ∷ xs) = by (is_called name x.name) (first_is_at name (m + 1) xs)
  where
    by : (here : Bool) → module_at (first_place name (m + 1) xs) ≡ first_module name (m + 1) xs →
        module_at (if here then Some m else first_place name (m + 1) xs) ≡
        (if here then ModuleAt m else first_module name (m + 1) xs)
    by true rest = refl
    by false rest = rest

pub standard_is : (ms : List ModuleTerm) (name : List ℕ) → is_same_name name standard_module_name ≡ true →
    module_meaning ms name ≡ Standard
unfolding module_meaning
standard_is ms name is = ap (λ b. if b then Standard else first_module name 0 ms) is

pub module_is : (ms : List ModuleTerm) (name : List ℕ) (at : Option ℕ) →
    is_same_name name standard_module_name ≡ false → at ≡ first_place name 0 ms →
    module_at at ≡ module_meaning ms name
unfolding module_meaning
module_is ms name at other is = ap module_at is ∙ first_is_at name 0 ms ∙
    sym (ap (λ b. if b then Standard else first_module name 0 ms) other)

-- ---- what modules assign

abbrev meaning_in : ℕ → List ℕ → Option ModuleTerm → Meaning
meaning_in home name None = Nothing
meaning_in home name (Some x) = first_assignment name home 0 x.assignments

meaning_is : (ms : List ModuleTerm) (home : ℕ) (name : List ℕ) →
    assigned_in ms home name ≡ meaning_in home name (slice_get ms home)
unfolding assigned_in
meaning_is ms home name = by (slice_get ms home)
  where
    by : (x : Option ModuleTerm) → (elim x as (λ _. Meaning) [
      | None ↦ Nothing
      | Some y ↦ first_assignment name home 0 y.assignments
    ]) ≡ meaning_in home name x
    by None = refl
    by (Some x) = refl

abbrev pub TellsMeaning : List ModuleTerm → ℕ → List ℕ → Option ModuleNames → Type 0
TellsMeaning ms home name None = assigned_in ms home name ≡ Nothing
TellsMeaning ms home name (Some names) = TellsNumber ms (assigned_in ms home name) (found names.assigned name)

pub own_meaning : {S : Type 0} (modules : List Module) (by_name : IndexMap (Bor (List ℕ)) ℕ S)
    (names : List ModuleNames) (assignments : List NumberedAssignment) →
    AreTables modules by_name names assignments → (home : ℕ) (name : List ℕ) →
    TellsMeaning (module_terms modules) home name (slice_get names home)
unfolding numbered_at
own_meaning modules by_name names assignments tables home name =
    by (slice_get names home) (slice_get ms home) refl (own_told home 0 0 names ms tables.own)
  where
    ms : List ModuleTerm
    ms = module_terms modules

    number : (own : ModuleNames) (x : ModuleTerm) (d : ℕ) → slice_get ms home ≡ Some x → TellsNames (0 + d) own x →
        ((j : ℕ) (y : Numbered) → slice_get (numbered_from (0 + home) 0 x.assignments) j ≡ Some y →
        slice_get (all_numbered 0 ms) (d + j) ≡ Some y) → (k : Option ℕ) →
        k ≡ first_number name (0 + d) x.assignments → TellsNumber ms (assigned_in ms home name) k
    number own x d at told all k is = from_first k
        (subst (λ z. TellsFirst name (0 + d) home 0 x.assignments z) (sym is)
        (number_tells name (0 + d) home 0 x.assignments))
      where
        from_first : (k : Option ℕ) → TellsFirst name (0 + d) home 0 x.assignments k →
            TellsNumber ms (assigned_in ms home name) k
        from_first None none = meaning_is ms home name ∙ ap (meaning_in home name) at ∙ none
        from_first (Some k) first =
            let place : 0 + home ≡ home = omega arith in
            let number_is : k ≡ d + first.0 = omega (arith, first.1) in (
              first.2.numbered,
              ap (slice_get (all_numbered 0 ms)) number_is ∙ all first.0 first.2.numbered
                  (ap (λ a. slice_get (numbered_from a 0 x.assignments) first.0) place ∙ first.2.at),
              meaning_is ms home name ∙ ap (meaning_in home name) at ∙ first.2.means,
            )

    by : (own : Option ModuleNames) (x : Option ModuleTerm) → slice_get ms home ≡ x → TellsOwn 0 0 home ms own x →
        TellsMeaning ms home name own
    by None None at told = meaning_is ms home name ∙ ap (meaning_in home name) at
    by None (Some x) at told = absurd told
    by (Some own) None at told = absurd told
    by (Some own) (Some x) at told =
        number own x told.0 at told.1 told.2 (found own.assigned name) (told.1.assigned name)

-- ---- what modules import

abbrev import_in : List ℕ → Option ModuleTerm → Option (List ℕ)
import_in name None = None
import_in name (Some x) = option_map (λ token. token.text) (imported_from name x.imports)

import_is : (ms : List ModuleTerm) (home : ℕ) (name : List ℕ) →
    option_map (λ token. token.text) (import_of ms home name) ≡ import_in name (slice_get ms home)
unfolding import_of
import_is ms home name = by (slice_get ms home)
  where
    by : (x : Option ModuleTerm) → option_map (λ token. token.text) (elim x as (λ _. Option Token) [
      | None ↦ None
      | Some y ↦ imported_from name y.imports
    ]) ≡ import_in name x
    by None = refl
    by (Some x) = refl

-- from which module a name is imported, as the names of the module tell
abbrev pub source_in : List ℕ → Option ModuleNames → Option (List ℕ)
source_in name None = None
source_in name (Some names) = sources names.imported name

pub own_source : {S : Type 0} (modules : List Module) (by_name : IndexMap (Bor (List ℕ)) ℕ S)
    (names : List ModuleNames) (assignments : List NumberedAssignment) →
    AreTables modules by_name names assignments → (home : ℕ) (name : List ℕ) →
    source_in name (slice_get names home) ≡
    option_map (λ token. token.text) (import_of (module_terms modules) home name)
own_source modules by_name names assignments tables home name =
    by (slice_get names home) (slice_get ms home) refl (own_told home 0 0 names ms tables.own)
  where
    ms : List ModuleTerm
    ms = module_terms modules

    by : (own : Option ModuleNames) (x : Option ModuleTerm) → slice_get ms home ≡ x → TellsOwn 0 0 home ms own x →
        source_in name own ≡ option_map (λ token. token.text) (import_of ms home name)
    by None None at told = sym (import_is ms home name ∙ ap (import_in name) at)
    by None (Some x) at told = absurd told
    by (Some own) None at told = absurd told
    by (Some own) (Some x) at told =
        told.1.imported name ∙ sym (import_is ms home name ∙ ap (import_in name) at)

-- ---- assignments by number

pub assignment_told : {S : Type 0} (modules : List Module) (by_name : IndexMap (Bor (List ℕ)) ℕ S)
    (names : List ModuleNames) (assignments : List NumberedAssignment) →
    AreTables modules by_name names assignments → (number : ℕ) →
    option_map numbered_view (slice_get assignments number) ≡ numbered_at (module_terms modules) number
unfolding numbered_at
assignment_told modules by_name names assignments tables number =
    sym (slice_get-map numbered_view assignments number) ∙
    ap (λ xs. slice_get xs number) tables.numbers

pub count_told : {S : Type 0} (modules : List Module) (by_name : IndexMap (Bor (List ℕ)) ℕ S)
    (names : List ModuleNames) (assignments : List NumberedAssignment) →
    AreTables modules by_name names assignments → length assignments ≡ assignment_count (module_terms modules)
unfolding assignment_count
count_told modules by_name names assignments tables =
    sym (length-map assignments numbered_view) ∙ ap length tables.numbers

-- ---- names

pub within_standard : (ms : List ModuleTerm) (name : List ℕ) →
    meaning_within ms Standard name ≡ standard_meaning (standard_type name)
unfolding meaning_within
within_standard ms name = refl

pub within_module : (ms : List ModuleTerm) (m : ℕ) (name : List ℕ) →
    meaning_within ms (ModuleAt m) name ≡ assigned_in ms m name
unfolding meaning_within
within_module ms m name = refl

pub within_none : (ms : List ModuleTerm) (name : List ℕ) → meaning_within ms NoModule name ≡ Nothing
unfolding meaning_within
within_none ms name = refl

imported_by : (ms : List ModuleTerm) (name : List ℕ) (from : List ℕ) (x : Option Token) →
    option_map (λ token. token.text) x ≡ Some from →
    imported_meaning ms name x ≡ meaning_within ms (module_meaning ms from) name
unfolding imported_meaning
imported_by ms name from None is = absurd (cc)
imported_by ms name from (Some x) is =
    ap (λ text. meaning_within ms (module_meaning ms text) name) (ap (λ z. unwrap_or z from) is)

imported_none : (ms : List ModuleTerm) (name : List ℕ) (x : Option Token) →
    option_map (λ token. token.text) x ≡ None → imported_meaning ms name x ≡ Nothing
unfolding imported_meaning
imported_none ms name None is = refl
imported_none ms name (Some x) is = absurd (cc)

pub name_imported : (ms : List ModuleTerm) (home : ℕ) (name from : List ℕ) → assigned_in ms home name ≡ Nothing →
    option_map (λ token. token.text) (import_of ms home name) ≡ Some from →
    name_meaning ms home name ≡ meaning_within ms (module_meaning ms from) name
unfolding name_meaning
name_imported ms home name from own is =
    ap (λ m. own_or_imported m (imported_meaning ms name (import_of ms home name))) own ∙
    imported_by ms name from (import_of ms home name) is

pub name_unknown : (ms : List ModuleTerm) (home : ℕ) (name : List ℕ) → assigned_in ms home name ≡ Nothing →
    option_map (λ token. token.text) (import_of ms home name) ≡ None → name_meaning ms home name ≡ Nothing
unfolding name_meaning
name_unknown ms home name own is =
    ap (λ m. own_or_imported m (imported_meaning ms name (import_of ms home name))) own ∙
    imported_none ms name (import_of ms home name) is

own_means : (ms : List ModuleTerm) (told : CodeMeaning) (meaning imported : Meaning) → (told ≡ code.Nothing → ⊥) →
    Means ms told meaning → Means ms told (own_or_imported meaning imported)
own_means ms (code.TypeAt number) meaning imported other means = record {
  numbered = means.numbered;
  at = means.at;
  of = means.of;
  assigns = means.assigns;
  is = ap (λ m. own_or_imported m imported) means.is;
}
own_means ms (code.ValueAt number) meaning imported other means = record {
  numbered = means.numbered;
  at = means.at;
  of = means.of;
  stated = means.stated;
  text = means.text;
  assigns = means.assigns;
  is = ap (λ m. own_or_imported m imported) means.is;
}
own_means ms (code.Standard standard) meaning imported other means = ap (λ m. own_or_imported m imported) means
own_means ms code.Nothing meaning imported other means = absurd (other refl)

pub name_own : (ms : List ModuleTerm) (home : ℕ) (name : List ℕ) (told : CodeMeaning) →
    (told ≡ code.Nothing → ⊥) → Means ms told (assigned_in ms home name) → Means ms told (name_meaning ms home name)
unfolding name_meaning
name_own ms home name told other means =
    own_means ms told (assigned_in ms home name) (imported_meaning ms name (import_of ms home name)) other means

pub reference_within : (ms : List ModuleTerm) (home : ℕ) (x : TypeName) (member : Token) → x.member ≡ Some member →
    reference_meaning ms home (named_module x) (named_type x) ≡
    meaning_within ms (module_meaning ms x.name.text) member.text
unfolding reference_meaning
reference_within ms home x member is =
    ap (λ m. reference_meaning ms home (elim m as (λ _. Option Token) [ None ↦ None | Some y ↦ Some x.name ])
    (elim m as (λ _. Token) [ None ↦ x.name | Some y ↦ y ])) is

pub reference_alone : (ms : List ModuleTerm) (home : ℕ) (x : TypeName) → x.member ≡ None →
    reference_meaning ms home (named_module x) (named_type x) ≡ name_meaning ms home x.name.text
unfolding reference_meaning
reference_alone ms home x is =
    ap (λ m. reference_meaning ms home (elim m as (λ _. Option Token) [ None ↦ None | Some y ↦ Some x.name ])
    (elim m as (λ _. Token) [ None ↦ x.name | Some y ↦ y ])) is

pub same_some : (x : Option (Bor (List ℕ))) (y : Option Token) →
    option_map (λ text. text.now) x ≡ option_map (λ token. token.text) y → is_some x ≡ is_some y
same_some None None is = refl
same_some (Some x) (Some y) is = refl
same_some None (Some y) is = absurd (cc)
same_some (Some x) None is = absurd (cc)
