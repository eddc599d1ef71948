-- FactLaws: what is found of one assigned type after another (docs/PROFILE.md, section 11).
use Rattle.std.proofs.Common.{◌≡◌, ◌<◌, ◌≤◌, ℕ, zero, suc, List, [], ◌∷◌, Bool, false, Option, None, Some, refl, sym}
use Rattle.std.proofs.Common.{ap, ◌∙◌, subst, length, arith}
use Rattle.std.specs.Prelude.{IfSome, min, slice_get, slice_set}
use Rattle.std.specs.Option.{option_and_then}
use Rattle.token_grammar.specs.declared.token.Token.{Token}
use Rattle.asn1_names.specs.AssignmentNumbers.{Numbered, numbered_at}
use Rattle.asn1_names.specs.CodeMeanings.{IsTypeNumber, IsTypeOf}
use Rattle.asn1_names.specs.ModuleTerms.{LimitTerm, ModuleTerm, TypeTerm}
use Rattle.asn1_names.specs.ModuleTerms.TypeTerm.{Reference}
use Rattle.asn1_names.specs.NameMeaning.{reference_meaning}
use Rattle.asn1_names.specs.NodeCount.{HasNodes}
use Rattle.asn1_names.specs.Occurrences.{type_assigned}
use Rattle.asn1_tags.specs.declared.tag_sets.TagSet.{TagSet}
use Rattle.asn1_tags.specs.DraftFacts.{CountsType, GathersType, IsSetOf, KeepsSets}
use Rattle.asn1_tags.specs.GatheredTags.{HasTags, KnowsTags, set_found}
use Rattle.asn1_tags.specs.KnownFacts.{AreKnown, HasCount, KnowsNodes, is_marked}
use Rattle.asn1_tags.proofs.BeginLaws.{name_has}
use Rattle.asn1_tags.proofs.NamedTypes.{not_cyclic_at, type_is, type_named, unmarked}
use Rattle.asn1_tags.proofs.NodeLaws.{nodes_beneath, one_count}

pub if_some_from : {X : Type 0} {P : X → Type 0} (found : Option X) → ((x : X) → found ≡ Some x → P x) → IfSome found P
if_some_from None f = tt
if_some_from (Some x) f = f x refl

-- ---- the type of an assignment is one

one_numbered : (found : Option Numbered) (x y : Numbered) → found ≡ Some x → found ≡ Some y → x ≡ y
one_numbered found x y e f = cc

pub same_type : {ms : List ModuleTerm} {number m v : ℕ} {of other : TypeTerm} (P : ℕ → TypeTerm → Type 0) →
    IsTypeOf ms number m of → IsTypeOf ms number v other → P m of → P v other
same_type {ms = ms} {number = number} {m = m} {v = v} {of = of} {other = other} P x y p =
    let same = one_numbered (numbered_at ms number) x.numbered y.numbered x.at y.at in
    subst (λ n. P n other) (sym x.module_is ∙ ap (λ z. z.in_module) same ∙ y.module_is)
    (subst (λ t. P m t) (sym x.is ∙ ap (λ z. type_assigned z.assignment.assigned) same ∙ y.is) p)

-- ---- numbers put in the place of others

pub get_set : {X : Type 0} (xs : List X) (i : ℕ) (y : X) → i < length xs → slice_get (slice_set xs i y) i ≡ Some y
get_set [] i y within = absurd (omega (arith, within))
get_set (x ∷ xs) zero y within = refl
get_set (x ∷ xs) (suc i) y within = get_set xs i y (omega (arith, within))

pub get_other : {X : Type 0} (xs : List X) (i j : ℕ) (y : X) → (j ≡ i → ⊥) →
    slice_get (slice_set xs i y) j ≡ slice_get xs j
get_other [] i j y apart = refl
get_other (x ∷ xs) zero zero y apart = absurd (apart refl)
get_other (x ∷ xs) zero (suc j) y apart = refl
get_other (x ∷ xs) (suc i) zero y apart = refl
get_other (x ∷ xs) (suc i) (suc j) y apart = get_other xs i j y (λ e. apart (ap suc e))

pub length_set : {X : Type 0} (xs : List X) (i : ℕ) (y : X) → length (slice_set xs i y) ≡ length xs
length_set [] i y = refl
length_set (x ∷ xs) zero y = refl
length_set (x ∷ xs) (suc i) y = ap suc (length_set xs i y)

-- ---- nodes

pub counts_type : {ms : List ModuleTerm} {marks : List Bool} {number home : ℕ} {of : TypeTerm} (before after : List ℕ)
    (told : ℕ) → IsTypeOf ms number home of → after ≡ slice_set before number told →
    (AreKnown (KnowsNodes ms before) ms marks home of → HasCount ms home of told) →
    CountsType ms marks number before after
counts_type {ms = ms} {marks = marks} {number = number} {home = home} {of = of} before after told is e counts = record {
  size = ap length e ∙ length_set before number told;
  others = λ other apart. ap (λ (xs : List ℕ). slice_get xs other) e ∙ get_other before number other told apart;
  counted = λ m type_of its within known. (
    told,
    ap (λ (xs : List ℕ). slice_get xs number) e ∙ get_set before number told within,
    λ v again other. same_type (λ x y. HasCount ms x y told) is other
        (counts (same_type (λ x y. AreKnown (KnowsNodes ms before) ms marks x y) its is known)),
  );
}

no_type : {ms : List ModuleTerm} {number m : ℕ} {of : TypeTerm} → numbered_at ms number ≡ None →
    IsTypeOf ms number m of → ⊥
no_type {ms = ms} {number = number} e is = by (numbered_at ms number) is.numbered e is.at
  where
    by : (found : Option Numbered) (x : Numbered) → found ≡ None → found ≡ Some x → ⊥
    by found x e f = absurd (cc)

pub counts_none : {ms : List ModuleTerm} {marks : List Bool} {number : ℕ} (nodes : List ℕ) →
    numbered_at ms number ≡ None → CountsType ms marks number nodes nodes
counts_none nodes e = record {
  size = refl;
  others = λ other apart. refl;
  counted = λ m of is within known. absurd (no_type e is);
}

-- ---- sets of tags

few_told : (n k told : ℕ) → n ≡ k → told ≡ min k 18446744073709551615 → 10000 < told → n ≤ 10000 → ⊥
few_told n k told e f g h = omega (arith, e, f, g, h)

pub too_many : {ms : List ModuleTerm} {m n told : ℕ} {of : TypeTerm} → HasCount ms m of told → 10000 < told →
    HasNodes ms m of n → n ≤ 10000 → ⊥
too_many {n = n} {told = told} count many nodes small =
    few_told n count.0 told (one_count nodes count.1) count.2 many small

pub named_set : {ms : List ModuleTerm} {marks : List Bool} {m : ℕ} (sources : List ℕ) (sets : List TagSet)
    (number place : ℕ) (module_name : Option Token) (name : Token) (limits : List LimitTerm) →
    AreKnown (KnowsTags ms sources sets) ms marks m (Reference module_name name limits) →
    IsTypeNumber ms number (reference_meaning ms m module_name name) → is_marked marks number ≡ false →
    slice_get sources number ≡ Some place → IsSetOf ms m (Reference module_name name limits) sets place
named_set sources sets number place module_name name limits known is mark e =
    let unless = unmarked number known.marked mark in
    let of_it = known.each number (type_named module_name name limits is) unless in
    let not_cyclic = not_cyclic_at is.numbered is.at unless in record {
      set = of_it.set;
      found = sym (ap (option_and_then (slice_get sets)) e) ∙ of_it.found;
      has = λ n nodes small. name_has module_name name limits is.of of_it.set is.is not_cyclic
          (of_it.tells is.numbered.in_module is.of (type_is is) n (nodes_beneath is.is not_cyclic nodes) small);
    }

found_after : (sources after : List ℕ) (sets sets_after : List TagSet) (place : Option ℕ) (other : ℕ) (set : TagSet) →
    slice_get sources other ≡ place → slice_get after other ≡ place → KeepsSets sets sets_after →
    set_found sources sets other ≡ Some set → set_found after sets_after other ≡ Some set
found_after sources after sets sets_after None other set e f keeps h =
    absurd (none_some (sym (ap (option_and_then (slice_get sets)) e) ∙ h))
  where
    none_some : None ≡ Some set → ⊥
    none_some k = absurd (cc)
found_after sources after sets sets_after (Some place) other set e f keeps h =
    ap (option_and_then (slice_get sets_after)) f ∙
    keeps place set (sym (ap (option_and_then (slice_get sets)) e) ∙ h)

pub gathers_type : {ms : List ModuleTerm} {marks : List Bool} {number home : ℕ} {of : TypeTerm}
    (before after : List ℕ) (sets_before sets_after : List TagSet) (nodes place : ℕ) → IsTypeOf ms number home of →
    after ≡ slice_set before number place → KeepsSets sets_before sets_after →
    (AreKnown (KnowsTags ms before sets_before) ms marks home of → HasCount ms home of nodes →
    IsSetOf ms home of sets_after place) →
    GathersType ms marks number nodes before after sets_before sets_after
gathers_type {ms = ms} {marks = marks} {number = number} {home = home} {of = of} before after sets_before sets_after
    nodes place is e keeps gathers = record {
      size = ap length e ∙ length_set before number place;
      others = λ other set apart found. found_after before after sets_before sets_after (slice_get before other)
          other set
          refl (ap (λ (xs : List ℕ). slice_get xs other) e ∙ get_other before number other place apart) keeps found;
      gathered = λ m type_of its within known count.
          let one = gathers (same_type (λ x y. AreKnown (KnowsTags ms before sets_before) ms marks x y) its is known)
          (same_type (λ x y. HasCount ms x y nodes) its is count) in record {
            set = one.set;
            found = ap (option_and_then (slice_get sets_after)) (ap (λ (xs : List ℕ). slice_get xs number) e ∙
                get_set before number place within) ∙ one.found;
            tells = λ v again other n has small. same_type (λ x y. HasTags ms x y one.set) is other
                (one.has n (same_type (λ x y. HasNodes ms x y n) other is has) small);
          };
    }

pub gathers_none : {ms : List ModuleTerm} {marks : List Bool} {number : ℕ} (nodes : ℕ) (sources : List ℕ)
    (sets : List TagSet) → numbered_at ms number ≡ None →
    GathersType ms marks number nodes sources sources sets sets
gathers_none nodes sources sets e = record {
  size = refl;
  others = λ other set apart found. found;
  gathered = λ m of is within known count. absurd (no_type e is);
}
