-- MayLaws: braces that can be arcs, in a value and in its parts.
use Rattle.std.proofs.Common.{◌≡◌, ◌⊎◌, ◌∙◌, ◌+◌, ◌<◌, ◌≤◌, ℕ, List, [], ◌∷◌, Bool, true, false, Option, None, Some}
use Rattle.std.proofs.Common.{refl, sym, ap}
use Rattle.std.proofs.Common.{inl, inr, get_or, length, take}
use Rattle.std.specs.Prelude.{◌↔◌, is_some}
use Rattle.asn1_names.specs.FirstNames.{found}
use Rattle.std.proofs.Math.Path.{subst}
use Rattle.std.proofs.lemmas.Bool.{false≢true}
use Rattle.std.proofs.lemmas.List.{take_all}
use Rattle.std.proofs.lemmas.Option.{none-some, same_Some}
use Rattle.token_grammar.specs.declared.token.Token.{Token}
use Rattle.token_grammar.specs.Form.{Tree, After, Empty}
use Rattle.token_grammar.specs.Parts.{list_tree}
use Rattle.asn1_values_syntax.specs.declared.value.ValuePart.{ValuePart}
use Rattle.asn1_values_syntax.specs.ValueTrees.{part_tree}
use Rattle.gdmo_names.specs.ValueNames.{IsPartOf, arcs_name, chosen_value, part_value, parts_in}
use Rattle.gdmo_names.specs.ValueNames.IsPartOf.{last, earlier}
use Rattle.gdmo_begun_names.specs.declared.begun_names.BegunNames.{BegunNames}
use Rattle.gdmo_begun_names.specs.BegunMarks.{AnyFirst, DefinesSome, FirstSet, MaybeFirst}
use Rattle.gdmo_begun_names.specs.PartNames.{MayBegin, MayBeginPart}
use Rattle.gdmo_begun_names.specs.PartNames.MayBegin.{arcs, part, chosen}
use Rattle.gdmo_begun_names.proofs.MarkLaws.{any_cases, defines_by, more}
use Rattle.gdmo_begun_names.proofs.PartLaws.{no_part}
use Rattle.gdmo_begun_names.proofs.StatedLaws.{any_at}

pub some_by : (One Other : FirstSet) (names : BegunNames) → ((t : Token) → One t → Other t) → DefinesSome One names →
    DefinesSome Other names
some_by One Other names to d = (d.0, defines_by One Other names d.0 to d.1)

-- an answer where one set's is known, and sets with the same names
pub told_by : (One Other : FirstSet) (names : BegunNames) (b : Bool) → ((t : Token) → One t → Other t) →
    ((t : Token) → Other t → One t) → ((b ≡ true) ↔ DefinesSome One names) → (b ≡ true) ↔ DefinesSome Other names
told_by One Other names b to from told = (
  λ is. some_by One Other names to (told.0 is),
  λ d. told.1 (some_by Other One names from d),
)

pub told_true : (One Other : FirstSet) (names : BegunNames) (b : Bool) → ((t : Token) → One t → Other t) →
    ((b ≡ true) ↔ DefinesSome One names) → b ≡ true → (true ≡ true) ↔ DefinesSome Other names
told_true One Other names b to told is = (λ e. some_by One Other names to (told.0 is), λ d. refl)

pub told_false : (Other : FirstSet) (names : BegunNames) → (DefinesSome Other names → ⊥) →
    (false ≡ true) ↔ DefinesSome Other names
told_false Other names none_there = (λ e. absurd (false≢true e), λ d. absurd (none_there d))

-- what a value begins with
own_may : (text : Tree) (t : Token) → MaybeFirst (arcs_name text) t → MayBegin t text
own_may text t is = arcs is

-- ---- one that is no choice and has no parts
may_own : (text : Tree) (t : Token) → chosen_value text ≡ None → parts_in text ≡ None → MayBegin t text →
    MaybeFirst (arcs_name text) t
may_own text t c p (arcs is) = is
may_own text t c p (part has h) = absurd (none-some has.row (sym p ∙ has.braces))
may_own text t c p (chosen {value = value} {name = name} is h) = absurd (none-some (name, value) (sym c ∙ is))

-- ---- parts
listed : (name : List ℕ) (value before : Tree) (xs : List ValuePart) → IsPartOf name value before →
    IsPartOf name value (list_tree part_tree before xs)
listed name value before [] h = h
listed name value before (x ∷ xs) h = listed name value (After before (part_tree x)) xs (earlier h)

any_may : (t : Token) (before : Tree) (xs : List ValuePart) →
    AnyFirst (λ one. MayBeginPart (part_tree one)) xs t →
    (name : List ℕ) × (value : Tree) × (IsPartOf name value (list_tree part_tree before xs)) × (MayBegin t value)
any_may t before [] h = absurd h
any_may t before (x ∷ xs) (inl b) =
    (b.name, b.value, listed b.name b.value (After before (part_tree x)) xs (last b.is), b.may)
any_may t before (x ∷ xs) (inr b) = any_may t (After before (part_tree x)) xs b

may_list : (t : Token) (name : List ℕ) (value : Tree) → MayBegin t value → (before : Tree) (xs : List ValuePart) →
    IsPartOf name value (list_tree part_tree before xs) →
    IsPartOf name value before ⊎ AnyFirst (λ one. MayBeginPart (part_tree one)) xs t
may_list t name value may before [] h = inl h
may_list t name value may before (x ∷ xs) h = elim (may_list t name value may (After before (part_tree x)) xs h) as
    (λ _. IsPartOf name value before ⊎ AnyFirst (λ one. MayBeginPart (part_tree one)) (x ∷ xs) t) [
      | inl here ↦ split here
      | inr behind ↦ inr (inr behind)
    ]
  where
    split : IsPartOf name value (After before (part_tree x)) →
        IsPartOf name value before ⊎ AnyFirst (λ one. MayBeginPart (part_tree one)) (x ∷ xs) t
    split (last is) = inr (inl (record { name = name; value = value; is = is; may = may }))
    split (earlier h) = inl h

parts_may : (t : Token) (text : Tree) (xs : List ValuePart) →
    parts_in text ≡ Some (list_tree part_tree Empty xs) → AnyFirst (λ one. MayBeginPart (part_tree one)) xs t →
    MayBegin t text
parts_may t text xs braces h = let found = any_may t Empty xs h in
    part (record { row = list_tree part_tree Empty xs; braces = braces; stands = found.2 }) found.3

may_parts : (t : Token) (text : Tree) (xs : List ValuePart) →
    parts_in text ≡ Some (list_tree part_tree Empty xs) → chosen_value text ≡ None → MayBegin t text →
    MaybeFirst (arcs_name text) t ⊎ AnyFirst (λ one. MayBeginPart (part_tree one)) xs t
may_parts t text xs braces c (arcs is) = inl is
may_parts t text xs braces c (part {value = value} {name = name} has h) =
    let row : has.row ≡ list_tree part_tree Empty xs = same_Some has.row (list_tree part_tree Empty xs)
    (sym has.braces ∙ braces) in
    elim (may_list t name value h Empty xs (subst (IsPartOf name value) row has.stands)) as
    (λ _. MaybeFirst (arcs_name text) t ⊎ AnyFirst (λ one. MayBeginPart (part_tree one)) xs t) [
      | inl here ↦ absurd (no_part name value Empty refl here)
      | inr there ↦ inr there
    ]
may_parts t text xs braces c (chosen {value = value} {name = name} is h) =
    absurd (none-some (name, value) (sym c ∙ is))

-- ---- answers

pub value_own : (text : Tree) (names : BegunNames) (b : Bool) →
    ((b ≡ true) ↔ DefinesSome (MaybeFirst (arcs_name text)) names) → b ≡ true →
    (true ≡ true) ↔ DefinesSome (λ t. MayBegin t text) names
value_own text names b told is =
    told_true (MaybeFirst (arcs_name text)) (λ t. MayBegin t text) names b (own_may text) told is

pub value_alone : (text : Tree) (names : BegunNames) (b : Bool) →
    ((b ≡ true) ↔ DefinesSome (MaybeFirst (arcs_name text)) names) → b ≡ false → chosen_value text ≡ None →
    parts_in text ≡ None → (false ≡ true) ↔ DefinesSome (λ t. MayBegin t text) names
value_alone text names b told is c p = told_false (λ t. MayBegin t text) names
    (λ d. false≢true (sym is ∙ told.1 (some_by (λ t. MayBegin t text) (MaybeFirst (arcs_name text)) names
    (λ t h. may_own text t c p h) d)))

may_chosen : (text v : Tree) (name : Token) (t : Token) → chosen_value text ≡ Some (name, v) →
    arcs_name text ≡ None → parts_in text ≡ None → MayBegin t text → MayBegin t v
may_chosen text v name t is a p (arcs own) = absurd (none-some t (sym a ∙ own))
may_chosen text v name t is a p (part has h) = absurd (none-some has.row (sym p ∙ has.braces))
may_chosen text v name t is a p (chosen {value = value} {name = its} own h) =
    subst (λ (x : Token × Tree). MayBegin t x.1) (same_Some (its, value) (name, v) (sym own ∙ is)) h

pub value_chosen : (text v : Tree) (name : Token) (names : BegunNames) (b : Bool) →
    chosen_value text ≡ Some (name, v) → arcs_name text ≡ None → parts_in text ≡ None →
    ((b ≡ true) ↔ DefinesSome (λ t. MayBegin t v) names) → (b ≡ true) ↔ DefinesSome (λ t. MayBegin t text) names
value_chosen text v name names b is a p told = told_by (λ t. MayBegin t v) (λ t. MayBegin t text) names b
    (λ t h. chosen is h) (λ t h. may_chosen text v name t is a p h) told

pub part_told : (one v : Tree) (name : List ℕ) (names : BegunNames) (b : Bool) → part_value one ≡ Some (name, v) →
    ((b ≡ true) ↔ DefinesSome (λ t. MayBegin t v) names) → (b ≡ true) ↔ DefinesSome (MayBeginPart one) names
part_told one v name names b is told = told_by (λ t. MayBegin t v) (MayBeginPart one) names b
    (λ t h. record { name = name; value = v; is = is; may = h })
    (λ t m. subst (λ (x : List ℕ × Tree). MayBegin t x.1) (same_Some (m.name, m.value) (name, v) (sym m.is ∙ is)) m.may)
    told

-- none of the parts so far
abbrev pub NoneMay : BegunNames → List ValuePart → Type 0
NoneMay names xs = ¬ DefinesSome (AnyFirst (λ one. MayBeginPart (part_tree one)) xs) names

pub none_more : (names : BegunNames) (xs : List ValuePart) (i : ℕ) (x : ValuePart) (b : Bool) → i < length xs →
    x ≡ get_or xs i x → ((b ≡ true) ↔ DefinesSome (MayBeginPart (part_tree x)) names) → b ≡ false →
    NoneMay names (take i xs) → NoneMay names (take (i + 1) xs)
none_more names xs i x b within is told not_so none_there d =
    elim (any_cases (λ one. MayBeginPart (part_tree one)) (take i xs) x d.1.first
    (subst (λ ys. AnyFirst (λ one. MayBeginPart (part_tree one)) ys d.1.first) (more xs i x within is) d.1.is_one)) as
    (λ _. ⊥) [
      | inl before ↦ none_there (d.0, record { first = d.1.first; is_one = before; is = d.1.is })
      | inr here ↦ false≢true (sym not_so ∙ told.1 (d.0, record { first = d.1.first; is_one = here; is = d.1.is }))
    ]

pub none_begun : (names : BegunNames) (xs : List ValuePart) → NoneMay names (take 0 xs)
none_begun names [] d = d.1.is_one
none_begun names (x ∷ xs) d = d.1.is_one

pub value_part : (text : Tree) (xs : List ValuePart) (i : ℕ) (x : ValuePart) (names : BegunNames) (b : Bool) →
    parts_in text ≡ Some (list_tree part_tree Empty xs) → i < length xs → x ≡ get_or xs i x →
    ((b ≡ true) ↔ DefinesSome (MayBeginPart (part_tree x)) names) → b ≡ true →
    (true ≡ true) ↔ DefinesSome (λ t. MayBegin t text) names
value_part text xs i x names b braces within is told so =
    told_true (MayBeginPart (part_tree x)) (λ t. MayBegin t text) names b
    (λ t h. parts_may t text xs braces (any_at (λ one. MayBeginPart (part_tree one)) xs x i within (sym is) t h))
    told so

pub value_none : (text : Tree) (xs : List ValuePart) (i : ℕ) (names : BegunNames) (b : Bool) →
    parts_in text ≡ Some (list_tree part_tree Empty xs) → chosen_value text ≡ None →
    ((b ≡ true) ↔ DefinesSome (MaybeFirst (arcs_name text)) names) → b ≡ false → length xs ≤ i →
    NoneMay names (take i xs) → (false ≡ true) ↔ DefinesSome (λ t. MayBegin t text) names
value_none text xs i names b braces c told is past none_there = told_false (λ t. MayBegin t text) names
    (λ d. elim (may_parts d.1.first text xs braces c d.1.is_one) as (λ _. ⊥) [
      | inl own ↦ false≢true (sym is ∙ told.1 (d.0, record { first = d.1.first; is_one = own; is = d.1.is }))
      | inr there ↦ subst (NoneMay names) (take_all i xs past) none_there
          (d.0, record { first = d.1.first; is_one = there; is = d.1.is })
    ])

pub arcs_told : (names : BegunNames) (name : Token) (o : Option Token) (r : Option ℕ) (b : Bool) → o ≡ Some name →
    r ≡ found names.defined.now name.text → b ≡ is_some r → (b ≡ true) ↔ DefinesSome (MaybeFirst o) names
arcs_told names name o None b is told so = (
  λ e. absurd (false≢true (sym so ∙ e)),
  λ d. absurd (none-some d.0 (told ∙ ap (λ (n : Token). found names.defined.now n.text)
      (same_Some name d.1.first (sym is ∙ d.1.is_one)) ∙ d.1.is)),
)
arcs_told names name o (Some n) b is told so = (
  λ e. (n, record { first = name; is_one = is; is = sym told }),
  λ d. so,
)
