-- NamedLaws: the first number of a name.
use Rattle.std.specs.Prelude.{◌≡◌, ◌<◌, ◌+◌, ℕ, List, [], ◌∷◌, ◌++◌, Bool, true, false, Option, None, Some}
use Rattle.std.specs.Prelude.{length, map, refl, if◌then◌else◌}
use Rattle.std.proofs.Common.{ap, get_or, sym, take, ◌∙◌}
use Rattle.asn1_names.specs.FirstNames.{first_of}
use Rattle.asn1_names.specs.ModuleTerms.{NamedNumberTerm, NumberTerm}
use Rattle.asn1_names.specs.NameMeaning.{is_called}
use Rattle.asn1_names.specs.StandardModule.{is_same_name}
use Rattle.asn1_names.specs.TypeBase.{number_called}
use Rattle.asn1_names.proofs.NumberLaws.{map_more}

pub called_none : (name : List ℕ) → number_called name [] ≡ None
unfolding number_called
called_none name = refl

pub called_push : (name : List ℕ) (xs : List NamedNumberTerm) (x : NamedNumberTerm) →
    number_called name (xs ++ x ∷ []) ≡
    first_of (number_called name xs) (if is_called name x.name then Some x.number else None)
unfolding number_called
called_push name [] x = refl
called_push name (y ∷ ys) x = by (is_called name y.name) (called_push name ys x)
  where
    by : (here : Bool) → number_called name (ys ++ x ∷ []) ≡
        first_of (number_called name ys) (if is_called name x.name then Some x.number else None) →
        (if here then Some y.number else number_called name (ys ++ x ∷ [])) ≡
        first_of (if here then Some y.number else number_called name ys)
        (if is_called name x.name then Some x.number else None)
    by true rest = refl
    by false rest = rest

pub called_step : {X : Type 0} (name : List ℕ) (f : X → NamedNumberTerm) (xs : List X) (i : ℕ) (x : X)
    (key : List ℕ) → key ≡ (f x).name.text → i < length xs → x ≡ get_or xs i x →
    first_of (number_called name (map f (take i xs))) (if is_same_name key name then Some (f x).number else None) ≡
    number_called name (map f (take (i + 1) xs))
called_step name f xs i x key key_is within is =
    ap (λ z. first_of (number_called name (map f (take i xs)))
    (if is_same_name z name then Some (f x).number else None)) key_is ∙
    sym (called_push name (map f (take i xs)) (f x)) ∙
    ap (number_called name) (sym (map_more f xs i x within is))
