-- FirstLaws: a table that keeps the first of what is told of a name.
use Rattle.std.specs.Prelude.{◌≡◌, ℕ, List, Bool, true, false, Option, None, Some, option_map, refl}
use Rattle.std.specs.Prelude.{if◌then◌else◌}
use Rattle.std.specs.Cmp.Lexicographic.{same_text}
use Rattle.std.proofs.Common.{ap, sym, ◌∙◌}
use Rattle.asn1_names.specs.FirstNames.{first_of}
use Rattle.asn1_names.specs.StandardModule.{is_same_name}

pub first_none : {X : Type 0} (x : Option X) → first_of x None ≡ x
first_none None = refl
first_none (Some x) = refl

-- a table that had nothing under a key, and has it now
pub first_kept : {V : Type 0} (before after : List ℕ → Option V) (key : List ℕ) (value : V) → before key ≡ None →
    ((name : List ℕ) → after name ≡ (if is_same_name key name then Some value else before name)) →
    (name : List ℕ) → after name ≡ first_of (before name) (if is_same_name key name then Some value else None)
first_kept {V} before after key value new updated name = updated name ∙ by (is_same_name key name) refl
  where
    by : (same : Bool) → is_same_name key name ≡ same → (if same then Some value else before name) ≡
        first_of (before name) (if same then Some value else None)
    by true same = sym (ap (λ x. first_of x (Some value)) (ap before (sym (same_text key name (sym same))) ∙ new))
    by false same = sym (first_none (before name))

-- the same of what is seen of the values
pub first_kept_view : {V W : Type 0} (view : V → W) (before after : List ℕ → Option V) (key : List ℕ) (value : V) →
    before key ≡ None →
    ((name : List ℕ) → after name ≡ (if is_same_name key name then Some value else before name)) →
    (name : List ℕ) → option_map view (after name) ≡
    first_of (option_map view (before name)) (if is_same_name key name then Some (view value) else None)
first_kept_view {V} view before after key value new updated name =
    first_kept (λ text. option_map view (before text)) (λ text. option_map view (after text)) key (view value)
    (ap (option_map view) new)
    (λ text. ap (option_map view) (updated text) ∙ by (is_same_name key text) (before text)) name
  where
    by : (same : Bool) (x : Option V) → option_map view (if same then Some value else x) ≡
        (if same then Some (view value) else option_map view x)
    by true x = refl
    by false x = refl
