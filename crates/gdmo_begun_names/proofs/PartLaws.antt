-- PartLaws: the parts in the braces of a value, and the name with which they begin.
use Rattle.std.proofs.Common.{◌≡◌, ◌≢◌, ◌⊎◌, ◌∙◌, ℕ, List, [], ◌∷◌, None, Some, refl, sym, ap, inl, inr}
use Rattle.std.proofs.Common.{length}
use Rattle.std.proofs.Math.Path.{subst}
use Rattle.std.proofs.lemmas.Option.{none-some, same_Some}
use Rattle.token_grammar.specs.declared.token.Token.{Token}
use Rattle.std.specs.declared.alloc.Global.{Global}
use Rattle.std.specs.declared.vec.Vec.{Vec}
use Rattle.token_grammar.specs.Form.{Tree, Bare, Leaf, Pair, First, Second, Empty, After, Numbered}
use Rattle.token_grammar.specs.Parts.{list_tree}
use Rattle.term_values.specs.Syntaxes.{TypeSyntax}
use Rattle.asn1_values_syntax.specs.declared.value.ValuePart.{ValuePart}
use Rattle.asn1_values_syntax.specs.declared.value.ValueText.{ValueText}
use Rattle.asn1_values_syntax.specs.declared.value.ValueText.TheVariants.{Braces, Named}
use Rattle.asn1_values_syntax.specs.declared.value.BracesText.{BracesText}
use Rattle.asn1_values_syntax.specs.declared.value.BracesText.TheVariants.{Parts}
use Rattle.asn1_values_syntax.proofs.Rows.{parts_content}
use Rattle.asn1_values_syntax.specs.declared.value.NamedValue.{NamedValue}
use Rattle.asn1_values_syntax.specs.ValueTrees.{part_tree, value_tree}
use Rattle.gdmo_names.specs.ValueNames.{BeginsIn, IsPartOf, content_name, parts_in}
use Rattle.gdmo_names.specs.ValueNames.IsPartOf.{last, earlier}
use Rattle.gdmo_begun_names.specs.BegunMarks.{AnyFirst}
use Rattle.gdmo_begun_names.specs.PartNames.{BeginsPart, BeginsWithin}

-- of parts only one alone can be arcs
behind_two : (before one other : Tree) (xs : List ValuePart) →
    content_name (Second (First (Pair (list_tree part_tree (After (After before one) other) xs) Bare))) ≡ None
behind_two before one other [] = refl
behind_two before one other (x ∷ xs) = behind_two (After before one) other (part_tree x) xs

pub not_one : (xs : List ValuePart) → length xs ≢ 1 →
    content_name (Second (First (Pair (list_tree part_tree Empty xs) Bare))) ≡ None
not_one [] other = refl
not_one (x ∷ []) other = absurd (other refl)
not_one (x ∷ y ∷ ys) other = behind_two Empty (part_tree x) (part_tree y) ys

-- a part of a list that has its name and its value
part_listed : (name : List ℕ) (value before : Tree) (xs : List ValuePart) → IsPartOf name value before →
    IsPartOf name value (list_tree part_tree before xs)
part_listed name value before [] h = h
part_listed name value before (x ∷ xs) h = part_listed name value (After before (part_tree x)) xs (earlier h)

pub any_part : (Can : List ℕ → TypeSyntax → Type 0) (t : Token) (before : Tree) (xs : List ValuePart) →
    AnyFirst (λ part. BeginsPart Can (part_tree part)) xs t →
    (name : List ℕ) × (value : Tree) × (syntax : TypeSyntax) ×
    (IsPartOf name value (list_tree part_tree before xs)) × (Can name syntax) × (BeginsIn t syntax value)
any_part Can t before [] h = absurd h
any_part Can t before (x ∷ xs) (inl b) = (
  b.name,
  b.value,
  b.syntax,
  part_listed b.name b.value (After before (part_tree x)) xs (last b.is),
  b.can,
  b.begins,
)
any_part Can t before (x ∷ xs) (inr b) = any_part Can t (After before (part_tree x)) xs b

within_list : (Can : List ℕ → TypeSyntax → Type 0) (t : Token) (name : List ℕ) (value : Tree) (syntax : TypeSyntax) →
    Can name syntax → BeginsIn t syntax value → (before : Tree) (xs : List ValuePart) →
    IsPartOf name value (list_tree part_tree before xs) →
    IsPartOf name value before ⊎ AnyFirst (λ part. BeginsPart Can (part_tree part)) xs t
within_list Can t name value syntax can begins before [] h = inl h
within_list Can t name value syntax can begins before (x ∷ xs) h =
    elim (within_list Can t name value syntax can begins (After before (part_tree x)) xs h) as
    (λ _. IsPartOf name value before ⊎ AnyFirst (λ part. BeginsPart Can (part_tree part)) (x ∷ xs) t) [
      | inl here ↦ split here
      | inr behind ↦ inr (inr behind)
    ]
  where
    split : IsPartOf name value (After before (part_tree x)) →
        IsPartOf name value before ⊎ AnyFirst (λ part. BeginsPart Can (part_tree part)) (x ∷ xs) t
    split (last is) = inr (inl (record {
      name = name;
      value = value;
      syntax = syntax;
      is = is;
      can = can;
      begins = begins;
    }))
    split (earlier h) = inl h

pub no_part : (name : List ℕ) (value text : Tree) → text ≡ Empty → IsPartOf name value text → ⊥
no_part name value text is (last e) = absurd (cc)
no_part name value text is (earlier h) = absurd (cc)

-- the parts of a value in braces
pub within_parts : (Can : List ℕ → TypeSyntax → Type 0) (t : Token) (text : Tree) (xs : List ValuePart) →
    parts_in text ≡ Some (list_tree part_tree Empty xs) →
    AnyFirst (λ part. BeginsPart Can (part_tree part)) xs t → BeginsWithin Can text t
within_parts Can t text xs braces h = let found = any_part Can t Empty xs h in record {
  name = found.0;
  value = found.1;
  syntax = found.2;
  has = record { row = list_tree part_tree Empty xs; braces = braces; stands = found.3 };
  can = found.4;
  begins = found.5;
}

pub parts_within : (Can : List ℕ → TypeSyntax → Type 0) (t : Token) (text : Tree) (xs : List ValuePart) →
    parts_in text ≡ Some (list_tree part_tree Empty xs) → BeginsWithin Can text t →
    AnyFirst (λ part. BeginsPart Can (part_tree part)) xs t
parts_within Can t text xs braces w =
    let row : w.has.row ≡ list_tree part_tree Empty xs = same_Some w.has.row (list_tree part_tree Empty xs)
    (sym w.has.braces ∙ braces) in
    elim (within_list Can t w.name w.value w.syntax w.can w.begins Empty xs
    (subst (IsPartOf w.name w.value) row w.has.stands)) as
    (λ _. AnyFirst (λ part. BeginsPart Can (part_tree part)) xs t) [
      | inl here ↦ absurd (no_part w.name w.value Empty refl here)
      | inr there ↦ there
    ]

pub none_within : (Can : List ℕ → TypeSyntax → Type 0) (t : Token) (text : Tree) → parts_in text ≡ None →
    ¬ BeginsWithin Can text t
none_within Can t text is w = none-some w.has.row (sym is ∙ w.has.braces)

-- a value whose content, or whose name, is known
pub braces_is : (value : ValueText) (brace : Token) (content own : BracesText) → value ≡ Braces brace content →
    content ≡ own → value ≡ Braces brace own
braces_is value brace content own is same = is ∙ ap (Braces brace) same

pub named_is : (value : ValueText) (named own : NamedValue) → value ≡ Named named → named ≡ own → value ≡ Named own
named_is value named own is same = is ∙ ap Named same

pub braces_parts : (value : ValueText) (brace : Token) (content : BracesText) (parts : Vec ValuePart Global) →
    value ≡ Braces brace content → content ≡ Parts parts →
    parts_in (value_tree value) ≡ Some (list_tree part_tree Empty parts.items)
braces_parts value brace content parts is same =
    ap (λ v. parts_in (value_tree v)) (braces_is value brace content (Parts parts) is same)
    ∙ ap (λ c. parts_in (Numbered 0 (Second (Second (Second (Pair (Leaf brace) c)))))) (parts_content parts)
