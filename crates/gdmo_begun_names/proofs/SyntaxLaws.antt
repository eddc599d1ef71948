-- SyntaxLaws: with which names a value of each form of syntax begins.
use Rattle.std.proofs.Common.{◌≡◌, ◌⊎◌, ◌∙◌, ◌+◌, ℕ, List, [], ◌∷◌, Bool, true, false, Option, None, Some, refl, sym}
use Rattle.std.proofs.Common.{ap, inl, inr}
use Rattle.std.specs.Prelude.{option_map, if◌then◌else◌}
use Rattle.std.proofs.Math.Path.{subst}
use Rattle.std.proofs.lemmas.Bool.{false≢true}
use Rattle.std.proofs.lemmas.Option.{none-some, same_Some}
use Rattle.token_grammar.specs.declared.token.Token.{Token}
use Rattle.token_grammar.specs.Form.{Tree}
use Rattle.term_values.specs.CmipTypes.{filter_choice}
use Rattle.term_values.specs.Syntaxes.{Bounds, TypeSyntax, TypeParts}
use Rattle.term_values.specs.Syntaxes.TypeSyntax.{ObjectIdentifier, Sequence, SetType}
use Rattle.term_values.specs.Syntaxes.TypeSyntax.{SequenceOf, SetOf, Choice, Tagged, Filter}
use Rattle.term_values.specs.Syntaxes.TypeParts.{NoParts, Part}
use Rattle.term_values.specs.declared.tag.Tag.{Tag}
use Rattle.asn1_names.specs.StandardModule.{is_same_name}
use Rattle.gdmo_names.specs.AttributeSyntaxes.{part_called}
use Rattle.gdmo_names.specs.ValueNames.{BeginsIn, HasPart, IsCalled, arcs_name}
use Rattle.gdmo_names.specs.ValueNames.BeginsIn.{arcs, component, set_component, element, set_element, chosen, tagged}
use Rattle.gdmo_names.specs.ValueNames.BeginsIn.{filter}
use Rattle.gdmo_names.specs.ValueNames.IsCalled.{first_called, unnamed, behind}
use Rattle.gdmo_begun_names.specs.PartNames.{BeginsChosen, BeginsWithin, IsComponent, IsElement, bare}
use Rattle.gdmo_begun_names.specs.PartNames.{Unnamed, syntax_called}

-- ---- the first part of a name

called_either : (b : Bool) (k : ℕ) (s : TypeSyntax) (o : Option (ℕ × TypeSyntax)) (q : Option TypeSyntax) →
    option_map (λ p. p.1) o ≡ q →
    option_map (λ p. p.1) (if b then Some (k, s) else o) ≡ (if b then Some s else q)
called_either true k s o q is = refl
called_either false k s o q is = is

called_same : (name : List ℕ) (k : ℕ) (parts : TypeParts) →
    option_map (λ p. p.1) (part_called name k parts) ≡ syntax_called name parts
called_same name k NoParts = refl
called_same name k (Part its_name s optional default rest) =
    called_either (is_same_name its_name name) k s (part_called name (k + 1) rest) (syntax_called name rest)
    (called_same name (k + 1) rest)

placed : (o : Option (ℕ × TypeSyntax)) (s : TypeSyntax) → option_map (λ p. p.1) o ≡ Some s →
    (k : ℕ) × (o ≡ Some (k, s))
placed None s is = absurd (none-some s is)
placed (Some p) s is = (p.0, ap (λ x. Some (p.0, x)) (same_Some p.1 s is))

pub is_placed : (name : List ℕ) (parts : TypeParts) (s : TypeSyntax) → syntax_called name parts ≡ Some s →
    (k : ℕ) × (part_called name 0 parts ≡ Some (k, s))
is_placed name parts s is = placed (part_called name 0 parts) s (called_same name 0 parts ∙ is)

pub is_called : (name : List ℕ) (parts : TypeParts) (k : ℕ) (s : TypeSyntax) →
    part_called name 0 parts ≡ Some (k, s) → syntax_called name parts ≡ Some s
is_called name parts k s is = sym (called_same name 0 parts) ∙ ap (option_map (λ p. p.1)) is

-- ---- parts without a name

pub called_unnamed : (s : TypeSyntax) (parts : TypeParts) → syntax_called [] parts ≡ Some s → Unnamed s parts
called_unnamed s NoParts is = absurd (none-some s is)
called_unnamed s (Part [] own optional default rest) is = inl (refl, same_Some own s is)
called_unnamed s (Part (x ∷ xs) own optional default rest) is = inr (called_unnamed s rest is)

pub from_unnamed : (s : TypeSyntax) (parts : TypeParts) → Unnamed s parts → IsCalled [] s parts
from_unnamed s NoParts u = absurd u
from_unnamed s (Part name own optional default rest) (inl u) =
    subst (λ x. IsCalled [] s (Part x own optional default rest)) (sym u.0)
    (subst (λ z. IsCalled [] s (Part [] z optional default rest)) (sym u.1) (unnamed refl))
from_unnamed s (Part name own optional default rest) (inr u) = behind refl (from_unnamed s rest u)

pub called_cases : (name : List ℕ) (s : TypeSyntax) (parts : TypeParts) → IsCalled name s parts →
    (syntax_called name parts ≡ Some s) ⊎ ((name ≡ []) × Unnamed s parts)
called_cases name s parts (first_called {k = k} is) = inl (is_called name parts k s is)
called_cases name s parts (unnamed is) = inr (is, inl (refl, refl))
called_cases name s parts (behind {rest = rest} is h) = elim (called_cases name s rest h) as
    (λ _. (syntax_called name parts ≡ Some s) ⊎ ((name ≡ []) × Unnamed s parts)) [
      | inl e ↦ inr (is, inr (called_unnamed s rest (subst (λ x. syntax_called x rest ≡ Some s) is e)))
      | inr u ↦ inr (is, inr u.1)
    ]

-- ---- each form

pub to_bare : {t : Token} {text : Tree} (s : TypeSyntax) → BeginsIn t s text → BeginsIn t (bare s) text
to_bare (Tagged tag explicit of) (tagged h) = to_bare of h
to_bare s h = h

pub from_bare : {t : Token} {text : Tree} (s : TypeSyntax) → BeginsIn t (bare s) text → BeginsIn t s text
from_bare (Tagged tag explicit of) h = tagged (from_bare of h)
from_bare s h = h

pub arcs_in : {t : Token} {text : Tree} → BeginsIn t ObjectIdentifier text → arcs_name text ≡ Some t
arcs_in (arcs is) = is

pub untagged : {t : Token} {text : Tree} (tag : Tag) (explicit : Bool) (of : TypeSyntax) →
    BeginsIn t (Tagged tag explicit of) text → BeginsIn t of text
untagged tag explicit of (tagged h) = h

pub in_choice : {t : Token} {text : Tree} (parts : TypeParts) → BeginsIn t (Choice parts) text →
    BeginsChosen parts text t
in_choice parts (chosen {value = value} {name = name} {k = k} {syntax = syntax} is called h) = record {
  name = name;
  value = value;
  syntax = syntax;
  is = is;
  called = is_called name.text parts k syntax called;
  begins = h;
}

pub choice_in : {t : Token} {text : Tree} (parts : TypeParts) → BeginsChosen parts text t →
    BeginsIn t (Choice parts) text
choice_in parts c = chosen c.is (is_placed c.name.text parts c.syntax c.called).1 c.begins

pub in_sequence : {t : Token} {text : Tree} (parts : TypeParts) → BeginsIn t (Sequence parts) text →
    BeginsWithin (IsComponent parts) text t
in_sequence parts (component {value = value} {name = name} {syntax = syntax} has can h) =
    record { name = name; value = value; syntax = syntax; has = has; can = can; begins = h }

pub sequence_in : {t : Token} {text : Tree} (parts : TypeParts) → BeginsWithin (IsComponent parts) text t →
    BeginsIn t (Sequence parts) text
sequence_in parts w = component w.has w.can w.begins

pub in_set : {t : Token} {text : Tree} (parts : TypeParts) → BeginsIn t (SetType parts) text →
    BeginsWithin (IsComponent parts) text t
in_set parts (set_component {value = value} {name = name} {syntax = syntax} has can h) =
    record { name = name; value = value; syntax = syntax; has = has; can = can; begins = h }

pub set_in : {t : Token} {text : Tree} (parts : TypeParts) → BeginsWithin (IsComponent parts) text t →
    BeginsIn t (SetType parts) text
set_in parts w = set_component w.has w.can w.begins

pub in_list : {t : Token} {text : Tree} (of : TypeSyntax) (sizes : Bounds) → BeginsIn t (SequenceOf of sizes) text →
    BeginsWithin (IsElement of) text t
in_list of sizes (element {value = value} has h) =
    record { name = []; value = value; syntax = of; has = has; can = (refl, refl); begins = h }

pub list_in : {t : Token} {text : Tree} (of : TypeSyntax) (sizes : Bounds) → BeginsWithin (IsElement of) text t →
    BeginsIn t (SequenceOf of sizes) text
list_in {t} {text} of sizes w = element (subst (λ name. HasPart text name w.value) w.can.0 w.has)
    (subst (λ s. BeginsIn t s w.value) (sym w.can.1) w.begins)

pub in_set_of : {t : Token} {text : Tree} (of : TypeSyntax) (sizes : Bounds) → BeginsIn t (SetOf of sizes) text →
    BeginsWithin (IsElement of) text t
in_set_of of sizes (set_element {value = value} has h) =
    record { name = []; value = value; syntax = of; has = has; can = (refl, refl); begins = h }

pub set_of_in : {t : Token} {text : Tree} (of : TypeSyntax) (sizes : Bounds) → BeginsWithin (IsElement of) text t →
    BeginsIn t (SetOf of sizes) text
set_of_in {t} {text} of sizes w = set_element (subst (λ name. HasPart text name w.value) w.can.0 w.has)
    (subst (λ s. BeginsIn t s w.value) (sym w.can.1) w.begins)

pub in_filter : {t : Token} {text : Tree} → BeginsIn t Filter text → BeginsIn t filter_choice text
in_filter (filter h) = h

-- ---- the forms with which none begins

abbrev pub is_plain : TypeSyntax → Bool
is_plain ObjectIdentifier = false
is_plain (Sequence parts) = false
is_plain (SetType parts) = false
is_plain (SequenceOf of sizes) = false
is_plain (SetOf of sizes) = false
is_plain (Choice parts) = false
is_plain (Tagged tag explicit of) = false
is_plain Filter = false
is_plain s = true

pub none_begins : {t : Token} {text : Tree} (s : TypeSyntax) → is_plain s ≡ true → BeginsIn t s text → ⊥
none_begins s plain (arcs is) = false≢true plain
none_begins s plain (component has can h) = false≢true plain
none_begins s plain (set_component has can h) = false≢true plain
none_begins s plain (element has h) = false≢true plain
none_begins s plain (set_element has h) = false≢true plain
none_begins s plain (chosen is called h) = false≢true plain
none_begins s plain (tagged h) = false≢true plain
none_begins s plain (filter h) = false≢true plain
