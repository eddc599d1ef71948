-- FilterLaws: with which names values begin that stand in a filter.
use Rattle.std.proofs.Common.{◌≡◌, ◌⊎◌, ◌∙◌, ℕ, List, [], Bool, true, false, Option, None, Some, refl, sym}
use Rattle.std.proofs.Common.{ap, inl, inr}
use Rattle.std.specs.Prelude.{◌↔◌, codes, option_map, if◌then◌else◌}
use Rattle.std.proofs.Math.Path.{subst}
use Rattle.std.proofs.lemmas.Bool.{false≢true}
use Rattle.std.proofs.lemmas.Option.{none-some, same_Some}
use Rattle.token_grammar.specs.declared.token.Token.{Token}
use Rattle.token_grammar.specs.Form.{Tree, Empty}
use Rattle.token_grammar.specs.Parts.{list_tree}
use Rattle.term_values.specs.CmipTypes.{attribute, attribute_id, filter_choice, filter_item, piece}
use Rattle.term_values.specs.Syntaxes.{TypeSyntax, TypeParts}
use Rattle.term_values.specs.Syntaxes.TypeSyntax.{Any, Filter, Integer, Sequence}
use Rattle.term_values.specs.Syntaxes.TypeParts.{NoParts, Part}
use Rattle.asn1_names.specs.StandardModule.{is_same_name}
use Rattle.asn1_values_syntax.specs.declared.value.ValuePart.{ValuePart}
use Rattle.asn1_values_syntax.specs.ValueTrees.{part_tree}
use Rattle.gdmo_names.specs.ValueNames.{BeginsIn, IsCalled, chosen_value, part_value, parts_in}
use Rattle.gdmo_names.specs.ValueNames.BeginsIn.{arcs, filter}
use Rattle.gdmo_names.specs.ValueNames.IsCalled.{first_called, unnamed}
use Rattle.gdmo_begun_names.specs.declared.begun_names.BegunNames.{BegunNames}
use Rattle.gdmo_begun_names.specs.declared.filter_names.FilterPlace.{FilterPlace}
use Rattle.gdmo_begun_names.specs.declared.filter_names.FilterPlace.TheVariants as at
use Rattle.gdmo_begun_names.specs.BegunMarks.{AnyFirst, FirstSet, Marks}
use Rattle.gdmo_begun_names.specs.FilterPlaces.{BeginsAt, BeginsNamed, BeginsPlace, OwnArcs, alternatives}
use Rattle.gdmo_begun_names.specs.FilterPlaces.{filter_called, identifier_called, item_called, place_called}
use Rattle.gdmo_begun_names.specs.FilterPlaces.{place_choice, place_syntax}
use Rattle.gdmo_begun_names.specs.FilterPlaces.{substring, substring_called}
use Rattle.gdmo_begun_names.specs.PartNames.{BeginsChosen, BeginsPart, BeginsWithin, CanBePart, Unnamed, bare}
use Rattle.gdmo_begun_names.specs.PartNames.{members, syntax_called}
use Rattle.gdmo_begun_names.proofs.MarkLaws.{both_marked, marked_by}
use Rattle.gdmo_begun_names.proofs.PartLaws.{none_within, parts_within, within_parts}
use Rattle.gdmo_begun_names.proofs.SyntaxLaws.{arcs_in, called_cases, choice_in, from_bare, in_choice}
use Rattle.gdmo_begun_names.proofs.SyntaxLaws.{in_filter, in_list, in_sequence, in_set_of, is_placed, list_in}
use Rattle.gdmo_begun_names.proofs.SyntaxLaws.{none_begins}
use Rattle.gdmo_begun_names.proofs.SyntaxLaws.{sequence_in, set_of_in, to_bare}

-- ---- components of an assertion and of a piece

abbrev rest_of : TypeSyntax → TypeParts
rest_of (Sequence (Part name syntax optional default rest)) = rest
rest_of syntax = NoParts

attribute_front : (b : Bool) (rest : Option TypeSyntax) (s : TypeSyntax) → b ≡ true →
    (if b then Some attribute_id else rest) ≡ Some s → attribute_id ≡ s
attribute_front true rest s is e = same_Some attribute_id s e
attribute_front false rest s is e = absurd (false≢true is)

attribute_rest : (b c : Bool) (s : TypeSyntax) → b ≡ false →
    (if b then Some attribute_id else if c then Some Any else None) ≡ Some s → Any ≡ s
attribute_rest true c s is e = absurd (false≢true (sym is))
attribute_rest false true s is e = same_Some Any s e
attribute_rest false false s is e = absurd (none-some s e)

pub assertion_named : (name : List ℕ) → is_same_name (codes "attributeId") name ≡ true → (v : Tree) (t : Token) →
    BeginsPlace at.Identifier v t ↔ BeginsNamed attribute name v t
assertion_named name is v t = (
  λ h. (
    attribute_id,
    first_called (is_placed name (members attribute) attribute_id
        (ap (λ b. if b then Some attribute_id else syntax_called name (rest_of attribute)) is)).1,
    h,
  ),
  λ n. elim (called_cases name n.0 (members attribute) n.1) as (λ _. BeginsPlace at.Identifier v t) [
    | inl e ↦ subst (λ s. BeginsIn t s v) (sym (attribute_front (is_same_name (codes "attributeId") name)
        (syntax_called name (rest_of attribute)) n.0 is e)) n.2
    | inr u ↦ absurd (false≢true (subst (λ x. is_same_name (codes "attributeId") x ≡ true) u.0 is))
  ],
)

pub assertion_other : (name : List ℕ) → is_same_name (codes "attributeId") name ≡ false → (v : Tree) (t : Token) →
    ⊥ ↔ BeginsNamed attribute name v t
assertion_other name is v t = (
  λ h. absurd h,
  λ n. elim (called_cases name n.0 (members attribute) n.1) as (λ _. ⊥) [
    | inl e ↦ none_begins Any refl (subst (λ s. BeginsIn t s v)
        (sym (attribute_rest (is_same_name (codes "attributeId") name) (is_same_name (codes "attributeValue") name)
        n.0 is e)) n.2)
    | inr u ↦ no_unnamed n.0 u.1
  ],
)
  where
    no_unnamed : (s : TypeSyntax) → Unnamed s (members attribute) → ⊥
    no_unnamed s (inl u) = absurd (cc)
    no_unnamed s (inr (inl u)) = absurd (cc)
    no_unnamed s (inr (inr u)) = absurd u

pub piece_unnamed : (name : List ℕ) → name ≡ [] → (v : Tree) (t : Token) →
    BeginsPlace at.Identifier v t ↔ BeginsNamed piece name v t
piece_unnamed name is v t = (
  λ h. subst (λ x. BeginsNamed piece x v t) (sym is) (attribute_id, unnamed refl, h),
  λ n. elim (called_cases [] n.0 (members piece) (subst (λ x. IsCalled x n.0 (members piece)) is n.1)) as
      (λ _. BeginsPlace at.Identifier v t) [
        | inl e ↦ subst (λ s. BeginsIn t s v) (sym (same_Some attribute_id n.0 e)) n.2
        | inr u ↦ of_unnamed n.0 n.2 u.1
      ],
)
  where
    of_unnamed : (s : TypeSyntax) → BeginsIn t s v → Unnamed s (members piece) → BeginsPlace at.Identifier v t
    of_unnamed s h (inl u) = subst (λ z. BeginsIn t z v) (sym u.1) h
    of_unnamed s h (inr (inl u)) = absurd (none_begins Any refl (subst (λ z. BeginsIn t z v) (sym u.1) h))
    of_unnamed s h (inr (inr u)) = absurd u

-- ---- a part

pub part_in : (Can : List ℕ → TypeSyntax → Type 0) (name : List ℕ) (v part : Tree) (t : Token) →
    part_value part ≡ Some (name, v) → BeginsPart Can part t →
    (s : TypeSyntax) × (Can name s) × (BeginsIn t s v)
part_in Can name v part t is b =
    let same : (b.name, b.value) ≡ (name, v) = same_Some (b.name, b.value) (name, v) (sym b.is ∙ is) in (
      b.syntax,
      subst (λ (p : List ℕ × Tree). Can p.0 b.syntax) same b.can,
      subst (λ (p : List ℕ × Tree). BeginsIn t b.syntax p.1) same b.begins,
    )

pub in_part : (Can : List ℕ → TypeSyntax → Type 0) (name : List ℕ) (v part : Tree) (t : Token) (s : TypeSyntax) →
    part_value part ≡ Some (name, v) → Can name s → BeginsIn t s v → BeginsPart Can part t
in_part Can name v part t s is can h =
    record { name = name; value = v; syntax = s; is = is; can = can; begins = h }

pub part_at : (place : FilterPlace) (r : Option FilterPlace) (name : List ℕ) (v part : Tree)
    {before after : BegunNames} → part_value part ≡ Some (name, v) →
    ((value : Tree) (t : Token) → BeginsAt r value t ↔ BeginsNamed (place_syntax place) name value t) →
    Marks (BeginsAt r v) before after → Marks (BeginsPart (CanBePart (place_syntax place)) part) before after
part_at place r name v part is told h =
    marked_by (BeginsAt r v) (BeginsPart (CanBePart (place_syntax place)) part)
    (λ t a. let n = (told v t).0 a in in_part (CanBePart (place_syntax place)) name v part t n.0 is n.1 n.2)
    (λ t b. (told v t).1 (part_in (CanBePart (place_syntax place)) name v part t is b)) h

-- ---- a place

pub place_begins : (p : FilterPlace) (text : Tree) (t : Token) → BeginsPlace p text t →
    OwnArcs p text t ⊎ (BeginsChosen (place_choice p) text t ⊎ BeginsWithin (CanBePart (place_syntax p)) text t)
place_begins at.Filter text t h = inr (inl (in_choice (alternatives filter_choice) (in_filter h)))
place_begins at.Members text t h = inr (inr (in_set_of Filter [] h))
place_begins at.Item text t h = inr (inl (in_choice (alternatives filter_item) h))
place_begins at.Assertion text t h = inr (inr (in_sequence (members attribute) h))
place_begins at.Identifier text t h = inr (inl (in_choice (alternatives attribute_id) h))
place_begins at.Substrings text t h = inr (inr (in_list substring [] h))
place_begins at.Substring text t h = inr (inl (in_choice (alternatives substring) h))
place_begins at.Piece text t h = inr (inr (in_sequence (members piece) h))
place_begins at.Arcs text t h = inl (arcs_in h)
place_begins at.Number text t h = absurd (none_begins (Integer [] []) refl h)

own_place : (p : FilterPlace) (text : Tree) (t : Token) → OwnArcs p text t → BeginsPlace p text t
own_place at.Filter text t h = absurd h
own_place at.Members text t h = absurd h
own_place at.Item text t h = absurd h
own_place at.Assertion text t h = absurd h
own_place at.Identifier text t h = absurd h
own_place at.Substrings text t h = absurd h
own_place at.Substring text t h = absurd h
own_place at.Piece text t h = absurd h
own_place at.Arcs text t h = arcs h
own_place at.Number text t h = absurd h

no_choice : {X : Type 0} (text : Tree) (t : Token) → BeginsChosen NoParts text t → X
no_choice text t c = absurd (none-some c.syntax c.called)

chosen_place : (p : FilterPlace) (text : Tree) (t : Token) → BeginsChosen (place_choice p) text t → BeginsPlace p text t
chosen_place at.Filter text t h = filter (choice_in (alternatives filter_choice) h)
chosen_place at.Members text t h = no_choice text t h
chosen_place at.Item text t h = choice_in (alternatives filter_item) h
chosen_place at.Assertion text t h = no_choice text t h
chosen_place at.Identifier text t h = choice_in (alternatives attribute_id) h
chosen_place at.Substrings text t h = no_choice text t h
chosen_place at.Substring text t h = choice_in (alternatives substring) h
chosen_place at.Piece text t h = no_choice text t h
chosen_place at.Arcs text t h = no_choice text t h
chosen_place at.Number text t h = no_choice text t h

within_place : (p : FilterPlace) (text : Tree) (t : Token) → BeginsWithin (CanBePart (place_syntax p)) text t →
    BeginsPlace p text t
within_place at.Filter text t w = absurd w.can
within_place at.Members text t w = set_of_in Filter [] w
within_place at.Item text t w = absurd w.can
within_place at.Assertion text t w = sequence_in (members attribute) w
within_place at.Identifier text t w = absurd w.can
within_place at.Substrings text t w = list_in substring [] w
within_place at.Substring text t w = absurd w.can
within_place at.Piece text t w = sequence_in (members piece) w
within_place at.Arcs text t w = absurd w.can
within_place at.Number text t w = absurd w.can

called_is : (p : FilterPlace) (name : List ℕ) →
    place_called p name ≡ option_map bare (syntax_called name (place_choice p))
unfolding filter_called item_called identifier_called substring_called
called_is at.Filter name = refl
called_is at.Members name = refl
called_is at.Item name = refl
called_is at.Assertion name = refl
called_is at.Identifier name = refl
called_is at.Substrings name = refl
called_is at.Substring name = refl
called_is at.Piece name = refl
called_is at.Arcs name = refl
called_is at.Number name = refl

at_of : (r : Option FilterPlace) (s : TypeSyntax) (v : Tree) (t : Token) → option_map place_syntax r ≡ Some s →
    BeginsIn t s v → BeginsAt r v t
at_of None s v t is h = absurd (none-some s is)
at_of (Some q) s v t is h = subst (λ z. BeginsIn t z v) (sym (same_Some (place_syntax q) s is)) h

of_at : (r : Option FilterPlace) (o : Option TypeSyntax) (v : Tree) (t : Token) →
    option_map place_syntax r ≡ option_map bare o → BeginsAt r v t →
    (s : TypeSyntax) × (o ≡ Some s) × (BeginsIn t s v)
of_at None o v t is h = absurd h
of_at (Some q) None v t is h = absurd (none-some (place_syntax q) (sym is))
of_at (Some q) (Some s) v t is h =
    (s, refl, from_bare s (subst (λ z. BeginsIn t z v) (same_Some (place_syntax q) (bare s) is) h))

chosen_to : (p : FilterPlace) (text v : Tree) (name : Token) (r : Option FilterPlace) (t : Token) →
    chosen_value text ≡ Some (name, v) → option_map place_syntax r ≡ place_called p name.text →
    BeginsChosen (place_choice p) text t → BeginsAt r v t
chosen_to p text v name r t is told c =
    let same : (c.name, c.value) ≡ (name, v) = same_Some (c.name, c.value) (name, v) (sym c.is ∙ is) in
    let called : syntax_called name.text (place_choice p) ≡ Some c.syntax =
    subst (λ (x : Token × Tree). syntax_called x.0.text (place_choice p) ≡ Some c.syntax) same c.called in
    at_of r (bare c.syntax) v t (told ∙ called_is p name.text ∙ ap (option_map bare) called)
    (to_bare c.syntax (subst (λ (x : Token × Tree). BeginsIn t c.syntax x.1) same c.begins))

chosen_back : (p : FilterPlace) (text v : Tree) (name : Token) (r : Option FilterPlace) (t : Token) →
    chosen_value text ≡ Some (name, v) → option_map place_syntax r ≡ place_called p name.text → BeginsAt r v t →
    BeginsChosen (place_choice p) text t
chosen_back p text v name r t is told h =
    let o = of_at r (syntax_called name.text (place_choice p)) v t (told ∙ called_is p name.text) h in
    record { name = name; value = v; syntax = o.0; is = is; called = o.1; begins = o.2 }

not_chosen : (parts : TypeParts) (text : Tree) (t : Token) → chosen_value text ≡ None → ¬ BeginsChosen parts text t
not_chosen parts text t is c = none-some (c.name, c.value) (sym is ∙ c.is)

-- ---- a value at a place

pub own_only : (p : FilterPlace) (text : Tree) {before after : BegunNames} → chosen_value text ≡ None →
    parts_in text ≡ None → Marks (OwnArcs p text) before after → Marks (BeginsPlace p text) before after
own_only p text none_chosen no_parts h = marked_by (OwnArcs p text) (BeginsPlace p text) (own_place p text)
    (λ t b. elim (place_begins p text t b) as (λ _. OwnArcs p text t) [
      | inl own ↦ own
      | inr (inl c) ↦ absurd (not_chosen (place_choice p) text t none_chosen c)
      | inr (inr w) ↦ absurd (none_within (CanBePart (place_syntax p)) t text no_parts w)
    ]) h

pub own_chosen : (p : FilterPlace) (text v : Tree) (name : Token) (r : Option FilterPlace)
    {before between after : BegunNames} → chosen_value text ≡ Some (name, v) → parts_in text ≡ None →
    option_map place_syntax r ≡ place_called p name.text → Marks (OwnArcs p text) before between →
    Marks (BeginsAt r v) between after → Marks (BeginsPlace p text) before after
own_chosen p text v name r is no_parts told h i =
    marked_by (λ t. OwnArcs p text t ⊎ BeginsAt r v t) (BeginsPlace p text)
    (λ t b. elim b as (λ _. BeginsPlace p text t) [
      | inl own ↦ own_place p text t own
      | inr a ↦ chosen_place p text t (chosen_back p text v name r t is told a)
    ])
    (λ t b. elim (place_begins p text t b) as (λ _. OwnArcs p text t ⊎ BeginsAt r v t) [
      | inl own ↦ inl own
      | inr (inl c) ↦ inr (chosen_to p text v name r t is told c)
      | inr (inr w) ↦ absurd (none_within (CanBePart (place_syntax p)) t text no_parts w)
    ]) (both_marked (OwnArcs p text) (BeginsAt r v) h i)

pub own_parts : (p : FilterPlace) (text : Tree) (xs : List ValuePart) {before between after : BegunNames} →
    chosen_value text ≡ None → parts_in text ≡ Some (list_tree part_tree Empty xs) →
    Marks (OwnArcs p text) before between →
    Marks (AnyFirst (λ part. BeginsPart (CanBePart (place_syntax p)) (part_tree part)) xs) between after →
    Marks (BeginsPlace p text) before after
own_parts p text xs none_chosen braces h i =
    let Parts : FirstSet = AnyFirst (λ part. BeginsPart (CanBePart (place_syntax p)) (part_tree part)) xs in
    marked_by (λ t. OwnArcs p text t ⊎ Parts t) (BeginsPlace p text)
    (λ t b. elim b as (λ _. BeginsPlace p text t) [
      | inl own ↦ own_place p text t own
      | inr a ↦ within_place p text t (within_parts (CanBePart (place_syntax p)) t text xs braces a)
    ])
    (λ t b. elim (place_begins p text t b) as (λ _. OwnArcs p text t ⊎ Parts t) [
      | inl own ↦ inl own
      | inr (inl c) ↦ absurd (not_chosen (place_choice p) text t none_chosen c)
      | inr (inr w) ↦ inr (parts_within (CanBePart (place_syntax p)) t text xs braces w)
    ]) (both_marked (OwnArcs p text) Parts h i)
