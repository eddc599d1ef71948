-- FirstNameLaws: which names are assigned and which are known, by the tables of names, and what is wrong with a name.
use Rattle.std.proofs.Common.{◌≡◌, ◌∙◌, ◌⊎◌, ℕ, List, Bool, true, false, Option, None, Some, refl, sym, inl, inr}
use Rattle.std.proofs.Common.{subst}
use Rattle.std.specs.Prelude.{◌↔◌, ◌||◌, is_some}
use Rattle.std.specs.Cmp.Lexicographic.{bytes_decides, same_text}
use Rattle.std.proofs.lemmas.Option.{none-some}
use Rattle.token_grammar.specs.declared.token.Token.{Token}
use Rattle.token_grammar.specs.Form.{Tree}
use Rattle.asn1_names.specs.ModuleTerms.{AssignedTerm, NumberTerm, TypeTerm}
use Rattle.asn1_names.specs.ModuleTerms.AssignedTerm.{AssignsType, AssignsValue}
use Rattle.asn1_names.specs.NameMeaning.{assigned_in, assigned_meaning}
use Rattle.asn1_names.specs.NameMeaning.Meaning.{TypeAt, ValueAt, Nothing}
use Rattle.asn1_names.specs.StandardModule.{standard_type}
use Rattle.gdmo_first_names.specs.DefinedNames.{AssignsName, TellsAssigned, TellsDefined}
use Rattle.gdmo_first_names.proofs.OwnLaws.{OwnNamed, OwnNone, named_means, own_named}
use Rattle.gdmo_names.specs.declared.first_fault.LabelFault.{LabelFault as NotedFault}
use Rattle.gdmo_names.specs.FaultSets.{Notes}
use Rattle.gdmo_names.specs.FirstLabelFault.{LabelFault}
use Rattle.gdmo_names.specs.FirstNames.{DefinesName, HasArcs, IsAssigned, root_arc}
use Rattle.gdmo_names.specs.FirstNames.IsAssigned.{type_of, value_of, standard}
use Rattle.gdmo_names.specs.FirstNames.HasArcs.{number, root, defined}
use Rattle.gdmo_names.specs.PartTerms.{PartTerms, module_terms_of}
use Rattle.gdmo_names.specs.TemplateTerms.{IdentifierTerm}
use Rattle.gdmo_names.proofs.NotingLaws.{none_noted, noted_by}
use Rattle.gdmo_identifiers.specs.IdentifierFaults.{IsKnownName, IsKnownTerm, NameFaults, NamedFaults}

-- ---- names that are assigned

assigned_by : (parts : PartTerms) (name : List ℕ) (m i : ℕ) (assigned : AssignedTerm) →
    assigned_in (module_terms_of parts) m name ≡ assigned_meaning m i assigned → IsAssigned parts name
assigned_by parts name m i (AssignsType of) h = type_of h
assigned_by parts name m i (AssignsValue of stated text) h = value_of h

of_number : (parts : PartTerms) (name : List ℕ) (k : ℕ) → AssignsName parts name k → IsAssigned parts name
of_number parts name k a =
    let own = named_means (module_terms_of parts) k a.numbered name a.at
    ((bytes_decides a.numbered.assignment.name.text name).1 a.named) in
    assigned_by parts name a.numbered.in_module own.numbered.place own.numbered.assignment.assigned own.means

own_number : (parts : PartTerms) (name : List ℕ) (m : ℕ) → OwnNamed (module_terms_of parts) m name →
    (k : ℕ) × AssignsName parts name k
own_number parts name m own = (
  own.k,
  record {
    numbered = own.numbered;
    at = own.at;
    named = same_text own.numbered.assignment.name.text name (sym own.called);
  },
)

nothing_type : {P : Type 0} (m : ℕ) {i : ℕ} {of : TypeTerm} → Nothing ≡ TypeAt m i of → P
nothing_type m h = absurd (cc)

nothing_value : {P : Type 0} (m : ℕ) {i : ℕ} {of : TypeTerm} {stated : Option NumberTerm} {text : Tree} →
    Nothing ≡ ValueAt m i of stated text → P
nothing_value m h = absurd (cc)

is_numbered : (parts : PartTerms) (name : List ℕ) (m : ℕ) →
    (assigned_in (module_terms_of parts) m name ≡ Nothing → ⊥) → (k : ℕ) × AssignsName parts name k
is_numbered parts name m some = by (own_named (module_terms_of parts) m name)
  where
    by : OwnNone (module_terms_of parts) m name ⊎ OwnNamed (module_terms_of parts) m name →
        (k : ℕ) × AssignsName parts name k
    by (inl none_there) = absurd (some none_there.means)
    by (inr own) = own_number parts name m own

is_some_by : {X : Type 0} (o : Option X) → (o ≡ None → ⊥) → is_some o ≡ true
is_some_by None h = absurd (h refl)
is_some_by (Some x) h = refl

left_holds : (a b : Bool) → a ≡ true → (a || b) ≡ true
left_holds true b h = refl
left_holds false b h = absurd (cc)

right_holds : (a b : Bool) → b ≡ true → (a || b) ≡ true
right_holds true b h = refl
right_holds false true h = refl
right_holds false false h = absurd (cc)

pub assigned_told : (parts : PartTerms) (name : List ℕ) (told : Option ℕ) → TellsAssigned parts name told →
    (is_some told || is_some (standard_type name)) ≡ true ↔ IsAssigned parts name
assigned_told parts name told t = (to told t, from)
  where
    standard_by : (o : Option _) → standard_type name ≡ o → is_some o ≡ true → IsAssigned parts name
    standard_by None is h = absurd (cc)
    standard_by (Some x) is h = standard (λ none_is. none-some x (sym none_is ∙ is))

    to : (o : Option ℕ) → TellsAssigned parts name o → (is_some o || is_some (standard_type name)) ≡ true →
        IsAssigned parts name
    to (Some k) own h = of_number parts name k own
    to None own h = standard_by (standard_type name) refl h

    told_by : (o : Option ℕ) → TellsAssigned parts name o → (k : ℕ) × AssignsName parts name k → is_some o ≡ true
    told_by None own found_one = absurd (own found_one.0 found_one.1)
    told_by (Some k) own found_one = refl

    from : IsAssigned parts name → (is_some told || is_some (standard_type name)) ≡ true
    from (type_of {m = m} h) = left_holds (is_some told) (is_some (standard_type name)) (told_by told t
        (is_numbered parts name m (λ nothing. nothing_type m (sym nothing ∙ h))))
    from (value_of {m = m} h) = left_holds (is_some told) (is_some (standard_type name)) (told_by told t
        (is_numbered parts name m (λ nothing. nothing_value m (sym nothing ∙ h))))
    from (standard h) = right_holds (is_some told) (is_some (standard_type name))
        (is_some_by (standard_type name) h)

-- ---- names that are known

pub known_told : (parts : PartTerms) (name : List ℕ) (told : Option ℕ) → TellsDefined parts name told →
    (is_some (root_arc name) || is_some told) ≡ true ↔ IsKnownName parts name
known_told parts name told t = (to (root_arc name) told refl t, from)
  where
    to : (arc o : Option ℕ) → root_arc name ≡ arc → TellsDefined parts name o → (is_some arc || is_some o) ≡ true →
        IsKnownName parts name
    to (Some arc) o is own h = inl (λ none_is. none-some arc (sym none_is ∙ is))
    to None (Some k) is own h = inr (own.numbered.in_module, own.numbered.place, own.defines.defines)
    to None None is own h = absurd (cc)

    told_by : (arc o : Option ℕ) → root_arc name ≡ arc → TellsDefined parts name o →
        (m i : ℕ) → DefinesName parts name m i → (is_some arc || is_some o) ≡ true
    told_by (Some arc) o is own m i d = refl
    told_by None None is own m i d = absurd (own is m i d)
    told_by None (Some k) is own m i d = refl

    from : IsKnownName parts name → (is_some (root_arc name) || is_some told) ≡ true
    from (inl h) = left_holds (is_some (root_arc name)) (is_some told) (is_some_by (root_arc name) h)
    from (inr d) = told_by (root_arc name) told refl t d.0 d.1 d.2

-- ---- what is wrong with a name

known_faultless : (parts : PartTerms) (its : ℕ) (name : Token) → IsKnownName parts name.text → (kind : LabelFault)
    (document token : ℕ) → ¬ NameFaults parts its name kind document token
known_faultless parts its name (inl some) kind document token (inl fault) = some fault.0.no_root
known_faultless parts its name (inl some) kind document token (inr fault) = some fault.0.no_root
known_faultless parts its name (inr d) kind document token (inl fault) = fault.0.unassigned (value_of d.2.means)
known_faultless parts its name (inr d) kind document token (inr fault) = fault.0.undefined d.0 d.1 d.2

pub known_noted : (parts : PartTerms) (its : ℕ) (name : Token) (before : Option NotedFault) →
    IsKnownName parts name.text → Notes (NameFaults parts its name) before before
known_noted parts its name before known =
    none_noted (NameFaults parts its name) before (known_faultless parts its name known)

no_root_by : (parts : PartTerms) (name : List ℕ) → ¬ IsKnownName parts name → root_arc name ≡ None
no_root_by parts name unknown = by (root_arc name) refl
  where
    by : (arc : Option ℕ) → root_arc name ≡ arc → root_arc name ≡ None
    by None is = is
    by (Some arc) is = absurd (unknown (inl (λ none_is. none-some arc (sym none_is ∙ is))))

pub unknown_noted : (parts : PartTerms) (its : ℕ) (name : Token) {before after : Option NotedFault} →
    ¬ IsKnownName parts name.text → Notes (NamedFaults parts its name) before after →
    Notes (NameFaults parts its name) before after
unknown_noted parts its name unknown h =
    noted_by (NamedFaults parts its name) (NameFaults parts its name) to from h
  where
    no_root : root_arc name.text ≡ None
    no_root = no_root_by parts name.text unknown

    to : (kind : LabelFault) (document token : ℕ) → NamedFaults parts its name kind document token →
        NameFaults parts its name kind document token
    to kind document token (inl fault) =
        inl (record { no_root = no_root; unassigned = fault.0 }, fault.1, fault.2, fault.3)
    to kind document token (inr fault) = inr (
      record { no_root = no_root; assigned = fault.0; undefined = λ m i d. unknown (inr (m, i, d)) },
      fault.1,
      fault.2,
      fault.3,
    )

    from : (kind : LabelFault) (document token : ℕ) → NameFaults parts its name kind document token →
        NamedFaults parts its name kind document token
    from kind document token (inl fault) = inl (fault.0.unassigned, fault.1, fault.2, fault.3)
    from kind document token (inr fault) = inr (fault.0.assigned, fault.1, fault.2, fault.3)

-- ---- the first arc of an identifier that has arcs is known

pub known_first : {parts : PartTerms} {x : IdentifierTerm} {arcs : List ℕ} → HasArcs parts x arcs →
    IsKnownTerm parts x.first
known_first {parts} (number h) = subst (IsKnownTerm parts) (sym h) tt
known_first {parts} (root {arc = arc} h j) =
    subst (IsKnownTerm parts) (sym h) (inl (λ none_is. none-some arc (sym none_is ∙ j)))
known_first {parts} (defined {m = m} {i = i} h j f s d) = subst (IsKnownTerm parts) (sym h) (inr (m, i, f.defines))
