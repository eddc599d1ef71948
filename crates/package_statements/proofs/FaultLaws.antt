-- FaultLaws: what is wrong with what packages state, put together from what is wrong with words and with values (X.722,
-- section 8.4; docs/PROFILE.md, section 18).
use Rattle.std.proofs.Common.{◌≡◌, ◌∙◌, ◌⊎◌, ℕ, zero, suc, List, [], ◌∷◌, Option, None, Some, refl}
use Rattle.std.proofs.Common.{arith, inl, inr, sym}
use Rattle.std.specs.Prelude.{◌↔◌, Contains, slice_get}
use Rattle.std.proofs.Math.Path.{subst}
use Rattle.std.proofs.lemmas.Option.{same_Some}
use Rattle.token_grammar.specs.declared.token.Token.{Token}
use Rattle.term_values.specs.Fits.{Fits}
use Rattle.term_values.specs.Syntaxes.{TypeSyntax}
use Rattle.term_values.specs.Typed.{TypedValue}
use Rattle.term_model.specs.WholeRecords.{IsSetValued}
use Rattle.asn1_names.specs.ModuleTerms.{ModuleTerm}
use Rattle.linked_parts.specs.declared.linked.Linked.{Linked}
use Rattle.linked_parts.specs.declared.linked.LinkedName.{LinkedName}
use Rattle.linked_parts.specs.declared.linked.LinkedPackage.{LinkedPackage}
use Rattle.linked_parts.specs.declared.linked.LinkedUse.{LinkedUse}
use Rattle.filled_syntaxes.specs.LinkedMeanings.{linked_arcs, linked_meaning}
use Rattle.class_faults.specs.AttributeSyntaxes.{AttributeHas}
use Rattle.class_faults.specs.FaultSets.{Either, Notes, OneFault}
use Rattle.class_faults.specs.FirstClassFault.{ClassFault}
use Rattle.class_faults.specs.FirstClassFault.ClassFault.{ClassCyclic, DefaultUnequal, PermittedEmpty, SetMissing}
use Rattle.class_faults.specs.FirstClassFault.ClassFault.{ValueBad}
use Rattle.class_faults.specs.StatedProperties.{HasValue}
use Rattle.class_faults.specs.declared.first_fault.ClassFault.{ClassFault as NotedFault}
use Rattle.class_faults.proofs.NotingLaws.{both_noted, none_noted, noted_by}
use Rattle.package_statements.specs.StatedFaults.{StatedFaults}
use Rattle.package_statements.specs.UseFaults.{FaultsOfPackages, MisfitFaults, SaidFaults, UseFaults, ValueFaults}
use Rattle.package_statements.specs.UseFaults.{WordFaults}
use Rattle.package_statements.proofs.StatementLaws.{contained_get}
use Rattle.package_statements.proofs.ValueLaws.{assigned_once}

once : {X : Type 0} (o : Option X) (x y : X) → o ≡ Some x → o ≡ Some y → x ≡ y
once o x y p q = same_Some x y (sym p ∙ q)

-- ---- one fault for another reason

pub noted_for : {Holds Other : Type 0} (kind : ClassFault) (document at : ℕ) {before after : Option NotedFault} →
    Holds ↔ Other → Notes (OneFault Holds kind document at) before after →
    Notes (OneFault Other kind document at) before after
noted_for {Holds} {Other} kind document at same h =
    noted_by (OneFault Holds kind document at) (OneFault Other kind document at)
    (λ k d t fault. (same.0 fault.0, fault.1, fault.2, fault.3))
    (λ k d t fault. (same.1 fault.0, fault.1, fault.2, fault.3)) h

-- ---- words

pub word_noted : (syntax : TypeSyntax) (document : ℕ) (word : Option Token) (said : Token)
    {before after : Option NotedFault} → word ≡ Some said →
    Notes (OneFault (¬ IsSetValued syntax) SetMissing document said.at) before after →
    Notes (WordFaults syntax document word) before after
word_noted syntax document word said is h =
    noted_by (OneFault (¬ IsSetValued syntax) SetMissing document said.at) (WordFaults syntax document word)
    (λ k d t fault. (said, is, fault))
    (λ k d t fault. subst (λ (x : Token). OneFault (¬ IsSetValued syntax) SetMissing document x.at k d t)
    (once word fault.0 said fault.1 is) fault.2) h

pub no_word : (syntax : TypeSyntax) (document : ℕ) (word : Option Token) (before : Option NotedFault) → word ≡ None →
    Notes (WordFaults syntax document word) before before
no_word syntax document word before is =
    none_noted (WordFaults syntax document word) before (λ k d t fault. apart fault.0 (sym is ∙ fault.1))
  where
    apart : (x : Token) → None ≡ Some x → ⊥
    apart x e = absurd (cc)

-- ---- values

module _ (ms : List ModuleTerm) (linked : Linked) (syntax : TypeSyntax) (document : ℕ) where
  pub misfit_noted : (name : LinkedName) (value : TypedValue) {before after : Option NotedFault} →
      HasValue ms linked name value →
      Notes (OneFault (¬ Fits syntax value) ValueBad document name.name.at) before after →
      Notes (MisfitFaults ms linked syntax document name) before after
  misfit_noted name value has h =
      noted_by (OneFault (¬ Fits syntax value) ValueBad document name.name.at)
      (MisfitFaults ms linked syntax document name) (λ k d t fault. (value, has, fault))
      (λ k d t fault. subst (λ v. OneFault (¬ Fits syntax v) ValueBad document name.name.at k d t)
      (assigned_once ms (linked_arcs linked) (linked_meaning ms name.meaning) fault.1 has) fault.2) h

  pub no_value : (name : LinkedName) (before : Option NotedFault) →
      ((value : TypedValue) → ¬ HasValue ms linked name value) →
      Notes (MisfitFaults ms linked syntax document name) before before
  no_value name before without =
      none_noted (MisfitFaults ms linked syntax document name) before (λ k d t fault. without fault.0 fault.1)

  pub name_noted : (named : Option LinkedName) (name : LinkedName) {before after : Option NotedFault} →
      named ≡ Some name → Notes (MisfitFaults ms linked syntax document name) before after →
      Notes (ValueFaults ms linked syntax document named) before after
  name_noted named name is h =
      noted_by (MisfitFaults ms linked syntax document name) (ValueFaults ms linked syntax document named)
      (λ k d t fault. (name, is, fault))
      (λ k d t fault. subst (λ n. MisfitFaults ms linked syntax document n k d t)
      (once named fault.0 name fault.1 is) fault.2) h

  pub no_name : (named : Option LinkedName) (before : Option NotedFault) → named ≡ None →
      Notes (ValueFaults ms linked syntax document named) before before
  no_name named before is = none_noted (ValueFaults ms linked syntax document named) before
      (λ k d t fault. apart fault.0 (sym is ∙ fault.1))
    where
      apart : (x : LinkedName) → None ≡ Some x → ⊥
      apart x e = absurd (cc)

  -- ---- all that is stated of an attribute

  pub said_noted : (stated : LinkedUse) {before add remove default_ after : Option NotedFault} →
      Notes (WordFaults syntax document stated.add) before add →
      Notes (WordFaults syntax document stated.remove) add remove →
      Notes (ValueFaults ms linked syntax document stated.default_value) remove default_ →
      Notes (ValueFaults ms linked syntax document stated.initial_value) default_ after →
      Notes (SaidFaults ms linked syntax document stated) before after
  said_noted stated p q r s =
      both_noted (WordFaults syntax document stated.add)
      (Either (WordFaults syntax document stated.remove)
      (Either (ValueFaults ms linked syntax document stated.default_value)
      (ValueFaults ms linked syntax document stated.initial_value))) p
      (both_noted (WordFaults syntax document stated.remove)
      (Either (ValueFaults ms linked syntax document stated.default_value)
      (ValueFaults ms linked syntax document stated.initial_value)) q
      (both_noted (ValueFaults ms linked syntax document stated.default_value)
      (ValueFaults ms linked syntax document stated.initial_value) r s))

module _ (ms : List ModuleTerm) (linked : Linked) (document : ℕ) (stated : LinkedUse) where
  abbrev Has : Option TypeSyntax → Type 0
  Has found = (syntax : TypeSyntax) → (found ≡ Some syntax) ↔ AttributeHas ms linked stated.attribute syntax

  pub use_noted : (found : Option TypeSyntax) (syntax : TypeSyntax) {before after : Option NotedFault} →
      found ≡ Some syntax → Has found → Notes (SaidFaults ms linked syntax document stated) before after →
      Notes (UseFaults ms linked document stated) before after
  use_noted found syntax is has h =
      noted_by (SaidFaults ms linked syntax document stated) (UseFaults ms linked document stated)
      (λ k d t fault. (syntax, (has syntax).0 is, fault))
      (λ k d t fault. subst (λ s. SaidFaults ms linked s document stated k d t)
      (once found fault.0 syntax ((has fault.0).1 fault.1) is) fault.2) h

  pub no_use : (found : Option TypeSyntax) (before : Option NotedFault) → found ≡ None → Has found →
      Notes (UseFaults ms linked document stated) before before
  no_use found before is has = none_noted (UseFaults ms linked document stated) before
      (λ k d t fault. apart fault.0 (sym is ∙ (has fault.0).1 fault.1))
    where
      apart : (x : TypeSyntax) → None ≡ Some x → ⊥
      apart x e = absurd (cc)

-- ---- these are the faults of packages

get_contained : {X : Type 0} (xs : List X) (k : ℕ) (x : X) → slice_get xs k ≡ Some x → Contains xs x
get_contained [] k x is = absurd (cc)
get_contained (y ∷ xs) zero x is = (0, omega arith, same_Some y x is)
get_contained (y ∷ xs) (suc k) x is =
    let rest = get_contained xs k x is in
    let within = rest.1 in (suc rest.0, omega (arith, within), rest.2)

module _ (ms : List ModuleTerm) (linked : Linked) where
  -- a fault of this kind, at this token
  moved : (kind its_kind : ClassFault) (document its_document at token : ℕ) → kind ≡ its_kind →
      document ≡ its_document → at ≡ token → StatedFaults ms linked kind document at →
      StatedFaults ms linked its_kind its_document token
  moved kind its_kind document its_document at token k d t fault =
      subst (λ z. StatedFaults ms linked z its_document token) k
      (subst (λ z. StatedFaults ms linked kind z token) d
      (subst (λ z. StatedFaults ms linked kind document z) t fault))

  -- a statement of a package, at their places
  record IsStatedIn (place : ℕ) (part : LinkedPackage) (stated : LinkedUse) (syntax : TypeSyntax) : Type 0 where
    pub stands : slice_get linked.packages.items place ≡ Some part
    pub says : Contains part.attributes.items stated
    pub has : AttributeHas ms linked stated.attribute syntax

  module _ (place : ℕ) (part : LinkedPackage) (stated : LinkedUse) (syntax : TypeSyntax)
      (here : IsStatedIn place part stated syntax) where
    word_told : (kind : ClassFault) (document token : ℕ) (word : Option Token) →
        ((said : Token) → word ≡ Some said → (stated.add ≡ Some said) ⊎ (stated.remove ≡ Some said)) →
        WordFaults syntax part.head.document word kind document token → StatedFaults ms linked kind document token
    word_told kind document token word which (said, is, (no_set, k, d, t)) =
        moved SetMissing kind part.head.document document said.at token k d t (record {
          stated = stated;
          is_word = record {
            place = place;
            of_package = part;
            stands = here.stands;
            says = here.says;
            in_document = refl;
            word = said;
            is_word = which said is;
            at_token = refl;
          };
          syntax = syntax;
          has = here.has;
          no_set = no_set;
        })

    value_told : (kind : ClassFault) (document token : ℕ) (named : Option LinkedName) →
        ((name : LinkedName) → named ≡ Some name → (stated.default_value ≡ Some name)
        ⊎ (stated.initial_value ≡ Some name)) →
        ValueFaults ms linked syntax part.head.document named kind document token →
        StatedFaults ms linked kind document token
    value_told kind document token named which (name, is, (value, has_value, (misfit, k, d, t))) =
        moved ValueBad kind part.head.document document name.name.at token k d t (record {
          place = place;
          of_package = part;
          stands = here.stands;
          in_document = refl;
          stated = stated;
          says = here.says;
          name = name;
          is_stated = which name is;
          at_token = refl;
          value = value;
          has_value = has_value;
          syntax = syntax;
          has = here.has;
          misfit = misfit;
        })

    said_told : (kind : ClassFault) (document token : ℕ) →
        SaidFaults ms linked syntax part.head.document stated kind document token →
        StatedFaults ms linked kind document token
    said_told kind document token (inl fault) =
        word_told kind document token stated.add (λ said is. inl is) fault
    said_told kind document token (inr (inl fault)) =
        word_told kind document token stated.remove (λ said is. inr is) fault
    said_told kind document token (inr (inr (inl fault))) =
        value_told kind document token stated.default_value (λ name is. inl is) fault
    said_told kind document token (inr (inr (inr fault))) =
        value_told kind document token stated.initial_value (λ name is. inr is) fault

  stated_told : (kind : ClassFault) (document token : ℕ) → FaultsOfPackages ms linked kind document token →
      StatedFaults ms linked kind document token
  stated_told kind document token (place, part, stands, (k, stated, at, (syntax, has, fault))) =
      said_told place part stated syntax
      (record { stands = stands; says = get_contained part.attributes.items k stated at; has = has })
      kind document token fault

  -- the other way
  word_within : (document token : ℕ) (syntax : TypeSyntax) (stated : LinkedUse) (said : Token) (its_document : ℕ) →
      ¬ IsSetValued syntax → its_document ≡ document → said.at ≡ token →
      (stated.add ≡ Some said) ⊎ (stated.remove ≡ Some said) →
      SaidFaults ms linked syntax its_document stated SetMissing document token
  word_within document token syntax stated said its_document no_set d t (inl is) =
      inl (said, is, (no_set, refl, d, t))
  word_within document token syntax stated said its_document no_set d t (inr is) =
      inr (inl (said, is, (no_set, refl, d, t)))

  value_within : (document token : ℕ) (syntax : TypeSyntax) (stated : LinkedUse) (name : LinkedName) (its_document : ℕ)
      (value : TypedValue) → HasValue ms linked name value → ¬ Fits syntax value → its_document ≡ document →
      name.name.at ≡ token → (stated.default_value ≡ Some name) ⊎ (stated.initial_value ≡ Some name) →
      SaidFaults ms linked syntax its_document stated ValueBad document token
  value_within document token syntax stated name its_document value has misfit d t (inl is) =
      inr (inr (inl (name, is, (value, has, (misfit, refl, d, t)))))
  value_within document token syntax stated name its_document value has misfit d t (inr is) =
      inr (inr (inr (name, is, (value, has, (misfit, refl, d, t)))))

  told_stated : (kind : ClassFault) (document token : ℕ) → StatedFaults ms linked kind document token →
      FaultsOfPackages ms linked kind document token
  told_stated ClassCyclic document token fault = absurd fault
  told_stated DefaultUnequal document token fault = absurd fault
  told_stated PermittedEmpty document token fault = absurd fault
  told_stated SetMissing document token fault =
      let w = fault.is_word in
      let at = contained_get w.of_package.attributes.items fault.stated w.says in (
        w.place,
        w.of_package,
        w.stands,
        (
          at.0,
          fault.stated,
          at.1,
          (
            fault.syntax,
            fault.has,
            word_within document token fault.syntax fault.stated w.word w.of_package.head.document fault.no_set
                w.in_document w.at_token w.is_word,
          ),
        ),
      )
  told_stated ValueBad document token fault =
      let at = contained_get fault.of_package.attributes.items fault.stated fault.says in (
        fault.place,
        fault.of_package,
        fault.stands,
        (
          at.0,
          fault.stated,
          at.1,
          (
            fault.syntax,
            fault.has,
            value_within document token fault.syntax fault.stated fault.name fault.of_package.head.document fault.value
                fault.has_value fault.misfit fault.in_document fault.at_token fault.is_stated,
          ),
        ),
      )

  pub all_noted : {before after : Option NotedFault} → Notes (FaultsOfPackages ms linked) before after →
      Notes (StatedFaults ms linked) before after
  all_noted h = noted_by (FaultsOfPackages ms linked) (StatedFaults ms linked) stated_told told_stated h
