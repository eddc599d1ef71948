-- ModuleLaws: the values of assignments and those behind DEFAULT in their types are those of modules.
use Rattle.std.proofs.Common.{◌≡◌, ◌∙◌, ◌⊎◌, ℕ, List, [], Option, None, Some, refl, sym, ap, arith, inl, inr}
use Rattle.std.proofs.Common.{map, subst}
use Rattle.std.proofs.lemmas.Option.{none-some, same_Some}
use Rattle.std.specs.declared.alloc.Global.{Global}
use Rattle.std.specs.declared.vec.Vec.{Vec}
use Rattle.token_grammar.specs.declared.token.Token.{Token}
use Rattle.token_grammar.specs.Form.{Tree}
use Rattle.term_values.specs.Syntaxes.{TypeSyntax}
use Rattle.asn1_values_syntax.specs.declared.constraint.Constraint.{Constraint}
use Rattle.asn1_syntax.specs.declared.plain_type.PlainType.TheVariants.{Named}
use Rattle.asn1_syntax.specs.declared.plain_type.TypeName.{TypeName}
use Rattle.asn1_syntax.specs.declared.type_text.TypeText.TheVariants.{Plain as APlain}
use Rattle.asn1_names.specs.AssignmentNumbers.{Numbered, assignment_count, numbered_at}
use Rattle.asn1_names.specs.CodeMeanings.{IsAssignment, IsTypeNumber, IsValueNumber, named_module, named_type}
use Rattle.asn1_names.specs.Constraining.{Constrains}
use Rattle.asn1_names.specs.Constraining.Constrains.{no_more}
use Rattle.asn1_names.specs.DenotedSyntax.{Denotes}
use Rattle.asn1_names.specs.DenotedSyntax.Denotes.{named, standard}
use Rattle.asn1_names.specs.ModuleTerms.{AssignmentTerm, ModuleTerm, NumberTerm}
use Rattle.asn1_names.specs.ModuleTerms.{TypeTerm}
use Rattle.asn1_names.specs.ModuleTerms.AssignedTerm.{AssignsType, AssignsValue}
use Rattle.asn1_names.specs.ModuleTerms.TypeTerm.{Reference}
use Rattle.asn1_names.specs.NameMeaning.{Meaning, reference_meaning}
use Rattle.asn1_names.specs.NameMeaning.Meaning.{Nothing, StandardType, TypeAt, ValueAt}
use Rattle.asn1_names.specs.Occurrences.{type_assigned}
use Rattle.asn1_names.specs.ResolvedTypes.{HasSyntax}
use Rattle.asn1_names.specs.ResolvedTypes.HasSyntax.{of_type, of_value, of_standard}
use Rattle.asn1_names.specs.TermViews.{limit_term, plain_term, type_term}
use Rattle.asn1_names.specs.declared.name_tables.Meaning.{Meaning as CodeMeaning}
use Rattle.asn1_names.specs.declared.name_tables.Meaning.TheVariants as code
use Rattle.asn1_names.proofs.WalkLaws.{named_is}
use Rattle.asn1_types.specs.ToldMeanings.{TellsSyntax}
use Rattle.asn1_types.proofs.NumberedLaws.{home_of, number_below, type_is_assigned}
use Rattle.asn1_numbers.proofs.StandingLaws.{number_there}
use Rattle.gdmo_names.specs.ValueNames.{BeginsIn}
use Rattle.gdmo_types.proofs.StepLaws.{contained_get, get_contained}
use Rattle.gdmo_begun_names.specs.declared.begun_names.BegunNames.{BegunNames}
use Rattle.gdmo_begun_names.specs.BegunMarks.{Marks}
use Rattle.gdmo_begun_names.proofs.MarkLaws.{both_marked, marked_by, none_marked}
use Rattle.begun_values.specs.DefaultNames.{DefaultFirsts, DenotedFirsts, MayFirsts}
use Rattle.begun_values.specs.MeantSyntaxes.{BeginsMaybe, BeginsOf, DenotesThis, MeansType}
use Rattle.begun_values.specs.ModuleValues.{AssignedFirsts, BelowFirsts, DefaultFirstsAt, IsAssignedValue, IsLast}
use Rattle.begun_values.specs.ModuleValues.{IsModuleValue, IsNameOf, ModuleFirsts}
use Rattle.begun_values.specs.ModuleValues.IsModuleValue.{assigned, default}
use Rattle.begun_values.specs.declared.module_values.LastSyntax.{LastSyntax}
use Rattle.begun_values.proofs.MeantLaws.{meant_marked, of_may, syntaxes_marked}

-- ---- names without constraints

pub bare : (name : TypeName) (constraints : Vec Constraint Global) → constraints.items ≡ [] →
    type_term (APlain (Named name) constraints) ≡ Reference (named_module name) (named_type name) []
bare name constraints empty =
    ap (λ xs. plain_term (Named name) (map limit_term xs)) empty ∙ named_is name []

named_has : (ms : List ModuleTerm) (meant : Meaning) (v i : ℕ) (of : TypeTerm) (syntax : TypeSyntax) →
    meant ≡ TypeAt v i of → Denotes ms v of syntax → HasSyntax ms meant syntax
named_has ms meant v i of syntax is d = subst (λ m. HasSyntax ms m syntax) (sym is) (of_type d)

standard_has : (ms : List ModuleTerm) (meant : Meaning) (syntax : TypeSyntax) → meant ≡ StandardType syntax →
    HasSyntax ms meant syntax
standard_has ms meant syntax is = subst (λ m. HasSyntax ms m syntax) (sym is) of_standard

unconstrained : {ms : List ModuleTerm} {m : ℕ} {of : TypeTerm} {before after : TypeSyntax} →
    Constrains ms m of [] before after → before ≡ after
unconstrained no_more = refl

denoted_name : (ms : List ModuleTerm) (m : ℕ) (module_name : Option Token) (name : Token) {syntax : TypeSyntax} →
    Denotes ms m (Reference module_name name []) syntax → HasSyntax ms (reference_meaning ms m module_name name) syntax
denoted_name ms m module_name name (named {v = v} {i = i} {of = of} {unlimited = unlimited} is d c) =
    subst (HasSyntax ms (reference_meaning ms m module_name name)) (unconstrained c)
    (named_has ms (reference_meaning ms m module_name name) v i of unlimited is d)
denoted_name ms m module_name name (standard {unlimited = unlimited} is c) =
    subst (HasSyntax ms (reference_meaning ms m module_name name)) (unconstrained c)
    (standard_has ms (reference_meaning ms m module_name name) unlimited is)

name_denoted : (ms : List ModuleTerm) (m : ℕ) (module_name : Option Token) (name : Token) (meant : Meaning)
    (syntax : TypeSyntax) (target : ℕ) → reference_meaning ms m module_name name ≡ meant → IsTypeNumber ms target meant →
    HasSyntax ms meant syntax → Denotes ms m (Reference module_name name []) syntax
name_denoted ms m module_name name (TypeAt v i of) syntax target is number (of_type d) = named is d no_more
name_denoted ms m module_name name (ValueAt v i of stated text) syntax target is number h =
    absurd (let e = number.is in cc)
name_denoted ms m module_name name (StandardType own) syntax target is number h = absurd (let e = number.is in cc)
name_denoted ms m module_name name Nothing syntax target is number h = absurd (let e = number.is in cc)

-- the syntax that is kept is that of the type, where this is the name
pub kept_marked : (ms : List ModuleTerm) (m : ℕ) (of : TypeTerm) (target : ℕ) (last : LastSyntax) (text : Tree)
    {before after : BegunNames} → IsLast ms last → last.target ≡ target → IsNameOf ms m of target →
    Marks (BeginsMaybe last.syntax text) before after → Marks (BeginsOf (Denotes ms m of) text) before after
kept_marked ms m of target last text {before = before} {after = after} is same name h =
    let meant = reference_meaning ms m name.module_name name.name in
    subst (λ t. Marks (BeginsOf (Denotes ms m t) text) before after) (sym name.is)
    (syntaxes_marked (HasSyntax ms meant) (Denotes ms m (Reference name.module_name name.name [])) text
    (λ s has. name_denoted ms m name.module_name name.name meant s target refl name.means has)
    (λ s d. denoted_name ms m name.module_name name.name d)
    (meant_marked ms meant last.syntax text
    (is meant (subst (λ n. IsTypeNumber ms n meant) (sym same) name.means)) h))

-- nothing is kept at first
pub nothing_last : (ms : List ModuleTerm) (last : LastSyntax) → last.target ≡ assignment_count ms → IsLast ms last
nothing_last ms last same = λ meant number.
    let below = number_below ms last.target number.numbered number.at in absurd (omega (arith, below, same))

-- ---- a value that is assigned

value_has : {ms : List ModuleTerm} {m i : ℕ} {of : TypeTerm} {stated : Option NumberTerm} {text : Tree}
    {syntax : TypeSyntax} → HasSyntax ms (ValueAt m i of stated text) syntax → Denotes ms m of syntax
value_has (of_value d) = d

type_has : {ms : List ModuleTerm} {m i : ℕ} {of : TypeTerm} {syntax : TypeSyntax} →
    HasSyntax ms (TypeAt m i of) syntax → Denotes ms m of syntax
type_has (of_type d) = d

abbrev value_meant : {ms : List ModuleTerm} {number m : ℕ} {of : TypeTerm} {text : Tree} →
    IsAssignedValue ms number m of text → Meaning
value_meant {of = of} {text = text} x = ValueAt x.numbered.in_module x.numbered.place of x.stated text

pub value_marked : (ms : List ModuleTerm) (number m : ℕ) (of : TypeTerm) (text : Tree) {before after : BegunNames} →
    IsAssignedValue ms number m of text → ((meant : Meaning) → IsValueNumber ms number meant →
    Marks (BeginsOf (HasSyntax ms meant) text) before after) → Marks (BeginsOf (Denotes ms m of) text) before after
value_marked ms number m of text {before = before} {after = after} x marked =
    syntaxes_marked (HasSyntax ms (value_meant x)) (Denotes ms m of) text
    (λ s has. subst (λ k. Denotes ms k of s) x.module_is (value_has has))
    (λ s d. of_value (subst (λ k. Denotes ms k of s) (sym x.module_is) d))
    (marked (value_meant x) (record {
      numbered = x.numbered;
      at = x.at;
      of = of;
      stated = x.stated;
      text = text;
      assigns = x.assigns;
      is = refl;
    }))

pub assigned_value : (ms : List ModuleTerm) (number m : ℕ) (assignment : AssignmentTerm) (of : TypeTerm)
    (stated : Option NumberTerm) (text : Tree) → IsAssignment ms number m assignment →
    assignment.assigned ≡ AssignsValue of stated text → IsAssignedValue ms number m of text
assigned_value ms number m assignment of stated text is assigns = record {
  numbered = is.numbered;
  at = is.at;
  module_is = is.module_is;
  stated = stated;
  assigns = ap (λ (a : AssignmentTerm). a.assigned) is.is ∙ assigns;
}

-- it is the one of its number
same_value : (of own : TypeTerm) (stated number : Option NumberTerm) (text said : Tree) →
    AssignsValue of stated text ≡ AssignsValue own number said → (of ≡ own) × (text ≡ said)
same_value of own stated number text said e = (cc, cc)

number_value : (ms : List ModuleTerm) (number m : ℕ) (of : TypeTerm) (text : Tree) (t : Token) →
    IsAssignedValue ms number m of text → AssignedFirsts ms number t → BeginsOf (Denotes ms m of) text t
number_value ms number m of text t x h =
    let same : h.numbered ≡ x.numbered = same_Some h.numbered x.numbered (sym h.at ∙ x.at) in
    let parts = same_value h.of of h.stated x.stated h.text text
    (sym h.assigns ∙ ap (λ (n : Numbered). n.assignment.assigned) same ∙ x.assigns) in
    let home : h.numbered.in_module ≡ m = ap (λ (n : Numbered). n.in_module) same ∙ x.module_is in
    subst (λ z. BeginsOf (Denotes ms m of) z t) parts.1
    (subst (λ z. BeginsOf (Denotes ms m z) h.text t) parts.0
    (subst (λ k. BeginsOf (Denotes ms k h.of) h.text t) home h.begins))

pub number_marked : (ms : List ModuleTerm) (number m : ℕ) (of : TypeTerm) (text : Tree) {before after : BegunNames} →
    IsAssignedValue ms number m of text → Marks (BeginsOf (Denotes ms m of) text) before after →
    Marks (AssignedFirsts ms number) before after
number_marked ms number m of text x h = marked_by (BeginsOf (Denotes ms m of) text) (AssignedFirsts ms number)
    (λ t b. record {
      numbered = x.numbered;
      at = x.at;
      of = of;
      stated = x.stated;
      text = text;
      assigns = x.assigns;
      begins = subst (λ k. BeginsOf (Denotes ms k of) text t) (sym x.module_is) b;
    }) (λ t b. number_value ms number m of text t x b) h

type_no_value : (of own : TypeTerm) (stated : Option NumberTerm) (text : Tree) →
    AssignsType of ≡ AssignsValue own stated text → ⊥
type_no_value of own stated text e = absurd (cc)

-- a type is assigned, or nothing
pub type_marked : (ms : List ModuleTerm) (number m : ℕ) (assignment : AssignmentTerm) (of : TypeTerm)
    (names : BegunNames) → IsAssignment ms number m assignment → assignment.assigned ≡ AssignsType of →
    Marks (AssignedFirsts ms number) names names
type_marked ms number m assignment of names is assigns = none_marked (AssignedFirsts ms number) names
    (λ t h. let same : h.numbered ≡ is.numbered = same_Some h.numbered is.numbered (sym h.at ∙ is.at) in
    type_no_value of h.of h.stated h.text (sym assigns ∙ sym (ap (λ (a : AssignmentTerm). a.assigned) is.is)
    ∙ sym (ap (λ (n : Numbered). n.assignment.assigned) same) ∙ h.assigns))

pub none_assigned : (ms : List ModuleTerm) (number : ℕ) (names : BegunNames) → numbered_at ms number ≡ None →
    Marks (AssignedFirsts ms number) names names
none_assigned ms number names none_there = none_marked (AssignedFirsts ms number) names
    (λ t h. none-some h.numbered (sym none_there ∙ h.at))

-- ---- values behind DEFAULT

pub means_type : (ms : List ModuleTerm) (number m : ℕ) (assignment : AssignmentTerm) (of : TypeTerm) →
    IsAssignment ms number m assignment → assignment.assigned ≡ AssignsType of →
    MeansType ms m (type_assigned assignment.assigned) (code.TypeAt number)
means_type ms number m assignment of is assigns =
    subst (λ a. MeansType ms m (type_assigned a) (code.TypeAt number)) (sym assigns) (record {
      meant = TypeAt is.numbered.in_module is.numbered.place of;
      means = record {
        numbered = is.numbered;
        at = is.at;
        of = of;
        assigns = ap (λ (a : AssignmentTerm). a.assigned) is.is ∙ assigns;
        is = refl;
      };
      is_there = λ e. absurd (cc);
      has = λ s h. subst (λ k. Denotes ms k of s) is.module_is (type_has h);
    })

pub means_value : (ms : List ModuleTerm) (number m : ℕ) (assignment : AssignmentTerm) (of : TypeTerm)
    (stated : Option NumberTerm) (text : Tree) → IsAssignment ms number m assignment →
    assignment.assigned ≡ AssignsValue of stated text →
    MeansType ms m (type_assigned assignment.assigned) (code.ValueAt number)
means_value ms number m assignment of stated text is assigns =
    subst (λ a. MeansType ms m (type_assigned a) (code.ValueAt number)) (sym assigns) (record {
      meant = ValueAt is.numbered.in_module is.numbered.place of stated text;
      means = record {
        numbered = is.numbered;
        at = is.at;
        of = of;
        stated = stated;
        text = text;
        assigns = ap (λ (a : AssignmentTerm). a.assigned) is.is ∙ assigns;
        is = refl;
      };
      is_there = λ e. absurd (cc);
      has = λ s h. subst (λ k. Denotes ms k of s) is.module_is (value_has h);
    })

-- what is told of it is its syntax
pub told_denoted : (ms : List ModuleTerm) (m : ℕ) (of : TypeTerm) (meant : Meaning) (told : Option TypeSyntax) →
    ((syntax : TypeSyntax) → HasSyntax ms meant syntax → Denotes ms m of syntax) → ¬ (meant ≡ Nothing) →
    TellsSyntax ms meant told → DenotesThis ms m of told
told_denoted ms m of meant None has is_there tells = is_there tells
told_denoted ms m of meant (Some syntax) has is_there tells = has syntax tells

pub defaults_marked : (ms : List ModuleTerm) (number m : ℕ) (assignment : AssignmentTerm)
    {before after : BegunNames} → IsAssignment ms number m assignment →
    Marks (DefaultFirsts (DenotedFirsts ms m) (type_assigned assignment.assigned)) before after →
    Marks (DefaultFirstsAt ms number) before after
defaults_marked ms number m assignment {before = before} {after = after} is h =
    marked_by (DefaultFirsts (DenotedFirsts ms m) (type_assigned assignment.assigned)) (DefaultFirstsAt ms number)
    (λ t b. record {
      numbered = is.numbered;
      at = is.at;
      begins = subst (λ k. DefaultFirsts (DenotedFirsts ms k) (type_assigned is.numbered.assignment.assigned) t)
          (sym is.module_is) (subst (λ (a : AssignmentTerm). DefaultFirsts (DenotedFirsts ms m) (type_assigned a.assigned)
          t) (sym is.is) b);
    })
    (λ t b. let same : b.numbered ≡ is.numbered = same_Some b.numbered is.numbered (sym b.at ∙ is.at) in
    subst (λ (a : AssignmentTerm). DefaultFirsts (DenotedFirsts ms m) (type_assigned a.assigned) t) is.is
    (subst (λ k. DefaultFirsts (DenotedFirsts ms k) (type_assigned is.numbered.assignment.assigned) t) is.module_is
    (subst (λ (n : Numbered). DefaultFirsts (DenotedFirsts ms n.in_module) (type_assigned n.assignment.assigned) t) same
    b.begins))) h

pub none_defaults : (ms : List ModuleTerm) (number : ℕ) (names : BegunNames) → numbered_at ms number ≡ None →
    Marks (DefaultFirstsAt ms number) names names
none_defaults ms number names none_there = none_marked (DefaultFirstsAt ms number) names
    (λ t h. none-some h.numbered (sym none_there ∙ h.at))

-- ---- those of all numbers are those of modules

assigned_module : (ms : List ModuleTerm) (number : ℕ) (t : Token) → AssignedFirsts ms number t → ModuleFirsts ms t
assigned_module ms number t h =
    let home = home_of ms number h.numbered h.at in record {
      text = h.text;
      syntax = h.begins.0;
      stands = assigned home.module_at
          (get_contained home.text.assignments h.numbered.place h.numbered.assignment home.at) h.assigns h.begins.1;
      begins = h.begins.2;
    }

default_module : (ms : List ModuleTerm) (number : ℕ) (t : Token) → DefaultFirstsAt ms number t → ModuleFirsts ms t
default_module ms number t h =
    let of = type_assigned h.numbered.assignment.assigned in
    let found = type_is_assigned ms number h.numbered of h.at refl in record {
      text = h.begins.text;
      syntax = h.begins.begins.0;
      stands = default (record { of = of; assigned = found.1; within = h.begins.within }) h.begins.stands
          h.begins.begins.1;
      begins = h.begins.begins.2;
    }

module_number : (ms : List ModuleTerm) (t : Token) {text : Tree} {syntax : TypeSyntax} → IsModuleValue ms text syntax →
    BeginsIn t syntax text → BelowFirsts (AssignedFirsts ms) (assignment_count ms) t
    ⊎ BelowFirsts (DefaultFirstsAt ms) (assignment_count ms) t
module_number ms t {text = text} {syntax = syntax}
    (assigned {m = m} {x = x} {assignment = assignment} {of = of} {number = stated} at stands assigns d) b =
    let place = contained_get x.assignments assignment stands in
    let found = number_there ms m place.0 x assignment at place.1 in
    inl (
      found.0,
      number_below ms found.0 _ found.1,
      record {
        numbered = record { in_module = m; place = place.0; assignment = assignment };
        at = found.1;
        of = of;
        stated = stated;
        text = text;
        assigns = assigns;
        begins = (syntax, d, b);
      },
    )
module_number ms t {text = text} {syntax = syntax}
    (default {m = m} {k = k} {word = word} {members = members} {limits = limits} {of = of} stands member d) b =
    let by = stands.assigned in
    let place = contained_get by.in_module.assignments by.assignment by.stands in
    let found = number_there ms m place.0 by.in_module by.assignment by.is_in.module_at place.1 in
    inr (
      found.0,
      number_below ms found.0 _ found.1,
      record {
        numbered = record { in_module = m; place = place.0; assignment = by.assignment };
        at = found.1;
        begins = subst (λ z. DefaultFirsts (DenotedFirsts ms m) z t) (sym by.is_of) (record {
          word = word;
          members = members;
          limits = limits;
          place = k;
          inner = of;
          text = text;
          within = stands.within;
          stands = member;
          begins = (syntax, d, b);
        });
      },
    )

pub modules_marked : (ms : List ModuleTerm) {before between after : BegunNames} →
    Marks (BelowFirsts (AssignedFirsts ms) (assignment_count ms)) before between →
    Marks (BelowFirsts (DefaultFirstsAt ms) (assignment_count ms)) between after → Marks (ModuleFirsts ms) before after
modules_marked ms p q =
    let One = BelowFirsts (AssignedFirsts ms) (assignment_count ms) in
    let Other = BelowFirsts (DefaultFirstsAt ms) (assignment_count ms) in
    marked_by (λ t. One t ⊎ Other t) (ModuleFirsts ms)
    (λ t h. elim h as (λ _. ModuleFirsts ms t) [
      | inl one ↦ assigned_module ms one.0 t one.2
      | inr other ↦ default_module ms other.0 t other.2
    ]) (λ t h. module_number ms t h.stands h.begins) (both_marked One Other p q)

-- ---- one assignment

pub default_may : (ms : List ModuleTerm) (m : ℕ) (of whole : TypeTerm) (t : Token) → of ≡ whole →
    DefaultFirsts (DenotedFirsts ms m) whole t → DefaultFirsts MayFirsts of t
default_may ms m of whole t same h = subst (λ z. DefaultFirsts MayFirsts z t) (sym same) (record {
  word = h.word;
  members = h.members;
  limits = h.limits;
  place = h.place;
  inner = h.inner;
  text = h.text;
  within = h.within;
  stands = h.stands;
  begins = of_may (Denotes ms m h.inner) h.text t h.begins;
})

-- the types are those of the modules
pub own_defaults : (ms its : List ModuleTerm) (m : ℕ) (of whole : TypeTerm) (meant : CodeMeaning)
    {before after : BegunNames} → its ≡ ms → of ≡ whole → ((k : ℕ) → MeansType its k of meant →
    Marks (DefaultFirsts (DenotedFirsts its k) of) before after) → MeansType ms m whole meant →
    Marks (DefaultFirsts (DenotedFirsts ms m) whole) before after
own_defaults ms its m of whole meant {before = before} {after = after} types same marked means =
    subst (λ z. Marks (DefaultFirsts (DenotedFirsts z m) whole) before after) types
    (subst (λ z. Marks (DefaultFirsts (DenotedFirsts its m) z) before after) same
    (marked m (subst (λ z. MeansType its m z meant) (sym same)
    (subst (λ z. MeansType z m whole meant) (sym types) means))))

pub named_standing : (ms its tabled : List ModuleTerm) (m : ℕ) (of : TypeTerm) (target : ℕ) (last : LastSyntax)
    (text : Tree) {before after : BegunNames} → its ≡ ms → tabled ≡ ms → IsNameOf tabled m of target →
    IsLast ms last → ((k : ℕ) (x : TypeTerm) → IsLast its last → IsNameOf its k x target →
    Marks (BeginsOf (Denotes its k x) text) before after) → Marks (BeginsOf (Denotes ms m of) text) before after
named_standing ms its tabled m of target last text {before = before} {after = after} types tables name is marked =
    subst (λ z. Marks (BeginsOf (Denotes z m of) text) before after) types
    (marked m of (subst (λ z. IsLast z last) (sym types) is)
    (subst (λ z. IsNameOf z m of target) (tables ∙ sym types) name))

pub value_standing : (ms its : List ModuleTerm) (number m : ℕ) (of : TypeTerm) (text : Tree)
    {before after : BegunNames} → its ≡ ms → IsAssignedValue ms number m of text → ((meant : Meaning) →
    IsValueNumber its number meant → Marks (BeginsOf (HasSyntax its meant) text) before after) →
    Marks (BeginsOf (Denotes ms m of) text) before after
value_standing ms its number m of text {before = before} {after = after} types x marked =
    value_marked ms number m of text x (λ meant is.
    subst (λ z. Marks (BeginsOf (HasSyntax z meant) text) before after) types
    (marked meant (subst (λ z. IsValueNumber z number meant) (sym types) is)))
