-- BegunLaws: what is marked after the values of modules, those of sections and identifiers is what something begins with.
use Rattle.std.proofs.Common.{◌≡◌, ◌∙◌, ◌⊎◌, ℕ, List, Option, Some, true, sym, ap, inl, inr}
use Rattle.std.proofs.Common.{subst}
use Rattle.std.proofs.lemmas.Option.{same_Some}
use Rattle.token_grammar.specs.declared.token.Token.{Token}
use Rattle.token_grammar.specs.Form.{Tree}
use Rattle.term_values.specs.Syntaxes.{TypeSyntax}
use Rattle.asn1_names.specs.AssignmentNumbers.{Numbered, numbered_at}
use Rattle.asn1_names.specs.FirstNames.{found}
use Rattle.asn1_names.specs.StandardModule.{is_same_name}
use Rattle.asn1_numbers.proofs.StandingLaws.{one_number_at}
use Rattle.gdmo_first_names.specs.DefinedNames.{AreDefined, DefinesFirstAt, TellsDefined}
use Rattle.gdmo_first_names.proofs.OwnLaws.{own_value}
use Rattle.gdmo_names.specs.BegunNames.{BeginsOne, StandsFor}
use Rattle.gdmo_names.specs.BegunNames.BeginsOne.{identifier, value}
use Rattle.gdmo_names.specs.BegunNames.StandsFor.{assigned as stands_assigned, default as stands_default}
use Rattle.gdmo_names.specs.BegunNames.StandsFor.{set as stands_set, emitted as stands_emitted}
use Rattle.gdmo_names.specs.BegunNames.StandsFor.{replied as stands_replied, naming as stands_naming}
use Rattle.gdmo_names.specs.BegunNames.StandsFor.{given as stands_given}
use Rattle.gdmo_names.specs.PartTerms.{PartTerms, module_terms_of}
use Rattle.gdmo_names.specs.ValueNames.{BeginsIn}
use Rattle.gdmo_types.proofs.ModuleNameLaws.{called_same, same_called}
use Rattle.gdmo_begun_names.specs.declared.begun_names.BegunNames.{BegunNames}
use Rattle.gdmo_begun_names.specs.BegunMarks.{DefinesOne, FirstSet, IsMarked, Marks}
use Rattle.gdmo_begun_names.specs.StatedNames.{StatedFirsts}
use Rattle.gdmo_begun_names.proofs.MarkLaws.{both_marked}
use Rattle.begun_values.specs.BegunLaw.{MarksAll, MarksTellBegun}
use Rattle.begun_values.specs.ModuleValues.{IsModuleValue, ModuleFirsts}
use Rattle.begun_values.specs.ModuleValues.IsModuleValue.{assigned, default}
use Rattle.begun_values.specs.SectionValues.{IsSectionValue, SectionFirsts}
use Rattle.begun_values.specs.SectionValues.IsSectionValue.{set, emitted, replied, naming, given}

-- ---- the number of a name is that of no other

named_so : (parts : PartTerms) (name : List ℕ) (number : ℕ) (x : Numbered) →
    numbered_at (module_terms_of parts) number ≡ Some x → DefinesFirstAt parts name number →
    x.assignment.name.text ≡ name
named_so parts name number x at d =
    let ms = module_terms_of parts in
    let own = (own_value ms d.numbered.in_module d.numbered.in_module d.numbered.place name d.defines.defines.of
    d.defines.defines.number d.defines.defines.text d.defines.defines.means).1 in
    let same : own.k ≡ number =
    one_number_at ms own.k number own.numbered d.numbered own.at d.at own.in_module own.place in
    let is : own.numbered ≡ x = same_Some own.numbered x (sym own.at ∙ ap (numbered_at ms) same ∙ at) in
    ap (λ (n : Numbered). n.assignment.name.text) (sym is) ∙ own.named

told_first : (parts : PartTerms) (name : List ℕ) (told : Option ℕ) (number : ℕ) → TellsDefined parts name told →
    told ≡ Some number → DefinesFirstAt parts name number
told_first parts name told number tells is = subst (TellsDefined parts name) is tells

one_name : (parts : PartTerms) (names : BegunNames) (a b : List ℕ) (number : ℕ) →
    AreDefined parts names.defined.now → found names.defined.now a ≡ Some number →
    found names.defined.now b ≡ Some number → a ≡ b
one_name parts names a b number are is also =
    let one = told_first parts a (found names.defined.now a) number (are a) is in
    let other = told_first parts b (found names.defined.now b) number (are b) also in
    sym (named_so parts a number one.numbered one.at one) ∙ named_so parts b number one.numbered one.at other

-- ---- the three sets together

abbrev AllFirsts : PartTerms → FirstSet
AllFirsts parts t = (ModuleFirsts (module_terms_of parts) t ⊎ SectionFirsts parts t) ⊎ StatedFirsts parts t

all_marked : (parts : PartTerms) (before after : BegunNames) → MarksAll parts before after →
    Marks (AllFirsts parts) before after
all_marked parts before after all =
    both_marked (λ t. ModuleFirsts (module_terms_of parts) t ⊎ SectionFirsts parts t) (StatedFirsts parts)
    (both_marked (ModuleFirsts (module_terms_of parts)) (SectionFirsts parts) all.marks_modules all.marks_sections)
    all.marks_identifiers

of_module : {parts : PartTerms} {text : Tree} {syntax : TypeSyntax} →
    IsModuleValue (module_terms_of parts) text syntax → StandsFor parts text syntax
of_module (assigned at stands assigns d) = stands_assigned at stands assigns d
of_module (default stands member d) = stands_default stands member d

of_section : {parts : PartTerms} {text : Tree} {syntax : TypeSyntax} → IsSectionValue parts text syntax →
    StandsFor parts text syntax
of_section (set has of) = stands_set has of.means of.has
of_section (emitted has of) = stands_emitted has of.means of.has.is of.has.has
of_section (replied has of) = stands_replied has of.means of.has.is of.has.has
of_section (naming stands has is of) = stands_naming stands has is of.means of.has
of_section (given stands has is of) = stands_given stands has is of.means of.has

begins_one : (parts : PartTerms) (name : List ℕ) (t : Token) → is_same_name t.text name ≡ true → AllFirsts parts t →
    BeginsOne parts name
begins_one parts name t same (inl (inl h)) = value (of_module h.stands) h.begins same
begins_one parts name t same (inl (inr h)) = value (of_section h.stands) h.begins same
begins_one parts name t same (inr h) = identifier h.stands h.begins same

in_firsts : (parts : PartTerms) (t : Token) {text : Tree} {syntax : TypeSyntax} → StandsFor parts text syntax →
    BeginsIn t syntax text → AllFirsts parts t
in_firsts parts t {text = text} {syntax = syntax} (stands_assigned at stands assigns d) b =
    inl (inl (record { text = text; syntax = syntax; stands = assigned at stands assigns d; begins = b }))
in_firsts parts t {text = text} {syntax = syntax} (stands_default stands member d) b =
    inl (inl (record { text = text; syntax = syntax; stands = default stands member d; begins = b }))
in_firsts parts t {text = text} {syntax = syntax} (stands_set {attribute = x} has means of) b =
    inl (inr (record {
      text = text;
      syntax = syntax;
      stands = set has (record { attribute = x; means = means; has = of });
      begins = b;
    }))
in_firsts parts t {text = text} {syntax = syntax}
    (stands_emitted {notification = x} {name = name} has means is of) b =
    inl (inr (record {
      text = text;
      syntax = syntax;
      stands = emitted has (record {
        notification = x;
        means = means;
        has = record { name = name; is = is; has = of };
      });
      begins = b;
    }))
in_firsts parts t {text = text} {syntax = syntax} (stands_replied {action = x} {name = name} has means is of) b =
    inl (inr (record {
      text = text;
      syntax = syntax;
      stands = replied has (record { action = x; means = means; has = record { name = name; is = is; has = of } });
      begins = b;
    }))
in_firsts parts t {text = text} {syntax = syntax}
    (stands_naming {attribute = x} stands has is means of) b =
    inl (inr (record {
      text = text;
      syntax = syntax;
      stands = naming stands has is (record { attribute = x; means = means; has = of });
      begins = b;
    }))
in_firsts parts t {text = text} {syntax = syntax} (stands_given {attribute = x} stands has is means of) b =
    inl (inr (record {
      text = text;
      syntax = syntax;
      stands = given stands has is (record { attribute = x; means = means; has = of });
      begins = b;
    }))

-- what something begins with is among them
record IsAmong (parts : PartTerms) (name : List ℕ) : Type 0 where
  first : Token
  named : first.text ≡ name
  among : AllFirsts parts first

begun_among : (parts : PartTerms) (name : List ℕ) → BeginsOne parts name → IsAmong parts name
begun_among parts name (identifier {document = document} {x = x} {first = first} stands is same) = record {
  first = first;
  named = same_called name first same;
  among = inr (record { document = document; identifier = x; stands = stands; begins = is });
}
begun_among parts name (value {first = first} stands begins same) = record {
  first = first;
  named = same_called name first same;
  among = in_firsts parts first stands begins;
}

pub marks_tell : MarksTellBegun
marks_tell parts before after name number all is within = (
  λ m. by (marks.there number m),
  λ b. let x = begun_among parts name b in marks.all number within (record {
    first = x.first;
    is_one = x.among;
    is = ap (found before.defined.now) x.named ∙ is;
  }),
)
  where
    marks : Marks (AllFirsts parts) before after
    marks = all_marked parts before after all

    by : IsMarked before number ⊎ DefinesOne (AllFirsts parts) before number → BeginsOne parts name
    by (inl m) = absurd (all.none number m)
    by (inr d) = begins_one parts name d.first (called_same name d.first
        (one_name parts before d.first.text name number all.are_defined d.is is)) d.is_one
