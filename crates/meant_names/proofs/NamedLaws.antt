-- NamedLaws: a name that means a type has a syntax, and a name that means a value has one, where nothing is wrong with
-- the modules and the classes (X.722, section 8; X.680, section 17.7; docs/PROFILE.md, sections 11 and 18).
use Rattle.std.proofs.Common.{ℕ, List, Option, None, Some, inl, inr, refl, sym, subst}
use Rattle.term_values.specs.Syntaxes.{TypeSyntax}
use Rattle.term_values.specs.Typed.{TypedValue}
use Rattle.token_grammar.specs.Form.{Tree}
use Rattle.asn1_names.specs.FirstModuleFault.{AreFaultless}
use Rattle.asn1_names.specs.ModuleFaults.{IsNoValue}
use Rattle.asn1_names.specs.ModuleTerms.{AssignedTerm, ModuleTerm, NumberTerm, TypeTerm}
use Rattle.asn1_names.specs.ModuleTerms.AssignedTerm.{AssignsType, AssignsValue as AssignsValueTerm}
use Rattle.asn1_names.specs.NameMeaning.{assigned_meaning, standard_meaning}
use Rattle.asn1_names.specs.NameMeaning.Meaning.{ValueAt}
use Rattle.asn1_names.specs.NodeCount.{IsNoType}
use Rattle.asn1_names.specs.StandardModule.{standard_type}
use Rattle.asn1_leaf_values.specs.Arcs.{NamedArcs}
use Rattle.denoted_types.specs.DenotedTypes.{NotNone}
use Rattle.linked_parts.specs.declared.linked.Linked.{Linked}
use Rattle.linked_parts.specs.declared.linked.LinkedName.{LinkedName}
use Rattle.linked_parts.specs.declared.linked.NamedMeaning.{NamedMeaning}
use Rattle.linked_parts.specs.declared.linked.NamedMeaning.TheVariants.{Assigned, Standard}
use Rattle.filled_syntaxes.specs.FilledSyntaxes.{HasFilled}
use Rattle.filled_syntaxes.specs.LinkedMeanings.{AssignsNone, AssignsValue, assignment_meaning, linked_arcs}
use Rattle.filled_syntaxes.specs.LinkedMeanings.{linked_meaning}
use Rattle.filled_syntaxes.specs.LinkedMeanings.AssignsNone.{assigned as assigns_none}
use Rattle.filled_syntaxes.specs.LinkedMeanings.AssignsValue.{assigned as assigns_value}
use Rattle.filled_syntaxes.specs.SaidTexts.{TellsValue}
use Rattle.class_faults.specs.BadValues.BadValueAt.{of_assignment}
use Rattle.class_faults.specs.FirstClassFault.{AreFaultless as AreClassesFaultless}
use Rattle.class_faults.specs.FirstClassFault.ClassFault.{ValueBad}
use Rattle.meant_names.specs.MeantNames.{HasSomeValue, HasSyntax}
use Rattle.meant_names.specs.WantedMeanings.{MeansType, MeansValue}
use Rattle.meant_names.proofs.FillLaws.{text_tells}
use Rattle.meant_names.proofs.MeaningLaws.{IsPlaced, meaning_filled, placed, placed_filled}
use Rattle.meant_names.proofs.NoneLaws.{none_by, one_is}
use Rattle.meant_names.proofs.TextLaws.{AreAllTold}
use Rattle.meant_names.proofs.TextTrees.{AssignedTold}

-- ---- types

pub type_has : (ms : List ModuleTerm) (linked : Linked) → AreFaultless ms → AreAllTold ms →
    (name : LinkedName) → MeansType ms name → HasSyntax ms linked name
type_has ms linked faultless all name means =
    meaning_filled ms (linked_arcs linked) faultless all name.meaning
    (λ nothing. means (subst IsNoType (sym nothing) tt))

-- ---- values

-- the text of a value denotes one, unless it denotes none
value_said : (ms : List ModuleTerm) (names : NamedArcs) (m i : ℕ) (of : TypeTerm) (number : Option NumberTerm)
    (text : Tree) (syntax : TypeSyntax) → HasFilled ms names (ValueAt m i of number text) syntax →
    (told : Option TypedValue) → TellsValue names syntax text told →
    ((at : ℕ) → ¬ AssignsNone ms names (ValueAt m i of number text) at) →
    NotNone (AssignsValue ms names (ValueAt m i of number text))
value_said ms names m i of number text syntax has None (at, none_is) no_fault =
    absurd (no_fault at (assigns_none has none_is))
value_said ms names m i of number text syntax has (Some value) is no_fault =
    one_is (AssignsValue ms names (ValueAt m i of number text)) value (assigns_value has is)

assigned_value : (ms : List ModuleTerm) (names : NamedArcs) (m i : ℕ) (assigned : AssignedTerm) →
    AssignedTold assigned → ¬ IsNoValue (assigned_meaning m i assigned) →
    NotNone (HasFilled ms names (assigned_meaning m i assigned)) →
    ((at : ℕ) → ¬ AssignsNone ms names (assigned_meaning m i assigned) at) →
    NotNone (AssignsValue ms names (assigned_meaning m i assigned))
assigned_value ms names m i (AssignsType of) told means filled no_fault = absurd (means tt)
assigned_value ms names m i (AssignsValueTerm of number text) told means filled no_fault =
    none_by (HasFilled ms names (ValueAt m i of number text)) (AssignsValue ms names (ValueAt m i of number text))
    filled
    (λ syntax has. (let tells = text_tells names syntax text told.1 in
    value_said ms names m i of number text syntax has tells.0 tells.1 no_fault))

placed_value : (ms : List ModuleTerm) (linked : Linked) → AreFaultless ms → AreAllTold ms →
    AreClassesFaultless ms linked → (m i : ℕ) → ¬ IsNoValue (assignment_meaning ms m i) → IsPlaced ms m i →
    NotNone (AssignsValue ms (linked_arcs linked) (assignment_meaning ms m i))
placed_value ms linked faultless all classes m i means p =
    subst (λ meant. NotNone (AssignsValue ms (linked_arcs linked) meant)) (sym p.means)
    (assigned_value ms (linked_arcs linked) m i p.assignment.assigned (all m i p.home p.assignment p.at p.stands)
    (λ nothing. means (subst IsNoValue (sym p.means) nothing))
    (placed_filled ms (linked_arcs linked) faultless all m i p)
    (λ at bad. classes ValueBad p.home.document at (of_assignment (record {
      m = m;
      i = i;
      is_of = (p.home, p.at, refl);
      none = subst (λ meant. AssignsNone ms (linked_arcs linked) meant at) (sym p.means) bad;
    }))))

no_standard_value : (found : Option TypeSyntax) → IsNoValue (standard_meaning found)
no_standard_value None = tt
no_standard_value (Some syntax) = tt

meaning_value : (ms : List ModuleTerm) (linked : Linked) → AreFaultless ms → AreAllTold ms →
    AreClassesFaultless ms linked → (meaning : NamedMeaning) → ¬ IsNoValue (linked_meaning ms meaning) →
    NotNone (AssignsValue ms (linked_arcs linked) (linked_meaning ms meaning))
meaning_value ms linked faultless all classes (Assigned m i) means = elim (placed ms m i) as
    (λ _. NotNone (AssignsValue ms (linked_arcs linked) (assignment_meaning ms m i))) [
      | inl nothing ↦ absurd (means (subst IsNoValue (sym nothing) tt))
      | inr p ↦ placed_value ms linked faultless all classes m i means p
    ]
meaning_value ms linked faultless all classes (Standard name) means =
    absurd (means (no_standard_value (standard_type name.text)))

pub value_has : (ms : List ModuleTerm) (linked : Linked) → AreFaultless ms → AreAllTold ms →
    AreClassesFaultless ms linked → (name : LinkedName) → MeansValue ms name → HasSomeValue ms linked name
value_has ms linked faultless all classes name means =
    meaning_value ms linked faultless all classes name.meaning means
