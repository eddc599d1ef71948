-- SoundLaws: the syntaxes that modules without a fault give to types, and those of attributes, are sound (X.680,
-- sections 25, 27.3, 29.3 and 31.2; docs/PROFILE.md, section 11).
use Rattle.std.proofs.Common.{ℕ, List, refl}
use Rattle.term_values.specs.Soundness.{IsSound}
use Rattle.term_values.specs.Syntaxes.{TypeSyntax}
use Rattle.asn1_names.specs.FirstModuleFault.{AreFaultless}
use Rattle.asn1_names.specs.ModuleTerms.{ModuleTerm}
use Rattle.asn1_names.specs.NameMeaning.{Meaning}
use Rattle.asn1_leaf_values.specs.Arcs.{NamedArcs}
use Rattle.linked_parts.specs.declared.linked.Linked.{Linked}
use Rattle.linked_parts.specs.declared.linked.NamedMeaning.{NamedMeaning}
use Rattle.linked_parts.specs.declared.linked.NamedMeaning.TheVariants.{Assigned, Standard}
use Rattle.filled_syntaxes.specs.FilledSyntaxes.{HasFilled}
use Rattle.filled_syntaxes.specs.LinkedMeanings.{linked_arcs, linked_meaning}
use Rattle.class_faults.specs.AttributeSyntaxes.{AttributeHas}
use Rattle.class_faults.specs.AttributeSyntaxes.AttributeHas.{of_base, of_type}
use Rattle.sound_laws.specs.GivenMeanings.{HaveAlternatives, IsGiven}
use Rattle.sound_laws.specs.GivenMeanings.IsGiven.{of_assignment, of_standard}
use Rattle.sound_laws.specs.ShortDefaults.{AreShortDefaults, ValuesFit}
use Rattle.sound_laws.proofs.FilledClear.{filled_clear}
use Rattle.sound_laws.proofs.FilledFits.{filled_fits}
use Rattle.sound_laws.proofs.GivenLaws.{syntax_clear}

-- the filled syntax of a meaning that an assignment or CMIP-1 gives
pub filled_sound : (ms : List ModuleTerm) (names : NamedArcs) (meant : Meaning) (syntax : TypeSyntax) →
    ValuesFit names → AreFaultless ms → HaveAlternatives ms → AreShortDefaults ms names → IsGiven ms meant →
    HasFilled ms names meant syntax → IsSound syntax
filled_sound ms names meant syntax fit faultless have short given filled = (
  filled_clear ms names meant syntax filled (syntax_clear faultless have given filled.has),
  filled_fits ms names meant syntax fit short given filled,
)

-- what a linked name means is given
pub linked_given : (ms : List ModuleTerm) (named : NamedMeaning) → IsGiven ms (linked_meaning ms named)
linked_given ms (Assigned m i) = of_assignment m i refl
linked_given ms (Standard name) = of_standard name.text refl

-- the syntax of an attribute
pub attribute_sound : (ms : List ModuleTerm) (linked : Linked) (k : ℕ) (syntax : TypeSyntax) →
    ValuesFit (linked_arcs linked) → AreFaultless ms → HaveAlternatives ms →
    AreShortDefaults ms (linked_arcs linked) → AttributeHas ms linked k syntax → IsSound syntax
attribute_sound ms linked k syntax fit faultless have short (of_type {name = name} at is filled) =
    filled_sound ms (linked_arcs linked) (linked_meaning ms name.meaning) syntax fit faultless have short
    (linked_given ms name.meaning) filled
attribute_sound ms linked k syntax fit faultless have short (of_base {base = base} at is has) =
    attribute_sound ms linked base syntax fit faultless have short has
