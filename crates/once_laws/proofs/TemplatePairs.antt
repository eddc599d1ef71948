-- TemplatePairs: no two templates of documents without a fault of labels have one label or one identifier, of whatever
-- kinds they are (X.722, section 8.2; docs/PROFILE.md, section 12).
use Rattle.std.specs.Prelude.{◌≡◌, ◌≢◌, ◌⊎◌, ℕ, List, true, Some, AllPairs, Contains, get_or, refl}
use Rattle.std.specs.Cmp.Lexicographic.{bytes_decides}
use Rattle.std.proofs.Common.{arith, inl, inr, sym}
use Rattle.std.proofs.lemmas.List.Elements.{Contains-get_or}
use Rattle.gdmo_names.specs.DocumentTemplates.{templates}
use Rattle.gdmo_names.specs.DoubleNames.DoubleLabelAt.{template_label}
use Rattle.gdmo_names.specs.FirstLabelFault.{AreFaultless}
use Rattle.gdmo_names.specs.FirstLabelFault.LabelFault.{LabelDouble}
use Rattle.gdmo_names.specs.FirstNames.{IsIdentifier}
use Rattle.gdmo_names.specs.LabelMeaning.{stands_before}
use Rattle.gdmo_names.specs.PartTerms.{Placed, PartTerms, identifier_of, label_of}
use Rattle.gdmo_names.specs.TargetTables.{ArePlacedApart, AreTwo}
use Rattle.gdmo_names.specs.TemplateTerms.{IdentifierTerm}
use Rattle.registered_laws.specs.RegisteredApart.{AreRegisteredApart}
use Rattle.registered_laws.proofs.ApartLaws.{either_earlier, never_double}

-- a template is registered under these arcs
pub record IsUnder (parts : PartTerms) (x : Placed) (id : List ℕ) : Type 0 where
  pub own : IdentifierTerm
  pub states : identifier_of x.template ≡ Some own
  pub is : IsIdentifier parts own id

-- two templates have neither a label nor an identifier in common
pub record AreDifferent (parts : PartTerms) (x y : Placed) : Type 0 where
  pub labels : (label_of x.template).text ≢ (label_of y.template).text
  pub identifiers : (id : List ℕ) → IsUnder parts x id → IsUnder parts y id → ⊥

pub different_turned : (parts : PartTerms) (x y : Placed) → AreDifferent parts x y → AreDifferent parts y x
different_turned parts x y different = record {
  labels = λ same. different.labels (sym same);
  identifiers = λ id one other. different.identifiers id other one;
}

-- two templates whose labels stand at two places have no label in common
never_labelled : (parts : PartTerms) → AreFaultless parts → (x y : Placed) → Contains (templates parts) x →
    Contains (templates parts) y → AreTwo x y → (label_of x.template).text ≢ (label_of y.template).text
never_labelled parts faultless x y here there two same = by (either_earlier x.document y.document
    (label_of x.template).at (label_of y.template).at two)
  where
    by : (stands_before x y ≡ true) ⊎ (stands_before y x ≡ true) → ⊥
    by (inl before) = faultless LabelDouble y.document (label_of y.template).at (template_label (record {
      stands = there;
      first = x;
      first_stands = here;
      before = before;
      same = (bytes_decides (label_of y.template).text (label_of x.template).text).1 (sym same);
    }) refl refl)
    by (inr before) = faultless LabelDouble x.document (label_of x.template).at (template_label (record {
      stands = here;
      first = y;
      first_stands = there;
      before = before;
      same = (bytes_decides (label_of x.template).text (label_of y.template).text).1 same;
    }) refl refl)

pub templates_apart : (parts : PartTerms) → AreFaultless parts → ArePlacedApart parts → AreRegisteredApart parts →
    AllPairs (AreDifferent parts) (templates parts)
templates_apart parts faultless placed registered i j d less within =
    let x = get_or (templates parts) i d in
    let y = get_or (templates parts) j d in
    let here = Contains-get_or (templates parts) i d (omega (arith, less, within)) in
    let there = Contains-get_or (templates parts) j d within in
    record {
      labels = never_labelled parts faultless x y here there (placed i j d less within);
      identifiers = λ id one other. never_double parts faultless x y one.own other.own id
          (record { stands = here; is = one.states }) (record { stands = there; is = other.states }) one.is other.is
          (registered i j d less within);
    }
