-- LabelSteps: what the table of labels has when a further template is told (X.722, section 8.2; docs/PROFILE.md,
-- section 12).
use Rattle.std.specs.Prelude.{◌≡◌, ℕ, List, Bool, true, false, Option, None, Some}
use Rattle.gdmo_names.specs.FaultSets.{FaultSet, OneFault}
use Rattle.gdmo_names.specs.FirstLabelFault.LabelFault.{LabelDouble}
use Rattle.gdmo_names.specs.LabelMeaning.{stands_before}
use Rattle.gdmo_names.specs.PartTerms.{Placed, label_of}

-- a template is the first of its label beside the one that was first so far
abbrev pub comes_first : Placed → Option Placed → Bool
comes_first x None = true
comes_first x (Some y) = stands_before x y

-- it stands behind that one
abbrev pub comes_behind : Placed → Option Placed → Bool
comes_behind x None = false
comes_behind x (Some y) = stands_before y x

-- the fault of a template that stands behind the one that its label means
abbrev pub DoubleBy : (List ℕ → Option Placed) → Placed → FaultSet
DoubleBy meaning x = OneFault (comes_behind x (meaning (label_of x.template).text) ≡ true) LabelDouble x.document
    (label_of x.template).at
