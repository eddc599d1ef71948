-- What the name means, and that it means nothing.
use Rattle.std.proofs.Math.Path.{subst, sym, ◌∙◌}
use Rattle.asn1_names.specs.CodeMeanings.{IsTypeNumber, IsValueNumber, Means}
use Rattle.asn1_names.specs.TermViews.{module_terms}
use Rattle.asn1_names.specs.WordViews.{standard_syntax_of}
use Rattle.gdmo_names.specs.FirstLabelFault.LabelFault.{LabelUnknown}
use Rattle.gdmo_names.specs.TypeMeaning.{qualified_meaning}
use Rattle.gdmo_names.proofs.NotingLaws.{one_not, one_there}
use Rattle.gdmo_types.proofs.QualifiedLaws.{same_meaning, standard_meant, type_meant, value_meant}
use Rattle.gdmo_types.proofs.module_names.NamedThings.meaning_in.Goals as goal

pub returns-in-TypeAt-clause-means : goal.returns-in-TypeAt-clause-means
returns-in-TypeAt-clause-means c =
    let ms = module_terms c.args.self.now.types.now in
    let same = same_meaning ms c.args.name.now c.as_slice.result.now c.as_slice-2.result.now c.as_slice.ensures
    c.as_slice-2.ensures in
    subst (Means ms c.meaning-meaning.result) same c.meaning-meaning.ensures

pub returns-in-TypeAt-clause-faults : goal.returns-in-TypeAt-clause-faults
returns-in-TypeAt-clause-faults c =
    let ms = module_terms c.args.self.now.types.now in
    let same = same_meaning ms c.args.name.now c.as_slice.result.now c.as_slice-2.result.now c.as_slice.ensures
    c.as_slice-2.ensures in
    one_not LabelUnknown c.args.document c.args.name.now.name.at c.args.faults.now.first
    (type_meant ms c.in-TypeAt.field-0 (qualified_meaning ms c.args.name.now)
    (subst (IsTypeNumber ms c.in-TypeAt.field-0) same c.in-TypeAt.ensures)).2

pub returns-in-ValueAt-clause-means : goal.returns-in-ValueAt-clause-means
returns-in-ValueAt-clause-means c =
    let ms = module_terms c.args.self.now.types.now in
    let same = same_meaning ms c.args.name.now c.as_slice.result.now c.as_slice-2.result.now c.as_slice.ensures
    c.as_slice-2.ensures in
    subst (Means ms c.meaning-meaning.result) same c.meaning-meaning.ensures

pub returns-in-ValueAt-clause-faults : goal.returns-in-ValueAt-clause-faults
returns-in-ValueAt-clause-faults c =
    let ms = module_terms c.args.self.now.types.now in
    let same = same_meaning ms c.args.name.now c.as_slice.result.now c.as_slice-2.result.now c.as_slice.ensures
    c.as_slice-2.ensures in
    one_not LabelUnknown c.args.document c.args.name.now.name.at c.args.faults.now.first
    (value_meant ms c.in-ValueAt.field-0 (qualified_meaning ms c.args.name.now)
    (subst (IsValueNumber ms c.in-ValueAt.field-0) same c.in-ValueAt.ensures)).2

pub returns-in-Standard-clause-means : goal.returns-in-Standard-clause-means
returns-in-Standard-clause-means c =
    let ms = module_terms c.args.self.now.types.now in
    let same = same_meaning ms c.args.name.now c.as_slice.result.now c.as_slice-2.result.now c.as_slice.ensures
    c.as_slice-2.ensures in
    subst (Means ms c.meaning-meaning.result) same c.meaning-meaning.ensures

pub returns-in-Standard-clause-faults : goal.returns-in-Standard-clause-faults
returns-in-Standard-clause-faults c =
    let ms = module_terms c.args.self.now.types.now in
    let same = same_meaning ms c.args.name.now c.as_slice.result.now c.as_slice-2.result.now c.as_slice.ensures
    c.as_slice-2.ensures in
    one_not LabelUnknown c.args.document c.args.name.now.name.at c.args.faults.now.first
    (standard_meant (qualified_meaning ms c.args.name.now) (standard_syntax_of c.in-Standard.field-0)
    (sym same ∙ c.in-Standard.ensures)).2

pub returns-in-Nothing-clause-means : goal.returns-in-Nothing-clause-means
returns-in-Nothing-clause-means c =
    let ms = module_terms c.args.self.now.types.now in
    let same = same_meaning ms c.args.name.now c.as_slice.result.now c.as_slice-2.result.now c.as_slice.ensures
    c.as_slice-2.ensures in
    sym same ∙ c.in-Nothing.ensures

pub returns-in-Nothing-clause-faults : goal.returns-in-Nothing-clause-faults
returns-in-Nothing-clause-faults c =
    let ms = module_terms c.args.self.now.types.now in
    let same = same_meaning ms c.args.name.now c.as_slice.result.now c.as_slice-2.result.now c.as_slice.ensures
    c.as_slice-2.ensures in
    one_there (sym same ∙ c.in-Nothing.ensures) c.note.ensures
