-- What the name means: a type, a value, or nothing.
use Rattle.std.proofs.Math.Path.{subst, sym, ◌∙◌}
use Rattle.asn1_names.specs.CodeMeanings.{IsTypeNumber, IsValueNumber, Means}
use Rattle.asn1_names.specs.TermViews.{module_terms}
use Rattle.asn1_names.specs.WordViews.{standard_syntax_of}
use Rattle.gdmo_names.specs.TypeMeaning.{qualified_meaning}
use Rattle.gdmo_types.proofs.QualifiedLaws.{nothing_is, same_meaning, standard_meant, type_meant, value_meant}
use Rattle.gdmo_types.proofs.attribute_types.type_meaning.Goals as goal

pub returns-in-TypeAt : goal.returns-in-TypeAt
returns-in-TypeAt c =
    let ms = module_terms c.args.types.now in
    let same = same_meaning ms c.args.name.now c.as_slice.result.now c.as_slice-2.result.now c.as_slice.ensures
    c.as_slice-2.ensures in (
      (type_meant ms c.in-TypeAt.field-0 (qualified_meaning ms c.args.name.now)
          (subst (IsTypeNumber ms c.in-TypeAt.field-0) same c.in-TypeAt.ensures)).3,
      subst (Means ms c.meaning-meaning.result) same c.meaning-meaning.ensures,
    )

pub returns-in-ValueAt : goal.returns-in-ValueAt
returns-in-ValueAt c =
    let ms = module_terms c.args.types.now in
    let same = same_meaning ms c.args.name.now c.as_slice.result.now c.as_slice-2.result.now c.as_slice.ensures
    c.as_slice-2.ensures in
    (value_meant ms c.in-ValueAt.field-0 (qualified_meaning ms c.args.name.now)
    (subst (IsValueNumber ms c.in-ValueAt.field-0) same c.in-ValueAt.ensures)).3

pub returns-in-Standard : goal.returns-in-Standard
returns-in-Standard c =
    let ms = module_terms c.args.types.now in
    let same = same_meaning ms c.args.name.now c.as_slice.result.now c.as_slice-2.result.now c.as_slice.ensures
    c.as_slice-2.ensures in (
      (standard_meant (qualified_meaning ms c.args.name.now) (standard_syntax_of c.in-Standard.field-0)
          (sym same ∙ c.in-Standard.ensures)).3,
      subst (Means ms c.meaning-meaning.result) same c.meaning-meaning.ensures,
    )

pub returns-in-Nothing : goal.returns-in-Nothing
returns-in-Nothing c =
    let ms = module_terms c.args.types.now in
    let same = same_meaning ms c.args.name.now c.as_slice.result.now c.as_slice-2.result.now c.as_slice.ensures
    c.as_slice-2.ensures in
    (nothing_is (qualified_meaning ms c.args.name.now) (sym same ∙ c.in-Nothing.ensures)).2
