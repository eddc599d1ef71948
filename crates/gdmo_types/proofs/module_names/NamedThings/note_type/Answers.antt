-- A value is no type.
use Rattle.asn1_names.specs.TermViews.{module_terms}
use Rattle.gdmo_names.specs.TypeMeaning.{qualified_meaning}
use Rattle.gdmo_names.specs.WrongKinds.{IsValueMeaning}
use Rattle.gdmo_types.proofs.QualifiedLaws.{other_noted, value_meant}
use Rattle.gdmo_types.proofs.module_names.NamedThings.note_type.Goals as goal

pub returns-in-ValueAt : goal.returns-in-ValueAt
returns-in-ValueAt c = λ are.
    let ms = module_terms c.args.self.now.types.now in
    other_noted IsValueMeaning ms c.args.document c.args.name.now c.args.faults.now.first c.meaning.new.faults.first
    c.note.new.self.first (value_meant ms c.in-ValueAt.field-0 (qualified_meaning ms c.args.name.now)
    (c.in-ValueAt.ensures.means are)).0 (c.meaning.ensures.faults are) c.note.ensures
