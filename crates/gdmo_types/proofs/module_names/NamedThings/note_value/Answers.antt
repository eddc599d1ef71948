-- A type is no value.
use Rattle.asn1_names.specs.TermViews.{module_terms}
use Rattle.asn1_names.specs.WordViews.{standard_syntax_of}
use Rattle.gdmo_names.specs.TypeMeaning.{qualified_meaning}
use Rattle.gdmo_names.specs.WrongKinds.{IsTypeMeaning}
use Rattle.gdmo_types.proofs.QualifiedLaws.{other_noted, standard_meant, type_meant}
use Rattle.gdmo_types.proofs.module_names.NamedThings.note_value.Goals as goal

pub returns-in-TypeAt : goal.returns-in-TypeAt
returns-in-TypeAt c = λ are.
    let ms = module_terms c.args.self.now.types.now in
    other_noted IsTypeMeaning ms c.args.document c.args.name.now c.args.faults.now.first c.meaning.new.faults.first
    c.note.new.self.first (type_meant ms c.in-TypeAt.field-0 (qualified_meaning ms c.args.name.now)
    (c.in-TypeAt.ensures.means are)).0 (c.meaning.ensures.faults are) c.note.ensures

pub returns-in-Standard : goal.returns-in-Standard
returns-in-Standard c = λ are.
    let ms = module_terms c.args.self.now.types.now in
    other_noted IsTypeMeaning ms c.args.document c.args.name.now c.args.faults.now.first c.meaning.new.faults.first
    c.note-in-Standard.new.self.first (standard_meant (qualified_meaning ms c.args.name.now)
    (standard_syntax_of c.in-Standard.field-0) (c.in-Standard.ensures.means are)).0 (c.meaning.ensures.faults are)
    c.note-in-Standard.ensures
