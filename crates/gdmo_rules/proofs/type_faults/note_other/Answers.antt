-- The two types are other ones, or they aren't.
use Rattle.gdmo_names.specs.PartTerms.{module_terms_of}
use Rattle.gdmo_types.proofs.ComparedLaws.{other_stated}
use Rattle.gdmo_rules.proofs.TypeFaultLaws.{by_way, noted_where, stated_stays}
use Rattle.gdmo_rules.proofs.type_faults.note_other.Goals as goal

pub returns-clause-noted : goal.returns-clause-noted
returns-clause-noted c = λ parts x stated is are at kind told.
    let after = c.attribute_type.new.numbers.lists in
    let stay = c.attribute_type.ensures.stays (module_terms_of parts) are in
    noted_where c.are_other.result c.args.document c.args.word.now.at
    (by_way c.are_other.ensures (other_stated parts after x stated c.in_ok-own.own c.args.other stay.are_numbers.once
    kind (c.in_ok-own.ensures.told parts x is are at)
    (stated_stays parts c.args.numbers.now.lists after stated c.args.other stay.grows told))) c.note_where.ensures
