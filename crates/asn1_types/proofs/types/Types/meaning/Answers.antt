-- What a module has of a name.
use Rattle.asn1_types.proofs.TypesLaws.{means_of}
use Rattle.asn1_types.proofs.types.Types.meaning.Goals as goal

pub returns : goal.returns
returns c =
    means_of c.tables-tables.result.now _ c.args.self.now c.args.module_name.now c.args.name.now c.module_meaning.result
    c.meaning_within.result c.tables-tables.ensures c.self.view_is c.module_meaning.ensures c.meaning_within.ensures
