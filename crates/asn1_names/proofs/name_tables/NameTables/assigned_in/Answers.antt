-- What the assignment under the number of a name means.
use Rattle.asn1_names.specs.NameMeaning.{assigned_in}
use Rattle.asn1_names.specs.TermViews.{module_terms}
use Rattle.asn1_names.proofs.TableAnswers.{meaning_told}
use Rattle.asn1_names.proofs.name_tables.NameTables.assigned_in.Goals as goal

pub returns-in-Some : goal.returns-in-Some
returns-in-Some c = meaning_told (module_terms c.args.self.now)
    (assigned_in (module_terms c.args.self.now) c.args.home c.args.name.now) c.in-Some.number
    c.meaning_at.result c.in-Some.ensures c.meaning_at.ensures
