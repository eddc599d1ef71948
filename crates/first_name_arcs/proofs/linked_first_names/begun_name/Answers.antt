-- Something begins with the name, or nothing does.
use Rattle.std.proofs.Common.{◌∙◌, sym}
use Rattle.asn1_numbers.proofs.LeadingLaws.{if_ok_by}
use Rattle.first_name_arcs.proofs.ToldLaws.{unmarked_name}
use Rattle.first_name_arcs.proofs.linked_first_names.begun_name.Goals as goal

pub returns-then-is_begun : goal.returns-then-is_begun
returns-then-is_begun c = if_ok_by c.name_at.result (λ told tells parts has known whole begun.
    tells parts has known whole ((begun c.args.number).0 (sym c.is_begun.ensures ∙ c.if-is_begun.true)))
    c.name_at.ensures

pub returns-else-is_begun : goal.returns-else-is_begun
returns-else-is_begun c = λ parts has known whole begun.
    unmarked_name parts c.args.begun.now c.args.number begun (sym c.is_begun.ensures ∙ c.if-is_begun.false)
