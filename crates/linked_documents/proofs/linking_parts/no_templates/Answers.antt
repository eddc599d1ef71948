-- No template is linked.
use Rattle.linked_documents.proofs.EmptyLaws.{none_linked}
use Rattle.linked_documents.proofs.linking_parts.no_templates.Goals as goal

pub returns-clause-tables : goal.returns-clause-tables
returns-clause-tables c = λ parts.
    none_linked parts _ c.new.ensures.items c.new-2.ensures.items c.new-3.ensures.items c.new-4.ensures.items
    c.new-5.ensures.items c.new-6.ensures.items c.new-7.ensures.items
