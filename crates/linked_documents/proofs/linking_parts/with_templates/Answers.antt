-- The templates are linked, and the rest stays.
use Rattle.std.proofs.Common.{◌∙◌}
use Rattle.linked_documents.proofs.linking_parts.with_templates.Goals as goal

pub returns-clause-tables : goal.returns-clause-tables
returns-clause-tables c = λ parts is all each.
    c.in_ok-link_templates.ensures.tables parts is all each (c.no_templates-linked.ensures.tables parts)

pub returns-clause-rules : goal.returns-clause-rules
returns-clause-rules c = c.in_ok-link_templates.ensures.keeps.rules ∙ c.no_templates-linked.ensures.rules

pub returns-clause-instances : goal.returns-clause-instances
returns-clause-instances c = c.in_ok-link_templates.ensures.keeps.instances ∙ c.no_templates-linked.ensures.instances

pub returns-clause-first_names : goal.returns-clause-first_names
returns-clause-first_names c =
    c.in_ok-link_templates.ensures.keeps.first_names ∙ c.no_templates-linked.ensures.first_names
