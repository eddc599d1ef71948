-- The tokens from a place are a template in one way.
use Rattle.std.proofs.Common.{false}
use Rattle.token_grammar.specs.Form.{Named}
use Rattle.gdmo_members.specs.Templates.{templates}
use Rattle.grammar_laws.proofs.OneSpelling.{closed_once, decided_forms_spell_once}
use Rattle.grammar_laws.proofs.Turns.{once_wider}
use Rattle.template_laws.specs.OneTemplate.{TemplatesHaveOneTree}
use Rattle.template_laws.proofs.TemplateTests.{openings, ended}
use Rattle.template_laws.proofs.TemplatesDecided.{templates_decided}

pub templates_have_one_tree : TemplatesHaveOneTree
templates_have_one_tree tokens kind i j k a b one two =
    closed_once tokens (once_wider (λ t u. false) (ended kind) (λ e. e)
    (decided_forms_spell_once tokens templates openings templates_decided (Named kind) tt i j k a b one two))
