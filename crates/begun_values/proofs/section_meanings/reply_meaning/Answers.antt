-- The type of the reply of the rule's action.
use Rattle.std.proofs.Common.{◌∙◌, ap, option_map, sym}
use Rattle.asn1_names.specs.TermViews.{module_terms}
use Rattle.gdmo_names.specs.FoundViews.{body_term, found_view}
use Rattle.gdmo_names.specs.PartTerms.{module_terms_of}
use Rattle.gdmo_names.specs.RuleWords.{reply_of}
use Rattle.begun_values.proofs.StatedLaws.{reply_may, stated_as}
use Rattle.begun_values.proofs.section_meanings.reply_meaning.Goals as goal

pub returns-in-Some : goal.returns-in-Some
returns-in-Some c = λ parts rule link tells.
    reply_may parts c.args.linkage.now.templates.now rule c.args.action (found_view c.in-Some.found.now)
    c.stated_meaning.result tells
    (sym c.template_told.ensures ∙ ap (option_map (λ found. found_view found.now)) c.in-Some.is)
    (stated_as (module_terms c.args.linkage.now.types.now) (module_terms_of parts)
    (option_map (λ one. one.now) c.reply_of.result) (reply_of (body_term c.in-Some.found.now.body))
    c.stated_meaning.result link.are_modules c.reply_of.ensures c.stated_meaning.ensures)
