-- The type of the information of the notification that the label means.
use Rattle.std.proofs.Common.{◌∙◌, ap, option_map, sym}
use Rattle.asn1_names.specs.TermViews.{module_terms}
use Rattle.gdmo_names.specs.BegunNames.{told_of}
use Rattle.gdmo_names.specs.FoundViews.{body_term, found_view}
use Rattle.gdmo_names.specs.PartTerms.{module_terms_of}
use Rattle.begun_values.proofs.StatedLaws.{stated_as, told_may}
use Rattle.begun_values.proofs.section_meanings.told_meaning.Goals as goal

pub returns-in-Some : goal.returns-in-Some
returns-in-Some c = λ parts document label link tells.
    told_may parts c.args.linkage.now.templates.now document label c.args.notification (found_view c.in-Some.found.now)
    c.stated_meaning.result tells
    (sym c.template_told.ensures ∙ ap (option_map (λ found. found_view found.now)) c.in-Some.is)
    (stated_as (module_terms c.args.linkage.now.types.now) (module_terms_of parts)
    (option_map (λ one. one.now) c.information_of.result) (told_of (body_term c.in-Some.found.now.body))
    c.stated_meaning.result link.are_modules c.information_of.ensures c.stated_meaning.ensures)
