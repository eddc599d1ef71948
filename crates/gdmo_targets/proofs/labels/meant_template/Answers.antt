-- The reference means nothing, or a template that is of the kind that is wanted, or of another one.
use Rattle.std.proofs.Common.{◌≡◌, ◌∙◌, None, Some, ap, option_map, rules, sym}
use Rattle.std.proofs.lemmas.Bool.{true≢false}
use Rattle.gdmo_names.specs.FoundViews.{found_term, found_view, found_views, numbered}
use Rattle.gdmo_names.specs.LabelMeaning.{reference_token}
use Rattle.gdmo_names.specs.PartTerms.{kind_of}
use Rattle.gdmo_names.specs.Mentions.{wanted_kind}
use Rattle.gdmo_names.specs.Roles.{role_term}
use Rattle.gdmo_targets.proofs.MeaningLaws.{means_nothing, means_one, means_other, reference_noted, target_is, token_at}
use Rattle.gdmo_targets.proofs.labels.meant_template.Goals as goal

pub returns-in-None-clause-means : goal.returns-in-None-clause-means
returns-in-None-clause-means c = λ parts reference are tells is.
    means_nothing parts c.args.document (role_term c.args.mention.now.role) reference
    (sym (target_is parts c.args.templates.now c.args.labels.now c.args.document c.args.mention.now.target reference
    are tells is) ∙ ap (numbered (found_views c.args.templates.now)) (sym c.target_number-number.ensures) ∙
    sym c.numbered.ensures ∙ ap (option_map (λ x. found_view x.now)) c.in-None.is)

pub returns-in-None-clause-faults : goal.returns-in-None-clause-faults
returns-in-None-clause-faults c = λ parts reference are tells is.
    reference_noted parts c.args.document c.in_ok-token.token.now.at (role_term c.args.mention.now.role) reference
    None c.args.faults.now.first c.note.new.self.first
    (sym (target_is parts c.args.templates.now c.args.labels.now c.args.document c.args.mention.now.target reference
    are tells is) ∙ ap (numbered (found_views c.args.templates.now)) (sym c.target_number-number.ensures) ∙
    sym c.numbered.ensures ∙ ap (option_map (λ x. found_view x.now)) c.in-None.is)
    (token_at c.reference_token.result c.in_ok-token.token (reference_token reference) (search rules)
    (c.reference_token.ensures c.args.document reference is)) c.note.ensures

pub returns-then-is_meant-clause-means : goal.returns-then-is_meant-clause-means
returns-then-is_meant-clause-means c = λ parts reference are tells is.
    means_one parts c.args.document (role_term c.args.mention.now.role) reference
    (numbered (found_views c.args.templates.now) c.target_number-number.result) (found_view c.in-Some.template.now)
    (sym (target_is parts c.args.templates.now c.args.labels.now c.args.document c.args.mention.now.target reference
    are tells is) ∙ ap (numbered (found_views c.args.templates.now)) (sym c.target_number-number.ensures) ∙
    sym c.numbered.ensures ∙ ap (option_map (λ x. found_view x.now)) c.in-Some.is)
    (c.is_meant.ensures.wanted.0 c.if-is_meant.true)
    (sym c.numbered.ensures ∙ ap (option_map (λ x. found_view x.now)) c.in-Some.is)

pub returns-then-is_meant-clause-faults : goal.returns-then-is_meant-clause-faults
returns-then-is_meant-clause-faults c = λ parts reference are tells is.
    reference_noted parts c.args.document c.in_ok-token.token.now.at (role_term c.args.mention.now.role) reference
    (Some (found_view c.in-Some.template.now)) c.args.faults.now.first c.is_meant.new.faults.first
    (sym (target_is parts c.args.templates.now c.args.labels.now c.args.document c.args.mention.now.target reference
    are tells is) ∙ ap (numbered (found_views c.args.templates.now)) (sym c.target_number-number.ensures) ∙
    sym c.numbered.ensures ∙ ap (option_map (λ x. found_view x.now)) c.in-Some.is)
    (token_at c.reference_token.result c.in_ok-token.token (reference_token reference) (search rules)
    (c.reference_token.ensures c.args.document reference is)) c.is_meant.ensures.faults

pub returns-else-is_meant-clause-means : goal.returns-else-is_meant-clause-means
returns-else-is_meant-clause-means c = λ parts reference are tells is.
    let not_wanted : ¬ (kind_of (found_term c.in-Some.template.now) ≡ wanted_kind (role_term c.args.mention.now.role)) =
    λ kind. true≢false (sym (c.is_meant.ensures.wanted.1 kind) ∙ c.if-is_meant.false) in
    means_other parts c.args.document (role_term c.args.mention.now.role) reference (found_view c.in-Some.template.now)
    (sym (target_is parts c.args.templates.now c.args.labels.now c.args.document c.args.mention.now.target reference
    are tells is) ∙ ap (numbered (found_views c.args.templates.now)) (sym c.target_number-number.ensures) ∙
    sym c.numbered.ensures ∙ ap (option_map (λ x. found_view x.now)) c.in-Some.is) not_wanted

pub returns-else-is_meant-clause-faults : goal.returns-else-is_meant-clause-faults
returns-else-is_meant-clause-faults c = λ parts reference are tells is.
    reference_noted parts c.args.document c.in_ok-token.token.now.at (role_term c.args.mention.now.role) reference
    (Some (found_view c.in-Some.template.now)) c.args.faults.now.first c.is_meant.new.faults.first
    (sym (target_is parts c.args.templates.now c.args.labels.now c.args.document c.args.mention.now.target reference
    are tells is) ∙ ap (numbered (found_views c.args.templates.now)) (sym c.target_number-number.ensures) ∙
    sym c.numbered.ensures ∙ ap (option_map (λ x. found_view x.now)) c.in-Some.is)
    (token_at c.reference_token.result c.in_ok-token.token (reference_token reference) (search rules)
    (c.reference_token.ensures c.args.document reference is)) c.is_meant.ensures.faults
