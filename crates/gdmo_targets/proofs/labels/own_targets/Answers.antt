-- One more reference, and all of them.
use Rattle.std.proofs.Common.{◌≡◌, ◌<◌, ◌≤◌, arith, get_or, length, rules, subst}
use Rattle.gdmo_names.specs.FaultSets.{MentionFaults}
use Rattle.gdmo_names.specs.FoundViews.{found_term}
use Rattle.gdmo_names.specs.Mentions.{template_mentions}
use Rattle.gdmo_names.specs.TargetTables.{IsMention, TellsMention}
use Rattle.gdmo_names.proofs.InStepLaws.{made_end, made_none, made_step}
use Rattle.gdmo_targets.proofs.TargetLaws.{mention_told}
use Rattle.gdmo_targets.proofs.labels.own_targets.Goals as goal

pub loop-mention-init : goal.loop-mention-init
loop-mention-init c = λ parts are tells.
    made_none (IsMention c.args.templates.now c.args.found.now.document)
    (TellsMention parts c.args.templates.now c.args.found.now.document)
    (MentionFaults parts c.args.found.now.document) c.new-own.result.items c.args.faults.now.first
    c.new-own.ensures.items

pub loop-mention-preserved : goal.loop-mention-preserved
loop-mention-preserved c = λ parts are tells.
    let same : c.deref-mention-items.result.now ≡ c.args.found.now.mentions.items = search rules in
    made_step (IsMention c.args.templates.now c.args.found.now.document)
    (TellsMention parts c.args.templates.now c.args.found.now.document)
    (MentionFaults parts c.args.found.now.document) c.args.found.now.mentions.items c.loop-mention.mention-index
    c.mention-item.result c.loop-mention.own.items c.push.new.self.items c.meant_template.result
    (subst (λ xs. c.loop-mention.mention-index < length xs) same c.loop-mention-test.true)
    (subst (λ xs. c.mention-item.result ≡ get_or xs c.loop-mention.mention-index c.mention-item.result) same
    c.mention-item.is) c.in_ok-push.ensures.items (c.loop-mention.invariant parts are tells)
    (λ y is. mention_told parts c.args.templates.now c.args.found.now.document c.mention-item.result y
    c.meant_template.result is (c.meant_template.ensures.means parts y.reference are tells is.refers)
    (c.meant_template.ensures.faults parts y.reference are tells is.refers))

pub returns : goal.returns
returns c = λ parts are tells has.
    let same : c.deref-mention-items.result.now ≡ c.args.found.now.mentions.items = search rules in
    made_end (IsMention c.args.templates.now c.args.found.now.document)
    (TellsMention parts c.args.templates.now c.args.found.now.document)
    (MentionFaults parts c.args.found.now.document) c.args.found.now.mentions.items c.loop-mention.mention-index
    c.loop-mention.own.items
    (subst (λ xs. length xs ≤ c.loop-mention.mention-index) same (omega (arith, c.loop-mention-test.false))) (c.loop-mention.invariant parts are tells)
    (template_mentions (found_term c.args.found.now)) has
