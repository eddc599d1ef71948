-- One more rule, and all of them.
use Rattle.std.proofs.Common.{◌≡◌, ◌<◌, ◌≤◌, arith, length, subst, sym}
use Rattle.std.proofs.lemmas.List.{length-map}
use Rattle.gdmo_names.specs.FoundViews.{found_views}
use Rattle.gdmo_targets.specs.StatedRules.{has_pair, rule_terms, text_term}
use Rattle.gdmo_targets.proofs.StatedLaws.{again_all, again_none, again_step, no_pair, stated_more, text_at}
use Rattle.gdmo_targets.proofs.stated_rules.note_rules.Goals as goal

pub loop-place-init : goal.loop-place-init
loop-place-init c = (
  λ other. no_pair c.new-stated.result other c.new-stated.ensures.empty,
  again_none (found_views c.args.templates.now) (rule_terms c.args.rules.now) c.args.targets.now
      c.args.faults.now.first,
)

pub loop-place-preserved : goal.loop-place-preserved
loop-place-preserved c =
    let within : c.loop-place.place < length c.args.rules.now = omega (arith, c.loop-place-test.true) in (
      stated_more (found_views c.args.templates.now) c.args.targets.now c.loop-place.place c.pair_at-pair.result
          (has_pair c.loop-place.stated) (has_pair c.note_rule.new.stated) c.pair_at-pair.ensures
          c.loop-place.invariant.0 c.in_ok-note_rule.ensures.grows,
      again_step (found_views c.args.templates.now) (rule_terms c.args.rules.now) c.args.targets.now
          c.loop-place.place (text_term c.index-rules-place.result) c.loop-place.stated c.pair_at-pair.result
          (text_at c.args.rules.now c.loop-place.place c.index-rules-place.result within c.index-rules-place.is)
          c.pair_at-pair.ensures c.loop-place.invariant.0 c.loop-place.invariant.1 c.in_ok-note_rule.ensures.notes,
    )

pub returns : goal.returns
returns c =
    let past : length c.args.rules.now ≤ c.loop-place.place = omega (arith, c.loop-place-test.false) in
    again_all (found_views c.args.templates.now) (rule_terms c.args.rules.now) c.args.targets.now c.loop-place.place
    (subst (λ n. n ≤ c.loop-place.place) (sym (length-map c.args.rules.now text_term)) past) c.loop-place.invariant.1
