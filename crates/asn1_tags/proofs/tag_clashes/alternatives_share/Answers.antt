-- The member at the index shares a tag with a former one, or with none.
use Rattle.std.proofs.Common.{refl, sym, true≢false}
use Rattle.asn1_tags.specs.MemberRows.{alternative_row}
use Rattle.asn1_tags.proofs.MemberLists.{member_at}
use Rattle.asn1_tags.proofs.ShareLaws.{apart_first, apart_found, apart_last, apart_more}
use Rattle.asn1_tags.proofs.tag_clashes.alternatives_share.Goals as goal

pub loop-alternative-init : goal.loop-alternative-init
loop-alternative-init c = λ known. apart_first _ c.empty_run-run.result c.empty_run-run.ensures.any
    c.empty_run-run.ensures.some
    c.empty_run-run.ensures.tags

pub returns-then-branch : goal.returns-then-branch
returns-then-branch c = λ known.
    let row = alternative_row c.alternative-item.result in
    let member = member_at alternative_row c.args.alternatives.now c.loop-alternative.alternative-index
    c.alternative-item.result
    c.loop-alternative-test.true c.alternative-item.is in
    let place = c.loop-alternative.alternative-index in
    let has = c.in_ok-set.ensures (known.known place row.of row.presence member)
    (known.few place row.of row.presence member) in (
      λ told. apart_found c.loop-alternative.run row.of row.presence c.in_ok-set.set c.in_ok-push.field-0
          (c.loop-alternative.invariant known) member has c.in_ok-push.ensures.shares c.if-branch.true,
      λ two. refl,
    )

pub loop-alternative-preserved : goal.loop-alternative-preserved
loop-alternative-preserved c = λ known.
    let row = alternative_row c.alternative-item.result in
    let member = member_at alternative_row c.args.alternatives.now c.loop-alternative.alternative-index
    c.alternative-item.result
    c.loop-alternative-test.true c.alternative-item.is in
    let place = c.loop-alternative.alternative-index in
    let has = c.in_ok-set.ensures (known.known place row.of row.presence member)
    (known.few place row.of row.presence member) in
    apart_more c.loop-alternative.run c.push.new.self row.of row.presence c.in_ok-set.set c.in_ok-push.field-0
    (c.loop-alternative.invariant known) member has c.in_ok-push.ensures.shares c.if-branch.false (record {
      any = c.in_ok-push.ensures.any;
      some = c.in_ok-push.ensures.some;
      tags = c.in_ok-push.ensures.tags;
    })

pub returns : goal.returns
returns c = λ known. (
  λ told. absurd (true≢false (sym told)),
  λ two. absurd (apart_last alternative_row c.args.alternatives.now c.loop-alternative.alternative-index
      c.loop-alternative.run
      (c.loop-alternative.invariant known) c.loop-alternative-test.false two),
)
