-- The member at the index shares a tag with a former one, or with none.
use Rattle.std.proofs.Common.{refl, sym, true≢false}
use Rattle.asn1_tags.specs.MemberRows.{component_row}
use Rattle.asn1_tags.proofs.MemberLists.{member_at}
use Rattle.asn1_tags.proofs.ShareLaws.{apart_first, apart_found, apart_last, apart_more}
use Rattle.asn1_tags.proofs.tag_clashes.components_share.Goals as goal

pub loop-component-init : goal.loop-component-init
loop-component-init c = λ known. apart_first _ c.empty_run-run.result c.empty_run-run.ensures.any
    c.empty_run-run.ensures.some
    c.empty_run-run.ensures.tags

pub returns-then-branch : goal.returns-then-branch
returns-then-branch c = λ known.
    let row = component_row c.component-item.result in
    let member = member_at component_row c.args.components.now c.loop-component.component-index c.component-item.result
    c.loop-component-test.true c.component-item.is in
    let place = c.loop-component.component-index in
    let has = c.in_ok-set.ensures (known.known place row.of row.presence member)
    (known.few place row.of row.presence member) in (
      λ told. apart_found c.loop-component.run row.of row.presence c.in_ok-set.set c.in_ok-push.field-0
          (c.loop-component.invariant known) member has c.in_ok-push.ensures.shares c.if-branch.true,
      λ two. refl,
    )

pub loop-component-preserved : goal.loop-component-preserved
loop-component-preserved c = λ known.
    let row = component_row c.component-item.result in
    let member = member_at component_row c.args.components.now c.loop-component.component-index c.component-item.result
    c.loop-component-test.true c.component-item.is in
    let place = c.loop-component.component-index in
    let has = c.in_ok-set.ensures (known.known place row.of row.presence member)
    (known.few place row.of row.presence member) in
    apart_more c.loop-component.run c.push.new.self row.of row.presence c.in_ok-set.set c.in_ok-push.field-0
    (c.loop-component.invariant known) member has c.in_ok-push.ensures.shares c.if-branch.false (record {
      any = c.in_ok-push.ensures.any;
      some = c.in_ok-push.ensures.some;
      tags = c.in_ok-push.ensures.tags;
    })

pub returns : goal.returns
returns c = λ known. (
  λ told. absurd (true≢false (sym told)),
  λ two. absurd (apart_last component_row c.args.components.now c.loop-component.component-index c.loop-component.run
      (c.loop-component.invariant known) c.loop-component-test.false two),
)
