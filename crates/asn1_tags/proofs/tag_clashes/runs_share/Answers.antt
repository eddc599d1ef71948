-- The component at the index shares a tag with a former one of its run, or with none.
use Rattle.std.proofs.Common.{refl, sym, true≢false}
use Rattle.asn1_tags.specs.MemberRows.{component_row}
use Rattle.asn1_tags.proofs.MemberLists.{member_at}
use Rattle.asn1_tags.proofs.ShareLaws.{runs_first, runs_found, runs_last, runs_next}
use Rattle.asn1_tags.proofs.tag_clashes.runs_share.Goals as goal

pub loop-component-init : goal.loop-component-init
loop-component-init c = λ known. runs_first _ c.empty_run-run.result c.empty_run-run.ensures.any
    c.empty_run-run.ensures.some c.empty_run-run.ensures.tags

pub returns-then-shares : goal.returns-then-shares
returns-then-shares c = λ known.
    let row = component_row c.component-item.result in
    let member = member_at component_row c.args.components.now c.loop-component.component-index c.component-item.result
    c.loop-component-test.true c.component-item.is in
    let place = c.loop-component.component-index in
    let has = c.in_ok-set.ensures (known.known place row.of row.presence member)
    (known.few place row.of row.presence member) in (
      λ told. runs_found c.loop-component.run row.of row.presence c.in_ok-set.set c.in_ok-shares.shares
          (c.loop-component.invariant known) member has c.in_ok-shares.ensures.shares c.if-shares.true,
      λ two. refl,
    )

pub loop-component-preserved : goal.loop-component-preserved
loop-component-preserved c = λ known.
    let row = component_row c.component-item.result in
    let member = member_at component_row c.args.components.now c.loop-component.component-index c.component-item.result
    c.loop-component-test.true c.component-item.is in
    let place = c.loop-component.component-index in
    let has = c.in_ok-set.ensures (known.known place row.of row.presence member)
    (known.few place row.of row.presence member) in
    runs_next c.loop-component.run c.push.new.self c.next_run-run.result row.of row.presence c.in_ok-set.set
    c.in_ok-shares.shares (c.loop-component.invariant known) member has c.in_ok-shares.ensures.shares c.if-shares.false
    (record {
      any = c.in_ok-shares.ensures.any;
      some = c.in_ok-shares.ensures.some;
      tags = c.in_ok-shares.ensures.tags;
    }) c.may_be_absent-absent.result c.may_be_absent-absent.ensures c.next_run-run.ensures

pub returns : goal.returns
returns c = λ known. (
  λ told. absurd (true≢false (sym told)),
  λ two. absurd (runs_last component_row c.args.components.now c.loop-component.component-index c.loop-component.run
      (c.loop-component.invariant known) c.loop-component-test.false two),
)
