-- A mention more, and the end.
use Rattle.std.proofs.Common.{◌<◌, ◌≤◌, arith, length}
use Rattle.gdmo_names.specs.Roles.{role_term}
use Rattle.gdmo_types.proofs.RoleLaws.{role_begun, role_end, role_step}
use Rattle.gdmo_types.proofs.StepLaws.{got_at}
use Rattle.gdmo_types.proofs.role_targets.numbers_in_role.Goals as goal

pub loop-k-init : goal.loop-k-init
loop-k-init c = λ parts document.
    role_begun parts c.args.templates.now document (role_term c.args.role) c.args.mentions.now c.args.numbers.now
    c.new-own.result.items c.new-own.ensures.items

pub loop-k-preserved : goal.loop-k-preserved
loop-k-preserved c = λ parts document.
    let within : c.loop-k.k < length c.args.mentions.now = omega (arith, c.loop-k-test.true) in
    role_step parts c.args.templates.now document (role_term c.args.role) c.args.mentions.now c.args.numbers.now
    c.loop-k.k c.index-mentions-k.result c.number_at.result c.loop-k.own.items c.keep_in_role.new.own.items
    (got_at c.args.mentions.now c.loop-k.k c.index-mentions-k.result within c.index-mentions-k.is)
    c.number_at.ensures (c.loop-k.invariant parts document)
    (λ so_far x is tells has. c.in_ok-keep_in_role.ensures parts document so_far x is tells has)

pub returns : goal.returns
returns c = λ parts document terms are tell.
    let past : length c.args.mentions.now ≤ c.loop-k.k = omega (arith, c.loop-k-test.false) in
    role_end parts c.args.templates.now document (role_term c.args.role) c.args.mentions.now c.args.numbers.now
    c.loop-k.k c.loop-k.own.items past (c.loop-k.invariant parts document) terms are tell
