-- A mention in the role, one that isn't, and the end.
use Rattle.std.proofs.Common.{◌≡◌, ◌≢◌, ◌<◌, ◌≤◌, arith, length, rules}
use Rattle.gdmo_names.specs.Roles.{role_term}
use Rattle.gdmo_types.proofs.RoleLaws.{first_end, first_of_all, none_step}
use Rattle.gdmo_types.proofs.StepLaws.{got_at}
use Rattle.gdmo_types.proofs.role_targets.first_number.Goals as goal

pub returns-then-is_in_role : goal.returns-then-is_in_role
returns-then-is_in_role c = λ parts document terms are tell.
    let within : c.loop-k.k < length c.args.mentions.now = omega (arith, c.loop-k-test.true) in
    let same : role_term c.index-mentions-k.result.role ≡ role_term c.args.role = search rules in
    first_of_all parts c.args.templates.now document (role_term c.args.role) c.args.mentions.now c.args.numbers.now
    c.loop-k.k c.index-mentions-k.result c.number_at.result c.known_number.result
    (got_at c.args.mentions.now c.loop-k.k c.index-mentions-k.result within c.index-mentions-k.is) same
    c.number_at.ensures (λ x. c.known_number.ensures parts document x) (c.loop-k.invariant parts document) terms are
    tell

pub loop-k-preserved : goal.loop-k-preserved
loop-k-preserved c = λ parts document.
    let within : c.loop-k.k < length c.args.mentions.now = omega (arith, c.loop-k-test.true) in
    let apart : role_term c.index-mentions-k.result.role ≢ role_term c.args.role = search rules in
    none_step parts c.args.templates.now document (role_term c.args.role) c.args.mentions.now c.args.numbers.now
    c.loop-k.k c.index-mentions-k.result
    (got_at c.args.mentions.now c.loop-k.k c.index-mentions-k.result within c.index-mentions-k.is) apart
    (c.loop-k.invariant parts document)

pub returns : goal.returns
returns c = λ parts document terms are tell.
    let past : length c.args.mentions.now ≤ c.loop-k.k = omega (arith, c.loop-k-test.false) in
    first_end parts c.args.templates.now document (role_term c.args.role) c.args.mentions.now c.args.numbers.now
    c.loop-k.k past (c.loop-k.invariant parts document) terms are tell
