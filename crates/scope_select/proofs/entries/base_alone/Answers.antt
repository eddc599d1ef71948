-- The base alone is reached.
use Rattle.std.proofs.Common.{◌≡◌, ◌≤◌, ◌++◌, ◌∷◌, ◌∙◌, [], Err, ap, arith, length, rules, subst, sym}
use Rattle.scope_select.specs.declared.refusal.ScopeRefusal.TheVariants.{TooMany}
use Rattle.std.specs.Option.{option_copied}
use Rattle.std.specs.Prelude.{if◌then◌else◌}
use Rattle.scope_select.specs.Subtrees.{entries_in_scope, referred}
use Rattle.scope_select.proofs.SubtreeLaws.{base_none, base_some, found_begun, one_entry}
use Rattle.scope_select.proofs.entries.base_alone.Goals as goal

pub returns-in_default-clause-entries : goal.returns-in_default-clause-entries
returns-in_default-clause-entries g c =
    let objects = g.M.Ranged.objects c.args.mib.now in
    ap referred c.new-reached.ensures.items
    ∙ sym (base_none objects c.args.base.now c.args.scope.now c.requires.ends
    (sym c.entry.ensures.found ∙ ap option_copied c.in_default.is))

pub returns-in_default-clause-few : goal.returns-in_default-clause-few
returns-in_default-clause-few g c =
    let objects = g.M.Ranged.objects c.args.mib.now in
    let none =
    base_none objects c.args.base.now c.args.scope.now c.requires.ends
    (sym c.entry.ensures.found ∙ ap option_copied c.in_default.is) in
    omega (arith, ap length none)

pub add_entry-requires-clause-begun : goal.add_entry-requires-clause-begun
add_entry-requires-clause-begun g c =
    found_begun (g.M.Ranged.objects c.args.mib.now) c.args.base.now c.in-Some.entry.now (sym c.in-Some.ensures.found)

pub returns-in_err-add_entry-clause-many : goal.returns-in_err-add_entry-clause-many
returns-in_err-add_entry-clause-many g c = λ e.
    let objects = g.M.Ranged.objects c.args.mib.now in
    let refused : c.add_entry.result ≡ Err TooMany = first_of (search rules, grind arith) in
    let many = c.add_entry.ensures.many refused in
    let none : length (referred c.new-reached.result.items) ≡ 0 = ap (λ es. length (referred es)) c.new-reached.ensures.items
    in
    let one : entries_in_scope objects c.args.base.now c.args.scope.now ≡ c.in-Some.entry.now ∷ [] =
    base_some objects c.args.base.now c.args.scope.now c.in-Some.entry.now c.entry.ensures.rising c.requires.ends
    (sym c.in-Some.ensures.found) ∙ ap (λ b. if b then c.in-Some.entry.now ∷ [] else []) many.0 in
    omega (arith, ap length one, sym many.1 ∙ none)

pub returns-clause-entries : goal.returns-clause-entries
returns-clause-entries g c =
    let objects = g.M.Ranged.objects c.args.mib.now in
    c.in_ok-add_entry.ensures.added
    ∙ ap (λ es. referred es ++ one_entry c.args.base.now c.args.scope.now c.in-Some.entry.now) c.new-reached.ensures.items
    ∙ sym (base_some objects c.args.base.now c.args.scope.now c.in-Some.entry.now c.entry.ensures.rising
    c.requires.ends (sym c.in-Some.ensures.found))

pub returns-clause-few : goal.returns-clause-few
returns-clause-few g c =
    let objects = g.M.Ranged.objects c.args.mib.now in
    let all =
    c.in_ok-add_entry.ensures.added
    ∙ ap (λ es. referred es ++ one_entry c.args.base.now c.args.scope.now c.in-Some.entry.now) c.new-reached.ensures.items
    ∙ sym (base_some objects c.args.base.now c.args.scope.now c.in-Some.entry.now c.entry.ensures.rising
    c.requires.ends (sym c.in-Some.ensures.found)) in
    subst (λ es. length es ≤ c.args.limit) all c.in_ok-add_entry.ensures.few
