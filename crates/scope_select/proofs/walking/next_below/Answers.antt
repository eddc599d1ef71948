use Rattle.std.proofs.Common.{◌≡◌, None, Some, rules}
use Rattle.term_model.specs.Scope.{level_below}
use Rattle.scope_select.proofs.EntryLaws.{last_by_none, last_outside, next_is_name}
use Rattle.scope_select.proofs.walking.next_below.Goals as goal

pub returns-in-None-clause-found : goal.returns-in-None-clause-found
returns-in-None-clause-found g c =
    last_by_none c.args.base.now c.args.here.now (g.M.Ranged.objects c.args.mib.now) c.in-None.ensures.next

pub returns-in-None-level_below-clause-found : goal.returns-in-None-level_below-clause-found
returns-in-None-level_below-clause-found g c =
    let outside : level_below c.args.base.now c.in-Some.next.now ≡ None = search rules in
    last_outside c.args.base.now c.args.here.now (g.M.Ranged.objects c.args.mib.now) c.in-Some.next.now
    c.in-Some.field-0-1.now c.in-Some.ensures.next outside

pub returns-in-Some-level_below-clause-found : goal.returns-in-Some-level_below-clause-found
returns-in-Some-level_below-clause-found g c =
    let level : level_below c.args.base.now c.in-Some.next.now ≡ Some c.in-Some-level_below.level = search rules in
    record {
      next_is =
          next_is_name c.args.here.now (g.M.Ranged.objects c.args.mib.now) c.in-Some.next.now
          c.in-Some.field-0-1.now c.in-Some.ensures.next;
      level_is = level;
    }
