use Rattle.std.proofs.Common.{◌-◌, List, drop, length}
use Rattle.asn1_names.specs.PassedNames.{Passed, Returns}
use Rattle.asn1_names.specs.TermViews.{module_terms}
use Rattle.asn1_types.specs.BuiltSyntaxes.{AllTakeLimits}
use Rattle.asn1_types.specs.FollowedNames.{AreKept}
use Rattle.asn1_types.proofs.returning.constrained_by.Given as goal

abbrev pub invariant-loop-behind : goal.invariant-loop-behind
invariant-loop-behind l = (path : List Passed) → AreKept l.passed path →
    AllTakeLimits (module_terms l.numbers) path l.fn.syntax →
    Returns (module_terms l.numbers) (drop (length l.passed - l.behind) path) l.fn.syntax l.left
