use Rattle.term_values.specs.MatchingKinds.MatchingRule.{Equality, Substrings, Comparison, Intersection}
use Rattle.cmis_filter.proofs.MatchLaws.{ok_told}
use Rattle.cmis_filter.proofs.comparing.compare.Goals as goal

pub returns-in-Equal-clause-truth : goal.returns-in-Equal-clause-truth
returns-in-Equal-clause-truth c =
    rw c.in-Equal.is
    (ok_told Equality c.args.asserted.now c.args.held.now c.equal.result c.equal.ensures.matched)

pub returns-in-HasPieces-clause-truth : goal.returns-in-HasPieces-clause-truth
returns-in-HasPieces-clause-truth c =
    rw c.in-HasPieces.is
    (ok_told Substrings c.args.asserted.now c.args.held.now c.contains_text.result c.contains_text.ensures.matched)

pub returns-in-Within-clause-truth : goal.returns-in-Within-clause-truth
returns-in-Within-clause-truth c =
    rw c.in-Within.is
    (ok_told Comparison c.args.asserted.now c.args.held.now c.subset.result c.subset.ensures.matched)

pub returns-in-Around-clause-truth : goal.returns-in-Around-clause-truth
returns-in-Around-clause-truth c =
    rw c.in-Around.is
    (ok_told Comparison c.args.held.now c.args.asserted.now c.subset-in-Around.result
    c.subset-in-Around.ensures.matched)

pub returns-in-Meeting-clause-truth : goal.returns-in-Meeting-clause-truth
returns-in-Meeting-clause-truth c =
    rw c.in-Meeting.is
    (ok_told Intersection c.args.asserted.now c.args.held.now c.meets.result c.meets.ensures.matched)
