use Rattle.std.proofs.Common.{◌≡◌, drop}
use Rattle.std.specs.Prelude.{◌&&◌, ◌||◌}
use Rattle.term_model.specs.FilterTests.{are_true_of, is_some_true_of}
use Rattle.term_model.specs.FilterTrees.{filters_listed}
use Rattle.term_model.specs.FilterTruth.{are_valid}
use Rattle.cmis_filter.proofs.evaluation.+evaluating.Given as goal

abbrev pub invariant-all_truth-loop-i : goal.invariant-all_truth-loop-i
invariant-all_truth-loop-i l =
    (are_valid l.set.attributes (filters_listed l.items)
    ≡ are_valid l.set.attributes (filters_listed (drop l.i l.items)))
    × (are_true_of l.set.attributes l.object.attrs (filters_listed l.items)
    ≡ (l.all && are_true_of l.set.attributes l.object.attrs (filters_listed (drop l.i l.items))))

abbrev pub invariant-any_truth-loop-i : goal.invariant-any_truth-loop-i
invariant-any_truth-loop-i l =
    (are_valid l.set.attributes (filters_listed l.items)
    ≡ are_valid l.set.attributes (filters_listed (drop l.i l.items)))
    × (is_some_true_of l.set.attributes l.object.attrs (filters_listed l.items)
    ≡ (l.any || is_some_true_of l.set.attributes l.object.attrs (filters_listed (drop l.i l.items))))
