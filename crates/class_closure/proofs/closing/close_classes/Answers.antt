-- What names mean and which values assignments have, and the texts that are noted with them.
use Rattle.std.proofs.Common.{List, Option, sym}
use Rattle.std.proofs.Math.Path.{subst}
use Rattle.term_values.specs.Typed.{TypedValue}
use Rattle.asn1_names.specs.TermViews.{module_terms}
use Rattle.filled_syntaxes.specs.AssignedValues.{AreAssignedValues}
use Rattle.filled_syntaxes.specs.BadAssignments.{BadOfAssignments}
use Rattle.filled_syntaxes.specs.NotedTexts.{NotesTexts}
use Rattle.filled_syntaxes.specs.declared.bad_texts.TextPlace.{TextPlace}
use Rattle.class_closure.proofs.ClosingLaws.{err_by, ok_by, on_ok_by}
use Rattle.class_closure.proofs.closing.close_classes.Goals as goal

pub returns-clause-faultless : goal.returns-clause-faultless
returns-clause-faultless c =
    let ms = module_terms c.args.modules.now in
    let linked = c.args.linked.now in
    on_ok_by c.close_named.result (λ x told same. let things = c.in_ok-things.ensures same in
    (told ms things
    (subst (λ (xs : List (Option TypedValue)). AreAssignedValues ms linked xs) (sym c.as_slice.ensures.value)
    (c.in_ok-values.ensures.values ms linked things))
    (subst (λ (before : Option TextPlace). NotesTexts (BadOfAssignments ms linked) before
    c.assigned_values.new.bad.first)
    c.none-bad.ensures (c.in_ok-values.ensures.noted ms linked things))).faultless) c.close_named.ensures.closed

pub returns-clause-records : goal.returns-clause-records
returns-clause-records c =
    let ms = module_terms c.args.modules.now in
    let linked = c.args.linked.now in
    ok_by c.close_named.result (λ x told same. let things = c.in_ok-things.ensures same in
    (told ms things
    (subst (λ (xs : List (Option TypedValue)). AreAssignedValues ms linked xs) (sym c.as_slice.ensures.value)
    (c.in_ok-values.ensures.values ms linked things))
    (subst (λ (before : Option TextPlace). NotesTexts (BadOfAssignments ms linked) before
    c.assigned_values.new.bad.first)
    c.none-bad.ensures (c.in_ok-values.ensures.noted ms linked things))).records) c.close_named.ensures.closed

pub returns-clause-cause : goal.returns-clause-cause
returns-clause-cause c =
    let ms = module_terms c.args.modules.now in
    let linked = c.args.linked.now in
    err_by c.close_named.result (λ refusal told same. let things = c.in_ok-things.ensures same in
    told ms things
    (subst (λ (xs : List (Option TypedValue)). AreAssignedValues ms linked xs) (sym c.as_slice.ensures.value)
    (c.in_ok-values.ensures.values ms linked things))
    (subst (λ (before : Option TextPlace). NotesTexts (BadOfAssignments ms linked) before
    c.assigned_values.new.bad.first)
    c.none-bad.ensures (c.in_ok-values.ensures.noted ms linked things))) c.close_named.ensures.cause
