-- The word has the form of a label.
use Rattle.std.proofs.Common.{◌≡◌, rules, true}
use Rattle.std.proofs.Math.Path.{subst}
use Rattle.token_grammar.specs.TokenTests.{is_label}
use Rattle.gdmo_types.proofs.StepLaws.{if_ok_by}
use Rattle.gdmo_rules.specs.TypeFaults.{TellsAction}
use Rattle.gdmo_rules.proofs.type_faults.is_label_of_nothing.Goals as goal

pub returns-clause-told : goal.returns-clause-told
returns-clause-told c = if_ok_by c.replies_no_number.result (λ is has parts action are told.
    let label : is_label c.args.word.now ≡ true = search rules in
    let types = subst (TellsAction parts c.args.numbers.now.lists action) c.in-Some.is told in
    let law = has parts action are types.reply in (λ e. (label, law.0 e), λ h. law.1 h.1))
    c.replies_no_number.ensures.told
