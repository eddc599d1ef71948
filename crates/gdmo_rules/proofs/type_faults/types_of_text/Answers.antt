-- The two types, the first of which keeps its number.
use Rattle.std.proofs.Common.{sym}
use Rattle.std.proofs.Math.Path.{subst}
use Rattle.gdmo_names.specs.PartTerms.{module_terms_of}
use Rattle.gdmo_names.specs.RuleWords.{information_of, reply_of}
use Rattle.gdmo_types.specs.ComparedTypes.{TellsStatedType}
use Rattle.gdmo_rules.proofs.TypeFaultLaws.{stated_stays}
use Rattle.gdmo_rules.proofs.type_faults.types_of_text.Goals as goal

pub returns-clause-told : goal.returns-clause-told
returns-clause-told c = λ parts x is are same.
    let text = c.args.text.now in
    let between = c.stated_type.new.numbers.lists in
    let after = c.stated_type-2.new.numbers.lists in
    let first = c.stated_type.ensures.stays (module_terms_of parts) are in
    let last = c.stated_type-2.ensures.stays (module_terms_of parts) first.are_numbers in record {
      information = subst (λ b. TellsStatedType parts after (information_of b) c.in_ok-information.information)
          (sym same) (stated_stays parts between after text.information c.in_ok-information.information last.grows
          (c.in_ok-information.ensures.told parts is are));
      reply = subst (λ b. TellsStatedType parts after (reply_of b) c.in_ok-reply.reply) (sym same)
          (c.in_ok-reply.ensures.told parts is first.are_numbers);
    }
