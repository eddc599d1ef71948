-- No braces.
use Rattle.asn1_names.specs.TermViews.{integer_term, module_terms}
use Rattle.asn1_types.proofs.SaidLaws.{none_named}
use Rattle.asn1_types.proofs.plain_syntax.stated_integers.Goals as goal

pub returns-in-None : goal.returns-in-None
returns-in-None c = none_named (module_terms c.args.numbers.now) c.args.home integer_term c.args.named.now c.new.result
    c.in-None.is c.new.ensures
