-- The text of the end, which has a number.
use Rattle.asn1_names.specs.TermViews.{module_terms, type_term}
use Rattle.type_numbers.specs.KeysBeside.{IsBesideEnd}
use Rattle.type_numbers.specs.PlacedTerms.{placed_terms}
use Rattle.type_numbers.proofs.LeadLaws.{end_at, end_is}
use Rattle.type_numbers.proofs.type_texts.TypeTexts.end_text.Goals as goal

pub returns-in-Some : goal.returns-in-Some
returns-in-Some c = λ key a.
    let ms = module_terms c.args.self.now in
    end_at ms c.end.result c.in-Some.text.module (type_term c.in-Some.text.of.now) key
    (IsBesideEnd ms (placed_terms c.itself.result) key) c.in-Some.ensures (c.end.ensures key a) (c.itself.ensures key)

pub returns-in-None : goal.returns-in-None
returns-in-None c = λ key a.
    end_is (module_terms c.args.self.now) c.end.result key c.in-None.ensures (c.end.ensures key a)
