-- A named number of the type, and a name that is none.
use Rattle.std.proofs.Common.{Bor, Option, option_map, sym}
use Rattle.std.proofs.Math.Path.{subst}
use Rattle.asn1_values_syntax.specs.declared.numbers.Bound.{Bound}
use Rattle.asn1_names.specs.ModuleTerms.NumberTerm.{Called}
use Rattle.asn1_names.specs.NumbersFound.{FindsBound, FindsNumber}
use Rattle.asn1_names.specs.TermViews.{bound_term, module_terms}
use Rattle.asn1_numbers.specs.NumberedValues.{TellsNamed}
use Rattle.asn1_numbers.proofs.FoundLaws.{bound_named, bound_unnamed}
use Rattle.asn1_numbers.proofs.number_tables.Numbers.bound_by.Goals as goal

pub returns-in-Some : goal.returns-in-Some
returns-in-Some c = λ of told.
    let ms = module_terms c.args.self.now in
    let name = c.args.name.now in
    let w = c.args.written_in in
    subst (λ r. FindsBound ms c.args.home of (Called name) r) (sym c.known_answer.ensures)
    (bound_named ms c.args.home w of name (bound_term c.in-Some.bound.now) c.number.result
    (subst (λ (o : Option (Bor Bound)). TellsNamed ms c.args.home of name w (option_map (λ b. bound_term b.now) o))
    c.in-Some.is told)
    (subst (λ s. FindsNumber ms w s c.number.result) c.bound_text.ensures c.number.ensures))

pub returns-in-None : goal.returns-in-None
returns-in-None c = λ of told.
    let ms = module_terms c.args.self.now in
    let name = c.args.name.now in
    let w = c.args.written_in in
    bound_unnamed ms c.args.home of name c.called_number.result
    (subst (λ (o : Option (Bor Bound)). TellsNamed ms c.args.home of name w (option_map (λ b. bound_term b.now) o))
    c.in-None.is told) c.called_number.ensures
