-- A name of an assigned type.
use Rattle.std.proofs.Math.Path.{subst}
use Rattle.asn1_names.specs.TermViews.{module_terms, type_term}
use Rattle.type_numbers.specs.TextLeads.{NamesAssigned}
use Rattle.type_numbers.proofs.LeadLaws.{beside_on}
use Rattle.type_numbers.proofs.type_texts.TypeTexts.text_at_end.Goals as goal

pub returns-in-Assigned : goal.returns-in-Assigned
returns-in-Assigned c = λ key b.
    let ms = module_terms c.args.self.now in
    let of = type_term c.args.text.of.now in
    c.end_text.ensures key (beside_on ms c.args.text.module c.in-Assigned.target of key
    (subst (λ xs. NamesAssigned (module_terms xs) c.args.text.module of c.in-Assigned.target) c.self.view_is
    c.in-Assigned.ensures) b)
