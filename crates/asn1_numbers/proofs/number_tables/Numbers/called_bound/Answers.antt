-- The named number that the base has under the name.
use Rattle.std.proofs.Common.{◌∙◌, Bor, None, Some, ap, option_map}
use Rattle.std.proofs.Math.Path.{subst}
use Rattle.asn1_values_syntax.specs.declared.numbers.Bound.{Bound}
use Rattle.asn1_names.specs.declared.numbers.Base.TheVariants as code
use Rattle.asn1_names.specs.NumbersFound.{TellsNames, beneath_tags}
use Rattle.asn1_names.specs.TermViews.{bound_term, module_terms, type_term}
use Rattle.asn1_names.specs.TypeBase.{named_numbers, number_called}
use Rattle.asn1_names.specs.WordViews.{standard_syntax_of}
use Rattle.asn1_numbers.proofs.FoundLaws.{bound_unnamed, held_named, named_told, standing_unnamed}
use Rattle.asn1_numbers.proofs.number_tables.Numbers.called_bound.Goals as goal

pub returns-in-Some : goal.returns-in-Some
returns-in-Some c = λ of told.
    let ms = module_terms c.args.self.now in
    let home = c.args.home in
    let name = c.args.name.now in
    let w = c.in-Written.written_in in
    let top = c.in-Written.field-1 in
    let found : TellsNames ms home of (code.Written w top (Some c.in-Some.number)) c.args.own.now =
    subst (λ b. TellsNames ms home of b c.args.own.now) (c.in-Written.is ∙ ap (code.Written w top) c.in-Some.is) told in
    c.bound_by.ensures of
    (held_named ms home w c.in-Some.number of (type_term top.now) name
    (option_map (λ (b : Bor Bound). bound_term b.now) c.stated.result) found.0 found.1
    (λ v its is. c.stated.ensures v its is ∙
    ap (λ key. number_called key (named_numbers (beneath_tags its))) c.as_slice-key.ensures))

pub returns-in-None : goal.returns-in-None
returns-in-None c = λ of told.
    let ms = module_terms c.args.self.now in
    let home = c.args.home in
    let name = c.args.name.now in
    let w = c.in-Written.written_in in
    let top = c.in-Written.field-1 in
    let found : TellsNames ms home of (code.Written w top None) c.args.own.now =
    subst (λ b. TellsNames ms home of b c.args.own.now) (c.in-Written.is ∙ ap (code.Written w top) c.in-None.is) told in
    c.bound_by-in-None.ensures of
    (named_told ms home w of (type_term top.now) name
    (option_map (λ (b : Bor Bound). bound_term b.now) c.copied.result) found.0
    (ap (option_map (λ (b : Bor Bound). bound_term b.now)) (c.copied.ensures ∙ c.get.ensures.value) ∙
    found.1 c.as_slice-key.result.now ∙
    ap (λ key. number_called key (named_numbers (type_term top.now))) c.as_slice-key.ensures))

pub returns-in-Standing : goal.returns-in-Standing
returns-in-Standing c = λ of told.
    let ms = module_terms c.args.self.now in
    let name = c.args.name.now in
    bound_unnamed ms c.args.home of name c.called_number.result
    (standing_unnamed ms c.args.home of name (standard_syntax_of c.in-Standing.field-0)
    (subst (λ b. TellsNames ms c.args.home of b c.args.own.now) c.in-Standing.is told)) c.called_number.ensures

pub returns-in-Nothing : goal.returns-in-Nothing
returns-in-Nothing c = λ of told.
    let ms = module_terms c.args.self.now in
    let name = c.args.name.now in
    bound_unnamed ms c.args.home of name c.called_number-in-Nothing.result
    (λ w said named. subst (λ b. TellsNames ms c.args.home of b c.args.own.now) c.in-Nothing.is told name
    (record { written_in = w; number = said; has = named })) c.called_number-in-Nothing.ensures
