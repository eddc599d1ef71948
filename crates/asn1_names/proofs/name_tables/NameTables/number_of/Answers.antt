-- What the names of the module tell is what it assigns.
use Rattle.std.proofs.Common.{rules, ◌≡◌, ◌∙◌, ℕ, List, None, Some, Option, ap, option_map, slice_get, sym, Bor}
use Rattle.std.proofs.Math.Path.{subst}
use Rattle.std.specs.Option.{option_copied}
use Rattle.asn1_names.specs.CodeMeanings.{TellsNumber}
use Rattle.asn1_names.specs.NameMeaning.{assigned_in}
use Rattle.asn1_names.specs.TermViews.{module_terms}
use Rattle.asn1_names.proofs.TableAnswers.{item_is, told_at}
use Rattle.asn1_names.proofs.TableLaws.{TellsMeaning}
use Rattle.asn1_names.proofs.name_tables.NameTables.number_of.Goals as goal

pub returns-in-Some : goal.returns-in-Some
returns-in-Some c =
    let items : c.deref.result.now ≡ c.self.inside.names.items = search rules in
    let item : option_copied c.get.result ≡ slice_get c.self.inside.names.items c.args.home =
    item_is c.deref.result.now c.args.home c.get.result c.get.ensures.lookup.0 c.get.ensures.lookup.1 ∙
    ap (λ xs. slice_get xs c.args.home) items in
    let told : TellsMeaning (module_terms c.args.self.now) c.args.home c.args.name.now (option_copied c.get.result) =
    told_at c.self.inside.modules.now c.args.self.now c.self.inside.by_name c.self.inside.names.items
    c.self.inside.assignments.items c.self.view_is c.self.invariant
    c.args.home c.args.name.now c.get.result item in
    subst (λ k. TellsNumber (module_terms c.args.self.now)
    (assigned_in (module_terms c.args.self.now) c.args.home c.args.name.now) k)
    (sym (c.copied.ensures ∙ c.get-in-Some.ensures.value))
    (subst (λ r. TellsMeaning (module_terms c.args.self.now) c.args.home c.args.name.now (option_copied r))
    c.in-Some.is told)

pub returns-in-None : goal.returns-in-None
returns-in-None c =
    let items : c.deref.result.now ≡ c.self.inside.names.items = search rules in
    let item : option_copied c.get.result ≡ slice_get c.self.inside.names.items c.args.home =
    item_is c.deref.result.now c.args.home c.get.result c.get.ensures.lookup.0 c.get.ensures.lookup.1 ∙
    ap (λ xs. slice_get xs c.args.home) items in
    let told : TellsMeaning (module_terms c.args.self.now) c.args.home c.args.name.now (option_copied c.get.result) =
    told_at c.self.inside.modules.now c.args.self.now c.self.inside.by_name c.self.inside.names.items
    c.self.inside.assignments.items c.self.view_is c.self.invariant
    c.args.home c.args.name.now c.get.result item in
    subst (λ r. TellsMeaning (module_terms c.args.self.now) c.args.home c.args.name.now (option_copied r))
    c.in-None.is told
