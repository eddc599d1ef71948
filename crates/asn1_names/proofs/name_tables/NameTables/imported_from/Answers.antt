-- What the names of the module tell of its imports.
use Rattle.std.proofs.Common.{rules, ◌≡◌, ◌∙◌, ℕ, List, None, Some, Option, ap, option_map, slice_get, sym, Bor}
use Rattle.std.proofs.Math.Path.{subst}
use Rattle.std.specs.Option.{option_copied}
use Rattle.token_grammar.specs.declared.token.Token.{Token}
use Rattle.asn1_names.specs.NameMeaning.{import_of}
use Rattle.asn1_names.specs.TermViews.{module_terms}
use Rattle.asn1_names.proofs.TableAnswers.{item_is}
use Rattle.asn1_names.proofs.TableLaws.{own_source, source_in}
use Rattle.asn1_names.proofs.name_tables.NameTables.imported_from.Goals as goal

pub returns-in-Some : goal.returns-in-Some
returns-in-Some c =
    let items : c.deref.result.now ≡ c.self.inside.names.items = search rules in
    let item : option_copied c.get.result ≡ slice_get c.self.inside.names.items c.args.home =
    item_is c.deref.result.now c.args.home c.get.result c.get.ensures.lookup.0 c.get.ensures.lookup.1 ∙
    ap (λ xs. slice_get xs c.args.home) items in
    ap (option_map (λ text. text.now)) (c.copied.ensures ∙ c.get-in-Some.ensures.value) ∙
    ap (source_in c.args.name.now) (sym (ap option_copied c.in-Some.is) ∙ item) ∙
    own_source c.self.inside.modules.now c.self.inside.by_name c.self.inside.names.items
    c.self.inside.assignments.items c.self.invariant c.args.home c.args.name.now ∙
    ap (λ v. option_map (λ (token : Token). token.text) (import_of (module_terms v) c.args.home c.args.name.now))
    c.self.view_is

pub returns-in-None : goal.returns-in-None
returns-in-None c =
    let items : c.deref.result.now ≡ c.self.inside.names.items = search rules in
    let item : option_copied c.get.result ≡ slice_get c.self.inside.names.items c.args.home =
    item_is c.deref.result.now c.args.home c.get.result c.get.ensures.lookup.0 c.get.ensures.lookup.1 ∙
    ap (λ xs. slice_get xs c.args.home) items in
    ap (source_in c.args.name.now) (sym (ap option_copied c.in-None.is) ∙ item) ∙
    own_source c.self.inside.modules.now c.self.inside.by_name c.self.inside.names.items
    c.self.inside.assignments.items c.self.invariant c.args.home c.args.name.now ∙
    ap (λ v. option_map (λ (token : Token). token.text) (import_of (module_terms v) c.args.home c.args.name.now))
    c.self.view_is
