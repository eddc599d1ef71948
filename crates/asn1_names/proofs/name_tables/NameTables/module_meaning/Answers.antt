-- CMIP-1, or the first module of the name.
use Rattle.std.proofs.Common.{rules, ◌≡◌, ◌∙◌, ℕ, List, None, Some, Option, ap, option_map, slice_get, sym, Bor}
use Rattle.std.proofs.Math.Path.{subst}
use Rattle.std.specs.Option.{option_copied}
use Rattle.std.proofs.Common.{true, false}
use Rattle.asn1_names.specs.AssignmentNumbers.{first_place}
use Rattle.asn1_names.specs.StandardModule.{is_same_name, standard_module_name}
use Rattle.asn1_names.specs.TermViews.{module_terms}
use Rattle.asn1_names.proofs.TableLaws.{module_is, standard_is}
use Rattle.asn1_names.proofs.name_tables.NameTables.module_meaning.Goals as goal

pub returns-then-is_standard_module : goal.returns-then-is_standard_module
returns-then-is_standard_module c = sym (standard_is (module_terms c.args.self.now) c.args.name.now
    (sym c.is_standard_module.ensures ∙ c.if-is_standard_module.true))

pub returns-in-Some : goal.returns-in-Some
returns-in-Some c = module_is (module_terms c.args.self.now) c.args.name.now (Some c.in-Some.place)
    (sym c.is_standard_module.ensures ∙ c.if-is_standard_module.false)
    (sym c.in-Some.is ∙ c.copied.ensures ∙ c.get.ensures.value ∙ c.self.invariant.places c.args.name.now ∙
    ap (λ v. first_place c.args.name.now 0 (module_terms v)) c.self.view_is)

pub returns-in-None : goal.returns-in-None
returns-in-None c = module_is (module_terms c.args.self.now) c.args.name.now None
    (sym c.is_standard_module.ensures ∙ c.if-is_standard_module.false)
    (sym c.in-None.is ∙ c.copied.ensures ∙ c.get.ensures.value ∙ c.self.invariant.places c.args.name.now ∙
    ap (λ v. first_place c.args.name.now 0 (module_terms v)) c.self.view_is)
