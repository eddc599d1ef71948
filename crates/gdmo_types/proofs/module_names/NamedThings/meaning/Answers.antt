-- The table has the module's name, or it hasn't.
use Rattle.std.proofs.Common.{◌≡◌}
use Rattle.std.proofs.Math.Path.{subst}
use Rattle.asn1_names.specs.FirstNames.{found}
use Rattle.asn1_names.specs.NameMeaning.{module_meaning}
use Rattle.asn1_names.specs.NameMeaning.ModuleMeaning.{NoModule}
use Rattle.asn1_names.specs.TermViews.{module_terms}
use Rattle.gdmo_types.proofs.ModuleNameLaws.{got_nothing, got_one}
use Rattle.gdmo_types.proofs.QualifiedLaws.{module_noted, no_module_noted, nothing_meant}
use Rattle.gdmo_types.proofs.module_names.NamedThings.meaning.Goals as goal

pub returns-in-None-clause-means : goal.returns-in-None-clause-means
returns-in-None-clause-means c = λ are.
    let ms = module_terms c.args.self.now.types.now in
    let key = c.as_slice.result.now in
    let gone = got_nothing c.get.result (found c.args.self.now.modules.now key) c.get.ensures.value c.in-None.is in
    nothing_meant ms c.args.name.now
    (subst (λ text. module_meaning ms text ≡ NoModule) c.as_slice.ensures ((are key).0 gone))

pub returns-in-None-clause-faults : goal.returns-in-None-clause-faults
returns-in-None-clause-faults c = λ are.
    let ms = module_terms c.args.self.now.types.now in
    let key = c.as_slice.result.now in
    let gone = got_nothing c.get.result (found c.args.self.now.modules.now key) c.get.ensures.value c.in-None.is in
    no_module_noted ms c.args.document c.args.name.now c.args.faults.now.first c.note.new.self.first
    (subst (λ text. module_meaning ms text ≡ NoModule) c.as_slice.ensures ((are key).0 gone)) c.note.ensures

pub returns-in-Some-clause-means : goal.returns-in-Some-clause-means
returns-in-Some-clause-means c = λ are. c.meaning_in.ensures.means

pub returns-in-Some-clause-faults : goal.returns-in-Some-clause-faults
returns-in-Some-clause-faults c = λ are.
    let ms = module_terms c.args.self.now.types.now in
    let key = c.as_slice.result.now in
    let there = got_one c.get.result (found c.args.self.now.modules.now key) _ c.get.ensures.value c.in-Some.is in
    module_noted ms c.args.document c.args.name.now c.args.faults.now.first c.meaning_in.new.faults.first
    (subst (λ text. module_meaning ms text ≡ NoModule → ⊥) c.as_slice.ensures (λ h. there ((are key).1 h)))
    c.meaning_in.ensures.faults
