-- The end that is known.
use Rattle.std.proofs.Common.{◌∙◌, Some, ap, refl, sym}
use Rattle.std.proofs.Math.Path.{subst}
use Rattle.std.proofs.lemmas.Option.{slice_get_past, slice_get_read}
use Rattle.asn1_names.specs.TermViews.{module_terms}
use Rattle.type_numbers.specs.TextLeads.{AreTextEnds}
use Rattle.type_numbers.proofs.LeadLaws.{end_missing, end_past, end_told}
use Rattle.type_numbers.proofs.type_texts.TypeTexts.end.Goals as goal

pub returns-in-Some-Some : goal.returns-in-Some-Some
returns-in-Some-Some c = λ key a.
    let arm = c.in-Some-Some in
    let xs = c.deref.result.now in
    end_told (module_terms c.args.self.now) xs c.args.number arm.end key
    (subst (λ ys. AreTextEnds (module_terms c.args.self.now) ys) (sym c.deref.ensures.value)
    (subst (λ ys. AreTextEnds (module_terms ys) c.self.inside.ends.items) c.self.view_is c.self.invariant))
    (slice_get_read xs _ c.args.number arm.field-0.now refl arm.ensures.lookup.3.0 arm.ensures.lookup.1 ∙
    ap Some arm.field-0-is) a

pub returns-in-Some-None : goal.returns-in-Some-None
returns-in-Some-None c = λ key a.
    let arm = c.in-Some-None in
    let xs = c.deref.result.now in
    end_missing (module_terms c.args.self.now) xs c.args.number key
    (subst (λ ys. AreTextEnds (module_terms c.args.self.now) ys) (sym c.deref.ensures.value)
    (subst (λ ys. AreTextEnds (module_terms ys) c.self.inside.ends.items) c.self.view_is c.self.invariant))
    (slice_get_read xs _ c.args.number arm.field-0.now refl arm.ensures.lookup.3.0 arm.ensures.lookup.1 ∙
    ap Some arm.field-0-is) a

pub returns-in-None : goal.returns-in-None
returns-in-None c = λ key a.
    let xs = c.deref.result.now in
    end_past (module_terms c.args.self.now) xs c.args.number key
    (subst (λ ys. AreTextEnds (module_terms c.args.self.now) ys) (sym c.deref.ensures.value)
    (subst (λ ys. AreTextEnds (module_terms ys) c.self.inside.ends.items) c.self.view_is c.self.invariant))
    (slice_get_past xs c.args.number c.in-None.ensures.lookup.3) a
