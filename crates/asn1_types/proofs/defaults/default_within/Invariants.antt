use Rattle.asn1_names.specs.TermViews.{module_terms, type_term}
use Rattle.asn1_types.specs.MeasuredTypes.{IsMeasured}
use Rattle.asn1_types.proofs.SoughtLaws.{IsOnPath}
use Rattle.asn1_types.proofs.defaults.default_within.Given as goal

abbrev pub invariant-loop-step : goal.invariant-loop-step
invariant-loop-step l = IsMeasured (module_terms l.numbers) l.home (type_term l.of) 10000 →
    IsOnPath (module_terms l.numbers) l.home (type_term l.of) l.path l.at (type_term l.left) l.rest l._step
