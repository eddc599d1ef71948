-- The names at the components, or in the alternatives, so far are marked.
use Rattle.std.proofs.Common.{ℕ, List, option_map, take}
use Rattle.asn1_names.specs.ModuleTerms.{ModuleTerm}
use Rattle.asn1_names.specs.TermViews.{type_term}
use Rattle.gdmo_begun_names.specs.BegunMarks.{AnyFirst, Marks}
use Rattle.begun_values.specs.DefaultNames.{AlternativeFirsts, ComponentFirsts, DenotedFirsts}
use Rattle.begun_values.specs.MeantSyntaxes.{DenotesThis}
use Rattle.begun_values.proofs.default_values.+default_marks.Given as goal

abbrev pub invariant-mark_defaults-loop-k : goal.invariant-mark_defaults-loop-k
invariant-mark_defaults-loop-k l = (ms : List ModuleTerm) (m : ℕ) →
    DenotesThis ms m (type_term l.fn.of) (option_map (λ one. one.now) l.syntax) →
    Marks (AnyFirst (ComponentFirsts (DenotedFirsts ms m)) (take l.k l.component-items)) l.initial.names l.names

abbrev pub invariant-mark_defaults-loop-k-2 : goal.invariant-mark_defaults-loop-k-2
invariant-mark_defaults-loop-k-2 l = (ms : List ModuleTerm) (m : ℕ) →
    DenotesThis ms m (type_term l.fn.of) (option_map (λ one. one.now) l.syntax) →
    Marks (AnyFirst (AlternativeFirsts (DenotedFirsts ms m)) (take l.k l.alternative-items)) l.initial.names l.names
