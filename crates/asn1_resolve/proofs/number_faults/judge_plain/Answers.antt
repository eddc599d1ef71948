-- The named numbers, items and bits of types, and names.
use Rattle.std.proofs.Common.{List, Option, map, sym}
use Rattle.std.specs.declared.alloc.Global.{Global}
use Rattle.std.specs.declared.vec.Vec.{Vec}
use Rattle.std.proofs.Math.Path.{subst}
use Rattle.asn1_syntax.specs.declared.module.Module.{Module}
use Rattle.asn1_syntax.specs.declared.plain_type.PlainType.{PlainType}
use Rattle.asn1_values_syntax.specs.declared.named_number.NamedBit.{NamedBit}
use Rattle.asn1_values_syntax.specs.declared.named_number.NamedInteger.{NamedInteger}
use Rattle.asn1_names.specs.CodeMeanings.{named_module, named_type}
use Rattle.asn1_names.specs.ModuleTerms.{NamedNumberTerm, TypeTerm}
use Rattle.asn1_names.specs.TermViews.{bit_term, integer_term, listed_terms, module_terms, plain_term}
use Rattle.asn1_names.proofs.WalkLaws.{named_is}
use Rattle.asn1_resolve.specs.FaultSets.{AnyOf, In, IsFirstOf}
use Rattle.asn1_resolve.specs.TypeFaults.{HeadFaults, NameFaults, NumberFaults}
use Rattle.asn1_resolve.proofs.number_faults.judge_plain.Goals as goal

pub returns-in-Some : goal.returns-in-Some
returns-in-Some c = λ limits.
    subst (λ (p : PlainType). IsFirstOf (In c.args.home.document (HeadFaults (module_terms c.args.numbers.now)
    c.args.home.module (plain_term p limits))) c.judge_integers.result) (sym c.in-Integer.is)
    (subst (λ (n : Option (Vec NamedInteger Global)). IsFirstOf (In c.args.home.document (AnyOf
    (λ (x : NamedNumberTerm). NumberFaults (module_terms c.args.numbers.now) c.args.home.module x.number)
    (listed_terms integer_term n))) c.judge_integers.result) (sym c.in-Some.is)
    (subst (λ (xs : List NamedInteger). IsFirstOf (In c.args.home.document (AnyOf
    (λ (x : NamedNumberTerm). NumberFaults (module_terms c.args.numbers.now) c.args.home.module x.number)
    (map integer_term xs))) c.judge_integers.result) c.as_slice.ensures.value c.judge_integers.ensures))

pub returns-in-Enumerated : goal.returns-in-Enumerated
returns-in-Enumerated c = λ limits.
    subst (λ (p : PlainType). IsFirstOf (In c.args.home.document (HeadFaults (module_terms c.args.numbers.now)
    c.args.home.module (plain_term p limits))) c.judge_integers-in-Enumerated.result) (sym c.in-Enumerated.is)
    (subst (λ (xs : List NamedInteger). IsFirstOf (In c.args.home.document (AnyOf
    (λ (x : NamedNumberTerm). NumberFaults (module_terms c.args.numbers.now) c.args.home.module x.number)
    (map integer_term xs))) c.judge_integers-in-Enumerated.result) c.as_slice-in-Enumerated.ensures.value
    c.judge_integers-in-Enumerated.ensures)

pub returns-in-Some-bits : goal.returns-in-Some-bits
returns-in-Some-bits c = λ limits.
    subst (λ (p : PlainType). IsFirstOf (In c.args.home.document (HeadFaults (module_terms c.args.numbers.now)
    c.args.home.module (plain_term p limits))) c.judge_bits.result) (sym c.in-BitString.is)
    (subst (λ (n : Option (Vec NamedBit Global)). IsFirstOf (In c.args.home.document (AnyOf
    (λ (x : NamedNumberTerm). NumberFaults (module_terms c.args.numbers.now) c.args.home.module x.number)
    (listed_terms bit_term n))) c.judge_bits.result) (sym c.in-Some-bits.is)
    (subst (λ (xs : List NamedBit). IsFirstOf (In c.args.home.document (AnyOf
    (λ (x : NamedNumberTerm). NumberFaults (module_terms c.args.numbers.now) c.args.home.module x.number)
    (map bit_term xs))) c.judge_bits.result) c.as_slice-in-Some-bits.ensures.value c.judge_bits.ensures))

pub returns-in-Named : goal.returns-in-Named
returns-in-Named c = λ limits.
    let named = c.in-Named.name in
    subst (λ (p : PlainType). IsFirstOf (In c.args.home.document (HeadFaults (module_terms c.args.numbers.now)
    c.args.home.module (plain_term p limits))) c.judge_name.result) (sym c.in-Named.is)
    (subst (λ (t : TypeTerm). IsFirstOf (In c.args.home.document (HeadFaults (module_terms c.args.numbers.now)
    c.args.home.module t)) c.judge_name.result) (sym (named_is named limits))
    (subst (λ (modules : List Module). IsFirstOf (In c.args.home.document (NameFaults (module_terms modules)
    c.args.home.module (named_module named) (named_type named))) c.judge_name.result) c.tables.ensures
    c.judge_name.ensures))
