-- The types that hold no other, one by one.
use Rattle.std.proofs.Common.{rules}
use Rattle.asn1_names.specs.TermViews.{integer_term, module_terms}
use Rattle.asn1_types.proofs.PlainLaws.{any_denoted, bits_denoted, enumerated_denoted, identifier_denoted}
use Rattle.asn1_types.proofs.PlainLaws.{integer_denoted, octets_denoted, word_denoted}
use Rattle.asn1_types.proofs.SaidLaws.{slice_named}
use Rattle.asn1_types.proofs.plain_syntax.plain_form.Goals as goal

pub returns-in-Simple : goal.returns-in-Simple
returns-in-Simple c = word_denoted (module_terms c.args.numbers.now) c.args.home c.args.of.now c.in-Simple.word _
    c.in-Simple.is c.word_form.ensures

pub returns-in_ok-names-in-Integer : goal.returns-in_ok-names-in-Integer
returns-in_ok-names-in-Integer c =
    integer_denoted (module_terms c.args.numbers.now) c.args.home c.args.of.now c.in-Integer.integer _ _
    c.in-Integer.is c.new.ensures c.in_ok-names-in-Integer.ensures

pub returns-in_ok-names-in-Enumerated : goal.returns-in_ok-names-in-Enumerated
returns-in_ok-names-in-Enumerated c =
    enumerated_denoted (module_terms c.args.numbers.now) c.args.home c.args.of.now c.in-Enumerated.enumerated _
    c.in-Enumerated.is (slice_named (module_terms c.args.numbers.now) c.args.home integer_term _
    c.in-Enumerated.enumerated.items.items _ c.as_slice.ensures.value c.in_ok-names-in-Enumerated.ensures)

pub returns-in_ok-names-in-BitString : goal.returns-in_ok-names-in-BitString
returns-in_ok-names-in-BitString c =
    bits_denoted (module_terms c.args.numbers.now) c.args.home c.args.of.now c.in-BitString.string _ _
    c.in-BitString.is (search rules) c.in_ok-names-in-BitString.ensures

pub returns-in-OctetString : goal.returns-in-OctetString
returns-in-OctetString c = octets_denoted (module_terms c.args.numbers.now) c.args.home c.args.of.now _ _
    c.in-OctetString.is (search rules)

pub returns-in-ObjectIdentifier : goal.returns-in-ObjectIdentifier
returns-in-ObjectIdentifier c =
    identifier_denoted (module_terms c.args.numbers.now) c.args.home c.args.of.now _ c.in-ObjectIdentifier.is

pub returns-in-Any : goal.returns-in-Any
returns-in-Any c = any_denoted (module_terms c.args.numbers.now) c.args.home c.args.of.now _ c.in-Any.is
