use Rattle.std.proofs.Common.{◌≤◌, length, sym, ap, ◌∙◌, arith}
use Rattle.std.proofs.lemmas.Bool.{false≢true}
use Rattle.term_values.specs.Octets.{integer_contents}
use Rattle.ber_tree.specs.Integers.{are_least}
use Rattle.ber_tree.proofs.IntegerLaws.{octets_fit, contents_least, IsValue, value_read, positive_word, negative_word}
use Rattle.ber_tree.proofs.IntegerReading.{too_many, not_least, denoted}
use Rattle.ber_tree.proofs.tree_reading.read_integer_contents.Goals as goal
use Rattle.ber_tree.proofs.tree_reading.read_integer_contents.Goals.{then-octets-gt-MOST_INTEGER_OCTETS-via-then-octets-gt-MOST_INTEGER_OCTETS}
use Rattle.ber_tree.proofs.tree_reading.read_integer_contents.Goals.{then-octets-gt-MOST_INTEGER_OCTETS-via-else-octets-gt-MOST_INTEGER_OCTETS+then-not-are_least}

pub returns-then-octets-gt-MOST_INTEGER_OCTETS-clause-none : goal.returns-then-octets-gt-MOST_INTEGER_OCTETS-clause-none
returns-then-octets-gt-MOST_INTEGER_OCTETS-clause-none c = λ value fits e.
    let least = contents_least value fits in
    let short : length c.args.octets.now ≤ 8 = rw e least.1 in
    elim c.then-octets-gt-MOST_INTEGER_OCTETS.branch [
      | then-octets-gt-MOST_INTEGER_OCTETS-via-then-octets-gt-MOST_INTEGER_OCTETS w ↦
          absurd (let long = w.if-octets-gt-MOST_INTEGER_OCTETS.true in omega arith)
      | then-octets-gt-MOST_INTEGER_OCTETS-via-else-octets-gt-MOST_INTEGER_OCTETS+then-not-are_least w ↦
          false≢true (sym w.if-not-are_least.true ∙ (w.are_least.ensures ∙ (ap are_least e ∙ least.0)))
    ]

value_of : (c : goal.After-read_turned-value)
    → IsValue c.args.octets.now c.in_ok-negative.field-0.now c.read_turned-value.result
value_of c = value_read c.args.octets.now c.in_ok-negative.field-0.now c.read_turned-value.result
    (octets_fit c.args.octets.now c.type_inv.octets) (omega arith) (sym c.are_least.ensures ∙ c.if-not-are_least.false)
    c.in_ok-negative.ensures.value c.read_turned-value.ensures

pub overflow_cast-value : goal.overflow_cast-value
overflow_cast-value c = record { sfits = (value_of c).small }

pub returns-then-negative-clause-found : goal.returns-then-negative-clause-found
returns-then-negative-clause-found c =
    let v = value_read c.args.octets.now c.in_ok-negative.field-0.now c.read_turned-value.result
    (octets_fit c.args.octets.now c.type_inv.octets) (omega arith)
    (sym c.are_least.ensures ∙ c.if-not-are_least.false) c.in_ok-negative.ensures.value
    c.read_turned-value.ensures in
    v.negative c.if-negative.true ∙ ap integer_contents (sym (negative_word c.read_turned-value.result v.small))

pub returns-else-negative-clause-found : goal.returns-else-negative-clause-found
returns-else-negative-clause-found c =
    let v = value_read c.args.octets.now c.in_ok-negative.field-0.now c.read_turned-value.result
    (octets_fit c.args.octets.now c.type_inv.octets) (omega arith)
    (sym c.are_least.ensures ∙ c.if-not-are_least.false) c.in_ok-negative.ensures.value
    c.read_turned-value.ensures in
    v.positive c.if-negative.false ∙ ap integer_contents (sym (positive_word c.read_turned-value.result v.small))

pub returns-then-octets-gt-MOST_INTEGER_OCTETS-clause-value :
    goal.returns-then-octets-gt-MOST_INTEGER_OCTETS-clause-value
returns-then-octets-gt-MOST_INTEGER_OCTETS-clause-value c =
    elim c.then-octets-gt-MOST_INTEGER_OCTETS.branch [
      | then-octets-gt-MOST_INTEGER_OCTETS-via-then-octets-gt-MOST_INTEGER_OCTETS w ↦
          too_many c.args.octets.now (let long = w.if-octets-gt-MOST_INTEGER_OCTETS.true in omega arith)
      | then-octets-gt-MOST_INTEGER_OCTETS-via-else-octets-gt-MOST_INTEGER_OCTETS+then-not-are_least w ↦
          not_least c.args.octets.now (sym w.are_least.ensures ∙ w.if-not-are_least.true)
    ]

pub returns-then-negative-clause-value : goal.returns-then-negative-clause-value
returns-then-negative-clause-value c =
    let v = value_read c.args.octets.now c.in_ok-negative.field-0.now c.read_turned-value.result
    (octets_fit c.args.octets.now c.type_inv.octets) (omega arith)
    (sym c.are_least.ensures ∙ c.if-not-are_least.false) c.in_ok-negative.ensures.value
    c.read_turned-value.ensures in
    denoted c.args.octets.now _ (omega arith) (sym c.are_least.ensures ∙ c.if-not-are_least.false)
    (v.below c.if-negative.true ∙ sym (negative_word c.read_turned-value.result v.small))

pub returns-else-negative-clause-value : goal.returns-else-negative-clause-value
returns-else-negative-clause-value c =
    let v = value_read c.args.octets.now c.in_ok-negative.field-0.now c.read_turned-value.result
    (octets_fit c.args.octets.now c.type_inv.octets) (omega arith)
    (sym c.are_least.ensures ∙ c.if-not-are_least.false) c.in_ok-negative.ensures.value
    c.read_turned-value.ensures in
    denoted c.args.octets.now _ (omega arith) (sym c.are_least.ensures ∙ c.if-not-are_least.false)
    (v.above c.if-negative.false ∙ sym (positive_word c.read_turned-value.result v.small))
