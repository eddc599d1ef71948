-- UnequalLaws: what is held of an attribute in a class is unequal exactly where two values that are unequal hold there
-- (X.722, section 8.4; docs/PROFILE.md, section 18).
use Rattle.std.proofs.Common.{◌≡◌, ◌∙◌, ℕ, List, Option, true, refl, sym}
use Rattle.std.proofs.lemmas.Bool.{false≢true}
use Rattle.asn1_names.specs.ModuleTerms.{ModuleTerm}
use Rattle.linked_parts.specs.declared.linked.Linked.{Linked}
use Rattle.linked_parts.specs.declared.linked.LinkedName.{LinkedName}
use Rattle.linked_parts.specs.declared.linked.LinkedUse.{LinkedUse}
use Rattle.class_faults.specs.StatedProperties.{HoldsUnequal}
use Rattle.joined_statements.specs.HeldValues.{are_same}
use Rattle.joined_statements.specs.JoinedStatements.{Values}
use Rattle.joined_statements.specs.declared.held.Held.{Held}
use Rattle.joined_statements.specs.declared.held.Held.TheVariants.{NoValue, Nothing, One, Unequal}
use Rattle.joined_statements.specs.declared.joined.Joined.{Joined}
use Rattle.joined_properties.specs.HeldNumbers.{HoldsNumber}
use Rattle.joined_properties.specs.NumberSummaries.{HoldUnequal, IsSummary}
use Rattle.joined_properties.specs.OwnStatements.{Stated}
use Rattle.joined_properties.proofs.HeldLaws.{same_back, same_on}
use Rattle.linked_types.specs.declared.type_table.TypeTable.{TypeTable}
use Rattle.property_faults.specs.TableFaults.{is_unequal}
use Rattle.property_faults.proofs.HeldLaws.{AreHeld, number_holds, value_holds}
use Rattle.property_faults.proofs.ValueLaws.{equal_values, same_numbers}

-- two numbers that hold and say different values
hold_unequal : (values : Values) (Holds : ℕ → Type 0) (h : Held) → IsSummary values Holds h → is_unequal h ≡ true →
    HoldUnequal values Holds
hold_unequal values Holds Unequal summary is = summary
hold_unequal values Holds Nothing summary is = absurd (false≢true is)
hold_unequal values Holds NoValue summary is = absurd (false≢true is)
hold_unequal values Holds (One number) summary is = absurd (false≢true is)

-- where two hold that aren't the same what is held is unequal
summed_unequal : (values : Values) (Holds : ℕ → Type 0) (h : Held) (n m : ℕ) → IsSummary values Holds h → Holds n →
    Holds m → ¬ (are_same values n m ≡ true) → is_unequal h ≡ true
summed_unequal values Holds Unequal n m summary one other apart = refl
summed_unequal values Holds Nothing n m summary one other apart = absurd (summary n one)
summed_unequal values Holds NoValue n m summary one other apart = absurd (summary n one)
summed_unequal values Holds (One number) n m summary one other apart =
    absurd (apart (same_on values n number m (same_back values number n (summary.1 n one)) (summary.1 m other)))

pub unequal_hold : (ms : List ModuleTerm) (linked : Linked) (table : TypeTable) (values : Values) (stated : Stated)
    (which : LinkedUse → Option LinkedName) (held : Joined → Held) (attribute k : ℕ) (h : Held) →
    AreHeld ms linked table values stated which held →
    IsSummary values (HoldsNumber held attribute linked.classes.items stated k) h → is_unequal h ≡ true →
    HoldsUnequal ms linked which attribute k
unequal_hold ms linked table values stated which held attribute k h known summary is =
    let two = hold_unequal values (HoldsNumber held attribute linked.classes.items stated k) h summary is in
    let one = value_holds ms linked table values stated which held attribute known two.one_holds in
    let other = value_holds ms linked table values stated which held attribute known two.other_holds in
    record {
      one = one.value;
      one_holds = one.holds;
      other = other.value;
      other_holds = other.holds;
      unequal = λ e. false≢true (sym two.unequal
          ∙ same_numbers values two.one two.other one.value other.value one.stands other.stands e);
    }

pub held_unequal : (ms : List ModuleTerm) (linked : Linked) (table : TypeTable) (values : Values) (stated : Stated)
    (which : LinkedUse → Option LinkedName) (held : Joined → Held) (attribute k : ℕ) (h : Held) →
    AreHeld ms linked table values stated which held →
    IsSummary values (HoldsNumber held attribute linked.classes.items stated k) h →
    HoldsUnequal ms linked which attribute k → is_unequal h ≡ true
held_unequal ms linked table values stated which held attribute k h known summary two =
    let one = number_holds ms linked table values stated which held attribute known two.one_holds in
    let other = number_holds ms linked table values stated which held attribute known two.other_holds in
    summed_unequal values (HoldsNumber held attribute linked.classes.items stated k) h one.number other.number summary
    one.holds other.holds
    (λ e. two.unequal (equal_values values one.number other.number two.one two.other one.stands other.stands e))
