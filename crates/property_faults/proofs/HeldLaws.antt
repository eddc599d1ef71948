-- HeldLaws: a default, or an initial value, that holds in a class is the value of a number that holds there, and each
-- number that holds has a value that does (X.722, section 8.4).
use Rattle.std.proofs.Common.{◌≡◌, ◌∙◌, ◌<◌, ℕ, List, Option, Some, None, refl, sym, ap, subst, inl, inr, length}
use Rattle.std.specs.Prelude.{slice_get}
use Rattle.term_values.specs.Typed.{TypedValue}
use Rattle.asn1_names.specs.ModuleTerms.{ModuleTerm}
use Rattle.asn1_names.specs.NameMeaning.{Meaning}
use Rattle.asn1_names.specs.NameMeaning.Meaning.{ValueAt}
use Rattle.link_graphs.specs.Leading.Leads.{at_once}
use Rattle.link_graphs.proofs.LeadingLaws.{leads_reaching}
use Rattle.linked_parts.specs.declared.linked.Linked.{Linked}
use Rattle.linked_parts.specs.declared.linked.LinkedClass.{LinkedClass}
use Rattle.linked_parts.specs.declared.linked.LinkedName.{LinkedName}
use Rattle.linked_parts.specs.declared.linked.LinkedUse.{LinkedUse}
use Rattle.filled_syntaxes.specs.LinkedMeanings.{AssignsValue, linked_arcs, linked_meaning}
use Rattle.filled_syntaxes.specs.LinkedMeanings.AssignsValue.{assigned}
use Rattle.filled_syntaxes.specs.SaidTexts.{DenotesValue}
use Rattle.filled_syntaxes.proofs.FilledLaws.{has_once}
use Rattle.filled_syntaxes.proofs.SaidLaws.{one_value}
use Rattle.class_faults.specs.StatedProperties.{HasValue, Holds}
use Rattle.class_faults.specs.StatedProperties.Holds.{inherited as value_inherited, own as value_own}
use Rattle.joined_statements.specs.JoinedStatements.{Values}
use Rattle.joined_statements.specs.declared.held.Held.{Held}
use Rattle.joined_statements.specs.declared.held.Held.TheVariants.{NoValue, Nothing, One, Unequal}
use Rattle.joined_statements.specs.declared.joined.Joined.{Joined}
use Rattle.joined_properties.specs.HeldNumbers.{HoldsNumber}
use Rattle.joined_properties.specs.HeldNumbers.HoldsNumber.{inherited as number_inherited, own as number_own}
use Rattle.joined_properties.specs.OwnStatements.{Stated}
use Rattle.joined_properties.specs.ReachedStatements.{HasSuch}
use Rattle.joined_properties.specs.declared.statement.Statement.{Statement}
use Rattle.joined_properties.proofs.GraphPlaces.{got_within, leads_above}
use Rattle.linked_types.specs.declared.type_table.TypeTable.{TypeTable}
use Rattle.package_statements.specs.PackageStatements.{AreStated, IsStatementOf, TellsHeld}
use Rattle.property_faults.proofs.StatedLaws.{stated_by, statement_of}

-- ---- a name has one value

assigned_once : (ms : List ModuleTerm) (linked : Linked) (meant : Meaning) {one other : TypedValue} →
    AssignsValue ms (linked_arcs linked) meant one → AssignsValue ms (linked_arcs linked) meant other → one ≡ other
assigned_once ms linked meant {other = other} (assigned {m} {i} {of} {number} {text} {syntax} has denotes)
    (assigned has_too denotes_too) =
    let same = has_once ms (linked_arcs linked) (ValueAt m i of number text) has_too has in
    one_value (linked_arcs linked) syntax text denotes
    (subst (λ s. DenotesValue (linked_arcs linked) s text other) same denotes_too)

-- ---- what is held of a name

-- a number that is held, and the value that it has
pub record IsHeldAs (values : Values) (h : Held) (value : TypedValue) : Type 0 where
  pub number : ℕ
  pub is_held : h ≡ One number
  pub stands : slice_get values number ≡ Some (Some value)

-- a name that is stated, and the value of a number that it has
pub record IsStatedAs (ms : List ModuleTerm) (linked : Linked) (values : Values) (name : Option LinkedName) (number : ℕ)
    : Type 0 where
  pub own : LinkedName
  pub is_stated : name ≡ Some own
  pub value : TypedValue
  pub has : HasValue ms linked own value
  pub stands : slice_get values number ≡ Some (Some value)

held_as : (ms : List ModuleTerm) (linked : Linked) (values : Values) (name : Option LinkedName) (h : Held)
    (own : LinkedName) (value : TypedValue) → TellsHeld ms linked values name h → name ≡ Some own →
    HasValue ms linked own value → IsHeldAs values h value
held_as ms linked values (Some x) (One number) own value tells is has =
    let same : x ≡ own = cc in
    let one = assigned_once ms linked (linked_meaning ms own.meaning)
    (subst (λ (n : LinkedName). HasValue ms linked n tells.0) same tells.2) has in
    record { number = number; is_held = refl; stands = tells.1 ∙ ap (λ v. Some (Some v)) one }
held_as ms linked values (Some x) NoValue own value tells is has =
    let same : own ≡ x = cc in
    absurd (tells value (subst (λ (n : LinkedName). HasValue ms linked n value) same has))
held_as ms linked values (Some x) Nothing own value tells is has = absurd tells
held_as ms linked values (Some x) Unequal own value tells is has = absurd tells
held_as ms linked values None h own value tells is has = absurd (cc)

stated_as : (ms : List ModuleTerm) (linked : Linked) (values : Values) (name : Option LinkedName) (h : Held)
    (number : ℕ) → TellsHeld ms linked values name h → h ≡ One number → IsStatedAs ms linked values name number
stated_as ms linked values (Some x) (One n) number tells is =
    let same : n ≡ number = cc in
    record {
      own = x;
      is_stated = refl;
      value = tells.0;
      has = tells.2;
      stands = subst (λ k. slice_get values k ≡ Some (Some tells.0)) same tells.1;
    }
stated_as ms linked values None (One n) number tells is = absurd tells
stated_as ms linked values name NoValue number tells is = absurd (cc)
stated_as ms linked values name Nothing number tells is = absurd (cc)
stated_as ms linked values name Unequal number tells is = absurd (cc)

nothing_held : (ms : List ModuleTerm) (linked : Linked) (values : Values) (name : Option LinkedName) (h : Held) →
    TellsHeld ms linked values name h → name ≡ None → h ≡ Nothing
nothing_held ms linked values None Nothing tells is = refl
nothing_held ms linked values None NoValue tells is = absurd tells
nothing_held ms linked values None (One number) tells is = absurd tells
nothing_held ms linked values None Unequal tells is = absurd tells
nothing_held ms linked values (Some x) h tells is = absurd (cc)

none_stated : (ms : List ModuleTerm) (linked : Linked) (values : Values) (name : Option LinkedName) (h : Held) →
    TellsHeld ms linked values name h → h ≡ Nothing → name ≡ None
none_stated ms linked values None h tells is = refl
none_stated ms linked values (Some x) Nothing tells is = absurd tells
none_stated ms linked values (Some x) NoValue tells is = absurd (cc)
none_stated ms linked values (Some x) (One number) tells is = absurd (cc)
none_stated ms linked values (Some x) Unequal tells is = absurd (cc)

-- ---- what holds in a class

-- of what packages state this is held: of their defaults, or of their initial values
pub record AreHeld (ms : List ModuleTerm) (linked : Linked) (table : TypeTable) (values : Values) (stated : Stated)
    (which : LinkedUse → Option LinkedName) (held : Joined → Held) : Type 0 where
  pub are : AreStated ms linked table values linked.packages.items stated
  pub tells : (own : LinkedUse) (statement : Statement) → IsStatementOf ms linked table values own statement →
      TellsHeld ms linked values (which own) (held statement.joined)

-- a number that holds in the class at k, and the value that it has
pub record HoldsAs (held : Joined → Held) (attribute : ℕ) (classes : List LinkedClass) (stated : Stated)
    (values : Values) (k : ℕ) (value : TypedValue) : Type 0 where
  pub number : ℕ
  pub holds : HoldsNumber held attribute classes stated k number
  pub stands : slice_get values number ≡ Some (Some value)

pub number_holds : (ms : List ModuleTerm) (linked : Linked) (table : TypeTable) (values : Values) (stated : Stated)
    (which : LinkedUse → Option LinkedName) (held : Joined → Held) (attribute : ℕ) {k : ℕ} {value : TypedValue} →
    AreHeld ms linked table values stated which held → Holds ms linked which attribute k value →
    HoldsAs held attribute linked.classes.items stated values k value
number_holds ms linked table values stated which held attribute known
    (value_own {k} {value} own name states same is has) =
    let said = statement_of ms linked table values stated k own known.are states in
    let number = held_as ms linked values (which own) (held said.0.joined) name value
    (known.tells own said.0 said.1.says) is has in
    record {
      number = number.number;
      holds = number_own said.0 said.1.has (said.1.says.attribute ∙ same) number.is_held;
      stands = number.stands;
    }
number_holds ms linked table values stated which held attribute known
    (value_inherited {k} {above} {value} of_class at not_own from holds) =
    let further = number_holds ms linked table values stated which held attribute known holds in
    record {
      number = further.number;
      holds = number_inherited of_class at
          (λ statement has same.
          let own = stated_by ms linked table values stated k statement known.are has in
          nothing_held ms linked values (which own.0) (held statement.joined)
          (known.tells own.0 statement own.1.says)
          (not_own own.0 own.1.states (sym own.1.says.attribute ∙ same)))
          from further.holds;
      stands = further.stands;
    }

-- a value that holds in the class at k, and that a number has
pub record IsHeldIn (ms : List ModuleTerm) (linked : Linked) (values : Values) (which : LinkedUse → Option LinkedName)
    (attribute k number : ℕ) : Type 0 where
  pub value : TypedValue
  pub holds : Holds ms linked which attribute k value
  pub stands : slice_get values number ≡ Some (Some value)

pub value_holds : (ms : List ModuleTerm) (linked : Linked) (table : TypeTable) (values : Values) (stated : Stated)
    (which : LinkedUse → Option LinkedName) (held : Joined → Held) (attribute : ℕ) {k number : ℕ} →
    AreHeld ms linked table values stated which held →
    HoldsNumber held attribute linked.classes.items stated k number →
    IsHeldIn ms linked values which attribute k number
value_holds ms linked table values stated which held attribute known (number_own {k} {number} statement has same is) =
    let own = stated_by ms linked table values stated k statement known.are has in
    let value = stated_as ms linked values (which own.0) (held statement.joined) number
    (known.tells own.0 statement own.1.says) is in
    record {
      value = value.value;
      holds = value_own own.0 value.own own.1.states (sym own.1.says.attribute ∙ same) value.is_stated value.has;
      stands = value.stands;
    }
value_holds ms linked table values stated which held attribute known
    (number_inherited {k} {above} {number} of_class at not_own from holds) =
    let further = value_holds ms linked table values stated which held attribute known holds in
    record {
      value = further.value;
      holds = value_inherited of_class at
          (λ own states same.
          let said = statement_of ms linked table values stated k own known.are states in
          none_stated ms linked values (which own) (held said.0.joined) (known.tells own said.0 said.1.says)
          (not_own said.0 said.1.has (said.1.says.attribute ∙ same)))
          from further.holds;
      stands = further.stands;
    }

-- ---- where a number holds the attribute is stated

class_within : (held : Joined → Held) (attribute : ℕ) (classes : List LinkedClass) (stated : Stated) {k number : ℕ} →
    HoldsNumber held attribute classes stated k number → k < length classes
class_within held attribute classes stated (number_own {k} statement has same is) =
    got_within classes k has.of_class has.class_at
class_within held attribute classes stated (number_inherited {k} of_class at not_own from holds) =
    got_within classes k of_class at

pub has_such : (held : Joined → Held) (attribute : ℕ) (classes : List LinkedClass) (stated : Stated) {k number : ℕ} →
    HoldsNumber held attribute classes stated k number → HasSuch classes stated k attribute (λ other. Unit {0})
has_such held attribute classes stated (number_own {k} statement has same is) = record {
  statement = statement;
  has = record { above = k; is_above = inl refl; says = has };
  of_attribute = same;
  such = tt;
}
has_such held attribute classes stated (number_inherited {k} {above} of_class at not_own from holds) =
    let such = has_such held attribute classes stated holds in
    let step = leads_above classes k above of_class at from (class_within held attribute classes stated holds) in
    record {
      statement = such.statement;
      has = record {
        above = such.has.above;
        is_above = inr (leads_reaching (at_once step) such.has.is_above);
        says = such.has.says;
      };
      of_attribute = such.of_attribute;
      such = tt;
    }
