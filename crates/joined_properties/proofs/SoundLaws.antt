-- SoundLaws: whatever is told of an attribute in a class is stated by a class that it reaches, step by step (X.722,
-- sections 5.2 and 8.4).
use Rattle.std.proofs.Common.{◌≡◌, ◌<◌, ℕ, List, Option, Some, None, Bool, true, false, refl, sym, subst, ◌∙◌, ⊎_elim}
use Rattle.std.proofs.Common.{inl, inr, length, ap, eq-eqb}
use Rattle.std.proofs.lemmas.Bool.{eqb-true, false≢true, cases_lt}
use Rattle.std.specs.Prelude.{◌≤◌, ◌≢◌, ◌==◌, if◌then◌else◌, Contains, slice_get}
use Rattle.std.specs.BTreeMap.{get}
use Rattle.std.specs.Option.{option_and_then}
use Rattle.std.specs.Ordering.{nat_cmp}
use Rattle.joined_statements.specs.JoinedStatements.{Attributes, Values}
use Rattle.joined_statements.specs.declared.held.Held.{Held}
use Rattle.joined_statements.specs.declared.held.Held.TheVariants.{Nothing, NoValue, One, Unequal}
use Rattle.joined_statements.specs.declared.joined.Joined.{Joined}
use Rattle.joined_statements.specs.declared.joined.Joining.TheVariants.{Own}
use Rattle.link_graphs.specs.Leading.Leads.{at_once}
use Rattle.link_graphs.proofs.LeadingLaws.{leads_reaching}
use Rattle.linked_parts.specs.declared.linked.LinkedClass.{LinkedClass}
use Rattle.joined_properties.specs.declared.statement.Statement.{Statement}
use Rattle.joined_properties.specs.HeldNumbers.{HoldsNumber}
use Rattle.joined_properties.specs.HeldNumbers.HoldsNumber.{own as holds_own, inherited as holds_inherited}
use Rattle.joined_properties.specs.JoiningSteps.{IsNextOf}
use Rattle.joined_properties.specs.OwnStatements.{AreStatements, OwnStatement, Stated}
use Rattle.joined_properties.specs.ReachedStatements.{HasSuch}
use Rattle.joined_properties.specs.StatementChains.{own_statements, said_by, said_in}
use Rattle.joined_properties.proofs.ChainLaws.{IsSaid, chain_nothing, chain_said, chain_told}
use Rattle.joined_properties.proofs.FactLaws.{Fact, Which, either, held_by, held_of, joined_held, joined_says, says}
use Rattle.joined_properties.proofs.FactLaws.Which.{of_default, of_initial}
use Rattle.joined_properties.proofs.GraphPlaces.{got_none, leads_above}
use Rattle.joined_properties.proofs.HeldLaws.{IsTold, told_hiding, told_more}
use Rattle.joined_properties.proofs.OwnLaws.{of_own, own_of}

-- what is said of an attribute in the class at k is true
pub record IsSound (values : Values) (classes : List LinkedClass) (stated : Stated) (attribute k : ℕ)
    (said : Option Joined) : Type 0 where
  pub facts : (fact : Fact) → says said fact ≡ true →
      HasSuch classes stated k attribute (λ other. says (Some other) fact ≡ true)
  pub held : (which : Which) →
      IsTold values (HoldsNumber (held_by which) attribute classes stated k) (held_of which said)

abbrev pub AreSound : Values → List LinkedClass → Stated → List Attributes → Type 0
AreSound values classes stated known = (attribute k : ℕ) →
    IsSound values classes stated attribute k (said_in known attribute k)

pub sound_none : (values : Values) (classes : List LinkedClass) (stated : Stated) (attribute k : ℕ) →
    IsSound values classes stated attribute k None
sound_none values classes stated attribute k =
    record { facts = λ fact e. absurd (false≢true e); held = λ which. tt }

-- ---- what statements say

-- a statement that says something of an attribute is one of it
pub said_of : (attribute : ℕ) (statement : Statement) (fact : Fact) → says (said_by attribute statement) fact ≡ true →
    (statement.attribute ≡ attribute) × (says (Some statement.joined) fact ≡ true)
said_of attribute statement fact = by (attribute == statement.attribute) refl
  where
    by : (b : Bool) → (attribute == statement.attribute) ≡ b →
        says (if b then Some statement.joined else None) fact ≡ true →
        (statement.attribute ≡ attribute) × (says (Some statement.joined) fact ≡ true)
    by true e said = (sym (eqb-true attribute statement.attribute e), said)
    by false e said = absurd (false≢true said)

-- a statement of an attribute says it
pub by_itself : (attribute : ℕ) (statement : Statement) → statement.attribute ≡ attribute →
    said_by attribute statement ≡ Some statement.joined
by_itself attribute statement same =
    ap (λ b. if b then Some statement.joined else None) (eq-eqb attribute statement.attribute (sym same))

told_value : (values : Values) (classes : List LinkedClass) (stated : Stated) (attribute k : ℕ) (which : Which)
    (statement : Statement) (h : Held) → OwnStatement classes stated k statement → statement.attribute ≡ attribute →
    h ≢ Unequal → held_by which statement.joined ≡ h →
    IsTold values (HoldsNumber (held_by which) attribute classes stated k) h
told_value values classes stated attribute k which statement Nothing own same fit e = tt
told_value values classes stated attribute k which statement NoValue own same fit e = tt
told_value values classes stated attribute k which statement (One number) own same fit e =
    holds_own statement own same e
told_value values classes stated attribute k which statement Unequal own same fit e = absurd (fit refl)

fits : (stated : Stated) (which : Which) (classes : List LinkedClass) (k : ℕ) (statement : Statement) →
    AreStatements stated → OwnStatement classes stated k statement → held_by which statement.joined ≢ Unequal
fits stated of_default classes k statement are own =
    (are own.place own.statements statement own.package_at own.says).0
fits stated of_initial classes k statement are own =
    (are own.place own.statements statement own.package_at own.says).1

told_own : (values : Values) (classes : List LinkedClass) (stated : Stated) (attribute k : ℕ) (which : Which)
    (statement : Statement) → AreStatements stated → OwnStatement classes stated k statement →
    IsTold values (HoldsNumber (held_by which) attribute classes stated k) (held_of which (said_by attribute statement))
told_own values classes stated attribute k which statement are own = by (attribute == statement.attribute) refl
  where
    by : (b : Bool) → (attribute == statement.attribute) ≡ b →
        IsTold values (HoldsNumber (held_by which) attribute classes stated k)
        (held_of which (if b then Some statement.joined else None))
    by true e = told_value values classes stated attribute k which statement (held_by which statement.joined) own
        (sym (eqb-true attribute statement.attribute e)) (fits stated which classes k statement are own) refl
    by false e = tt

-- ---- a class more

-- tables of as many classes as there are say something of these alone
pub said_within : (known : List Attributes) (attribute k : ℕ) (fact : Fact) →
    says (said_in known attribute k) fact ≡ true → k < length known
said_within known attribute k fact e =
    ⊎_elim (λ (within : k < length known). within)
    (λ (past : length known ≤ k).
    absurd (false≢true (subst (λ o. says (option_and_then (λ table. get nat_cmp table attribute) o) fact ≡ true)
    (got_none known k past) e)))
    (cases_lt k (length known))

has_above : (classes : List LinkedClass) (stated : Stated) (attribute k above : ℕ) (of_class : LinkedClass)
    (fact : Fact) → slice_get classes k ≡ Some of_class → Contains of_class.superclasses.items above →
    above < length classes → HasSuch classes stated above attribute (λ other. says (Some other) fact ≡ true) →
    HasSuch classes stated k attribute (λ other. says (Some other) fact ≡ true)
has_above classes stated attribute k above of_class fact at c within such = record {
  statement = such.statement;
  has = record {
    above = such.has.above;
    is_above = inr (leads_reaching (at_once (leads_above classes k above of_class at c within)) such.has.is_above);
    says = such.has.says;
  };
  of_attribute = such.of_attribute;
  such = such.such;
}

pub sound_next : (values : Values) (classes : List LinkedClass) (stated : Stated) (known : List Attributes)
    (attribute k : ℕ) (of_class : LinkedClass) (after : Option Joined) → AreStatements stated →
    length known ≡ length classes → AreSound values classes stated known → slice_get classes k ≡ Some of_class →
    IsNextOf values stated of_class known attribute after → IsSound values classes stated attribute k after
sound_next values classes stated known attribute k of_class after are size sound at next =
    record { facts = facts; held = held }
  where
    by_own : (fact : Fact) → IsSaid (said_by attribute) (own_statements stated of_class) fact →
        HasSuch classes stated k attribute (λ other. says (Some other) fact ≡ true)
    by_own fact p =
        let of = said_of attribute p.0 fact p.2 in
        record {
          statement = p.0;
          has = record { above = k; is_above = inl refl; says = own_of classes stated k of_class p.0 at p.1 };
          of_attribute = of.0;
          such = of.1;
        }

    by_above : (fact : Fact) → IsSaid (said_in known attribute) of_class.superclasses.items fact →
        HasSuch classes stated k attribute (λ other. says (Some other) fact ≡ true)
    by_above fact p = has_above classes stated attribute k p.0 of_class fact at p.1
        (subst (λ n. p.0 < n) size (said_within known attribute p.0 fact p.2)) ((sound attribute p.0).facts fact p.2)

    facts : (fact : Fact) → says after fact ≡ true →
        HasSuch classes stated k attribute (λ other. says (Some other) fact ≡ true)
    facts fact e =
        ⊎_elim
        (λ (p : says next.inherited fact ≡ true).
        ⊎_elim (λ (q : says None fact ≡ true). absurd (false≢true q))
        (λ (q : IsSaid (said_in known attribute) of_class.superclasses.items fact). by_above fact q)
        (chain_said fact next.inherited_is p))
        (λ (p : says next.own fact ≡ true).
        ⊎_elim (λ (q : says None fact ≡ true). absurd (false≢true q))
        (λ (q : IsSaid (said_by attribute) (own_statements stated of_class) fact). by_own fact q)
        (chain_said fact next.own_is p))
        (either (says next.inherited fact) (says next.own fact)
        (sym (joined_says values Own next.inherited next.own after fact next.is_joined) ∙ e))

    silent : (which : Which) → held_of which next.own ≡ Nothing → (statement : Statement) →
        OwnStatement classes stated k statement → statement.attribute ≡ attribute →
        held_by which statement.joined ≡ Nothing
    silent which e statement own same =
        subst (λ o. held_of which o ≡ Nothing) (by_itself attribute statement same)
        (chain_nothing which next.own_is e statement (of_own classes stated k of_class statement at own))

    held : (which : Which) →
        IsTold values (HoldsNumber (held_by which) attribute classes stated k) (held_of which after)
    held which =
        subst (IsTold values (HoldsNumber (held_by which) attribute classes stated k))
        (sym (joined_held values Own which next.inherited next.own after next.is_joined))
        (told_hiding values (HoldsNumber (held_by which) attribute classes stated k) (held_of which next.own)
        (held_of which next.inherited)
        (chain_told which (HoldsNumber (held_by which) attribute classes stated k) next.own_is tt
        (λ statement c. told_own values classes stated attribute k which statement are
        (own_of classes stated k of_class statement at c)))
        (λ e. chain_told which (HoldsNumber (held_by which) attribute classes stated k) next.inherited_is tt
        (λ above c. told_more values (HoldsNumber (held_by which) attribute classes stated above)
        (HoldsNumber (held_by which) attribute classes stated k) (held_of which (said_in known attribute above))
        (λ n holds. holds_inherited of_class at (silent which e) c holds) ((sound attribute above).held which))))
