-- LocalLaws: a class tells at least what it states and what its superclasses tell, up to which of equal values is told.
use Rattle.std.proofs.Common.{◌≡◌, ℕ, List, Option, Some, None, Bool, true, false, refl, sym, subst, ◌∙◌, inl}
use Rattle.std.proofs.Common.{inr, ap}
use Rattle.std.proofs.lemmas.Bool.{eqb-true}
use Rattle.std.specs.Prelude.{◌==◌, if◌then◌else◌, Contains}
use Rattle.std.specs.BTreeMap.{get}
use Rattle.std.specs.Ordering.{nat_cmp}
use Rattle.joined_statements.specs.HeldValues.{handed_on, hiding}
use Rattle.joined_statements.specs.JoinedStatements.{Attributes, Values}
use Rattle.joined_statements.specs.declared.held.Held.TheVariants.{Nothing, One}
use Rattle.joined_statements.specs.declared.joined.Joined.{Joined}
use Rattle.joined_statements.specs.declared.joined.Joining.TheVariants.{Beside, Inherited, Own}
use Rattle.linked_parts.specs.declared.linked.LinkedClass.{LinkedClass}
use Rattle.joined_properties.specs.declared.statement.Statement.{Statement}
use Rattle.joined_properties.specs.JoiningSteps.{IsNextOf}
use Rattle.joined_properties.specs.OwnStatements.{Stated}
use Rattle.joined_properties.specs.SameTables.{AreSameTables, IsKept, IsSame}
use Rattle.joined_properties.specs.StatementChains.{own_statements, said_by, said_in}
use Rattle.joined_properties.proofs.ChainLaws.{CoversJoined, chain_covers, chain_says, nothing_chain}
use Rattle.joined_properties.proofs.FactLaws.{Fact, Which, held_by, held_of, joined_held, joined_says, or_first}
use Rattle.joined_properties.proofs.FactLaws.{or_second, says}
use Rattle.joined_properties.proofs.FactLaws.Fact.{is_stated, is_such}
use Rattle.joined_properties.proofs.FactLaws.Which.{of_default, of_initial}
use Rattle.joined_properties.proofs.HeldLaws.{Covers, alike_covers, covers_first, covers_handed, covers_inherited}
use Rattle.joined_properties.proofs.HeldLaws.{covers_own, covers_second, same_itself}
use Rattle.joined_properties.proofs.SoundLaws.{by_itself}

-- what is said of an attribute in a class has what the class states and what its superclasses have by these tables
pub record IsLocal (values : Values) (stated : Stated) (of_class : LinkedClass) (known : List Attributes)
    (attribute : ℕ) (said : Option Joined) : Type 0 where
  pub facts_above : (above : ℕ) (fact : Fact) → Contains of_class.superclasses.items above →
      says (said_in known attribute above) fact ≡ true → says said fact ≡ true
  pub facts_own : (statement : Statement) (fact : Fact) → Contains (own_statements stated of_class) statement →
      statement.attribute ≡ attribute → says (Some statement.joined) fact ≡ true → says said fact ≡ true
  pub held_own : (which : Which) (statement : Statement) (number : ℕ) →
      Contains (own_statements stated of_class) statement → statement.attribute ≡ attribute →
      held_by which statement.joined ≡ One number → Covers values (held_of which said) number
  pub held_above : (which : Which) (above number : ℕ) →
      ((statement : Statement) → Contains (own_statements stated of_class) statement →
      statement.attribute ≡ attribute → held_by which statement.joined ≡ Nothing) →
      Contains of_class.superclasses.items above →
      Covers values (held_of which (said_in known attribute above)) number →
      Covers values (held_of which said) number

beside_covers : (values : Values) → CoversJoined values Beside
beside_covers values h g n (inl c) = covers_first values h g n c
beside_covers values h g n (inr c) = covers_second values h g n c

inherited_covers : (values : Values) → CoversJoined values Inherited
inherited_covers values h g n (inl c) = covers_first values h (handed_on g) n c
inherited_covers values h g n (inr c) = covers_second values h (handed_on g) n (covers_handed values g n c)

pub local_next : (values : Values) (stated : Stated) (of_class : LinkedClass) (known : List Attributes) (attribute : ℕ)
    (after : Option Joined) → IsNextOf values stated of_class known attribute after →
    IsLocal values stated of_class known attribute after
local_next values stated of_class known attribute after next =
    record { facts_above = facts_above; facts_own = facts_own; held_own = held_own; held_above = held_above }
  where
    facts_above : (above : ℕ) (fact : Fact) → Contains of_class.superclasses.items above →
        says (said_in known attribute above) fact ≡ true → says after fact ≡ true
    facts_above above fact c e =
        joined_says values Own next.inherited next.own after fact next.is_joined
        ∙ or_first (says next.inherited fact) (says next.own fact)
        (chain_says fact next.inherited_is (above, c, e))

    facts_own : (statement : Statement) (fact : Fact) → Contains (own_statements stated of_class) statement →
        statement.attribute ≡ attribute → says (Some statement.joined) fact ≡ true → says after fact ≡ true
    facts_own statement fact c same e =
        joined_says values Own next.inherited next.own after fact next.is_joined
        ∙ or_second (says next.inherited fact) (says next.own fact)
        (chain_says fact next.own_is
        (statement, c, subst (λ o. says o fact ≡ true) (sym (by_itself attribute statement same)) e))

    joined : (which : Which) (number : ℕ) →
        Covers values (hiding (held_of which next.own) (held_of which next.inherited)) number →
        Covers values (held_of which after) number
    joined which number c =
        subst (λ h. Covers values h number)
        (sym (joined_held values Own which next.inherited next.own after next.is_joined)) c

    held_own : (which : Which) (statement : Statement) (number : ℕ) →
        Contains (own_statements stated of_class) statement → statement.attribute ≡ attribute →
        held_by which statement.joined ≡ One number → Covers values (held_of which after) number
    held_own which statement number c same e =
        joined which number
        (covers_own values (held_of which next.own) (held_of which next.inherited) number
        (chain_covers which number (beside_covers values) next.own_is statement c
        (subst (λ o. Covers values (held_of which o) number) (sym (by_itself attribute statement same))
        (subst (λ h. Covers values h number) (sym e) (same_itself values number)))))

    silent : (which : Which) →
        ((statement : Statement) → Contains (own_statements stated of_class) statement →
        statement.attribute ≡ attribute → held_by which statement.joined ≡ Nothing) → (statement : Statement) →
        Contains (own_statements stated of_class) statement → held_of which (said_by attribute statement) ≡ Nothing
    silent which none_ statement c = by (attribute == statement.attribute) refl
      where
        by : (b : Bool) → (attribute == statement.attribute) ≡ b →
            held_of which (if b then Some statement.joined else None) ≡ Nothing
        by true e = none_ statement c (sym (eqb-true attribute statement.attribute e))
        by false e = refl

    held_above : (which : Which) (above number : ℕ) →
        ((statement : Statement) → Contains (own_statements stated of_class) statement →
        statement.attribute ≡ attribute → held_by which statement.joined ≡ Nothing) →
        Contains of_class.superclasses.items above →
        Covers values (held_of which (said_in known attribute above)) number →
        Covers values (held_of which after) number
    held_above which above number none_ c covers =
        joined which number
        (covers_inherited values (held_of which next.own) (held_of which next.inherited) number
        (nothing_chain which next.own_is refl (silent which none_))
        (chain_covers which number (inherited_covers values) next.inherited_is above c covers))

-- ---- tables that say the same

pub record IsSameSaid (values : Values) (one other : Option Joined) : Type 0 where
  pub facts : (fact : Fact) → says one fact ≡ says other fact
  pub to_other : (which : Which) (number : ℕ) → Covers values (held_of which one) number →
      Covers values (held_of which other) number
  pub from_other : (which : Which) (number : ℕ) → Covers values (held_of which other) number →
      Covers values (held_of which one) number

pub same_said : (values : Values) (one other : Option Joined) → one ≡ other → IsSameSaid values one other
same_said values one other e = record {
  facts = λ fact. ap (λ o. says o fact) e;
  to_other = λ which number c. subst (λ o. Covers values (held_of which o) number) e c;
  from_other = λ which number c. subst (λ o. Covers values (held_of which o) number) (sym e) c;
}

pub same_turned : (values : Values) (one other : Option Joined) → IsSameSaid values one other →
    IsSameSaid values other one
same_turned values one other same = record {
  facts = λ fact. sym (same.facts fact);
  to_other = same.from_other;
  from_other = same.to_other;
}

pub same_further : (values : Values) (one other third : Option Joined) → IsSameSaid values one other →
    IsSameSaid values other third → IsSameSaid values one third
same_further values one other third p q = record {
  facts = λ fact. p.facts fact ∙ q.facts fact;
  to_other = λ which number c. q.to_other which number (p.to_other which number c);
  from_other = λ which number c. p.from_other which number (q.from_other which number c);
}

same_facts : (values : Values) (one other : Joined) (fact : Fact) → IsSame values one other →
    says (Some one) fact ≡ says (Some other) fact
same_facts values one other is_stated same = refl
same_facts values one other (is_such property) same = same.properties property

same_covers : (values : Values) (one other : Joined) (which : Which) (number : ℕ) → IsSame values one other →
    Covers values (held_by which one) number → Covers values (held_by which other) number
same_covers values one other of_default number same c =
    alike_covers values one.default other.default number same.default_ c
same_covers values one other of_initial number same c =
    alike_covers values one.initial other.initial number same.initial_ c

kept_same : (values : Values) (one other : Option Joined) → IsKept values one other → IsKept values other one →
    IsSameSaid values one other
kept_same values None None p q = same_said values None None refl
kept_same values None (Some other) p q = absurd q
kept_same values (Some one) None p q = absurd p
kept_same values (Some one) (Some other) p q = record {
  facts = λ fact. same_facts values one other fact p;
  to_other = λ which number c. same_covers values one other which number p c;
  from_other = λ which number c. same_covers values other one which number q c;
}

pub same_tables : (values : Values) (one other : Attributes) → AreSameTables values one other → (q : ℕ) →
    IsSameSaid values (get nat_cmp one q) (get nat_cmp other q)
same_tables values one other p q = kept_same values (get nat_cmp one q) (get nat_cmp other q) (p.0 q) (p.1 q)

-- what a class tells stays enough where what its superclasses tell stays the same
pub local_same : (values : Values) (stated : Stated) (of_class : LinkedClass) (one other : List Attributes)
    (attribute : ℕ) (before after : Option Joined) →
    ((k : ℕ) → Contains of_class.superclasses.items k →
    IsSameSaid values (said_in one attribute k) (said_in other attribute k)) →
    IsSameSaid values before after → IsLocal values stated of_class one attribute before →
    IsLocal values stated of_class other attribute after
local_same values stated of_class one other attribute before after each same local_ = record {
  facts_above = λ above fact c e. sym (same.facts fact) ∙
      local_.facts_above above fact c ((each above c).facts fact ∙ e);
  facts_own = λ statement fact c is e. sym (same.facts fact) ∙ local_.facts_own statement fact c is e;
  held_own = λ which statement number c is e.
      same.to_other which number (local_.held_own which statement number c is e);
  held_above = λ which above number none_ c covers. same.to_other which number
      (local_.held_above which above number none_ c ((each above c).from_other which number covers));
}
