-- OwnLaws: the list of the statements of a class has those that its packages have.
use Rattle.std.proofs.Common.{◌≡◌, ◌∷◌, [], ℕ, List, Option, Some, None, refl, sym, subst, ⊎_elim, inl, inr, ◌∙◌}
use Rattle.std.proofs.lemmas.Option.{same_Some}
use Rattle.std.proofs.lemmas.List.Elements.{Contains-append_cases, Contains-append_left, Contains-append_right}
use Rattle.std.proofs.lemmas.List.Elements.{Contains-push, Contains-push_cases}
use Rattle.std.specs.Prelude.{◌⊎◌, Contains, slice_get}
use Rattle.std.specs.Global.{Vec}
use Rattle.linked_parts.specs.declared.linked.LinkedClass.{LinkedClass}
use Rattle.joined_properties.specs.declared.statement.Statement.{Statement}
use Rattle.joined_properties.specs.OwnStatements.{OwnStatement, Stated}
use Rattle.joined_properties.specs.StatementChains.{items_of, own_statements, statements_of}
use Rattle.joined_properties.proofs.ChainLaws.{contains_nothing}

-- a package of these has the statement
pub record IsStatedBy (stated : Stated) (places : List ℕ) (statement : Statement) : Type 0 where
  pub place : ℕ
  pub own : Contains places place
  pub statements : Vec Statement
  pub package_at : slice_get stated place ≡ Some statements
  pub says : Contains statements.items statement

pub first_of_list : {X : Type 0} (x : X) (xs : List X) → Contains (x ∷ xs) x
first_of_list x xs = Contains-append_left (x ∷ []) xs x (Contains-push [] x)

pub later_of_list : {X : Type 0} (x : X) (xs : List X) (y : X) → Contains xs y → Contains (x ∷ xs) y
later_of_list x xs y c = Contains-append_right (x ∷ []) xs y c

pub in_list : {X : Type 0} (x : X) (xs : List X) (y : X) → Contains (x ∷ xs) y → (x ≡ y) ⊎ Contains xs y
in_list x xs y c =
    ⊎_elim
    (λ (d : Contains (x ∷ []) y).
    ⊎_elim (λ (e : Contains [] y). absurd (contains_nothing y e)) (λ (same : x ≡ y). inl same)
    (Contains-push_cases [] x y d))
    (λ (d : Contains xs y). inr d)
    (Contains-append_cases (x ∷ []) xs y c)

stated_at : (stated : Stated) (place : ℕ) (places : List ℕ) (statement : Statement) (o : Option (Vec Statement)) →
    slice_get stated place ≡ o → Contains (items_of o) statement → IsStatedBy stated (place ∷ places) statement
stated_at stated place places statement None at c = absurd (contains_nothing statement c)
stated_at stated place places statement (Some v) at c =
    record { place = place; own = first_of_list place places; statements = v; package_at = at; says = c }

pub stated_by : (stated : Stated) (places : List ℕ) (statement : Statement) →
    Contains (statements_of stated places) statement → IsStatedBy stated places statement
stated_by stated [] statement c = absurd (contains_nothing statement c)
stated_by stated (place ∷ places) statement c =
    ⊎_elim
    (λ (d : Contains (items_of (slice_get stated place)) statement).
    stated_at stated place places statement (slice_get stated place) refl d)
    (λ (d : Contains (statements_of stated places) statement).
    let by = stated_by stated places statement d in
    record {
      place = by.place;
      own = later_of_list place places by.place by.own;
      statements = by.statements;
      package_at = by.package_at;
      says = by.says;
    })
    (Contains-append_cases (items_of (slice_get stated place)) (statements_of stated places) statement c)

pub by_stated : (stated : Stated) (places : List ℕ) (place : ℕ) (v : Vec Statement) (statement : Statement) →
    Contains places place → slice_get stated place ≡ Some v → Contains v.items statement →
    Contains (statements_of stated places) statement
by_stated stated [] place v statement own at c = absurd (contains_nothing place own)
by_stated stated (p ∷ places) place v statement own at c =
    ⊎_elim
    (λ (same : p ≡ place).
    Contains-append_left (items_of (slice_get stated p)) (statements_of stated places) statement
    (subst (λ o. Contains (items_of o) statement) (sym (subst (λ n. slice_get stated n ≡ Some v) (sym same) at)) c))
    (λ (d : Contains places place).
    Contains-append_right (items_of (slice_get stated p)) (statements_of stated places) statement
    (by_stated stated places place v statement d at c))
    (in_list p places place own)

pub own_of : (classes : List LinkedClass) (stated : Stated) (k : ℕ) (of_class : LinkedClass) (statement : Statement) →
    slice_get classes k ≡ Some of_class → Contains (own_statements stated of_class) statement →
    OwnStatement classes stated k statement
own_of classes stated k of_class statement at c =
    ⊎_elim
    (λ (d : Contains (statements_of stated of_class.mandatory.items) statement).
    let by = stated_by stated of_class.mandatory.items statement d in
    record {
      of_class = of_class;
      class_at = at;
      place = by.place;
      own = inl by.own;
      statements = by.statements;
      package_at = by.package_at;
      says = by.says;
    })
    (λ (d : Contains (statements_of stated of_class.conditional.items) statement).
    let by = stated_by stated of_class.conditional.items statement d in
    record {
      of_class = of_class;
      class_at = at;
      place = by.place;
      own = inr by.own;
      statements = by.statements;
      package_at = by.package_at;
      says = by.says;
    })
    (Contains-append_cases (statements_of stated of_class.mandatory.items)
    (statements_of stated of_class.conditional.items) statement c)

pub same_class : (classes : List LinkedClass) (k : ℕ) (one other : LinkedClass) → slice_get classes k ≡ Some one →
    slice_get classes k ≡ Some other → one ≡ other
same_class classes k one other p q = same_Some one other (sym p ∙ q)

pub of_own : (classes : List LinkedClass) (stated : Stated) (k : ℕ) (of_class : LinkedClass) (statement : Statement) →
    slice_get classes k ≡ Some of_class → OwnStatement classes stated k statement →
    Contains (own_statements stated of_class) statement
of_own classes stated k of_class statement at own =
    subst (λ (x : LinkedClass). Contains (own_statements stated x) statement)
    (same_class classes k own.of_class of_class own.class_at at)
    (⊎_elim
    (λ (d : Contains own.of_class.mandatory.items own.place).
    Contains-append_left (statements_of stated own.of_class.mandatory.items)
    (statements_of stated own.of_class.conditional.items) statement
    (by_stated stated own.of_class.mandatory.items own.place own.statements statement d own.package_at own.says))
    (λ (d : Contains own.of_class.conditional.items own.place).
    Contains-append_right (statements_of stated own.of_class.mandatory.items)
    (statements_of stated own.of_class.conditional.items) statement
    (by_stated stated own.of_class.conditional.items own.place own.statements statement d own.package_at own.says))
    own.own)
