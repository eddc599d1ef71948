-- PutLaws: a table put in its place is a step, and steps are a pass.
use Rattle.std.proofs.Common.{◌≡◌, ◌<◌, ◌≤◌, ◌+◌, [], ℕ, List, Option, Some, None, Bool, false, refl}
use Rattle.std.proofs.Common.{sym, subst, ap, ◌∙◌, length, get_or, ltb, take}
use Rattle.std.proofs.lemmas.List.{take_all, take_more}
use Rattle.std.proofs.lemmas.Bool.{ltb-false, ltb-true}
use Rattle.std.proofs.lemmas.Option.{none-some, same_Some, slice_get_past, slice_get_read}
use Rattle.std.specs.Borrow.{Bor}
use Rattle.std.specs.Prelude.{◌||◌, IfSome, slice_get}
use Rattle.std.specs.BTreeMap.{get, is_at}
use Rattle.std.specs.Map.{lookup}
use Rattle.std.specs.Option.{is_some, option_and_then, option_copied}
use Rattle.std.specs.Ordering.{nat_cmp}
use Rattle.joined_statements.specs.JoinedStatements.{Attributes, IsJoinedOf, Values}
use Rattle.joined_statements.specs.declared.joined.Joined.{Joined}
use Rattle.joined_statements.specs.declared.joined.Joining.{Joining}
use Rattle.joined_statements.specs.declared.joined.Joining.TheVariants.{Beside, Inherited}
use Rattle.linked_parts.specs.declared.linked.LinkedClass.{LinkedClass}
use Rattle.joined_properties.specs.declared.statement.Statement.{Statement}
use Rattle.joined_properties.specs.JoiningSteps.{AreJoinedAgain, ArePasses, IsNext, IsPass, IsPut, IsStep}
use Rattle.joined_properties.specs.JoiningSteps.IsPass.{onward}
use Rattle.joined_properties.specs.OwnStatements.{Stated}
use Rattle.joined_properties.specs.StatementChains.{IsChain, items_of, own_statements, said_by, said_in, statements_of}
use Rattle.joined_properties.specs.StatementChains.IsChain.{begin}
use Rattle.joined_properties.proofs.ChainLaws.{chain_on}

-- a class that isn't there
pub no_step : (values : Values) (classes : List LinkedClass) (stated : Stated) (place : ℕ) (known : List Attributes)
    (changed : Bool) → slice_get classes place ≡ None → IsStep values classes stated place known known changed
no_step values classes stated place known changed none_ = record {
  size = refl;
  others = λ k other. refl;
  replaced = λ of_class table at. absurd (none-some of_class (sym none_ ∙ at));
}

pub put_step : (values : Values) (classes : List LinkedClass) (stated : Stated) (place : ℕ) (of_class : LinkedClass)
    (table : Attributes) (before after : List Attributes) (changed : Bool) →
    slice_get classes place ≡ Some of_class → IsNext values stated of_class before table →
    IsPut values place table before after changed → IsStep values classes stated place before after changed
put_step values classes stated place of_class table before after changed at next put = record {
  size = put.size;
  others = put.others;
  replaced = λ other was at_other at_was. record {
    table = table;
    is = (put.here was at_was).0;
    next = subst (λ (x : LinkedClass). IsNext values stated x before table)
        (same_Some of_class other (sym at ∙ at_other)) next;
    same = (put.here was at_was).1;
  };
}

pub pass_more : {values : Values} {classes : List LinkedClass} {stated : Stated} {before now after : List Attributes}
    {changed anew : Bool} (order : List ℕ) (i : ℕ) → i < length order →
    IsPass values classes stated before (take i order) now changed →
    IsStep values classes stated (get_or order i 0) now after anew →
    IsPass values classes stated before (take (i + 1) order) after (changed || anew)
pass_more {values} {classes} {stated} {before} {now} {after} {changed} {anew} order i within pass step =
    subst (λ xs. IsPass values classes stated before xs after (changed || anew)) (sym (take_more order i 0 within))
    (onward (get_or order i 0) pass step)

pub pass_all : {values : Values} {classes : List LinkedClass} {stated : Stated} {before after : List Attributes}
    {changed : Bool} (order : List ℕ) (i : ℕ) → length order ≤ i →
    IsPass values classes stated before (take i order) after changed →
    IsPass values classes stated before order after changed
pass_all {values} {classes} {stated} {before} {after} {changed} order i past pass =
    subst (λ xs. IsPass values classes stated before xs after changed) (take_all i order past) pass

-- the last pass
pub last_pass : {values : Values} {classes : List LinkedClass} {stated : Stated} {order : List ℕ}
    {before now after : List Attributes} {changed : Bool} → ArePasses values classes stated order before now →
    changed ≡ false → IsPass values classes stated now order after changed →
    AreJoinedAgain values classes stated order before after
last_pass {values} {classes} {stated} {order} {before} {now} {after} passes e pass = record {
  now = now;
  passes = passes;
  last = subst (IsPass values classes stated now order after) e pass;
}

-- ---- what is got of a list

pub item_is : {X : Type 0} (xs : List X) (i : ℕ) (r : Option (Bor X)) → is_some r ≡ ltb i (length xs) →
    IfSome r (λ x. x.now ≡ get_or xs i x.now) → slice_get xs i ≡ option_copied r
item_is xs i None e is = slice_get_past xs i (ltb-false i (length xs) (sym e))
item_is xs i (Some x) e is = slice_get_read xs (length xs) i x.now refl (ltb-true i (length xs) (sym e)) is

pub no_package : (values : Values) (how : Joining) (said : Statement → Option Joined) (before : Option Joined)
    (stated : Stated) (place : ℕ) → slice_get stated place ≡ None →
    IsChain values how said before (items_of (slice_get stated place)) before
no_package values how said before stated place e =
    subst (λ o. IsChain values how said before (items_of o) before) (sym e) begin

pub no_superclass : (values : Values) (before : Option Joined) (known : List Attributes) (q place : ℕ) →
    slice_get known place ≡ None → IsJoinedOf values Inherited before (said_in known q place) before
no_superclass values before known q place e =
    subst (λ o. IsJoinedOf values Inherited before (option_and_then (λ table. get nat_cmp table q) o) before) (sym e)
    refl

pub empty_chain : {X : Type 0} (values : Values) (how : Joining) (said : X → Option Joined) (q : ℕ)
    (table : Attributes) → table.entries ≡ [] → IsChain values how said None [] (get nat_cmp table q)
empty_chain values how said q table e =
    subst (IsChain values how said None []) (sym (ap (λ entries. lookup (is_at (nat_cmp q)) entries) e)) begin

pub same_chain : {X : Type 0} {values : Values} {how : Joining} {said : X → Option Joined}
    {before after : Option Joined} (xs ys : List X) → xs ≡ ys → IsChain values how said before xs after →
    IsChain values how said before ys after
same_chain {X} {values} {how} {said} {before} {after} xs ys e chain =
    subst (λ zs. IsChain values how said before zs after) e chain

pub own_chain : (values : Values) (stated : Stated) (of_class : LinkedClass) (q : ℕ) (first now after : Attributes)
    (xs ys : List ℕ) → first.entries ≡ [] → xs ≡ of_class.mandatory.items → ys ≡ of_class.conditional.items →
    IsChain values Beside (said_by q) (get nat_cmp first q) (statements_of stated xs) (get nat_cmp now q) →
    IsChain values Beside (said_by q) (get nat_cmp now q) (statements_of stated ys) (get nat_cmp after q) →
    IsChain values Beside (said_by q) None (own_statements stated of_class) (get nat_cmp after q)
own_chain values stated of_class q first now after xs ys e p r one other =
    chain_on (statements_of stated of_class.mandatory.items) (statements_of stated of_class.conditional.items)
    (chain_on [] (statements_of stated of_class.mandatory.items) (empty_chain values Beside (said_by q) q first e)
    (same_chain (statements_of stated xs) (statements_of stated of_class.mandatory.items) (ap (statements_of stated) p)
    one))
    (same_chain (statements_of stated ys) (statements_of stated of_class.conditional.items)
    (ap (statements_of stated) r) other)
