-- The filter of a request that is read under a schema is valid, where it is one to be asked.
use Rattle.std.proofs.Common.{◌≡◌, ℕ, ℤ, List, Bool, true, false, Option, None, Some, refl, subst}
use Rattle.std.specs.Prelude.{pos, if◌then◌else◌}
use Rattle.std.specs.Option.{IfSome, option_and_then, option_map}
use Rattle.std.specs.Ordering.{int_eq}
use Rattle.term_values.specs.Der.{written}
use Rattle.term_values.specs.LeafReading.{no_trees}
use Rattle.term_values.specs.Tag.{universal}
use Rattle.term_values.specs.Tree.{TreeValue, TreeValues}
use Rattle.term_values.specs.Tree.TreeValues.{Nothing, Then}
use Rattle.term_model.specs.declared.filter.Asked.{Asked}
use Rattle.term_model.specs.declared.filter.Asked.TheVariants as asked
use Rattle.term_model.specs.declared.request.Head.{Head}
use Rattle.term_model.specs.declared.request.Request.{Request}
use Rattle.term_model.specs.declared.schema.Set.{Set}
use Rattle.term_model.specs.CreateReading.{create_attributes, create_in, create_instances, create_trees}
use Rattle.term_model.specs.Assertions.{id_in}
use Rattle.term_model.specs.FilterLimits.{is_within_limits}
use Rattle.term_model.specs.FilterReading.{filter_in, valid_of}
use Rattle.term_model.specs.FilterTrees.{FilterTree}
use Rattle.term_model.specs.FilterTruth.{is_valid}
use Rattle.term_model.specs.Parts.{inside_under}
use Rattle.term_model.specs.ArgumentRows.{inside_last}
use Rattle.term_model.specs.ReportReading.{event_of, report_in, report_trees, time_of}
use Rattle.term_model.specs.RequestHeads.{ScopedTrees, filter_of, head_of, head_with, object_of, options_of, scoped_in}
use Rattle.term_model.specs.RequestReading.{request_in, request_inside, scoped_of}
use Rattle.term_model.specs.ScopedReading.{action_inside, action_of, asked_ids, changes_of, delete_of, get_of, set_of}
use Rattle.operation_model.specs.OperationConditions.{HasValidFilter, has_valid_filter}

-- ---- what may be there

-- what each answer of the second reading has, its answer to the first one has
then_each : {A B : Type 0} (P : B → Type 0) (f : A → Option B) (o : Option A) → ((a : A) → IfSome (f a) P)
    → IfSome (option_and_then f o) P
then_each P f None each = tt
then_each P f (Some a) each = each a

map_each : {A B : Type 0} (P : B → Type 0) (f : A → B) (o : Option A) → ((a : A) → P (f a))
    → IfSome (option_map f o) P
map_each P f None each = tt
map_each P f (Some a) each = each a

map_those : {A B : Type 0} (P : A → Type 0) (Q : B → Type 0) (f : A → B) (o : Option A) → IfSome o P
    → ((a : A) → P a → Q (f a)) → IfSome (option_map f o) Q
map_those P Q f None has each = tt
map_those P Q f (Some a) has each = each a has

either : {X : Type 0} (P : X → Type 0) (b : Bool) (x y : X) → P x → P y → P (if b then x else y)
either P true x y first second = first
either P false x y first second = second

-- ---- filters

abbrev IsFit : Set → Asked → Type 0
IsFit set filter = has_valid_filter set filter ≡ true

valid_fits : (set : Set) (raw : List ℕ) (filter : FilterTree) → IsFit set (valid_of set.attributes raw filter)
valid_fits set raw filter = by (is_valid set.attributes filter) refl
  where
    by : (b : Bool) → is_valid set.attributes filter ≡ b → IsFit set (if b then asked.Good filter else asked.Bad raw)
    by true valid = valid
    by false valid = refl

filter_fits : (set : Set) (tree : Option TreeValue) → IfSome (filter_of set tree) (IsFit set)
filter_fits set None = refl
filter_fits set (Some tree) =
    map_each (IsFit set) _ (filter_in set.attributes tree) (λ filter.
    either (IsFit set) (is_within_limits filter) (valid_of set.attributes (written tree) filter) asked.Large
    (valid_fits set (written tree) filter) refl)

abbrev HasFit : Set → Head → Type 0
HasFit set head = IsFit set head.filter

head_fits : (set : Set) (trees : ScopedTrees) → IfSome (head_of set trees) (HasFit set)
head_fits set trees =
    then_each (HasFit set) (head_with set trees.class trees.base trees.filter)
    (options_of trees.access trees.sync trees.scope) (λ options.
    then_each (HasFit set) _ (object_of set trees.class trees.base) (λ object.
    map_those (IsFit set) (HasFit set) _ (filter_of set trees.filter) (filter_fits set trees.filter)
    (λ filter fits. fits)))

-- ---- requests

abbrev Fits : Set → Option Request → Type 0
Fits set o = IfSome o (HasValidFilter set)

get_fits : (set : Set) (trees : ScopedTrees) → Fits set (get_of set trees)
get_fits set trees =
    then_each (HasValidFilter set) _ (asked_ids trees.rest) (λ ids.
    map_those (HasFit set) (HasValidFilter set) _ (head_of set trees) (head_fits set trees) (λ head fits. fits))

set_fits : (set : Set) (confirmed : Bool) (trees : ScopedTrees) → Fits set (set_of set confirmed trees)
set_fits set confirmed trees =
    then_each (HasValidFilter set) _ (changes_of set.attributes trees.rest) (λ changes.
    map_those (HasFit set) (HasValidFilter set) _ (head_of set trees) (head_fits set trees) (λ head fits. fits))

action_fits : (set : Set) (confirmed : Bool) (trees : ScopedTrees) → Fits set (action_of set confirmed trees)
action_fits set confirmed trees =
    then_each (HasValidFilter set) _ (option_and_then (action_inside set.actions) (inside_last 12 trees.rest))
    (λ action. map_each (HasValidFilter set) _ (head_of set trees) (λ head. tt))

delete_fits : (set : Set) (trees : ScopedTrees) → Fits set (delete_of set trees)
delete_fits set trees =
    either (Fits set) (no_trees trees.rest) _ None (map_each (HasValidFilter set) _ (head_of set trees) (λ head. tt)) tt

scoped_fits : (set : Set) (op : ℤ) (trees : ScopedTrees) → Fits set (scoped_of set op trees)
scoped_fits set op trees =
    either (Fits set) (int_eq op (pos 3)) _ _ (get_fits set trees)
    (either (Fits set) (int_eq op (pos 4)) _ _ (set_fits set false trees)
    (either (Fits set) (int_eq op (pos 5)) _ _ (set_fits set true trees)
    (either (Fits set) (int_eq op (pos 6)) _ _ (action_fits set false trees)
    (either (Fits set) (int_eq op (pos 7)) _ _ (action_fits set true trees)
    (either (Fits set) (int_eq op (pos 9)) _ None (delete_fits set trees) tt)))))

report_fits : (set : Set) (confirmed : Bool) (trees : TreeValues) → Fits set (report_in set confirmed trees)
report_fits set confirmed Nothing = tt
report_fits set confirmed (Then class Nothing) = tt
report_fits set confirmed (Then class (Then base rest)) =
    then_each (HasValidFilter set) _ (report_trees rest) (λ trees.
    then_each (HasValidFilter set) _ (event_of set.notifications trees.kind trees.info) (λ event.
    then_each (HasValidFilter set) _ (object_of set class base) (λ object.
    map_each (HasValidFilter set) _ (time_of trees.time) (λ octets. tt))))

create_fits : (set : Set) (trees : TreeValues) → Fits set (create_in set trees)
create_fits set Nothing = tt
create_fits set (Then class rest) =
    let trees = create_trees rest in
    then_each (HasValidFilter set) _ (id_in 0 1 class) (λ id.
    then_each (HasValidFilter set) _ (create_attributes set trees.access trees.rest) (λ given.
    map_each (HasValidFilter set) _ (create_instances set trees.place trees.reference) (λ instances. tt)))

inside_fits : (set : Set) (op : ℤ) (inside : TreeValues) → Fits set (request_inside set op inside)
inside_fits set op inside =
    either (Fits set) (int_eq op (pos 0)) _ _ (report_fits set false inside)
    (either (Fits set) (int_eq op (pos 1)) _ _ (report_fits set true inside)
    (either (Fits set) (int_eq op (pos 8)) _ _ (create_fits set inside)
    (then_each (HasValidFilter set) (scoped_of set op) (scoped_in inside) (scoped_fits set op))))

request_fits : (set : Set) (op : ℤ) (argument : TreeValue) → Fits set (request_in set op argument)
request_fits set op argument =
    then_each (HasValidFilter set) (request_inside set op) (inside_under (universal 16) argument) (inside_fits set op)

-- the filter of a request that is read is valid
pub read_is_valid : (set : Set) (op : ℤ) (argument : TreeValue) (request : Request)
    → request_in set op argument ≡ Some request → HasValidFilter set request
read_is_valid set op argument request read = subst (Fits set) read (request_fits set op argument)
