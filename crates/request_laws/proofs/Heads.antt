-- The components with which arguments begin are read where they are denoted: X.711, section 7.4.
use Rattle.std.proofs.Common.{◌≡◌, ℕ, List, true, false, ◌&&◌, Option, Some, refl, sym, ap, ◌∙◌, ⊎_elim}
use Rattle.std.proofs.lemmas.Bool.{and_right, cases_Bool, or_parts}
use Rattle.std.specs.Prelude.{ℤ, codes, is_some, option_map, option_and_then, ◌||◌}
use Rattle.term_values.specs.Beginnings.{begins}
use Rattle.term_values.specs.CmipTypes.{at_most_one, explicit, identifier, implicit, number, object_class}
use Rattle.term_values.specs.CmipTypes.{object_instance, object_parts, one, scope}
use Rattle.term_values.specs.Decoding.{denoted, parts_in}
use Rattle.term_values.specs.FilterTrees.{is_context}
use Rattle.term_values.specs.Octets.{integer_in}
use Rattle.term_values.specs.PduSyntaxes.{scoped_parts}
use Rattle.term_values.specs.Syntaxes.{TypeParts}
use Rattle.term_values.specs.Syntaxes.TypeSyntax.{Any, Filter}
use Rattle.term_values.specs.Tag.{context, is_same_tag, universal}
use Rattle.term_values.specs.Tree.{TreeValue, TreeValues}
use Rattle.term_values.specs.Tree.TreeValue.{Primitive, Constructed}
use Rattle.term_values.specs.Tree.TreeValues.{Nothing, Then}
use Rattle.term_values.specs.TreeTags.{tag_of}
use Rattle.term_values.specs.Typed.TypedValue.{Int, Pick}
use Rattle.term_model.specs.declared.scope.Scope.TheVariants as scopes
use Rattle.term_model.specs.declared.schema.Set.{Set}
use Rattle.term_model.specs.ArgumentRows.{at_front, begins_filter, held_under}
use Rattle.term_model.specs.Assertions.{id_in}
use Rattle.term_model.specs.InstanceNames.{instance_in}
use Rattle.term_model.specs.RequestHeads.{ScopedTrees, filter_of, head_of, head_with, object_of, options_behind}
use Rattle.term_model.specs.RequestHeads.{options_of, scope_in, scope_of, scoped_in, sync_of}
use Rattle.request_laws.proofs.Arranged.{scoped_order}
use Rattle.request_laws.proofs.Filters.{filter_same}
use Rattle.request_laws.proofs.Identifiers.{id_same}
use Rattle.request_laws.proofs.Instances.{instance_same}
use Rattle.request_laws.proofs.Options.{is_both, is_followed, is_mapped, is_then, is_where, or_four, or_nothing}
use Rattle.request_laws.proofs.Parts.{explicit_same, held_same, number_same}
use Rattle.request_laws.proofs.Rows.{first_same, optional_same}

-- ---- what doesn't begin as an identifier or an instance is none

pub id_unbegun : (global local : ℕ) (x : TreeValue) → begins (identifier global local) (tag_of x) ≡ false
    → is_some (denoted false (identifier global local) x) ≡ false
id_unbegun global local x e =
    let p = or_parts (is_context global (tag_of x)) (is_context local (tag_of x) || false) e in
    let q = or_parts (is_context local (tag_of x)) false p.1 in
    rw (p.0, q.0) refl

pub instance_unbegun : (x : TreeValue) → begins object_instance (tag_of x) ≡ false
    → is_some (denoted false object_instance x) ≡ false
instance_unbegun x e =
    let p = or_parts (is_context 2 (tag_of x)) (is_context 3 (tag_of x) || (is_context 4 (tag_of x) || false)) e in
    let q = or_parts (is_context 3 (tag_of x)) (is_context 4 (tag_of x) || false) p.1 in
    let r = or_parts (is_context 4 (tag_of x)) false q.1 in
    rw (p.0, q.0, r.0) refl

-- ---- the scope

plain_scope : (contents : List ℕ) (make : ℤ → scopes.the_data) (k : ℕ)
    → is_some (option_map make (integer_in contents))
    ≡ is_some (option_map (Pick k) (option_and_then (λ n. Some (Int n)) (integer_in contents)))
plain_scope contents make k =
    is_mapped make (integer_in contents)
    ∙ sym (is_mapped (Pick k) (option_and_then (λ n. Some (Int n)) (integer_in contents))
    ∙ is_then Int (integer_in contents))

scope_in_same : (x : TreeValue) → is_some (scope_in x) ≡ is_some (denoted false scope x)
scope_in_same (Primitive tag contents) =
    ⊎_elim (λ (e : is_same_tag (universal 2) tag ≡ true). rw e (plain_scope contents scopes.Plain 0))
    (λ (e : is_same_tag (universal 2) tag ≡ false).
    ⊎_elim (λ (f : is_context 1 tag ≡ true). rw (e, f) (plain_scope contents scopes.Level 1))
    (λ (f : is_context 1 tag ≡ false).
    ⊎_elim (λ (g : is_context 2 tag ≡ true). rw (e, f, g) (plain_scope contents scopes.Upto 2))
    (λ (g : is_context 2 tag ≡ false). rw (e, f, g) refl)
    (cases_Bool (is_context 2 tag)))
    (cases_Bool (is_context 1 tag)))
    (cases_Bool (is_same_tag (universal 2) tag))
scope_in_same (Constructed tag inside) =
    ⊎_elim (λ (e : is_same_tag (universal 2) tag ≡ true). rw e refl)
    (λ (e : is_same_tag (universal 2) tag ≡ false).
    ⊎_elim (λ (f : is_context 1 tag ≡ true). rw (e, f) refl)
    (λ (f : is_context 1 tag ≡ false).
    ⊎_elim (λ (g : is_context 2 tag ≡ true). rw (e, f, g) refl)
    (λ (g : is_context 2 tag ≡ false). rw (e, f, g) refl)
    (cases_Bool (is_context 2 tag)))
    (cases_Bool (is_context 1 tag)))
    (cases_Bool (is_same_tag (universal 2) tag))

-- ---- the options

pub access_same : (rest : TypeParts) (trees : TreeValues)
    → is_some (parts_in (at_most_one (codes "accessControl") (explicit 5 Any) rest) trees)
    ≡ (is_some (held_under 5 (at_front (is_context 5) trees).0)
    && is_some (parts_in rest (at_front (is_context 5) trees).1))
access_same rest trees =
    optional_same (codes "accessControl") (explicit 5 Any) rest (is_context 5) (held_under 5)
    (λ tag. or_nothing (is_context 5 tag)) refl (λ x e. held_same 5 x) trees

sync_same : (rest : TypeParts) (trees : TreeValues)
    → is_some (parts_in (at_most_one (codes "synchronization") (implicit 6 number) rest) trees)
    ≡ (is_some (sync_of (at_front (is_context 6) trees).0)
    && is_some (parts_in rest (at_front (is_context 6) trees).1))
sync_same rest trees =
    optional_same (codes "synchronization") (implicit 6 number) rest (is_context 6) sync_of
    (λ tag. or_nothing (is_context 6 tag)) refl (λ x e. number_same (context 6) x) trees

scope_same : (rest : TypeParts) (trees : TreeValues)
    → is_some (parts_in (at_most_one (codes "scope") (explicit 7 scope) rest) trees)
    ≡ (is_some (scope_of (at_front (is_context 7) trees).0)
    && is_some (parts_in rest (at_front (is_context 7) trees).1))
scope_same rest trees =
    optional_same (codes "scope") (explicit 7 scope) rest (is_context 7) scope_of
    (λ tag. or_nothing (is_context 7 tag)) refl
    (λ x e. explicit_same 7 scope_in (denoted false scope) scope_in_same x) trees

filters_same : (set : Set) (rest : TypeParts) (trees : TreeValues)
    → is_some (parts_in (at_most_one (codes "filter") Filter rest) trees)
    ≡ (is_some (filter_of set (at_front begins_filter trees).0)
    && is_some (parts_in rest (at_front begins_filter trees).1))
filters_same set rest trees =
    optional_same (codes "filter") Filter rest begins_filter (filter_of set)
    (λ tag. or_four (is_context 8 tag) (is_context 9 tag) (is_context 10 tag) (is_context 11 tag)) refl
    (λ x e. filter_same set.attributes x) trees

-- ---- class and instance, and the head

pub object_same : (set : Set) (class base : TreeValue)
    → is_some (object_of set class base) ≡ (is_some (id_in 0 1 class) && is_some (instance_in set base))
object_same set class base = is_both (λ id instance. (id, instance)) (id_in 0 1 class) (instance_in set base)

pub objects_same : (set : Set) (rest : TypeParts) (class base : TreeValue) (trees : TreeValues)
    → is_some (parts_in (object_parts rest) (Then class (Then base trees)))
    ≡ (is_some (id_in 0 1 class) && (is_some (instance_in set base) && is_some (parts_in rest trees)))
objects_same set rest class base trees =
    first_same (codes "objectClass") object_class (one (codes "objectInstance") object_instance rest) class
    (Then base trees) (id_unbegun 0 1 class)
    ∙ (λ i. sym (id_same 0 1 class) i
    && (first_same (codes "objectInstance") object_instance rest base trees (instance_unbegun base)
    ∙ ap (λ b. b && is_some (parts_in rest trees)) (sym (instance_same set base))) i)

pub no_object : (rest : TypeParts) (class : TreeValue)
    → is_some (parts_in (object_parts rest) (Then class Nothing)) ≡ false
no_object rest class =
    first_same (codes "objectClass") object_class (one (codes "objectInstance") object_instance rest) class
    Nothing (id_unbegun 0 1 class)
    ∙ and_right (is_some (denoted false object_class class)) false refl

head_same : (set : Set) (trees : ScopedTrees) → is_some (head_of set trees)
    ≡ ((is_some (held_under 5 trees.access) && (is_some (sync_of trees.sync) && is_some (scope_of trees.scope)))
    && ((is_some (id_in 0 1 trees.class) && is_some (instance_in set trees.base))
    && is_some (filter_of set trees.filter)))
head_same set trees =
    is_followed (head_with set trees.class trees.base trees.filter) _ (options_of trees.access trees.sync trees.scope)
    (λ options. is_both (λ object asked. record {
      class = object.0;
      base = object.1;
      sync = options.0;
      scope = options.1;
      filter = asked;
    }) (object_of set trees.class trees.base) (filter_of set trees.filter)
    ∙ ap (λ b. b && is_some (filter_of set trees.filter)) (object_same set trees.class trees.base))
    ∙ ap (λ b. b && ((is_some (id_in 0 1 trees.class) && is_some (instance_in set trees.base))
    && is_some (filter_of set trees.filter)))
    (is_where (is_some (held_under 5 trees.access)) (option_and_then (λ n. option_map (λ reach. (n, reach))
    (scope_of trees.scope)) (sync_of trees.sync))
    ∙ ap (λ b. is_some (held_under 5 trees.access) && b)
    (is_both (λ n reach. (n, reach)) (sync_of trees.sync) (scope_of trees.scope)))

abbrev from_filter : TypeParts → TypeParts
from_filter rest = at_most_one (codes "filter") Filter rest

abbrev from_scope : TypeParts → TypeParts
from_scope rest = at_most_one (codes "scope") (explicit 7 scope) (from_filter rest)

abbrev from_sync : TypeParts → TypeParts
from_sync rest = at_most_one (codes "synchronization") (implicit 6 number) (from_scope rest)

abbrev from_access : TypeParts → TypeParts
from_access rest = at_most_one (codes "accessControl") (explicit 5 Any) (from_sync rest)

-- the components with a scope, and those that follow
pub scoped_same : {A : Type 0} (set : Set) (f : ScopedTrees → Option A) (rest : TypeParts)
    → ((trees : ScopedTrees) → is_some (f trees) ≡ (is_some (head_of set trees) && is_some (parts_in rest trees.rest)))
    → (xs : TreeValues) → is_some (option_and_then f (scoped_in xs)) ≡ is_some (parts_in (scoped_parts rest) xs)
scoped_same set f rest law Nothing = refl
scoped_same set f rest law (Then class Nothing) = sym (no_object (from_access rest) class)
scoped_same set f rest law (Then class (Then base trees)) =
    let all = options_behind class base trees in
    let access = at_front (is_context 5) trees in
    let sync = at_front (is_context 6) access.1 in
    let reach = at_front (is_context 7) sync.1 in
    law all
    ∙ (ap (λ b. b && is_some (parts_in rest all.rest)) (head_same set all)
    ∙ (scoped_order (is_some (held_under 5 all.access)) (is_some (sync_of all.sync)) (is_some (scope_of all.scope))
    (is_some (id_in 0 1 class)) (is_some (instance_in set base)) (is_some (filter_of set all.filter))
    (is_some (parts_in rest all.rest))
    ∙ sym (objects_same set (from_access rest) class base trees
    ∙ ap (λ b. is_some (id_in 0 1 class) && (is_some (instance_in set base) && b))
    (access_same (from_sync rest) trees
    ∙ ap (λ b. is_some (held_under 5 all.access) && b)
    (sync_same (from_scope rest) access.1
    ∙ ap (λ b. is_some (sync_of all.sync) && b)
    (scope_same (from_filter rest) sync.1
    ∙ ap (λ b. is_some (scope_of all.scope) && b) (filters_same set rest reach.1)))))))
