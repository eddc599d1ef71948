-- The arguments of m-Create and m-EventReport give requests where they are denoted: X.711, section 7.4.
use Rattle.std.proofs.Common.{◌≡◌, Bool, true, false, ◌&&◌, Option, None, Some, refl, sym, ap, ◌∙◌, ⊎_elim}
use Rattle.std.proofs.lemmas.Bool.{and_right, cases_Bool}
use Rattle.std.specs.Prelude.{codes, is_some, option_map, option_and_then, if◌then◌else◌}
use Rattle.term_values.specs.Beginnings.{begins}
use Rattle.term_values.specs.CmipTypes.{at_most_one, attribute, event_type_id, explicit, implicit, object_class}
use Rattle.term_values.specs.CmipTypes.{object_instance, object_parts, one, sequence_of, unnamed}
use Rattle.term_values.specs.Decoding.{denoted, parts_in}
use Rattle.term_values.specs.FilterTrees.{is_context}
use Rattle.term_values.specs.LeafReading.{no_trees, octets_in, where_it}
use Rattle.term_values.specs.PduSyntaxes.{create_place}
use Rattle.term_values.specs.Syntaxes.{TypeParts}
use Rattle.term_values.specs.Syntaxes.TypeSyntax.{Any, GeneralizedTime}
use Rattle.term_values.specs.Syntaxes.TypeParts.{NoParts}
use Rattle.term_values.specs.Tag.{context}
use Rattle.term_values.specs.Times.{is_time}
use Rattle.term_values.specs.Tree.{TreeValue, TreeValues}
use Rattle.term_values.specs.Tree.TreeValues.{Nothing, Then}
use Rattle.term_values.specs.TreeTags.{tag_of}
use Rattle.term_values.specs.Typed.TypedValue.{Pick, Time}
use Rattle.typed_laws.proofs.Choosing.{same_tag}
use Rattle.term_model.specs.declared.filter_item.Given.{Given}
use Rattle.term_model.specs.declared.request.IdRef.{IdRef}
use Rattle.term_model.specs.declared.request.Instance.{Instance}
use Rattle.term_model.specs.declared.request.Place.{Place}
use Rattle.term_model.specs.declared.request.Place.TheVariants as places
use Rattle.term_model.specs.declared.request.Request.TheVariants as requests
use Rattle.term_model.specs.declared.schema.Set.{Set}
use Rattle.term_model.specs.ArgumentRows.{at_end, at_front, begins_place, held_under}
use Rattle.term_model.specs.Assertions.{id_in}
use Rattle.term_model.specs.InstanceNames.{instance_in}
use Rattle.term_model.specs.Parts.{one_under}
use Rattle.term_model.specs.RequestHeads.{object_of}
use Rattle.term_model.specs.CreateReading.{CreateTrees, create_attributes, create_in, create_instances, create_of}
use Rattle.term_model.specs.CreateReading.{create_trees, create_with, givens_of, place_in, place_of, reference_of}
use Rattle.term_model.specs.ReportReading.{ReportTrees, event_of, event_with, report_behind, report_in, report_of}
use Rattle.term_model.specs.ReportReading.{report_with, time_in, time_of}
use Rattle.request_laws.proofs.Arranged.{create_order, object_order, report_order}
use Rattle.request_laws.proofs.Heads.{access_same, id_unbegun, instance_unbegun, no_object, object_same, objects_same}
use Rattle.request_laws.proofs.Identifiers.{id_same}
use Rattle.request_laws.proofs.Instances.{instance_same}
use Rattle.request_laws.proofs.Lists.{givens_same}
use Rattle.request_laws.proofs.Options.{is_both, is_followed, is_mapped, is_then_same, is_where, or_four, or_nothing}
use Rattle.request_laws.proofs.Parts.{end_same, explicit_same, held_same}
use Rattle.request_laws.proofs.Rows.{first_same, optional_same}

-- ---- where an object is to be created

place_there : (set : Set) (x : TreeValue) → is_some (place_in set x) ≡ is_some (denoted false create_place x)
place_there set x =
    ⊎_elim
    (λ (e : is_context 8 (tag_of x) ≡ true).
    let other : begins object_instance (tag_of x) ≡ false =
    sym (ap (begins object_instance) (same_tag (context 8) (tag_of x) e)) in
    let below = explicit_same 8 (instance_in set) (denoted false object_instance) (instance_same set) x in
    rw (e, other) (is_mapped places.Below (option_and_then (instance_in set) (one_under (context 8) x))
    ∙ (below ∙ (sym (is_mapped (Pick 1) (denoted false (explicit 8 object_instance) x)) ∙ rw e refl))))
    (λ (e : is_context 8 (tag_of x) ≡ false).
    ⊎_elim
    (λ (f : begins object_instance (tag_of x) ≡ true).
    rw (e, f) (is_mapped places.At (instance_in set x)
    ∙ (instance_same set x ∙ sym (is_mapped (Pick 0) (denoted false object_instance x)))))
    (λ (f : begins object_instance (tag_of x) ≡ false).
    rw (e, f) (is_mapped places.At (instance_in set x) ∙ (instance_same set x ∙ instance_unbegun x f)))
    (cases_Bool (begins object_instance (tag_of x))))
    (cases_Bool (is_context 8 (tag_of x)))

abbrev attributes_part : TypeParts
attributes_part = at_most_one (codes "attributeList") (implicit 7 (sequence_of attribute)) NoParts

abbrev from_reference : TypeParts
from_reference = at_most_one (codes "reference") (explicit 6 object_instance) attributes_part

abbrev from_access : TypeParts
from_access = at_most_one (codes "accessControl") (explicit 5 Any) from_reference

abbrev pub from_place : TypeParts
from_place = at_most_one unnamed create_place from_access

place_same : (set : Set) (xs : TreeValues) → is_some (parts_in from_place xs)
    ≡ (is_some (place_of set (at_front begins_place xs).0)
    && is_some (parts_in from_access (at_front begins_place xs).1))
place_same set xs =
    optional_same unnamed create_place from_access begins_place (place_of set)
    (λ tag. or_four (is_context 2 tag) (is_context 3 tag) (is_context 4 tag) (is_context 8 tag)) refl
    (λ x e. place_there set x) xs

reference_same : (set : Set) (xs : TreeValues) → is_some (parts_in from_reference xs)
    ≡ (is_some (reference_of set (at_front (is_context 6) xs).0)
    && is_some (parts_in attributes_part (at_front (is_context 6) xs).1))
reference_same set xs =
    optional_same (codes "reference") (explicit 6 object_instance) attributes_part (is_context 6) (reference_of set)
    (λ tag. or_nothing (is_context 6 tag)) refl
    (λ x e. is_mapped Some (option_and_then (instance_in set) (one_under (context 6) x))
    ∙ explicit_same 6 (instance_in set) (denoted false object_instance) (instance_same set) x) xs

-- ---- m-Create

create_parts : (set : Set) (class : IdRef) (trees : CreateTrees) → is_some (create_of set class trees)
    ≡ ((is_some (held_under 5 trees.access) && is_some (parts_in attributes_part trees.rest))
    && (is_some (place_of set trees.place) && is_some (reference_of set trees.reference)))
create_parts set class trees =
    is_followed (λ given. create_with set class given trees.place trees.reference)
    (is_some (place_of set trees.place) && is_some (reference_of set trees.reference))
    (create_attributes set trees.access trees.rest)
    (λ given. is_mapped (λ (instances : Place × Option Instance).
    requests.Create class instances.0 instances.1 given) (create_instances set trees.place trees.reference)
    ∙ is_both (λ found other. (found, other)) (place_of set trees.place) (reference_of set trees.reference))
    ∙ ap (λ b. b && (is_some (place_of set trees.place) && is_some (reference_of set trees.reference)))
    (is_where (is_some (held_under 5 trees.access))
    (option_and_then (givens_of set.attributes) (at_end 7 trees.rest))
    ∙ ap (λ b. is_some (held_under 5 trees.access) && b) (givens_same set.attributes trees.rest))

behind_class : (set : Set) (class : IdRef) (xs : TreeValues)
    → is_some (create_of set class (create_trees xs)) ≡ is_some (parts_in from_place xs)
behind_class set class xs =
    let place = at_front begins_place xs in
    let access = at_front (is_context 5) place.1 in
    let reference = at_front (is_context 6) access.1 in
    create_parts set class (create_trees xs)
    ∙ (create_order (is_some (held_under 5 access.0)) (is_some (parts_in attributes_part reference.1))
    (is_some (place_of set place.0)) (is_some (reference_of set reference.0))
    ∙ sym (place_same set xs
    ∙ ap (λ b. is_some (place_of set place.0) && b)
    (access_same from_reference place.1
    ∙ ap (λ b. is_some (held_under 5 access.0) && b) (reference_same set access.1))))

pub create_same : (set : Set) (xs : TreeValues)
    → is_some (create_in set xs) ≡ is_some (parts_in (one (codes "objectClass") object_class from_place) xs)
create_same set Nothing = refl
create_same set (Then class rest) =
    is_followed (λ id. create_of set id (create_trees rest)) (is_some (parts_in from_place rest)) (id_in 0 1 class)
    (λ id. behind_class set id rest)
    ∙ (ap (λ b. b && is_some (parts_in from_place rest)) (id_same 0 1 class)
    ∙ sym (first_same (codes "objectClass") object_class from_place class rest (id_unbegun 0 1 class)))

-- ---- m-EventReport

abbrev info_part : TypeParts
info_part = at_most_one (codes "eventInfo") (explicit 8 Any) NoParts

abbrev from_type : TypeParts
from_type = one (codes "eventType") event_type_id info_part

abbrev pub from_time : TypeParts
from_time = at_most_one (codes "eventTime") (implicit 5 GeneralizedTime) from_type

time_there : (x : TreeValue) → is_context 5 (tag_of x) ≡ true
    → is_some (time_of (Some x)) ≡ is_some (denoted false (implicit 5 GeneralizedTime) x)
time_there x e =
    is_mapped Some (time_in x)
    ∙ rw e (is_then_same (λ octets. if is_time octets then Some octets else None)
    (λ octets. where_it (is_time octets) (Time octets)) (octets_in x)
    (λ octets. is_where (is_time octets) (Some octets) ∙ sym (is_where (is_time octets) (Some (Time octets)))))

time_same : (xs : TreeValues) → is_some (parts_in from_time xs)
    ≡ (is_some (time_of (at_front (is_context 5) xs).0)
    && is_some (parts_in from_type (at_front (is_context 5) xs).1))
time_same xs =
    optional_same (codes "eventTime") (implicit 5 GeneralizedTime) from_type (is_context 5) time_of
    (λ tag. or_nothing (is_context 5 tag)) refl time_there xs

report_parts : (set : Set) (confirmed : Bool) (class base : TreeValue) (trees : ReportTrees)
    → is_some (report_of set confirmed class base trees)
    ≡ ((is_some (held_under 8 trees.info) && is_some (id_in 6 7 trees.kind))
    && ((is_some (id_in 0 1 class) && is_some (instance_in set base)) && is_some (time_of trees.time)))
report_parts set confirmed class base trees =
    is_followed (λ (event : IdRef × Option Given).
    option_and_then (λ (object : IdRef × Instance). report_with confirmed object event trees.time)
    (object_of set class base))
    ((is_some (id_in 0 1 class) && is_some (instance_in set base)) && is_some (time_of trees.time))
    (event_of set.notifications trees.kind trees.info)
    (λ event. is_followed (λ (object : IdRef × Instance). report_with confirmed object event trees.time)
    (is_some (time_of trees.time)) (object_of set class base)
    (λ object. is_mapped (λ octets. requests.Report object.0 object.1 event.0 octets event.1 confirmed)
    (time_of trees.time))
    ∙ ap (λ b. b && is_some (time_of trees.time)) (object_same set class base))
    ∙ ap (λ b. b && ((is_some (id_in 0 1 class) && is_some (instance_in set base)) && is_some (time_of trees.time)))
    (is_both (λ value named. event_with set.notifications named value) (held_under 8 trees.info)
    (id_in 6 7 trees.kind))

where_last_same : {A B C : Type 0} (f : B → Option C) (make : A → B) (last : Bool) (front : A)
    → is_some (option_and_then f (option_map make (if last then Some front else None)))
    ≡ (is_some (f (make front)) && last)
where_last_same f make true front = go (is_some (f (make front)))
  where
    go : (b : Bool) → b ≡ (b && true)
    go true = refl
    go false = refl
where_last_same f make false front = sym (and_right (is_some (f (make front))) false refl)

abbrev report_with_info : Option TreeValue → TreeValue → Option TreeValue → ReportTrees
report_with_info time kind info = record { time = time; kind = kind; info = info }

behind_time : (set : Set) (confirmed : Bool) (class base : TreeValue) (time : Option TreeValue) (xs : TreeValues)
    → is_some (option_and_then (report_of set confirmed class base) (report_behind time xs))
    ≡ (((is_some (id_in 0 1 class) && is_some (instance_in set base)) && is_some (time_of time))
    && is_some (parts_in from_type xs))
behind_time set confirmed class base time Nothing =
    sym (and_right ((is_some (id_in 0 1 class) && is_some (instance_in set base)) && is_some (time_of time)) false refl)
behind_time set confirmed class base time (Then kind rest) =
    let info = at_front (is_context 8) rest in
    let object = (is_some (id_in 0 1 class) && is_some (instance_in set base)) && is_some (time_of time) in
    where_last_same (report_of set confirmed class base) (report_with_info time kind) (no_trees info.1) info.0
    ∙ (ap (λ b. b && no_trees info.1) (report_parts set confirmed class base (report_with_info time kind info.0))
    ∙ (report_order (is_some (held_under 8 info.0)) (is_some (id_in 6 7 kind)) (is_some (id_in 0 1 class))
    (is_some (instance_in set base)) (is_some (time_of time)) (no_trees info.1)
    ∙ ap (λ b. object && b)
    (sym (first_same (codes "eventType") event_type_id info_part kind rest (id_unbegun 6 7 kind)
    ∙ ((λ i. sym (id_same 6 7 kind) i
    && (optional_same (codes "eventInfo") (explicit 8 Any) NoParts (is_context 8) (held_under 8)
    (λ tag. or_nothing (is_context 8 tag)) refl (λ x e. held_same 8 x) rest
    ∙ ap (λ b. is_some (held_under 8 info.0) && b) (end_same info.1)) i))))))

pub report_same : (set : Set) (confirmed : Bool) (xs : TreeValues)
    → is_some (report_in set confirmed xs) ≡ is_some (parts_in (object_parts from_time) xs)
report_same set confirmed Nothing = refl
report_same set confirmed (Then class Nothing) = sym (no_object from_time class)
report_same set confirmed (Then class (Then base rest)) =
    let time = at_front (is_context 5) rest in
    behind_time set confirmed class base time.0 time.1
    ∙ (object_order (is_some (id_in 0 1 class)) (is_some (instance_in set base)) (is_some (time_of time.0))
    (is_some (parts_in from_type time.1))
    ∙ sym (objects_same set from_time class base rest
    ∙ ap (λ b. is_some (id_in 0 1 class) && (is_some (instance_in set base) && b)) (time_same rest)))
