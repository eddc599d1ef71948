-- A Set of an object of a well-formed map leaves a well-formed map: X.711, section 7.4; X.720, section 5.
use Rattle.std.proofs.Common.{◌≡◌, ◌≤◌, ◌⊎◌, ℕ, Bool, List, [], ◌∷◌, Some, sym, ap, ◌∙◌, subst, inl, inr}
use Rattle.std.proofs.lemmas.List.{length-map}
use Rattle.std.proofs.lemmas.List.Elements.{All-contains, All-weaker}
use Rattle.std.specs.Prelude.{◌++◌, Contains, IfOk, Ok, Err, length, map}
use Rattle.term_model.proofs.MapLaws.{names_rise}
use Rattle.term_model.specs.declared.effect.Diff.{Diff}
use Rattle.term_model.specs.declared.name.Rdn.{Rdn}
use Rattle.term_model.specs.declared.object.Object.{Object}
use Rattle.term_model.specs.declared.objects.NamedObject.{NamedObject}
use Rattle.term_model.specs.declared.reply.Reply.{Reply}
use Rattle.term_model.specs.declared.reply.Reply.TheVariants as reply
use Rattle.term_model.specs.declared.results.SetInfoStatus.{SetInfoStatus}
use Rattle.term_model.specs.declared.results.SetInfoStatus.TheVariants as set_info
use Rattle.term_model.specs.declared.schema.ClassRec.{ClassRec}
use Rattle.term_model.specs.declared.schema.Set.{Set}
use Rattle.term_model.specs.BoundClasses.{is_bound_log}
use Rattle.term_model.specs.CmisErrors.{set_list_error}
use Rattle.term_model.specs.Modifications.{Modified, modified, unmodified}
use Rattle.term_model.specs.NamedObjects.{names, object_at, stored}
use Rattle.term_model.specs.ObjectSet.{differing, left_by, modified_attributes, patch_of, set_with, stays}
use Rattle.term_model.specs.WellFormedObjects.{AreGood, IsGoodName, IsGoodObject, IsPlainRecord}
use Rattle.term_model.specs.WholeSet.{NamesClass}
use Rattle.set_laws.specs.KeptMaps.{MapStaysGood, under, with_patches}
use Rattle.set_laws.proofs.KeptNames.{name_stays_good}
use Rattle.set_laws.proofs.KeptObjects.{object_stays_good}
use Rattle.set_laws.proofs.Members.{either_way, map_gets}
use Rattle.set_laws.proofs.SameKind.{kind_stays}
use Rattle.set_laws.proofs.StoredObjects.{class_stays, entry_is, names_stay, object_is, stored_all}

-- ---- an object of its class in place of another

module _ (schema : Set) (objects : List NamedObject) (name : List Rdn) (before now : Object)
    (good : AreGood schema objects) (at : object_at objects name ≡ Some before)
    (class : now.class ≡ before.class) where
  abbrev after : List NamedObject
  after = stored (under name now) objects

  -- records of a log are so still, since the log is there
  plain_stays : (entry : NamedObject) (of_class : ClassRec) → IsPlainRecord schema objects entry of_class
      → IsPlainRecord schema after entry of_class
  plain_stays entry of_class plain =
      let log = plain.1.0 in
      let left = class_stays objects name before now at class log.name log.object
      (object_is objects log good.by_name plain.1.1) in (
        plain.0,
        (
          under log.name left.0,
          entry_is after log.name left.0 left.1,
          ap (is_bound_log schema) left.2 ∙ plain.1.2,
          plain.1.3,
        ),
      )

  object_stays : (entry : NamedObject) → IsGoodObject schema objects entry → IsGoodObject schema after entry
  object_stays entry is = record {
    class = is.class;
    known = is.known;
    once = is.once;
    of_packages = is.of_packages;
    each = is.each;
    values = is.values;
    permitted = elim is.permitted [
      | inl plain ↦ inl (plain_stays entry is.class plain)
      | inr all ↦ inr all
    ];
    small = is.small;
  }

  -- superiors are there, of the classes that they had
  name_stays : (entry : NamedObject) → (entry.name ≡ []) ⊎ IsGoodName schema objects entry
      → (entry.name ≡ []) ⊎ IsGoodName schema after entry
  name_stays entry (inl root) = inl root
  name_stays entry (inr is) =
      let left = class_stays objects name before now at class is.front is.superior is.there in
      inr (record {
        front = is.front;
        last = is.last;
        is = is.is;
        deep = is.deep;
        superior = left.0;
        there = left.1;
        binding = is.binding;
        known = is.known;
        bound = is.bound;
        subordinate = is.subordinate;
        above = subst (NamesClass is.binding.superior schema) (sym left.2) is.above;
        attribute = is.attribute;
        plain = is.plain;
        value = is.value;
      })

  pub map_stays : IsGoodObject schema objects (under name now)
      → (name ≡ []) ⊎ IsGoodName schema objects (under name now) → AreGood schema after
  map_stays object named =
      let same : names after ≡ names objects = names_stay (under name now) objects good.by_name
      (map_gets (λ (entry : NamedObject). entry.name) objects (under name before) (entry_is objects name before at)) in
      record {
        whole = good.whole;
        root = subst (λ found. Contains found []) (sym same) good.root;
        few = subst (λ n. n ≤ 100000) (sym (length-map objects (λ (entry : NamedObject). entry.name))
            ∙ ap length (sym same) ∙ length-map after (λ (entry : NamedObject). entry.name)) good.few;
        by_name = names_rise (under name now) objects good.by_name;
        each =
            stored_all (IsGoodObject schema after) (under name now) objects (object_stays (under name now) object)
            (All-weaker (IsGoodObject schema objects) (IsGoodObject schema after) object_stays objects good.each);
        below =
            stored_all (λ entry. (entry.name ≡ []) ⊎ IsGoodName schema after entry) (under name now) objects
            (name_stays (under name now) named)
            (All-weaker (λ entry. (entry.name ≡ []) ⊎ IsGoodName schema objects entry)
            (λ entry. (entry.name ≡ []) ⊎ IsGoodName schema after entry) name_stays objects good.below);
      }

-- ---- what a Set leaves

in_patches : (schema : Set) (objects : List NamedObject) (name : List Rdn) (object : Object) (diffs : List Diff)
    → AreGood schema objects → AreGood schema (stored (under name object) objects)
    → AreGood schema (with_patches objects (patch_of name object diffs))
in_patches schema objects name object [] good left = good
in_patches schema objects name object (diff ∷ diffs) good left = left

set_leaves : (schema : Set) (objects : List NamedObject) (name : List Rdn) (object : Object) (made : Modified)
    (atomic : Bool) (time : List ℕ) (failures : List SetInfoStatus) → AreGood schema objects
    → AreGood schema (stored (under name made.object) objects)
    → IfOk (set_with schema name object made atomic time failures)
    (λ effect. AreGood schema (with_patches objects effect.changes))
set_leaves schema objects name object made atomic time [] good left =
    in_patches schema objects name made.object (differing schema.attributes object.attrs made.object.attrs) good left
set_leaves schema objects name object made atomic time (failure ∷ failures) good left =
    let answer : Reply = reply.Error (set_list_error object.class name time
    ((failure ∷ failures) ++ map set_info.Attribute (modified_attributes schema made))) in
    either_way (λ outcome. IfOk outcome (λ effect. AreGood schema (with_patches objects effect.changes)))
    (stays atomic made.done) (Ok (left_by schema name object made.object answer))
    (Err (set_list_error object.class name time (failure ∷ failures)))
    (λ best_effort.
    in_patches schema objects name made.object (differing schema.attributes object.attrs made.object.attrs) good left)
    (λ fails. tt)

pub map_stays_good : MapStaysGood
map_stays_good schema objects name object changes atomic time good at =
    let made = modified schema name (unmodified object) changes in
    let entry = entry_is objects name object at in
    let object_good = All-contains (IsGoodObject schema objects) objects (under name object) good.each entry in
    let name_good = All-contains (λ one. (one.name ≡ []) ⊎ IsGoodName schema objects one) objects
    (under name object) good.below entry in
    set_leaves schema objects name object made atomic time made.failures good
    (map_stays schema objects name object made.object good at (kind_stays schema name object changes).0
    (object_stays_good schema objects name object changes good.whole object_good)
    (name_stays_good schema objects name object changes name_good))
