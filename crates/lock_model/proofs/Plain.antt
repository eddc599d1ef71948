-- Who writes below control objects takes all.
use Rattle.std.proofs.Common.{◌≡◌, Bool, true, false, List, [], ◌∷◌, ◌++◌, Option, None, Some}
use Rattle.std.proofs.Common.{refl, ap, ◌∙◌, subst, append_assoc, if◌then◌else◌}
use Rattle.std.specs.Option.{option_map_or}
use Rattle.std.proofs.lemmas.Bool.{and_parts, false≢true}
use Rattle.term_model.specs.declared.name.Rdn.{Rdn}
use Rattle.term_model.specs.declared.objects.NamedObject.{NamedObject}
use Rattle.term_model.specs.declared.request.Head.{Head}
use Rattle.term_model.specs.declared.request.Instance.{Instance}
use Rattle.term_model.specs.declared.request.Place.{Place}
use Rattle.term_model.specs.declared.request.Place.TheVariants as place
use Rattle.term_model.specs.declared.request.Request.{Request}
use Rattle.term_model.specs.declared.request.Request.TheVariants as request
use Rattle.term_model.specs.declared.schema.Set.{Set}
use Rattle.term_model.specs.Comparing.{is_same_rdn}
use Rattle.term_model.proofs.MapLaws.{rdn_Decides}
use Rattle.lock_model.specs.declared.lock_name.LockName.{LockName}
use Rattle.lock_model.specs.declared.lock_name.Part.{Part}
use Rattle.lock_model.specs.declared.path.Wanted.{Wanted}
use Rattle.lock_model.specs.LockPath.{begins, own, tree}
use Rattle.lock_model.specs.Units.{IsPlain, taken_on, create_unit, creating, ended_from, head_unit, in_scope_of}
use Rattle.lock_model.specs.Units.{is_control, is_control_part, is_log_at, new_name}
use Rattle.lock_model.specs.Units.{nothing_named, or_all, reads, request_unit, short_name, with_reference, writes}
use Rattle.lock_model.specs.OperationLaws.{UnitsArePlain}
use Rattle.lock_model.proofs.Names.{begins_more}

or_all_plain : (schema : Set) (unit : LockName) → IsPlain schema (or_all schema unit)
or_all_plain schema unit = by (is_control schema unit.name) refl
  where
    by : (b : Bool) → is_control schema unit.name ≡ b → IsPlain schema (if b then writes (tree []) else writes unit)
    by true e = λ h. refl
    by false e = λ h. e

head_plain : (schema : Set) (wanted : List Rdn → Wanted) (head : Head) → ((base : List Rdn) → IsPlain schema
    (wanted base))
    → IsPlain schema (head_unit wanted head)
head_plain schema wanted head all = by (short_name head.base.named)
  where
    by : (o : Option (List Rdn)) → IsPlain schema (option_map_or wanted o nothing_named)
    by None = λ h. refl
    by (Some base) = all base

creating_plain : (schema : Set) (reference : Option Instance) (o : Option (List Rdn))
    → IsPlain schema (creating schema reference o)
creating_plain schema reference None = λ h. refl
creating_plain schema reference (Some name) = or_all_plain schema (with_reference reference name)

create_plain : (schema : Set) (at : Place) (reference : Option Instance)
    → IsPlain schema (create_unit schema at reference)
create_plain schema (place.At at) reference = creating_plain schema reference (new_name at.named)
create_plain schema (place.Below superior) reference = creating_plain schema reference (short_name superior.named)
create_plain schema place.Free reference = creating_plain schema reference (Some [])

reads_plain : (schema : Set) (unit : LockName) → IsPlain schema (reads unit)
reads_plain schema unit = λ h. absurd (false≢true h)

pub whole_plain : (schema : Set) (asked : Request) → IsPlain schema (request_unit schema asked)
whole_plain schema (request.Get head ids) =
    head_plain schema (λ name. reads (in_scope_of head name)) head (λ base. reads_plain schema (in_scope_of head base))
whole_plain schema (request.Set head changes confirmed) =
    head_plain schema (λ name. or_all schema (in_scope_of head name)) head
    (λ base. or_all_plain schema (in_scope_of head base))
whole_plain schema (request.Act head action argument confirmed) =
    head_plain schema (λ name. or_all schema (in_scope_of head name)) head
    (λ base. or_all_plain schema (in_scope_of head base))
whole_plain schema (request.Create class at reference given) = create_plain schema at reference
whole_plain schema (request.Delete head) =
    head_plain schema (λ name. or_all schema (tree name)) head (λ base. or_all_plain schema (tree base))
whole_plain schema (request.Report class at kind time info confirmed) = by (short_name at.named)
  where
    by : (o : Option (List Rdn)) → IsPlain schema (option_map_or (λ name. reads (own name)) o nothing_named)
    by None = λ h. refl
    by (Some name) = reads_plain schema (own name)

-- where a way ends is above its unit
ended_front : (is_log : List Rdn → Bool) (front parts : List Rdn) (part : Part)
    → begins (ended_from is_log front parts part).name (front ++ parts) ≡ true
ended_front is_log front [] part = by (is_log front)
  where
    by : (b : Bool) → begins (if b then tree front else record { name = front; part = part }).name (front ++ []) ≡ true
    by true = begins_more front []
    by false = begins_more front []
ended_front is_log front (first ∷ others) part =
    by (ended_front is_log (front ++ first ∷ []) others part) (is_log front)
  where
    by : begins (ended_from is_log (front ++ first ∷ []) others part).name ((front ++ first ∷ []) ++ others) ≡ true
        → (b : Bool)
        → begins (if b then tree front else ended_from is_log (front ++ first ∷ []) others part).name
        (front ++ first ∷ others) ≡ true
    by again true = begins_more front (first ∷ others)
    by again false =
        subst (λ n. begins (ended_from is_log (front ++ first ∷ []) others part).name n ≡ true)
        (append_assoc front (first ∷ []) others) again

front_plain : (schema : Set) (front name : List Rdn) → begins front name ≡ true → is_control schema name ≡ false
    → is_control schema front ≡ false
front_plain schema [] name h plain = refl
front_plain schema (r ∷ rs) [] h plain = absurd (false≢true h)
front_plain schema (r ∷ rs) (a ∷ others) h plain =
    ap (is_control_part schema) ((rdn_Decides r a).0 (and_parts (is_same_rdn r a) (begins rs others) h).0) ∙ plain

-- a unit that is plain stays so where the path to it ends before
pub taken_plain : (schema : Set) (objects : List NamedObject) (whole : Wanted) → IsPlain schema whole
    → IsPlain schema (taken_on schema objects whole)
taken_plain schema objects whole plain writes_ =
    front_plain schema (taken_on schema objects whole).unit.name whole.unit.name
    (ended_front (is_log_at schema objects) [] whole.unit.name whole.unit.part) (plain writes_)

pub units_are_plain : UnitsArePlain
units_are_plain = λ schema. (λ asked. whole_plain schema asked, λ log. or_all_plain schema (tree log))
