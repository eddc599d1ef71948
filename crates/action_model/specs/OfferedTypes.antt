-- Which actions and notifications an object has: those of its packages, as its attributes are (X.722, sections 8.4, 8.10
-- and 8.11). The relations are `HasAction` and `HasNotification` of term_model.
use Rattle.std.specs.Prelude.{ℕ, List, Bool, Option, None, find, if◌then◌else◌}
use Rattle.std.specs.List.{list_any}
use Rattle.term_model.specs.declared.actions.ActRec.{ActRec}
use Rattle.term_model.specs.declared.actions.NoteRec.{NoteRec}
use Rattle.term_model.specs.declared.object.Object.{Object}
use Rattle.term_model.specs.declared.packages.PackageRec.{PackageRec}
use Rattle.term_model.specs.declared.request.IdRef.{IdRef}
use Rattle.term_model.specs.declared.request.IdRef.TheVariants as ids
use Rattle.term_model.specs.declared.schema.Set.{Set}
use Rattle.term_model.specs.Comparing.{is_same_oid}
use Rattle.term_model.specs.PresentPackages.{is_among, packages_of}

-- the records with these identifiers
abbrev pub action_record : List ActRec → List ℕ → Option ActRec
action_record records id = find (λ (of_action : ActRec). is_same_oid of_action.id id) records

abbrev pub notification_record : List NoteRec → List ℕ → Option NoteRec
notification_record records id = find (λ (of_notification : NoteRec). is_same_oid of_notification.id id) records

-- a package of the object has the action, or the notification
abbrev pub has_action : Set → Object → List ℕ → Bool
has_action schema object id =
    list_any (λ (of_package : PackageRec). is_among of_package.actions id)
    (packages_of schema object.class object.chosen)

abbrev pub has_notification : Set → Object → List ℕ → Bool
has_notification schema object id =
    list_any (λ (of_package : PackageRec). is_among of_package.notifications id)
    (packages_of schema object.class object.chosen)

-- the action of the object that a request names; a number of the manager's own names none
abbrev pub action_named : Set → Object → IdRef → Option ActRec
action_named schema object (ids.Global id) =
    if has_action schema object id then action_record schema.actions id else None
action_named schema object (ids.Local number) = None

-- and the notification
abbrev pub notification_named : Set → Object → IdRef → Option NoteRec
notification_named schema object (ids.Global id) =
    if has_notification schema object id then notification_record schema.notifications id else None
notification_named schema object (ids.Local number) = None
