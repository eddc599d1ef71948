-- Lists of classes that were made before: what the direct superclasses of a class have is found there, and no class
-- above them is looked at again.
use Rattle.std.specs.Prelude.{◌≡◌, ℕ, List, [], Bool, Some}
use Rattle.std.specs.BTreeMap.{BTreeMap, get}
use Rattle.std.specs.Cmp.Lexicographic.{slice_cmp}
use Rattle.std.specs.Option.{is_some, option_map_or}
use Rattle.std.specs.Ordering.{nat_cmp}
use Rattle.term_model.specs.declared.schema.ClassRec.{ClassRec}
use Rattle.set_report.specs.declared.class_lists.ClassLists.{ClassLists}
use Rattle.set_report.specs.declared.class_lists.Listed.{Listed}
use Rattle.set_report.specs.declared.class_lists.Listed.TheVariants as listed
use Rattle.set_report.specs.HasLists.{HasLists}

-- the list of a kind
abbrev pub ids_of : Listed → ClassLists → List (List ℕ)
ids_of listed.Attributes lists = lists.attributes.items
ids_of listed.Actions lists = lists.actions.items
ids_of listed.Notifications lists = lists.notifications.items
ids_of listed.Packages lists = lists.packages.items

abbrev pub labels_of : ClassLists → List (List ℕ)
labels_of lists = lists.unregistered.items

-- the lists of a class were made
abbrev pub is_done : BTreeMap (List ℕ) ClassLists → List ℕ → Bool
is_done table class = is_some (get (slice_cmp nat_cmp) table class)

-- what they have
abbrev pub done_by : BTreeMap (List ℕ) ClassLists → (ClassLists → List (List ℕ)) → List ℕ → List (List ℕ)
done_by table of_lists class = option_map_or of_lists (get (slice_cmp nat_cmp) table class) []

-- each list in a table is that of its class
abbrev pub AreDone : List ClassRec → BTreeMap (List ℕ) ClassLists → Type 0
AreDone records table =
    (class : List ℕ) (lists : ClassLists) → get (slice_cmp nat_cmp) table class ≡ Some lists
    → HasLists records class lists
