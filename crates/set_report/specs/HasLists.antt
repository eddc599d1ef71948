-- What a class has, as it is listed for its text: X.722, sections 5.2 and 8.3.
use Rattle.std.specs.Prelude.{◌≡◌, ℕ, List}
use Rattle.term_model.specs.declared.schema.ClassRec.{ClassRec}
use Rattle.set_report.specs.declared.class_lists.ClassLists.{ClassLists}
use Rattle.set_report.specs.declared.class_lists.Listed.TheVariants as listed
use Rattle.set_report.specs.ClassLists.{inherited, listed_in, unregistered_in}

-- these are the lists of the class with an identifier
pub record HasLists (records : List ClassRec) (class : List ℕ) (lists : ClassLists) : Type 0 where
  pub attributes : lists.attributes.items ≡ inherited records (listed_in listed.Attributes) class
  pub actions : lists.actions.items ≡ inherited records (listed_in listed.Actions) class
  pub notifications : lists.notifications.items ≡ inherited records (listed_in listed.Notifications) class
  pub packages : lists.packages.items ≡ inherited records (listed_in listed.Packages) class
  pub unregistered : lists.unregistered.items ≡ inherited records unregistered_in class
