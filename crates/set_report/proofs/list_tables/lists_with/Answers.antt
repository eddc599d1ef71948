-- Each list is what the class inherits.
use Rattle.std.proofs.Common.{◌∙◌}
use Rattle.set_report.specs.declared.class_lists.Listed.TheVariants as listed
use Rattle.set_report.specs.ClassLists.{listed_in, unregistered_in}
use Rattle.set_report.specs.DoneLists.{ids_of, labels_of}
use Rattle.set_report.proofs.DoneLaws.{listed_is}
use Rattle.set_report.proofs.list_tables.lists_with.Goals as goal

pub returns : goal.returns
returns c =
    record {
      attributes =
          c.in_ok-listed_with.ensures
          ∙ listed_is c.args.records.now c.args.table.now (ids_of listed.Attributes) (listed_in listed.Attributes)
          c.args.class.now c.args.supers.now
          c.requires.done (λ class lists h. h.attributes) c.requires.all c.requires.supers;
      actions =
          c.in_ok-listed_with-2.ensures
          ∙ listed_is c.args.records.now c.args.table.now (ids_of listed.Actions) (listed_in listed.Actions)
          c.args.class.now c.args.supers.now
          c.requires.done (λ class lists h. h.actions) c.requires.all c.requires.supers;
      notifications =
          c.in_ok-listed_with-3.ensures
          ∙ listed_is c.args.records.now c.args.table.now (ids_of listed.Notifications) (listed_in listed.Notifications)
          c.args.class.now c.args.supers.now
          c.requires.done (λ class lists h. h.notifications) c.requires.all c.requires.supers;
      packages =
          c.in_ok-listed_with-4.ensures
          ∙ listed_is c.args.records.now c.args.table.now (ids_of listed.Packages) (listed_in listed.Packages)
          c.args.class.now c.args.supers.now
          c.requires.done (λ class lists h. h.packages) c.requires.all c.requires.supers;
      unregistered =
          c.in_ok-unregistered_with.ensures
          ∙ listed_is c.args.records.now c.args.table.now labels_of unregistered_in c.args.class.now c.args.supers.now
          c.requires.done (λ class lists h. h.unregistered) c.requires.all c.requires.supers;
    }
