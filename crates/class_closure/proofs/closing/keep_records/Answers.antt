-- Each table of records is that of its call.
use Rattle.class_closure.proofs.MeantLaws.{meanings_known}
use Rattle.class_closure.proofs.closing.keep_records.Goals as goal

pub returns-clause-told : goal.returns-clause-told
returns-clause-told c = λ ms joined can unequal.
    let parts = joined.stated.are_parts in
    let stated = joined.stated.are_stated in
    let means = meanings_known ms c.args.parts.now c.args.joined.now.stated.now joined.stated can in
    record {
      classes_are = c.in_ok-into.ensures.told ms can.are_registered means.have_syntaxes means.have_values stated;
      joined = λ schema same. c.in_ok-into.ensures.joined ms schema can.are_registered means.have_syntaxes
          means.have_values
          can.have_own stated joined.properties unequal same;
      attributes_are = c.in_ok-into-2.ensures ms parts means.have_syntaxes;
      groups_are = c.in_ok-into-3.ensures can.are_registered;
      bindings_are = c.in_ok-into-4.ensures can.are_registered;
      actions_are = c.in_ok-into-5.ensures ms parts can.are_registered means.have_syntaxes;
      notifications_are = c.in_ok-into-6.ensures ms parts can.are_registered means.have_syntaxes;
    }
