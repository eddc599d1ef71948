-- One more place, or none.
use Rattle.std.proofs.Common.{◌++◌, ◌∷◌, [], Option, subst, sym}
use Rattle.std.specs.BTreeMap.{get}
use Rattle.std.specs.Ordering.{nat_cmp}
use Rattle.asn1_numbers.proofs.TargetLaws.{ok_by}
use Rattle.gdmo_identifiers.specs.declared.registrations.Registration.{Registration}
use Rattle.gdmo_identifiers.specs.Registrations.{TellsFirst}
use Rattle.gdmo_identifiers.proofs.RegistrationLaws.{first_more, first_past}
use Rattle.gdmo_identifiers.proofs.registrations.keep_maybe.Goals as goal

pub returns-in-Some : goal.returns-in-Some
returns-in-Some c = ok_by c.keep_first.result (λ updated xs t.
    subst (λ (own : Option Registration). TellsFirst (xs ++ own ∷ []) (get nat_cmp c.keep_first.new.table))
    (sym c.in-Some.is)
    (first_more xs c.in-Some.own (get nat_cmp c.args.table.now) (get nat_cmp c.keep_first.new.table) t updated))
    c.keep_first.ensures

pub returns-in-None : goal.returns-in-None
returns-in-None c = λ xs t.
    subst (λ (own : Option Registration). TellsFirst (xs ++ own ∷ []) (get nat_cmp c.args.table.now))
    (sym c.in-None.is) (first_past xs (get nat_cmp c.args.table.now) t)
