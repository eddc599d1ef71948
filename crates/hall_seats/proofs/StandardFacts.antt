-- Examples of rights, computed from the definitions: of two associations, of which the first one is closed.
use Rattle.std.proofs.Common.{◌≡◌, true, List, [], ◌∷◌, refl, inl, inr}
use Rattle.agent_model.specs.declared.entry.Entry.{Entry}
use Rattle.agent_model.specs.declared.entry.Entry.TheVariants as entry
use Rattle.agent_model.specs.declared.entry.Why.TheVariants as why
use Rattle.hall_seats.specs.declared.right.Right.TheVariants as right
use Rattle.hall_seats.specs.Rights.{admissions, arriving, given_by, is_opened, own, taking}
use Rattle.hall_seats.specs.Passes.{MayAdd}

abbrev journal : List Entry
journal =
    entry.Opened 1 (0x30 ∷ []) ∷ entry.Arrived 1 (0x01 ∷ []) ∷ entry.Opened 2 (0x30 ∷ []) ∷ entry.Granted 1 0 ∷
    entry.Committed 1 ∷ entry.Taken 1 12 ∷ entry.Finished 1 ∷ entry.Closed 1 why.End ∷ []

arrived : own (right.Arriving 1) journal ≡ entry.Arrived 1 (0x01 ∷ []) ∷ entry.Finished 1 ∷ []
arrived = refl

taken : own (right.Taking 1) journal ≡ entry.Taken 1 12 ∷ []
taken = refl

closed : own (right.Closing 1) journal ≡ entry.Closed 1 why.End ∷ []
closed = refl

nothing_of_the_second : own (right.Arriving 2) journal ≡ []
nothing_of_the_second = refl

two_admissions : admissions journal ≡ 2
two_admissions = refl

rights_of_both : given_by journal
    ≡ right.Arriving 2 ∷ right.Taking 2 ∷ right.Arriving 1 ∷ right.Taking 1 ∷ []
rights_of_both = refl

arriving_of_both : arriving (given_by journal) ≡ right.Arriving 2 ∷ right.Arriving 1 ∷ []
arriving_of_both = refl

taking_of_both : taking (given_by journal) ≡ right.Taking 2 ∷ right.Taking 1 ∷ []
taking_of_both = refl

third_is_not_opened : MayAdd [] journal (entry.Opened 3 [])
third_is_not_opened = refl

second_is_opened : is_opened 2 journal ≡ true
second_is_opened = refl

either_closes : MayAdd (right.Taking 2 ∷ []) journal (entry.Closed 2 why.ReadFault)
either_closes = inr (inl refl)
