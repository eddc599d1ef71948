-- What the seat with the journal knows behind each step of a call.
use Rattle.std.proofs.Common.{◌≡◌, [], ◌∷◌, ◌++◌, ap, ◌∙◌}
use Rattle.agent_model.specs.declared.entry.Entry.{Entry}
use Rattle.hall_seats.specs.declared.rule.View.{View}
use Rattle.hall_seats.specs.Rights.{given}
use Rattle.hall_seats.specs.Views.{taken_in, with_entry}

pub taken_list : (v w x : View) → x ≡ taken_in v w → x.list ≡ v.list
taken_list v w x is = ap (λ (z : View). z.list) is

pub taken_rights : (v w x : View) → v.rights ≡ [] → x ≡ taken_in v w → x.rights ≡ w.rights
taken_rights v w x none is = ap (λ (z : View). z.rights) is ∙ ap (λ rs. rs ++ w.rights) none

pub taken_mark : (v w x : View) → x ≡ taken_in v w → x.marked ≡ v.marked
taken_mark v w x is = ap (λ (z : View). z.marked) is

pub added_list : (v w x y : View) (e : Entry) → x ≡ taken_in v w → y ≡ with_entry x e → y.list ≡ v.list ++ e ∷ []
added_list v w x y e is more = ap (λ (z : View). z.list) more ∙ ap (λ l. l ++ e ∷ []) (taken_list v w x is)

pub added_rights : (v w x y : View) (e : Entry) → v.rights ≡ [] → x ≡ taken_in v w → y ≡ with_entry x e
    → y.rights ≡ given e ++ w.rights
added_rights v w x y e none is more =
    ap (λ (z : View). z.rights) more ∙ ap (λ rs. given e ++ rs) (taken_rights v w x none is)

pub added_mark : (v w x y : View) (e : Entry) → x ≡ taken_in v w → y ≡ with_entry x e → y.marked ≡ v.marked
added_mark v w x y e is more = ap (λ (z : View). z.marked) more ∙ taken_mark v w x is
