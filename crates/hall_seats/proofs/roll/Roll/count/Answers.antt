use Rattle.std.proofs.Common.{◌≡◌, List, [], ◌∷◌, ◌++◌, sym, ap, subst, ◌∙◌, arith}
use Rattle.atomic_table.specs.Table.{Me}
use Rattle.agent_model.specs.declared.entry.Entry.{Entry}
use Rattle.hall_seats.specs.declared.rule.View.{View}
use Rattle.hall_seats.specs.Rights.{Distinct, Has, admissions, given, own}
use Rattle.hall_seats.specs.Passes.{Grew, Known, MayAdd}
use Rattle.hall_seats.specs.Rule.{IsFresh}
use Rattle.hall_seats.proofs.PassLaws.{fresh_given, once_given}
use Rattle.hall_seats.proofs.RightLaws.{admissions-append}
use Rattle.hall_seats.proofs.RollLaws.{added_list, added_mark, added_rights}
use Rattle.hall_seats.proofs.SeenLaws.{grew_counted}
use Rattle.hall_seats.proofs.roll.Roll.count.Goals as goal

pub invariant_of-self : goal.invariant_of-self
invariant_of-self g c =
    let v = c.self.inside.seat.me.0 in
    let w = c.pass.inside.seat.me.0 in
    let x = c.gather-found.new.seat.me.0 in
    let y = c.add.new.seat.me.0 in
    let e = c.args.entry.now in
    let is = c.gather-found.ensures.view in
    let more = c.add.ensures.view in
    let last = c.release.ensures.view in
    let list : c.release.new.seat.me.0.list ≡ v.list ++ e ∷ [] =
    ap (λ (z : View). z.list) last ∙ added_list v w x y e is more in (
      c.self.invariant.0,
      c.self.invariant.1,
      c.release.ensures.table.0 ∙ (c.add.ensures.table ∙ (c.gather-found.ensures.table ∙ c.self.invariant.2)),
      ap (λ (z : View). z.marked) last ∙ (added_mark v w x y e is more ∙ c.self.invariant.3),
      ap (λ (z : View). z.rights) last,
      omega (
        arith,
        c.add-2.ensures.total,
        c.admissions_of.ensures,
        c.self.invariant.5,
        admissions-append v.list (e ∷ []),
        ap admissions list,
      ),
    )

pub returns-clause-grew : goal.returns-clause-grew
returns-clause-grew g c =
    let v = c.self.inside.seat.me.0 in
    let w = c.pass.inside.seat.me.0 in
    let x = c.gather-found.new.seat.me.0 in
    let y = c.add.new.seat.me.0 in
    let e = c.args.entry.now in
    let is = c.gather-found.ensures.view in
    let more = c.add.ensures.view in
    let share = c.pass.inside.share in
    let free = c.release.ensures.free in
    let p : Known = record { list = w.list; rights = w.rights; parts = share.parts; admissions = share.amount } in
    let q : Known = record {
      list = c.release.result.me.0.list;
      rights = c.release.result.me.0.rights;
      parts = c.add-2.new.share.parts;
      admissions = c.add-2.new.share.amount;
    } in
    subst (λ (k : Known). Grew k q (e ∷ [])) c.pass.view_is (grew_counted v.list p q e
    c.gather-found.ensures.told.sees
    (ap (λ (m : Me Entry View). m.0.list) free ∙ added_list v w x y e is more)
    (ap (λ (m : Me Entry View). m.0.rights) free ∙ added_rights v w x y e c.self.invariant.4 is more)
    c.add-2.ensures.parts
    (omega (arith, c.add-2.ensures.amount, c.admissions_of.ensures)))

pub returns-clause-fresh : goal.returns-clause-fresh
returns-clause-fresh g c =
    let v = c.self.inside.seat.me.0 in
    let w = c.pass.inside.seat.me.0 in
    let e = c.args.entry.now in
    let journal = c.args.self.now in
    let list : c.release.result.me.0.list ≡ journal ++ e ∷ [] =
    ap (λ (m : Me Entry View). m.0.list) c.release.ensures.free
    ∙ (added_list v w c.gather-found.new.seat.me.0 c.add.new.seat.me.0 e c.gather-found.ensures.view
    c.add.ensures.view
    ∙ ap (λ (l : List Entry). l ++ e ∷ []) c.self.view_is) in
    λ r h. ap (own r) list
    ∙ fresh_given c.args.pass.now.rights journal e c.requires.may
    (subst IsFresh c.self.view_is c.gather-found.ensures.told.fresh) r h

pub returns-clause-once : goal.returns-clause-once
returns-clause-once g c =
    let v = c.self.inside.seat.me.0 in
    let w = c.pass.inside.seat.me.0 in
    let e = c.args.entry.now in
    let none : v.rights ++ w.rights ≡ w.rights = ap (λ rs. rs ++ w.rights) c.self.invariant.4 in
    let told = c.gather-found.ensures.told in
    let may : MayAdd w.rights v.list e = subst (λ l. MayAdd w.rights l e) (sym c.self.view_is)
    (subst (λ (k : Known). MayAdd k.rights c.args.self.now e) (sym c.pass.view_is) c.requires.may) in
    let rights : c.release.result.me.0.rights ≡ given e ++ w.rights =
    ap (λ (m : Me Entry View). m.0.rights) c.release.ensures.free
    ∙ added_rights v w c.gather-found.new.seat.me.0 c.add.new.seat.me.0 e c.self.invariant.4
    c.gather-found.ensures.view c.add.ensures.view in
    subst Distinct (sym rights) (once_given w.rights v.list e may (subst Distinct none told.once)
    (λ r h. told.opened r (subst (λ rs. Has rs r) (sym none) h)))
