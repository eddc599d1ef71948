use Rattle.std.proofs.Common.{◌∙◌, ◌+◌, ◌-◌, ◌/◌, ap, sym, subst, refl, arith}
use Rattle.std.specs.Arc.{arc_value}
use Rattle.term_model.specs.declared.objects.NamedObject.{NamedObject}
use Rattle.mo_list.specs.Places.{is_past}
use Rattle.mo_list.proofs.CutLaws.{closed_past}
use Rattle.mo_list.proofs.PlaceLaws.{Entry, IsSearched, searched_behind, searched_in_front}
use Rattle.mo_list.proofs.places.cut_at.Goals as goal

pub search-preserved-then-is_past : goal.search-preserved-then-is_past
search-preserved-then-is_past g c =
    let entries = c.args.entries.now in
    let name = c.args.name.now in
    let middle = c.search.low + (c.search.high - c.search.low) / 2 in
    let there = c.deref.ensures ∙ ap (λ (e : Entry). arc_value e) c.index-entries-middle.is in
    subst (λ n. IsSearched (is_past c.args.below name) entries c.args.steps.now (middle + 1) c.search.high n) (sym c.visit.ensures)
    (searched_behind (is_past c.args.below name) (closed_past c.args.below name) entries c.args.steps.now c.search.low c.search.high c.search.steps middle _ c.requires
    c.search.invariant (omega arith) refl
    (ap (λ (o : NamedObject). is_past c.args.below name o.name) (sym there) ∙ sym c.is_past.ensures
    ∙ c.if-is_past.true))

pub search-preserved : goal.search-preserved
search-preserved g c =
    let entries = c.args.entries.now in
    let name = c.args.name.now in
    let middle = c.search.low + (c.search.high - c.search.low) / 2 in
    let there = c.deref.ensures ∙ ap (λ (e : Entry). arc_value e) c.index-entries-middle.is in
    subst (λ n. IsSearched (is_past c.args.below name) entries c.args.steps.now c.search.low middle n) (sym c.visit.ensures)
    (searched_in_front (is_past c.args.below name) (closed_past c.args.below name) entries c.args.steps.now c.search.low c.search.high c.search.steps middle _ c.requires
    c.search.invariant (omega arith) refl
    (ap (λ (o : NamedObject). is_past c.args.below name o.name) (sym there) ∙ sym c.is_past.ensures
    ∙ c.if-is_past.false))
