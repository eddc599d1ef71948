-- The attribute is there, and managers may modify it so.
use Rattle.std.proofs.Common.{rules, ◌≡◌, pos, false, true, None, Some, ap, subst, sym, ◌∙◌}
use Rattle.attribute_rules.specs.Places.{are_rising, place_of}
use Rattle.attribute_rules.proofs.PlaceLaws.{stands_nowhere}
use Rattle.term_model.specs.ClassAttributes.{syntax_of}
use Rattle.term_model.specs.Modifiable.{is_operator, modifiable}
use Rattle.term_model.specs.Modifications.{tried}
use Rattle.object_modifications.specs.Settling.{TellsModified}
use Rattle.object_modifications.proofs.SettlingLaws.{failed_so, on_ok, some_there}
use Rattle.object_modifications.proofs.TryingLaws.{tried_absent, tried_is, tried_misoperated, tried_unmodifiable}
use Rattle.object_modifications.proofs.TryingLaws.{tried_without}
use Rattle.object_modifications.proofs.settling.modify_named.Goals as goal

pub returns-in-None : goal.returns-in-None
returns-in-None c =
    let schema = c.args.schema.now in
    let before = c.args.made.now in
    let id = c.args.id.now in
    let slice : c.as_slice.result.now ≡ before.object.attrs = search rules in
    let nowhere : place_of before.object.attrs id ≡ None =
    ap (λ xs. place_of xs id) (sym slice)
    ∙ sym (c.in-None.ensures.place (λ seen. ap are_rising slice ∙ c.requires.made.0.is_seen.order seen)) in
    on_ok c.fail.result c.fail.ensures.noted
    (λ noted.
    failed_so schema c.args.seen.now c.args.change.now id (pos 5)
    (tried schema c.args.name.now before.object c.args.change.now id) before c.fail.new.made
    c.requires.made
    (tried_absent schema c.args.name.now before.object c.args.change.now id
    (stands_nowhere before.object.attrs id nowhere).none)
    c.fail.ensures.kept noted)

pub returns-then-not-is_operator : goal.returns-then-not-is_operator
returns-then-not-is_operator c =
    let schema = c.args.schema.now in
    let before = c.args.made.now in
    let id = c.args.id.now in
    let slice : c.as_slice.result.now ≡ before.object.attrs = search rules in
    let at : place_of before.object.attrs id ≡ Some c.in-Some.place =
    ap (λ xs. place_of xs id) (sym slice)
    ∙ sym (c.in-Some.ensures.place (λ seen. ap are_rising slice ∙ c.requires.made.0.is_seen.order seen)) in
    let there = some_there before.object.attrs id c.in-Some.place at in
    let o : is_operator c.args.change.now.operator ≡ false = search rules in
    on_ok c.fail-then-not-is_operator.result c.fail-then-not-is_operator.ensures.noted
    (λ noted.
    failed_so schema c.args.seen.now c.args.change.now id (pos 25)
    (tried schema c.args.name.now before.object c.args.change.now id) before c.fail-then-not-is_operator.new.made c.requires.made
    (tried_misoperated schema c.args.name.now before.object c.args.change.now id there.0 there.1 o)
    c.fail-then-not-is_operator.ensures.kept noted)

pub returns-in-None-modifiable : goal.returns-in-None-modifiable
returns-in-None-modifiable c =
    let schema = c.args.schema.now in
    let name = c.args.name.now in
    let before = c.args.made.now in
    let change = c.args.change.now in
    let id = c.args.id.now in
    let slice : c.as_slice.result.now ≡ before.object.attrs = search rules in
    let at : place_of before.object.attrs id ≡ Some c.in-Some.place =
    ap (λ xs. place_of xs id) (sym slice)
    ∙ sym (c.in-Some.ensures.place (λ seen. ap are_rising slice ∙ c.requires.made.0.is_seen.order seen)) in
    let there = some_there before.object.attrs id c.in-Some.place at in
    let o : is_operator change.operator ≡ true = search rules in
    let m : modifiable schema name before.object.class change.operator id ≡ None =
    search (rules, c.in-None-modifiable.ensures c.requires.made.0.is_seen.properties) in
    on_ok c.fail-in-None-modifiable.result c.fail-in-None-modifiable.ensures.noted
    (λ noted.
    failed_so schema c.args.seen.now change id (pos 24) (tried schema name before.object change id) before c.fail-in-None-modifiable.new.made c.requires.made
    (tried_unmodifiable schema name before.object change id there.0 there.1 o m)
    c.fail-in-None-modifiable.ensures.kept noted)

pub returns-in-Some-syntax_of : goal.returns-in-Some-syntax_of
returns-in-Some-syntax_of c =
    let schema = c.args.schema.now in
    let name = c.args.name.now in
    let before = c.args.made.now in
    let change = c.args.change.now in
    let id = c.args.id.now in
    let property = c.in-Some-modifiable.property.now in
    let syntax = c.in-Some-syntax_of.syntax.now in
    let slice : c.as_slice.result.now ≡ before.object.attrs = search rules in
    let at : place_of before.object.attrs id ≡ Some c.in-Some.place =
    ap (λ xs. place_of xs id) (sym slice)
    ∙ sym (c.in-Some.ensures.place (λ seen. ap are_rising slice ∙ c.requires.made.0.is_seen.order seen)) in
    let there = some_there before.object.attrs id c.in-Some.place at in
    let o : is_operator change.operator ≡ true = search rules in
    let m : modifiable schema name before.object.class change.operator id ≡ Some property =
    search (rules, c.in-Some-modifiable.ensures c.requires.made.0.is_seen.properties) in
    let s : syntax_of schema.attributes id ≡ Some syntax = sym c.in-Some-syntax_of.ensures in
    on_ok c.modify_at.result c.modify_at.ensures
    (λ tells.
    subst (TellsModified schema c.args.seen.now before c.modify_at.new.made change id)
    (sym (tried_is schema name before.object change id there.0 property syntax there.1 o m s))
    (tells there.0 there.1))

pub returns-in-None-syntax_of : goal.returns-in-None-syntax_of
returns-in-None-syntax_of c =
    let schema = c.args.schema.now in
    let name = c.args.name.now in
    let before = c.args.made.now in
    let change = c.args.change.now in
    let id = c.args.id.now in
    let property = c.in-Some-modifiable.property.now in
    let slice : c.as_slice.result.now ≡ before.object.attrs = search rules in
    let at : place_of before.object.attrs id ≡ Some c.in-Some.place =
    ap (λ xs. place_of xs id) (sym slice)
    ∙ sym (c.in-Some.ensures.place (λ seen. ap are_rising slice ∙ c.requires.made.0.is_seen.order seen)) in
    let there = some_there before.object.attrs id c.in-Some.place at in
    let o : is_operator change.operator ≡ true = search rules in
    let m : modifiable schema name before.object.class change.operator id ≡ Some property =
    search (rules, c.in-Some-modifiable.ensures c.requires.made.0.is_seen.properties) in
    let s : syntax_of schema.attributes id ≡ None = search rules in
    on_ok c.fail-in-None-syntax_of.result c.fail-in-None-syntax_of.ensures.noted
    (λ noted.
    failed_so schema c.args.seen.now change id (pos 6) (tried schema name before.object change id) before c.fail-in-None-syntax_of.new.made c.requires.made
    (tried_without schema name before.object change id there.0 property there.1 o m s)
    c.fail-in-None-syntax_of.ensures.kept noted)
