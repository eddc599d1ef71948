-- An entry more, and all of them.
use Rattle.std.proofs.Common.{◌≡◌, ◌++◌, ◌∷◌, [], ℕ, map, sym, ap, subst, ◌∙◌}
use Rattle.std.proofs.lemmas.List.{append_assoc, append-nil, map-append}
use Rattle.std.specs.Prelude.{All}
use Rattle.std.specs.Map.{keys_of}
use Rattle.std.specs.Map.Iter.{deref_pair}
use Rattle.joined_statements.specs.declared.joined.Joined.{Joined}
use Rattle.term_model.specs.declared.packages.Property.{Property}
use Rattle.linked_types.specs.PartIdentifiers.{AreEach}
use Rattle.schema_records.specs.PropertyRecords.{IsJoinedProperty}
use Rattle.schema_records.specs.RegisteredParts.{IsAttributePlace}
use Rattle.schema_records.proofs.EachLaws.{each_none, each_pushed}
use Rattle.schema_records.proofs.PlaceLaws.{key_within}
use Rattle.schema_records.proofs.property_records.joined_properties.Goals as goal

pub loop-attribute-preserved : goal.loop-attribute-preserved
loop-attribute-preserved c =
    let parts = c.args.parts.now in
    let done = map deref_pair c.loop-attribute.yielded in
    let a = c.in-Some.attribute.now in
    let joined = c.in-Some.joined.now in
    let rest = c.next.new.self in
    let split = map-append deref_pair c.loop-attribute.yielded ((c.in-Some.attribute, c.in-Some.joined) ∷ []) in
    let whole : done ++ (a, joined) ∷ rest ≡ c.args.attributes.now.entries =
    ap (λ xs. done ++ xs) (sym c.in-Some.ensures.steps) ∙ c.loop-attribute.invariant.0 in (
      ap (λ xs. xs ++ rest) split ∙ append_assoc done ((a, joined) ∷ []) rest ∙ whole,
      λ registered.
          let there = key_within (IsAttributePlace parts.linked.now) done rest a joined
          (subst (λ xs. All (IsAttributePlace parts.linked.now) (keys_of xs)) (sym whole) registered) in
          let added = c.in_ok-push_property.ensures there in
          subst (λ xs. AreEach (λ (entry : ℕ × Joined) (x : Property). IsJoinedProperty parts.linked.now
          parts.table.now parts.values.now entry.0 entry.1 x) xs c.push_property.new.items.items) (sym split)
          (each_pushed (λ (entry : ℕ × Joined) (x : Property). IsJoinedProperty parts.linked.now parts.table.now
          parts.values.now entry.0 entry.1 x) done (a, joined) c.loop-attribute.items.items
          c.push_property.new.items.items (c.loop-attribute.invariant.1 registered)
          (record { x = added.x; behind = added.behind; is = added.is })),
    )

pub returns : goal.returns
returns c = λ registered.
    let parts = c.args.parts.now in
    let done = map deref_pair c.loop-attribute.yielded in
    let all : done ≡ c.args.attributes.now.entries =
    sym (append-nil done) ∙ ap (λ xs. done ++ xs) (sym c.in-None.ensures.steps.0) ∙ c.loop-attribute.invariant.0 in
    record {
      rise = c.iter-attribute-items.ensures.ordered;
      are = subst (λ xs. AreEach (λ (entry : ℕ × Joined) (x : Property). IsJoinedProperty parts.linked.now
          parts.table.now parts.values.now entry.0 entry.1 x) xs c.loop-attribute.items.items) all
          (c.loop-attribute.invariant.1 registered);
    }
