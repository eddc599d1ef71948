-- Before the first modification: the object is weighed.
use Rattle.std.proofs.Common.{◌≡◌, ◌≤◌, ℕ, true, List, length, replicate, sym, ap, subst, ◌∙◌}
use Rattle.std.proofs.lemmas.Bool.{le-leb}
use Rattle.term_values.specs.Lengths.{counted}
use Rattle.term_model.specs.declared.object.Object.{Object}
use Rattle.term_model.specs.declared.schema.Set.{Set}
use Rattle.term_model.specs.BoundClasses.{is_bound_log, object_size}
use Rattle.attribute_rules.specs.Weights.{is_within, weights}
use Rattle.attribute_rules.proofs.WeightLaws.{counted_small, counted_within, within_by_weights}
use Rattle.term_model.specs.declared.name.Rdn.{Rdn}
use Rattle.term_model.specs.declared.request.Change.{Change}
use Rattle.term_model.specs.Modifications.{Modified, modified, unmodified}
use Rattle.object_modifications.specs.declared.settling.Modified.{Modified as Kept}
use Rattle.object_modifications.specs.Settling.{made_of}
use Rattle.object_modifications.specs.declared.seen_once.Seen.{Seen}
use Rattle.object_modifications.specs.declared.knowing.Knowledge.TheVariants.{Untried}
use Rattle.object_modifications.specs.Knowing.{AreKnown}
use Rattle.object_modifications.specs.Trying.{IsMade, IsSeen, IsWeighed}
use Rattle.object_modifications.proofs.KnowingLaws.{known_untried}

pub weighed : (schema : Set) (object : Object) (seen : Seen) (size : ℕ) → IsSeen schema object seen
    → size ≡ counted (weights schema.attributes seen.bound object.attrs) → object_size schema object ≤ 16384
    → IsWeighed schema seen object size
weighed schema object seen size is sum small =
    let octets : ℕ = weights schema.attributes seen.bound object.attrs in
    let same : octets ≡ weights schema.attributes (is_bound_log schema object.class) object.attrs =
    ap (λ b. weights schema.attributes b object.attrs) is.class in
    let whole : is_within octets ≡ true =
    sym (within_by_weights schema object octets same) ∙ le-leb (object_size schema object) 16384 small in
    let within : is_within size ≡ true = sym (counted_within octets size sum) ∙ whole in
    record { is_seen = is; sum = counted_small octets size sum within; small = within }

-- so is the object from which they are made, of which nothing is known yet
pub begun_made : (schema : Set) (object : Object) (seen : Seen) (size : ℕ) (made : Kept)
    → made_of made ≡ unmodified object → made.size ≡ size
    → made.knowledge.items ≡ replicate (length object.attrs) Untried → IsWeighed schema seen object size
    → IsMade schema seen made.object made.size made.knowledge.items
begun_made schema object seen size made begun same none start =
    let here : made.object ≡ object = ap (λ (m : Modified). m.object) begun in (
      subst (λ (o : Object). IsWeighed schema seen o made.size) (sym here)
          (subst (λ (n : ℕ). IsWeighed schema seen object n) (sym same) start),
      subst (AreKnown schema made.object.class made.object.attrs) (sym none)
          (known_untried schema made.object.class made.object.attrs (length object.attrs)),
    )

-- from there the modifications are made
pub made_all : (schema : Set) (name given : List Rdn) (object : Object) (made : Kept) (changes : List Change)
    (after : Modified) → given ≡ name → made_of made ≡ unmodified object
    → after ≡ modified schema given (made_of made) changes → after ≡ modified schema name (unmodified object) changes
made_all schema name given object made changes after same begun makes =
    makes ∙ ap (λ (m : Modified). modified schema given m changes) begun
    ∙ ap (λ n. modified schema n (unmodified object) changes) same
