-- OrderedFacts: the facts of all assigned types, as they are found one after another (docs/PROFILE.md, section 11).
use Rattle.std.proofs.Common.{◌≡◌, ◌⊎◌, ◌+◌, ◌<◌, ◌≤◌, ℕ, zero, suc, List, [], ◌∷◌, Bool, true, false, Option, Some}
use Rattle.std.proofs.Common.{refl, sym}
use Rattle.std.proofs.Common.{ap, ◌∙◌, inl, inr, subst, length, arith}
use Rattle.asn1_tags.specs.ToldFacts.{TellsNodes}
use Rattle.std.specs.Prelude.{◌↔◌, IsTrue, slice_get, unwrap_or}
use Rattle.std.proofs.Common.{get_or}
use Rattle.std.proofs.lemmas.Bool.{cases_Bool}
use Rattle.std.proofs.lemmas.Option.{slice_get-get_or, slice_get_within}
use Rattle.asn1_names.specs.AssignmentNumbers.{Numbered, all_numbered, assignment_count, numbered_at}
use Rattle.asn1_names.specs.CodeMeanings.{IsTypeOf}
use Rattle.asn1_names.specs.ModuleTerms.{ModuleTerm, TypeTerm}
use Rattle.asn1_names.specs.Occurrences.{type_assigned}
use Rattle.asn1_tags.specs.declared.tag_sets.TagSet.{TagSet}
use Rattle.asn1_tags.specs.DraftFacts.{AreCounted, AreFacts, CountsType, KnowsPlain, FindsType, GathersType, IsDraft}
use Rattle.asn1_tags.specs.declared.fact_finding.Draft.{Draft}
use Rattle.asn1_numbers.specs.NumberedTypes.{IsBehindNamed, IsCyclicNumber, MarkCyclic}
use Rattle.asn1_tags.specs.GatheredTags.{AreTagsKnown, KnowsTags}
use Rattle.asn1_tags.specs.KnownFacts.{AreKnown, HasCount, KnowsNodes, is_marked}
use Rattle.asn1_tags.proofs.AmbiguityLaws.{number_within}
use Rattle.asn1_tags.proofs.ClashLaws.{last_or}
use Rattle.asn1_tags.proofs.CountLaws.{told_at}
use Rattle.asn1_tags.proofs.NamedTypes.{marked, unmarked}

-- ---- one type after another

pub finds_type : {ms : List ModuleTerm} {marks : List Bool} {number : ℕ} (before after : Draft) (told : ℕ) →
    CountsType ms marks number before.nodes.items after.nodes.items →
    GathersType ms marks number told before.sources.items after.sources.items before.sets.items after.sets.items →
    told ≡ unwrap_or (slice_get after.nodes.items number) 0 → FindsType ms marks number before after
finds_type {ms = ms} {number = number} before after told counts gathers e = record {
  nodes_size = counts.size;
  sources_size = gathers.size;
  other_nodes = λ other apart known. (known.0, counts.others other apart ∙ known.1, known.2);
  other_tags = λ other apart known. record {
    set = known.set;
    found = gathers.others other known.set apart known.found;
    tells = known.tells;
  };
  nodes_found = λ m of is unless within known. counts.counted m of is within known;
  tags_found = λ m of is unless within also nodes_known known.
      let counted = counts.counted m of is within nodes_known in
      gathers.gathered m of is also known (subst (HasCount ms m of)
      (sym (told_at (slice_get after.nodes.items number) counted.0 told e counted.1)) (counted.2 m of is));
}

pub finds_none : {ms : List ModuleTerm} {marks : List Bool} {number : ℕ} (draft : Draft) →
    is_marked marks number ≡ true → FindsType ms marks number draft draft
finds_none {number = number} draft e = record {
  nodes_size = refl;
  sources_size = refl;
  other_nodes = λ other apart known. known;
  other_tags = λ other apart known. known;
  nodes_found = λ m of is unless within known. absurd (unless (marked number known.marked e));
  tags_found = λ m of is unless within also nodes_known known. absurd (unless (marked number known.marked e));
}

has_numbered : (xs : List Numbered) (number : ℕ) → number < length xs → (x : Numbered) × (slice_get xs number ≡ Some x)
has_numbered [] number within = absurd (omega (arith, within))
has_numbered (x ∷ xs) zero within = (x, refl)
has_numbered (x ∷ xs) (suc number) within = has_numbered xs number (omega (arith, within))

-- an assignment has a type
record HasType (ms : List ModuleTerm) (number : ℕ) : Type 0 where
  m : ℕ
  of : TypeTerm
  is : IsTypeOf ms number m of

numbered_within : (ms : List ModuleTerm) (number : ℕ) → number < assignment_count ms →
    (x : Numbered) × (numbered_at ms number ≡ Some x)
unfolding numbered_at assignment_count
numbered_within ms number within = has_numbered (all_numbered 0 ms) number within

has_type : (ms : List ModuleTerm) (number : ℕ) → number < assignment_count ms → HasType ms number
has_type ms number within = let found = numbered_within ms number within in record {
  m = found.0.in_module;
  of = type_assigned found.0.assignment.assigned;
  is = record { numbered = found.0; at = found.1; module_is = refl; is = refl };
}

same_number : (found : Option ℕ) (x y : ℕ) → found ≡ Some x → found ≡ Some y → x ≡ y
same_number found x y e f = cc

pub no_draft : {ms : List ModuleTerm} (order : List ℕ) (draft : Draft) →
    length draft.nodes.items ≡ assignment_count ms → length draft.sources.items ≡ assignment_count ms →
    IsDraft ms order 0 draft
no_draft order draft nodes sources = record {
  nodes_size = nodes;
  sources_size = sources;
  nodes_known = λ k number within at unless. absurd (below_none k within);
  tags_known = λ k number within at unless. absurd (below_none k within);
}
  where
    below_none : (k : ℕ) → k < 0 → ⊥
    below_none k e = omega (arith, e)

other_number : {ms : List ModuleTerm} {order : List ℕ} (i k number other : ℕ) → IsBehindNamed ms order → k < i →
    slice_get order k ≡ Some other → slice_get order i ≡ Some number → other ≡ number → ⊥
other_number {order = order} i k number other behind within at here e =
    below_itself k i within (behind.once k i number (at ∙ ap Some e) here)
  where
    below_itself : (k i : ℕ) → k < i → k ≡ i → ⊥
    below_itself k i f g = omega (arith, f, g)

-- what is known of the types that the one at a place of the order names
known_at : {ms : List ModuleTerm} {marks : List Bool} {order : List ℕ} {i number : ℕ} {Knows : ℕ → Type 0}
    (here : HasType ms number) → MarkCyclic ms marks → IsBehindNamed ms order → slice_get order i ≡ Some number →
    ¬ IsCyclicNumber ms number →
    ((k other : ℕ) → k < i → slice_get order k ≡ Some other → ¬ IsCyclicNumber ms other → Knows other) →
    AreKnown Knows ms marks here.m here.of
known_at {i = i} {number = number} here marks behind at unless knows = record {
  marked = marks;
  each = λ named names not_cyclic.
      let before = behind.behind i number named at unless
      (record { m = here.m; of = here.of; is = here.is; names = names }) in
      knows before.0 named before.1 before.2 not_cyclic;
}

nodes_more : {ms : List ModuleTerm} {marks : List Bool} {order : List ℕ} {i number : ℕ} {before after : Draft}
    (k other : ℕ) → MarkCyclic ms marks → IsBehindNamed ms order → slice_get order i ≡ Some number →
    IsDraft ms order i before → FindsType ms marks number before after → (k < i) ⊎ (k ≡ i) →
    slice_get order k ≡ Some other → ¬ IsCyclicNumber ms other → KnowsNodes ms after.nodes.items other
nodes_more {i = i} {number = number} k other marks behind here draft finds (inl within) at unless =
    finds.other_nodes other (other_number i k number other behind within at here)
    (draft.nodes_known k other within at unless)
nodes_more {ms = ms} {order = order} {i = i} {number = number} {after = after} k other marks behind here draft finds
    (inr e) at unless =
    let same = same_number (slice_get order k) number other (ap (slice_get order) e ∙ here) at in
    let is_plain : ¬ IsCyclicNumber ms number = λ cyclic. unless (subst (IsCyclicNumber ms) same cyclic) in
    let its = has_type ms number (behind.numbers i number here) in
    subst (KnowsNodes ms after.nodes.items) same (finds.nodes_found its.m its.of its.is is_plain
    (subst (λ n. number < n) (sym draft.nodes_size) (behind.numbers i number here))
    (known_at its marks behind here is_plain draft.nodes_known))

tags_more : {ms : List ModuleTerm} {marks : List Bool} {order : List ℕ} {i number : ℕ} {before after : Draft}
    (k other : ℕ) → MarkCyclic ms marks → IsBehindNamed ms order → slice_get order i ≡ Some number →
    IsDraft ms order i before → FindsType ms marks number before after → (k < i) ⊎ (k ≡ i) →
    slice_get order k ≡ Some other → ¬ IsCyclicNumber ms other →
    KnowsTags ms after.sources.items after.sets.items other
tags_more {i = i} {number = number} k other marks behind here draft finds (inl within) at unless =
    finds.other_tags other (other_number i k number other behind within at here)
    (draft.tags_known k other within at unless)
tags_more {ms = ms} {order = order} {i = i} {number = number} {after = after} k other marks behind here draft finds
    (inr e) at unless =
    let same = same_number (slice_get order k) number other (ap (slice_get order) e ∙ here) at in
    let is_plain : ¬ IsCyclicNumber ms number = λ cyclic. unless (subst (IsCyclicNumber ms) same cyclic) in
    let its = has_type ms number (behind.numbers i number here) in
    subst (KnowsTags ms after.sources.items after.sets.items) same (finds.tags_found its.m its.of its.is is_plain
    (subst (λ n. number < n) (sym draft.nodes_size) (behind.numbers i number here))
    (subst (λ n. number < n) (sym draft.sources_size) (behind.numbers i number here))
    (known_at its marks behind here is_plain draft.nodes_known)
    (known_at its marks behind here is_plain draft.tags_known))

pub draft_more : {ms : List ModuleTerm} {marks : List Bool} (order : List ℕ) (i d : ℕ) (before after : Draft) →
    MarkCyclic ms marks → IsBehindNamed ms order → i < length order → IsDraft ms order i before →
    FindsType ms marks (get_or order i d) before after → IsDraft ms order (i + 1) after
draft_more order i d before after marks behind within draft finds = let here = slice_get-get_or order i d within in
    record {
      nodes_size = finds.nodes_size ∙ draft.nodes_size;
      sources_size = finds.sources_size ∙ draft.sources_size;
      nodes_known = λ k number below at unless. nodes_more k number marks behind here draft finds (last_or k i below) at
          unless;
      tags_known = λ k number below at unless. tags_more k number marks behind here draft finds (last_or k i below) at
          unless;
    }

-- ---- all types

pub plain_known : {ms : List ModuleTerm} (order : List ℕ) (place : ℕ) (draft : Draft) → IsBehindNamed ms order →
    length order ≤ place → IsDraft ms order place draft → KnowsPlain ms draft.nodes.items
plain_known order place draft behind past is = λ number within unless. let at = behind.every number within in
    is.nodes_known at.0 number (under at.0 (slice_get_within order at.0 number at.1)) at.1 unless
  where
    under : (k : ℕ) → k < length order → k < place
    under k e = omega (arith, e, past)

pub tags_known : {ms : List ModuleTerm} {marks : List Bool} (order : List ℕ) (place : ℕ) (draft : Draft) →
    MarkCyclic ms marks → IsBehindNamed ms order → length order ≤ place → IsDraft ms order place draft →
    AreTagsKnown ms marks draft.sources.items draft.sets.items
tags_known order place draft marks behind past is = record {
  marked = marks;
  each = λ number within unless. let at = behind.every number within in
      is.tags_known at.0 number (under at.0 (slice_get_within order at.0 number at.1)) at.1 unless;
}
  where
    under : (k : ℕ) → k < length order → k < place
    under k e = omega (arith, e, past)

-- ---- types that contain themselves

pub none_counted : {ms : List ModuleTerm} (nodes : List ℕ) → length nodes ≡ assignment_count ms → KnowsPlain ms nodes →
    AreCounted ms 0 nodes
none_counted nodes size plain = record {
  size = size;
  plain = plain;
  before = λ number below within. absurd (below_none number below);
}
  where
    below_none : (k : ℕ) → k < 0 → ⊥
    below_none k e = omega (arith, e)

plain_named : {ms : List ModuleTerm} {marks : List Bool} {m : ℕ} {of : TypeTerm} (nodes : List ℕ) → MarkCyclic ms
    marks →
    KnowsPlain ms nodes → AreKnown (KnowsNodes ms nodes) ms marks m of
plain_named {ms = ms} nodes marks plain = record {
  marked = marks;
  each = λ number names unless. plain number (number_within ms number names.numbered names.at) unless;
}

counted_other : {ms : List ModuleTerm} {marks : List Bool} {number other : ℕ} {before after : List ℕ} →
    CountsType ms marks number before after → (other ≡ number → ⊥) → KnowsNodes ms before other →
    KnowsNodes ms after other
counted_other {other = other} counts apart known = (known.0, counts.others other apart ∙ known.1, known.2)

counted_before : {ms : List ModuleTerm} {marks : List Bool} {before after : List ℕ} (i number : ℕ) →
    MarkCyclic ms marks → AreCounted ms i before → CountsType ms marks i before after → (number < i) ⊎ (number ≡ i) →
    number < assignment_count ms → KnowsNodes ms after number
counted_before i number marks counted counts (inl below) within =
    counted_other counts (apart below) (counted.before number below within)
  where
    apart : number < i → number ≡ i → ⊥
    apart e f = omega (arith, e, f)
counted_before {ms = ms} {before = before} {after = after} i number marks counted counts (inr e) within =
    let its = has_type ms i (subst (λ n. n < assignment_count ms) e within) in
    subst (KnowsNodes ms after) (sym e) (counts.counted its.m its.of its.is
    (subst (λ n. i < n) (sym counted.size) (subst (λ n. n < assignment_count ms) e within))
    (plain_named before marks counted.plain))

-- a type that contains itself
marked_counted : {ms : List ModuleTerm} {marks : List Bool} (i : ℕ) (before after : List ℕ) → MarkCyclic ms marks →
    AreCounted ms i before → is_marked marks i ≡ true → CountsType ms marks i before after →
    AreCounted ms (i + 1) after
marked_counted {ms = ms} i before after marks counted e counts = record {
  size = counts.size ∙ counted.size;
  plain = λ number within unless. counted_other counts
      (λ same. unless (subst (IsCyclicNumber ms) (sym same) (marked i marks e))) (counted.plain number within unless);
  before = λ number below within. counted_before i number marks counted counts (last_or number i below) within;
}

plain_before : {ms : List ModuleTerm} (i number : ℕ) (nodes : List ℕ) → ¬ IsCyclicNumber ms i → AreCounted ms i nodes →
    (number < i) ⊎ (number ≡ i) → number < assignment_count ms → KnowsNodes ms nodes number
plain_before i number nodes unless counted (inl below) within = counted.before number below within
plain_before {ms = ms} i number nodes unless counted (inr e) within =
    counted.plain number within (λ cyclic. unless (subst (IsCyclicNumber ms) e cyclic))

-- a type that doesn't
unmarked_counted : {ms : List ModuleTerm} {marks : List Bool} (i : ℕ) (nodes : List ℕ) → MarkCyclic ms marks →
    AreCounted ms i nodes → is_marked marks i ≡ false → AreCounted ms (i + 1) nodes
unmarked_counted i nodes marks counted e = record {
  size = counted.size;
  plain = counted.plain;
  before = λ number below within.
      plain_before i number nodes (unmarked i marks e) counted (last_or number i below) within;
}

pub one_counted : {ms : List ModuleTerm} {marks : List Bool} (i : ℕ) (before after : List ℕ) → MarkCyclic ms marks →
    AreCounted ms i before → (is_marked marks i ≡ true → CountsType ms marks i before after) →
    (is_marked marks i ≡ false → after ≡ before) → AreCounted ms (i + 1) after
one_counted {ms = ms} {marks = marks} i before after are counted counts stays = by (cases_Bool (is_marked marks i))
  where
    by : (is_marked marks i ≡ true) ⊎ (is_marked marks i ≡ false) → AreCounted ms (i + 1) after
    by (inl e) = marked_counted i before after are counted e (counts e)
    by (inr e) = subst (AreCounted ms (i + 1)) (sym (stays e)) (unmarked_counted i before are counted e)

pub draft_end : {ms : List ModuleTerm} (order : List ℕ) (place : ℕ) (draft : Draft) → length order ≤ place →
    IsDraft ms order place draft → IsDraft ms order (length order) draft
draft_end order place draft past is = record {
  nodes_size = is.nodes_size;
  sources_size = is.sources_size;
  nodes_known = λ k number within at unless. is.nodes_known k number (under k within) at unless;
  tags_known = λ k number within at unless. is.tags_known k number (under k within) at unless;
}
  where
    under : (k : ℕ) → k < length order → k < place
    under k e = omega (arith, e, past)

-- ---- all facts

same_size : (n : ℕ) → n ≤ n
same_size n = omega arith

pub are_facts : {ms : List ModuleTerm} {marks : List Bool} (order : List ℕ) (draft : Draft) (nodes : List ℕ) →
    MarkCyclic ms marks → IsBehindNamed ms order → IsDraft ms order (length order) draft →
    (AreCounted ms 0 draft.nodes.items → AreCounted ms (assignment_count ms) nodes) →
    AreFacts ms marks nodes draft.sources.items draft.sets.items
are_facts order draft nodes marks behind is counts =
    let counted = counts (none_counted draft.nodes.items is.nodes_size
    (plain_known order (length order) draft behind (same_size (length order)) is)) in record {
      nodes_known = λ number within. counted.before number within within;
      tags_known = tags_known order (length order) draft marks behind (same_size (length order)) is;
    }

-- ---- what is told of a number

number_of : {ms : List ModuleTerm} {number m : ℕ} {of : TypeTerm} → IsTypeOf ms number m of →
    number < assignment_count ms
number_of {ms = ms} {number = number} is = number_within ms number is.numbered is.at

pub nodes_are_told : {ms : List ModuleTerm} {marks : List Bool} {nodes sources : List ℕ} {sets : List TagSet}
    (number told : ℕ) → AreFacts ms marks nodes sources sets → told ≡ unwrap_or (slice_get nodes number) 0 →
    TellsNodes ms number told
nodes_are_told {ms = ms} {nodes = nodes} number told facts e = λ m of is.
    let known = facts.nodes_known number (number_of is) in
    subst (HasCount ms m of) (sym (told_at (slice_get nodes number) known.0 told e known.1)) (known.2 m of is)

found_true : (found : Option Bool) → found ≡ Some true → unwrap_or found false ≡ true
found_true found e = cc

pub cyclic_is_told : {ms : List ModuleTerm} {marks : List Bool} {nodes sources : List ℕ} {sets : List TagSet}
    (number : ℕ) (told : Bool) → AreFacts ms marks nodes sources sets → told ≡ is_marked marks number →
    IsTrue told ↔ IsCyclicNumber ms number
cyclic_is_told {marks = marks} number told facts e = (
  λ h. marked number facts.tags_known.marked (sym e ∙ h),
  λ cyclic. e ∙ found_true (slice_get marks number) (facts.tags_known.marked.marked number cyclic),
)
