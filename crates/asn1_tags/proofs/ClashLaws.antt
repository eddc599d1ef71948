-- ClashLaws: a further member shares a tag with one of those that stand together with it (X.680, sections 25.6, 27.3
-- and 29.3).
use Rattle.std.proofs.Common.{◌≡◌, ◌⊎◌, ◌||◌, ◌&&◌, ◌==◌, ◌+◌, ◌<◌, ◌≤◌, ℕ, List, [], ◌∷◌, Bool, true, false, sym, ap}
use Rattle.std.proofs.Common.{◌∙◌, suc, inl, inr, subst, length, arith, true≢false}
use Rattle.std.specs.Prelude.{not}
use Rattle.std.proofs.lemmas.Bool.{and_parts, cases_lt, ne_eqb}
use Rattle.std.specs.List.{list_any}
use Rattle.term_values.specs.Beginnings.{is_one_of}
use Rattle.term_values.specs.Tag.{is_same_tag}
use Rattle.term_values.specs.UniversalTags.{boolean}
use Rattle.term_values.specs.declared.tag.Tag.{Tag}
use Rattle.asn1_tags.specs.declared.tag_runs.Run.{Run}
use Rattle.asn1_tags.specs.declared.tag_sets.TagSet.{TagSet}
use Rattle.asn1_tags.specs.GatheredTags.{has_tag}
use Rattle.asn1_tags.specs.TagRuns.{begins_some, seen}
use Rattle.asn1_tags.proofs.TagLaws.{or_cases, or_first, or_second, same_itself, same_tags}

-- ---- tests of lists of tags

-- a tag passes a test
record Passes (tags : List Tag) (test : Tag → Bool) : Type 0 where
  tag : Tag
  among : is_one_of tags tag ≡ true
  passes : test tag ≡ true

passes_behind : (x : Tag) (tags : List Tag) (test : Tag → Bool) → Passes tags test → Passes (x ∷ tags) test
passes_behind x tags test found = record {
  tag = found.tag;
  among = or_second (is_same_tag x found.tag) (is_one_of tags found.tag) found.among;
  passes = found.passes;
}

any_passes : (tags : List Tag) (test : Tag → Bool) → list_any test tags ≡ true → Passes tags test
any_passes [] test e = absurd (true≢false (sym e))
any_passes (x ∷ tags) test e = by (any_passes tags test) (or_cases (test x) (list_any test tags) e)
  where
    by : (list_any test tags ≡ true → Passes tags test) → (test x ≡ true) ⊎ (list_any test tags ≡ true) →
        Passes (x ∷ tags) test
    by rest (inl h) = record {
      tag = x;
      among = or_first (is_same_tag x x) (is_one_of tags x) (same_itself x);
      passes = h;
    }
    by rest (inr h) = passes_behind x tags test (rest h)

passes_any : (tags : List Tag) (test : Tag → Bool) (tag : Tag) → is_one_of tags tag ≡ true → test tag ≡ true →
    list_any test tags ≡ true
passes_any [] test tag among h = absurd (true≢false (sym among))
passes_any (x ∷ tags) test tag among h =
    by (λ e. passes_any tags test tag e h) (or_cases (is_same_tag x tag) (is_one_of tags tag) among)
  where
    by : (is_one_of tags tag ≡ true → list_any test tags ≡ true) →
        (is_same_tag x tag ≡ true) ⊎ (is_one_of tags tag ≡ true) → list_any test (x ∷ tags) ≡ true
    by rest (inl e) = or_first (test x) (list_any test tags) (ap test (same_tags x tag e) ∙ h)
    by rest (inr e) = or_second (test x) (list_any test tags) (rest e)

-- ---- a type that begins with some tag

some_listed : (tags : List Tag) → not (length tags == 0) ≡ true → (tag : Tag) × (is_one_of tags tag ≡ true)
some_listed [] e = absurd (true≢false (sym e))
some_listed (x ∷ tags) e = (x, or_first (is_same_tag x x) (is_one_of tags x) (same_itself x))

some_tag : (set : TagSet) → begins_some set ≡ true → (tag : Tag) × (has_tag set tag ≡ true)
some_tag set e = by (or_cases set.any (not (length set.tags.items == 0)) e)
  where
    by : (set.any ≡ true) ⊎ (not (length set.tags.items == 0) ≡ true) → (tag : Tag) × (has_tag set tag ≡ true)
    by (inl h) = (boolean, or_first set.any (is_one_of set.tags.items boolean) h)
    by (inr h) = let found = some_listed set.tags.items h in
        (found.0, or_second set.any (is_one_of set.tags.items found.0) found.1)

listed_some : (tags : List Tag) (tag : Tag) → is_one_of tags tag ≡ true → not (length tags == 0) ≡ true
listed_some [] tag e = absurd (true≢false (sym e))
listed_some (x ∷ tags) tag e = ap not (ne_eqb (suc (length tags)) 0 (λ h. omega (arith, h)))

tag_some : (set : TagSet) (tag : Tag) → has_tag set tag ≡ true → begins_some set ≡ true
tag_some set tag e = by (or_cases set.any (is_one_of set.tags.items tag) e)
  where
    by : (set.any ≡ true) ⊎ (is_one_of set.tags.items tag ≡ true) → begins_some set ≡ true
    by (inl h) = or_first set.any (not (length set.tags.items == 0)) h
    by (inr h) = or_second set.any (not (length set.tags.items == 0)) (listed_some set.tags.items tag h)

-- ---- members that stand together

-- of the members from one place up to another one begins with the tag
pub record SomeAt (Starts : ℕ → Tag → Type 0) (low high : ℕ) (tag : Tag) : Type 0 where
  pub place : ℕ
  pub from : low ≤ place
  pub before : place < high
  pub starts : Starts place tag

-- one begins with each tag
pub record AnyAt (Starts : ℕ → Tag → Type 0) (low high : ℕ) : Type 0 where
  pub place : ℕ
  pub from : low ≤ place
  pub before : place < high
  pub starts : (tag : Tag) → Starts place tag

-- the run has the tags of the members from one place up to another
pub record IsRun (Starts : ℕ → Tag → Type 0) (low high : ℕ) (run : Run) : Type 0 where
  pub any : run.any ≡ true → AnyAt Starts low high
  pub some : run.some ≡ true → (tag : Tag) × SomeAt Starts low high tag
  pub tags : (tag : Tag) → seen run tag ≡ true → SomeAt Starts low high tag
  pub is_some : (tag : Tag) → SomeAt Starts low high tag → run.some ≡ true
  pub is_seen : (tag : Tag) → SomeAt Starts low high tag → (run.any ≡ true) ⊎ (seen run tag ≡ true)

-- the set has the tags of the member
pub record IsOf (Starts : ℕ → Tag → Type 0) (place : ℕ) (set : TagSet) : Type 0 where
  pub has : (tag : Tag) → Starts place tag → has_tag set tag ≡ true
  pub starts : (tag : Tag) → has_tag set tag ≡ true → Starts place tag

-- the member behind them shares a tag with one of them
pub record Meets (Starts : ℕ → Tag → Type 0) (low high : ℕ) : Type 0 where
  pub tag : Tag
  pub earlier : SomeAt Starts low high tag
  pub later : Starts high tag

nothing_between : (low place : ℕ) → low ≤ place → place < low → ⊥
nothing_between low place e f = omega (arith, e, f)

pub no_run : {Starts : ℕ → Tag → Type 0} {low : ℕ} (run : Run) → run.any ≡ false → run.some ≡ false →
    ((tag : Tag) → seen run tag ≡ false) → IsRun Starts low low run
no_run {low = low} run any some tags = record {
  any = λ e. absurd (true≢false (sym e ∙ any));
  some = λ e. absurd (true≢false (sym e ∙ some));
  tags = λ tag e. absurd (true≢false (sym e ∙ tags tag));
  is_some = λ tag one. absurd (nothing_between low one.place one.from one.before);
  is_seen = λ tag one. absurd (nothing_between low one.place one.from one.before);
}

-- ---- what is told of a further member

abbrev pub told_of : Run → TagSet → Bool
told_of run set =
    (run.any && begins_some set) || ((set.any && run.some) || list_any (seen run) set.tags.items)

meets_by : {Starts : ℕ → Tag → Type 0} {low high : ℕ} (run : Run) (set : TagSet) → IsRun Starts low high run →
    IsOf Starts high set → ((run.any && begins_some set) ≡ true) ⊎ (((set.any && run.some) ≡ true) ⊎
    (list_any (seen run) set.tags.items ≡ true)) → Meets Starts low high
meets_by run set is of (inl e) = let parts = and_parts run.any (begins_some set) e in
    let one = is.any parts.0 in let found = some_tag set parts.1 in record {
      tag = found.0;
      earlier = record { place = one.place; from = one.from; before = one.before; starts = one.starts found.0 };
      later = of.starts found.0 found.1;
    }
meets_by run set is of (inr (inl e)) = let parts = and_parts set.any run.some e in
    let found = is.some parts.1 in record {
      tag = found.0;
      earlier = found.1;
      later = of.starts found.0 (or_first set.any (is_one_of set.tags.items found.0) parts.0);
    }
meets_by run set is of (inr (inr e)) = let found = any_passes set.tags.items (seen run) e in record {
  tag = found.tag;
  earlier = is.tags found.tag found.passes;
  later = of.starts found.tag (or_second set.any (is_one_of set.tags.items found.tag) found.among);
}

second_cases : {P : Type 0} (a b : Bool) → P ⊎ ((a || b) ≡ true) → P ⊎ ((a ≡ true) ⊎ (b ≡ true))
second_cases a b (inl p) = inl p
second_cases a b (inr e) = inr (or_cases a b e)

pub told_meets : {Starts : ℕ → Tag → Type 0} {low high : ℕ} (run : Run) (set : TagSet) (told : Bool) →
    IsRun Starts low high run → IsOf Starts high set → told ≡ told_of run set → told ≡ true → Meets Starts low high
told_meets run set told is of e h = meets_by run set is of (second_cases (set.any && run.some)
    (list_any (seen run) set.tags.items) (or_cases (run.any && begins_some set)
    ((set.any && run.some) || list_any (seen run) set.tags.items) (sym e ∙ h)))

both_true : (a b : Bool) → a ≡ true → b ≡ true → (a && b) ≡ true
both_true a b e f = ap (λ z. z && b) e ∙ f

told_by : (run : Run) (set : TagSet) (tag : Tag) → begins_some set ≡ true → run.some ≡ true →
    (run.any ≡ true) ⊎ (seen run tag ≡ true) → (set.any ≡ true) ⊎ (is_one_of set.tags.items tag ≡ true) →
    told_of run set ≡ true
told_by run set tag some others (inl h) in_set = or_first (run.any && begins_some set)
    ((set.any && run.some) || list_any (seen run) set.tags.items) (both_true run.any (begins_some set) h some)
told_by run set tag some others (inr h) (inl g) = or_second (run.any && begins_some set)
    ((set.any && run.some) || list_any (seen run) set.tags.items)
    (or_first (set.any && run.some) (list_any (seen run) set.tags.items) (both_true set.any run.some g others))
told_by run set tag some others (inr h) (inr g) = or_second (run.any && begins_some set)
    ((set.any && run.some) || list_any (seen run) set.tags.items)
    (or_second (set.any && run.some) (list_any (seen run) set.tags.items)
    (passes_any set.tags.items (seen run) tag g h))

pub meets_told : {Starts : ℕ → Tag → Type 0} {low high : ℕ} (run : Run) (set : TagSet) (told : Bool) →
    IsRun Starts low high run → IsOf Starts high set → told ≡ told_of run set → Meets Starts low high → told ≡ true
meets_told run set told is of e meets = let has = of.has meets.tag meets.later in
    e ∙ told_by run set meets.tag (tag_some set meets.tag has) (is.is_some meets.tag meets.earlier)
    (is.is_seen meets.tag meets.earlier) (or_cases set.any (is_one_of set.tags.items meets.tag) has)

-- ---- the further member is one of them

wider : {Starts : ℕ → Tag → Type 0} {low high : ℕ} {tag : Tag} → SomeAt Starts low high tag →
    SomeAt Starts low (high + 1) tag
wider one = record { place = one.place; from = one.from; before = omega (arith, one.before); starts = one.starts }

here : {Starts : ℕ → Tag → Type 0} {low high : ℕ} {tag : Tag} → low ≤ high → Starts high tag →
    SomeAt Starts low (high + 1) tag
here {high = high} from starts = record { place = high; from = from; before = omega arith; starts = starts }

-- below or at a place
pub last_or : (k n : ℕ) → k < n + 1 → (k < n) ⊎ (k ≡ n)
last_or k n e = by (cases_lt k n)
  where
    by : (k < n) ⊎ (n ≤ k) → (k < n) ⊎ (k ≡ n)
    by (inl h) = inl h
    by (inr h) = inr (omega (arith, e, h))

split : {Starts : ℕ → Tag → Type 0} {low high : ℕ} {tag : Tag} (one : SomeAt Starts low (high + 1) tag) →
    (one.place < high) ⊎ (one.place ≡ high) → SomeAt Starts low high tag ⊎ Starts high tag
split one (inl e) = inl (record { place = one.place; from = one.from; before = e; starts = one.starts })
split {Starts = Starts} {tag = tag} one (inr e) = inr (subst (λ k. Starts k tag) e one.starts)

-- a run with one member more
pub record Grows (before after : Run) (set : TagSet) : Type 0 where
  pub any : after.any ≡ (before.any || set.any)
  pub some : after.some ≡ (before.some || begins_some set)
  pub tags : (tag : Tag) → seen after tag ≡ (seen before tag || is_one_of set.tags.items tag)

grown_any : {Starts : ℕ → Tag → Type 0} {low high : ℕ} (before : Run) (set : TagSet) → low ≤ high →
    IsRun Starts low high before → IsOf Starts high set → (before.any ≡ true) ⊎ (set.any ≡ true) →
    AnyAt Starts low (high + 1)
grown_any before set from is of (inl e) = let one = is.any e in
    record { place = one.place; from = one.from; before = omega (arith, one.before); starts = one.starts }
grown_any {high = high} before set from is of (inr e) = record {
  place = high;
  from = from;
  before = omega arith;
  starts = λ tag. of.starts tag (or_first set.any (is_one_of set.tags.items tag) e);
}

grown_some : {Starts : ℕ → Tag → Type 0} {low high : ℕ} (before : Run) (set : TagSet) → low ≤ high →
    IsRun Starts low high before → IsOf Starts high set → (before.some ≡ true) ⊎ (begins_some set ≡ true) →
    (tag : Tag) × SomeAt Starts low (high + 1) tag
grown_some before set from is of (inl e) = let found = is.some e in (found.0, wider found.1)
grown_some before set from is of (inr e) = let found = some_tag set e in
    (found.0, here from (of.starts found.0 found.1))

grown_tags : {Starts : ℕ → Tag → Type 0} {low high : ℕ} (before : Run) (set : TagSet) (tag : Tag) → low ≤ high →
    IsRun Starts low high before → IsOf Starts high set →
    (seen before tag ≡ true) ⊎ (is_one_of set.tags.items tag ≡ true) → SomeAt Starts low (high + 1) tag
grown_tags before set tag from is of (inl e) = wider (is.tags tag e)
grown_tags before set tag from is of (inr e) =
    here from (of.starts tag (or_second set.any (is_one_of set.tags.items tag) e))

some_grown : {Starts : ℕ → Tag → Type 0} {low high : ℕ} (before after : Run) (set : TagSet) (tag : Tag) →
    IsRun Starts low high before → IsOf Starts high set → Grows before after set →
    SomeAt Starts low high tag ⊎ Starts high tag → after.some ≡ true
some_grown before after set tag is of grows (inl one) =
    grows.some ∙ or_first before.some (begins_some set) (is.is_some tag one)
some_grown before after set tag is of grows (inr starts) =
    grows.some ∙ or_second before.some (begins_some set) (tag_some set tag (of.has tag starts))

seen_grown : (before after : Run) (set : TagSet) (tag : Tag) →
    Grows before after set →
    ((before.any ≡ true) ⊎ (seen before tag ≡ true)) ⊎ ((set.any ≡ true) ⊎ (is_one_of set.tags.items tag ≡ true)) →
    (after.any ≡ true) ⊎ (seen after tag ≡ true)
seen_grown before after set tag grows (inl (inl e)) = inl (grows.any ∙ or_first before.any set.any e)
seen_grown before after set tag grows (inl (inr e)) =
    inr (grows.tags tag ∙ or_first (seen before tag) (is_one_of set.tags.items tag) e)
seen_grown before after set tag grows (inr (inl e)) = inl (grows.any ∙ or_second before.any set.any e)
seen_grown before after set tag grows (inr (inr e)) =
    inr (grows.tags tag ∙ or_second (seen before tag) (is_one_of set.tags.items tag) e)

ways : {Starts : ℕ → Tag → Type 0} {low high : ℕ} (before : Run) (set : TagSet) (tag : Tag) →
    IsRun Starts low high before → IsOf Starts high set → SomeAt Starts low high tag ⊎ Starts high tag →
    ((before.any ≡ true) ⊎ (seen before tag ≡ true)) ⊎ ((set.any ≡ true) ⊎ (is_one_of set.tags.items tag ≡ true))
ways before set tag is of (inl one) = inl (is.is_seen tag one)
ways before set tag is of (inr starts) =
    inr (or_cases set.any (is_one_of set.tags.items tag) (of.has tag starts))

pub run_grows : {Starts : ℕ → Tag → Type 0} {low high : ℕ} (before after : Run) (set : TagSet) → low ≤ high →
    IsRun Starts low high before → IsOf Starts high set → Grows before after set → IsRun Starts low (high + 1) after
run_grows {high = high} before after set from is of grows = record {
  any = λ e. grown_any before set from is of (or_cases before.any set.any (sym grows.any ∙ e));
  some = λ e. grown_some before set from is of (or_cases before.some (begins_some set) (sym grows.some ∙ e));
  tags = λ tag e. grown_tags before set tag from is of
      (or_cases (seen before tag) (is_one_of set.tags.items tag) (sym (grows.tags tag) ∙ e));
  is_some = λ tag one. some_grown before after set tag is of grows (split one (last_or one.place high one.before));
  is_seen = λ tag one. seen_grown before after set tag grows
      (ways before set tag is of (split one (last_or one.place high one.before)));
}
