-- ShareLaws: whether members of a type share tags of which these must decide, as they are passed one by one (X.680,
-- sections 25.6, 27.3 and 29.3).
use Rattle.std.proofs.Common.{◌≡◌, ◌⊎◌, ◌+◌, ◌<◌, ◌≤◌, ℕ, List, [], ◌∷◌, Bool, true, false, refl, sym, ap, ◌∙◌}
use Rattle.std.proofs.Common.{inl, inr, subst, length, map, arith, true≢false}
use Rattle.std.proofs.lemmas.Bool.{cases_lt}
use Rattle.term_values.specs.declared.tag.Tag.{Tag}
use Rattle.asn1_names.specs.Containment.{IsMember}
use Rattle.asn1_names.specs.Containment.IsMember.{first, behind}
use Rattle.asn1_names.specs.ModuleTerms.{MemberTerms, ModuleTerm, PresenceTerm, TypeTerm}
use Rattle.asn1_names.specs.TagClashes.{MayMiss, RunShares, TwoShare, may_be_absent}
use Rattle.asn1_names.specs.TypeTags.{Begins}
use Rattle.asn1_tags.specs.declared.tag_runs.Run.{Run}
use Rattle.asn1_tags.specs.declared.tag_sets.TagSet.{TagSet}
use Rattle.asn1_tags.specs.GatheredTags.{HasTags}
use Rattle.asn1_tags.specs.MemberRows.{MemberRow, members}
use Rattle.asn1_tags.specs.TagRuns.{GoesOn, seen}
use Rattle.asn1_tags.proofs.BeginLaws.{no_member}
use Rattle.asn1_tags.proofs.ClashLaws.{Grows, IsOf, IsRun, Meets, last_or, meets_told, no_run, run_grows}
use Rattle.asn1_tags.proofs.ClashLaws.{told_meets, told_of}

-- the member at a place begins with the tag
pub record StartsAt (ms : List ModuleTerm) (m : ℕ) (rows : MemberTerms) (k : ℕ) (tag : Tag) : Type 0 where
  pub of : TypeTerm
  pub presence : PresenceTerm
  pub member : IsMember rows k of presence
  pub begins : Begins ms m of tag

one_member : {k : ℕ} {of other : TypeTerm} {presence second : PresenceTerm} {rows : MemberTerms} →
    IsMember rows k of presence → IsMember rows k other second → (of ≡ other) × (presence ≡ second)
one_member first first = (refl, refl)
one_member (behind x) (behind y) = one_member x y

pub is_of : {ms : List ModuleTerm} {m i : ℕ} {rows : MemberTerms} (of : TypeTerm) (presence : PresenceTerm)
    (set : TagSet) → IsMember rows i of presence → HasTags ms m of set → IsOf (StartsAt ms m rows) i set
is_of {ms = ms} {m = m} of presence set member has = record {
  has = λ tag start. has.begun tag (subst (λ x. Begins ms m x tag) (one_member start.member member).0 start.begins);
  starts = λ tag h. record { of = of; presence = presence; member = member; begins = has.only tag h };
}

member_within : {X : Type 0} {k : ℕ} {of : TypeTerm} {presence : PresenceTerm} (f : X → MemberRow) (xs : List X) →
    IsMember (members (map f xs)) k of presence → k < length xs
member_within f [] is = absurd (no_member is)
member_within f (x ∷ xs) first = omega arith
member_within f (x ∷ xs) (behind is) = omega (arith, member_within f xs is)

-- ---- two of the members

-- of the members before a place no two share a tag
pub record AreApart (ms : List ModuleTerm) (m : ℕ) (rows : MemberTerms) (i : ℕ) (run : Run) : Type 0 where
  pub run_is : IsRun (StartsAt ms m rows) 0 i run
  pub none_shares : (earlier later : ℕ) (tag : Tag) → earlier < later → later < i → StartsAt ms m rows earlier tag →
      StartsAt ms m rows later tag → ⊥

below_nothing : (n : ℕ) → n < 0 → ⊥
below_nothing n e = omega (arith, e)

pub apart_first : {ms : List ModuleTerm} {m : ℕ} (rows : MemberTerms) (run : Run) → run.any ≡ false →
    run.some ≡ false → ((tag : Tag) → seen run tag ≡ false) → AreApart ms m rows 0 run
apart_first rows run any some tags = record {
  run_is = no_run run any some tags;
  none_shares = λ earlier later tag rising within one other. below_nothing later within;
}

pub apart_found : {ms : List ModuleTerm} {m i : ℕ} {rows : MemberTerms} (run : Run) (of : TypeTerm)
    (presence : PresenceTerm) (set : TagSet) (told : Bool) → AreApart ms m rows i run →
    IsMember rows i of presence → HasTags ms m of set → told ≡ told_of run set → told ≡ true → TwoShare ms m rows
apart_found {i = i} run of presence set told apart member has e h =
    let meets = told_meets run set told apart.run_is (is_of of presence set member has) e h in record {
      earlier = meets.earlier.place;
      later = i;
      rising = meets.earlier.before;
      one = meets.earlier.starts.of;
      one_presence = meets.earlier.starts.presence;
      is_one = meets.earlier.starts.member;
      other = meets.later.of;
      other_presence = meets.later.presence;
      is_other = meets.later.member;
      share = record {
        tag = meets.tag;
        begins_one = meets.earlier.starts.begins;
        begins_other = meets.later.begins;
      };
    }

none_more : {ms : List ModuleTerm} {m i : ℕ} {rows : MemberTerms} (run : Run) (earlier later : ℕ) (tag : Tag) →
    AreApart ms m rows i run → (Meets (StartsAt ms m rows) 0 i → ⊥) → earlier < later →
    (later < i) ⊎ (later ≡ i) → StartsAt ms m rows earlier tag → StartsAt ms m rows later tag → ⊥
none_more run earlier later tag apart none rising (inl within) one other =
    apart.none_shares earlier later tag rising within one other
none_more {ms = ms} {m = m} {i = i} {rows = rows} run earlier later tag apart none rising (inr e) one other = none
    (record {
      tag = tag;
      earlier = record {
        place = earlier;
        from = omega arith;
        before = subst (λ k. earlier < k) e rising;
        starts = one;
      };
      later = subst (λ k. StartsAt ms m rows k tag) e other;
    })

pub apart_more : {ms : List ModuleTerm} {m i : ℕ} {rows : MemberTerms} (run after : Run) (of : TypeTerm)
    (presence : PresenceTerm) (set : TagSet) (told : Bool) → AreApart ms m rows i run →
    IsMember rows i of presence → HasTags ms m of set → told ≡ told_of run set → told ≡ false →
    Grows run after set → AreApart ms m rows (i + 1) after
apart_more {i = i} run after of presence set told apart member has e h grows =
    let its = is_of of presence set member has in record {
      run_is = run_grows run after set (omega arith) apart.run_is its grows;
      none_shares = λ earlier later tag rising within one other. none_more run earlier later tag apart
          (λ meets. true≢false (sym (meets_told run set told apart.run_is its e meets) ∙ h)) rising
          (last_or later i within) one other;
    }

pub apart_last : {X : Type 0} {ms : List ModuleTerm} {m : ℕ} (f : X → MemberRow) (xs : List X) (i : ℕ) (run : Run) →
    AreApart ms m (members (map f xs)) i run → length xs ≤ i → TwoShare ms m (members (map f xs)) → ⊥
apart_last f xs i run apart past two = apart.none_shares two.earlier two.later two.share.tag two.rising
    (within two.later i (member_within f xs two.is_other) past)
    (record {
      of = two.one;
      presence = two.one_presence;
      member = two.is_one;
      begins = two.share.begins_one;
    }) (record {
      of = two.other;
      presence = two.other_presence;
      member = two.is_other;
      begins = two.share.begins_other;
    })
  where
    within : (k i : ℕ) → k < length xs → length xs ≤ i → k < i
    within k i e f = omega (arith, e, f)

-- ---- optional runs

-- all members from one place up to another may be missing
abbrev pub AllMiss : MemberTerms → ℕ → ℕ → Type 0
AllMiss rows low high = (k : ℕ) → low ≤ k → k < high → MayMiss rows k

-- of the members before a place no two share a tag of which it must decide; those from `low` on stand together with the
-- one at the place, and none before these does
pub record AreRunsApart (ms : List ModuleTerm) (m : ℕ) (rows : MemberTerms) (i : ℕ) (run : Run) : Type 0 where
  pub low : ℕ
  pub from : low ≤ i
  pub run_is : IsRun (StartsAt ms m rows) low i run
  pub miss : AllMiss rows low i
  pub start : (k : ℕ) → k < low → AllMiss rows k low → ⊥
  pub none_shares : (earlier later : ℕ) (tag : Tag) → earlier < later → later < i → AllMiss rows earlier later →
      StartsAt ms m rows earlier tag → StartsAt ms m rows later tag → ⊥

pub runs_first : {ms : List ModuleTerm} {m : ℕ} (rows : MemberTerms) (run : Run) → run.any ≡ false →
    run.some ≡ false → ((tag : Tag) → seen run tag ≡ false) → AreRunsApart ms m rows 0 run
runs_first rows run any some tags = record {
  low = 0;
  from = omega arith;
  run_is = no_run run any some tags;
  miss = λ k from within. absurd (below_nothing k within);
  start = λ k within all. below_nothing k within;
  none_shares = λ earlier later tag rising within all one other. below_nothing later within;
}

between : (a b c : ℕ) → a ≤ b → b < c → a ≤ c
between a b c e f = omega (arith, e, f)

pub runs_found : {ms : List ModuleTerm} {m i : ℕ} {rows : MemberTerms} (run : Run) (of : TypeTerm)
    (presence : PresenceTerm) (set : TagSet) (told : Bool) → AreRunsApart ms m rows i run →
    IsMember rows i of presence → HasTags ms m of set → told ≡ told_of run set → told ≡ true → RunShares ms m rows
runs_found {i = i} run of presence set told apart member has e h =
    let meets = told_meets run set told apart.run_is (is_of of presence set member has) e h in
    let missing = apart.miss meets.earlier.place meets.earlier.from meets.earlier.before in
    let same = one_member missing.member meets.earlier.starts.member in record {
      earlier = meets.earlier.place;
      later = i;
      rising = meets.earlier.before;
      one = meets.earlier.starts.of;
      one_presence = meets.earlier.starts.presence;
      is_one = meets.earlier.starts.member;
      may_miss = ap may_be_absent (sym same.1) ∙ missing.may;
      between = λ k behind before. apart.miss k (between apart.low meets.earlier.place k meets.earlier.from behind)
          before;
      other = meets.later.of;
      other_presence = meets.later.presence;
      is_other = meets.later.member;
      share = record {
        tag = meets.tag;
        begins_one = meets.earlier.starts.begins;
        begins_other = meets.later.begins;
      };
    }

-- a pair of which the later one is the further member
no_pair_here : {ms : List ModuleTerm} {m i : ℕ} {rows : MemberTerms} (run : Run) (earlier : ℕ) (tag : Tag)
    (apart : AreRunsApart ms m rows i run) → (Meets (StartsAt ms m rows) apart.low i → ⊥) → earlier < i →
    AllMiss rows earlier i → StartsAt ms m rows earlier tag → StartsAt ms m rows i tag →
    (earlier < apart.low) ⊎ (apart.low ≤ earlier) → ⊥
no_pair_here {i = i} run earlier tag apart none rising all one other (inl outside) =
    apart.start earlier outside (λ k from before. all k from (under k before))
  where
    under : (k : ℕ) → k < apart.low → k < i
    under k e = omega (arith, e, apart.from)
no_pair_here run earlier tag apart none rising all one other (inr inside) = none (record {
  tag = tag;
  earlier = record { place = earlier; from = inside; before = rising; starts = one };
  later = other;
})

no_pair : {ms : List ModuleTerm} {m i : ℕ} {rows : MemberTerms} (run : Run) (earlier later : ℕ) (tag : Tag)
    (apart : AreRunsApart ms m rows i run) → (Meets (StartsAt ms m rows) apart.low i → ⊥) → earlier < later →
    (later < i) ⊎ (later ≡ i) → AllMiss rows earlier later → StartsAt ms m rows earlier tag →
    StartsAt ms m rows later tag → ⊥
no_pair run earlier later tag apart none rising (inl within) all one other =
    apart.none_shares earlier later tag rising within all one other
no_pair {ms = ms} {m = m} {i = i} {rows = rows} run earlier later tag apart none rising (inr e) all one other =
    no_pair_here run earlier tag apart none (subst (λ k. earlier < k) e rising)
    (subst (λ k. AllMiss rows earlier k) e all) one (subst (λ k. StartsAt ms m rows k tag) e other)
    (cases_lt earlier apart.low)

miss_more : {i : ℕ} {rows : MemberTerms} (low k : ℕ) → AllMiss rows low i → MayMiss rows i → low ≤ k →
    (k < i) ⊎ (k ≡ i) → MayMiss rows k
miss_more low k miss last from (inl within) = miss k from within
miss_more {rows = rows} low k miss last from (inr e) = subst (MayMiss rows) (sym e) last

-- a component that may be missing
pub runs_go_on : {ms : List ModuleTerm} {m i : ℕ} {rows : MemberTerms} (run after : Run) (of : TypeTerm)
    (presence : PresenceTerm) (set : TagSet) (told : Bool) → AreRunsApart ms m rows i run →
    IsMember rows i of presence → HasTags ms m of set → told ≡ told_of run set → told ≡ false →
    Grows run after set → may_be_absent presence ≡ true → AreRunsApart ms m rows (i + 1) after
runs_go_on {i = i} run after of presence set told apart member has e h grows may =
    let its = is_of of presence set member has in record {
      low = apart.low;
      from = omega (arith, apart.from);
      run_is = run_grows run after set apart.from apart.run_is its grows;
      miss = λ k from within. miss_more apart.low k apart.miss
          (record { of = of; presence = presence; member = member; may = may }) from (last_or k i within);
      start = apart.start;
      none_shares = λ earlier later tag rising within all one other. no_pair run earlier later tag apart
          (λ meets. true≢false (sym (meets_told run set told apart.run_is its e meets) ∙ h)) rising
          (last_or later i within) all one other;
    }

not_missing : {i : ℕ} {rows : MemberTerms} {of : TypeTerm} {presence : PresenceTerm} → IsMember rows i of presence →
    may_be_absent presence ≡ false → MayMiss rows i → ⊥
not_missing member needed missing = true≢false
    (sym missing.may ∙ ap may_be_absent (one_member missing.member member).1 ∙ needed)

-- a component that stands always: the next run begins behind it
pub runs_begin : {ms : List ModuleTerm} {m i : ℕ} {rows : MemberTerms} (run empty : Run) (of : TypeTerm)
    (presence : PresenceTerm) (set : TagSet) (told : Bool) → AreRunsApart ms m rows i run →
    IsMember rows i of presence → HasTags ms m of set → told ≡ told_of run set → told ≡ false →
    may_be_absent presence ≡ false → empty.any ≡ false → empty.some ≡ false →
    ((tag : Tag) → seen empty tag ≡ false) → AreRunsApart ms m rows (i + 1) empty
runs_begin {i = i} run empty of presence set told apart member has e h needed any some tags =
    let its = is_of of presence set member has in record {
      low = i + 1;
      from = omega arith;
      run_is = no_run empty any some tags;
      miss = λ k from within. absurd (nothing_there k from within);
      start = λ k within all. not_missing member needed (all i (not_behind k within) (omega arith));
      none_shares = λ earlier later tag rising within all one other. no_pair run earlier later tag apart
          (λ meets. true≢false (sym (meets_told run set told apart.run_is its e meets) ∙ h)) rising
          (last_or later i within) all one other;
    }
  where
    nothing_there : (k : ℕ) → i + 1 ≤ k → k < i + 1 → ⊥
    nothing_there k e f = omega (arith, e, f)

    not_behind : (k : ℕ) → k < i + 1 → k ≤ i
    not_behind k e = omega (arith, e)

pub runs_next : {ms : List ModuleTerm} {m i : ℕ} {rows : MemberTerms} (run after next : Run) (of : TypeTerm)
    (presence : PresenceTerm) (set : TagSet) (told : Bool) → AreRunsApart ms m rows i run →
    IsMember rows i of presence → HasTags ms m of set → told ≡ told_of run set → told ≡ false →
    Grows run after set → (absent : Bool) → absent ≡ may_be_absent presence → GoesOn after absent next →
    AreRunsApart ms m rows (i + 1) next
runs_next {ms = ms} {m = m} {i = i} {rows = rows} run after next of presence set told apart member has e h grows true
    may goes = subst (AreRunsApart ms m rows (i + 1)) (sym goes)
    (runs_go_on run after of presence set told apart member has e h grows (sym may))
runs_next run after next of presence set told apart member has e h grows false may goes =
    runs_begin run next of presence set told apart member has e h (sym may) goes.any goes.some goes.tags

pub runs_last : {X : Type 0} {ms : List ModuleTerm} {m : ℕ} (f : X → MemberRow) (xs : List X) (i : ℕ) (run : Run) →
    AreRunsApart ms m (members (map f xs)) i run → length xs ≤ i → RunShares ms m (members (map f xs)) → ⊥
runs_last f xs i run apart past two = apart.none_shares two.earlier two.later two.share.tag two.rising
    (within two.later i (member_within f xs two.is_other) past)
    (λ k from before. all k before (same_or_behind k from))
    (record {
      of = two.one;
      presence = two.one_presence;
      member = two.is_one;
      begins = two.share.begins_one;
    }) (record {
      of = two.other;
      presence = two.other_presence;
      member = two.is_other;
      begins = two.share.begins_other;
    })
  where
    within : (k i : ℕ) → k < length xs → length xs ≤ i → k < i
    within k i e f = omega (arith, e, f)

    behind_it : (k : ℕ) → (k < two.earlier + 1) ⊎ (two.earlier + 1 ≤ k) → two.earlier ≤ k →
        (k ≡ two.earlier) ⊎ (two.earlier < k)
    behind_it k (inl e) from = inl (omega (arith, e, from))
    behind_it k (inr e) from = inr (omega (arith, e))

    same_or_behind : (k : ℕ) → two.earlier ≤ k → (k ≡ two.earlier) ⊎ (two.earlier < k)
    same_or_behind k from = behind_it k (cases_lt k (two.earlier + 1)) from

    all : (k : ℕ) → k < two.later → (k ≡ two.earlier) ⊎ (two.earlier < k) → MayMiss (members (map f xs)) k
    all k before (inl e) = subst (MayMiss (members (map f xs))) (sym e)
        (record { of = two.one; presence = two.one_presence; member = two.is_one; may = two.may_miss })
    all k before (inr e) = two.between k e before
