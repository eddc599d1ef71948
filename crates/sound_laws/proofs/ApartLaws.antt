-- ApartLaws: where tags decide in a type, its alternatives are all apart, as are the components of a SET and the
-- optional runs of a SEQUENCE (X.680, sections 25.6, 27.3 and 29.3).
use Rattle.std.proofs.Common.{◌≡◌, ◌<◌, ℕ, zero, suc, List, Bool, true, Option, None, refl, arith}
use Rattle.std.specs.Prelude.{◌||◌, not}
use Rattle.token_grammar.specs.declared.token.Token.{Token}
use Rattle.term_values.specs.Beginnings.{first_tags}
use Rattle.term_values.specs.Soundness.{are_all_apart, are_apart, are_runs_apart, is_apart_from_all, is_apart_from_next}
use Rattle.term_values.specs.Soundness.{may_be_absent as may_miss}
use Rattle.term_values.specs.Syntaxes.{TypeParts}
use Rattle.term_values.specs.declared.tag.Tag.{Tag}
use Rattle.asn1_names.specs.Containment.{IsMember}
use Rattle.asn1_names.specs.Containment.IsMember.{behind, first}
use Rattle.asn1_names.specs.DenotedSyntax.{MembersDenote}
use Rattle.asn1_names.specs.DenotedSyntax.MembersDenote.{member, no_members}
use Rattle.asn1_names.specs.FirstModuleFault.{AreFaultless}
use Rattle.asn1_names.specs.ModuleTerms.{MemberTerms, ModuleTerm, PresenceTerm, TypeTerm}
use Rattle.asn1_names.specs.ModuleTerms.MemberTerms.{Member}
use Rattle.asn1_names.specs.ModuleTerms.PresenceTerm.{DefaultTerm, Needed, OptionalTerm}
use Rattle.asn1_names.specs.TagClashes.{MayMiss, RunShares, TwoShare, may_be_absent}
use Rattle.asn1_names.specs.TypeTags.{ShareTag}
use Rattle.sound_laws.specs.GivenMeanings.{HaveAlternatives}
use Rattle.sound_laws.proofs.BeginningLaws.{BeginsBy, begun}
use Rattle.sound_laws.proofs.PlaceLaws.{AllStand, stand_behind}
use Rattle.sound_laws.proofs.TagLists.{and_both, apart_by}

-- ---- two types

types_apart : {ms : List ModuleTerm} {m : ℕ} {one other : TypeTerm} {tags its : Option (List Tag)} →
    BeginsBy ms m one tags → BeginsBy ms m other its → ¬ ShareTag ms m one other → are_apart tags its ≡ true
types_apart {tags = tags} {its = its} one other unshared = apart_by tags its one.some other.some
    (λ tag h g. unshared (record { tag = tag; begins_one = one.from tag h; begins_other = other.from tag g }))

-- ---- alternatives, and the components of a SET

from_all : {ms : List ModuleTerm} {document m : ℕ} {members : MemberTerms} {parts : TypeParts} (one : TypeTerm)
    (tags : Option (List Tag)) → AreFaultless ms → HaveAlternatives ms → BeginsBy ms m one tags →
    AllStand ms document m members → MembersDenote ms m members parts →
    ((k : ℕ) (of : TypeTerm) (presence : PresenceTerm) → IsMember members k of presence → ¬ ShareTag ms m one of) →
    is_apart_from_all tags parts ≡ true
from_all one tags faultless have begins stand no_members unshared = refl
from_all one tags faultless have begins stand
    (member {of = of} {presence = presence} {syntax = syntax} {parts = parts} d rest) unshared =
    and_both (are_apart tags (first_tags syntax)) (is_apart_from_all tags parts)
    (types_apart begins (begun faultless have (stand 0 of presence first) d) (unshared 0 of presence first))
    (from_all one tags faultless have begins (stand_behind stand) rest
    (λ k its its_presence is. unshared (suc k) its its_presence (behind is)))

two_behind : {ms : List ModuleTerm} {m : ℕ} {name : Token} {of : TypeTerm} {presence : PresenceTerm}
    {members : MemberTerms} → TwoShare ms m members → TwoShare ms m (Member name of presence members)
two_behind two = record {
  earlier = suc two.earlier;
  later = suc two.later;
  rising = (let rising = two.rising in omega (arith, rising));
  one = two.one;
  one_presence = two.one_presence;
  is_one = behind two.is_one;
  other = two.other;
  other_presence = two.other_presence;
  is_other = behind two.is_other;
  share = two.share;
}

pub all_apart : {ms : List ModuleTerm} {document m : ℕ} {members : MemberTerms} {parts : TypeParts} →
    AreFaultless ms → HaveAlternatives ms → AllStand ms document m members → MembersDenote ms m members parts →
    ¬ TwoShare ms m members → are_all_apart parts ≡ true
all_apart faultless have stand no_members unshared = refl
all_apart faultless have stand
    (member {of = of} {presence = presence} {syntax = syntax} {parts = parts} d rest) unshared =
    and_both (is_apart_from_all (first_tags syntax) parts) (are_all_apart parts)
    (from_all of (first_tags syntax) faultless have (begun faultless have (stand 0 of presence first) d)
    (stand_behind stand) rest
    (λ k its its_presence is share. unshared (record {
      earlier = 0;
      later = suc k;
      rising = omega arith;
      one = of;
      one_presence = presence;
      is_one = first;
      other = its;
      other_presence = its_presence;
      is_other = behind is;
      share = share;
    })))
    (all_apart faultless have (stand_behind stand) rest (λ two. unshared (two_behind two)))

-- ---- optional runs

miss_behind : {name : Token} {of : TypeTerm} {presence : PresenceTerm} {members : MemberTerms} {k : ℕ} →
    MayMiss members k → MayMiss (Member name of presence members) (suc k)
miss_behind missing = record {
  of = missing.of;
  presence = missing.presence;
  member = behind missing.member;
  may = missing.may;
}

-- all components before a place may be missing
abbrev AllMiss : MemberTerms → ℕ → Type 0
AllMiss members k = (j : ℕ) → j < k → MayMiss members j

all_miss : {name : Token} {of : TypeTerm} {presence : PresenceTerm} {members : MemberTerms} (k : ℕ) →
    may_be_absent presence ≡ true → AllMiss members k → AllMiss (Member name of presence members) (suc k)
all_miss {of = of} {presence = presence} k may missing zero under =
    record { of = of; presence = presence; member = first; may = may }
all_miss k may missing (suc j) under = miss_behind (missing j (omega (arith, under)))

-- what is asked of the components behind one that may be missing
when_missing : (presence : PresenceTerm) (b : Bool) → (may_be_absent presence ≡ true → b ≡ true) →
    (not (may_miss (may_be_absent presence) None) || b) ≡ true
when_missing Needed b rest = refl
when_missing OptionalTerm b rest = rest refl
when_missing (DefaultTerm text) b rest = rest refl

from_next : {ms : List ModuleTerm} {document m : ℕ} {members : MemberTerms} {parts : TypeParts} (one : TypeTerm)
    (tags : Option (List Tag)) → AreFaultless ms → HaveAlternatives ms → BeginsBy ms m one tags →
    AllStand ms document m members → MembersDenote ms m members parts →
    ((k : ℕ) (of : TypeTerm) (presence : PresenceTerm) → IsMember members k of presence → AllMiss members k →
    ¬ ShareTag ms m one of) → is_apart_from_next tags parts ≡ true
from_next one tags faultless have begins stand no_members unshared = refl
from_next one tags faultless have begins stand
    (member {of = of} {presence = presence} {syntax = syntax} {parts = parts} d rest) unshared =
    and_both (are_apart tags (first_tags syntax))
    (not (may_miss (may_be_absent presence) None) || is_apart_from_next tags parts)
    (types_apart begins (begun faultless have (stand 0 of presence first) d)
    (unshared 0 of presence first (λ j under. absurd (omega (arith, under)))))
    (when_missing presence (is_apart_from_next tags parts)
    (λ may. from_next one tags faultless have begins (stand_behind stand) rest
    (λ k its its_presence is missing. unshared (suc k) its its_presence (behind is) (all_miss k may missing))))

between_behind : {name : Token} {of : TypeTerm} {presence : PresenceTerm} {members : MemberTerms} (low high : ℕ) →
    ((k : ℕ) → low < k → k < high → MayMiss members k) → (k : ℕ) → suc low < k → k < suc high →
    MayMiss (Member name of presence members) k
between_behind low high missing zero above under = absurd (omega (arith, above))
between_behind low high missing (suc k) above under =
    miss_behind (missing k (omega (arith, above)) (omega (arith, under)))

run_behind : {ms : List ModuleTerm} {m : ℕ} {name : Token} {of : TypeTerm} {presence : PresenceTerm}
    {members : MemberTerms} → RunShares ms m members → RunShares ms m (Member name of presence members)
run_behind run = record {
  earlier = suc run.earlier;
  later = suc run.later;
  rising = (let rising = run.rising in omega (arith, rising));
  one = run.one;
  one_presence = run.one_presence;
  is_one = behind run.is_one;
  may_miss = run.may_miss;
  between = between_behind run.earlier run.later run.between;
  other = run.other;
  other_presence = run.other_presence;
  is_other = behind run.is_other;
  share = run.share;
}

between_first : {name : Token} {of : TypeTerm} {presence : PresenceTerm} {members : MemberTerms} (high : ℕ) →
    AllMiss members high → (k : ℕ) → 0 < k → k < suc high → MayMiss (Member name of presence members) k
between_first high missing zero above under = absurd (omega (arith, above))
between_first high missing (suc k) above under = miss_behind (missing k (omega (arith, under)))

pub runs_apart : {ms : List ModuleTerm} {document m : ℕ} {members : MemberTerms} {parts : TypeParts} →
    AreFaultless ms → HaveAlternatives ms → AllStand ms document m members → MembersDenote ms m members parts →
    ¬ RunShares ms m members → are_runs_apart parts ≡ true
runs_apart faultless have stand no_members unshared = refl
runs_apart faultless have stand
    (member {of = of} {presence = presence} {syntax = syntax} {parts = parts} d rest) unshared =
    and_both (not (may_miss (may_be_absent presence) None) || is_apart_from_next (first_tags syntax) parts)
    (are_runs_apart parts)
    (when_missing presence (is_apart_from_next (first_tags syntax) parts)
    (λ may. from_next of (first_tags syntax) faultless have (begun faultless have (stand 0 of presence first) d)
    (stand_behind stand) rest
    (λ k its its_presence is missing share. unshared (record {
      earlier = 0;
      later = suc k;
      rising = omega arith;
      one = of;
      one_presence = presence;
      is_one = first;
      may_miss = may;
      between = between_first k missing;
      other = its;
      other_presence = its_presence;
      is_other = behind is;
      share = share;
    }))))
    (runs_apart faultless have (stand_behind stand) rest (λ run. unshared (run_behind run)))
