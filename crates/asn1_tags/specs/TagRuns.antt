-- TagRuns: the tags of members that were passed, by class and number (X.680, section 31).
use Rattle.std.specs.Prelude.{◌≡◌, ◌||◌, ◌==◌, ℕ, Bool, true, false, length, not}
use Rattle.std.specs.BTreeSet.{BTreeSet, contains}
use Rattle.std.specs.Ordering.{nat_cmp, ordering_then}
use Rattle.std.specs.declared.cmp.Ordering.{Ordering}
use Rattle.term_values.specs.declared.tag.Tag.{Tag}
use Rattle.asn1_tags.specs.declared.tag_runs.Run.{Run}
use Rattle.asn1_tags.specs.declared.tag_sets.TagSet.{TagSet}

-- the order of tags: by class, then by number
abbrev pub key_cmp : ℕ × ℕ → ℕ × ℕ → Ordering
key_cmp x y = ordering_then (nat_cmp x.0 y.0) (nat_cmp x.1 y.1)

-- the tag is among those that are kept
abbrev pub has_key : BTreeSet (ℕ × ℕ) → Tag → Bool
has_key keys tag = contains key_cmp keys (tag.class, tag.number)

-- a member that was passed has the tag, other than one that begins with each
abbrev pub seen : Run → Tag → Bool
seen run tag = has_key run.tags tag

-- a type begins with some tag
abbrev pub begins_some : TagSet → Bool
begins_some set = set.any || not (length set.tags.items == 0)

-- no member was passed
pub record IsEmptyRun (run : Run) : Type 0 where
  pub any : run.any ≡ false
  pub some : run.some ≡ false
  pub tags : (tag : Tag) → seen run tag ≡ false

-- the run goes on behind a member that may be missing, and another one begins behind one that stands always
abbrev pub GoesOn : Run → Bool → Run → Type 0
GoesOn run true next = next ≡ run
GoesOn run false next = IsEmptyRun next
