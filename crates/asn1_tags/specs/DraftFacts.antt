-- DraftFacts: what is found of one assigned type, and what is known of all before it in an order (docs/PROFILE.md,
-- section 11).
use Rattle.std.specs.Prelude.{◌≡◌, ◌<◌, ◌≤◌, ℕ, List, Bool, Some, length, slice_get}
use Rattle.asn1_names.specs.AssignmentNumbers.{assignment_count}
use Rattle.asn1_names.specs.CodeMeanings.{IsTypeOf}
use Rattle.asn1_names.specs.ModuleTerms.{TypeTerm, ModuleTerm}
use Rattle.asn1_names.specs.NodeCount.{HasNodes}
use Rattle.asn1_numbers.specs.NumberedTypes.{IsCyclicNumber}
use Rattle.asn1_tags.specs.declared.fact_finding.Draft.{Draft}
use Rattle.asn1_tags.specs.declared.tag_sets.TagSet.{TagSet}
use Rattle.asn1_tags.specs.GatheredTags.{AreTagsKnown, HasTags, KnowsTags, set_found}
use Rattle.asn1_tags.specs.KnownFacts.{AreKnown, HasCount, KnowsNodes}

-- the nodes of the assignment with the number are told anew, where those of the types that its type names were known
pub record CountsType (ms : List ModuleTerm) (marks : List Bool) (number : ℕ) (before after : List ℕ) : Type 0 where
  pub size : length after ≡ length before
  pub others : (other : ℕ) → (other ≡ number → ⊥) → slice_get after other ≡ slice_get before other
  pub counted : (m : ℕ) (of : TypeTerm) → IsTypeOf ms number m of → number < length before →
      AreKnown (KnowsNodes ms before) ms marks m of → KnowsNodes ms after number

-- the set at a place has the tags of a type, where this has at most 10,000 nodes
pub record IsSetOf (ms : List ModuleTerm) (m : ℕ) (of : TypeTerm) (sets : List TagSet) (place : ℕ) : Type 0 where
  pub set : TagSet
  pub found : slice_get sets place ≡ Some set
  pub has : (n : ℕ) → HasNodes ms m of n → n ≤ 10000 → HasTags ms m of set

-- sets stay at their places
abbrev pub KeepsSets : List TagSet → List TagSet → Type 0
KeepsSets before after = (place : ℕ) (set : TagSet) → slice_get before place ≡ Some set → slice_get after place ≡
    Some set

-- the tags of the assignment with the number are known too, where its nodes are, and the tags of the types that it
-- names
pub record GathersType (ms : List ModuleTerm) (marks : List Bool) (number nodes : ℕ) (before after : List ℕ)
    (sets_before sets_after : List TagSet) : Type 0 where
  pub size : length after ≡ length before
  pub others : (other : ℕ) (set : TagSet) → (other ≡ number → ⊥) → set_found before sets_before other ≡ Some set →
      set_found after sets_after other ≡ Some set
  pub gathered : (m : ℕ) (of : TypeTerm) → IsTypeOf ms number m of → number < length before →
      AreKnown (KnowsTags ms before sets_before) ms marks m of → HasCount ms m of nodes →
      KnowsTags ms after sets_after number

-- the nodes and the tags of the assignment with the number are known too
pub record FindsType (ms : List ModuleTerm) (marks : List Bool) (number : ℕ) (before after : Draft) : Type 0 where
  pub nodes_size : length after.nodes.items ≡ length before.nodes.items
  pub sources_size : length after.sources.items ≡ length before.sources.items
  pub other_nodes : (other : ℕ) → (other ≡ number → ⊥) → KnowsNodes ms before.nodes.items other →
      KnowsNodes ms after.nodes.items other
  pub other_tags : (other : ℕ) → (other ≡ number → ⊥) → KnowsTags ms before.sources.items before.sets.items other →
      KnowsTags ms after.sources.items after.sets.items other
  pub nodes_found : (m : ℕ) (of : TypeTerm) → IsTypeOf ms number m of → ¬ IsCyclicNumber ms number →
      number < length before.nodes.items → AreKnown (KnowsNodes ms before.nodes.items) ms marks m of → KnowsNodes ms
      after.nodes.items number
  pub tags_found : (m : ℕ) (of : TypeTerm) → IsTypeOf ms number m of → ¬ IsCyclicNumber ms number →
      number < length before.nodes.items → number < length before.sources.items → AreKnown (KnowsNodes ms
      before.nodes.items) ms marks m of →
      AreKnown (KnowsTags ms before.sources.items before.sets.items) ms marks m of →
      KnowsTags ms after.sources.items after.sets.items number

-- of each assignment before a place of an order whose type doesn't contain itself nodes and tags are known
pub record IsDraft (ms : List ModuleTerm) (order : List ℕ) (place : ℕ) (draft : Draft) : Type 0 where
  pub nodes_size : length draft.nodes.items ≡ assignment_count ms
  pub sources_size : length draft.sources.items ≡ assignment_count ms
  pub nodes_known : (k number : ℕ) → k < place → slice_get order k ≡ Some number → ¬ IsCyclicNumber ms number →
      KnowsNodes ms draft.nodes.items number
  pub tags_known : (k number : ℕ) → k < place → slice_get order k ≡ Some number → ¬ IsCyclicNumber ms number →
      KnowsTags ms draft.sources.items draft.sets.items number

-- the nodes of all types are known that don't contain themselves
abbrev pub KnowsPlain : List ModuleTerm → List ℕ → Type 0
KnowsPlain ms nodes = (number : ℕ) → number < assignment_count ms → ¬ IsCyclicNumber ms number → KnowsNodes ms nodes
    number

-- all types' nodes are known before a number, and of the others those that don't contain themselves
pub record AreCounted (ms : List ModuleTerm) (place : ℕ) (nodes : List ℕ) : Type 0 where
  pub size : length nodes ≡ assignment_count ms
  pub plain : KnowsPlain ms nodes
  pub before : (number : ℕ) → number < place → number < assignment_count ms → KnowsNodes ms nodes number

-- nodes are known of all assigned types, and tags of those that don't contain themselves
pub record AreFacts (ms : List ModuleTerm) (marks : List Bool) (nodes sources : List ℕ) (sets : List TagSet)
    : Type 0 where
  pub nodes_known : (number : ℕ) → number < assignment_count ms → KnowsNodes ms nodes number
  pub tags_known : AreTagsKnown ms marks sources sets
