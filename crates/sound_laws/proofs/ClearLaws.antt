-- ClearLaws: the tags of a syntax that a type of modules without a fault denotes are clear (X.680, sections 25.6, 27.3,
-- 29.3 and 31.2; docs/PROFILE.md, section 11).
use Rattle.std.proofs.Common.{◌≡◌, ◌||◌, ◌&&◌, ℕ, ℤ, List, [], Bool, true, false, refl, sym, ◌∙◌}
use Rattle.std.specs.Prelude.{not}
use Rattle.token_grammar.specs.declared.token.Token.{Token}
use Rattle.term_values.specs.Soundness.{are_all_apart, are_runs_apart, has_clear_tags, has_own_tag, have_clear_tags}
use Rattle.term_values.specs.Syntaxes.{TypeSyntax, TypeParts}
use Rattle.asn1_names.specs.Constraining.{Constrains, Narrows}
use Rattle.asn1_names.specs.Constraining.Constrains.{another, no_more}
use Rattle.asn1_names.specs.Constraining.Narrows.{bits, characters, elements, members as set_members, octets, values}
use Rattle.asn1_names.specs.Constraining.Narrows.{tagged as narrows_tagged}
use Rattle.asn1_names.specs.Containment.IsMember.{first}
use Rattle.asn1_names.specs.DenotedSyntax.{Denotes, MembersDenote, PlainDenotes, has_implicit_default, is_explicit}
use Rattle.asn1_names.specs.DenotedSyntax.{says_explicit}
use Rattle.asn1_names.specs.DenotedSyntax.Denotes.{choice, named, plain, sequence, sequence_of, set, set_of, standard}
use Rattle.asn1_names.specs.DenotedSyntax.Denotes.{tagged}
use Rattle.asn1_names.specs.DenotedSyntax.MembersDenote.{member, no_members}
use Rattle.asn1_names.specs.DenotedSyntax.PlainDenotes.{any, bit_string, enumerated, integer, object_identifier}
use Rattle.asn1_names.specs.DenotedSyntax.PlainDenotes.{octet_string, one_word}
use Rattle.asn1_names.specs.FirstModuleFault.{AreFaultless}
use Rattle.asn1_names.specs.FirstModuleFault.FaultKind.{TagsAmbiguous}
use Rattle.asn1_names.specs.ModuleTerms.{LimitTerm, MemberTerms, ModuleTerm, PlainTerm, TypeTerm}
use Rattle.asn1_names.specs.ModuleTerms.TypeTerm.{Alternatives, Structure}
use Rattle.asn1_names.specs.Occurrences.{Assigns, Stands}
use Rattle.asn1_names.specs.TagClashes.IsAmbiguous.{choice as ambiguous_choice, sequence as ambiguous_sequence}
use Rattle.asn1_names.specs.TagClashes.IsAmbiguous.{set as ambiguous_set}
use Rattle.sound_laws.specs.GivenMeanings.{HaveAlternatives}
use Rattle.sound_laws.proofs.ApartLaws.{all_apart, runs_apart}
use Rattle.sound_laws.proofs.PlaceLaws.{AllStand, alternatives_stand, assigned_stands, components_stand, element_stands}
use Rattle.sound_laws.proofs.PlaceLaws.{named_assigned, stand_behind, tagged_stands}
use Rattle.sound_laws.proofs.StandardTags.{standard_clear, word_clear}
use Rattle.sound_laws.proofs.StandardNames.{reference_standard}
use Rattle.sound_laws.proofs.TagLists.{and_both}

-- ---- constraints leave the tags

narrowed_own : {ranges : List (ℤ × ℤ)} {is_size : Bool} {before after : TypeSyntax} →
    Narrows ranges is_size before after → has_own_tag before ≡ has_own_tag after
narrowed_own (values h) = refl
narrowed_own (bits h) = refl
narrowed_own (octets h) = refl
narrowed_own (characters h) = refl
narrowed_own (elements h) = refl
narrowed_own (set_members h) = refl
narrowed_own (narrows_tagged h) = refl

narrowed_clear : {ranges : List (ℤ × ℤ)} {is_size : Bool} {before after : TypeSyntax} →
    Narrows ranges is_size before after → has_clear_tags before ≡ has_clear_tags after
narrowed_clear (values h) = refl
narrowed_clear (bits h) = refl
narrowed_clear (octets h) = refl
narrowed_clear (characters h) = refl
narrowed_clear (elements h) = refl
narrowed_clear (set_members h) = refl
narrowed_clear (narrows_tagged {explicit = explicit} h) =
    λ i. (explicit || narrowed_own h i) && narrowed_clear h i

constrained_clear : {ms : List ModuleTerm} {m : ℕ} {of : TypeTerm} {limits : List LimitTerm}
    {before after : TypeSyntax} → Constrains ms m of limits before after → has_clear_tags before ≡ true →
    has_clear_tags after ≡ true
constrained_clear no_more clear = clear
constrained_clear (another ranges narrows rest) clear = constrained_clear rest (sym (narrowed_clear narrows) ∙ clear)

-- ---- a denoted syntax

plain_clear : {ms : List ModuleTerm} {m : ℕ} {word : Token} {of : PlainTerm} {syntax : TypeSyntax} →
    PlainDenotes ms m word of syntax → has_clear_tags syntax ≡ true
plain_clear {word = word} {syntax = syntax} (one_word e) = (word_clear word.text syntax e).clear
plain_clear (integer names) = refl
plain_clear (enumerated names) = refl
plain_clear (bit_string names) = refl
plain_clear octet_string = refl
plain_clear object_identifier = refl
plain_clear any = refl

-- a tag is explicit where the type beneath has no tag of its own
explicit_or_own : (says own : Bool) → ((says || not own) || own) ≡ true
explicit_or_own true own = refl
explicit_or_own false true = refl
explicit_or_own false false = refl

mutual
  pub clear_tags : {ms : List ModuleTerm} {document m : ℕ} {of : TypeTerm} {syntax : TypeSyntax} → AreFaultless ms →
      HaveAlternatives ms → Stands ms document m of → Denotes ms m of syntax → has_clear_tags syntax ≡ true
  clear_tags {ms = ms} {m = m} faultless have stands (tagged {mode = mode} {syntax = syntax} is d) =
      and_both (is_explicit (has_implicit_default ms m) mode syntax || has_own_tag syntax) (has_clear_tags syntax)
      (explicit_or_own (says_explicit (has_implicit_default ms m) mode) (has_own_tag syntax))
      (clear_tags faultless have (tagged_stands stands) d)
  clear_tags {document = document} {m = m} faultless have stands
      (sequence {word = word} {members = members} {parts = parts} e d) =
      and_both (are_runs_apart parts) (have_clear_tags parts)
      (runs_apart faultless have (components_stand stands) d
      (λ run. faultless TagsAmbiguous document word.at (record {
        m = m;
        of = Structure word members [];
        stands = stands;
        word = word;
        ambiguous = ambiguous_sequence e run;
        at = refl;
      })))
      (members_clear faultless have (components_stand stands) d)
  clear_tags {document = document} {m = m} faultless have stands
      (set {word = word} {members = members} {parts = parts} e d) =
      and_both (are_all_apart parts) (have_clear_tags parts)
      (all_apart faultless have (components_stand stands) d
      (λ two. faultless TagsAmbiguous document word.at (record {
        m = m;
        of = Structure word members [];
        stands = stands;
        word = word;
        ambiguous = ambiguous_set e two;
        at = refl;
      })))
      (members_clear faultless have (components_stand stands) d)
  clear_tags {document = document} {m = m} faultless have stands
      (choice {word = word} {members = members} {parts = parts} d) =
      and_both (are_all_apart parts) (have_clear_tags parts)
      (all_apart faultless have (alternatives_stand stands) d
      (λ two. faultless TagsAmbiguous document word.at (record {
        m = m;
        of = Alternatives word members [];
        stands = stands;
        word = word;
        ambiguous = ambiguous_choice two;
        at = refl;
      })))
      (members_clear faultless have (alternatives_stand stands) d)
  clear_tags faultless have stands (sequence_of e d c) =
      constrained_clear c (clear_tags faultless have (element_stands stands) d)
  clear_tags faultless have stands (set_of e d c) =
      constrained_clear c (clear_tags faultless have (element_stands stands) d)
  clear_tags faultless have stands (plain p c) = constrained_clear c (plain_clear p)
  clear_tags {ms = ms} {m = m} faultless have stands
      (named {v = v} {i = i} {module_name = module_name} {name = name} {of = of} e d c) =
      constrained_clear c
      (clear_tags faultless have (assigned_stands (named_assigned ms m v i module_name name of e).1) d)
  clear_tags {ms = ms} {m = m} faultless have stands
      (standard {module_name = module_name} {name = name} {unlimited = syntax} e c) =
      let known = reference_standard ms m module_name name syntax e in
      constrained_clear c (standard_clear known.0 syntax known.1).clear

  members_clear : {ms : List ModuleTerm} {document m : ℕ} {members : MemberTerms} {parts : TypeParts} →
      AreFaultless ms → HaveAlternatives ms → AllStand ms document m members → MembersDenote ms m members parts →
      have_clear_tags parts ≡ true
  members_clear faultless have stand no_members = refl
  members_clear faultless have stand
      (member {of = of} {presence = presence} {syntax = syntax} {parts = parts} d rest) =
      and_both (has_clear_tags syntax) (have_clear_tags parts)
      (clear_tags faultless have (stand 0 of presence first) d)
      (members_clear faultless have (stand_behind stand) rest)

-- what an assigned type denotes has clear tags
pub denoted_clear : (ms : List ModuleTerm) → AreFaultless ms → HaveAlternatives ms → (document m : ℕ)
    (of : TypeTerm) → Assigns ms document m of → (syntax : TypeSyntax) → Denotes ms m of syntax →
    has_clear_tags syntax ≡ true
denoted_clear ms faultless have document m of assigned syntax d =
    clear_tags faultless have (assigned_stands assigned) d
