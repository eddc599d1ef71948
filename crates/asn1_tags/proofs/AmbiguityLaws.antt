-- AmbiguityLaws: in which types tags must decide, and of which members (X.680, sections 25.6, 27.3 and 29.3).
use Rattle.std.proofs.Common.{◌≡◌, ◌<◌, ◌≤◌, ℕ, List, Bool, true, false, Option, Some, sym, subst, ◌∙◌}
use Rattle.std.proofs.Common.{codes, true≢false}
use Rattle.std.proofs.lemmas.Option.{slice_get_within}
use Rattle.std.specs.Prelude.{IsTrue, IfOk, Result, Ok, Err, ◌↔◌}
use Rattle.token_grammar.specs.declared.token.Token.{Token}
use Rattle.token_grammar.specs.TokenTests.{is_word_of}
use Rattle.asn1_syntax.specs.declared.plain_type.PlainType.{PlainType}
use Rattle.asn1_syntax.specs.declared.plain_type.PlainType.TheVariants as text
use Rattle.asn1_names.specs.AssignmentNumbers.{Numbered, all_numbered, assignment_count, numbered_at}
use Rattle.asn1_names.specs.CodeMeanings.{named_module, named_type}
use Rattle.asn1_names.specs.ModuleTerms.{LimitTerm, MemberTerms, ModuleTerm, RangeTerm, TagTerm, TypeTerm}
use Rattle.asn1_names.specs.ModuleTerms.MemberTerms.{NoMembers}
use Rattle.asn1_names.specs.ModuleTerms.TypeTerm.{Alternatives, Reference, Repeated, Structure, Under}
use Rattle.asn1_names.specs.NodeCount.{HasNodes}
use Rattle.asn1_names.specs.TagClashes.{IsAmbiguous, RunShares, TwoShare}
use Rattle.asn1_names.specs.TagClashes.IsAmbiguous.{choice, sequence, set}
use Rattle.asn1_names.specs.TermViews.{plain_term}
use Rattle.asn1_names.proofs.WalkLaws.{named_is}
use Rattle.asn1_tags.specs.declared.tag_sets.TagSet.{TagSet}
use Rattle.asn1_tags.specs.GatheredTags.{AreTagsKnown, KnowsTags}
use Rattle.asn1_tags.specs.KnownFacts.{AreKnown, MembersKnown}
use Rattle.asn1_tags.specs.ToldFacts.{TellsAmbiguous}
use Rattle.asn1_tags.proofs.BeginLaws.{no_member}
use Rattle.asn1_tags.proofs.NodeLaws.{alternative_few, component_few}

pub if_ok_then : {X E : Type 0} {P Q : X → Type 0} (r : Result X E) → ((x : X) → P x → Q x) → IfOk r P → IfOk r Q
if_ok_then (Ok x) f h = f x h
if_ok_then (Err e) f h = h

-- ---- what is known of all types is known of those that a type names

pub number_within : (ms : List ModuleTerm) (number : ℕ) (x : Numbered) → numbered_at ms number ≡ Some x →
    number < assignment_count ms
unfolding numbered_at assignment_count
number_within ms number x e = slice_get_within (all_numbered 0 ms) number x e

pub all_known : {ms : List ModuleTerm} {marks : List Bool} {m : ℕ} (sources : List ℕ) (sets : List TagSet)
    (of : TypeTerm) → AreTagsKnown ms marks sources sets → AreKnown (KnowsTags ms sources sets) ms marks m of
all_known {ms = ms} sources sets of facts = record {
  marked = facts.marked;
  each = λ number names. facts.each number (number_within ms number names.numbered names.at);
}

components_ready : {ms : List ModuleTerm} {marks : List Bool} {m n : ℕ} (sources : List ℕ) (sets : List TagSet)
    (word : Token) (rows : MemberTerms) (limits : List LimitTerm) → AreTagsKnown ms marks sources sets →
    HasNodes ms m (Structure word rows limits) n → n ≤ 10000 →
    MembersKnown (KnowsTags ms sources sets) ms marks m rows
components_ready sources sets word rows limits facts nodes small = record {
  known = λ k of presence is. all_known sources sets of facts;
  few = λ k of presence is. component_few word rows limits of presence is nodes small;
}

alternatives_ready : {ms : List ModuleTerm} {marks : List Bool} {m n : ℕ} (sources : List ℕ) (sets : List TagSet)
    (word : Token) (rows : MemberTerms) (limits : List LimitTerm) → AreTagsKnown ms marks sources sets →
    HasNodes ms m (Alternatives word rows limits) n → n ≤ 10000 →
    MembersKnown (KnowsTags ms sources sets) ms marks m rows
alternatives_ready sources sets word rows limits facts nodes small = record {
  known = λ k of presence is. all_known sources sets of facts;
  few = λ k of presence is. alternative_few word rows limits of presence is nodes small;
}

-- ---- CHOICE, SET and SEQUENCE

of_choice : {ms : List ModuleTerm} {m : ℕ} {word other : Token} {rows : MemberTerms} {limits : List LimitTerm} →
    IsAmbiguous ms m (Alternatives word rows limits) other → TwoShare ms m rows
of_choice (choice two) = two

pub choice_told : {ms : List ModuleTerm} {marks : List Bool} {m : ℕ} (sources : List ℕ) (sets : List TagSet)
    (word : Token) (rows : MemberTerms) (limits : List LimitTerm) (told : Bool) → AreTagsKnown ms marks sources sets →
    (MembersKnown (KnowsTags ms sources sets) ms marks m rows → IsTrue told ↔ TwoShare ms m rows) →
    TellsAmbiguous ms m (Alternatives word rows limits) told
choice_told sources sets word rows limits told facts tells = λ n nodes small.
    let both = tells (alternatives_ready sources sets word rows limits facts nodes small) in
    (λ h. (word, choice (both.0 h)), λ ambiguous. both.1 (of_choice ambiguous.1))

of_set : {ms : List ModuleTerm} {m : ℕ} {word other : Token} {rows : MemberTerms} {limits : List LimitTerm} →
    is_word_of (codes "SET") word ≡ true → IsAmbiguous ms m (Structure word rows limits) other → TwoShare ms m rows
of_set is_set (set e two) = two
of_set is_set (sequence e run) = absurd (true≢false (sym is_set ∙ e))

of_sequence : {ms : List ModuleTerm} {m : ℕ} {word other : Token} {rows : MemberTerms} {limits : List LimitTerm} →
    is_word_of (codes "SET") word ≡ false → IsAmbiguous ms m (Structure word rows limits) other → RunShares ms m rows
of_sequence not_set (set e two) = absurd (true≢false (sym e ∙ not_set))
of_sequence not_set (sequence e run) = run

pub set_told : {ms : List ModuleTerm} {marks : List Bool} {m : ℕ} (sources : List ℕ) (sets : List TagSet)
    (word : Token) (rows : MemberTerms) (limits : List LimitTerm) (told : Bool) → AreTagsKnown ms marks sources sets →
    is_word_of (codes "SET") word ≡ true →
    (MembersKnown (KnowsTags ms sources sets) ms marks m rows → IsTrue told ↔ TwoShare ms m rows) →
    TellsAmbiguous ms m (Structure word rows limits) told
set_told sources sets word rows limits told facts is_set tells = λ n nodes small.
    let both = tells (components_ready sources sets word rows limits facts nodes small) in
    (λ h. (word, set is_set (both.0 h)), λ ambiguous. both.1 (of_set is_set ambiguous.1))

pub sequence_told : {ms : List ModuleTerm} {marks : List Bool} {m : ℕ} (sources : List ℕ) (sets : List TagSet)
    (word : Token) (rows : MemberTerms) (limits : List LimitTerm) (told : Bool) → AreTagsKnown ms marks sources sets →
    is_word_of (codes "SET") word ≡ false →
    (MembersKnown (KnowsTags ms sources sets) ms marks m rows → IsTrue told ↔ RunShares ms m rows) →
    TellsAmbiguous ms m (Structure word rows limits) told
sequence_told sources sets word rows limits told facts not_set tells = λ n nodes small.
    let both = tells (components_ready sources sets word rows limits facts nodes small) in
    (λ h. (word, sequence not_set (both.0 h)), λ ambiguous. both.1 (of_sequence not_set ambiguous.1))

-- ---- types in which no tags must decide

pub never_told : {ms : List ModuleTerm} {m : ℕ} (of : TypeTerm) → ((word : Token) → IsAmbiguous ms m of word → ⊥) →
    TellsAmbiguous ms m of false
never_told of never = λ n nodes small.
    (λ h. absurd (true≢false (sym h)), λ ambiguous. absurd (never ambiguous.0 ambiguous.1))

pub tagged_never : {ms : List ModuleTerm} {m : ℕ} (tag : TagTerm) (mode : Option Token) (of : TypeTerm)
    (word : Token) → IsAmbiguous ms m (Under tag mode of) word → ⊥
tagged_never tag mode of word a = elim a [ ]

pub list_never : {ms : List ModuleTerm} {m : ℕ} (own : Token) (size : Option (List RangeTerm)) (of : TypeTerm)
    (word : Token) → IsAmbiguous ms m (Repeated own size of) word → ⊥
list_never own size of word a = elim a [ ]

pub empty_never : {ms : List ModuleTerm} {m : ℕ} (own : Token) (limits : List LimitTerm) (word : Token) →
    IsAmbiguous ms m (Structure own NoMembers limits) word → ⊥
empty_never own limits word (set e two) = no_member two.is_one
empty_never own limits word (sequence e run) = no_member run.is_one

name_never : {ms : List ModuleTerm} {m : ℕ} (module_name : Option Token) (name : Token) (limits : List LimitTerm)
    (word : Token) → IsAmbiguous ms m (Reference module_name name limits) word → ⊥
name_never module_name name limits word a = elim a [ ]

pub plain_never : {ms : List ModuleTerm} {m : ℕ} (of : PlainType) (limits : List LimitTerm) (word : Token) →
    IsAmbiguous ms m (plain_term of limits) word → ⊥
plain_never (text.Simple x) limits word a = elim a [ ]
plain_never (text.Integer x) limits word a = elim a [ ]
plain_never (text.Enumerated x) limits word a = elim a [ ]
plain_never (text.BitString x) limits word a = elim a [ ]
plain_never (text.OctetString x) limits word a = elim a [ ]
plain_never (text.ObjectIdentifier x) limits word a = elim a [ ]
plain_never (text.Any x) limits word a = elim a [ ]
plain_never {ms = ms} {m = m} (text.Named x) limits word a = name_never (named_module x) (named_type x) limits word
    (subst (λ of. IsAmbiguous ms m of word) (named_is x limits) a)
