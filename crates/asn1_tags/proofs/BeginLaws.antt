-- BeginLaws: with which tags types begin (X.680, sections 8.4, 25.6, 27.3, 29.3 and 31).
use Rattle.std.proofs.Common.{◌≡◌, ◌⊎◌, ℕ, List, [], ◌∷◌, ◌++◌, Bool, true, Option, None, Some, refl, sym}
use Rattle.std.proofs.Common.{◌∙◌, ◌+◌, ◌<◌, ◌≤◌, get_or, length, map, take, suc, inl, inr, subst, true≢false}
use Rattle.std.proofs.lemmas.List.{take_all}
use Rattle.asn1_names.proofs.NumberLaws.{map_more}
use Rattle.token_grammar.specs.declared.token.Token.{Token}
use Rattle.term_values.specs.Beginnings.{begins}
use Rattle.term_values.specs.Syntaxes.{TypeSyntax}
use Rattle.term_values.specs.Tag.{is_same_tag}
use Rattle.term_values.specs.declared.tag.Tag.{Tag}
use Rattle.asn1_syntax.specs.declared.plain_type.PlainType.{PlainType}
use Rattle.asn1_syntax.specs.declared.plain_type.PlainType.TheVariants as text
use Rattle.asn1_syntax.specs.declared.type_text.StructureText.{StructureText}
use Rattle.asn1_syntax.specs.declared.type_text.StructureText.TheVariants.{Components', ListOf'}
use Rattle.asn1_names.specs.Containment.{IsCyclic, IsMember}
use Rattle.asn1_names.specs.Containment.IsMember.{first, behind}
use Rattle.asn1_names.specs.ModuleTerms.{LimitTerm, ModuleTerm, PresenceTerm, TagTerm, TypeTerm}
use Rattle.asn1_names.specs.ModuleTerms.MemberTerms.{NoMembers}
use Rattle.asn1_names.specs.ModuleTerms.TypeTerm.{Alternatives, Reference, Under}
use Rattle.asn1_names.specs.NameMeaning.{Meaning, reference_meaning}
use Rattle.asn1_names.specs.NameMeaning.Meaning.{StandardType, TypeAt}
use Rattle.asn1_names.specs.NodeCount.{IsNoType}
use Rattle.asn1_names.specs.TermViews.{plain_term, structure_term}
use Rattle.asn1_names.specs.TypeTags.{Begins, WordBegins, structure_tag}
use Rattle.asn1_names.specs.TypeTags.Begins.{alternative, named, plain, repeated, standard, structure, tagged}
use Rattle.asn1_names.specs.TypeWalks.{IsNoName}
use Rattle.asn1_names.specs.TypeWords.{one_word_type}
use Rattle.asn1_names.specs.WholeNumbers.{IsTag}
use Rattle.asn1_names.proofs.OneNumber.{at_type, not_both, one_tag, same_standard, same_types}
use Rattle.asn1_names.proofs.WalkLaws.{named_is}
use Rattle.asn1_tags.specs.declared.tag_sets.TagSet.{TagSet}
use Rattle.asn1_tags.specs.GatheredTags.{AddsTags, GainsTags, HasTags, has_tag, plain_begins, word_begins}
use Rattle.asn1_tags.specs.MemberRows.{MemberRow, members}
use Rattle.asn1_tags.proofs.TagLaws.{or_cases, or_first, or_second, same_itself, same_tags}

-- ---- a set grows by the tags of a type

second_by : {P Q R : Type 0} → (Q → R) → P ⊎ Q → P ⊎ R
second_by f (inl p) = inl p
second_by f (inr q) = inr (f q)

pub adds_gained : {ms : List ModuleTerm} {m : ℕ} (of : TypeTerm) (before after : TagSet) (test : Tag → Bool) →
    GainsTags before after test → ((tag : Tag) → Begins ms m of tag → test tag ≡ true) →
    ((tag : Tag) → test tag ≡ true → Begins ms m of tag) → AddsTags ms m of before after
adds_gained of before after test gains into out = record {
  kept = λ tag h. gains tag ∙ or_first (has_tag before tag) (test tag) h;
  begun = λ tag b. gains tag ∙ or_second (has_tag before tag) (test tag) (into tag b);
  only = λ tag h. second_by (out tag) (or_cases (has_tag before tag) (test tag) (sym (gains tag) ∙ h));
}

pub adds_nothing : {ms : List ModuleTerm} {m : ℕ} (of : TypeTerm) (set : TagSet) →
    ((tag : Tag) → Begins ms m of tag → ⊥) → AddsTags ms m of set set
adds_nothing of set nothing = record {
  kept = λ tag h. h;
  begun = λ tag b. absurd (nothing tag b);
  only = λ tag h. inl h;
}

-- ---- tags

tagged_begins : {ms : List ModuleTerm} {m : ℕ} {own : TagTerm} {mode : Option Token} {of : TypeTerm} {tag : Tag} →
    Begins ms m (Under own mode of) tag → IsTag ms m own tag
tagged_begins (tagged is) = is

pub adds_own : {ms : List ModuleTerm} {m : ℕ} (text : TagTerm) (mode : Option Token) (of : TypeTerm) (own : Tag)
    (before after : TagSet) → IsTag ms m text own → GainsTags before after (is_same_tag own) →
    AddsTags ms m (Under text mode of) before after
adds_own {ms = ms} {m = m} text mode of own before after is gains =
    adds_gained (Under text mode of) before after (is_same_tag own) gains
    (λ tag b. subst (λ x. is_same_tag own x ≡ true) (one_tag is (tagged_begins b)) (same_itself own))
    (λ tag h. tagged (subst (IsTag ms m text) (same_tags own tag h) is))

pub adds_no_tag : {ms : List ModuleTerm} {m : ℕ} (text : TagTerm) (mode : Option Token) (of : TypeTerm)
    (set : TagSet) → ((tag : Tag) → ¬ IsTag ms m text tag) → AddsTags ms m (Under text mode of) set set
adds_no_tag text mode of set not = adds_nothing (Under text mode of) set (λ tag b. not tag (tagged_begins b))

-- ---- SEQUENCE and SET

structure_begins : {ms : List ModuleTerm} {m : ℕ} {tag : Tag} (word : Token) (content : StructureText) →
    Begins ms m (structure_term word content) tag → tag ≡ structure_tag word
structure_begins word (Components' components constraints) (structure e) = e
structure_begins word (ListOf' size place of) (repeated e) = e

begins_structure : {ms : List ModuleTerm} {m : ℕ} {tag : Tag} (word : Token) (content : StructureText) →
    tag ≡ structure_tag word → Begins ms m (structure_term word content) tag
begins_structure word (Components' components constraints) e = structure e
begins_structure word (ListOf' size place of) e = repeated e

pub adds_structure : {ms : List ModuleTerm} {m : ℕ} (word : Token) (content : StructureText) (before after : TagSet) →
    GainsTags before after (is_same_tag (structure_tag word)) →
    AddsTags ms m (structure_term word content) before after
adds_structure word content before after gains =
    adds_gained (structure_term word content) before after (is_same_tag (structure_tag word)) gains
    (λ tag b. subst (λ x. is_same_tag (structure_tag word) x ≡ true) (sym (structure_begins word content b))
    (same_itself (structure_tag word)))
    (λ tag h. begins_structure word content (sym (same_tags (structure_tag word) tag h)))

-- ---- types that hold no other

word_begins_true : (found : Option TypeSyntax) (tag : Tag) → WordBegins found tag → word_begins found tag ≡ true
word_begins_true None tag h = absurd h
word_begins_true (Some syntax) tag h = h

true_word_begins : (found : Option TypeSyntax) (tag : Tag) → word_begins found tag ≡ true → WordBegins found tag
true_word_begins None tag h = absurd (true≢false (sym h))
true_word_begins (Some syntax) tag h = h

own_true : (own tag : Tag) → tag ≡ own → is_same_tag own tag ≡ true
own_true own tag e = subst (λ x. is_same_tag own x ≡ true) (sym e) (same_itself own)

pub plain_true : {ms : List ModuleTerm} {m : ℕ} (of : PlainType) (limits : List LimitTerm) (tag : Tag) →
    IsNoName (plain_term of limits) → Begins ms m (plain_term of limits) tag → plain_begins of tag ≡ true
plain_true (text.Simple word) limits tag no_name (plain b) = word_begins_true (one_word_type word.text) tag b
plain_true (text.Integer x) limits tag no_name (plain b) = own_true _ tag b
plain_true (text.Enumerated x) limits tag no_name (plain b) = own_true _ tag b
plain_true (text.BitString x) limits tag no_name (plain b) = own_true _ tag b
plain_true (text.OctetString word) limits tag no_name (plain b) = own_true _ tag b
plain_true (text.ObjectIdentifier word) limits tag no_name (plain b) = own_true _ tag b
plain_true (text.Any x) limits tag no_name b = refl
plain_true (text.Named x) limits tag no_name b = absurd (subst IsNoName (named_is x limits) no_name)

pub true_plain : {ms : List ModuleTerm} {m : ℕ} (of : PlainType) (limits : List LimitTerm) (tag : Tag) →
    plain_begins of tag ≡ true → Begins ms m (plain_term of limits) tag
true_plain (text.Simple word) limits tag h = plain (true_word_begins (one_word_type word.text) tag h)
true_plain (text.Integer x) limits tag h = plain (sym (same_tags _ tag h))
true_plain (text.Enumerated x) limits tag h = plain (sym (same_tags _ tag h))
true_plain (text.BitString x) limits tag h = plain (sym (same_tags _ tag h))
true_plain (text.OctetString word) limits tag h = plain (sym (same_tags _ tag h))
true_plain (text.ObjectIdentifier word) limits tag h = plain (sym (same_tags _ tag h))
true_plain (text.Any x) limits tag h = plain tt
true_plain (text.Named x) limits tag h = absurd (true≢false (sym h))

pub adds_plain : {ms : List ModuleTerm} {m : ℕ} (of : PlainType) (limits : List LimitTerm) (before after : TagSet) →
    IsNoName (plain_term of limits) → GainsTags before after (plain_begins of) →
    AddsTags ms m (plain_term of limits) before after
adds_plain of limits before after no_name gains =
    adds_gained (plain_term of limits) before after (plain_begins of) gains
    (λ tag b. plain_true of limits tag no_name b) (λ tag h. true_plain of limits tag h)

-- ---- names

named_begins : {ms : List ModuleTerm} {m v i : ℕ} {module_name : Option Token} {name : Token}
    {limits : List LimitTerm} {of : TypeTerm} {tag : Tag} → reference_meaning ms m module_name name ≡ TypeAt v i of →
    Begins ms m (Reference module_name name limits) tag → Begins ms v of tag
named_begins {ms = ms} {v = v} {i = i} {of = of} {tag = tag} e (named {v = w} {i = j} {of = its} f unless b) =
    at_type (λ x y. Begins ms x y tag) v w of its (same_types _ v i w j of its e f) b
named_begins {v = v} {i = i} {of = of} e (standard {syntax = its} f b) = absurd (not_both _ v i of its e f)

standard_begins : {ms : List ModuleTerm} {m : ℕ} {module_name : Option Token} {name : Token} {limits : List LimitTerm}
    {syntax : TypeSyntax} {tag : Tag} → reference_meaning ms m module_name name ≡ StandardType syntax →
    Begins ms m (Reference module_name name limits) tag → begins syntax tag ≡ true
standard_begins {syntax = syntax} e (named {v = w} {i = j} {of = its} f unless b) =
    absurd (not_both _ w j its syntax f e)
standard_begins {syntax = syntax} {tag = tag} e (standard {syntax = its} f b) =
    subst (λ x. begins x tag ≡ true) (same_standard _ its syntax f e) b

no_type_begins : {ms : List ModuleTerm} {m : ℕ} {module_name : Option Token} {name : Token} {limits : List LimitTerm}
    {tag : Tag} → IsNoType (reference_meaning ms m module_name name) →
    Begins ms m (Reference module_name name limits) tag → ⊥
no_type_begins no_type (named f unless b) = subst IsNoType f no_type
no_type_begins no_type (standard f b) = subst IsNoType f no_type

same_place : (meaning : Meaning) (v i w j : ℕ) (of other : TypeTerm) → meaning ≡ TypeAt v i of →
    meaning ≡ TypeAt w j other → (v ≡ w) × (i ≡ j)
same_place meaning v i w j of other h k = (cc, cc)

cyclic_begins : {ms : List ModuleTerm} {m v i : ℕ} {module_name : Option Token} {name : Token}
    {limits : List LimitTerm} {of : TypeTerm} {tag : Tag} → reference_meaning ms m module_name name ≡ TypeAt v i of →
    IsCyclic ms v i → Begins ms m (Reference module_name name limits) tag → ⊥
cyclic_begins {ms = ms} {v = v} {i = i} {of = of} e cyclic (named {v = w} {i = j} {of = its} f unless b) =
    let same = same_place _ v i w j of its e f in
    unless (subst (λ x. IsCyclic ms x j) same.0 (subst (λ x. IsCyclic ms v x) same.1 cyclic))
cyclic_begins {v = v} {i = i} {of = of} e cyclic (standard {syntax = its} f b) = absurd (not_both _ v i of its e f)

pub adds_named : {ms : List ModuleTerm} {m v i : ℕ} (module_name : Option Token) (name : Token)
    (limits : List LimitTerm) (of : TypeTerm) (set before after : TagSet) →
    reference_meaning ms m module_name name ≡ TypeAt v i of → ¬ IsCyclic ms v i → HasTags ms v of set →
    GainsTags before after (has_tag set) → AddsTags ms m (Reference module_name name limits) before after
adds_named module_name name limits of set before after e unless has gains =
    adds_gained (Reference module_name name limits) before after (has_tag set) gains
    (λ tag b. has.begun tag (named_begins e b)) (λ tag h. named e unless (has.only tag h))

pub name_has : {ms : List ModuleTerm} {m v i : ℕ} (module_name : Option Token) (name : Token)
    (limits : List LimitTerm) (of : TypeTerm) (set : TagSet) → reference_meaning ms m module_name name ≡ TypeAt v i of →
    ¬ IsCyclic ms v i → HasTags ms v of set → HasTags ms m (Reference module_name name limits) set
name_has module_name name limits of set e unless has = record {
  begun = λ tag b. has.begun tag (named_begins e b);
  only = λ tag h. named e unless (has.only tag h);
}

pub adds_standard : {ms : List ModuleTerm} {m : ℕ} (module_name : Option Token) (name : Token)
    (limits : List LimitTerm) (syntax : TypeSyntax) (before after : TagSet) →
    reference_meaning ms m module_name name ≡ StandardType syntax → GainsTags before after (begins syntax) →
    AddsTags ms m (Reference module_name name limits) before after
adds_standard module_name name limits syntax before after e gains =
    adds_gained (Reference module_name name limits) before after (begins syntax) gains
    (λ tag b. standard_begins e b) (λ tag h. standard e h)

pub adds_unknown : {ms : List ModuleTerm} {m : ℕ} (module_name : Option Token) (name : Token)
    (limits : List LimitTerm) (set : TagSet) → IsNoType (reference_meaning ms m module_name name) →
    AddsTags ms m (Reference module_name name limits) set set
adds_unknown module_name name limits set no_type =
    adds_nothing (Reference module_name name limits) set (λ tag b. no_type_begins no_type b)

pub adds_cyclic : {ms : List ModuleTerm} {m v i : ℕ} (module_name : Option Token) (name : Token)
    (limits : List LimitTerm) (of : TypeTerm) (set : TagSet) → reference_meaning ms m module_name name ≡ TypeAt v i of →
    IsCyclic ms v i → AddsTags ms m (Reference module_name name limits) set set
adds_cyclic module_name name limits of set e cyclic =
    adds_nothing (Reference module_name name limits) set (λ tag b. cyclic_begins e cyclic b)

-- ---- alternatives

pub no_member : {k : ℕ} {of : TypeTerm} {presence : PresenceTerm} → IsMember NoMembers k of presence → ⊥
no_member is = elim is [ ]

-- a member of a list with one more is a member of the list, or this one
pub member_split : {k : ℕ} {of : TypeTerm} {presence : PresenceTerm} (rows : List MemberRow) (x : MemberRow) →
    IsMember (members (rows ++ x ∷ [])) k of presence → IsMember (members rows) k of presence ⊎ (of ≡ x.of)
member_split [] x first = inr refl
member_split [] x (behind is) = absurd (no_member is)
member_split (y ∷ ys) x first = inl first
member_split (y ∷ ys) x (behind is) = by (member_split ys x is)
  where
    by : {k : ℕ} {of : TypeTerm} {presence : PresenceTerm} → IsMember (members ys) k of presence ⊎ (of ≡ x.of) →
        IsMember (members (y ∷ ys)) (suc k) of presence ⊎ (of ≡ x.of)
    by (inl is) = inl (behind is)
    by (inr e) = inr e

pub member_front : {k : ℕ} {of : TypeTerm} {presence : PresenceTerm} (rows others : List MemberRow) →
    IsMember (members rows) k of presence → IsMember (members (rows ++ others)) k of presence
member_front [] others is = absurd (no_member is)
member_front (y ∷ ys) others first = first
member_front (y ∷ ys) others (behind is) = behind (member_front ys others is)

pub member_last : (rows : List MemberRow) (x : MemberRow) →
    (k : ℕ) × IsMember (members (rows ++ x ∷ [])) k x.of x.presence
member_last [] x = (0, first)
member_last (y ∷ ys) x = let last = member_last ys x in (suc last.0, behind last.1)

-- a member of a list begins with the tag
pub record BeginsOne (ms : List ModuleTerm) (m : ℕ) (rows : List MemberRow) (tag : Tag) : Type 0 where
  pub place : ℕ
  pub of : TypeTerm
  pub presence : PresenceTerm
  pub member : IsMember (members rows) place of presence
  pub begins : Begins ms m of tag

-- one set has the tags of another one, and those with which the members of a list begin
pub record AddsMembers (ms : List ModuleTerm) (m : ℕ) (rows : List MemberRow) (before after : TagSet) : Type 0 where
  pub kept : (tag : Tag) → has_tag before tag ≡ true → has_tag after tag ≡ true
  pub begun : (k : ℕ) (of : TypeTerm) (presence : PresenceTerm) (tag : Tag) → IsMember (members rows) k of presence →
      Begins ms m of tag → has_tag after tag ≡ true
  pub only : (tag : Tag) → has_tag after tag ≡ true → (has_tag before tag ≡ true) ⊎ BeginsOne ms m rows tag

pub adds_none : {ms : List ModuleTerm} {m : ℕ} (set : TagSet) → AddsMembers ms m [] set set
adds_none set = record {
  kept = λ tag h. h;
  begun = λ k of presence tag is b. absurd (no_member is);
  only = λ tag h. inl h;
}

more_begun : {ms : List ModuleTerm} {m k : ℕ} {of : TypeTerm} {presence : PresenceTerm} {tag : Tag}
    (rows : List MemberRow) (x : MemberRow) (before now after : TagSet) → AddsMembers ms m rows before now →
    AddsTags ms m x.of now after → IsMember (members rows) k of presence ⊎ (of ≡ x.of) → Begins ms m of tag →
    has_tag after tag ≡ true
more_begun {k = k} {of = of} {presence = presence} {tag = tag} rows x before now after so_far more (inl is) b =
    more.kept tag (so_far.begun k of presence tag is b)
more_begun {ms = ms} {m = m} {tag = tag} rows x before now after so_far more (inr e) b =
    more.begun tag (subst (λ of. Begins ms m of tag) e b)

more_only : {ms : List ModuleTerm} {m : ℕ} (rows : List MemberRow) (x : MemberRow) (before now : TagSet) (tag : Tag) →
    AddsMembers ms m rows before now → (has_tag now tag ≡ true) ⊎ Begins ms m x.of tag →
    (has_tag before tag ≡ true) ⊎ BeginsOne ms m (rows ++ x ∷ []) tag
more_only rows x before now tag so_far (inl h) = second_by (λ b. record {
  place = b.place;
  of = b.of;
  presence = b.presence;
  member = member_front rows (x ∷ []) b.member;
  begins = b.begins;
}) (so_far.only tag h)
more_only rows x before now tag so_far (inr b) = let last = member_last rows x in inr (record {
  place = last.0;
  of = x.of;
  presence = x.presence;
  member = last.1;
  begins = b;
})

pub adds_more : {ms : List ModuleTerm} {m : ℕ} (rows : List MemberRow) (x : MemberRow) (before now after : TagSet) →
    AddsMembers ms m rows before now → AddsTags ms m x.of now after →
    AddsMembers ms m (rows ++ x ∷ []) before after
adds_more rows x before now after so_far more = record {
  kept = λ tag h. more.kept tag (so_far.kept tag h);
  begun = λ k of presence tag is b. more_begun rows x before now after so_far more (member_split rows x is) b;
  only = λ tag h. more_only rows x before now tag so_far (more.only tag h);
}

choice_begins : {ms : List ModuleTerm} {m : ℕ} {word : Token} {limits : List LimitTerm} {tag : Tag}
    (rows : List MemberRow) → Begins ms m (Alternatives word (members rows) limits) tag → BeginsOne ms m rows tag
choice_begins rows (alternative {k = k} {of = of} {presence = presence} is b) =
    record { place = k; of = of; presence = presence; member = is; begins = b }

pub adds_choice : {ms : List ModuleTerm} {m : ℕ} (word : Token) (rows : List MemberRow) (limits : List LimitTerm)
    (before after : TagSet) → AddsMembers ms m rows before after →
    AddsTags ms m (Alternatives word (members rows) limits) before after
adds_choice word rows limits before after adds = record {
  kept = adds.kept;
  begun = λ tag b. let one = choice_begins rows b in adds.begun one.place one.of one.presence tag one.member one.begins;
  only = λ tag h. second_by (λ one. alternative one.member one.begins) (adds.only tag h);
}

-- one more of a list
pub adds_step : {X : Type 0} {ms : List ModuleTerm} {m : ℕ} (f : X → MemberRow) (xs : List X) (i : ℕ) (x : X)
    (before now after : TagSet) → i < length xs → x ≡ get_or xs i x →
    AddsMembers ms m (map f (take i xs)) before now → AddsTags ms m (f x).of now after →
    AddsMembers ms m (map f (take (i + 1) xs)) before after
adds_step {ms = ms} {m = m} f xs i x before now after within is so_far more =
    subst (λ rows. AddsMembers ms m rows before after) (sym (map_more f xs i x within is))
    (adds_more (map f (take i xs)) (f x) before now after so_far more)

pub adds_end : {X : Type 0} {ms : List ModuleTerm} {m : ℕ} (f : X → MemberRow) (xs : List X) (i : ℕ)
    (before after : TagSet) → length xs ≤ i → AddsMembers ms m (map f (take i xs)) before after →
    AddsMembers ms m (map f xs) before after
adds_end {ms = ms} {m = m} f xs i before after past =
    subst (λ (ys : List _). AddsMembers ms m (map f ys) before after) (take_all i xs past)
