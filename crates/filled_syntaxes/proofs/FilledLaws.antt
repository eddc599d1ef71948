-- FilledLaws: a syntax is filled in one way, and texts of DEFAULT stand at components that may be left out (X.680, section
-- 25).
use Rattle.std.proofs.Common.{◌≡◌, ◌∙◌, ◌+◌, ℕ, List, [], ◌∷◌, ◌++◌, Bool, true, Option, Some, refl}
use Rattle.std.proofs.Common.{sym, ap}
use Rattle.std.specs.Prelude.{ℤ}
use Rattle.std.proofs.Math.Path.{subst}
use Rattle.token_grammar.specs.Form.{Tree}
use Rattle.term_values.specs.Syntaxes.{TypeSyntax, TypeParts}
use Rattle.term_values.specs.Syntaxes.TypeSyntax.{Boolean, Integer, Enumerated, BitString, OctetString, NullType}
use Rattle.term_values.specs.Syntaxes.TypeSyntax.{ObjectIdentifier, TextString, GeneralizedTime, Sequence, SetType}
use Rattle.term_values.specs.Syntaxes.TypeSyntax.{SequenceOf, SetOf, Choice, Tagged, Any, Filter}
use Rattle.term_values.specs.Syntaxes.TypeParts.{NoParts, Part}
use Rattle.term_values.specs.Typed.{TypedValue}
use Rattle.term_values.specs.declared.tag.Tag.{Tag}
use Rattle.asn1_names.specs.Constraining.{Constrains, Narrows}
use Rattle.asn1_names.specs.Constraining.Constrains.{no_more, another}
use Rattle.asn1_names.specs.Constraining.Narrows.{values, bits, octets, characters, elements, members as set_members}
use Rattle.asn1_names.specs.Constraining.Narrows.{tagged as narrows_tagged}
use Rattle.asn1_names.specs.Containment.{IsMember}
use Rattle.asn1_names.specs.Containment.IsMember.{first, behind}
use Rattle.asn1_names.specs.DefaultTexts.{HasDefault}
use Rattle.asn1_names.specs.DefaultTexts.HasDefault.{alternative, component, element, here, named as by_name, tagged as in_tag}
use Rattle.asn1_names.specs.DenotedSyntax.{Denotes, MembersDenote, has_implicit_default, is_explicit}
use Rattle.asn1_names.specs.DenotedSyntax.Denotes.{tagged as denotes_tagged, sequence, set, choice, sequence_of, set_of}
use Rattle.asn1_names.specs.DenotedSyntax.Denotes.{named as denotes_named, standard}
use Rattle.asn1_names.specs.DenotedSyntax.MembersDenote.{no_members, member}
use Rattle.asn1_names.specs.ModuleTerms.{LimitTerm, MemberTerms, ModuleTerm, PresenceTerm, TypeTerm}
use Rattle.asn1_names.specs.NameMeaning.{Meaning}
use Rattle.asn1_names.specs.NameMeaning.Meaning.{StandardType, TypeAt}
use Rattle.asn1_names.specs.ResolvedTypes.{HasDefaultText, HasSyntax}
use Rattle.asn1_names.specs.ResolvedTypes.HasDefaultText.{of_type as text_of_type, of_value as text_of_value}
use Rattle.asn1_names.specs.ResolvedTypes.HasSyntax.{of_standard, of_type, of_value}
use Rattle.asn1_names.specs.TagClashes.{may_be_absent}
use Rattle.asn1_names.proofs.DenotedOnce.{one_syntax}
use Rattle.asn1_names.proofs.OneNumber.{at_type, same_types}
use Rattle.asn1_types.proofs.DefaultLaws.{never_empty}
use Rattle.asn1_types.proofs.DefaultOnce.{one_default_text}
use Rattle.asn1_leaf_values.specs.Arcs.{NamedArcs}
use Rattle.filled_syntaxes.specs.BadDefaults.{StandWhere, may_miss_at, member_may_miss, within_may_miss}
use Rattle.filled_syntaxes.specs.FilledSyntaxes.{AreFilled, HasFilled, IsFilled, IsPresence, TextsAt, texts_beside}
use Rattle.filled_syntaxes.specs.FilledSyntaxes.IsPresence.{with_none, with_value, without}
use Rattle.filled_syntaxes.specs.SaidTexts.{DenotesNone, DenotesValue}
use Rattle.filled_syntaxes.proofs.SaidLaws.{not_both, one_value}

-- ---- a syntax is filled in one way

-- at most one text stands in a place
abbrev IsOne : (Tree → Type 0) → Type 0
IsOne Text = (one other : Tree) → Text one → Text other → one ≡ other

presence_once : (names : NamedArcs) (Text : Tree → Type 0) → IsOne Text → (syntax : TypeSyntax) (optional : Bool)
    {may its : Bool} {value other : Option TypedValue} → IsPresence names Text syntax optional may value →
    IsPresence names Text syntax optional its other → (may ≡ its) × (value ≡ other)
presence_once names Text u syntax optional (without n) (without k) = (refl, refl)
presence_once names Text u syntax optional (without n) (with_value {tree = t} h d) = absurd (n t h)
presence_once names Text u syntax optional (without n) (with_none {tree = t} h d) = absurd (n t h)
presence_once names Text u syntax optional (with_value {tree = t} h d) (without n) = absurd (n t h)
presence_once names Text u syntax optional (with_value {tree = s} {value = v} h d) (with_value {tree = t} {value = w} k e) =
    let same = one_value names syntax s d (subst (λ z. DenotesValue names syntax z w) (u t s k h) e) in
    (refl, ap Some same)
presence_once names Text u syntax optional (with_value {tree = s} h d) (with_none {tree = t} {at = at} k e) =
    absurd (not_both names syntax s d (subst (λ z. DenotesNone names syntax z at) (u t s k h) e))
presence_once names Text u syntax optional (with_none {tree = t} h d) (without n) = absurd (n t h)
presence_once names Text u syntax optional (with_none {tree = s} {at = at} h d) (with_value {tree = t} k e) =
    absurd (not_both names syntax t e (subst (λ z. DenotesNone names syntax z at) (u s t h k) d))
presence_once names Text u syntax optional (with_none h d) (with_none k e) = (refl, refl)

mutual
  filled_once : (names : NamedArcs) (T : TextsAt) → ((path : List ℕ) → IsOne (T path)) → (path : List ℕ)
      (syntax one other : TypeSyntax) → IsFilled names T path syntax one → IsFilled names T path syntax other →
      one ≡ other
  filled_once names T u path (Sequence parts) one other h k =
      h.1 ∙ ap Sequence (parts_once names T u path 0 parts h.0 k.0 h.2 k.2) ∙ sym k.1
  filled_once names T u path (SetType parts) one other h k =
      h.1 ∙ ap SetType (parts_once names T u path 0 parts h.0 k.0 h.2 k.2) ∙ sym k.1
  filled_once names T u path (Choice parts) one other h k =
      h.1 ∙ ap Choice (parts_once names T u path 0 parts h.0 k.0 h.2 k.2) ∙ sym k.1
  filled_once names T u path (SequenceOf one_of sizes) one other h k =
      h.1 ∙ ap (λ x. SequenceOf x sizes) (filled_once names T u path one_of h.0 k.0 h.2 k.2) ∙ sym k.1
  filled_once names T u path (SetOf one_of sizes) one other h k =
      h.1 ∙ ap (λ x. SetOf x sizes) (filled_once names T u path one_of h.0 k.0 h.2 k.2) ∙ sym k.1
  filled_once names T u path (Tagged tag explicit of) one other h k =
      h.1 ∙ ap (Tagged tag explicit) (filled_once names T u path of h.0 k.0 h.2 k.2) ∙ sym k.1
  filled_once names T u path Boolean one other h k = h ∙ sym k
  filled_once names T u path (Integer n r) one other h k = h ∙ sym k
  filled_once names T u path (Enumerated n) one other h k = h ∙ sym k
  filled_once names T u path (BitString n r) one other h k = h ∙ sym k
  filled_once names T u path (OctetString r) one other h k = h ∙ sym k
  filled_once names T u path NullType one other h k = h ∙ sym k
  filled_once names T u path ObjectIdentifier one other h k = h ∙ sym k
  filled_once names T u path (TextString c r) one other h k = h ∙ sym k
  filled_once names T u path GeneralizedTime one other h k = h ∙ sym k
  filled_once names T u path Any one other h k = h ∙ sym k
  filled_once names T u path Filter one other h k = h ∙ sym k

  parts_once : (names : NamedArcs) (T : TextsAt) → ((path : List ℕ) → IsOne (T path)) → (path : List ℕ) (k : ℕ)
      (parts one other : TypeParts) → AreFilled names T path k parts one → AreFilled names T path k parts other →
      one ≡ other
  parts_once names T u path k NoParts NoParts NoParts h g = refl
  parts_once names T u path k NoParts NoParts (Part n s o d r) h g = absurd g
  parts_once names T u path k NoParts (Part n s o d r) other h g = absurd h
  parts_once names T u path k (Part n s o d r) NoParts other h g = absurd h
  parts_once names T u path k (Part n s o d r) (Part n1 s1 o1 d1 r1) NoParts h g = absurd g
  parts_once names T u path k (Part n s o d r) (Part n1 s1 o1 d1 r1) (Part n2 s2 o2 d2 r2) h g =
      let name = h.0 ∙ sym g.0 in
      let inner = filled_once names T u (path ++ k ∷ []) s s1 s2 h.1 g.1 in
      let presence = presence_once names (T (path ++ k ∷ [])) (u (path ++ k ∷ [])) s2 o
      (subst (λ x. IsPresence names (T (path ++ k ∷ [])) x o o1 d1) inner h.2) g.2 in
      let rest = parts_once names T u path (k + 1) r r1 r2 h.3 g.3 in
      λ i. Part (name i) (inner i) (presence.0 i) (presence.1 i) (rest i)

plain_once : {ms : List ModuleTerm} {meant : Meaning} {one other : TypeSyntax} → HasSyntax ms meant one →
    HasSyntax ms meant other → one ≡ other
plain_once (of_type d) (of_type e) = one_syntax d e
plain_once (of_value d) (of_value e) = one_syntax d e
plain_once of_standard of_standard = refl

beside_once : (ms : List ModuleTerm) (meant : Meaning) (path : List ℕ) → IsOne (texts_beside ms meant path)
beside_once ms meant path one other h k = (one_default_text h.1 k.1).1

pub has_once : (ms : List ModuleTerm) (names : NamedArcs) (meant : Meaning) {one other : TypeSyntax} →
    HasFilled ms names meant one → HasFilled ms names meant other → one ≡ other
has_once ms names meant {one = one} {other = other} h k =
    filled_once names (texts_beside ms meant) (beside_once ms meant) [] k.plain one other
    (subst (λ s. IsFilled names (texts_beside ms meant) [] s one) (plain_once h.has k.has) h.filled) k.filled

-- ---- texts stand at components that may be left out

tag_misses : (tag : Tag) (explicit : Bool) (of : TypeSyntax) (path : List ℕ) → within_may_miss of path ≡ true →
    within_may_miss (Tagged tag explicit of) path ≡ true
tag_misses tag explicit of [] h = refl
tag_misses tag explicit of (k ∷ path) h = h

narrowed_misses : {ranges : List (ℤ × ℤ)} {is_size : Bool} {before after : TypeSyntax} →
    Narrows ranges is_size before after → (k : ℕ) (path : List ℕ) →
    may_miss_at before (k ∷ path) ≡ may_miss_at after (k ∷ path)
narrowed_misses (values h) k path = refl
narrowed_misses (bits h) k path = refl
narrowed_misses (octets h) k path = refl
narrowed_misses (characters h) k path = refl
narrowed_misses (elements h) k path = refl
narrowed_misses (set_members h) k path = refl
narrowed_misses (narrows_tagged h) k path = narrowed_misses h k path

constrained_misses : {ms : List ModuleTerm} {m : ℕ} {of : TypeTerm} {limits : List LimitTerm}
    {before after : TypeSyntax} → Constrains ms m of limits before after → (k : ℕ) (path : List ℕ) →
    may_miss_at before (k ∷ path) ≡ may_miss_at after (k ∷ path)
constrained_misses no_more k path = refl
constrained_misses (another ranges narrows rest) k path = narrowed_misses narrows k path ∙ constrained_misses rest k path

still_misses : {ms : List ModuleTerm} {m : ℕ} {of : TypeTerm} {limits : List LimitTerm} (before after : TypeSyntax)
    (path : List ℕ) → Constrains ms m of limits before after → within_may_miss before path ≡ true →
    within_may_miss after path ≡ true
still_misses before after [] c h = refl
still_misses before after (k ∷ path) c h = sym (constrained_misses c k path) ∙ h

list_misses : (one_of list : TypeSyntax) (path : List ℕ) → ((k : ℕ) (rest : List ℕ) →
    may_miss_at list (k ∷ rest) ≡ may_miss_at one_of (k ∷ rest)) → within_may_miss one_of path ≡ true →
    within_may_miss list path ≡ true
list_misses one_of list [] same h = refl
list_misses one_of list (k ∷ path) same h = same k path ∙ h

own_misses : {ms : List ModuleTerm} {m k : ℕ} {members : MemberTerms} {parts : TypeParts} {of : TypeTerm}
    {presence : PresenceTerm} → MembersDenote ms m members parts → IsMember members k of presence →
    member_may_miss parts k [] ≡ may_be_absent presence
own_misses no_members h = elim h [ ]
own_misses (member d rest) first = refl
own_misses (member d rest) (behind h) = own_misses rest h

-- what the component at a place denotes
record MemberAt (ms : List ModuleTerm) (m : ℕ) (of : TypeTerm) (parts : TypeParts) (k : ℕ) : Type 0 where
  syntax : TypeSyntax
  denotes : Denotes ms m of syntax
  misses : (j : ℕ) (rest : List ℕ) → member_may_miss parts k (j ∷ rest) ≡ may_miss_at syntax (j ∷ rest)

member_at_place : {ms : List ModuleTerm} {m k : ℕ} {members : MemberTerms} {parts : TypeParts} {of : TypeTerm}
    {presence : PresenceTerm} → MembersDenote ms m members parts → IsMember members k of presence →
    MemberAt ms m of parts k
member_at_place no_members h = elim h [ ]
member_at_place (member {syntax = s} d rest) first = record { syntax = s; denotes = d; misses = λ j r. refl }
member_at_place (member d rest) (behind h) =
    let further = member_at_place rest h in
    record { syntax = further.syntax; denotes = further.denotes; misses = further.misses }

member_misses : {ms : List ModuleTerm} {m k v : ℕ} {of : TypeTerm} {parts : TypeParts} {text : Tree} (path : List ℕ)
    (at : MemberAt ms m of parts k) → HasDefault ms m of path v text → within_may_miss at.syntax path ≡ true →
    member_may_miss parts k path ≡ true
member_misses [] at h is = absurd (never_empty h)
member_misses (j ∷ rest) at h is = at.misses j rest ∙ is

misses : {ms : List ModuleTerm} {m v : ℕ} {of : TypeTerm} {syntax : TypeSyntax} {path : List ℕ} {text : Tree} →
    HasDefault ms m of path v text → Denotes ms m of syntax → within_may_miss syntax path ≡ true
misses {ms = ms} {m = m} {path = path} (in_tag h) (denotes_tagged {mode = mode} {tag = tag} {syntax = s} t d) =
    tag_misses tag (is_explicit (has_implicit_default ms m) mode s) s path (misses h d)
misses (here is) (sequence e parts) = own_misses parts is
misses (here is) (set e parts) = own_misses parts is
misses (component {path = path} is h) (sequence e parts) =
    let at = member_at_place parts is in member_misses path at h (misses h at.denotes)
misses (component {path = path} is h) (set e parts) =
    let at = member_at_place parts is in member_misses path at h (misses h at.denotes)
misses (alternative {path = path} is h) (choice parts) =
    let at = member_at_place parts is in member_misses path at h (misses h at.denotes)
misses {path = path} (element h) (sequence_of {member = one} {syntax = s} e d c) =
    still_misses (SequenceOf one []) s path c (list_misses one (SequenceOf one []) path (λ k r. refl) (misses h d))
misses {path = path} (element h) (set_of {member = one} {syntax = s} e d c) =
    still_misses (SetOf one []) s path c (list_misses one (SetOf one []) path (λ k r. refl) (misses h d))
misses {ms = ms} {path = path} (by_name {v = v} {i = i} {of = of} e h)
    (denotes_named {v = w} {i = j} {of = its} {unlimited = u} {syntax = s} f d c) =
    still_misses u s path c
    (misses h (at_type (λ y t. Denotes ms y t u) v w of its (same_types _ v i w j of its e f) d))
misses (by_name e h) (standard f c) = absurd (apart e f)
  where
    apart : {meaning : Meaning} {v i : ℕ} {of : TypeTerm} {syntax : TypeSyntax} →
        meaning ≡ TypeAt v i of →
        meaning ≡ StandardType syntax → ⊥
    apart e f = absurd (cc)

-- those beside the syntax of a meaning
pub text_misses : (ms : List ModuleTerm) (meant : Meaning) (syntax : TypeSyntax) → HasSyntax ms meant syntax →
    StandWhere ms meant [] (within_may_miss syntax)
text_misses ms meant syntax has = λ rest v text stands. by has stands
  where
    by : {meant : Meaning} {syntax : TypeSyntax} {rest : List ℕ} {v : ℕ} {text : Tree} → HasSyntax ms meant syntax →
        HasDefaultText ms meant rest v text → within_may_miss syntax rest ≡ true
    by (of_type d) (text_of_type h) = misses h d
    by (of_value d) (text_of_value h) = misses h d
    by of_standard h = elim h [ ]
