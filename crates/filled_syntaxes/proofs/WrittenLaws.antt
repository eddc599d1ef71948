-- WrittenLaws: a text of DEFAULT beside a type is written in its own text, or in that of an assigned type that it names,
-- directly or not, and stands beside this in the same filled syntax (X.680, sections 16 and 25).
use Rattle.std.proofs.Common.{◌≡◌, ◌∙◌, ◌+◌, ℕ, List, [], ◌∷◌, Bool, true, false, Option, Some, refl, sym, ap, arith}
use Rattle.std.specs.Prelude.{◌||◌}
use Rattle.std.proofs.Math.Path.{subst}
use Rattle.std.proofs.lemmas.Bool.{false≢true}
use Rattle.token_grammar.specs.declared.token.Token.{Token}
use Rattle.token_grammar.specs.Form.{Tree}
use Rattle.term_values.specs.Syntaxes.{TypeSyntax, TypeParts}
use Rattle.term_values.specs.Syntaxes.TypeParts.{NoParts, Part}
use Rattle.asn1_names.specs.Containment.{IsMember}
use Rattle.asn1_names.specs.Containment.IsMember.{first, behind}
use Rattle.asn1_names.specs.DefaultTexts.{HasDefault, member_at, part_at}
use Rattle.asn1_names.specs.DefaultTexts.HasDefault.{alternative, component, element, here, named as by_name, tagged as in_tag}
use Rattle.asn1_names.specs.DenotedSyntax.{Denotes, MembersDenote}
use Rattle.asn1_names.specs.DenotedSyntax.Denotes.{tagged as denotes_tagged, sequence, set, choice, sequence_of, set_of}
use Rattle.asn1_names.specs.DenotedSyntax.Denotes.{named as denotes_named, standard}
use Rattle.asn1_names.specs.DenotedSyntax.MembersDenote.{no_members, member}
use Rattle.asn1_names.specs.ModuleTerms.{LimitTerm, MemberTerms, ModuleTerm, PresenceTerm, RangeTerm, TagTerm, TypeTerm}
use Rattle.asn1_names.specs.ModuleTerms.PresenceTerm.{DefaultTerm}
use Rattle.asn1_names.specs.ModuleTerms.TypeTerm.{Under, Structure, Repeated, Alternatives, Reference}
use Rattle.asn1_names.specs.NameMeaning.{reference_meaning, type_at}
use Rattle.asn1_names.specs.NameMeaning.Meaning.{TypeAt}
use Rattle.asn1_names.specs.ResolvedTypes.HasDefaultText.{of_type as text_of_type}
use Rattle.asn1_names.specs.ResolvedTypes.HasSyntax.{of_type}
use Rattle.asn1_names.proofs.OneNumber.{at_type, not_both, same_types}
use Rattle.asn1_numbers.proofs.MeantLaws.{reference_type}
use Rattle.asn1_types.proofs.DefaultLaws.{never_empty, one_member}
use Rattle.asn1_leaf_values.specs.Arcs.{NamedArcs}
use Rattle.filled_syntaxes.specs.FilledSyntaxes.{AreFilled, HasFilled, IsFilled, TextsAt, texts_beside}
use Rattle.filled_syntaxes.specs.WrittenDefaults.{is_default, members_write, writes_default}
use Rattle.filled_syntaxes.proofs.AlikeLaws.{Alike, alike_back, constrained_filled, filled_alike}

-- ---- whether DEFAULT is written

or_true : (a : Bool) → a || true ≡ true
or_true true = refl
or_true false = refl

or_none : (a b : Bool) → a || b ≡ false → (a ≡ false) × (b ≡ false)
or_none true b h = absurd (false≢true (sym h))
or_none false b h = (refl, h)

member_default : {members : MemberTerms} {k : ℕ} {of : TypeTerm} {text : Tree} →
    IsMember members k of (DefaultTerm text) → members_write members ≡ true
member_default first = refl
member_default (behind {other = other} {before = before} h) =
    ap (λ b. (is_default before || writes_default other) || b) (member_default h) ∙
    or_true (is_default before || writes_default other)

member_writes_none : {members : MemberTerms} {k : ℕ} {of : TypeTerm} {presence : PresenceTerm} →
    IsMember members k of presence → members_write members ≡ false → writes_default of ≡ false
member_writes_none (first {of = of} {presence = presence} {rest = rest}) h =
    (or_none (is_default presence) (writes_default of)
    (or_none (is_default presence || writes_default of) (members_write rest) h).0).1
member_writes_none (behind {other = other} {before = before} {rest = rest} is) h =
    member_writes_none is (or_none (is_default before || writes_default other) (members_write rest) h).1

-- ---- the texts in a type

-- the text of DEFAULT at a path in a type, whatever its module
abbrev texts_in : List ModuleTerm → ℕ → TypeTerm → TextsAt
texts_in ms m of path tree = (v : ℕ) × HasDefault ms m of path v tree

pub beside_type : (ms : List ModuleTerm) (m i : ℕ) (of : TypeTerm) →
    Alike (texts_beside ms (TypeAt m i of)) (texts_in ms m of) [] []
beside_type ms m i of = record { to = λ k rest tree h. to h; from = λ k rest tree h. (h.0, text_of_type h.1) }
  where
    to : {path : List ℕ} {tree : Tree} → texts_beside ms (TypeAt m i of) path tree → texts_in ms m of path tree
    to (v, text_of_type h) = (v, h)

component_alike : (ms : List ModuleTerm) (m k : ℕ) (word : Token) (members : MemberTerms) (limits : List LimitTerm)
    (of : TypeTerm) (presence : PresenceTerm) → IsMember members k of presence →
    Alike (texts_in ms m (Structure word members limits)) (texts_in ms m of) (k ∷ []) []
component_alike ms m k word members limits of presence is =
    record { to = λ j rest tree h. to h; from = λ j rest tree h. (h.0, component is h.1) }
  where
    to : {j : ℕ} {rest : List ℕ} {tree : Tree} → texts_in ms m (Structure word members limits) (k ∷ j ∷ rest) tree →
        texts_in ms m of (j ∷ rest) tree
    to {j = j} {rest = rest} {tree = tree} (v, component also h) =
        (v, subst (λ t. HasDefault ms m t (j ∷ rest) v tree) (sym (one_member is also).0) h)

alternative_alike : (ms : List ModuleTerm) (m k : ℕ) (word : Token) (members : MemberTerms) (limits : List LimitTerm)
    (of : TypeTerm) (presence : PresenceTerm) → IsMember members k of presence →
    Alike (texts_in ms m (Alternatives word members limits)) (texts_in ms m of) (k ∷ []) []
alternative_alike ms m k word members limits of presence is =
    record { to = λ j rest tree h. to h; from = λ j rest tree h. (h.0, alternative is h.1) }
  where
    to : {j : ℕ} {rest : List ℕ} {tree : Tree} → texts_in ms m (Alternatives word members limits) (k ∷ j ∷ rest) tree →
        texts_in ms m of (j ∷ rest) tree
    to {j = j} {rest = rest} {tree = tree} (v, alternative also h) =
        (v, subst (λ t. HasDefault ms m t (j ∷ rest) v tree) (sym (one_member is also).0) h)

tag_alike : (ms : List ModuleTerm) (m : ℕ) (tag : TagTerm) (mode : Option Token) (of : TypeTerm) →
    Alike (texts_in ms m (Under tag mode of)) (texts_in ms m of) [] []
tag_alike ms m tag mode of = record { to = λ k rest tree h. to h; from = λ k rest tree h. (h.0, in_tag h.1) }
  where
    to : {path : List ℕ} {tree : Tree} → texts_in ms m (Under tag mode of) path tree → texts_in ms m of path tree
    to (v, in_tag h) = (v, h)

element_alike : (ms : List ModuleTerm) (m : ℕ) (word : Token) (size : Option (List RangeTerm)) (of : TypeTerm) →
    Alike (texts_in ms m (Repeated word size of)) (texts_in ms m of) [] []
element_alike ms m word size of = record { to = λ k rest tree h. to h; from = λ k rest tree h. (h.0, element h.1) }
  where
    to : {path : List ℕ} {tree : Tree} → texts_in ms m (Repeated word size of) path tree → texts_in ms m of path tree
    to (v, element h) = (v, h)

name_alike : (ms : List ModuleTerm) (m v i : ℕ) (module_name : Option Token) (name : Token) (limits : List LimitTerm)
    (of : TypeTerm) → reference_meaning ms m module_name name ≡ TypeAt v i of →
    Alike (texts_in ms m (Reference module_name name limits)) (texts_in ms v of) [] []
name_alike ms m v i module_name name limits of e =
    record { to = λ k rest tree h. to h; from = λ k rest tree h. (h.0, by_name e h.1) }
  where
    to : {path : List ℕ} {tree : Tree} → texts_in ms m (Reference module_name name limits) path tree →
        texts_in ms v of path tree
    to {path = path} {tree = tree} (w, by_name {v = u} {i = j} {of = its} f h) =
        (w, at_type (λ y t. HasDefault ms y t path w tree) v u of its (same_types _ v i u j of its e f) h)

-- ---- components

-- the component at a place, filled
record ComponentFilled (ms : List ModuleTerm) (names : NamedArcs) (T : TextsAt) (m : ℕ) (of : TypeTerm)
    (inner : TypeParts) (k place : ℕ) : Type 0 where
  plain : TypeSyntax
  denotes : Denotes ms m of plain
  filled : TypeSyntax
  is : IsFilled names T (place ∷ []) plain filled
  parts : (j : ℕ) (rest : List ℕ) → member_at inner k (j ∷ rest) ≡ part_at filled (j ∷ rest)

component_filled : {ms : List ModuleTerm} {names : NamedArcs} {T : TextsAt} {m k : ℕ} {members : MemberTerms}
    {parts : TypeParts} {of : TypeTerm} {presence : PresenceTerm} → MembersDenote ms m members parts →
    IsMember members k of presence → (first_place place : ℕ) → place ≡ first_place + k → (inner : TypeParts) →
    AreFilled names T [] first_place parts inner → ComponentFilled ms names T m of inner k place
component_filled no_members h first_place place e inner f = elim h [ ]
component_filled (member d rest) first first_place place e NoParts f = absurd f
component_filled {names = names} {T = T} (member {syntax = s} d rest) first first_place place e (Part n own o v r) f =
    let same : first_place ≡ place = omega (arith, e) in record {
      plain = s;
      denotes = d;
      filled = own;
      is = subst (λ p. IsFilled names T (p ∷ []) s own) same f.1;
      parts = λ j rest. refl;
    }
component_filled (member d rest) (behind h) first_place place e NoParts f = absurd f
component_filled (member d rest) (behind h) first_place place e (Part n own o v r) f =
    let further = component_filled rest h (first_place + 1) place (omega (arith, e)) r f.3 in record {
      plain = further.plain;
      denotes = further.denotes;
      filled = further.filled;
      is = further.is;
      parts = further.parts;
    }

within_component : {ms : List ModuleTerm} {names : NamedArcs} {T : TextsAt} {m v k place : ℕ} {of : TypeTerm}
    {inner : TypeParts} {text : Tree} {part : TypeSyntax} (path : List ℕ)
    (one : ComponentFilled ms names T m of inner k place) → HasDefault ms m of path v text →
    member_at inner k path ≡ Some part → part_at one.filled path ≡ Some part
within_component [] one h is = absurd (never_empty h)
within_component (j ∷ rest) one h is = sym (one.parts j rest) ∙ is

-- ---- where a text is written

-- a text of DEFAULT is written in the text of an assigned type; it is read in this syntax, which is a part of the filled
-- syntax of that type
pub record WrittenAt (ms : List ModuleTerm) (names : NamedArcs) (v : ℕ) (text : Tree) (part : TypeSyntax) : Type 0 where
  pub m : ℕ
  pub i : ℕ
  pub of : TypeTerm
  pub at : type_at ms m i ≡ Some of
  pub writes : writes_default of ≡ true
  pub path : List ℕ
  pub syntax : TypeSyntax
  pub has : HasFilled ms names (TypeAt m i of) syntax
  pub is_part : part_at syntax path ≡ Some part
  pub stands : HasDefault ms m of path v text

pub either_way : (b : Bool) {P : Type 0} → (b ≡ true → P) → (b ≡ false → P) → P
either_way true yes_way other_way = yes_way refl
either_way false yes_way other_way = other_way refl

written : {ms : List ModuleTerm} {names : NamedArcs} {m v : ℕ} {of : TypeTerm} {path : List ℕ} {text : Tree}
    {plain : TypeSyntax} → HasDefault ms m of path v text → Denotes ms m of plain → (whole part : TypeSyntax) →
    IsFilled names (texts_in ms m of) [] plain whole → part_at whole path ≡ Some part → writes_default of ≡ false →
    WrittenAt ms names v text part
written (here is) d whole part f at w = absurd (false≢true (sym w ∙ member_default is))
written {ms = ms} {names = names} {m = m} (component {k = k} {word = word} {members = members} {limits = limits}
    {of = of} {presence = presence} {path = path} is h) (sequence e parts) whole part f at w =
    let one = component_filled parts is 0 k (omega arith) f.0 f.2 in
    written h one.denotes one.filled part
    (filled_alike names (texts_in ms m (Structure word members limits)) (texts_in ms m of) (k ∷ []) []
    (component_alike ms m k word members limits of presence is) one.plain one.filled one.is)
    (within_component path one h (sym (ap (λ s. part_at s (k ∷ path)) f.1) ∙ at)) (member_writes_none is w)
written {ms = ms} {names = names} {m = m} (component {k = k} {word = word} {members = members} {limits = limits}
    {of = of} {presence = presence} {path = path} is h) (set e parts) whole part f at w =
    let one = component_filled parts is 0 k (omega arith) f.0 f.2 in
    written h one.denotes one.filled part
    (filled_alike names (texts_in ms m (Structure word members limits)) (texts_in ms m of) (k ∷ []) []
    (component_alike ms m k word members limits of presence is) one.plain one.filled one.is)
    (within_component path one h (sym (ap (λ s. part_at s (k ∷ path)) f.1) ∙ at)) (member_writes_none is w)
written {ms = ms} {names = names} {m = m} (alternative {k = k} {word = word} {members = members} {limits = limits}
    {of = of} {presence = presence} {path = path} is h) (choice parts) whole part f at w =
    let one = component_filled parts is 0 k (omega arith) f.0 f.2 in
    written h one.denotes one.filled part
    (filled_alike names (texts_in ms m (Alternatives word members limits)) (texts_in ms m of) (k ∷ []) []
    (alternative_alike ms m k word members limits of presence is) one.plain one.filled one.is)
    (within_component path one h (sym (ap (λ s. part_at s (k ∷ path)) f.1) ∙ at)) (member_writes_none is w)
written {ms = ms} {names = names} {m = m} {path = path} (in_tag {tag = tag} {mode = mode} {of = of} h)
    (denotes_tagged {syntax = s} t d) whole part f at w =
    written h d f.0 part
    (filled_alike names (texts_in ms m (Under tag mode of)) (texts_in ms m of) [] [] (tag_alike ms m tag mode of) s f.0
    f.2) (sym (ap (λ s. part_at s path) f.1) ∙ at) w
written {ms = ms} {names = names} {m = m} {path = path} (element {word = word} {size = size} {of = of} h)
    (sequence_of {member = s} e d c) whole part f at w =
    let wide = constrained_filled c whole f in
    written h d wide.is.0 part
    (filled_alike names (texts_in ms m (Repeated word size of)) (texts_in ms m of) [] []
    (element_alike ms m word size of) s wide.is.0 wide.is.2)
    (sym (ap (λ s. part_at s path) wide.is.1) ∙ sym (wide.parts path) ∙ at) w
written {ms = ms} {names = names} {m = m} {path = path} (element {word = word} {size = size} {of = of} h)
    (set_of {member = s} e d c) whole part f at w =
    let wide = constrained_filled c whole f in
    written h d wide.is.0 part
    (filled_alike names (texts_in ms m (Repeated word size of)) (texts_in ms m of) [] []
    (element_alike ms m word size of) s wide.is.0 wide.is.2)
    (sym (ap (λ s. part_at s path) wide.is.1) ∙ sym (wide.parts path) ∙ at) w
written {ms = ms} {names = names} {m = m} {path = path} (by_name {v = v} {i = i} {module_name = module_name}
    {name = name} {limits = limits} {of = of} e h) (denotes_named {v = u} {i = j} {of = its} {unlimited = s} g d c)
    whole part f at w =
    let denotes = at_type (λ y t. Denotes ms y t s) v u of its (same_types _ v i u j of its e g) d in
    let wide = constrained_filled c whole f in
    let is = filled_alike names (texts_in ms m (Reference module_name name limits)) (texts_in ms v of) [] []
    (name_alike ms m v i module_name name limits of e) s wide.other wide.is in
    let is_part = sym (wide.parts path) ∙ at in
    either_way (writes_default of)
    (λ writes. record {
      m = v;
      i = i;
      of = of;
      at = reference_type ms m v i module_name name of e;
      writes = writes;
      path = path;
      syntax = wide.other;
      has = record {
        plain = s;
        has = of_type denotes;
        filled = filled_alike names (texts_in ms v of) (texts_beside ms (TypeAt v i of)) [] []
            (alike_back (texts_beside ms (TypeAt v i of)) (texts_in ms v of) [] [] (beside_type ms v i of)) s wide.other is;
      };
      is_part = is_part;
      stands = h;
    })
    (λ writes. written h denotes wide.other part is is_part writes)
written (by_name {v = v} {i = i} {of = of} e h) (standard {unlimited = u} g c) whole part f at w =
    absurd (not_both _ v i of u e g)

-- beside an assigned type in whose own text none is written
pub written_beside : {ms : List ModuleTerm} {names : NamedArcs} {m v : ℕ} (i : ℕ) {of : TypeTerm} {path : List ℕ}
    {text : Tree} {plain : TypeSyntax} → HasDefault ms m of path v text → Denotes ms m of plain →
    (whole part : TypeSyntax) → IsFilled names (texts_beside ms (TypeAt m i of)) [] plain whole →
    part_at whole path ≡ Some part → writes_default of ≡ false → WrittenAt ms names v text part
written_beside {ms = ms} {names = names} {m = m} i {of = of} {plain = plain} h d whole part f at w =
    written h d whole part (filled_alike names (texts_beside ms (TypeAt m i of)) (texts_in ms m of) [] []
    (beside_type ms m i of) plain whole f) at w
