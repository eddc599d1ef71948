-- FilledApart: the components of a syntax with the values of its DEFAULTs are as far apart as those of the one without
-- (X.680, sections 25.6, 27.3 and 29.3).
use Rattle.std.proofs.Common.{◌≡◌, ◌∙◌, ◌+◌, ◌||◌, ◌&&◌, ℕ, List, [], ◌∷◌, ◌++◌, Bool, true, false, Option, refl, sym}
use Rattle.std.proofs.Common.{ap, is_some, subst, true≢false}
use Rattle.std.specs.Prelude.{not}
use Rattle.std.proofs.lemmas.Bool.{and_parts}
use Rattle.token_grammar.specs.Form.{Tree}
use Rattle.term_values.specs.Beginnings.{first_tags}
use Rattle.term_values.specs.Soundness.{are_all_apart, are_apart, are_runs_apart, is_apart_from_all, is_apart_from_next}
use Rattle.term_values.specs.Soundness.{may_be_absent}
use Rattle.term_values.specs.Syntaxes.{TypeSyntax, TypeParts}
use Rattle.term_values.specs.Syntaxes.TypeParts.{NoParts, Part}
use Rattle.term_values.specs.Typed.{TypedValue}
use Rattle.term_values.specs.declared.tag.Tag.{Tag}
use Rattle.asn1_leaf_values.specs.Arcs.{NamedArcs}
use Rattle.filled_syntaxes.specs.FilledSyntaxes.{AreFilled, IsPresence, TextsAt}
use Rattle.filled_syntaxes.specs.FilledSyntaxes.IsPresence.{with_none, with_value, without}
use Rattle.sound_laws.proofs.TagLists.{and_both}
use Rattle.sound_laws.proofs.FilledTags.{filled_tags}
use Rattle.sound_laws.proofs.StandingTexts.{StandAmong, stand_others, stand_own}

all_same : (names : NamedArcs) (T : TextsAt) (path : List ℕ) (k : ℕ) (tags : Option (List Tag))
    (parts after : TypeParts) → AreFilled names T path k parts after →
    is_apart_from_all tags parts ≡ is_apart_from_all tags after
all_same names T path k tags NoParts NoParts h = refl
all_same names T path k tags NoParts (Part n1 s1 o1 d1 r1) h = absurd h
all_same names T path k tags (Part n s o d r) NoParts h = absurd h
all_same names T path k tags (Part n s o d r) (Part n1 s1 o1 d1 r1) h =
    let own = filled_tags names T (path ++ k ∷ []) s s1 h.1 in
    let rest = all_same names T path (k + 1) tags r r1 h.3 in
    λ i. are_apart tags (own i) && rest i

pub all_apart_same : (names : NamedArcs) (T : TextsAt) (path : List ℕ) (k : ℕ) (parts after : TypeParts) →
    AreFilled names T path k parts after → are_all_apart parts ≡ are_all_apart after
all_apart_same names T path k NoParts NoParts h = refl
all_apart_same names T path k NoParts (Part n1 s1 o1 d1 r1) h = absurd h
all_apart_same names T path k (Part n s o d r) NoParts h = absurd h
all_apart_same names T path k (Part n s o d r) (Part n1 s1 o1 d1 r1) h =
    let own = ap (λ tags. is_apart_from_all tags r) (filled_tags names T (path ++ k ∷ []) s s1 h.1) ∙
    all_same names T path (k + 1) (first_tags s1) r r1 h.3 in
    let rest = all_apart_same names T path (k + 1) r r1 h.3 in
    λ i. own i && rest i

or_false : (a : Bool) → (a || false) ≡ true → a ≡ true
or_false true h = refl
or_false false h = h

or_first : (a b : Bool) → a ≡ true → (a || b) ≡ true
or_first a b e = ap (λ x. x || b) e

-- what may be absent with its DEFAULT's value may be without
absent_before : (names : NamedArcs) (Text : Tree → Type 0) (syntax : TypeSyntax) (optional : Bool)
    (default : Option TypedValue) {may : Bool} {value : Option TypedValue} →
    IsPresence names Text syntax optional may value → ((text : Tree) → Text text → optional ≡ true) →
    may_be_absent may value ≡ true → may_be_absent optional default ≡ true
absent_before names Text syntax optional default (without none_there) stand absent =
    or_first optional (is_some default) (or_false optional absent)
absent_before names Text syntax optional default (with_value {tree = text} there denotes) stand absent =
    or_first optional (is_some default) (stand text there)
absent_before names Text syntax optional default (with_none {tree = text} there denotes) stand absent =
    or_first optional (is_some default) (stand text there)

still : (before after one other : Bool) → (after ≡ true → before ≡ true) → (one ≡ true → other ≡ true) →
    (not before || one) ≡ true → (not after || other) ≡ true
still before false one other weaker further h = refl
still true true one other weaker further h = further h
still false true one other weaker further h = absurd (true≢false (sym (weaker refl)))

next_still : (names : NamedArcs) (T : TextsAt) (path : List ℕ) (k : ℕ) (tags : Option (List Tag))
    (parts after : TypeParts) → AreFilled names T path k parts after → StandAmong T path k parts →
    is_apart_from_next tags parts ≡ true → is_apart_from_next tags after ≡ true
next_still names T path k tags NoParts NoParts h stand apart = refl
next_still names T path k tags NoParts (Part n1 s1 o1 d1 r1) h stand apart = absurd h
next_still names T path k tags (Part n s o d r) NoParts h stand apart = absurd h
next_still names T path k tags (Part n s o d r) (Part n1 s1 o1 d1 r1) h stand apart =
    let both = and_parts (are_apart tags (first_tags s))
    (not (may_be_absent o d) || is_apart_from_next tags r) apart in
    and_both (are_apart tags (first_tags s1)) (not (may_be_absent o1 d1) || is_apart_from_next tags r1)
    (subst (λ its. are_apart tags its ≡ true) (filled_tags names T (path ++ k ∷ []) s s1 h.1) both.0)
    (still (may_be_absent o d) (may_be_absent o1 d1) (is_apart_from_next tags r) (is_apart_from_next tags r1)
    (absent_before names (T (path ++ k ∷ [])) s1 o d h.2 (stand_own T path k n s o d r stand))
    (next_still names T path (k + 1) tags r r1 h.3 (stand_others T path k n s o d r stand)) both.1)

pub runs_still : (names : NamedArcs) (T : TextsAt) (path : List ℕ) (k : ℕ) (parts after : TypeParts) →
    AreFilled names T path k parts after → StandAmong T path k parts → are_runs_apart parts ≡ true →
    are_runs_apart after ≡ true
runs_still names T path k NoParts NoParts h stand apart = refl
runs_still names T path k NoParts (Part n1 s1 o1 d1 r1) h stand apart = absurd h
runs_still names T path k (Part n s o d r) NoParts h stand apart = absurd h
runs_still names T path k (Part n s o d r) (Part n1 s1 o1 d1 r1) h stand apart =
    let both = and_parts (not (may_be_absent o d) || is_apart_from_next (first_tags s) r) (are_runs_apart r) apart in
    and_both (not (may_be_absent o1 d1) || is_apart_from_next (first_tags s1) r1) (are_runs_apart r1)
    (still (may_be_absent o d) (may_be_absent o1 d1) (is_apart_from_next (first_tags s) r)
    (is_apart_from_next (first_tags s1) r1)
    (absent_before names (T (path ++ k ∷ [])) s1 o d h.2 (stand_own T path k n s o d r stand))
    (λ next. next_still names T path (k + 1) (first_tags s1) r r1 h.3 (stand_others T path k n s o d r stand)
    (subst (λ tags. is_apart_from_next tags r ≡ true) (filled_tags names T (path ++ k ∷ []) s s1 h.1) next))
    both.0)
    (runs_still names T path (k + 1) r r1 h.3 (stand_others T path k n s o d r stand) both.1)
