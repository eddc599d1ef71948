-- FilledClear: the tags of a syntax with the values of its DEFAULTs are as clear as those of the one without (X.680,
-- sections 25, 27.3 and 29.3; docs/PROFILE.md, section 11).
use Rattle.std.proofs.Common.{◌≡◌, ◌∙◌, ◌+◌, ◌||◌, ℕ, List, [], ◌∷◌, ◌++◌, true, refl, sym, ap, subst}
use Rattle.std.proofs.lemmas.Bool.{and_parts}
use Rattle.term_values.specs.Soundness.{are_all_apart, are_runs_apart, has_clear_tags, has_own_tag, have_clear_tags}
use Rattle.term_values.specs.Syntaxes.{TypeSyntax, TypeParts}
use Rattle.term_values.specs.Syntaxes.TypeSyntax.{Boolean, Integer, Enumerated, BitString, OctetString, NullType}
use Rattle.term_values.specs.Syntaxes.TypeSyntax.{ObjectIdentifier, TextString, GeneralizedTime, Sequence, SetType}
use Rattle.term_values.specs.Syntaxes.TypeSyntax.{SequenceOf, SetOf, Choice, Tagged, Any, Filter}
use Rattle.term_values.specs.Syntaxes.TypeParts.{NoParts, Part}
use Rattle.asn1_names.specs.ModuleTerms.{ModuleTerm}
use Rattle.asn1_names.specs.NameMeaning.{Meaning}
use Rattle.asn1_leaf_values.specs.Arcs.{NamedArcs}
use Rattle.filled_syntaxes.specs.FilledSyntaxes.{AreFilled, HasFilled, IsFilled, TextsAt, texts_beside}
use Rattle.filled_syntaxes.proofs.FilledLaws.{text_misses}
use Rattle.sound_laws.proofs.TagLists.{and_both}
use Rattle.sound_laws.proofs.FilledTags.{filled_own}
use Rattle.sound_laws.proofs.StandingTexts.{StandAmong, StandAt, stand_in, stand_inner, stand_others, stand_within}
use Rattle.sound_laws.proofs.FilledApart.{all_apart_same, runs_still}

mutual
  clear_still : (names : NamedArcs) (T : TextsAt) (path : List ℕ) (syntax after : TypeSyntax) →
      IsFilled names T path syntax after → StandAt T path syntax → has_clear_tags syntax ≡ true →
      has_clear_tags after ≡ true
  clear_still names T path (Sequence parts) after h stand clear =
      let both = and_parts (are_runs_apart parts) (have_clear_tags parts) clear in
      let among = stand_in T path parts (Sequence parts) (λ j rest. refl) stand in
      subst (λ s. has_clear_tags s ≡ true) (sym h.1)
      (and_both (are_runs_apart h.0) (have_clear_tags h.0)
      (runs_still names T path 0 parts h.0 h.2 among both.0)
      (parts_still names T path 0 parts h.0 h.2 among both.1))
  clear_still names T path (SetType parts) after h stand clear =
      let both = and_parts (are_all_apart parts) (have_clear_tags parts) clear in
      let among = stand_in T path parts (SetType parts) (λ j rest. refl) stand in
      subst (λ s. has_clear_tags s ≡ true) (sym h.1)
      (and_both (are_all_apart h.0) (have_clear_tags h.0)
      (sym (all_apart_same names T path 0 parts h.0 h.2) ∙ both.0)
      (parts_still names T path 0 parts h.0 h.2 among both.1))
  clear_still names T path (Choice parts) after h stand clear =
      let both = and_parts (are_all_apart parts) (have_clear_tags parts) clear in
      let among = stand_in T path parts (Choice parts) (λ j rest. refl) stand in
      subst (λ s. has_clear_tags s ≡ true) (sym h.1)
      (and_both (are_all_apart h.0) (have_clear_tags h.0)
      (sym (all_apart_same names T path 0 parts h.0 h.2) ∙ both.0)
      (parts_still names T path 0 parts h.0 h.2 among both.1))
  clear_still names T path (SequenceOf one_of sizes) after h stand clear =
      subst (λ s. has_clear_tags s ≡ true) (sym h.1)
      (clear_still names T path one_of h.0 h.2
      (stand_within T path (SequenceOf one_of sizes) one_of (λ j rest. refl) stand) clear)
  clear_still names T path (SetOf one_of sizes) after h stand clear =
      subst (λ s. has_clear_tags s ≡ true) (sym h.1)
      (clear_still names T path one_of h.0 h.2
      (stand_within T path (SetOf one_of sizes) one_of (λ j rest. refl) stand) clear)
  clear_still names T path (Tagged tag explicit of) after h stand clear =
      let both = and_parts (explicit || has_own_tag of) (has_clear_tags of) clear in
      subst (λ s. has_clear_tags s ≡ true) (sym h.1)
      (and_both (explicit || has_own_tag h.0) (has_clear_tags h.0)
      (subst (λ own. (explicit || own) ≡ true) (filled_own names T path of h.0 h.2) both.0)
      (clear_still names T path of h.0 h.2
      (stand_within T path (Tagged tag explicit of) of (λ j rest. refl) stand) both.1))
  clear_still names T path Boolean after h stand clear = ap has_clear_tags h
  clear_still names T path (Integer n r) after h stand clear = ap has_clear_tags h
  clear_still names T path (Enumerated n) after h stand clear = ap has_clear_tags h
  clear_still names T path (BitString n r) after h stand clear = ap has_clear_tags h
  clear_still names T path (OctetString r) after h stand clear = ap has_clear_tags h
  clear_still names T path NullType after h stand clear = ap has_clear_tags h
  clear_still names T path ObjectIdentifier after h stand clear = ap has_clear_tags h
  clear_still names T path (TextString c r) after h stand clear = ap has_clear_tags h
  clear_still names T path GeneralizedTime after h stand clear = ap has_clear_tags h
  clear_still names T path Any after h stand clear = ap has_clear_tags h
  clear_still names T path Filter after h stand clear = ap has_clear_tags h

  parts_still : (names : NamedArcs) (T : TextsAt) (path : List ℕ) (k : ℕ) (parts after : TypeParts) →
      AreFilled names T path k parts after → StandAmong T path k parts → have_clear_tags parts ≡ true →
      have_clear_tags after ≡ true
  parts_still names T path k NoParts NoParts h stand clear = refl
  parts_still names T path k NoParts (Part n1 s1 o1 d1 r1) h stand clear = absurd h
  parts_still names T path k (Part n s o d r) NoParts h stand clear = absurd h
  parts_still names T path k (Part n s o d r) (Part n1 s1 o1 d1 r1) h stand clear =
      let both = and_parts (has_clear_tags s) (have_clear_tags r) clear in
      and_both (has_clear_tags s1) (have_clear_tags r1)
      (clear_still names T (path ++ k ∷ []) s s1 h.1 (stand_inner T path k n s o d r stand) both.0)
      (parts_still names T path (k + 1) r r1 h.3 (stand_others T path k n s o d r stand) both.1)

-- where the syntax of a meaning has clear tags, so has the filled one
pub filled_clear : (ms : List ModuleTerm) (names : NamedArcs) (meant : Meaning) (syntax : TypeSyntax) →
    (filled : HasFilled ms names meant syntax) → has_clear_tags filled.plain ≡ true → has_clear_tags syntax ≡ true
filled_clear ms names meant syntax filled clear =
    clear_still names (texts_beside ms meant) [] filled.plain syntax filled.filled
    (λ rest text there. text_misses ms meant filled.plain filled.has rest there.0 text there.1) clear
