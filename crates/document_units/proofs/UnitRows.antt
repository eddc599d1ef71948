-- A row of units that is read one after the other.
use Rattle.std.proofs.Common.{◌≡◌, ℕ, ◌≤◌, ◌<◌, ◌+◌, Bool, true, false, ◌&&◌, List, [], ◌∷◌, ◌++◌, ◌⊎◌, inl, inr, refl}
use Rattle.std.proofs.Common.{sym, ◌∙◌, ap, arith, codes, length, map, slice_get, subst}
use Rattle.std.proofs.Common.{Result, Ok, Err}
use Rattle.std.proofs.lemmas.List.{append_assoc, append-nil, map-append}
use Rattle.std.specs.Global.{Vec}
use Rattle.std.specs.Result.{IsErrAnd}
use Rattle.token_grammar.specs.declared.syntax_refusal.SyntaxRefusal.{SyntaxRefusal}
use Rattle.token_grammar.specs.declared.syntax_refusal.SyntaxRefusal.TheVariants.{Syntax}
use Rattle.token_grammar.specs.declared.token.Token.{Token}
use Rattle.token_grammar.specs.Beginning as B
use Rattle.token_grammar.specs.Form.{Form, Named, Tree}
use Rattle.token_grammar.specs.Spelling as S
use Rattle.token_grammar.specs.Spelling.{At, Spells, passes}
use Rattle.token_grammar.specs.TokenTests.{is_label, is_name, is_sign_of}
use Rattle.token_grammar.proofs.Heads.{Firsts, Heads, heads_unknown, skips, spells_first, starts, unknown}
use Rattle.token_grammar.proofs.Known.{at_sign, token_of}
use Rattle.token_grammar.proofs.Parts.{at_within}
use Rattle.token_grammar.proofs.Places.{spells_begins}
use Rattle.token_grammar.proofs.Sequences.{passes_false}
use Rattle.asn1_values_syntax.specs.Asn1.{asn1, module_form}
use Rattle.asn1_values_syntax.specs.ValueForms.{modules}
use Rattle.extra_syntax.specs.SectionForms.{instances_form, rules_form, section, sections}
use Rattle.gdmo_classes.specs.ClassForms.{class_level}
use Rattle.gdmo_members.specs.Templates.{member}
use Rattle.gdmo_members.proofs.FirstTokens.{labels, labels_lead}
use Rattle.document_units.specs.declared.unit.DocumentUnit.{DocumentUnit}
use Rattle.document_units.specs.DocumentForms.{AreUnits, BeginsUnits, IsDocumentFault, IsFaultHere, IsStep, ReadsNext}
use Rattle.document_units.specs.DocumentForms.{ReadsUnits, SpellsUnits}
use Rattle.document_units.specs.DocumentForms.BeginsUnits.{front, no_tokens, rest, semicolon as begins_semicolon}
use Rattle.document_units.specs.DocumentForms.IsStep.{added, skipped}
use Rattle.document_units.specs.DocumentForms.SpellsUnits.{at_end, semicolon, unit}
use Rattle.document_units.specs.UnitForms.{BeginsUnit, SpellsUnit, UnitTerm, is_section_word}
use Rattle.document_units.specs.UnitForms.BeginsUnit.{a_class, a_member, a_module, a_section}
use Rattle.document_units.specs.UnitForms.SpellsUnit.{of_class, of_member, of_module, of_section}
use Rattle.document_units.specs.UnitOutcome.{IsUnit, IsUnitFault, unit_term}
use Rattle.document_units.proofs.UnitStops.{class_stops, module_stops, no_label, section_stops, unlabelled}

-- ---- a unit has a token

-- it goes past its first token, which is there
abbrev pub HasToken : List Token → ℕ → ℕ → Type 0
HasToken tokens i k = (i < k) × (i < length tokens)

full : {tokens : List Token} {grammar : ℕ → Form} (named : Firsts) → Heads grammar named → (f : Form) {i k : ℕ}
    {a : Tree} → skips named f ≡ false → Spells tokens grammar f i k a → HasToken tokens i k
full {tokens} named heads f {i} {k} some s = go (spells_first named heads s)
  where
    go : ((k ≡ i) × (skips named f ≡ true)) ⊎ ((i < k) × At tokens i (starts named f)) → HasToken tokens i k
    go (inl p) = absurd (let e = p.1 in cc (some, e))
    go (inr p) = (p.0, at_within tokens i (starts named f) p.1.passed)

section_full : {tokens : List Token} {i k : ℕ} {a : Tree} → Spells tokens sections section i k a → HasToken tokens i k
section_full (S.first (S.named s)) = full unknown heads_unknown rules_form refl s
section_full (S.second (S.named s)) = full unknown heads_unknown instances_form refl s

module_full : {tokens : List Token} {i k : ℕ} {a : Tree} → Spells tokens asn1 (Named modules) i k a →
    HasToken tokens i k
module_full (S.named s) = full unknown heads_unknown module_form refl s

pub unit_full : {tokens : List Token} {i k : ℕ} {u : UnitTerm} → SpellsUnit tokens i k u → HasToken tokens i k
unit_full (of_class s) = full labels labels_lead class_level refl s
unit_full (of_member s) = full labels labels_lead member refl s
unit_full (of_module e s) = module_full s
unit_full (of_section s) = section_full s

-- what is spelt is begun
pub unit_begins : {tokens : List Token} {i k : ℕ} {u : UnitTerm} → SpellsUnit tokens i k u → BeginsUnit tokens i k
unit_begins (of_class s) = a_class (spells_begins s)
unit_begins (of_member s) = a_member (spells_begins s)
unit_begins (of_module e s) = a_module e (spells_begins s)
unit_begins (of_section s) = a_section (spells_begins s)

-- an empty semicolon
abbrev pub Semicolon : List Token → ℕ → Type 0
Semicolon tokens i = At tokens i (is_sign_of (codes ";"))

-- what a test says that is false of each semicolon
semicolon_not : {tokens : List Token} {i : ℕ} → Semicolon tokens i → (test : Token → Bool) →
    ((at : ℕ) → test (token_of 5 at (codes ";")) ≡ false) → passes test (slice_get tokens i) ≡ false
semicolon_not {tokens} {i} here test computes = passes_false (is_sign_of (codes ";")) test (slice_get tokens i)
    (at_sign (codes ";") false test computes) here.passed

and_not : {a : Bool} (b : Bool) → a ≡ false → (a && b) ≡ false
and_not b e = rw e refl

-- no unit goes past one
no_unit_behind : {tokens : List Token} {i k : ℕ} → Semicolon tokens i → BeginsUnit tokens i k → k ≤ i
no_unit_behind {tokens} {i} here (a_class b) = (class_stops (no_label tokens i _ (semicolon_not here is_label (λ at. refl)))
    (omega arith) (λ h. absurd (let e = semicolon_not here is_label (λ at. refl) in cc (e, h)))).furthest _ b
no_unit_behind {tokens} {i} here (a_member b) =
    (unlabelled (semicolon_not here is_label (λ at. refl)) (omega arith)).1.furthest _ b
no_unit_behind {tokens} {i} here (a_module e b) =
    (module_stops (and_not _ (semicolon_not here is_name (λ at. refl))) (omega arith)
    (λ h. absurd (let e = semicolon_not here is_name (λ at. refl) in cc (e, h)))).furthest _ b
no_unit_behind {tokens} {i} here (a_section b) =
    (section_stops (semicolon_not here is_section_word (λ at. refl)) (omega arith)).furthest _ b

-- ---- what was read so far, and what is left

pub record Reached (tokens : List Token) (us : List UnitTerm) (i : ℕ) : Type 0 where
  pub spelt : (vs : List UnitTerm) → SpellsUnits tokens i vs → SpellsUnits tokens 0 (us ++ vs)
  pub back : (ws : List UnitTerm) → SpellsUnits tokens 0 ws →
      (vs : List UnitTerm) × (ws ≡ us ++ vs) × SpellsUnits tokens i vs
  pub begun : (k : ℕ) → BeginsUnits tokens i k → BeginsUnits tokens 0 k
  pub furthest : (k : ℕ) → BeginsUnits tokens 0 k → (k ≤ i) ⊎ BeginsUnits tokens i k

pub reached_start : (tokens : List Token) → Reached tokens [] 0
reached_start tokens = record {
  spelt = λ vs s. s;
  back = λ ws s. (ws, refl, s);
  begun = λ k b. b;
  furthest = λ k b. inr b;
}

-- no unit begins with a semicolon
no_unit_spelt : {A : Type 0} {tokens : List Token} {i j : ℕ} {u : UnitTerm} → Semicolon tokens i →
    SpellsUnit tokens i j u → A
no_unit_spelt here s = absurd (let longer = (unit_full s).0 in let short = no_unit_behind here (unit_begins s) in
    omega (arith, longer, short))

-- the step past a unit
past_unit : {tokens : List Token} {us : List UnitTerm} {i k : ℕ} {u : UnitTerm} → i < length tokens →
    ¬ Semicolon tokens i → IsUnit tokens i u k → Reached tokens us i → Reached tokens (us ++ u ∷ []) k
past_unit {tokens} {us} {i} {k} {u} within other one so_far = record {
  spelt = λ vs s. subst (λ ws. SpellsUnits tokens 0 ws) (sym (append_assoc us (u ∷ []) vs)) (so_far.spelt (u ∷ vs) (unit one.spelt s));
  back = λ ws s. behind (so_far.back ws s);
  begun = λ m b. so_far.begun m (rest one.spelt b);
  furthest = λ m b. further (so_far.furthest m b);
}
  where
    here : (ws vs : List UnitTerm) → ws ≡ us ++ vs → SpellsUnits tokens i vs →
        (rs : List UnitTerm) × (ws ≡ (us ++ u ∷ []) ++ rs) × SpellsUnits tokens k rs
    here ws vs e (at_end past) = absurd (omega (arith, past, within))
    here ws vs e (semicolon p s) = absurd (other p)
    here ws vs e (unit {us = rs} x s) = let same = one.only _ _ x in (
      rs,
      e ∙ (ap (λ (v : UnitTerm). us ++ v ∷ rs) same.1 ∙ sym (append_assoc us (u ∷ []) rs)),
      subst (λ (m : ℕ). SpellsUnits tokens m rs) same.0 s,
    )

    behind : {ws : List UnitTerm} → (vs : List UnitTerm) × (ws ≡ us ++ vs) × SpellsUnits tokens i vs →
        (rs : List UnitTerm) × (ws ≡ (us ++ u ∷ []) ++ rs) × SpellsUnits tokens k rs
    behind {ws} x = here ws x.0 x.1 x.2

    order : i ≤ k
    order = let longer = (unit_full one.spelt).0 in omega (arith, longer)

    on : {m : ℕ} → BeginsUnits tokens i m → (m ≤ k) ⊎ BeginsUnits tokens k m
    on no_tokens = inl order
    on (begins_semicolon p b) = absurd (other p)
    on (front b) = inl (one.furthest _ b)
    on {m} (rest x b) = inr (subst (λ (n : ℕ). BeginsUnits tokens n m) (one.only _ _ x).0 b)

    further : {m : ℕ} → (m ≤ i) ⊎ BeginsUnits tokens i m → (m ≤ k) ⊎ BeginsUnits tokens k m
    further {m} (inl p) = inl (let o = order in omega (arith, p, o))
    further (inr b) = on b

-- the step past an empty semicolon
past_semicolon : {tokens : List Token} {us : List UnitTerm} {i : ℕ} → i < length tokens → Semicolon tokens i →
    Reached tokens us i → Reached tokens us (i + 1)
past_semicolon {tokens} {us} {i} within here so_far = record {
  spelt = λ vs s. so_far.spelt vs (semicolon here s);
  back = λ ws s. behind (so_far.back ws s);
  begun = λ m b. so_far.begun m (begins_semicolon here b);
  furthest = λ m b. further (so_far.furthest m b);
}
  where
    on_spelt : {vs : List UnitTerm} → SpellsUnits tokens i vs → SpellsUnits tokens (i + 1) vs
    on_spelt (at_end past) = absurd (omega (arith, past, within))
    on_spelt (semicolon p s) = s
    on_spelt (unit x s) = no_unit_spelt here x

    behind : {ws : List UnitTerm} → (vs : List UnitTerm) × (ws ≡ us ++ vs) × SpellsUnits tokens i vs →
        (vs : List UnitTerm) × (ws ≡ us ++ vs) × SpellsUnits tokens (i + 1) vs
    behind x = (x.0, x.1, on_spelt x.2)

    on : {m : ℕ} → BeginsUnits tokens i m → (m ≤ i + 1) ⊎ BeginsUnits tokens (i + 1) m
    on no_tokens = inl (omega arith)
    on (begins_semicolon p b) = inr b
    on {m} (front b) = inl (let short = no_unit_behind here b in omega (arith, short))
    on (rest x b) = no_unit_spelt here x

    further : {m : ℕ} → (m ≤ i) ⊎ BeginsUnits tokens i m → (m ≤ i + 1) ⊎ BeginsUnits tokens (i + 1) m
    further {m} (inl p) = inl (omega (arith, p))
    further (inr b) = on b

-- one step of the reader
pub step_on : {tokens : List Token} {before after : List DocumentUnit} {i k : ℕ} → i < length tokens →
    IsStep tokens i before after k → Reached tokens (map unit_term before) i → Reached tokens (map unit_term after) k
step_on {tokens} {before} {after} {i} {k} within (skipped here next same) so_far =
    subst (λ (xs : List DocumentUnit). Reached tokens (map unit_term xs) k) (sym same)
    (subst (λ (n : ℕ). Reached tokens (map unit_term before) n) (sym next) (past_semicolon within here so_far))
step_on {tokens} {before} {after} {i} {k} within (added x other one same) so_far =
    subst (λ (us : List UnitTerm). Reached tokens us k)
    (sym (ap (λ (xs : List DocumentUnit). map unit_term xs) same ∙ map-append unit_term before (x ∷ [])))
    (past_unit within other one so_far)

pub step_rises : {tokens : List Token} {before after : List DocumentUnit} {i k : ℕ} →
    IsStep tokens i before after k → i < k
step_rises (skipped here next same) = omega (arith, next)
step_rises (added x other one same) = (unit_full one.spelt).0

-- the end of the tokens, and a fault
pub all_read : {tokens : List Token} {us : List UnitTerm} {i : ℕ} → length tokens ≤ i → Reached tokens us i →
    AreUnits tokens us
all_read {tokens} {us} {i} past so_far = record {
  spelt = subst (λ ws. SpellsUnits tokens 0 ws) (append-nil us) (so_far.spelt [] (at_end past));
  only = λ vs s. last (so_far.back vs s);
}
  where
    nothing : {vs : List UnitTerm} → SpellsUnits tokens i vs → vs ≡ []
    nothing (at_end e) = refl
    nothing (semicolon p s) = absurd (let within = at_within tokens i (is_sign_of (codes ";")) p.passed in
        omega (arith, past, within))
    nothing (unit x s) = absurd (let within = (unit_full x).1 in omega (arith, past, within))

    last : {vs : List UnitTerm} → (rs : List UnitTerm) × (vs ≡ us ++ rs) × SpellsUnits tokens i rs → vs ≡ us
    last x = x.1 ∙ (ap (λ (rs : List UnitTerm). us ++ rs) (nothing x.2) ∙ append-nil us)

pub fault_read : {tokens : List Token} {us : List UnitTerm} {i k : ℕ} → i < length tokens →
    IsFaultHere tokens i k → Reached tokens us i → IsDocumentFault tokens k
fault_read {tokens} {us} {i} {k} within one so_far = record {
  begun = so_far.begun k (front one.fault.begun);
  unspelt = λ vs s. none_behind (so_far.back vs s);
  furthest = λ m b. further (so_far.furthest m b);
}
  where
    none_here : {vs : List UnitTerm} → SpellsUnits tokens i vs → ⊥
    none_here (at_end past) = absurd (omega (arith, past, within))
    none_here (semicolon p s) = one.other p
    none_here (unit x s) = one.fault.unspelt _ _ x

    none_behind : {vs : List UnitTerm} → (rs : List UnitTerm) × (vs ≡ us ++ rs) × SpellsUnits tokens i rs → ⊥
    none_behind x = none_here x.2

    order : i ≤ k
    order = one.fault.furthest i (a_class B.no_tokens)

    on : {m : ℕ} → BeginsUnits tokens i m → m ≤ k
    on no_tokens = order
    on (begins_semicolon p b) = absurd (one.other p)
    on (front b) = one.fault.furthest _ b
    on (rest x b) = absurd (one.fault.unspelt _ _ x)

    further : {m : ℕ} → (m ≤ i) ⊎ BeginsUnits tokens i m → m ≤ k
    further {m} (inl p) = let o = order in omega (arith, p, o)
    further (inr b) = on b

-- the exit of a `?`
pub not_semicolon : {tokens : List Token} {i : ℕ} →
    passes (is_sign_of (codes ";")) (slice_get tokens i) ≡ false → ¬ Semicolon tokens i
not_semicolon e here = absurd (let h = here.passed in cc (e, h))

pub exit_next : {tokens : List Token} {i : ℕ} (before after : Vec DocumentUnit) {e : SyntaxRefusal}
    (r : Result ℕ SyntaxRefusal) → IsErrAnd r (λ d. d ≡ e) → ¬ Semicolon tokens i →
    ((k : ℕ) → e ≡ Syntax k → IsUnitFault tokens i k) → ReadsNext tokens i before after r
exit_next before after (Ok k) is other fails = absurd is
exit_next before after (Err d) is other fails = λ k same. record { other = other; fault = fails k (sym is ∙ same) }

pub exit_units : {tokens : List Token} {us : List UnitTerm} {i : ℕ} {e : SyntaxRefusal}
    (r : Result (Vec DocumentUnit) SyntaxRefusal) → IsErrAnd r (λ d. d ≡ e) → i < length tokens →
    ((k : ℕ) → e ≡ Syntax k → IsFaultHere tokens i k) → Reached tokens us i → ReadsUnits tokens r
exit_units (Ok xs) is within fails so_far = absurd is
exit_units (Err d) is within fails so_far = λ k same. fault_read within (fails k (sym is ∙ same)) so_far
